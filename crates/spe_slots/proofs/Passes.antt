-- A seat with the store's part and an id's, and one with an id's and a session's.
use Rattle.std.proofs.Common.{◌≡◌, ℕ, ◌<◌, [], length, slice_index_or, sym, ◌∙◌, subst}
use mathlib.Core.Option.{none}
use Rattle.atomic_table.specs.Table.{Me, step, Allows}
use Rattle.spe_slotrule.specs.declared.parts.IdPart.{IdPart}
use Rattle.spe_slotrule.specs.declared.parts.SessionPart.{SessionPart}
use Rattle.spe_slotrule.specs.declared.parts.StorePart.{StorePart}
use Rattle.spe_slotrule.specs.declared.parts.View.{View}
use Rattle.spe_slotrule.specs.Views.{store_part, id_part, session_part, no_record, new_id}
use Rattle.spe_slotrule.specs.Known.{IdFits}
use Rattle.spe_slotrule.specs.Rule.{KeepsRule}
use Rattle.spe_slotrule.specs.Laid.{Sits}
use Rattle.spe_slotrule.specs.May.{IdTold, IsStill}
use Rattle.spe_slotrule.specs.Shares.{together, MayJoin}
use Rattle.spe_slotrule.specs.Tells.{store_id, id_session, told, without_looks, with_looks_of}
use Rattle.spe_slotrule.proofs.Lists.{at_or}
use Rattle.spe_slotrule.proofs.Telling.{tells_id, tells_looks}
use Rattle.spe_slots.specs.Seats.{IsStoreSeat, IsSession, IsIdSeat}

module _ {E : Type 0} where
  pub pass_may_join : (a b : Me (Unit {0}) (View E)) (id : ℕ) → IsStoreSeat a → IsIdSeat b id → MayJoin a.0 b.0
  pass_may_join a b id h k = subst (λ (x : Me (Unit {0}) (View E) × Me (Unit {0}) (View E)). MayJoin x.0.0 x.1.0) (λ i. (sym h i, sym k.0 i)) record { id = tt; store = tt; session = tt; maker = tt }

  pub pass_joined : (a b c : Me (Unit {0}) (View E)) (id : ℕ) → IsStoreSeat a → IsIdSeat b id → c ≡ (together a.0 b.0, a.1) → c ≡ (store_id (store_part a.0) (id_part b.0), [])
  pass_joined a b c id h k e = e ∙ (λ i. (together (h i).0 (k.0 i).0, (h i).1))

  pub tells_id_at : (n slots id : ℕ) (me : Me (Unit {0}) (View E)) (after : View E) (s : StorePart E) (p : IdPart) → me ≡ (store_id s p, []) → after ≡ store_id (store_part after) (id_part after)
      → IdTold s (store_part after) p (id_part after) → IsStill s (store_part after) → Allows (KeepsRule n) slots id me 0 (λ w. w) (told after (step slots 0 0 0 none) me)
  tells_id_at n slots id me after s p is made h still = subst (λ (x : Me (Unit {0}) (View E) × View E). Allows (KeepsRule n) slots id x.0 0 (λ w. w) (told x.1 (step slots 0 0 0 none) x.0)) (λ i. (sym is i, sym made i))
      (tells_id n slots id s (store_part after) p (id_part after) h still)

  -- what such a step tells
  sits_id : (s : StorePart E) (p : IdPart) → p.id < 16 → Sits (store_id s p) → IdFits s p.id p × (length s.records ≡ 16)
  sits_id s p small t = (subst (IdFits s p.id) (at_or t.parts.ids p.id p (new_id p.id) t.is_of.id) (t.right.ids p.id small), t.right.sixteen)

  pub told_id_at : (slots found : ℕ) (me me' : Me (Unit {0}) (View E)) (after : View E) (s : StorePart E) (p : IdPart) → me ≡ (store_id s p, []) → told after (step slots 0 0 0 none) me found me' → p.id < 16 → IdFits s p.id p × (length s.records ≡ 16)
  told_id_at slots found me me' after s p is h small = sits_id s p small (subst (λ (m : Me (Unit {0}) (View E)). told after (step slots 0 0 0 none) m found me') is h).1.0

  -- the record of the id is the store's afterwards too
  pub recorded : (s t : StorePart E) (p q : IdPart) → IdTold s t p q → IdFits s p.id p × (length s.records ≡ 16) → slice_index_or t.records q.id no_record ≡ q.pages
  recorded s t p q h fits = subst (λ (i : ℕ). slice_index_or t.records i no_record ≡ q.pages) (sym h.id) (h.own fits.1 fits.0).pages

  pub looks_may_join : (a b : Me (Unit {0}) (View E)) (id : ℕ) → IsSession a → IsIdSeat b id → MayJoin a.0 b.0
  looks_may_join a b id h k = subst (λ (x : Me (Unit {0}) (View E) × Me (Unit {0}) (View E)). MayJoin x.0.0 x.1.0) (λ i. (sym h i, sym k.0 i)) record { id = tt; store = tt; session = tt; maker = tt }

  pub looks_joined : (a b c : Me (Unit {0}) (View E)) (id : ℕ) → IsSession a → IsIdSeat b id → c ≡ (together a.0 b.0, a.1) → c ≡ (id_session (id_part b.0) (session_part a.0), [])
  looks_joined a b c id h k e = e ∙ (λ i. (together (h i).0 (k.0 i).0, (h i).1))

  pub tells_looks_at : (n slots id : ℕ) (me : Me (Unit {0}) (View E)) (after : View E) (a : IdPart) (p : SessionPart E) → me ≡ (id_session a p, []) → after ≡ id_session (without_looks a) (with_looks_of a p)
      → Allows (KeepsRule n) slots id me 0 (λ w. w) (told after (step slots 0 0 0 none) me)
  tells_looks_at n slots id me after a p is made = subst (λ (x : Me (Unit {0}) (View E) × View E). Allows (KeepsRule n) slots id x.0 0 (λ w. w) (told x.1 (step slots 0 0 0 none) x.0)) (λ i. (sym is i, sym made i)) (tells_looks n slots id a p)
