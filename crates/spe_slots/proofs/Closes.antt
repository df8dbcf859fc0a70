-- The store's seat that takes a session in, and the maker's part.
use Rattle.std.proofs.Common.{◌≡◌, ℕ, zero, suc, ◌+◌, ◌≤◌, List, [], ◌∷◌, ◌++◌, length, refl, sym, ap, ◌∙◌, subst, arith, length-append}
use Rattle.std.specs.Prelude.{All}
use Rattle.std.specs.List.{sum_by}
use mathlib.Core.List.{append_assoc}
use mathlib.Core.Option.{some, none, some-injective, some-ne-none}
use lib.ListN.{get_elem?}
use Rattle.std.proofs.lemmas.List.{append-nil, map-append}
use Rattle.atomic_table.specs.Table.{Me, step, Allows}
use Rattle.spe_slotrule.specs.declared.parts.MakerPart.{MakerPart}
use Rattle.spe_slotrule.specs.declared.parts.SessionPart.{SessionPart}
use Rattle.spe_slotrule.specs.declared.parts.StorePart.{StorePart}
use Rattle.spe_slotrule.specs.declared.parts.View.{View}
use Rattle.spe_slotrule.specs.Views.{store_part, maker_part, store_view}
use Rattle.spe_slotrule.specs.Known.{session_failed}
use Rattle.spe_slotrule.specs.Rule.{KeepsRule}
use Rattle.spe_slotrule.specs.Shares.{together, MayJoin}
use Rattle.spe_slotrule.specs.Tells.{store_session, store_maker, told, taking_in, IsClosed}
use Rattle.spe_slotrule.proofs.Closing.{takes_in, sees_all, is_closed}
use Rattle.spe_slots.specs.Seats.{SeatedSession, IsStoreSeat, IsMaker}
use Rattle.spe_slots.specs.Closed.{parts_of, having_taken}

module _ {E : Type 0} where
  pub takes_in_at : (n slots id : ℕ) (me : Me (Unit {0}) (View E)) (after : View E) (s : StorePart E) (p : SessionPart E) → me ≡ (store_session s p, []) → after ≡ store_view (taking_in p s)
      → Allows (KeepsRule n) slots id me 0 (λ w. w) (told after (step slots 0 0 0 none) me)
  takes_in_at n slots id me after s p is made = subst (λ (x : Me (Unit {0}) (View E) × View E). Allows (KeepsRule n) slots id x.0 0 (λ w. w) (told x.1 (step slots 0 0 0 none) x.0)) (λ i. (sym is i, sym made i)) (takes_in n slots id s p)

  pub maker_may_join : (a b : Me (Unit {0}) (View E)) → IsStoreSeat a → IsMaker b → MayJoin a.0 b.0
  maker_may_join a b h k = subst (λ (x : Me (Unit {0}) (View E) × Me (Unit {0}) (View E)). MayJoin x.0.0 x.1.0) (λ i. (sym h i, sym k i)) record { id = tt; store = tt; session = tt; maker = tt }

  pub maker_joined : (a b c : Me (Unit {0}) (View E)) → IsStoreSeat a → IsMaker b → c ≡ (together a.0 b.0, a.1) → c ≡ (store_maker (store_part a.0) (maker_part b.0), [])
  maker_joined a b c h k e = e ∙ (λ i. (together (h i).0 (k i).0, (h i).1))

  pub sees_all_at : (n slots id : ℕ) (me : Me (Unit {0}) (View E)) (after : View E) (s : StorePart E) (m : MakerPart) → me ≡ (store_maker s m, []) → after ≡ store_maker s m → Allows (KeepsRule n) slots id me 0 (λ w. w) (told after (step slots 0 0 0 none) me)
  sees_all_at n slots id me after s m is made = subst (λ (x : Me (Unit {0}) (View E) × View E). Allows (KeepsRule n) slots id x.0 0 (λ w. w) (told x.1 (step slots 0 0 0 none) x.0)) (λ i. (sym is i, sym made i)) (sees_all n slots id s m)

  pub all_closed_at : (slots found : ℕ) (me me' : Me (Unit {0}) (View E)) (after : View E) (s : StorePart E) (m : MakerPart) → me ≡ (store_maker s m, []) → told after (step slots 0 0 0 none) me found me' → length s.closed ≡ m.sessions → IsClosed s
  all_closed_at slots found me me' after s m is h many = is_closed s m (subst (λ (x : Me (Unit {0}) (View E)). told after (step slots 0 0 0 none) x found me') is h).1.0 many

  -- the last session that is left goes to those that were taken
  pub popped : (xs ys : List (SeatedSession E)) (x : SeatedSession E) (s t : StorePart E) → xs ≡ ys ++ x ∷ [] → t ≡ taking_in x.part s → having_taken (parts_of ys) t ≡ having_taken (parts_of xs) s
  popped xs ys x s t is made =
      let parts : parts_of xs ≡ parts_of ys ++ x.part ∷ [] = ap parts_of is ∙ map-append (λ (y : SeatedSession E). y.part) ys (x ∷ []) in
      ap (having_taken (parts_of ys)) made ∙ ap (λ (l : List (SessionPart E)). record s { closed = l }) (sym (append_assoc (parts_of ys) (x.part ∷ []) s.closed) ∙ ap (λ (l : List (SessionPart E)). l ++ s.closed) (sym parts))

  -- where none is left, all were taken
  pub all_popped : (xs : List (SeatedSession E)) (s t : StorePart E) → length xs ≡ 0 → having_taken (parts_of xs) s ≡ t → s ≡ t
  all_popped [] s t none_left e = e
  all_popped (x ∷ xs) s t some_left e = absurd (omega (arith, some_left))

  pub popped_count : (xs ys : List (SeatedSession E)) (x : SeatedSession E) (s t : StorePart E) (n : ℕ) → xs ≡ ys ++ x ∷ [] → t ≡ taking_in x.part s → length xs + length s.closed ≡ n → length ys + length t.closed ≡ n
  popped_count xs ys x s t n is made e =
      let a = ap length is in
      let b = ap (λ (z : StorePart E). length z.closed) made in omega (arith, e, a, b, length-append ys (x ∷ []))

  -- what holds of each that was taken holds of each that was handed in
  pub each_taken : (P : SessionPart E → Type 0) (xs : List (SeatedSession E)) (closed : List (SessionPart E)) → ((i : ℕ) (p : SessionPart E) → get_elem? (parts_of xs ++ closed) i ≡ some p → P p) → All (λ (s : SeatedSession E). P s.part) xs
  each_taken P [] closed h k d below = absurd (omega (arith, below))
  each_taken P (x ∷ xs) closed h zero d below = h zero x.part refl
  each_taken P (x ∷ xs) closed h (suc k) d below = each_taken P xs closed (λ i p e. h (suc i) p e) k d (omega (arith, below))

  each_part : (P : SessionPart E → Type 0) (xs : List (SeatedSession E)) → All (λ (s : SeatedSession E). P s.part) xs → (i : ℕ) (p : SessionPart E) → get_elem? (parts_of xs) i ≡ some p → P p
  each_part P [] h i p e = absurd (some-ne-none p (sym e))
  each_part P (x ∷ xs) h zero p e = subst P (some-injective x.part p e) (h zero x (omega arith))
  each_part P (x ∷ xs) h (suc i) p e = each_part P xs (λ k d below. h (suc k) d (omega (arith, below))) i p e

  -- and the other way, where the store had taken none before
  pub none_taken : (P : SessionPart E → Type 0) (xs : List (SeatedSession E)) (closed : List (SessionPart E)) → closed ≡ [] → All (λ (s : SeatedSession E). P s.part) xs → (i : ℕ) (p : SessionPart E) → get_elem? (parts_of xs ++ closed) i ≡ some p → P p
  none_taken P xs closed first h i p e = each_part P xs h i p (ap (λ (l : List (SessionPart E)). get_elem? l i) (sym (ap (λ (l : List (SessionPart E)). parts_of xs ++ l) first ∙ append-nil (parts_of xs))) ∙ e)

  pub sum_taken : (xs : List (SeatedSession E)) (closed : List (SessionPart E)) (faults : ℕ) → closed ≡ [] → sum_by session_failed (parts_of xs ++ closed) ≤ faults → sum_by session_failed (parts_of xs) ≤ faults
  sum_taken xs closed faults first h = subst (λ (l : List (SessionPart E)). sum_by session_failed l ≤ faults) (ap (λ (l : List (SessionPart E)). parts_of xs ++ l) first ∙ append-nil (parts_of xs)) h
