-- The seat of an id at its table.
use Rattle.std.proofs.Common.{◌≡◌, ℕ, ◌+◌, ◌<◌, false, ◌||◌, [], sym, ap, ◌∙◌, subst, arith}
use Rattle.atomic_table.specs.Table.{Me}
use Rattle.spe_slotrule.specs.declared.rule.TheConstants.{FIRST_LOCK}
use Rattle.spe_slotrule.specs.declared.parts.IdPart.{IdPart}
use Rattle.spe_slotrule.specs.declared.parts.View.{View}
use Rattle.spe_slotrule.specs.Views.{id_part, id_view, with_id}
use Rattle.spe_slotrule.specs.Rule.{is_listed}
use Rattle.spe_slotrule.specs.Locks.{without, releasing}
use Rattle.spe_slotrule.proofs.Listing.{left_here}
use Rattle.spe_slots.specs.Seats.{LockTable, SeatedId, SeatedStore, SeatedSession, SeatedMaker, IsIdSeat}
use Rattle.spe_slots.specs.Tries.{has_lock}

module _ {E : Type 0} where
  pub small : (me : Me (Unit {0}) (View E)) (id : ℕ) → IsIdSeat me id → (id_part me.0).id < 16
  small me id h = subst (λ (i : ℕ). i < 16) (sym h.1) h.2

  -- it stays the seat of that id where its part changes
  pub stays : (me me' : Me (Unit {0}) (View E)) (id : ℕ) (q : IdPart) → IsIdSeat me id → me' ≡ (with_id me.0 q, me.1) → q.id ≡ (id_part me.0).id → IsIdSeat me' id
  stays me me' id q h e same = let p : id_part me'.0 ≡ q = ap (λ (m : Me (Unit {0}) (View E)). id_part m.0) e in
      (e ∙ (ap (λ (m : Me (Unit {0}) (View E)). (with_id m.0 q, m.1)) h.0 ∙ ap (λ (x : IdPart). (id_view x, [])) (sym p)), ap (λ (x : IdPart). x.id) p ∙ (same ∙ h.1), h.2)

-- what the fields of a seat and of its table have, from what contracts see
pub same_table : (s s' : SeatedId) (t t' : LockTable) → s' ≡ s → t' ≡ t → s.table ≡ t.table → s'.table ≡ t'.table
same_table s s' t t' es et e = ap (λ (v : SeatedId). v.table) es ∙ (e ∙ sym (ap (λ (v : LockTable). v.table) et))

pub store_table : {E : Type 0} (s s' : SeatedStore E) (t t' : LockTable) → s' ≡ s → t' ≡ t → s.table ≡ t.table → s'.table ≡ t'.table
store_table s s' t t' es et e = ap (λ (v : SeatedStore _). v.table) es ∙ (e ∙ sym (ap (λ (v : LockTable). v.table) et))

pub session_table : {E : Type 0} (s s' : SeatedSession E) (t t' : LockTable) → s' ≡ s → t' ≡ t → s.table ≡ t.table → s'.table ≡ t'.table
session_table s s' t t' es et e = ap (λ (v : SeatedSession _). v.table) es ∙ (e ∙ sym (ap (λ (v : LockTable). v.table) et))

pub maker_table : (s s' : SeatedMaker) (t t' : LockTable) → s' ≡ s → t' ≡ t → s.table ≡ t.table → s'.table ≡ t'.table
maker_table s s' t t' es et e = ap (λ (v : SeatedMaker). v.table) es ∙ (e ∙ sym (ap (λ (v : LockTable). v.table) et))

pub in_count : (t t' : LockTable) (k count : ℕ) → t' ≡ t → k < t.count → count ≡ t'.count → k < count
in_count t t' k count et h e = subst (λ (n : ℕ). k < n) (sym (e ∙ ap (λ (v : LockTable). v.count) et)) h

pub in_words : (t t' : LockTable) (k words : ℕ) → t' ≡ t → k < t.count → words ≡ t'.count + FIRST_LOCK → k + FIRST_LOCK < words
in_words t t' k words et h e = let c : t'.count ≡ t.count = ap (λ (v : LockTable). v.count) et in omega (arith, c, h, e)

-- who gave the locks of a word up has none there
pub has_lock-releasing : (k : ℕ) (p : IdPart) → has_lock (releasing k p) k ≡ false
has_lock-releasing k p = ap (λ b. b || is_listed k (without k p.writes)) (left_here k p.reads) ∙ left_here k p.writes

-- the id of a seat after a look, whose fields are known
pub id_after : {E : Type 0} (me : Me (Unit {0}) (View E)) (id : ℕ) (old new : IdPart) → IsIdSeat me id → id_part me.0 ≡ new → new.id ≡ old.id → (old.id ≡ id) × (old.id < 16)
id_after me id old new h is same = let e : old.id ≡ id = sym same ∙ (ap (λ (p : IdPart). p.id) (sym is) ∙ h.1) in (e, subst (λ (i : ℕ). i < 16) (sym e) h.2)
