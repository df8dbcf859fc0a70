-- The steps of an id's seat, wherever it is the seat of that id.
use Rattle.std.proofs.Common.{◌≡◌, ℕ, ◌+◌, ◌<◌, true, false, eqb, sym, subst}
use mathlib.Core.Option.{none}
use prog.Atomic.{either}
use Rattle.atomic_table.specs.Table.{Me, step, Allows}
use Rattle.spe_slotrule.specs.declared.rule.TheConstants.{FIRST_LOCK}
use Rattle.spe_slotrule.specs.declared.parts.View.{View}
use Rattle.spe_slotrule.specs.Word.{has_pin, writer_field, is_read_free, is_write_free, AddsReader, SetsWriter, ClearsLocks}
use Rattle.spe_slotrule.specs.Views.{id_part}
use Rattle.spe_slotrule.specs.Rule.{KeepsRule}
use Rattle.spe_slotrule.specs.Locks.{looked, exchanged, reading, writing, releasing}
use Rattle.spe_slotrule.proofs.Looking.{looks}
use Rattle.spe_slotrule.proofs.Granting.{grants_read, grants_write, releases}
use Rattle.spe_slots.specs.Seats.{IsIdSeat}
use Rattle.spe_slots.proofs.Own.{small}

module _ {E : Type 0} (n slots seat k id : ℕ) (me : Me (Unit {0}) (View E)) (h : IsIdSeat me id) where
  pub looks_at : (conflicts : ℕ → ℕ → ℕ) → Allows (KeepsRule n) slots seat me (k + FIRST_LOCK) (λ w. w) (looked conflicts (step slots (k + FIRST_LOCK) 0 0 none) me)
  looks_at conflicts = subst (λ (m : Me (Unit {0}) (View E)). Allows (KeepsRule n) slots seat m (k + FIRST_LOCK) (λ w. w) (looked conflicts (step slots (k + FIRST_LOCK) 0 0 none) m)) (sym h.0)
      (looks n conflicts slots seat k (id_part me.0) (small me id h))

  pub grants_read_at : (old new : ℕ) → k < n → AddsReader id old new → is_read_free (id_part me.0).id old ≡ true → Allows (KeepsRule n) slots seat me (k + FIRST_LOCK) (λ x. either (eqb x old) new x) (exchanged reading (step slots (k + FIRST_LOCK) old new none) me)
  grants_read_at old new inside adds free = subst (λ (m : Me (Unit {0}) (View E)). Allows (KeepsRule n) slots seat m (k + FIRST_LOCK) (λ x. either (eqb x old) new x) (exchanged reading (step slots (k + FIRST_LOCK) old new none) m)) (sym h.0)
      (grants_read n slots seat k old new (id_part me.0) inside (small me id h) (subst (λ (i : ℕ). AddsReader i old new) (sym h.1) adds) free)

  pub grants_write_at : (old new : ℕ) → k < n → writer_field old ≡ 0 → SetsWriter id old new → is_write_free (id_part me.0).id old ≡ true → Allows (KeepsRule n) slots seat me (k + FIRST_LOCK) (λ x. either (eqb x old) new x) (exchanged writing (step slots (k + FIRST_LOCK) old new none) me)
  grants_write_at old new inside unwritten sets free = subst (λ (m : Me (Unit {0}) (View E)). Allows (KeepsRule n) slots seat m (k + FIRST_LOCK) (λ x. either (eqb x old) new x) (exchanged writing (step slots (k + FIRST_LOCK) old new none) m)) (sym h.0)
      (grants_write n slots seat k old new (id_part me.0) inside (small me id h) unwritten (subst (λ (i : ℕ). SetsWriter i old new) (sym h.1) sets) free)

  pub releases_at : (old new : ℕ) → k < n → has_pin (id_part me.0).id old ≡ false → ClearsLocks id old new → Allows (KeepsRule n) slots seat me (k + FIRST_LOCK) (λ x. either (eqb x old) new x) (exchanged releasing (step slots (k + FIRST_LOCK) old new none) me)
  releases_at old new inside free clears = subst (λ (m : Me (Unit {0}) (View E)). Allows (KeepsRule n) slots seat m (k + FIRST_LOCK) (λ x. either (eqb x old) new x) (exchanged releasing (step slots (k + FIRST_LOCK) old new none) m)) (sym h.0)
      (releases n slots seat k old new (id_part me.0) inside (small me id h) free (subst (λ (i : ℕ). ClearsLocks i old new) (sym h.1) clears))
