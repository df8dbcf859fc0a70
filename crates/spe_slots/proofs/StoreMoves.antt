-- The steps of the store's seat, wherever it is that seat.
use Rattle.std.proofs.Common.{◌≡◌, ℕ, ◌+◌, ◌<◌, true, eqb, [], bit_and, sym, subst, None}
use mathlib.Core.Option.{none}
use prog.Atomic.{either}
use Rattle.atomic_table.specs.Table.{Me, step, Allows}
use Rattle.spe_slotrule.specs.declared.rule.TheConstants.{FIRST_LOCK}
use Rattle.spe_slotrule.specs.declared.parts.StorePart.{StorePart}
use Rattle.spe_slotrule.specs.declared.parts.View.{View}
use Rattle.spe_slotrule.specs.Word.{holds_lock, has_writer, SetsReadPin, SetsWritePin, ClearsPins}
use Rattle.spe_slotrule.specs.Views.{store_part, store_view}
use Rattle.spe_slotrule.specs.Rule.{KeepsRule, is_pinned}
use Rattle.spe_slotrule.specs.Pins.{store_looked, store_exchanged, pinning_read, pinning_write, unpinned}
use Rattle.spe_slotrule.specs.Tells.{told, stopping}
use Rattle.spe_slotrule.proofs.Telling.{stops}
use Rattle.spe_slotrule.proofs.Pinning.{store_looks, pins_read, pins_write, unpins}
use Rattle.spe_slots.specs.Seats.{IsStoreSeat}

module _ {E : Type 0} (n slots seat k : ℕ) (me : Me (Unit {0}) (View E)) (h : IsStoreSeat me) where
  pub store_looks_at : Allows (KeepsRule n) slots seat me (k + FIRST_LOCK) (λ w. w) (store_looked (step slots (k + FIRST_LOCK) 0 0 none) me)
  store_looks_at = subst (λ (m : Me (Unit {0}) (View E)). Allows (KeepsRule n) slots seat m (k + FIRST_LOCK) (λ w. w) (store_looked (step slots (k + FIRST_LOCK) 0 0 none) m)) (sym h) (store_looks n slots seat k (store_part me.0))

  -- i is the id as the step is told it
  pub pins_read_at : (i id old new : ℕ) → i ≡ id → k < n → id < 16 → holds_lock id old ≡ true → SetsReadPin id old new → Allows (KeepsRule n) slots seat me (k + FIRST_LOCK) (λ x. either (eqb x old) new x) (store_exchanged (pinning_read i) (step slots (k + FIRST_LOCK) old new none) me)
  pins_read_at i id old new same inside small held sets = subst (λ (m : ℕ × Me (Unit {0}) (View E)). Allows (KeepsRule n) slots seat m.1 (k + FIRST_LOCK) (λ x. either (eqb x old) new x) (store_exchanged (pinning_read m.0) (step slots (k + FIRST_LOCK) old new none) m.1)) (λ j. (sym same j, sym h j))
      (pins_read n slots seat id k old new (store_part me.0) inside small held sets)

  pub pins_write_at : (i id old new : ℕ) → i ≡ id → k < n → id < 16 → has_writer id old ≡ true → SetsWritePin old new → Allows (KeepsRule n) slots seat me (k + FIRST_LOCK) (λ x. either (eqb x old) new x) (store_exchanged (pinning_write i) (step slots (k + FIRST_LOCK) old new none) me)
  pins_write_at i id old new same inside small held sets = subst (λ (m : ℕ × Me (Unit {0}) (View E)). Allows (KeepsRule n) slots seat m.1 (k + FIRST_LOCK) (λ x. either (eqb x old) new x) (store_exchanged (pinning_write m.0) (step slots (k + FIRST_LOCK) old new none) m.1)) (λ j. (sym same j, sym h j))
      (pins_write n slots seat id k old new (store_part me.0) inside small held sets)

  pub unpins_at : (i id mask : ℕ) → i ≡ id → k < n → id < 16 → ((word : ℕ) → ClearsPins id (is_pinned id k (store_part me.0).write_pins) word (bit_and word mask)) → Allows (KeepsRule n) slots seat me (k + FIRST_LOCK) (λ x. bit_and x mask) (unpinned i (step slots (k + FIRST_LOCK) mask 0 none) me)
  unpins_at i id mask same inside small clears = subst (λ (m : ℕ × Me (Unit {0}) (View E)). Allows (KeepsRule n) slots seat m.1 (k + FIRST_LOCK) (λ x. bit_and x mask) (unpinned m.0 (step slots (k + FIRST_LOCK) mask 0 none) m.1)) (λ j. (sym same j, sym h j))
      (unpins n slots seat id k mask (store_part me.0) inside small clears)

module _ {E : Type 0} where
  pub stops_at : (n slots seat op : ℕ) (me : Me (Unit {0}) (View E)) (after : View E) (s : StorePart E) → me ≡ (store_view s, []) → after ≡ store_view (stopping op None s) → s.stop ≡ None → Allows (KeepsRule n) slots seat me 0 (λ w. w) (told after (step slots 0 0 0 none) me)
  stops_at n slots seat op me after s is made runs = subst (λ (x : Me (Unit {0}) (View E) × View E). Allows (KeepsRule n) slots seat x.0 0 (λ w. w) (told x.1 (step slots 0 0 0 none) x.0)) (λ i. (sym is i, sym made i)) (stops n slots seat op s runs)
