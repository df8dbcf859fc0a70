-- What a step of the store's seat on a lock word tells it.
use Rattle.std.specs.Prelude.{◌≡◌, ◌≢◌, ℕ, ◌+◌, ◌-◌, ◌<◌, List, ◌∷◌, ◌&&◌}
use Rattle.atomic_table.specs.Table.{Me, Step}
use Rattle.spe_slotrule.specs.declared.rule.TheConstants.{FIRST_LOCK}
use Rattle.spe_slotrule.specs.declared.parts.Pin.{Pin}
use Rattle.spe_slotrule.specs.declared.parts.StorePart.{StorePart}
use Rattle.spe_slotrule.specs.declared.parts.View.{View}
use Rattle.spe_slotrule.specs.Word.{has_writer, has_read_pin, has_write_pin}
use Rattle.spe_slotrule.specs.Views.{store_part, with_store}
use Rattle.spe_slotrule.specs.Pairs.{without_pair}
use Rattle.spe_slotrule.specs.Rule.{pin_id, pin_lock, is_pinned, PinsAreApart}
use Rattle.spe_slotrule.specs.Locks.{look_at}

abbrev pub pin_of : ℕ → ℕ → Pin
pin_of i k = record { id = i; lock = k }

abbrev pub without_pin : ℕ → ℕ → List Pin → List Pin
without_pin i k pins = without_pair pin_id pin_lock i k pins

module _ {E : Type 0} where
  -- a look of the store at the lock word k
  abbrev pub store_look : ℕ → ℕ → ℕ → StorePart E → StorePart E
  store_look k expected found s = record s { looks = s.looks + 1; last = look_at k expected found }

  abbrev pub pinning_read : ℕ → ℕ → StorePart E → StorePart E
  pinning_read i k s = record s { read_pins = pin_of i k ∷ s.read_pins }

  abbrev pub pinning_write : ℕ → ℕ → StorePart E → StorePart E
  pinning_write i k s = record s { write_pins = pin_of i k ∷ s.write_pins }

  abbrev pub unpinning : ℕ → ℕ → StorePart E → StorePart E
  unpinning i k s = record s { read_pins = without_pin i k s.read_pins; write_pins = without_pin i k s.write_pins }

  -- what the lock word k that was found shows the store of its pins
  pub record StoreShows (s : StorePart E) (k found : ℕ) : Type 0 where
    pub read : (i : ℕ) → i < 16 → has_read_pin i found ≡ is_pinned i k s.read_pins
    pub write : (i : ℕ) → i < 16 → (has_write_pin found && has_writer i found) ≡ is_pinned i k s.write_pins

  abbrev pub AreApart : StorePart E → Type 0
  AreApart s = PinsAreApart s.read_pins s.write_pins

  -- a load of a lock word by the store
  abbrev pub store_looked : Step (Unit {0}) → Me (Unit {0}) (View E) → ℕ → Me (Unit {0}) (View E) → Type 0
  store_looked st m found m' = let s = store_part m.0 in let k = st.word - FIRST_LOCK in (m' ≡ (with_store m.0 (store_look k found found s), m.1)) × StoreShows s k found × AreApart s

  -- an exchange of a lock word, which changes the store's part where it hits, and else is a look. No two ids' pins meet afterwards
  abbrev pub store_exchanged : (ℕ → StorePart E → StorePart E) → Step (Unit {0}) → Me (Unit {0}) (View E) → ℕ → Me (Unit {0}) (View E) → Type 0
  store_exchanged change st m found m' = let s = store_part m.0 in let k = st.word - FIRST_LOCK in
      (found ≡ st.first → m' ≡ (with_store m.0 (change k s), m.1)) × (found ≢ st.first → m' ≡ (with_store m.0 (store_look k st.first found s), m.1)) × AreApart (store_part m'.0)

  -- the pins of the id are cleared
  abbrev pub unpinned : ℕ → Step (Unit {0}) → Me (Unit {0}) (View E) → ℕ → Me (Unit {0}) (View E) → Type 0
  unpinned i st m found m' = let s = store_part m.0 in let k = st.word - FIRST_LOCK in (m' ≡ (with_store m.0 (unpinning i k s), m.1)) × AreApart (store_part m'.0)
