-- What becomes of the parts of a core.
use Rattle.std.specs.Prelude.{◌≡◌, ℕ, length}
use Rattle.std.specs.Option.{option_map_or}
use Rattle.spe_core.specs.declared.parts.Parts.{Parts}
use Rattle.spe_core.specs.Enabled.{count_of}
use Rattle.spe_transactions.specs.Pages.{named_count}
use Rattle.spe_core.specs.Parts.{state_of}
use Rattle.spe_stored.specs.Sheets.{sheet_at}
use Rattle.spe_core.specs.State.{State, Live, live_of}

-- the parts are now those of this state, with as many recovered pages as before
pub record Becomes (old new : Parts) (s : State) : Type 0 where
  pub state : state_of new ≡ s
  pub pages : new.pages ≡ old.pages

-- the number that the page 1 names which a transaction wrote, else this one
abbrev pub count_by : ℕ → Live → ℕ
count_by count t = option_map_or named_count (sheet_at 1 t.written) count

-- the number of recovered pages after a commit
abbrev pub count_after : State → ℕ → ℕ
count_after s id = option_map_or (count_by (count_of s)) (live_of s id) (count_of s)

-- how many pages a transaction journalled
abbrev pub journalled_count : State → ℕ → ℕ
journalled_count s id = option_map_or (λ (t : Live). length t.journalled) (live_of s id) 0
