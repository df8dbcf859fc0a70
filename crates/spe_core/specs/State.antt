-- What the core of the engine is in: its files, its transactions, and what was committed.
use Rattle.std.specs.Prelude.{ℕ, ◌==◌, Bool, true, false, List, [], ◌∷◌, Option, Some, None, if◌then◌else◌}
use Rattle.spe_model.specs.Content.{Content}
use Rattle.spe_model.specs.Trace.{Operation}
use Rattle.spe_stored.specs.Sheets.{Sheets}
use Rattle.spe_core.specs.Locks.{Locks}

pub data Phase : Type 0 where
  Working : Phase
  Undoing : Phase
  Ended : Phase

-- A live transaction: the pages that it read as it found them, those that it journalled with their bytes before, those
-- that it wrote, and the locks of which it is a reader or the writer.
pub record Live : Type 0 where
  pub seen : Sheets
  pub journalled : Sheets
  pub written : Sheets
  pub reads : Locks
  pub writes : Locks
  pub phase : Phase

-- A committed transaction: the pages that it read, and those that it wrote.
pub record Committed : Type 0 where
  pub seen : Sheets
  pub written : Sheets

-- The bytes that a page had before the commit of this number.
pub record Image : Type 0 where
  pub page : ℕ
  pub stamp : ℕ
  pub bytes : List ℕ

-- A read-only transaction: after how many commits its pages are, once that is fixed, and what it read.
pub record Reader : Type 0 where
  pub snapshot : Option ℕ
  pub read : Sheets

-- serving, or recovering with these operations left to make
pub data Mode : Type 0 where
  Serving : Mode
  Recovering : List Operation → Mode

pub record State : Type 0 where
  pub opening : List ℕ
  pub slots : ℕ
  pub content : Content
  pub made : ℕ
  pub commits : List Committed
  pub images : List Image
  pub live : List (ℕ × Live)
  pub readers : List (ℕ × Reader)
  pub mode : Mode

abbrev pub live_in : ℕ → List (ℕ × Live) → Option Live
live_in id [] = None
live_in id (t ∷ ts) = if t.0 == id then Some t.1 else live_in id ts

-- the transaction of this id, where it is live
abbrev pub live_of : State → ℕ → Option Live
live_of s id = live_in id s.live

abbrev pub phase_ended : Phase → Bool
phase_ended Working = false
phase_ended Undoing = false
phase_ended Ended = true

abbrev pub is_ended : Live → Bool
is_ended t = phase_ended t.phase

abbrev pub phase_working : Phase → Bool
phase_working Working = true
phase_working Undoing = false
phase_working Ended = false

abbrev pub is_working : Live → Bool
is_working t = phase_working t.phase
