-- Pages that are written back, and what stays meanwhile.
use Rattle.std.specs.Prelude.{◌≡◌, ℕ, ◌≤◌, ◌⊎◌, Bool, ◌&&◌, nat_le, is_some, List, [], ◌∷◌, length, Option, Some, None, Result, IfErr, OnErr}
use Rattle.std.specs.Ordering.{nat_cmp}
use Rattle.std.specs.BTreeMap.{BTreeMap, get}
use Rattle.spe_model.specs.Faults.{Rose}
use Rattle.spe_model.specs.Journal.{Saved}
use Rattle.spe_model.specs.Recovery.{journal_of}
use Rattle.spe_model.specs.Trace.{History, present}
use Rattle.spe_disk.specs.Told.{Adds}
use Rattle.spe_journal.specs.Saved.{SavesFirst, SavesNone}
use Rattle.spe_model.specs.Rollback.{restores, without}
use Rattle.spe_recover.specs.declared.failure.Failure.{Failure}
use Rattle.spe_recover.specs.declared.failure.Failure.TheVariants.{Disk, Memory}

-- the pages that are still to be written back
abbrev pub Holders : Type 0
Holders = BTreeMap ℕ ℕ

abbrev pub is_due : Holders → (pages p : ℕ) → Bool
is_due holders pages p = nat_le p pages && is_some (get nat_cmp holders p)

-- the pages that are still to be written back behind these records
abbrev pub due_after : (ℕ → Bool) → List Saved → ℕ → Bool
due_after due [] p = due p
due_after due (s ∷ ss) p = due_after (without due s.page) ss p

-- The first record of each due page was written, by so many operations.
pub record Restored (page_size pages : ℕ) (saved : List Saved) (old new : Option History) (before now : Holders) (made : ℕ) : Type 0 where
  pub adds : Adds old new (restores page_size (is_due before pages) saved)
  pub count : made ≡ length (restores page_size (is_due before pages) saved)
  pub due : (p : ℕ) → is_due now pages p ≡ due_after (is_due before pages) saved p

-- the journals have what they had
abbrev pub Stays : Option History → Option History → Type 0
Stays None new = new ≡ None
Stays (Some h) None = ⊥
Stays (Some h) (Some k) = (id : ℕ) → journal_of (present k) id ≡ journal_of (present h) id

-- the journals from this number on have what they had
abbrev pub StaysFrom : ℕ → Option History → Option History → Type 0
StaysFrom id None new = new ≡ None
StaysFrom id (Some h) None = ⊥
StaysFrom id (Some h) (Some k) = (i : ℕ) → id ≤ i → journal_of (present k) i ≡ journal_of (present h) i

-- What a piece of a journal says is written back, where it is a record; else nothing is, and no piece behind it counts.
pub record RestoresFirst (nonce page_size pages : ℕ) (piece : List ℕ) (old new : Option History) (before now : Holders) (made : ℕ) : Type 0 where
  pub saved : Saved
  pub first : SavesFirst nonce page_size piece saved
  pub restored : Restored page_size pages (saved ∷ []) old new before now made
  pub few : made ≤ 1
  pub stays : Stays old new

pub record RestoresNone (nonce page_size : ℕ) (piece : List ℕ) (old new : Option History) (before now : Holders) : Type 0 where
  pub last : SavesNone nonce page_size piece
  pub told : new ≡ old
  pub holders : now ≡ before

abbrev pub RestoresPiece : (nonce page_size pages : ℕ) → List ℕ → (old new : Option History) → (before now : Holders) → Option ℕ → Type 0
RestoresPiece nonce page_size pages piece old new before now (Some made) = RestoresFirst nonce page_size pages piece old new before now made
RestoresPiece nonce page_size pages piece old new before now None = RestoresNone nonce page_size piece old new before now

-- two counts of faults never fall, and one has risen where the call failed
pub record HasEither {X E : Type 0} (reads reads_now ops ops_now : ℕ) (result : Result X E) : Type 0 where
  pub reads_later : reads ≤ reads_now
  pub ops_later : ops ≤ ops_now
  pub failed : OnErr result (Rose reads reads_now ⊎ Rose ops ops_now)

abbrev pub IsEitherOf : (reads reads_now ops ops_now : ℕ) → Failure → Type 0
IsEitherOf reads reads_now ops ops_now Disk = Rose reads reads_now ⊎ Rose ops ops_now
IsEitherOf reads reads_now ops ops_now Memory = Unit {0}

-- the same, where there may have been no memory
pub record HasEitherFailure {X : Type 0} (reads reads_now ops ops_now : ℕ) (result : Result X Failure) : Type 0 where
  pub reads_later : reads ≤ reads_now
  pub ops_later : ops ≤ ops_now
  pub failed : IfErr result (IsEitherOf reads reads_now ops ops_now)
