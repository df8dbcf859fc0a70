-- What a disk answers where it tells what its files hold.
use Rattle.std.specs.Prelude.{◌≡◌, ℕ, ◌-◌, ◌⊎◌, List, [], ◌∷◌, ◌++◌, map, filter, length, Option, Some, None, Result, Ok, Err, Bool, is_some, is_none, min}
use Rattle.std.specs.List.{range_with_len}
use Rattle.std.specs.Option.{option_map}
use Rattle.spe_model.specs.declared.file.FileNo.{FileNo}
use Rattle.spe_model.specs.declared.file.FileNo.TheVariants.{Database, Journal}
use Rattle.spe_model.specs.Content.{Content, file_of, bytes_of, filled}
use Rattle.spe_model.specs.Trace.{Operation, History, present}
use Rattle.spe_model.specs.Trace.Operation.{Write, Cut}
use Rattle.spe_disk.specs.declared.disk.Failed.{Failed}

abbrev pub NothingDone : Option History → Type 0
NothingDone None = Unit {0}
NothingDone (Some h) = h.trace ≡ []

-- what the files held at attaching has a place for each of them: the database and sixteen journals
abbrev pub HasPlaces : Option History → Type 0
HasPlaces None = Unit {0}
HasPlaces (Some h) = length h.first ≡ 17

-- P of the present content, where it is told and the call did not fail
abbrev pub WhereTold : {T : Type 0} → Option History → Result T Failed → (Content → T → Type 0) → Type 0
WhereTold None result P = Unit {0}
WhereTold (Some h) (Ok x) P = P (present h) x
WhereTold (Some h) (Err e) P = Unit {0}

-- whether there is a database file
abbrev pub Finds : Option History → Result Bool Failed → Type 0
Finds told result = WhereTold told result (λ content found. found ≡ is_some (file_of content Database))

-- the length of a file that is there
abbrev pub Measures : Option History → FileNo → Result (Option ℕ) Failed → Type 0
Measures told file result = WhereTold told result (λ content size. size ≡ option_map length (file_of content file))

-- n bytes of a file from a place on, with zeros past its end, and how many of them were there
abbrev pub ReadsBytes : Option History → FileNo → ℕ → ℕ → List ℕ → Result ℕ Failed → Type 0
ReadsBytes told file at n bytes result =
    WhereTold told result
    (λ content count. (bytes ≡ filled (bytes_of content file) at n) × (count ≡ min n (length (bytes_of content file) - at)))

-- the operations were added to the trace, and what the files held at attaching stays
abbrev pub Adds : Option History → Option History → List Operation → Type 0
Adds None new made = new ≡ None
Adds (Some h) new made = new ≡ Some (record { first = h.first; trace = h.trace ++ made })

-- The write was added. A call that failed added nothing, or a write of some first bytes.
abbrev pub Writes : Option History → Option History → FileNo → ℕ → List ℕ → Result (Unit {0}) Failed → Type 0
Writes old new file at bytes (Ok x) = Adds old new (Write file at bytes ∷ [])
Writes old new file at bytes (Err e) = (new ≡ old) ⊎ ((front : List ℕ) × (rest : List ℕ) × (bytes ≡ front ++ rest) × Adds old new (Write file at front ∷ []))

-- The cut was added. A call that failed added it, or nothing.
abbrev pub Cuts : Option History → Option History → FileNo → ℕ → Result (Unit {0}) Failed → Type 0
Cuts old new file size (Ok x) = Adds old new (Cut file size ∷ [])
Cuts old new file size (Err e) = (new ≡ old) ⊎ Adds old new (Cut file size ∷ [])

-- those of some numbers whose journal is not there
unfoldable pub absent_among : Content → List ℕ → List ℕ
absent_among content numbers = filter (λ n. is_none (file_of content (Journal n))) numbers

-- those of the first n journals that are not there
unfoldable pub absent_below : Content → ℕ → List ℕ
absent_below content n = absent_among content (range_with_len 0 n)

-- the numbers of the journals that are not there
abbrev pub absent_journals : Content → List ℕ
absent_journals content = absent_below content 16

-- the operations that make some journals
abbrev pub makings : List ℕ → List Operation
makings numbers = map (λ n. Cut (Journal n) 0) numbers

-- All absent journals were made, in ascending order. A call that failed made some first ones.
abbrev pub MakesJournals : Option History → Option History → Result ℕ Failed → Type 0
MakesJournals None new result = new ≡ None
MakesJournals (Some h) new (Ok n) = (n ≡ length (absent_journals (present h))) × Adds (Some h) new (makings (absent_journals (present h)))
MakesJournals (Some h) new (Err e) = (front : List ℕ) × (rest : List ℕ) × (absent_journals (present h) ≡ front ++ rest) × Adds (Some h) new (makings front)
