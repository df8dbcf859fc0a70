-- What a sink takes.
use Rattle.std.specs.Prelude.{◌≡◌, ℕ, List, ◌++◌, take, Option, Some, None, Result, Ok, Err}
use Rattle.spe_disk.specs.declared.disk.Failed.{Failed}
use Rattle.spe_disk.specs.Listed.{next_number}

-- the bytes were added
abbrev pub Appends : Option (List ℕ) → Option (List ℕ) → List ℕ → Type 0
Appends None new bytes = Unit {0}
Appends (Some old) new bytes = new ≡ Some (old ++ bytes)

-- some first bytes were added, or none
abbrev pub AppendsFront : Option (List ℕ) → Option (List ℕ) → List ℕ → Type 0
AppendsFront None new bytes = Unit {0}
AppendsFront (Some old) new bytes = (front : List ℕ) × (rest : List ℕ) × (bytes ≡ front ++ rest) × (new ≡ Some (old ++ front))

abbrev pub Takes : Option (List ℕ) → Option (List ℕ) → List ℕ → Result ℕ Failed → Type 0
Takes old new bytes (Ok n) = Appends old new (take n bytes)
Takes old new bytes (Err e) = AppendsFront old new bytes

-- A count of faults stays where the call answers Ok, and is the next one where it failed: of all pieces that it puts, one failed.
abbrev pub CountsFault : {T : Type 0} → (before now : ℕ) → Result T Failed → Type 0
CountsFault before now (Ok x) = now ≡ before
CountsFault before now (Err e) = now ≡ next_number before

-- what is left of the bytes, with what was added of them
abbrev pub AddedBefore : Option (List ℕ) → Option (List ℕ) → List ℕ → List ℕ → Type 0
AddedBefore None new bytes left = Unit {0}
AddedBefore (Some old) new bytes left = (front : List ℕ) × (bytes ≡ front ++ left) × (new ≡ Some (old ++ front))
