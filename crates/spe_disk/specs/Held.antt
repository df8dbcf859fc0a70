-- What files in memory hold.
use Rattle.std.specs.Prelude.{ℕ, ◌+◌, ◌-◌, ◌≤◌, Bool, List, [], ◌∷◌, map, length, Option, Some, None, unwrap_or, if◌then◌else◌}
use Rattle.spe_model.specs.declared.file.FileNo.{FileNo}
use Rattle.spe_model.specs.Content.{Content, bytes_of}

-- the bytes of a file, where it is there, and how many it may have without taking memory
pub record HeldFile : Type 0 where
  pub bytes : Option (List ℕ)
  pub limit : ℕ

abbrev pub bytes_if : Bool → List ℕ → Option (List ℕ)
bytes_if there bytes = if there then Some bytes else None

-- the files of a database, and how many more bytes they may have in all without taking memory
pub record HeldFiles : Type 0 where
  pub content : Content
  pub room : ℕ

-- what some files hold
abbrev pub contents : List HeldFile → Content
contents files = map (λ f. f.bytes) files

-- a file may have so many more bytes without taking memory
abbrev pub HasRoom : ℕ → HeldFile → Type 0
HasRoom room file = length (unwrap_or file.bytes []) + room ≤ file.limit

-- how many zeros a write puts between the end of its file and its own bytes
abbrev pub gap_before : Content → FileNo → ℕ → List ℕ → ℕ
gap_before content file at [] = 0
gap_before content file at (b ∷ bs) = at - length (bytes_of content file)

-- how many bytes of room a write takes
abbrev pub room_taken : Content → FileNo → ℕ → List ℕ → ℕ
room_taken content file at bytes = length bytes + gap_before content file at bytes
