-- What the files of a database hold.
use Rattle.std.specs.Prelude.{ℕ, ◌+◌, ◌-◌, ◌<◌, List, [], ◌++◌, take, drop, length, replicate, Option, Some, None, slice_get, slice_set, unwrap_or}
use Rattle.spe_model.specs.declared.file.FileNo.{FileNo}
use Rattle.spe_model.specs.declared.file.FileNo.TheVariants.{Database, Journal}

-- the bytes of the database and then of journals 0 to 15, each where the file is there
abbrev pub Content : Type 0
Content = List (Option (List ℕ))

-- where a content has the file
abbrev pub place_of : FileNo → ℕ
place_of Database = 0
place_of (Journal n) = n + 1

abbrev pub IsFile : FileNo → Type 0
IsFile Database = Unit {0}
IsFile (Journal n) = n < 16

abbrev pub flatten : {A : Type 0} → Option (Option A) → Option A
flatten None = None
flatten (Some x) = x

-- the bytes of a file, where it is there
abbrev pub file_of : Content → FileNo → Option (List ℕ)
file_of content file = flatten (slice_get content (place_of file))

-- the bytes of a file, none where it is absent
abbrev pub bytes_of : Content → FileNo → List ℕ
bytes_of content file = unwrap_or (file_of content file) []

-- the content with these bytes as the file
abbrev pub with_file : Content → FileNo → List ℕ → Content
with_file content file bytes = slice_set content (place_of file) (Some bytes)

abbrev pub zeros : ℕ → List ℕ
zeros n = replicate n 0

-- n bytes of a file from a place on, with zeros past its end
abbrev pub filled : List ℕ → ℕ → ℕ → List ℕ
filled bytes at n = take n (drop at bytes) ++ zeros (n - (length bytes - at))
