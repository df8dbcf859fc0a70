-- What is kept of a file so that a write can be taken back.
use Rattle.std.specs.Prelude.{◌≡◌, ℕ, ◌+◌, ◌≤◌, List, [], ◌++◌, length, take, drop, Option, Some, slice_set, unwrap_or}
use Rattle.spe_model.specs.declared.file.FileNo.{FileNo}
use Rattle.spe_model.specs.Content.{Content, place_of, bytes_of}
use Rattle.spe_model.specs.Trace.{laid_over}
use Rattle.spe_stored.specs.Stored.{bytes_if}
use Rattle.spe_stored.specs.declared.stored.Kept.{Kept}

-- the file that these bytes become
abbrev pub taken_back : Kept → List ℕ → Option (List ℕ)
taken_back kept bytes =
    bytes_if kept.there (take kept.size (take kept.at bytes ++ kept.bytes.items ++ drop (kept.at + length kept.bytes.items) bytes))

-- a file becomes again what it was
pub record TakesBack (kept : Kept) (now old : Option (List ℕ)) : Type 0 where
  pub fits : kept.at + length kept.bytes.items ≤ length (unwrap_or now [])
  pub is : taken_back kept (unwrap_or now []) ≡ old

-- so it does after a write of so many bytes from a place on, and where there was none
pub record Keeps (kept : Kept) (old : Option (List ℕ)) (at count : ℕ) : Type 0 where
  pub same : TakesBack kept old old
  pub written : (bytes : List ℕ) → length bytes ≡ count → TakesBack kept (Some (laid_over (unwrap_or old []) at bytes)) old

-- the same of a file of a content
abbrev pub file_taken_back : Kept → FileNo → Content → Content
file_taken_back kept file content = slice_set content (place_of file) (taken_back kept (bytes_of content file))

pub record TakesFileBack (kept : Kept) (file : FileNo) (now old : Content) : Type 0 where
  pub fits : kept.at + length kept.bytes.items ≤ length (bytes_of now file)
  pub is : file_taken_back kept file now ≡ old
