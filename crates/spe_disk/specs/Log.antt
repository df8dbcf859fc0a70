-- Files and operations by where their bytes lie in one store.
use Rattle.std.specs.Prelude.{◌≡◌, ℕ, ◌+◌, ◌≤◌, List, All, map, length, slice_range, Option, Some, None, Vec, vec_capacity}
use Rattle.std.specs.declared.alloc.Global.{Global}
use Rattle.spe_model.specs.Content.{Content, IsFile}
use Rattle.spe_model.specs.Trace.{Operation}
use Rattle.spe_disk.specs.declared.entry.Span.{Span}
use Rattle.spe_disk.specs.declared.entry.Entry.{Entry}
use Rattle.spe_disk.specs.declared.entry.Entry.TheVariants.{Written, Cut}

-- what is told of a log: the files at first, the operations since, how many more bytes it may take, and how many operations in all
pub record Logged : Type 0 where
  pub first : Content
  pub trace : List Operation
  pub left : ℕ
  pub limit : ℕ

abbrev pub bytes_in : List ℕ → Span → List ℕ
bytes_in store span = slice_range store span.start span.end

-- a file by where it lies
abbrev pub file_in : List ℕ → Option Span → Option (List ℕ)
file_in store None = None
file_in store (Some span) = Some (bytes_in store span)

abbrev pub files_in : List ℕ → List (Option Span) → Content
files_in store spans = map (file_in store) spans

abbrev pub operation_in : List ℕ → Entry → Operation
operation_in store (Written file at span) = Operation.Write file at (bytes_in store span)
operation_in store (Cut file size) = Operation.Cut file size

abbrev pub operations_in : List ℕ → List Entry → List Operation
operations_in store entries = map (operation_in store) entries

-- the span lies in this many bytes
abbrev pub LiesIn : ℕ → Span → Type 0
LiesIn n span = (span.start ≤ span.end) × (span.end ≤ n)

abbrev pub FileLiesIn : ℕ → Option Span → Type 0
FileLiesIn n None = Unit {0}
FileLiesIn n (Some span) = LiesIn n span

abbrev pub EntryLiesIn : ℕ → Entry → Type 0
EntryLiesIn n (Written file at span) = IsFile file × LiesIn n span
EntryLiesIn n (Cut file size) = IsFile file

-- what holds of every log
pub record IsLog (left limit : ℕ) (store : Vec ℕ Global) (firsts : List (Option Span)) (entries : Vec Entry Global) : Type 0 where
  pub room : length store.items + left ≤ vec_capacity store
  pub slots : limit ≤ vec_capacity entries
  pub within : length entries.items ≤ limit
  pub count : length firsts ≡ 17
  pub files : All (FileLiesIn (length store.items)) firsts
  pub operations : All (EntryLiesIn (length store.items)) entries.items
