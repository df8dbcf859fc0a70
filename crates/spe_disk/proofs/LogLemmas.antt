-- Files and operations in a store to which bytes are added.
use Rattle.std.proofs.Common.{◌≡◌, ℕ, ◌+◌, ◌-◌, ◌<◌, ◌≤◌, List, [], ◌∷◌, ◌++◌, length, take, drop, get_or, set, ap, ◌∙◌, refl, arith, Option, Some, None, length-drop, length-append}
use Rattle.std.specs.Prelude.{All}
use Rattle.std.specs.List.{AllByRecursion}
use Rattle.std.proofs.lemmas.List.{map-set, map-append, take-append-le, drop-append-le}
use Rattle.std.proofs.lemmas.List.Elements.{recursion_from_All}
use Rattle.std.proofs.Math.Seq.{drop-append_seam, take-length}
use Rattle.std.proofs.lemmas.Grind.{common_steps}
use Rattle.spe_model.specs.Trace.{Operation}
use Rattle.spe_disk.specs.Held.{HeldFile, contents}
use Rattle.spe_model.specs.declared.file.FileNo.{FileNo}
use Rattle.spe_model.specs.Content.{Content, place_of, with_file}
use Rattle.spe_disk.specs.declared.entry.Span.{Span}
use Rattle.spe_disk.specs.declared.entry.Entry.{Entry}
use Rattle.spe_disk.specs.declared.entry.Entry.TheVariants.{Written, Cut}
use Rattle.spe_disk.specs.Log.{bytes_in, file_in, files_in, operation_in, operations_in, LiesIn, FileLiesIn, EntryLiesIn}

-- what is added behind some bytes does not change them
pub bytes_in-append : (store more : List ℕ) (span : Span) → LiesIn (length store) span → bytes_in (store ++ more) span ≡ bytes_in store span
bytes_in-append store more span lies =
    let start : span.start ≤ length store = omega arith in
    let len : length (drop span.start store) ≡ length store - span.start = length-drop span.start store in
    let short : span.end - span.start ≤ length (drop span.start store) = omega arith in
    let tail : drop span.start (store ++ more) ≡ drop span.start store ++ more = drop-append-le span.start store more start in
    let part : take (span.end - span.start) (drop span.start store ++ more) ≡ take (span.end - span.start) (drop span.start store) =
    take-append-le (span.end - span.start) (drop span.start store) more short in
    cc

file_in-append : (store more : List ℕ) (first : Option Span) → FileLiesIn (length store) first → file_in (store ++ more) first ≡ file_in store first
file_in-append store more None lies = refl
file_in-append store more (Some span) lies = ap Some (bytes_in-append store more span lies)

operation_in-append : (store more : List ℕ) (entry : Entry) → EntryLiesIn (length store) entry → operation_in (store ++ more) entry ≡ operation_in store entry
operation_in-append store more (Written file at span) lies = ap (λ bytes. Operation.Write file at bytes) (bytes_in-append store more span lies.1)
operation_in-append store more (Cut file size) lies = refl

files_by : (store more : List ℕ) (firsts : List (Option Span)) → AllByRecursion (FileLiesIn (length store)) firsts → files_in (store ++ more) firsts ≡ files_in store firsts
files_by store more [] all = refl
files_by store more (f ∷ fs) all =
    let first = file_in-append store more f all.0 in
    let others = files_by store more fs all.1 in
    cc

operations_by : (store more : List ℕ) (entries : List Entry) → AllByRecursion (EntryLiesIn (length store)) entries → operations_in (store ++ more) entries ≡ operations_in store entries
operations_by store more [] all = refl
operations_by store more (e ∷ es) all =
    let first = operation_in-append store more e all.0 in
    let others = operations_by store more es all.1 in
    cc

pub files_in-append : (store more new : List ℕ) (firsts : List (Option Span)) → new ≡ store ++ more → All (FileLiesIn (length store)) firsts → files_in new firsts ≡ files_in store firsts
files_in-append store more new firsts n all = rw n (files_by store more firsts (recursion_from_All _ _ all))

pub operations_in-append : (store more new : List ℕ) (entries : List Entry) → new ≡ store ++ more → All (EntryLiesIn (length store)) entries → operations_in new entries ≡ operations_in store entries
operations_in-append store more new entries n all = rw n (operations_by store more entries (recursion_from_All _ _ all))

-- the span behind all that is there
pub bytes_in-behind : (store more new : List ℕ) (span : Span) → new ≡ store ++ more → span.start ≡ length store → span.end ≡ length new → bytes_in new span ≡ more
bytes_in-behind store more new span n s e =
    let total = length-append store more in
    let len : span.end - span.start ≡ length more = omega (arith, ap length n, total) in
    let tail : drop (length store) (store ++ more) ≡ more = drop-append_seam store more in
    let whole : take (length more) more ≡ more = take-length more in
    cc

-- a file at first is replaced
pub file_loaded : (store more new : List ℕ) (firsts : List (Option Span)) (span : Span) (content : Content) (file : FileNo) (i : ℕ) → new ≡ store ++ more → span.start ≡ length store → span.end ≡ length new
    → All (FileLiesIn (length store)) firsts → files_in store firsts ≡ content → i ≡ place_of file
    → files_in new (set firsts i (Some span)) ≡ with_file content file more
file_loaded store more new firsts span content file i n s e all c p =
    let kept : files_in new firsts ≡ content = files_in-append store more new firsts n all ∙ c in
    let bytes : bytes_in new span ≡ more = bytes_in-behind store more new span n s e in
    let moved : files_in new (set firsts i (Some span)) ≡ set (files_in new firsts) i (Some (bytes_in new span)) = map-set (file_in new) firsts i (Some span) in
    rw (moved, kept, bytes, p) refl

-- a file at first is added behind the others
pub file_kept : (store more new : List ℕ) (firsts : List (Option Span)) (span : Option Span) (files : List HeldFile) (i : ℕ) (f : HeldFile) → new ≡ store ++ more → file_in new span ≡ f.bytes
    → All (FileLiesIn (length store)) firsts → files_in store firsts ≡ contents (take i files) → i < length files → f ≡ get_or files i f
    → files_in new (firsts ++ span ∷ []) ≡ contents (take (i + 1) files)
file_kept store more new firsts span files i f n is all c below at =
    let kept : files_in new firsts ≡ contents (take i files) = files_in-append store more new firsts n all ∙ c in
    let front : files_in new (firsts ++ span ∷ []) ≡ files_in new firsts ++ file_in new span ∷ [] = map-append (file_in new) firsts (span ∷ []) in
    let one : take (i + 1) files ≡ take i files ++ f ∷ [] = grind (arith, common_steps) in
    let back : contents (take i files ++ f ∷ []) ≡ contents (take i files) ++ f.bytes ∷ [] = map-append (λ (x : HeldFile). x.bytes) (take i files) (f ∷ []) in
    rw (front, kept, is, one, back) refl

pub still_lie : (store more new : List ℕ) (firsts : List (Option Span)) → new ≡ store ++ more → All (FileLiesIn (length store)) firsts → All (FileLiesIn (length new)) firsts
still_lie store more new firsts n all = λ k d below.
    let longer : length store ≤ length new = omega (arith, ap length n, length-append store more) in
    lies_longer (length store) (length new) (get_or firsts k d) longer (all k d below)
  where
    lies_longer : (a b : ℕ) (first : Option Span) → a ≤ b → FileLiesIn a first → FileLiesIn b first
    lies_longer a b None le lies = tt
    lies_longer a b (Some span) le lies = (lies.0, omega (arith, lies.1))

-- a write is added
pub write_added : (store more new : List ℕ) (entries : List Entry) (span : Span) (trace : List Operation) (file : FileNo) (at : ℕ) → new ≡ store ++ more → span.start ≡ length store → span.end ≡ length new
    → All (EntryLiesIn (length store)) entries → operations_in store entries ≡ trace
    → operations_in new (entries ++ Written file at span ∷ []) ≡ trace ++ Operation.Write file at more ∷ []
write_added store more new entries span trace file at n s e all t =
    let kept : operations_in new entries ≡ trace = operations_in-append store more new entries n all ∙ t in
    let bytes : bytes_in new span ≡ more = bytes_in-behind store more new span n s e in
    let front : operations_in new (entries ++ Written file at span ∷ []) ≡ operations_in new entries ++ Operation.Write file at (bytes_in new span) ∷ [] = map-append (operation_in new) entries (Written file at span ∷ []) in
    rw (front, kept, bytes) refl
