-- The first bytes of a database file.
use Rattle.std.proofs.Common.{◌≡◌, ℕ, zero, suc, ◌≤◌, ◌/◌, List, ◌++◌, length, length-take, max, take, refl, arith, ap, sym, ◌∙◌, Bool, true, false, cond, Option, Some, None, Ok, Err}
use Rattle.std.proofs.lemmas.Bool.Decides.{nat_tests}
use Rattle.std.specs.Prelude.{nat_lt, not, ◌&&◌, ◌==◌, if◌then◌else◌}
use Rattle.std.proofs.Math.Seq.{take-append_seam}
use Rattle.std.proofs.lemmas.List.{take_all}
use Rattle.spe_crash.proofs.FrontLemmas.{HaveOneFront, size_same}
use Rattle.std.specs.List.{find}
use Rattle.spe_model.specs.declared.header.Header as headers
use Rattle.spe_model.specs.declared.header.HeaderFault.{HeaderFault}
use Rattle.spe_model.specs.Header.{has_fault, header_of, page_count_of, page_size_at, unless, faults, fields}

-- the front of the recovered page 1 names the page size of the file
pub laid_size : (old new rest : List ℕ) → length old ≡ 100 → length new ≡ 100 → new ≡ take 24 old ++ rest → page_size_at new ≡ page_size_at old
laid_size old new rest long_old long_new is =
    let front : take 24 new ≡ take 24 old =
    ap (take 24) is ∙ ap (λ (n : ℕ). take n (take 24 old ++ rest)) (sym (length_of old long_old)) ∙ take-append_seam (take 24 old) rest in
    let one : HaveOneFront old new = record { front = front; long_old = omega arith; long_new = omega arith } in
    ap page_size_at (sym (all_of new long_new)) ∙ size_same old new one ∙ ap page_size_at (all_of old long_old)
  where
    length_of : (xs : List ℕ) → length xs ≡ 100 → length (take 24 xs) ≡ 24
    length_of xs long = length-take 24 xs ∙ omega (arith, long)

    all_of : (xs : List ℕ) → length xs ≡ 100 → take 100 xs ≡ xs
    all_of xs long = take_all 100 xs (omega (arith, long))

counts_one : (h : headers.Header) (size : ℕ) → 1 ≤ page_count_of h size
counts_one h size = by_valid h.pages (h.change == h.valid_for)
  where
    by_valid : (pages : ℕ) (same : Bool) → 1 ≤ (if not (pages == 0) && same then pages else max 1 (size / h.page_size))
    by_valid zero same = grind arith
    by_valid (suc n) true = grind arith
    by_valid (suc n) false = grind arith

pub some_count : (h : headers.Header) (size count : ℕ) → count ≡ page_count_of h size → 1 ≤ count
some_count h size count is = rw is (counts_one h size)

header_names : (found : Option HeaderFault) (bytes : List ℕ) (h : headers.Header) → unless found (fields bytes) ≡ Ok h → h.page_size ≡ page_size_at bytes
header_names None bytes h e = let same : fields bytes ≡ h = cc in ap (λ (h : headers.Header). h.page_size) (sym same)
header_names (Some f) bytes h e = absurd cc

-- the page size of a header is that at its place
pub header_size : (bytes : List ℕ) (h : headers.Header) → header_of bytes ≡ Ok h → h.page_size ≡ page_size_at bytes
header_size bytes h e = header_names (find (has_fault bytes) faults) bytes h e
