-- The pages after some commits, and after one more.
use Rattle.std.proofs.Common.{◌≡◌, ℕ, zero, suc, ◌+◌, ◌-◌, ◌<◌, ◌≤◌, List, [], ◌∷◌, ◌++◌, length, take, refl, sym, ap, ◌∙◌, arith, Bool, true, Option, Some, None, Ok, ⊎_elim}
use Rattle.std.specs.Prelude.{slice_get}
use Rattle.std.specs.List.{find, list_all}
use Rattle.std.proofs.lemmas.Bool.{and_parts, cases_lt}
use Rattle.std.proofs.lemmas.List.{take-append-le, take_all}
use Rattle.spe_model.specs.declared.header.Header.{Header}
use Rattle.spe_model.specs.declared.header.HeaderFault.{HeaderFault}
use Rattle.spe_model.specs.Header.{faults, fields, has_fault, header_of, unless}
use Rattle.spe_model.specs.Journal.{numbers_from}
use Rattle.spe_transactions.specs.Pages.{laid_pages}
use Rattle.spe_stored.specs.Sheets.{Sheets, has_sheet, pages_at}
use Rattle.spe_stored.specs.Stored.{alone}
use Rattle.spe_core.specs.Laid.{laid, laid_by, pages_of}
use Rattle.spe_core.specs.State.{Committed, State}

-- the pages by what a core began with and what was committed
abbrev pub pages_by : List ℕ → List Committed → List (List ℕ)
pages_by opening commits = laid_by (pages_of (alone opening)) commits

laid_is : (s : State) (n : ℕ) → laid s n ≡ pages_by s.opening (take n s.commits)
unfolding laid
laid_is s n = refl

pub laid_same : (s other : State) → other.opening ≡ s.opening → other.commits ≡ s.commits → (n : ℕ) → laid other n ≡ laid s n
laid_same s other opening commits n =
    laid_is other n
    ∙ ap (λ (bytes : List ℕ). pages_by bytes (take n other.commits)) opening
    ∙ ap (λ (cs : List Committed). pages_by s.opening (take n cs)) commits
    ∙ sym (laid_is s n)

laid_more : (pages : List (List ℕ)) (cs : List Committed) (c : Committed) → laid_by pages (cs ++ c ∷ []) ≡ laid_pages (laid_by pages cs) (pages_at c.written)
laid_more pages [] c = refl
laid_more pages (x ∷ xs) c = laid_more (laid_pages pages (pages_at x.written)) xs c

-- one commit more changes nothing of the pages after those before it
pub laid_before : (s other : State) (c : Committed) (n : ℕ) → other.opening ≡ s.opening → other.commits ≡ s.commits ++ c ∷ [] → n ≤ length s.commits → laid other n ≡ laid s n
laid_before s other c n opening commits within =
    laid_is other n
    ∙ ap (λ (bytes : List ℕ). pages_by bytes (take n other.commits)) opening
    ∙ ap (λ (cs : List Committed). pages_by s.opening (take n cs)) commits
    ∙ ap (λ (cs : List Committed). pages_by s.opening cs) (take-append-le n s.commits (c ∷ []) within)
    ∙ sym (laid_is s n)

-- the pages after all commits
pub laid_all : (s : State) → laid s (length s.commits) ≡ pages_by s.opening s.commits
laid_all s = laid_is s (length s.commits) ∙ ap (λ (cs : List Committed). pages_by s.opening cs) (take_all (length s.commits) s.commits (omega arith))

pub laid_next : (s other : State) (c : Committed) → other.opening ≡ s.opening → other.commits ≡ s.commits ++ c ∷ []
    → laid other (length other.commits) ≡ laid_pages (laid s (length s.commits)) (pages_at c.written)
laid_next s other c opening commits =
    laid_all other
    ∙ ap (λ (bytes : List ℕ). pages_by bytes other.commits) opening
    ∙ ap (λ (cs : List Committed). pages_by s.opening cs) commits
    ∙ laid_more (pages_of (alone s.opening)) s.commits c
    ∙ ap (λ (pages : List (List ℕ)). laid_pages pages (pages_at c.written)) (sym (laid_all s))

take_more : (cs : List Committed) (n : ℕ) (c : Committed) → slice_get cs n ≡ Some c → take (suc n) cs ≡ take n cs ++ c ∷ []
take_more [] n c found = absurd cc
take_more (x ∷ cs) zero c found = let same : x ≡ c = cc in ap (λ (y : Committed). y ∷ []) same
take_more (x ∷ cs) (suc n) c found = ap (λ (l : List Committed). x ∷ l) (take_more cs n c found)

-- a commit lays what it wrote over the pages after those before it
pub laid_after : (s : State) (n : ℕ) (c : Committed) → slice_get s.commits n ≡ Some c → laid s (n + 1) ≡ laid_pages (laid s n) (pages_at c.written)
laid_after s n c found =
    let next : n + 1 ≡ suc n = omega arith in
    laid_is s (n + 1)
    ∙ ap (λ (m : ℕ). pages_by s.opening (take m s.commits)) next
    ∙ ap (λ (cs : List Committed). pages_by s.opening cs) (take_more s.commits n c found)
    ∙ laid_more (pages_of (alone s.opening)) (take n s.commits) c
    ∙ ap (λ (pages : List (List ℕ)). laid_pages pages (pages_at c.written)) (sym (laid_is s n))

-- a header that is legal is that of its fields
pub header_fields : (bytes : List ℕ) (h : Header) → header_of bytes ≡ Ok h → fields bytes ≡ h
header_fields bytes h e = by_found (find (has_fault bytes) faults) (fields bytes) e
  where
    by_found : (found : Option HeaderFault) (x : Header) → unless found x ≡ Ok h → x ≡ h
    by_found None x same = cc
    by_found (Some fault) x same = absurd cc

one_numbered : (test : ℕ → Bool) (n count p : ℕ) → list_all test (numbers_from n count) ≡ true → n ≤ p → p < n + count → test p ≡ true
one_numbered test n zero p all low high = absurd (omega arith)
one_numbered test n (suc count) p all low high =
    let parts = and_parts (test n) (list_all test (numbers_from (n + 1) count)) all in
    ⊎_elim
    (λ (later : n < p). one_numbered test (n + 1) count p parts.1 (omega arith) (omega arith))
    (λ (here : p ≤ n). let same : n ≡ p = omega arith in rw (← same) parts.0)
    (cases_lt n p)

pub written_up : (count pages : ℕ) (written : Sheets) (p : ℕ) → list_all (λ q. has_sheet q written) (numbers_from (count + 1) (pages - count)) ≡ true → count < p → p ≤ pages → has_sheet p written ≡ true
written_up count pages written p all above within = one_numbered (λ q. has_sheet q written) (count + 1) (pages - count) p all (omega arith) (omega arith)
