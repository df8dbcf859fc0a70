-- Walking over the free lists.
use Rattle.std.specs.Prelude.{◌≡◌, ℕ, ◌+◌, ◌*◌, ◌==◌, List, [], ◌∷◌, ◌++◌, map, length, take, Result, Ok, IfOk}
use Rattle.std.specs.List.{flat_map}
use Rattle.spe_model.specs.declared.header.Header.{Header}
use Rattle.spe_model.specs.Big.{u32_at}
use Rattle.spe_model.specs.FreeList.{first_trunks}
use Rattle.spe_model.specs.Header.{header_of}
use Rattle.spe_model.specs.Journal.{numbers_from}
use Rattle.spe_model.specs.Paging.{Paging}
use Rattle.spe_model.specs.Verdict.{free_marks, free_pages, list_marks, node_marks}
use Rattle.spe_model.specs.Walk.{Mark, Keeps, trunk_marks, walk_trunks}
use Rattle.spe_space.specs.declared.pages.Pages.{Ghosts}
use Rattle.spe_check.specs.declared.met.Met.{Met}
use Rattle.spe_check.specs.declared.halt.Halt.{Halt}
use Rattle.spe_check.specs.MetPages.{has_met}
use Rattle.spe_check.specs.Shown.{Each}
use Rattle.spe_check.specs.Tries.{Leads, Tries}

-- marks are tried, and so many pages are counted
abbrev pub TriesPages : (before after : Met) → List Mark → (counted : List ℕ) → Result ℕ Halt → Type 0
TriesPages before after marks counted result =
    Tries before.pages (has_met before) (has_met after) marks result × IfOk result (λ free. free ≡ length counted)

abbrev pub TriesList : {P : Type 0} (g : Ghosts P) (late : P) (before after : Met) (node first : ℕ) → Result ℕ Halt → Type 0
TriesList g late before after node first result =
    Each g late (λ usable pages. TriesPages before after (list_marks usable before.pages pages node first) (walk_trunks pages before.pages first) result)

-- so many first trunks, as the bytes of a node page name them
abbrev pub firsts_in : List ℕ → (count : ℕ) → List ℕ
firsts_in bytes count = map (λ i. u32_at bytes (4 + 4 * i)) (numbers_from 0 count)

abbrev pub lists_marks : (usable count : ℕ) → Paging → (node : ℕ) → (firsts : List ℕ) → List Mark
lists_marks usable count pages node firsts = flat_map (list_marks usable count pages node) firsts

abbrev pub lists_pages : (count : ℕ) → Paging → (firsts : List ℕ) → List ℕ
lists_pages count pages firsts = flat_map (walk_trunks pages count) firsts

abbrev pub TriesLists : {P : Type 0} (g : Ghosts P) (late : P) (before after : Met) (node : ℕ) (names : List ℕ) (count : ℕ) → Result ℕ Halt → Type 0
TriesLists g late before after node names count result =
    Each g late (λ usable pages. TriesPages before after (lists_marks usable before.pages pages node (firsts_in names count)) (lists_pages before.pages pages (firsts_in names count)) result)

-- in the loop: what was tried and counted, and what is left
pub record AreAmong (usable : ℕ) (pages : Paging) (before now : Met) (node : ℕ) (firsts left : List ℕ) (free : ℕ) : Type 0 where
  pub tried : Leads before.pages (has_met before) (lists_marks usable before.pages pages node firsts) (has_met now) (lists_marks usable before.pages pages node left)
  pub counted : free + length (lists_pages before.pages pages left) ≡ length (lists_pages before.pages pages firsts)

abbrev pub TriesNode : {P : Type 0} (g : Ghosts P) (late : P) (before after : Met) (node : ℕ) → Result ℕ Halt → Type 0
TriesNode g late before after node result =
    Each g late (λ usable pages. TriesPages before after (node_marks usable before.pages pages node) (lists_pages before.pages pages (first_trunks pages node)) result)

-- a chain, and then whether it has as many pages as page 1 says
abbrev pub numbered_marks : (usable count : ℕ) → Paging → (first number : ℕ) → List Mark
numbered_marks usable count pages first number =
    trunk_marks usable pages count 1 first ++ Keeps 1 10 (length (walk_trunks pages count first) == number) ∷ []

abbrev pub TriesStock : {P : Type 0} (g : Ghosts P) (late : P) (before after : Met) (first number : ℕ) → Result ℕ Halt → Type 0
TriesStock g late before after first number result =
    Each g late (λ usable pages. TriesPages before after (numbered_marks usable before.pages pages first number) (walk_trunks pages before.pages first) result)

-- the free lists of pages that begin with this header
abbrev pub TriesFree : {P : Type 0} (g : Ghosts P) (late : P) (before after : Met) → Header → Result ℕ Halt → Type 0
TriesFree g late before after header result =
    Each g late (λ usable pages. header_of (take 100 (pages 1)) ≡ Ok header → TriesPages before after (free_marks usable before.pages pages) (free_pages before.pages pages) result)
