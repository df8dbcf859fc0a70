-- Some tables, one after the other.
use Rattle.std.proofs.Common.{◌≡◌, ℕ, List, [], ◌∷◌, Result, Ok, Err, All, subst}
use Rattle.std.proofs.lemmas.List.Elements.{All-cons, All-head, All-nil, All-tail}
use Rattle.spe_model.specs.declared.catalog.Entry.{Entry}
use Rattle.spe_model.specs.Paging.{Agrees, Paging}
use Rattle.spe_space.specs.declared.fault.TreeFault.{TreeFault}
use Rattle.spe_space.specs.declared.pages.Pages.{Ghosts}
use Rattle.spe_space.specs.Calls.{Reads, sight}
use Rattle.spe_opening.specs.Below.{IsEntryFilled, IsEntryStanding, Tests, TestsEntries, TestsEntry}
use Rattle.spe_opening.proofs.BelowLemmas.{fails_as, seen_same, was_same}

-- These tables are left.
pub record AreLeft (usable count : ℕ) (pages : Paging) (entries left : List Entry) : Type 0 where
  pub stand : All (IsEntryStanding usable count pages) left
  pub filled : All (IsEntryFilled usable pages) left → All (IsEntryFilled usable pages) entries
  pub needed : All (IsEntryFilled usable pages) entries → All (IsEntryFilled usable pages) left

abbrev pub AreTesting : {P : Type 0} (g : Ghosts P) (early now : P) (entries left : List Entry) → Type 0
AreTesting g early now entries left =
    (pages : Paging) → Agrees pages (g.seen now) → (count : ℕ) → All (IsEntryStanding (g.used early) count (sight g early pages)) entries
    → AreLeft (g.used early) count (sight g early pages) entries left

pub tests_begun : {P : Type 0} (g : Ghosts P) (early now : P) (entries : List Entry) → AreTesting g early now entries entries
tests_begun g early now entries pages agrees count stand = record { stand = stand; filled = λ all. all; needed = λ all. all }

-- what was asked of a table, seen from before
entry_answer : {P X : Type 0} (g : Ghosts P) (early now late : P) (entry : Entry) (result : Result X TreeFault) → Reads g early now → TestsEntry g now late entry result
    → (pages : Paging) → Agrees pages (g.seen late) → (count : ℕ) → IsEntryStanding (g.used early) count (sight g early pages) entry
    → Tests (g.used early) count (sight g early pages) (IsEntryFilled (g.used early) (sight g early pages) entry) result
entry_answer g early now late entry result kept tests pages agrees count stands =
    was_same g early now pages (λ u p. Tests u count p (IsEntryFilled u p entry) result) kept
    (tests pages agrees count (seen_same g early now pages (λ u p. IsEntryStanding u count p entry) kept stands))

pub entry_failed : {P : Type 0} (X : Type 0) (g : Ghosts P) (early now late : P) (entries left rest : List Entry) (entry : Entry) (fault : TreeFault) → Reads g early now → Reads g now late
    → left ≡ entry ∷ rest → AreTesting g early now entries left → TestsEntry {X = X} g now late entry (Err fault) → TestsEntries {X = X} g early late entries (Err fault)
entry_failed X g early now late entries left rest entry fault kept keeps e testing tests pages agrees count stand =
    let u = g.used early in
    let p = sight g early pages in
    let has : AreLeft u count p entries (entry ∷ rest) = subst (AreLeft u count p entries) e (testing pages (keeps.earlier pages agrees) count stand) in
    fails_as X u count p (IsEntryFilled u p entry) (All (IsEntryFilled u p) entries) fault (λ all. All-head (IsEntryFilled u p) entry rest (has.needed all))
    (entry_answer {X = X} g early now late entry (Err fault) kept tests pages agrees count (All-head (IsEntryStanding u count p) entry rest has.stand))

pub entry_tested : {P X : Type 0} (g : Ghosts P) (early now late : P) (entries left rest : List Entry) (entry : Entry) (x : X) → Reads g early now → Reads g now late
    → left ≡ entry ∷ rest → AreTesting g early now entries left → TestsEntry g now late entry (Ok x) → AreTesting g early late entries rest
entry_tested g early now late entries left rest entry x kept keeps e testing tests pages agrees count stand =
    let u = g.used early in
    let p = sight g early pages in
    let has : AreLeft u count p entries (entry ∷ rest) = subst (AreLeft u count p entries) e (testing pages (keeps.earlier pages agrees) count stand) in
    let own = entry_answer g early now late entry (Ok x) kept tests pages agrees count (All-head (IsEntryStanding u count p) entry rest has.stand) in
    record {
      stand = All-tail (IsEntryStanding u count p) entry rest has.stand;
      filled = λ all. has.filled (All-cons (IsEntryFilled u p) entry rest own all);
      needed = λ all. All-tail (IsEntryFilled u p) entry rest (has.needed all);
    }

pub tests_ended : {P X : Type 0} (g : Ghosts P) (early now : P) (entries left : List Entry) (x : X) → left ≡ [] → AreTesting g early now entries left → TestsEntries g early now entries (Ok x)
tests_ended g early now entries left x e testing pages agrees count stand =
    let u = g.used early in
    let p = sight g early pages in
    let has : AreLeft u count p entries [] = subst (AreLeft u count p entries) e (testing pages agrees count stand) in
    has.filled (All-nil (IsEntryFilled u p))
