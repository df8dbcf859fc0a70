-- The tree of a table.
use Rattle.std.proofs.Common.{◌≡◌, ℕ, Bool, true, false, Result, Ok, Err, subst, is_some}
use Rattle.spe_model.specs.declared.catalog.Entry.{Entry}
use Rattle.spe_model.specs.Paging.{Paging}
use Rattle.spe_model.specs.Served.{HasCells}
use Rattle.spe_model.specs.Standing.{Whether}
use Rattle.spe_space.specs.declared.fault.TreeFault.{TreeFault}
use Rattle.spe_space.specs.declared.fault.TreeFault.TheVariants.{Space, Corrupt}
use Rattle.spe_space.specs.declared.pages.Pages.{Ghosts}
use Rattle.spe_space.specs.Calls.{Reads, sight}
use Rattle.spe_opening.specs.Below.{IsEntryFilled, IsFilledUnder, IsHeight, StandsBelow, StandsUnder, Tests, TestsEntry, TestsTable}
use Rattle.spe_opening.proofs.BelowLemmas.{TestsBelow, seen_same, tests_as, was_same}
use Rattle.spe_opening.proofs.HeightLemmas.{TellsHeight, one_height}

-- a root as a page
pub below_root : (usable count : ℕ) (pages : Paging) (root : ℕ) → (stands : StandsUnder usable count pages root) → StandsBelow usable count pages stands.height root
below_root usable count pages root stands = record { low = 0; high = 18446744073709551616; tree = stands.tree.1; within = stands.within }

fault_of_height : (X : Type 0) (usable count : ℕ) (pages : Paging) (height : ℕ) (Fact : Type 0) (fault : TreeFault) → IsHeight count height (Err fault) → Tests {X = X} usable count pages Fact (Err fault)
fault_of_height X usable count pages height Fact (Space f) is = is
fault_of_height X usable count pages height Fact (Corrupt at) is = absurd is

-- the height could not be told
pub table_unread : {P : Type 0} (X : Type 0) (g : Ghosts P) (early late : P) (root : ℕ) (fault : TreeFault) → TellsHeight g early late root 20 (Err fault) → TestsTable {X = X} g early late root (Err fault)
table_unread X g early late root fault tells pages agrees count stands =
    fault_of_height X (g.used early) count (sight g early pages) stands.height (IsFilledUnder (g.used early) (sight g early pages) root) fault
    (tells pages agrees count stands.height (below_root (g.used early) count (sight g early pages) root stands) stands.tree.0)

-- the test of the root's tree is that of the table
pub table_tested : {P X : Type 0} (g : Ghosts P) (early now late : P) (root height : ℕ) (result : Result X TreeFault) → Reads g early now → Reads g now late
    → TellsHeight g early now root 20 (Ok height) → TestsBelow g now late root height result → TestsTable g early late root result
table_tested g early now late root height result kept keeps tells tests pages agrees count stands =
    let u = g.used early in
    let p = sight g early pages in
    let below = below_root u count p root stands in
    let is : height ≡ stands.height = tells pages (keeps.earlier pages agrees) count stands.height below stands.tree.0 in
    tests_as u count p (HasCells u p stands.height root) (IsFilledUnder u p root) result
    (λ has h tree. subst (λ (n : ℕ). HasCells u p n root) (one_height u p stands.height h 0 18446744073709551616 0 18446744073709551616 root stands.tree.1 tree.1) has)
    (λ filled. filled stands.height stands.tree)
    (was_same g early now pages (λ v q. Tests v count q (HasCells v q stands.height root) result) kept
    (tests pages agrees count stands.height (seen_same g early now pages (λ v q. StandsBelow v count q stands.height root) kept below) is))

whether_true : (b : Bool) (A B : Type 0) → b ≡ true → A → Whether b A B
whether_true true A B is a = a
whether_true false A B is a = absurd cc

whether_false : (b : Bool) (A B : Type 0) → b ≡ false → B → Whether b A B
whether_false false A B is b = b
whether_false true A B is b = absurd cc

in_false : (b : Bool) (A B : Type 0) → b ≡ false → Whether b A B → B
in_false false A B is x = x
in_false true A B is x = absurd cc

-- a closed table
pub entry_closed : {P X : Type 0} (g : Ghosts P) (early late : P) (entry : Entry) (x : X) → is_some entry.table.closed ≡ true → TestsEntry g early late entry (Ok x)
entry_closed g early late entry x closed pages agrees count stands =
    whether_true (is_some entry.table.closed) (Unit {0}) (IsFilledUnder (g.used early) (sight g early pages) entry.root) closed tt

-- an open one
pub entry_open : {P X : Type 0} (g : Ghosts P) (early late : P) (entry : Entry) (result : Result X TreeFault) → is_some entry.table.closed ≡ false → TestsTable g early late entry.root result
    → TestsEntry g early late entry result
entry_open g early late entry result free tests pages agrees count stands =
    let u = g.used early in
    let p = sight g early pages in
    let filled = IsFilledUnder u p entry.root in
    tests_as u count p filled (IsEntryFilled u p entry) result
    (λ is. whether_false (is_some entry.table.closed) (Unit {0}) filled free is)
    (λ is. in_false (is_some entry.table.closed) (Unit {0}) filled free is)
    (tests pages agrees count (in_false (is_some entry.table.closed) (Unit {0}) (StandsUnder u count p entry.root) free stands))
