-- The interior pages of a tree, one after the other.
use Rattle.std.proofs.Common.{◌≡◌, ◌≢◌, ◌⊎◌, inl, inr, ℕ, zero, suc, ◌+◌, ◌-◌, ◌≤◌, List, [], ◌∷◌, length, Result, Ok, Err, All, refl, sym, ap, ◌∙◌, subst, take, arith}
use Rattle.std.specs.List.{flat_map}
use Rattle.std.proofs.lemmas.List.Elements.{All-cons, All-head, All-nil, All-tail}
use Rattle.spe_model.specs.declared.page.Cell.{Cell}
use Rattle.spe_model.specs.declared.page.Kind.{Kind}
use Rattle.spe_model.specs.declared.page.Kind.TheVariants.{TableInterior, TableLeaf}
use Rattle.spe_model.specs.declared.page.PageCells.{PageCells}
use Rattle.spe_model.specs.declared.page.PageFault.{PageFault}
use Rattle.spe_model.specs.Page.{page_at}
use Rattle.spe_model.specs.Paging.{Agrees, PageMap, Paging, lay}
use Rattle.spe_model.specs.Served.{HasCells}
use Rattle.spe_model.specs.Standing.{AreBelow, all_pages, chain_pages}
use Rattle.spe_model.specs.Tree.{AreUnder, IsNode, IsTree, cells_in, fan, header_end, node_at, node_cells, node_right, rank, right_in}
use Rattle.spe_space.specs.declared.fault.TreeFault.{TreeFault}
use Rattle.spe_space.specs.declared.fault.TreeFault.TheVariants.{Space, Corrupt}
use Rattle.spe_space.specs.declared.pages.Pages.{Ghosts}
use Rattle.spe_space.specs.declared.fault.SpaceFault.{SpaceFault}
use Rattle.spe_space.specs.declared.fault.SpaceFault.TheVariants.{Busy, Read, Stopped, Full, PageOut, Corrupt as Spoilt, Memory}
use Rattle.spe_space.specs.Calls.{Reads, RefusesTree, sight}
use Rattle.spe_space.specs.Found.{missing_weaker}
use Rattle.spe_space.specs.Outcome.{FitsGet, IsInside, OnPageOut}
use Rattle.spe_opening.specs.Below.{children, IsNodeRead, StandsBelow, Tests, WhereStands}
use Rattle.spe_opening.proofs.ListLemmas.{all_behind, all_front}

-- what is said of the pages of a space after gets is said of them before
pub was_same : {P : Type 0} (g : Ghosts P) (early now : P) (pages : Paging) (Q : ℕ → Paging → Type 0) → Reads g early now → Q (g.used now) (sight g now pages) → Q (g.used early) (sight g early pages)
was_same g early now pages Q reads is =
    subst (λ (laid : PageMap). Q (g.used early) (lay laid pages)) reads.laid (subst (λ (u : ℕ). Q u (sight g now pages)) reads.used is)

pub seen_same : {P : Type 0} (g : Ghosts P) (early now : P) (pages : Paging) (Q : ℕ → Paging → Type 0) → Reads g early now → Q (g.used early) (sight g early pages) → Q (g.used now) (sight g now pages)
seen_same g early now pages Q reads is =
    subst (λ (u : ℕ). Q u (sight g now pages)) (sym reads.used) (subst (λ (laid : PageMap). Q (g.used early) (lay laid pages)) (sym reads.laid) is)

pub some_node : (x y : PageCells) (r : Result PageCells PageFault) → r ≡ Ok x → r ≡ Ok y → x ≡ y
some_node x y r a b = let both : Ok x ≡ Ok y = sym a ∙ b in cc

kind_is : (kind : Kind) (usable : ℕ) (pages : Paging) (page : ℕ) (node : PageCells) → IsNode kind usable pages page → node_at usable pages page ≡ Ok node → node.kind ≡ kind
kind_is kind usable pages page node is read =
    let one = some_node node (record { kind = kind; cells = node_cells usable pages page; right = node_right usable pages page }) _ read is in
    ap (λ (n : PageCells). n.kind) one

pub no_leaf : TableInterior ≡ TableLeaf → ⊥
no_leaf e = absurd cc

-- the kind of a page tells how high it stands
pub kind_low : (usable count : ℕ) (pages : Paging) (page : ℕ) (node : PageCells) (height : ℕ) → StandsBelow usable count pages height page → node_at usable pages page ≡ Ok node → node.kind ≢ TableInterior → 0 ≡ height
kind_low usable count pages page node zero stands read other = refl
kind_low usable count pages page node (suc h) stands read other = absurd (other (kind_is TableInterior usable pages page node stands.tree.0 read))

pub kind_high : (usable count : ℕ) (pages : Paging) (page : ℕ) (node : PageCells) → StandsBelow usable count pages zero page → node_at usable pages page ≡ Ok node → node.kind ≡ TableInterior → ⊥
kind_high usable count pages page node stands read interior = no_leaf (sym interior ∙ kind_is TableLeaf usable pages page node stands.tree.0 read)

-- the page itself is one of so many
page_inside : (usable count : ℕ) (pages : Paging) (height page : ℕ) → StandsBelow usable count pages height page → IsInside count page
page_inside usable count pages zero page stands = All-head (IsInside count) page _ stands.within
page_inside usable count pages (suc h) page stands = All-head (IsInside count) page _ stands.within

-- a page under which a tree stands can be read
legal_page : (usable count : ℕ) (pages : Paging) (height page : ℕ) → StandsBelow usable count pages height page
    → ((node : PageCells) → node_at usable pages page ≡ Ok node → ⊥) → ⊥
legal_page usable count pages zero page stands none = none _ stands.tree.0
legal_page usable count pages (suc h) page stands none = none _ stands.tree.0

-- why a page was not got
pub get_failed : (count page : ℕ) (fault : SpaceFault) → FitsGet count page fault → OnPageOut (λ at. at ≡ page) fault
get_failed count page (Busy at word) fits = tt
get_failed count page Read fits = tt
get_failed count page (Stopped op) fits = tt
get_failed count page (Full pages) fits = tt
get_failed count page (PageOut at pages) fits = fits.0
get_failed count page (Spoilt at) fits = tt
get_failed count page Memory fits = tt

-- a page that was got
pub node_same : (u v at : ℕ) (buf bytes : List ℕ) (node : PageCells) → u ≡ v → buf ≡ bytes → page_at (take u buf) at ≡ Ok node → page_at (take v bytes) at ≡ Ok node
node_same u v at buf bytes node used is legal = rw (used, is) at legal

pub node_lost : (usable u : ℕ) (pages : Paging) (page : ℕ) (buf : List ℕ) (fault : TreeFault) → u ≡ usable → buf ≡ pages page
    → ((node : PageCells) → page_at (take u buf) (header_end page) ≡ Ok node → fault ≡ Space Memory) → (fault ≡ Space Memory) ⊎ (fault ≡ Corrupt page) → IsNodeRead usable pages page (Err fault)
node_lost usable u pages page buf fault used is legal only = elim only [
  | inl e ↦ subst (λ (f : TreeFault). IsNodeRead usable pages page (Err f)) (sym e) tt
  | inr e ↦ subst (λ (f : TreeFault). IsNodeRead usable pages page (Err f)) (sym e) (λ node read.
      absurd (let both : Corrupt page ≡ Space Memory = sym e ∙ legal node (rw (used, is) read) in cc))
]

pub node_refused : {P : Type 0} (g : Ghosts P) (old new : P) (page : ℕ) (fault : TreeFault) → (fault ≡ Space Memory) ⊎ (fault ≡ Corrupt page) → g.refusal new ≡ g.refusal old
    → RefusesTree {X = PageCells} g old new (Err fault)
node_refused g old new page fault only same = elim only [
  | inl e ↦ subst (λ (f : TreeFault). RefusesTree {X = PageCells} g old new (Err f)) (sym e) same
  | inr e ↦ subst (λ (f : TreeFault). RefusesTree {X = PageCells} g old new (Err f)) (sym e) same
]

-- the fault of reading a page, as the answer of a test below it
pub unread : (usable count : ℕ) (pages : Paging) (height page : ℕ) (fault : TreeFault) → StandsBelow usable count pages height page → IsNodeRead usable pages page (Err fault)
    → (X : Type 0) (Fact : Type 0) → Tests {X = X} usable count pages Fact (Err fault)
unread usable count pages height page (Space f) stands is X Fact =
    missing_weaker (λ at. at ≡ page) (IsInside count) (Space f) (λ n same. subst (IsInside count) (sym same) (page_inside usable count pages height page stands)) is
unread usable count pages height page (Corrupt at) stands is X Fact = absurd (legal_page usable count pages height page stands is)

-- children that stand
under_stands : (usable count : ℕ) (pages : Paging) (h low high : ℕ) (cells : List Cell) (right : ℕ) → AreUnder (IsTree usable pages h) low high cells right
    → All (IsInside count) (fan (all_pages usable pages h) cells right) → AreBelow (StandsBelow usable count pages h) cells right
under_stands usable count pages h low high [] right under all = record { low = low; high = high; tree = under; within = all }
under_stands usable count pages h low high (c ∷ cs) right under all = (
  record {
    low = low;
    high = rank c.key + 1;
    tree = under.2;
    within = all_front (IsInside count) (all_pages usable pages h c.left) (fan (all_pages usable pages h) cs right) all;
  },
  under_stands usable count pages h (rank c.key + 1) high cs right under.3
      (all_behind (IsInside count) (all_pages usable pages h c.left) (fan (all_pages usable pages h) cs right) all),
)

-- an interior page as it was read
pub record IsInterior (usable count : ℕ) (pages : Paging) (h page : ℕ) (node : PageCells) : Type 0 where
  pub interior : IsNode TableInterior usable pages page
  pub cells_are : node_cells usable pages page ≡ node.cells
  pub right_is : node_right usable pages page ≡ node.right
  pub children : AreBelow (StandsBelow usable count pages h) node.cells node.right

pub read_interior : (usable count : ℕ) (pages : Paging) (h page : ℕ) (node : PageCells) → StandsBelow usable count pages (suc h) page → node_at usable pages page ≡ Ok node
    → IsInterior usable count pages h page node
read_interior usable count pages h page node stands read =
    let cells = node_cells usable pages page in
    let right = node_right usable pages page in
    let cells_are : cells ≡ node.cells = ap cells_in read in
    let right_is : right ≡ node.right = ap right_in read in
    let below = under_stands usable count pages h stands.low stands.high cells right stands.tree.1
    (all_behind (IsInside count) (flat_map (chain_pages usable pages) cells) (fan (all_pages usable pages h) cells right) (All-tail (IsInside count) page _ stands.within)) in
    record {
      interior = stands.tree.0;
      cells_are = cells_are;
      right_is = right_is;
      children = subst (λ (r : ℕ). AreBelow (StandsBelow usable count pages h) node.cells r) right_is
          (subst (λ (cs : List Cell). AreBelow (StandsBelow usable count pages h) cs right) cells_are below);
    }

-- children as a list
below_all : (T : ℕ → Type 0) (cells : List Cell) (right : ℕ) → AreBelow T cells right → All T (children cells right)
below_all T [] right are = All-cons T right [] are (All-nil T)
below_all T (c ∷ cs) right are = All-cons T c.left (children cs right) are.0 (below_all T cs right are.1)

all_below : (T : ℕ → Type 0) (cells : List Cell) (right : ℕ) → All T (children cells right) → AreBelow T cells right
all_below T [] right all = All-head T right [] all
all_below T (c ∷ cs) right all = (All-head T c.left (children cs right) all, all_below T cs right (All-tail T c.left (children cs right) all))

-- These children of an interior page are left; it has a cell, and those before them are filled.
pub record HasLeft (usable count : ℕ) (pages : Paging) (h page : ℕ) (left : List ℕ) : Type 0 where
  pub stand : All (StandsBelow usable count pages h) left
  pub filled : All (HasCells usable pages h) left → HasCells usable pages (suc h) page
  pub needed : HasCells usable pages (suc h) page → All (HasCells usable pages h) left

abbrev pub IsTesting : {P : Type 0} (g : Ghosts P) (early now : P) (page height : ℕ) (left : List ℕ) → Type 0
IsTesting g early now page height left =
    (pages : Paging) → Agrees pages (g.seen now) → (count h : ℕ) → height ≡ suc h → StandsBelow (g.used early) count (sight g early pages) (suc h) page
    → HasLeft (g.used early) count (sight g early pages) h page left

-- what a test below a page answers
abbrev pub TestsBelow : {P X : Type 0} (g : Ghosts P) (early late : P) (page height : ℕ) (result : Result X TreeFault) → Type 0
TestsBelow g early late page height result =
    WhereStands g early late page (λ count pages levels. height ≡ levels → Tests (g.used early) count pages (HasCells (g.used early) pages levels page) result)

-- an interior page, by its children
whole_from : (usable count : ℕ) (pages : Paging) (h page : ℕ) (node : PageCells) → IsInterior usable count pages h page node → (page ≡ 1) ⊎ (1 ≤ length node.cells)
    → All (HasCells usable pages h) (children node.cells node.right) → HasCells usable pages (suc h) page
whole_from usable count pages h page node is some all =
    let own : ((page ≡ 1) ⊎ (1 ≤ length node.cells)) × AreBelow (HasCells usable pages h) node.cells node.right = (some, all_below (HasCells usable pages h) node.cells node.right all) in
    subst (λ (cs : List Cell). ((page ≡ 1) ⊎ (1 ≤ length cs)) × AreBelow (HasCells usable pages h) cs (node_right usable pages page)) (sym is.cells_are)
    (subst (λ (r : ℕ). ((page ≡ 1) ⊎ (1 ≤ length node.cells)) × AreBelow (HasCells usable pages h) node.cells r) (sym is.right_is) own)

left_from : (usable count : ℕ) (pages : Paging) (h page : ℕ) (node : PageCells) → IsInterior usable count pages h page node
    → HasCells usable pages (suc h) page → All (HasCells usable pages h) (children node.cells node.right)
left_from usable count pages h page node is whole =
    below_all (HasCells usable pages h) node.cells node.right
    (subst (λ (r : ℕ). AreBelow (HasCells usable pages h) node.cells r) is.right_is
    (subst (λ (cs : List Cell). AreBelow (HasCells usable pages h) cs (node_right usable pages page)) is.cells_are whole.1))

-- a fact that another follows from and leads to
pub tests_as : {X : Type 0} (usable count : ℕ) (pages : Paging) (A B : Type 0) (result : Result X TreeFault) → (A → B) → (B → A) → Tests usable count pages A result → Tests usable count pages B result
tests_as usable count pages A B (Ok x) there back is = there is
tests_as usable count pages A B (Err (Space f)) there back is = is
tests_as usable count pages A B (Err (Corrupt at)) there back is = (is.0, λ b. is.1 (back b))

pub fails_as : (X : Type 0) (usable count : ℕ) (pages : Paging) (A B : Type 0) (fault : TreeFault) → (B → A) → Tests {X = X} usable count pages A (Err fault) → Tests {X = X} usable count pages B (Err fault)
fails_as X usable count pages A B (Space f) back is = is
fails_as X usable count pages A B (Corrupt at) back is = (is.0, λ b. is.1 (back b))

-- a leaf
pub leaf_tested : (usable : ℕ) (pages : Paging) (page height levels : ℕ) → height ≡ 0 → height ≡ levels → HasCells usable pages levels page
leaf_tested usable pages page height zero low same = tt
leaf_tested usable pages page height (suc h) low same = absurd (omega (arith, low, same))

-- a page that could not be read
pub page_unread : {P : Type 0} (X : Type 0) (g : Ghosts P) (early late : P) (page height : ℕ) (fault : TreeFault)
    → ((pages : Paging) → Agrees pages (g.seen late) → IsNodeRead (g.used early) (sight g early pages) page (Err fault)) → TestsBelow {X = X} g early late page height (Err fault)
page_unread X g early late page height fault read pages agrees count levels stands same =
    unread (g.used early) count (sight g early pages) levels page fault stands (read pages agrees) X (HasCells (g.used early) (sight g early pages) levels page)

no_first : (page : ℕ) → page ≢ 1 → (page ≡ 1) ⊎ (1 ≤ 0) → ⊥
no_first page later some = elim some [ inl one ↦ later one | inr more ↦ absurd (omega (arith, more)) ]

is_empty : (cells : List Cell) → length cells ≡ 0 → cells ≡ []
is_empty [] none = refl
is_empty (c ∷ cs) none = absurd (omega (arith, none))

-- a bare page
pub page_bare : {P : Type 0} (X : Type 0) (g : Ghosts P) (early late : P) (page height : ℕ) (node : PageCells) → height ≢ 0 → page ≢ 1 → length node.cells ≡ 0
    → ((pages : Paging) → Agrees pages (g.seen late) → node_at (g.used early) (sight g early pages) page ≡ Ok node) → TestsBelow {X = X} g early late page height (Err (Corrupt page))
page_bare X g early late page height node high later none read pages agrees count zero stands same = absurd (high same)
page_bare X g early late page height node high later none read pages agrees count (suc h) stands same =
    let u = g.used early in
    let p = sight g early pages in
    let is = read_interior u count p h page node stands (read pages agrees) in
    let bare : node_cells u p page ≡ [] = is.cells_are ∙ is_empty node.cells none in (
      record { later = later; interior = is.interior; empty = bare },
      λ filled. no_first page later (subst (λ (cs : List Cell). (page ≡ 1) ⊎ (1 ≤ length cs)) bare filled.0),
    )

-- all children are left
pub test_begun : {P : Type 0} (g : Ghosts P) (early now : P) (page height : ℕ) (node : PageCells) (left : List ℕ) → (page ≡ 1) ⊎ (1 ≤ length node.cells) → left ≡ children node.cells node.right
    → ((pages : Paging) → Agrees pages (g.seen now) → node_at (g.used early) (sight g early pages) page ≡ Ok node) → IsTesting g early now page height left
test_begun g early now page height node left some all read pages agrees count h same stands =
    let u = g.used early in
    let p = sight g early pages in
    let is = read_interior u count p h page node stands (read pages agrees) in
    subst (HasLeft u count p h page) (sym all) (record {
      stand = below_all (StandsBelow u count p h) node.cells node.right is.children;
      filled = whole_from u count p h page node is some;
      needed = left_from u count p h page node is;
    })

less_one : (height h : ℕ) → height ≡ suc h → height - 1 ≡ h
less_one height h same = omega (arith, same)

-- what was asked of a child, seen from before
child_answer : {P X : Type 0} (g : Ghosts P) (early now late : P) (page height child : ℕ) (result : Result X TreeFault) → Reads g early now → TestsBelow g now late child (height - 1) result
    → (pages : Paging) → Agrees pages (g.seen late) → (count h : ℕ) → height ≡ suc h → StandsBelow (g.used early) count (sight g early pages) h child
    → Tests (g.used early) count (sight g early pages) (HasCells (g.used early) (sight g early pages) h child) result
child_answer g early now late page height child result kept tests pages agrees count h same stands =
    was_same g early now pages (λ u p. Tests u count p (HasCells u p h child) result) kept
    (tests pages agrees count h (seen_same g early now pages (λ u p. StandsBelow u count p h child) kept stands) (less_one height h same))

-- the test of a child failed
pub child_failed : {P : Type 0} (X : Type 0) (g : Ghosts P) (early now late : P) (page height : ℕ) (left rest : List ℕ) (child : ℕ) (fault : TreeFault)
    → height ≢ 0 → Reads g early now → Reads g now late → left ≡ child ∷ rest → IsTesting g early now page height left
    → TestsBelow {X = X} g now late child (height - 1) (Err fault) → TestsBelow {X = X} g early late page height (Err fault)
child_failed X g early now late page height left rest child fault high kept keeps e testing tests pages agrees count zero stands same = absurd (high same)
child_failed X g early now late page height left rest child fault high kept keeps e testing tests pages agrees count (suc h) stands same =
    let u = g.used early in
    let p = sight g early pages in
    let has : HasLeft u count p h page (child ∷ rest) = subst (HasLeft u count p h page) e (testing pages (keeps.earlier pages agrees) count h same stands) in
    fails_as X u count p (HasCells u p h child) (HasCells u p (suc h) page) fault (λ whole. All-head (HasCells u p h) child rest (has.needed whole))
    (child_answer {X = X} g early now late page height child (Err fault) kept tests pages agrees count h same (All-head (StandsBelow u count p h) child rest has.stand))

-- the test of a child went well
pub child_tested : {P X : Type 0} (g : Ghosts P) (early now late : P) (page height : ℕ) (left rest : List ℕ) (child : ℕ) (x : X) → Reads g early now → Reads g now late
    → left ≡ child ∷ rest → IsTesting g early now page height left → TestsBelow g now late child (height - 1) (Ok x) → IsTesting g early late page height rest
child_tested {X = X} g early now late page height left rest child x kept keeps e testing tests pages agrees count h same stands =
    let u = g.used early in
    let p = sight g early pages in
    let has : HasLeft u count p h page (child ∷ rest) = subst (HasLeft u count p h page) e (testing pages (keeps.earlier pages agrees) count h same stands) in
    let own = child_answer {X = X} g early now late page height child (Ok x) kept tests pages agrees count h same (All-head (StandsBelow u count p h) child rest has.stand) in
    record {
      stand = All-tail (StandsBelow u count p h) child rest has.stand;
      filled = λ all. has.filled (All-cons (HasCells u p h) child rest own all);
      needed = λ all. All-tail (HasCells u p h) child rest (has.needed all);
    }

-- no child is left
pub children_tested : {P X : Type 0} (g : Ghosts P) (early now : P) (page height : ℕ) (left : List ℕ) (x : X) → height ≢ 0 → left ≡ [] → IsTesting g early now page height left
    → TestsBelow g early now page height (Ok x)
children_tested g early now page height left x high e testing pages agrees count zero stands same = absurd (high same)
children_tested g early now page height left x high e testing pages agrees count (suc h) stands same =
    let u = g.used early in
    let p = sight g early pages in
    let has : HasLeft u count p h page [] = subst (HasLeft u count p h page) e (testing pages agrees count h same stands) in
    has.filled (All-nil (HasCells u p h))
