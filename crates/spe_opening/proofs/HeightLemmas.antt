-- How high a tree is.
use Rattle.std.proofs.Common.{◌≡◌, ◌≢◌, ℕ, zero, suc, ◌+◌, ◌-◌, ◌<◌, List, [], ◌∷◌, Result, Ok, Err, refl, sym, ap, subst, arith}
use Rattle.spe_model.specs.declared.page.Cell.{Cell}
use Rattle.spe_model.specs.declared.page.Kind.TheVariants.{TableInterior}
use Rattle.spe_model.specs.declared.page.PageCells.{PageCells}
use Rattle.spe_model.specs.Paging.{Agrees, Paging}
use Rattle.spe_model.specs.Standing.{AreBelow}
use Rattle.spe_model.specs.Tree.{AreUnder, IsTree, node_at, node_cells, node_right, rank}
use Rattle.spe_space.specs.declared.fault.TreeFault.{TreeFault}
use Rattle.spe_space.specs.declared.fault.TreeFault.TheVariants.{Space, Corrupt}
use Rattle.spe_space.specs.declared.pages.Pages.{Ghosts}
use Rattle.spe_space.specs.Calls.{Reads, sight}
use Rattle.spe_opening.specs.Below.{IsHeight, IsNodeRead, StandsBelow, WhereStands, first_child}
use Rattle.spe_opening.proofs.BelowLemmas.{kind_high, kind_low, no_leaf, read_interior, seen_same, some_node, unread}

-- the left-most child of children that stand
first_stands : (T : ℕ → Type 0) (cells : List Cell) (right : ℕ) → AreBelow T cells right → T (first_child cells right)
first_stands T [] right are = are
first_stands T (c ∷ cs) right are = are.0

abbrev pub TellsHeight : {P : Type 0} (g : Ghosts P) (early late : P) (page levels : ℕ) (result : Result ℕ TreeFault) → Type 0
TellsHeight g early late page levels result = WhereStands g early late page (λ count pages height. height < levels → IsHeight count height result)

abbrev pub IsSeen : {P : Type 0} (g : Ghosts P) (early late : P) (page : ℕ) (node : PageCells) → Type 0
IsSeen g early late page node = (pages : Paging) → Agrees pages (g.seen late) → node_at (g.used early) (sight g early pages) page ≡ Ok node

fault_height : (usable count : ℕ) (pages : Paging) (height page : ℕ) (fault : TreeFault) → StandsBelow usable count pages height page → IsNodeRead usable pages page (Err fault) → IsHeight count height (Err fault)
fault_height usable count pages height page (Space f) stands is = unread usable count pages height page (Space f) stands is ℕ (Unit {0})
fault_height usable count pages height page (Corrupt at) stands is = (unread usable count pages height page (Corrupt at) stands is ℕ (Unit {0})).1 tt

-- a page that could not be read
pub height_unread : {P : Type 0} (g : Ghosts P) (early late : P) (page levels : ℕ) (fault : TreeFault)
    → ((pages : Paging) → Agrees pages (g.seen late) → IsNodeRead (g.used early) (sight g early pages) page (Err fault)) → TellsHeight g early late page levels (Err fault)
height_unread g early late page levels fault read pages agrees count height stands low =
    fault_height (g.used early) count (sight g early pages) height page fault stands (read pages agrees)

-- a leaf
pub height_low : {P : Type 0} (g : Ghosts P) (early late : P) (page levels : ℕ) (node : PageCells) → node.kind ≢ TableInterior → IsSeen g early late page node → TellsHeight g early late page levels (Ok 0)
height_low g early late page levels node other read pages agrees count height stands low =
    kind_low (g.used early) count (sight g early pages) page node height stands (read pages agrees) other

-- what was answered of the left-most child, seen from before
first_answer : {P : Type 0} (g : Ghosts P) (early now late : P) (page levels child : ℕ) (node : PageCells) (result : Result ℕ TreeFault) → Reads g early now → Reads g now late → IsSeen g early now page node
    → child ≡ first_child node.cells node.right → TellsHeight g now late child (levels - 1) result
    → (pages : Paging) → Agrees pages (g.seen late) → (count h : ℕ) → StandsBelow (g.used early) count (sight g early pages) (suc h) page → suc h < levels → IsHeight count h result
first_answer g early now late page levels child node result kept keeps read same tells pages agrees count h stands low =
    let is = read_interior (g.used early) count (sight g early pages) h page node stands (read pages (keeps.earlier pages agrees)) in
    let first = first_stands (StandsBelow (g.used early) count (sight g early pages) h) node.cells node.right is.children in
    tells pages agrees count h
    (seen_same g early now pages (λ u p. StandsBelow u count p h child) kept (subst (StandsBelow (g.used early) count (sight g early pages) h) (sym same) first))
    (omega (arith, low))

-- one level more
pub height_more : {P : Type 0} (g : Ghosts P) (early now late : P) (page levels child more : ℕ) (node : PageCells) → Reads g early now → Reads g now late → IsSeen g early now page node
    → node.kind ≡ TableInterior → child ≡ first_child node.cells node.right → TellsHeight g now late child (levels - 1) (Ok more) → TellsHeight g early late page levels (Ok (more + 1))
height_more g early now late page levels child more node kept keeps read interior same tells pages agrees count zero stands low =
    absurd (kind_high (g.used early) count (sight g early pages) page node stands (read pages (keeps.earlier pages agrees)) interior)
height_more g early now late page levels child more node kept keeps read interior same tells pages agrees count (suc h) stands low =
    let is = first_answer g early now late page levels child node (Ok more) kept keeps read same tells pages agrees count h stands low in omega (arith, is)

fault_up : (count h height : ℕ) (fault : TreeFault) → IsHeight count h (Err fault) → IsHeight count height (Err fault)
fault_up count h height (Space f) is = is
fault_up count h height (Corrupt at) is = is

pub height_failed : {P : Type 0} (g : Ghosts P) (early now late : P) (page levels child : ℕ) (node : PageCells) (fault : TreeFault) → Reads g early now → Reads g now late → IsSeen g early now page node
    → node.kind ≡ TableInterior → child ≡ first_child node.cells node.right → TellsHeight g now late child (levels - 1) (Err fault) → TellsHeight g early late page levels (Err fault)
height_failed g early now late page levels child node fault kept keeps read interior same tells pages agrees count zero stands low =
    absurd (kind_high (g.used early) count (sight g early pages) page node stands (read pages (keeps.earlier pages agrees)) interior)
height_failed g early now late page levels child node fault kept keeps read interior same tells pages agrees count (suc h) stands low =
    fault_up count h (suc h) fault (first_answer g early now late page levels child node (Err fault) kept keeps read same tells pages agrees count h stands low)

-- some child is a tree
record IsChild (T : ℕ → ℕ → ℕ → Type 0) (child : ℕ) : Type 0 where
  low : ℕ
  high : ℕ
  tree : T low high child

first_tree : (T : ℕ → ℕ → ℕ → Type 0) (low high : ℕ) (cells : List Cell) (right : ℕ) → AreUnder T low high cells right → IsChild T (first_child cells right)
first_tree T low high [] right under = record { low = low; high = high; tree = under }
first_tree T low high (c ∷ cs) right under = record { low = low; high = rank c.key + 1; tree = under.2 }

-- a page has trees of one height alone
pub one_height : (usable : ℕ) (pages : Paging) (a b low high from to page : ℕ) → IsTree usable pages a low high page → IsTree usable pages b from to page → a ≡ b
one_height usable pages zero zero low high from to page s t = refl
one_height usable pages zero (suc b) low high from to page s t = absurd (no_leaf (ap (λ (n : PageCells). n.kind) (some_node _ _ _ t.0 s.0)))
one_height usable pages (suc a) zero low high from to page s t = absurd (no_leaf (ap (λ (n : PageCells). n.kind) (some_node _ _ _ s.0 t.0)))
one_height usable pages (suc a) (suc b) low high from to page s t =
    let cells = node_cells usable pages page in
    let right = node_right usable pages page in
    let x = first_tree (IsTree usable pages a) low high cells right s.1 in
    let y = first_tree (IsTree usable pages b) from to cells right t.1 in
    ap suc (one_height usable pages a b x.low x.high y.low y.high (first_child cells right) x.tree y.tree)
