-- How deep the leaves of a tree stand, and its rows.
use Rattle.std.proofs.Common.{◌≡◌, ℕ, zero, suc, ℤ, ◌+◌, ◌<◌, List, [], ◌∷◌, map, refl, sym, ap, ◌∙◌, arith, true, false}
use Rattle.std.proofs.lemmas.List.{map-append}
use Rattle.spe_model.specs.declared.page.Cell.{Cell}
use Rattle.spe_model.specs.declared.page.Kind.TheVariants.{TableLeaf, TableInterior, IndexLeaf, IndexInterior}
use Rattle.spe_model.specs.Kind.{is_leaf}
use Rattle.spe_model.specs.Paging.{Paging}
use Rattle.spe_model.specs.Standing.{AreBelow, IsIndexTree}
use Rattle.spe_model.specs.Tree.{AreUnder, IsTree, fan, node_at, node_cells, node_right, rank, rows_of, tree_rows}
use Rattle.spe_model.specs.Walk.{fan_rows, first_child, is_leaf_page, leaf_rows, levels_at_leaf, walk_rows}
use Rattle.spe_verdict.proofs.NodeLemmas.{made_kind}

-- all leaves stand so many levels below the page
abbrev pub HasLeaves : (usable : ℕ) → Paging → (height page : ℕ) → Type 0
HasLeaves usable pages zero page = is_leaf_page usable pages page ≡ true
HasLeaves usable pages (suc height) page =
    (is_leaf_page usable pages page ≡ false) × AreBelow (HasLeaves usable pages height) (node_cells usable pages page) (node_right usable pages page)

pub below_weaker : (T U : ℕ → Type 0) → ((page : ℕ) → T page → U page) → (cells : List Cell) (right : ℕ) → AreBelow T cells right → AreBelow U cells right
below_weaker T U weaker [] right is = weaker right is
below_weaker T U weaker (c ∷ cs) right is = (weaker c.left is.0, below_weaker T U weaker cs right is.1)

pub below_first : (T : ℕ → Type 0) (cells : List Cell) (right : ℕ) → AreBelow T cells right → T (first_child cells right)
below_first T [] right is = is
below_first T (c ∷ cs) right is = is.0

pub below_under : (T : (low high page : ℕ) → Type 0) (U : ℕ → Type 0) → ((low high page : ℕ) → T low high page → U page)
    → (low high : ℕ) (cells : List Cell) (right : ℕ) → AreUnder T low high cells right → AreBelow U cells right
below_under T U weaker low high [] right is = weaker low high right is
below_under T U weaker low high (c ∷ cs) right is = (weaker low (rank c.key + 1) c.left is.2, below_under T U weaker (rank c.key + 1) high cs right is.3)

pub leaves_of_tree : (usable : ℕ) (pages : Paging) (height low high page : ℕ) → IsTree usable pages height low high page → HasLeaves usable pages height page
leaves_of_tree usable pages zero low high page is = made_kind is_leaf TableLeaf (node_at usable pages page) is.0
leaves_of_tree usable pages (suc height) low high page is = (
  made_kind is_leaf TableInterior (node_at usable pages page) is.0,
  below_under (IsTree usable pages height) (HasLeaves usable pages height) (λ l h p t. leaves_of_tree usable pages height l h p t)
      low high (node_cells usable pages page) (node_right usable pages page) is.1,
)

pub leaves_of_index : (usable : ℕ) (pages : Paging) (height page : ℕ) → IsIndexTree usable pages height page → HasLeaves usable pages height page
leaves_of_index usable pages zero page is = made_kind is_leaf IndexLeaf (node_at usable pages page) is.0
leaves_of_index usable pages (suc height) page is = (
  made_kind is_leaf IndexInterior (node_at usable pages page) is.0,
  below_weaker (IsIndexTree usable pages height) (HasLeaves usable pages height) (λ p t. leaves_of_index usable pages height p t)
      (node_cells usable pages page) (node_right usable pages page) is.2,
)

pub same_height : (usable : ℕ) (pages : Paging) (a b page : ℕ) → HasLeaves usable pages a page → HasLeaves usable pages b page → a ≡ b
same_height usable pages zero zero page x y = refl
same_height usable pages zero (suc b) page x y = let both : true ≡ false = sym x ∙ y.0 in absurd cc
same_height usable pages (suc a) zero page x y = let both : true ≡ false = sym y ∙ x.0 in absurd cc
same_height usable pages (suc a) (suc b) page x y =
    let cells = node_cells usable pages page in
    let right = node_right usable pages page in
    ap (λ (n : ℕ). suc n) (same_height usable pages a b (first_child cells right)
    (below_first (HasLeaves usable pages a) cells right x.1) (below_first (HasLeaves usable pages b) cells right y.1))

-- how many levels are left at the leaves
pub levels_left : (usable : ℕ) (pages : Paging) (levels height leaf page : ℕ)
    → 0 < leaf → levels ≡ height + leaf → HasLeaves usable pages height page → levels_at_leaf usable pages levels page ≡ leaf
levels_left usable pages zero height leaf page some at has = absurd (omega arith)
levels_left usable pages (suc levels) zero leaf page some at has = rw has (omega arith)
levels_left usable pages (suc levels) (suc height) leaf page some at has = rw has.0
    (levels_left usable pages levels height leaf (first_child (node_cells usable pages page) (node_right usable pages page)) some (omega arith)
    (below_first (HasLeaves usable pages height) (node_cells usable pages page) (node_right usable pages page) has.1))

-- a row without its leaf
abbrev pub placeless : ℕ × ℤ × List ℕ → ℤ × List ℕ
placeless r = (r.1, r.2)

placeless_leaf : (usable : ℕ) (pages : Paging) (page : ℕ) (cells : List Cell) → map placeless (leaf_rows usable pages page cells) ≡ rows_of usable pages cells
placeless_leaf usable pages page [] = refl
placeless_leaf usable pages page (c ∷ cs) = rw (placeless_leaf usable pages page cs)

placeless_fan : (T : ℕ → Type 0) (walk : ℕ → List (ℕ × ℤ × List ℕ)) (own : ℕ → List (ℤ × List ℕ)) → ((page : ℕ) → T page → map placeless (walk page) ≡ own page)
    → (cells : List Cell) (right : ℕ) → AreBelow T cells right → map placeless (fan_rows walk cells right) ≡ fan own cells right
placeless_fan T walk own each [] right is = each right is
placeless_fan T walk own each (c ∷ cs) right is =
    map-append placeless (walk c.left) (fan_rows walk cs right) ∙ rw (each c.left is.0, placeless_fan T walk own each cs right is.1) refl

-- a walk finds the rows of a tree
pub walked_rows : (usable : ℕ) (pages : Paging) (levels height leaf page : ℕ)
    → 0 < leaf → levels ≡ height + leaf → HasLeaves usable pages height page → map placeless (walk_rows usable pages levels page) ≡ tree_rows usable pages height page
walked_rows usable pages zero height leaf page some at has = absurd (omega arith)
walked_rows usable pages (suc levels) zero leaf page some at has = rw has (placeless_leaf usable pages page (node_cells usable pages page))
walked_rows usable pages (suc levels) (suc height) leaf page some at has = rw has.0
    (placeless_fan (HasLeaves usable pages height) (walk_rows usable pages levels) (tree_rows usable pages height)
    (λ p t. walked_rows usable pages levels height leaf p some (omega arith) t)
    (node_cells usable pages page) (node_right usable pages page) has.1)
