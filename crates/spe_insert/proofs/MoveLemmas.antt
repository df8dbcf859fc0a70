-- A tree whose root page has moved, while its other pages keep their bytes.
use Rattle.std.proofs.Common.{◌≡◌, ◌≢◌, ℕ, zero, suc, ◌≤◌, ◌∙◌, List, ◌∷◌, ◌++◌, length, Ok, refl, sym, ap, subst, inl, inr}
use Rattle.std.specs.Prelude.{◌⊎◌, Result}
use Rattle.std.specs.List.{flat_map}
use Rattle.spe_model.specs.declared.page.Kind.{Kind}
use Rattle.spe_model.specs.declared.page.Kind.TheVariants.{TableLeaf, TableInterior}
use Rattle.spe_model.specs.declared.page.PageCells.{PageCells}
use Rattle.spe_model.specs.declared.page.PageFault.{PageFault}
use Rattle.spe_model.specs.Paging.{Paging}
use Rattle.spe_model.specs.Served.{HasCells}
use Rattle.spe_model.specs.Standing.{AreBelow, all_pages, chain_pages}
use Rattle.spe_model.specs.Tree.{AreRows, AreUnder, IsTree, cells_in, fan, node_at, node_cells, node_right, right_in, rows_of, tree_rows}
use Rattle.spe_frame.proofs.TimesLemmas.{Each, each_left, each_right}
use Rattle.spe_frame.proofs.TreeLemmas.{ChainsKept, IsKept, all_pages_kept, below_kept, cells_kept, chains_kept, fan_kept, lower_pages, rows_kept, rows_legal, tree_kept, tree_rows_kept, under_kept, whole_kept}

-- the page `next` reads as `page` did, and the pages below keep their bytes
pub record IsMoved (usable : ℕ) (old new : Paging) (height page next : ℕ) : Type 0 where
  pub node : node_at usable new next ≡ node_at usable old page
  pub lower : Each (IsKept old new) (lower_pages usable old height page)

moved_chains : (usable : ℕ) (old new : Paging) (height page next : ℕ) → IsMoved usable old new (suc height) page next → ChainsKept usable old new (node_cells usable old page)
moved_chains usable old new height page next moved =
    each_left (IsKept old new) (flat_map (chain_pages usable old) (node_cells usable old page))
    (fan (all_pages usable old height) (node_cells usable old page) (node_right usable old page)) moved.lower

moved_fan : (usable : ℕ) (old new : Paging) (height page next : ℕ) → IsMoved usable old new (suc height) page next
    → Each (IsKept old new) (fan (all_pages usable old height) (node_cells usable old page) (node_right usable old page))
moved_fan usable old new height page next moved =
    each_right (IsKept old new) (flat_map (chain_pages usable old) (node_cells usable old page))
    (fan (all_pages usable old height) (node_cells usable old page) (node_right usable old page)) moved.lower

abbrev Reading : Type 0
Reading = Result PageCells PageFault

abbrev IsMade : Kind → Reading → Type 0
IsMade kind r = r ≡ Ok (record { kind = kind; cells = cells_in r; right = right_in r })

pub moved_tree : (usable : ℕ) (old new : Paging) (height low high page next : ℕ) → IsMoved usable old new height page next
    → IsTree usable old height low high page → IsTree usable new height low high next
moved_tree usable old new zero low high page next moved tree =
    let P : Reading → Type 0 = λ r. IsMade TableLeaf r × AreRows usable new low high (cells_in r) in
    subst P (sym moved.node) (tree.0, rows_legal usable old new low high (node_cells usable old page) moved.lower tree.1)
moved_tree usable old new (suc height) low high page next moved tree =
    let P : Reading → Type 0 = λ r. IsMade TableInterior r × AreUnder (IsTree usable new height) low high (cells_in r) (right_in r) in
    subst P (sym moved.node) (
      tree.0,
      under_kept (IsKept old new) (all_pages usable old height) (IsTree usable old height) (IsTree usable new height)
          (λ l h p k. tree_kept usable old new height l h p (whole_kept usable old new height p k))
          low high (node_cells usable old page) (node_right usable old page) (moved_fan usable old new height page next moved) tree.1,
    )

cells_there : (page : ℕ) (A : Type 0) → page ≢ 1 → (page ≡ 1) ⊎ A → A
cells_there page A other (inl first) = absurd (other first)
cells_there page A other (inr some) = some

pub moved_cells : (usable : ℕ) (old new : Paging) (height page next : ℕ) → page ≢ 1 → IsMoved usable old new height page next
    → HasCells usable old height page → HasCells usable new height next
moved_cells usable old new zero page next other moved has = tt
moved_cells usable old new (suc height) page next other moved has =
    let P : Reading → Type 0 = λ r. ((next ≡ 1) ⊎ (1 ≤ length (cells_in r))) × AreBelow (HasCells usable new height) (cells_in r) (right_in r) in
    subst P (sym moved.node) (
      inr (cells_there page (1 ≤ length (node_cells usable old page)) other has.0),
      below_kept (IsKept old new) (all_pages usable old height) (HasCells usable old height) (HasCells usable new height)
          (λ p k. cells_kept usable old new height p (whole_kept usable old new height p k))
          (node_cells usable old page) (node_right usable old page) (moved_fan usable old new height page next moved) has.1,
    )

pub moved_rows : (usable : ℕ) (old new : Paging) (height page next : ℕ) → IsMoved usable old new height page next
    → tree_rows usable new height next ≡ tree_rows usable old height page
moved_rows usable old new zero page next moved =
    ap (λ (r : Reading). rows_of usable new (cells_in r)) moved.node ∙ rows_kept usable old new (node_cells usable old page) moved.lower
moved_rows usable old new (suc height) page next moved =
    ap (λ (r : Reading). fan (tree_rows usable new height) (cells_in r) (right_in r)) moved.node
    ∙ fan_kept (IsKept old new) (all_pages usable old height) (tree_rows usable old height) (tree_rows usable new height)
    (λ p k. tree_rows_kept usable old new height p (whole_kept usable old new height p k))
    (node_cells usable old page) (node_right usable old page) (moved_fan usable old new height page next moved)

-- its pages: the root, and those below
pub pages_split : (usable : ℕ) (pages : Paging) (height page : ℕ) → all_pages usable pages height page ≡ page ∷ lower_pages usable pages height page
pages_split usable pages zero page = refl
pages_split usable pages (suc height) page = refl

pub moved_pages : (usable : ℕ) (old new : Paging) (height page next : ℕ) → IsMoved usable old new height page next
    → all_pages usable new height next ≡ next ∷ lower_pages usable old height page
moved_pages usable old new zero page next moved =
    ap (λ (r : Reading). next ∷ flat_map (chain_pages usable new) (cells_in r)) moved.node
    ∙ ap (λ (ps : List ℕ). next ∷ ps) (chains_kept usable old new (node_cells usable old page) moved.lower)
moved_pages usable old new (suc height) page next moved =
    ap (λ (r : Reading). next ∷ flat_map (chain_pages usable new) (cells_in r) ++ fan (all_pages usable new height) (cells_in r) (right_in r)) moved.node
    ∙ rw (
      chains_kept usable old new (node_cells usable old page) (moved_chains usable old new height page next moved),
      fan_kept (IsKept old new) (all_pages usable old height) (all_pages usable old height) (all_pages usable new height)
          (λ p k. all_pages_kept usable old new height p (whole_kept usable old new height p k))
          (node_cells usable old page) (node_right usable old page) (moved_fan usable old new height page next moved),
    ) refl
