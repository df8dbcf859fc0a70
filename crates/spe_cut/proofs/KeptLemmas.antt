-- What stays where pages keep their bytes.
use Rattle.std.proofs.Common.{◌≡◌, ℕ, ◌+◌, List, [], ◌∷◌, refl}
use Rattle.std.specs.List.{flat_map}
use Rattle.spe_model.specs.declared.page.Cell.{Cell}
use Rattle.spe_model.specs.Paging.{Paging}
use Rattle.spe_model.specs.Served.{HasCells}
use Rattle.spe_model.specs.Standing.{all_pages, chain_pages}
use Rattle.spe_model.specs.Tree.{IsTree, rank, tree_rows}
use Rattle.spe_frame.proofs.TimesLemmas.{Each, each_from_holds, each_left, each_right}
use Rattle.spe_frame.proofs.TreeLemmas.{IsKept, all_pages_kept, below_kept, cells_kept, chains_kept, fan_kept, rows_kept, rows_legal, tree_kept, tree_rows_kept, under_kept, whole_kept}
use Rattle.spe_cut.specs.Rows.{KeptRowsStay}
use Rattle.spe_cut.specs.Run.{KeptRunStays}
use Rattle.spe_cut.proofs.FanLemmas.{AreFront, AreLeft, all_left}

module _ (usable : ℕ) (old new : Paging) (height : ℕ) where
  -- a child whose pages keep their bytes
  abbrev pub Kept : ℕ → Type 0
  Kept page = Each (IsKept old new) (all_pages usable old height page)

  pub child_kept : (low high page : ℕ) → Kept page → IsTree usable old height low high page → IsTree usable new height low high page
  child_kept low high page kept = tree_kept usable old new height low high page (whole_kept usable old new height page kept)

  pub child_filled : (page : ℕ) → Kept page → HasCells usable old height page → HasCells usable new height page
  child_filled page kept = cells_kept usable old new height page (whole_kept usable old new height page kept)

  pub child_rows : (page : ℕ) → Kept page → tree_rows usable new height page ≡ tree_rows usable old height page
  child_rows page kept = tree_rows_kept usable old new height page (whole_kept usable old new height page kept)

  pub child_pages : (page : ℕ) → Kept page → all_pages usable new height page ≡ all_pages usable old height page
  child_pages page kept = all_pages_kept usable old new height page (whole_kept usable old new height page kept)

-- what each child keeps, the children of some cells keep
pub left_kept : {X : Type 0} (K : ℕ → Type 0) (all : ℕ → List ℕ) (own own' : ℕ → List X) → ((page : ℕ) → Each K (all page) → own' page ≡ own page)
    → (cells : List Cell) → Each K (all_left all cells) → all_left own' cells ≡ all_left own cells
left_kept K all own own' each [] kept = refl
left_kept K all own own' each (c ∷ cs) kept =
    rw (each c.left (each_left K (all c.left) (all_left all cs) kept), left_kept K all own own' each cs (each_right K (all c.left) (all_left all cs) kept)) refl

pub front_kept : (K : ℕ → Type 0) (all : ℕ → List ℕ) (T T' : (low high page : ℕ) → Type 0) → ((low high page : ℕ) → Each K (all page) → T low high page → T' low high page)
    → (low : ℕ) (cells : List Cell) → Each K (all_left all cells) → AreFront T low cells → AreFront T' low cells
front_kept K all T T' each low [] kept are = tt
front_kept K all T T' each low (c ∷ cs) kept are = (
  are.0,
  each low (rank c.key + 1) c.left (each_left K (all c.left) (all_left all cs) kept) are.1,
  front_kept K all T T' each (rank c.key + 1) cs (each_right K (all c.left) (all_left all cs) kept) are.2,
)

pub filled_kept : (K : ℕ → Type 0) (all : ℕ → List ℕ) (T T' : ℕ → Type 0) → ((page : ℕ) → Each K (all page) → T page → T' page)
    → (cells : List Cell) → Each K (all_left all cells) → AreLeft T cells → AreLeft T' cells
filled_kept K all T T' each [] kept are = tt
filled_kept K all T T' each (c ∷ cs) kept are = (
  each c.left (each_left K (all c.left) (all_left all cs) kept) are.0,
  filled_kept K all T T' each cs (each_right K (all c.left) (all_left all cs) kept) are.1,
)

pub run_stays : KeptRunStays
run_stays usable old new height run kept =
    let each = each_from_holds (IsKept old new) _ kept in
    let K = IsKept old new in
    let all = all_pages usable old height in
    record {
      is = λ low high under. under_kept K all (IsTree usable old height) (IsTree usable new height) (child_kept usable old new height) low high run.cells run.right each under;
      rows = fan_kept K all (tree_rows usable old height) (tree_rows usable new height) (child_rows usable old new height) run.cells run.right each;
      pages_are = fan_kept K all (all_pages usable old height) (all_pages usable new height) (child_pages usable old new height) run.cells run.right each;
      filled = λ below. below_kept K all (HasCells usable old height) (HasCells usable new height) (child_filled usable old new height) run.cells run.right each below;
    }

pub rows_stay : KeptRowsStay
rows_stay usable old new cells kept =
    let each = each_from_holds (IsKept old new) (flat_map (chain_pages usable old) cells) kept in
    record {
      rows = λ low high are. rows_legal usable old new low high cells each are;
      are = rows_kept usable old new cells each;
      chains = chains_kept usable old new cells each;
    }
