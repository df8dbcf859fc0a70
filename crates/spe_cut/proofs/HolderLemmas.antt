-- A page that holds a run is the root of a tree.
use Rattle.std.proofs.Common.{◌≡◌, ℕ, suc, ◌+◌, ◌-◌, ◌≤◌, ◌∙◌, ◌⊎◌, List, [], ◌∷◌, ◌++◌, length, Ok, Result, refl, sym, ap, subst, arith}
use Rattle.std.proofs.Math.Nat.{div-eq_of_lt}
use Rattle.std.specs.List.{flat_map}
use Rattle.spe_model.specs.declared.page.Cell.{Cell}
use Rattle.spe_model.specs.declared.page.Kind.{Kind}
use Rattle.spe_model.specs.declared.page.Kind.TheVariants.{TableInterior}
use Rattle.spe_model.specs.declared.page.PageCells.{PageCells}
use Rattle.spe_model.specs.declared.page.PageFault.{PageFault}
use Rattle.spe_model.specs.Chain.{links}
use Rattle.spe_model.specs.Paging.{Paging}
use Rattle.spe_model.specs.Served.{HasCells}
use Rattle.spe_model.specs.Standing.{AreBelow, all_pages, chain_pages, link_pages}
use Rattle.spe_model.specs.Tree.{AreUnder, IsTree, cells_in, fan, rest_of, right_in, tree_rows}
use Rattle.spe_format.specs.Canonical.{AreWritable}
use Rattle.spe_cut.specs.Run.{HolderOfRun, HoldsRun, Run, RunOfHolder, pages_in}

abbrev pub Reading : Type 0
Reading = Result PageCells PageFault

-- a reading of a page is one of a legal page of this kind
abbrev pub IsMade : Kind → Reading → Type 0
IsMade kind r = r ≡ Ok (record { kind = kind; cells = cells_in r; right = right_in r })

no_links : (usable : ℕ) → 5 ≤ usable → links usable 0 ≡ 0
unfolding links
no_links usable wide = div-eq_of_lt {n = 0 + (usable - 4 - 1)} {m = usable - 4} (omega arith)

no_rest : (usable : ℕ) (pages : Paging) (c : Cell) → 5 ≤ usable → c.payload ≡ 0 → chain_pages usable pages c ≡ []
no_rest usable pages c wide none =
    let rest : rest_of c ≡ 0 = omega (arith, none) in
    ap (λ (n : ℕ). link_pages pages (links usable n) c.chain) rest ∙ ap (λ (n : ℕ). link_pages pages n c.chain) (no_links usable wide)

-- interior cells have no chains
pub no_chains : (usable : ℕ) (pages : Paging) (cells : List Cell) → 5 ≤ usable → AreWritable TableInterior usable cells → flat_map (chain_pages usable pages) cells ≡ []
no_chains usable pages [] wide are = refl
no_chains usable pages (c ∷ cs) wide are = rw (no_rest usable pages c wide (are.0.payload refl), no_chains usable pages cs wide are.1) refl

holder_pages : (usable : ℕ) (pages : Paging) (height page : ℕ) (run : Run) → 5 ≤ usable → HoldsRun usable pages page run
    → all_pages usable pages (suc height) page ≡ page ∷ pages_in usable pages height run
holder_pages usable pages height page run wide holds =
    ap (λ (r : Reading). page ∷ flat_map (chain_pages usable pages) (cells_in r) ++ fan (all_pages usable pages height) (cells_in r) (right_in r)) holds.node
    ∙ ap (λ (ps : List ℕ). page ∷ ps ++ pages_in usable pages height run) (no_chains usable pages run.cells wide holds.writable)

pub holder_of_run : HolderOfRun
holder_of_run usable pages height low high page run wide holds is =
    let P : Reading → Type 0 = λ r. IsMade TableInterior r × AreUnder (IsTree usable pages height) low high (cells_in r) (right_in r) in
    record {
      tree = subst P (sym holds.node) (refl, is);
      rows = ap (λ (r : Reading). fan (tree_rows usable pages height) (cells_in r) (right_in r)) holds.node;
      pages_are = holder_pages usable pages height page run wide holds;
      filled = λ some below.
          let F : Reading → Type 0 = λ r. ((page ≡ 1) ⊎ (1 ≤ length (cells_in r))) × AreBelow (HasCells usable pages height) (cells_in r) (right_in r) in
          subst F (sym holds.node) (some, below);
    }

pub run_of_holder : RunOfHolder
run_of_holder usable pages height low high page run wide holds tree =
    let P : Reading → Type 0 = λ r. AreUnder (IsTree usable pages height) low high (cells_in r) (right_in r) in
    record {
      children = subst P holds.node tree.1;
      rows = ap (λ (r : Reading). fan (tree_rows usable pages height) (cells_in r) (right_in r)) holds.node;
      pages_are = holder_pages usable pages height page run wide holds;
      filled = λ has.
          let F : Reading → Type 0 = λ r. ((page ≡ 1) ⊎ (1 ≤ length (cells_in r))) × AreBelow (HasCells usable pages height) (cells_in r) (right_in r) in
          subst F holds.node has;
    }
