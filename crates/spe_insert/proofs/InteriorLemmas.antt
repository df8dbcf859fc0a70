-- The halves of a run on two pages.
use Rattle.std.proofs.Common.{◌≡◌, ℕ, ℤ, ◌≤◌, ◌∙◌, List, [], ◌∷◌, length, sym, ap, subst, Ok, inr}
use Rattle.spe_model.specs.declared.page.Cell.{Cell}
use Rattle.spe_model.specs.declared.page.Kind.TheVariants.{TableInterior}
use Rattle.spe_model.specs.declared.page.PageCells.{PageCells}
use Rattle.spe_model.specs.Paging.{Paging}
use Rattle.spe_model.specs.Tree.{node_at}
use Rattle.spe_space.specs.declared.pages.Pages.{Ghosts}
use Rattle.spe_space.specs.Calls.{sight}
use Rattle.spe_format.specs.Canonical.{AreWritable}
use Rattle.spe_frame.specs.Held.{Shifts}
use Rattle.spe_frame.specs.Laws.{ShiftsBoth}
use Rattle.spe_cut.specs.Parts.{IsHalved, run_cells}
use Rattle.spe_cut.specs.Run.{Run, alone, separator}
use Rattle.spe_cut.specs.Split.{Cut}
use Rattle.spe_insert.specs.Interior.{LaysRun, LaysTwo}
use Rattle.spe_insert.specs.Run.{with_first}

abbrev run_with : List Cell → ℕ → Run
run_with cells right = record { cells = cells; right = right }

abbrev node_with : List Cell → ℕ → PageCells
node_with cells right = record { kind = TableInterior; cells = cells; right = right }

pub halves_laid : {P : Type 0} (g : Ghosts P) → ShiftsBoth g → (s a e : P) (pages : Paging) (page next usable : ℕ) (key : ℤ) (children low high run : Run) → usable ≡ g.used s → 8 ≤ length children.cells
    → IsHalved usable children low key high → Shifts g s a pages (page ∷ []) (page ∷ []) 0 → LaysTwo g a e pages page next (run_cells low) (run_cells high)
    → run ≡ with_first (separator key page) (alone next) → LaysRun g s e pages page children run
halves_laid g both s a e pages page next usable key children low high run same many h first two is =
    let cut : Cut = record { lower = low.cells; middle = h.middle; higher = high.cells; right = high.right } in
    let used : g.used a ≡ g.used s = first.spares.sizes.used in
    let b = sight g e pages in
    inr (record {
      next = next;
      cut = cut;
      whole_is = ap (λ (cs : List Cell). run_with cs high.right) (sym h.joined) ∙ ap (run_with children.cells) (sym h.right);
      run_is = is ∙ ap (λ (k : ℤ). run_with (separator k page ∷ []) next) (sym h.key_is);
      low = record {
        node = subst (λ (r : ℕ). node_at (g.used s) b page ≡ Ok (node_with low.cells r)) (sym h.child) (subst (λ (u : ℕ). node_at u b page ≡ Ok (run_cells low)) used two.first);
        writable = subst (λ (u : ℕ). AreWritable TableInterior u low.cells) same h.writable.0.cells;
      };
      high = record {
        node = subst (λ (u : ℕ). node_at u b next ≡ Ok (run_cells high)) used two.second;
        writable = subst (λ (u : ℕ). AreWritable TableInterior u high.cells) same h.writable.1.cells;
      };
      some = h.some;
      many = many;
      shifts = both s a e pages (page ∷ []) (page ∷ []) (page ∷ next ∷ []) 0 1 first two.shifts;
    })
