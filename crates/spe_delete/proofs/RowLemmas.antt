-- A root whose tree loses a row.
use Rattle.std.proofs.Common.{◌≡◌, ℕ, ℤ, ◌≤◌, subst, sym}
use Rattle.spe_model.specs.Paging.{Paging}
use Rattle.spe_model.specs.Served.{IsGrown}
use Rattle.spe_model.specs.Standing.{all_pages}
use Rattle.spe_model.specs.Tree.{tree_rows}
use Rattle.spe_space.specs.declared.pages.Pages.{Ghosts}
use Rattle.spe_space.specs.Calls.{sight}
use Rattle.spe_frame.specs.Held.{Shifts}
use Rattle.spe_cut.specs.Gone.{without_row}
use Rattle.spe_insert.specs.Insert.{IsOwn, marked_root}
use Rattle.spe_insert.proofs.RootLemmas.{own_low, tree_at, tree_grown}
use Rattle.spe_insert.proofs.RaiseLemmas.{most}
use Rattle.spe_delete.specs.Below.{TakesRow}
use Rattle.spe_delete.specs.Row.{Taken}

pub taken_own : {P : Type 0} (g : Ghosts P) (s e : P) (pages : Paging) (root height : ℕ) (rowid : ℤ) → 480 ≤ g.used s → IsOwn g s pages root (tree_at height root)
    → TakesRow g s e pages height 0 most root rowid → Taken g s e pages root (tree_at height root) rowid
taken_own g s e pages root height rowid wide own takes =
    let u = g.used s in
    let p = sight g s pages in
    let q = sight g e pages in
    let used : g.used e ≡ u = takes.loses.shifts.spares.sizes.used in
    record {
      payload = takes.loses.payload;
      present = takes.loses.present;
      grown = subst (λ (k : ℕ). IsGrown k q (marked_root root) (tree_at height root)) (sym used)
          (tree_grown u q height root wide own.grown.0.0 (own_low g s pages root height own) takes.loses.tree (takes.filled own.grown.1));
      rows = subst (λ (k : ℕ). tree_rows k q height root ≡ without_row rowid (tree_rows u p height root)) (sym used) takes.loses.rows;
      shifts = subst (λ (k : ℕ). Shifts g s e pages (all_pages u p height root) (all_pages k q height root) 0) (sym used) takes.loses.shifts;
    }
