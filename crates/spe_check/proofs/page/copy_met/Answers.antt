use Rattle.std.proofs.Common.{◌≡◌, not, subst, sym}
use Rattle.spe_model.specs.declared.page.PageCells.{PageCells}
use Rattle.spe_model.specs.Kind.{is_table}
use Rattle.spe_model.specs.Schema.{is_index_page}
use Rattle.spe_check.proofs.page.copy_met.Goals as goal

pub returns-in_ok-copied-in-Ok-clause-sort : goal.returns-in_ok-copied-in-Ok-clause-sort
returns-in_ok-copied-in-Ok-clause-sort g c = λ usable pages shows.
    let P : PageCells → Type 0 = λ node. is_index_page pages c.args.page ≡ not (is_table node.kind) in
    subst P (sym c.in_ok-copied-in-Ok.ensures) (c.in-Ok.ensures.sort usable pages shows)
