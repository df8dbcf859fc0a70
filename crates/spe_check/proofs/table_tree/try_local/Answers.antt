use Rattle.std.proofs.Common.{◌∷◌, List, subst, sym}
use Rattle.spe_format.specs.View.{cell_seen}
use Rattle.spe_model.specs.Tree.{payload_of}
use Rattle.spe_model.specs.Walk.{Mark, cell_chain}
use Rattle.spe_check.specs.TableTree.{row_of}
use Rattle.spe_check.specs.Tries.{Tries}
use Rattle.spe_check.proofs.TableLemmas.{local_chain, local_payload}
use Rattle.spe_check.proofs.TriesLemmas.{tries_halt, tries_then, the_err, the_ok}
use Rattle.spe_check.proofs.table_tree.try_local.Goals as goal

pub returns-in-Err-clause-tried : goal.returns-in-Err-clause-tried
returns-in-Err-clause-tried g c = λ count met usable pages later floor.
    let cell = cell_seen c.args.parts.now in
    let P : List Mark → Type 0 = λ ms. Tries count met met ms (the_err (Unit {0}) c.in-Err.halt) in (
      tries_halt (Unit {0}) (Unit {0}) count met met met (cell_chain usable pages c.args.page cell)
          ((g.V.RowVisitor.outlook c.args.visitor.now (row_of usable pages c.args.page cell ∷ later)).marks c.args.page cell.key (payload_of usable pages cell)) c.in-Err.halt
          (subst P (sym (local_chain usable pages c.args.page cell c.requires)) (c.in-Err.ensures.tried count met)),
      tt,
    )

pub returns-clause-tried : goal.returns-clause-tried
returns-clause-tried g c = λ count met usable pages later floor.
    let cell = cell_seen c.args.parts.now in
    let P : List Mark → Type 0 = λ ms. Tries count met met ms (the_ok (Unit {0}) tt) in
    let visited = c.visit_row.ensures.tried count met (payload_of usable pages cell) later (λ wanted. sym (local_payload usable pages cell c.requires)) floor in (
      tries_then {X = Unit {0}} {Y = Unit {0}} count met met met (cell_chain usable pages c.args.page cell)
          ((g.V.RowVisitor.outlook c.args.visitor.now (row_of usable pages c.args.page cell ∷ later)).marks c.args.page cell.key (payload_of usable pages cell)) tt c.visit_row.result
          (subst P (sym (local_chain usable pages c.args.page cell c.requires)) (c.in-Ok.ensures.tried count met)) visited.0,
      visited.1,
    )
