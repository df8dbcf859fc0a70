use Rattle.std.proofs.Common.{◌∙◌, [], ◌∷◌, ◌++◌, arith}
use Rattle.spe_model.specs.Tree.{payload_of}
use Rattle.spe_model.specs.Walk.{Keeps, cell_chain, is_within_bounds}
use Rattle.spe_format.specs.View.{cell_seen}
use Rattle.spe_check.specs.MetPages.{has_met}
use Rattle.spe_check.specs.TableTree.{low_of, high_of, row_of}
use Rattle.spe_check.proofs.TableLemmas.{bound_halt, chain_halt, row_last}
use Rattle.spe_check.proofs.TriesLemmas.{tries_then}
use Rattle.spe_check.proofs.table_tree.try_row.Goals as goal

pub returns-in-Err-clause-tried : goal.returns-in-Err-clause-tried
returns-in-Err-clause-tried g c = λ usable pages shows later floor. (
  bound_halt c.args.walk.now.met.pages (has_met c.args.walk.now.met) (g.V.RowVisitor.outlook c.args.visitor.now (row_of usable pages c.args.page (cell_seen c.args.parts.now) ∷ later)).marks usable pages c.args.page
      (low_of c.args.bounds.low) (high_of c.args.bounds.high) (cell_seen c.args.parts.now) c.in-Err.halt (c.in-Err.ensures.tried c.args.walk.now.met.pages (has_met c.args.walk.now.met)),
  tt,
)

pub returns-then-is_local-clause-tried : goal.returns-then-is_local-clause-tried
returns-then-is_local-clause-tried g c = λ usable pages shows later floor.
    let cell = cell_seen c.args.parts.now in
    let tried = c.try_local.ensures.tried c.args.walk.now.met.pages (has_met c.args.walk.now.met) usable pages later (omega (arith, floor, c.in-Ok.ensures.above)) in (
      tries_then {X = Unit {0}} {Y = Unit {0}} c.args.walk.now.met.pages (has_met c.args.walk.now.met) (has_met c.args.walk.now.met) (has_met c.args.walk.now.met) (Keeps c.args.page 6 (is_within_bounds (low_of c.args.bounds.low) (high_of c.args.bounds.high) cell) ∷ [])
          (cell_chain usable pages c.args.page cell ++ (g.V.RowVisitor.outlook c.args.visitor.now (row_of usable pages c.args.page cell ∷ later)).marks c.args.page cell.key (payload_of usable pages cell)) tt c.try_local.result
          (c.in-Ok.ensures.tried c.args.walk.now.met.pages (has_met c.args.walk.now.met)) tried.0,
      tried.1,
    )

pub returns-in-Err-take_payload-clause-tried : goal.returns-in-Err-take_payload-clause-tried
returns-in-Err-take_payload-clause-tried g c = λ usable pages shows later floor. (
  chain_halt c.args.walk.now.met.pages (has_met c.args.walk.now.met) (has_met c.take_payload.new.walk.met) (g.V.RowVisitor.outlook c.args.visitor.now (row_of usable pages c.args.page (cell_seen c.args.parts.now) ∷ later)).marks usable pages c.args.page
      (low_of c.args.bounds.low) (high_of c.args.bounds.high) (cell_seen c.args.parts.now) c.in-Err-take_payload.halt (c.in-Ok.ensures.tried c.args.walk.now.met.pages (has_met c.args.walk.now.met))
      (c.in-Err-take_payload.ensures.tried usable pages shows).0,
  tt,
)

pub returns-clause-tried : goal.returns-clause-tried
returns-clause-tried g c = λ usable pages shows later floor.
    let taken = c.in-Ok-take_payload.ensures.tried usable pages shows in
    let cell = (cell_seen c.args.parts.now) in
    let visited = c.visit_row.ensures.tried c.args.walk.now.met.pages (has_met c.take_payload.new.walk.met) (payload_of usable pages cell) later
    (λ wanted. c.as_slice.ensures.value ∙ taken.1 (c.wants-wanted.ensures.value ∙ wanted)) (omega (arith, floor, c.in-Ok.ensures.above)) in (
      row_last c.args.walk.now.met.pages (has_met c.args.walk.now.met) (has_met c.take_payload.new.walk.met) (g.V.RowVisitor.outlook c.args.visitor.now (row_of usable pages c.args.page cell ∷ later)).marks usable pages c.args.page
          (low_of c.args.bounds.low) (high_of c.args.bounds.high) cell c.visit_row.result (c.in-Ok.ensures.tried c.args.walk.now.met.pages (has_met c.args.walk.now.met)) taken.0 visited.0,
      visited.1,
    )
