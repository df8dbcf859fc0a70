use Rattle.std.proofs.Common.{◌≡◌, ◌∙◌, arith, of_z, sym, to_z, to_z-of_z, w64}
use Rattle.spe_check.proofs.TableLemmas.{visits_same}
use Rattle.spe_check.proofs.table_tree.visit_row.Goals as goal

pub returns-then-wants-clause-tried : goal.returns-then-wants-clause-tried
returns-then-wants-clause-tried g c =
    let key : to_z w64 (of_z w64 c.args.parts.now.key) ≡ c.args.parts.now.key = grind (arith, to_z-of_z) in
    visits_same g.V.RowVisitor c.args.visitor.now c.visit.new.self c.args.page (to_z w64 (of_z w64 c.args.parts.now.key)) c.args.parts.now.key c.args.payload.now c.visit.result key
    (sym c.wants.ensures.value ∙ c.if-wants.true) c.visit.ensures.tried c.visit.ensures.next
