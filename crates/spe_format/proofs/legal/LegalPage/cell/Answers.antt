use Rattle.spe_format.proofs.LegalLemmas.{cell_legal, front_legal, past_legal}
use Rattle.spe_format.proofs.legal.LegalPage.cell.Goals as goal

pub returns-then-index-count-clause-cell : goal.returns-then-index-count-clause-cell
returns-then-index-count-clause-cell c = cell_legal c.self.inside.view _ c.args.index c.cell.result c.self.view_is c.self.invariant c.cell.ensures

pub returns-then-index-count-clause-front : goal.returns-then-index-count-clause-front
returns-then-index-count-clause-front c = front_legal c.self.inside.view _ c.args.index c.cell.result c.self.view_is c.self.invariant c.cell.ensures

pub returns-else-index-count-clause-cell : goal.returns-else-index-count-clause-cell
returns-else-index-count-clause-cell c = past_legal c.self.inside.view _ c.args.index c.count.result c.self.view_is c.self.invariant c.count.ensures c.if-index-count.false
