use Rattle.std.proofs.Common.{refl, arith, to_z-of_z}
use Rattle.spe_format.specs.View.{cell_seen}
use Rattle.spe_search.proofs.LeavesLemmas.{joins_cell}
use Rattle.spe_search.proofs.rows.push_row.Goals as goal

pub returns-clause-leaf : goal.returns-clause-leaf
returns-clause-leaf g c =
    joins_cell g.S.Pages c.args.space.now c.whole_of.new.space c.args.page (cell_seen c.args.parts.now) c.in_ok-found.found c.args.out.now c.push.new.self _
    c.in_ok-push.ensures.pairs refl (grind (arith, to_z-of_z)) c.in_ok-found.ensures c.in_ok-payload.ensures.whole
