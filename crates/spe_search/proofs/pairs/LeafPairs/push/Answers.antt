use Rattle.std.proofs.Common.{sym}
use Rattle.spe_search.proofs.LeavesLemmas.{rows_after}
use Rattle.spe_search.proofs.pairs.LeafPairs.push.Goals as goal

pub returns-clause-rows : goal.returns-clause-rows
returns-clause-rows c = rows_after c.args.self.now _ _ c.args.pair (sym c.self.view_is) c.in_ok-push.ensures.items
