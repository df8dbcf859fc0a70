use Rattle.std.proofs.Common.{◌≡◌, length, map}
use Rattle.spe_space.specs.Calls.{Reads}
use Rattle.spe_search.specs.Leaves.{HasRead}
use Rattle.spe_search.specs.Pairs.{pair_seen}
use Rattle.spe_search.specs.Range.{HasWalked, AddsOfRange}
use Rattle.spe_search.proofs.rows.+walk.Given as goal

abbrev pub decreases-walk : goal.decreases-walk
decreases-walk g l = l.levels

abbrev pub invariant-loop-left : goal.invariant-loop-left
invariant-loop-left g l = record {
  kept : Reads g.S.Pages l.fn.space l.space;
  refusal : g.S.Pages.refusal l.space ≡ g.S.Pages.refusal l.fn.space;
  buf : length l.buf ≡ g.S.Pages.size l.fn.space;
  spare : length l.spare ≡ g.S.Pages.size l.fn.space;
  walked : HasWalked g.S.Pages l.fn.space l.space l.page l.low l.high l.levels (map pair_seen l.fn.out) (map pair_seen l.out) l.left;
  adds : AddsOfRange g.S.Pages l.fn.space l.space l.page l.low l.high;
  leaves : HasRead g.S.Pages l.fn.space l.space l.page l.levels l.fn.out l.out;
}

abbrev pub decreases-loop-left : goal.decreases-loop-left
decreases-loop-left g l = length l.left
