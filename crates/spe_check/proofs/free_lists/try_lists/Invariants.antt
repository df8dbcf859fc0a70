use Rattle.std.proofs.Common.{◌≡◌, ◌*◌, ◌≤◌, length}
use Rattle.spe_check.specs.FreeLists.{firsts_in, AreAmong}
use Rattle.spe_check.specs.Shown.{Each, Walked}
use Rattle.spe_check.proofs.FreeLemmas.{firsts_from}
use Rattle.spe_check.proofs.free_lists.try_lists.Given as goal

abbrev pub invariant-loop-index : goal.invariant-loop-index
invariant-loop-index g l = record {
  walked : Walked g.S.Pages l.fn.space l.space l.fn.met l.met;
  refusal : g.S.Pages.refusal l.space ≡ g.S.Pages.refusal l.fn.space;
  buf : length l.buf ≡ g.S.Pages.size l.fn.space;
  few : l.free ≤ 281474976710656 * l.index;
  among : Each g.S.Pages l.space (λ usable pages. AreAmong usable pages l.fn.met l.met l.node (firsts_in l.names l.count) (firsts_from l.names l.index l.count) l.free);
}
