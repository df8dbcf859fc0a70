use Rattle.std.proofs.Common.{◌≡◌, ◌+◌, ◌-◌, ◌≤◌, ◌++◌, length, take, drop}
use Rattle.spe_format.specs.Canonical.{body_bytes}
use Rattle.spe_format.proofs.CanonicalLemmas.{need}
use Rattle.spe_format.proofs.canonical.put_body.Given as goal

abbrev pub invariant-loop-left : goal.invariant-loop-left
invariant-loop-left l = record {
  fits : l.slot + need l.kind l.left ≤ l.low;
  inside : l.low ≤ length l.page;
  whole :
      take l.slot l.page ++ (body_bytes l.kind l.low (l.low - (l.slot + need l.kind l.left)) l.left ++ drop l.low l.page)
      ≡ take l.start l.fn.page ++ (body_bytes l.kind l.end (l.end - (l.start + need l.kind l.fn.cells)) l.fn.cells ++ drop l.end l.fn.page);
}

abbrev pub decreases-loop-left : goal.decreases-loop-left
decreases-loop-left l = length l.left
