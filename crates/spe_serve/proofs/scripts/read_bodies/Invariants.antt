use Rattle.std.proofs.Common.{◌≡◌, ◌+◌, ◌≤◌, length}
use Rattle.spe_serve.specs.Asked.{behind, bodies_from, texts_seen}
use Rattle.spe_serve.proofs.scripts.read_bodies.Given as goal

abbrev pub invariant-loop-left : goal.invariant-loop-left
invariant-loop-left l = record {
  few : l.client + length l.left ≤ 65;
  found : behind l.bodies.items (bodies_from l.client (texts_seen l.left)) ≡ bodies_from 1 (texts_seen l.fn.texts);
}

abbrev pub decreases-loop-left : goal.decreases-loop-left
decreases-loop-left l = length l.left
