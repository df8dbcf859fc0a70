use Rattle.std.proofs.Common.{◌≡◌, ◌+◌, ◌≤◌, length}
use Rattle.spe_serve.specs.Asked.{IfTexts, behind, texts_from, texts_seen}
use Rattle.spe_serve.proofs.scripts.read_texts.Given as goal

abbrev pub invariant-loop-left : goal.invariant-loop-left
invariant-loop-left g l = record {
  few : l.client + length l.left ≤ 65;
  all : length l.texts.items + length l.left ≡ length l.fn.names;
  told : g.C.Scripts.texts l.scripts ≡ g.C.Scripts.texts l.fn.scripts;
  counts : g.C.Scripts.faults l.scripts ≡ g.C.Scripts.faults l.fn.scripts;
  found : IfTexts (g.C.Scripts.texts l.fn.scripts) (λ texts. behind (texts_seen l.texts.items) (texts_from texts l.client l.left) ≡ texts_from texts 1 l.fn.names);
}

abbrev pub decreases-loop-left : goal.decreases-loop-left
decreases-loop-left g l = length l.left
