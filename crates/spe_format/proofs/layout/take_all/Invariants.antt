use Rattle.std.proofs.Common.{◌≡◌, length}
use Rattle.std.specs.Prelude.{IsTrue}
use Rattle.std.specs.List.{list_all}
use Rattle.spe_format.specs.Layout.{is_span, are_free}
use Rattle.spe_format.proofs.layout.take_all.Given as goal

abbrev pub invariant-loop-left : goal.invariant-loop-left
invariant-loop-left l = record {
  inside : IsTrue (list_all (is_span (length l.marks)) l.left);
  free : are_free l.marks l.left ≡ are_free l.fn.marks l.fn.spans;
}

abbrev pub decreases-loop-left : goal.decreases-loop-left
decreases-loop-left l = length l.left
