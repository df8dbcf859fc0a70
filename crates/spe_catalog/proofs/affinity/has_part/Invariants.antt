use Rattle.std.proofs.Common.{◌≡◌, length}
use Rattle.spe_model.specs.Definition.{has_part}
use Rattle.spe_catalog.proofs.affinity.has_part.Given as goal

abbrev pub invariant-loop-left : goal.invariant-loop-left
invariant-loop-left l = has_part l.part l.left ≡ has_part l.fn.part l.fn.text

abbrev pub decreases-loop-left : goal.decreases-loop-left
decreases-loop-left l = length l.left
