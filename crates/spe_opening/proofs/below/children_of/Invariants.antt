use Rattle.std.proofs.Common.{◌≡◌, ◌++◌, length}
use Rattle.spe_opening.specs.Below.{children}
use Rattle.spe_opening.proofs.below.children_of.Given as goal

abbrev pub invariant-loop-left : goal.invariant-loop-left
invariant-loop-left l = l.found.items ++ children l.left l.node.right ≡ children l.node.cells l.node.right

abbrev pub decreases-loop-left : goal.decreases-loop-left
decreases-loop-left l = length l.left
