use Rattle.std.proofs.Common.{◌≡◌, ◌++◌, length, map}
use Rattle.spe_convert.specs.Trunk.{bare}
use Rattle.spe_convert.proofs.dealing.bare_trunks.Given as goal

abbrev pub invariant-loop-left : goal.invariant-loop-left
invariant-loop-left l = l.trunks.items ++ map bare l.left ≡ map bare l.fn.pages

abbrev pub decreases-loop-left : goal.decreases-loop-left
decreases-loop-left l = length l.left
