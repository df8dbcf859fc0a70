use Rattle.std.proofs.Common.{◌≡◌, length}
use Rattle.std.specs.List.{list_all}
use Rattle.spe_model.specs.Page.{numbers, is_within}
use Rattle.spe_format.proofs.legal.are_within.Given as goal

abbrev pub invariant-loop-left : goal.invariant-loop-left
invariant-loop-left l = list_all (is_within l.low l.high) (numbers l.left) ≡ list_all (is_within l.low l.high) (numbers l.fn.bytes)

abbrev pub decreases-loop-left : goal.decreases-loop-left
decreases-loop-left l = length l.left
