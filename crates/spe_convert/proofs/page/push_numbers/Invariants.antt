use Rattle.std.proofs.Common.{◌≡◌, ◌+◌, ◌*◌, ◌++◌, length}
use Rattle.spe_convert.specs.Trunk.{number_bytes}
use Rattle.spe_convert.proofs.page.push_numbers.Given as goal

abbrev pub invariant-loop-left : goal.invariant-loop-left
invariant-loop-left l = record {
  bytes : l.page.items ++ number_bytes l.left ≡ l.fn.page.items ++ number_bytes l.fn.numbers;
  long : length l.page.items + 4 * length l.left ≡ length l.fn.page.items + 4 * length l.fn.numbers;
}

abbrev pub decreases-loop-left : goal.decreases-loop-left
decreases-loop-left l = length l.left
