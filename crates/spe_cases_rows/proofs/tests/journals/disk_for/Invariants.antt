use Rattle.std.proofs.Common.{◌≡◌, length, false}
use Rattle.spe_disk.specs.Memory.{is_attached}
use Rattle.spe_cases_rows.proofs.tests.journals.disk_for.Given as goal

abbrev pub invariant-loop-left : goal.invariant-loop-left
invariant-loop-left l = is_attached l.disk ≡ false

abbrev pub decreases-loop-left : goal.decreases-loop-left
decreases-loop-left l = length l.left
