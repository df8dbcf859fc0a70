use Rattle.std.proofs.Common.{◌≤◌}
use Rattle.spe_files.proofs.open_files.OpenFiles.make_journals.Given as goal

abbrev pub invariant-loop-number : goal.invariant-loop-number
invariant-loop-number g l = l.made ≤ l.number
