use Rattle.std.specs.Prelude.{Some}
use Rattle.spe_disk.specs.Memory.{history_of, op_fault_count, read_fault_count}
use Rattle.spe_cases_opening.proofs.tests.read_only.expect_over.Given as goal

abbrev pub ghosts-expect_of : goal.ghosts-expect_of
ghosts-expect_of g a = record { told = Some (history_of a.disk); faults = read_fault_count a.disk; ops = op_fault_count a.disk }
