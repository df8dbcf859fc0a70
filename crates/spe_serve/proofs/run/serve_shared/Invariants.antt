use Rattle.spe_serve.specs.Run.{opened_with}
use Rattle.spe_serve.proofs.run.serve_shared.Given as goal

abbrev pub ghosts-serve_opened : goal.ghosts-serve_opened
ghosts-serve_opened g a = record { opened = opened_with a.found.now a.shared.now (g.D.Disk.told a.disk) (g.D.Disk.read_faults a.disk) (g.D.Disk.op_faults a.disk) }
