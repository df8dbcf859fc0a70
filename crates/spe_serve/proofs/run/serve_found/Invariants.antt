use Rattle.spe_serve.proofs.run.serve_found.Given as goal

abbrev pub ghosts-pages_verdict : goal.ghosts-pages_verdict
ghosts-pages_verdict g a = record { told = g.D.Disk.told a.disk; faults = g.D.Disk.read_faults a.disk; ops = g.D.Disk.op_faults a.disk }
