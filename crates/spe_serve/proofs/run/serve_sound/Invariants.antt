use Rattle.spe_serve.proofs.run.serve_sound.Given as goal

abbrev pub ghosts-found_shared : goal.ghosts-found_shared
ghosts-found_shared g a = record { told = g.D.Disk.told a.disk; faults = g.D.Disk.read_faults a.disk; ops = g.D.Disk.op_faults a.disk }
