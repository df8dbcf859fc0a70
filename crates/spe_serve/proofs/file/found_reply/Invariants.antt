use Rattle.spe_serve.proofs.file.found_reply.Given as goal

abbrev pub ghosts-pages_reply : goal.ghosts-pages_reply
ghosts-pages_reply g a = record { told = g.D.Disk.told a.disk; faults = g.D.Disk.read_faults a.disk; ops = g.D.Disk.op_faults a.disk }
