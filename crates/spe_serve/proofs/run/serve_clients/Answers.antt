use Rattle.spe_serve.proofs.RunLemmas.{absent_run, unread_run}
use Rattle.spe_serve.proofs.run.serve_clients.Goals as goal

pub returns-in-Ok-false-clause-run : goal.returns-in-Ok-false-clause-run
returns-in-Ok-false-clause-run g c =
    absent_run (g.D.Disk.told c.args.disk) _ c.args.clients (g.met.D.Disk.fresh c.args.disk c.requires.attached) c.attach.ensures.same
    (rw (c.in-Ok-false.is, c.in-Ok-false.field-0-test) at c.attach.ensures.found)

pub returns-in-Err-clause-run : goal.returns-in-Err-clause-run
returns-in-Err-clause-run g c = unread_run (g.D.Disk.told c.args.disk) _ c.args.clients (g.met.D.Disk.fresh c.args.disk c.requires.attached) c.attach.ensures.same
