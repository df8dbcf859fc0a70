use Rattle.spe_serve.proofs.RunLemmas.{counts_run, is_run}
use Rattle.spe_serve.proofs.run.run_scripts.Goals as goal

pub returns-in-Ok-clause-run : goal.returns-in-Ok-clause-run
returns-in-Ok-clause-run g c =
    is_run (g.C.Scripts.texts c.args.scripts.now) c.args.names.now (g.D.Disk.told c.args.disk) (g.D.Disk.told c.serve_clients.result.1) c.in-Ok.clients c.serve_clients.result.0
    c.in-Ok.ensures.asked c.serve_clients.ensures.orderly c.serve_clients.ensures.run c.serve_clients.ensures.same

pub returns-in-Ok-clause-scripts : goal.returns-in-Ok-clause-scripts
returns-in-Ok-clause-scripts g c = counts_run c.in-Ok.clients _ _ c.serve_clients.result.0 c.serve_clients.ensures.orderly c.in-Ok.ensures.counts
