use Rattle.spe_clients.proofs.StepLemmas.{goes_one}
use Rattle.spe_clients.proofs.running.run_one.Goals as goal

pub returns-clause-goes : goal.returns-clause-goes
returns-clause-goes g c =
    let ran = c.run_tx.ensures in
    goes_one g.N.Opening.opened c.args.store c.run_tx.result.store _ c.args.session.now c.run_tx.new.session ran.enters ran.ends ran.right ran.reason ran.session ran.stopped c.requires.told
