use Rattle.spe_serve.proofs.RunLemmas.{recovered_by}
use Rattle.spe_serve.proofs.run.serve_attached.Goals as goal

pub serve_found-requires-clause-found : goal.serve_found-requires-clause-found
serve_found-requires-clause-found g c =
    recovered_by c.in-Ok.found (g.D.Disk.told c.args.disk) _ c.recovered_pages.ensures.headed c.requires.fresh (g.met.D.Disk.whole c.recover.new.disk) c.requires.there
    c.in-Ok.ensures.pages c.in-Ok.ensures.wanted c.in-Ok.ensures.settled c.in-Ok.ensures.leaves c.in-Ok.ensures.made
