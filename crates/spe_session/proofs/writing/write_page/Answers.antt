use Rattle.spe_session.proofs.NowLemmas.{front_kept}
use Rattle.spe_session.proofs.writing.write_page.Goals as goal

pub write-requires-clause-front : goal.write-requires-clause-front
write-requires-clause-front g c = λ first. front_kept g.N.Opening.opened c.args.store.now c.args.pass.now.id c.args.bytes.now c.keeps.ensures.pages c.requires.going (c.requires.front first)
