use Rattle.spe_space.specs.Calls.{sight}
use Rattle.spe_exec.proofs.ReadsLemmas.{count_shown}
use Rattle.spe_exec.proofs.reads.count.Goals as goal

pub returns-in-Ok-clause-answer : goal.returns-in-Ok-clause-answer
returns-in-Ok-clause-answer g c = λ pages agrees rows of.
    count_shown (g.S.Pages.used c.args.space.now) (sight g.S.Pages c.args.space.now pages) c.args.entry.now c.args.conds.now c.in-Ok.pairs c.as_slice.result.now rows c.count_of.result
    c.count_of.ensures c.as_slice.ensures of (λ height tree. c.in-Ok.ensures.found pages agrees height tree)
