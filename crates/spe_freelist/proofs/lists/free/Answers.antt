use Rattle.spe_freelist.proofs.LaidLemmas.{given_laid}
use Rattle.spe_freelist.proofs.LikelyLemmas.{likely_give}
use Rattle.spe_freelist.proofs.PlaceLemmas.{freed_of, unfreed_of}
use Rattle.spe_freelist.proofs.lists.free.Goals as goal

pub returns-clause-freed : goal.returns-clause-freed
returns-clause-freed g c = freed_of g.S.Pages c.args.space.now c.give.new.space c.args.first c.args.page c.give.result c.give.ensures.gave

pub returns-clause-stay : goal.returns-clause-stay
returns-clause-stay g c = unfreed_of g.S.Pages c.args.space.now c.give.new.space c.args.first c.args.page c.give.result c.give.ensures.err

pub returns-clause-likely : goal.returns-clause-likely
returns-clause-likely g c = likely_give g.S.Pages c.args.space.now c.give.new.space c.args.first c.args.page c.give.result c.give.ensures.fault c.give.ensures.err

pub returns-clause-laid : goal.returns-clause-laid
returns-clause-laid g c = given_laid g.S.Pages c.args.space.now c.give.new.space c.args.first c.args.page c.give.result c.give.ensures.gave c.give.ensures.err
