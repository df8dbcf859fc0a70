use Rattle.std.proofs.Common.{◌∙◌, ◌∷◌, ap}
use Rattle.spe_room.proofs.GivenLemmas.{gave_less, gave_at}
use Rattle.spe_room.specs.declared.given.GivenPages.{GivenPages}
use Rattle.spe_room.proofs.read_only.DiskSpacePages.get.Goals as goal

pub returns-clause-ok : goal.returns-clause-ok
returns-clause-ok g c = λ pages agrees.
    gave_at pages c.args.self.now.given.pages c.give.new.self.given.pages c.args.page c.read.new.buf
    (c.give.ensures.given ∙ ap (λ (given : GivenPages). (c.args.page, c.read.new.buf) ∷ given.pages) c.read.ensures.given) agrees

pub returns-clause-earlier : goal.returns-clause-earlier
returns-clause-earlier g c = λ pages agrees.
    gave_less pages c.args.self.now.given.pages c.give.new.self.given.pages c.args.page c.read.new.buf
    (c.give.ensures.given ∙ ap (λ (given : GivenPages). (c.args.page, c.read.new.buf) ∷ given.pages) c.read.ensures.given) agrees
