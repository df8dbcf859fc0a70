use Rattle.spe_format.proofs.ViewLemmas.{count_is}
use Rattle.spe_format.proofs.view.PageView.count.Goals as goal

pub returns : goal.returns
returns c =
    count_is c.self.inside.kind c.self.inside.page.now c.self.inside.start c.self.inside.count c.self.inside.right c.args.self.now
    c.self.invariant.array c.self.view_is
