use Rattle.std.proofs.Common.{◌∙◌, sym}
use Rattle.spe_space.specs.Calls.{sight}
use Rattle.spe_serve.proofs.AskLemmas.{standing_reply}
use Rattle.spe_serve.proofs.ask.rows_reply.Goals as goal

pub returns-in-Ok-Stands-clause-reply : goal.returns-in-Ok-Stands-clause-reply
returns-in-Ok-Stands-clause-reply g c = λ pages agrees front.
    let v = c.in-Ok-Stands in
    let earlier = c.table_reply.ensures.kept.earlier pages agrees in
    standing_reply c.args.name.now (g.S.Pages.used c.args.space.now) c.args.pages (sight g.S.Pages c.args.space.now pages) v.field-0-0 v.field-0-1 v.field-0-2 c.table_reply.result
    v.ensures.wide c.counts_law.ensures.stands (sym v.field-0-is ∙ v.ensures.verdict pages earlier front)
    (λ db stands. rw (v.ensures.kept.laid, v.ensures.kept.used) at (c.table_reply.ensures.reply pages agrees c.args.pages db c.ranges.pages.fits) stands)

pub returns-in-Ok-Stands-clause-asks : goal.returns-in-Ok-Stands-clause-asks
returns-in-Ok-Stands-clause-asks g c = λ pages agrees front.
    let v = c.in-Ok-Stands in
    let shown = sight g.S.Pages c.args.space.now pages in
    let earlier = c.table_reply.ensures.kept.earlier pages agrees in
    let stands = c.counts_law.ensures.stands (g.S.Pages.used c.args.space.now) c.args.pages shown v.field-0-0 v.field-0-1 v.field-0-2 v.ensures.wide
    (sym (sym v.field-0-is ∙ v.ensures.verdict pages earlier front)) in
    (rw (v.ensures.kept.laid, v.ensures.kept.used) at (c.table_reply.ensures.asks pages agrees c.args.pages stands.0)) stands.1
