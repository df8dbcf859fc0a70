use Rattle.std.proofs.Common.{◌∙◌, ℕ, List, Option, inr, ap, subst}
use Rattle.std.specs.Prelude.{is_some}
use Rattle.spe_model.specs.Paging.{Agrees, Given}
use Rattle.spe_freelist.proofs.StepLemmas.{few_pages, grown}
use Rattle.spe_freelist.proofs.take.take_new.Goals as goal

pub returns-in-Ok-lay_trunk-clause-grown : goal.returns-in-Ok-lay_trunk-clause-grown
returns-in-Ok-lay_trunk-clause-grown g c = λ pages agrees.
    let more = c.in-Ok.ensures in
    let mid = c.extend.new.self in
    let t = c.lay_trunk.new.space in
    let seen : Agrees pages (g.S.Pages.seen mid) = subst (λ (s : Given). Agrees pages s) c.lay_trunk.ensures.seen agrees in
    let alone = g.met.S.Pages.settled mid (inr (ap (λ (o : Option (List ℕ)). is_some o) (more.front pages seen))) in
    let within = g.met.S.Pages.within t in
    let bounded = g.met.S.Pages.bounded t in
    grown g.S.Pages c.args.space.now mid t pages c.args.first c.in-Ok.added c.usable.result c.args.page.now c.add_fifteen.new.page
    (more.front pages seen) more.zeros more.others (λ stands. more.numbered pages seen stands) more.above.0
    ((c.lay_trunk.ensures.alone alone).0 ∙ more.above.1)
    (few_pages (g.S.Pages.count t) (g.S.Pages.limit t) (g.S.Pages.size t) within.1 bounded.0 bounded.1)
    (c.usable.ensures.value ∙ more.used) more.used c.add_fifteen.ensures.leaves c.add_fifteen.ensures.reserved c.in-Ok-lay_trunk.ensures.put
