use Rattle.std.proofs.Common.{◌∙◌, subst}
use Rattle.spe_model.specs.Paging.{Agrees, Given}
use Rattle.spe_freelist.proofs.StepLemmas.{trunk_moved}
use Rattle.spe_freelist.proofs.take.take_trunk.Goals as goal

pub returns-in-Ok-clause-put : goal.returns-in-Ok-clause-put
returns-in-Ok-clause-put g c = λ pages agrees.
    let seen : Agrees pages (g.S.Pages.seen c.see_trunk.new.space) = subst (λ (s : Given). Agrees pages s) c.lay_trunk.ensures.seen agrees in
    let see = c.in_ok-count.ensures in
    trunk_moved g.S.Pages c.args.space.now c.see_trunk.new.space c.lay_trunk.new.space pages c.args.first c.args.trunk c.u32_of-next.result c.in_ok-count.count c.usable-usable.result
    c.args.page.now c.see_trunk.new.page c.put_reserved.new.page c.in_ok-reserved.reserved.items
    (see.bytes pages seen) see.count.0 see.count.1 c.u32_of-next.ensures c.usable-usable.ensures.value c.usable-usable.ensures.range.0
    c.put_reserved.ensures.used (c.put_reserved.ensures.reserved ∙ c.as_slice.ensures.value) c.in_ok-reserved.ensures see.kept.laid see.kept.used c.in-Ok.ensures.put
