use Rattle.std.proofs.Common.{◌∙◌}
use Rattle.spe_freelist.proofs.StepLemmas.{trunks_put}
use Rattle.spe_freelist.proofs.give.give_trunk.Goals as goal

pub returns-in-Ok-lay_trunk-clause-put : goal.returns-in-Ok-lay_trunk-clause-put
returns-in-Ok-lay_trunk-clause-put g c =
    trunks_put g.S.Pages c.args.space.now c.lay_trunk.new.space c.lay_trunk-2.new.space c.args.first c.args.page c.u32_of-next.result c.args.count c.usable-usable.result
    c.args.bytes.now c.clear_reserved.new.page c.put_reserved.new.page c.in_ok-reserved.reserved.items
    c.lay_trunk.ensures.kept.used c.usable-usable.ensures.value c.usable-usable.ensures.range.0 c.requires.room c.requires.size c.u32_of-next.ensures
    c.clear_reserved.ensures.used c.clear_reserved.ensures.reserved (c.put_reserved.ensures.reserved ∙ c.as_slice.ensures.value) c.in_ok-reserved.ensures
    c.in-Ok.ensures.put c.in-Ok-lay_trunk.ensures.put
