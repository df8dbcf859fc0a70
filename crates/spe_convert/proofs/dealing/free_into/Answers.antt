use Rattle.std.proofs.Common.{◌∙◌, refl, sym}
use Rattle.std.specs.Prelude.{get_or}
use Rattle.spe_convert.proofs.DealLemmas.{OnOk-always, OnOk-from, leaf_added, moved_on, none_made, one_made}
use Rattle.spe_convert.proofs.dealing.free_into.Goals as goal

pub returns-then-has_room-clause-firsts : goal.returns-then-has_room-clause-firsts
returns-then-has_room-clause-firsts c =
    OnOk-from c.add_leaf.result
    (leaf_added c.args.most c.args.list c.args.page c.args.firsts.now (get_or c.args.firsts.now c.args.list c.index-firsts-list.result) c.index-firsts-list.result c.add_leaf.new.self c.requires refl (sym c.has_room.ensures ∙ c.if-has_room.true))
    c.add_leaf.ensures

pub returns-then-has_room-clause-others : goal.returns-then-has_room-clause-others
returns-then-has_room-clause-others c =
    OnOk-always c.add_leaf.result
    (none_made c.args.most c.args.list c.args.page c.args.firsts.now (get_or c.args.firsts.now c.args.list c.index-firsts-list.result) c.index-firsts-list.result c.args.others.now.items c.requires refl (sym c.has_room.ensures ∙ c.if-has_room.true))

pub returns-clause-firsts : goal.returns-clause-firsts
returns-clause-firsts c =
    moved_on c.args.most c.args.list c.args.page c.args.firsts.now (get_or c.args.firsts.now c.args.list c.index-firsts-list.result) c.index-firsts-list.result c.move_on.new.self c.requires refl (sym c.has_room.ensures ∙ c.if-has_room.false)
    c.move_on.ensures.left

pub returns-clause-others : goal.returns-clause-others
returns-clause-others c =
    one_made c.args.most c.args.list c.args.page c.args.firsts.now (get_or c.args.firsts.now c.args.list c.index-firsts-list.result) c.index-firsts-list.result c.move_on.result c.args.others.now.items c.push.new.self.items c.requires refl
    (sym c.has_room.ensures ∙ c.if-has_room.false) c.move_on.ensures.made c.in_ok-push.ensures.items
