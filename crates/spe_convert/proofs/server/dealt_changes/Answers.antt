use Rattle.std.proofs.Common.{◌≡◌, ◌∙◌, ◌++◌, Option, map, refl, subst}
use Rattle.spe_model.specs.Paging.{Paging}
use Rattle.spe_model.specs.Trace.{History}
use Rattle.spe_convert.specs.Changes.{before, change_of}
use Rattle.spe_convert.specs.Made.{named_by}
use Rattle.spe_convert.specs.Reading.{WhereHeld, usable_of}
use Rattle.spe_convert.proofs.DealLemmas.{OnOk-from}
use Rattle.spe_convert.proofs.MadeLemmas.{dealt_made, dealt_numbers, dealt_right_all, dealt_sized, is_dealt, where_three}
use Rattle.spe_convert.proofs.server.dealt_changes.Goals as goal

pub trunk_changes-requires-clause-right : goal.trunk_changes-requires-clause-right
trunk_changes-requires-clause-right g c =
    let d = is_dealt (usable_of c.args.found.now) c.args.lists c.most_leaves.result c.first_of.result c.args.pages.now c.split_at.result.0.now c.split_at.result.1.now c.split_at-2.result.0.now c.split_at-2.result.1.now
    c.in_ok-trunks.trunks.items c.in_ok-trunks.others.items c.as_slice.result.now c.in_ok-trunks.others.items c.requires.long c.split_at.ensures.front c.split_at.ensures.back c.split_at-2.ensures.front
    c.split_at-2.ensures.back c.first_of.ensures c.most_leaves.ensures c.in_ok-trunks.ensures.firsts c.in_ok-trunks.ensures.others c.as_slice.ensures.value refl in
    (dealt_right_all _ _ _ _ _ _ _ d c.requires.numbered).0

pub trunk_changes-requires-2-clause-right : goal.trunk_changes-requires-2-clause-right
trunk_changes-requires-2-clause-right g c =
    let d = is_dealt (usable_of c.args.found.now) c.args.lists c.most_leaves.result c.first_of.result c.args.pages.now c.split_at.result.0.now c.split_at.result.1.now c.split_at-2.result.0.now c.split_at-2.result.1.now
    c.in_ok-trunks.trunks.items c.in_ok-trunks.others.items c.as_slice.result.now c.as_slice-2.result.now c.requires.long c.split_at.ensures.front c.split_at.ensures.back c.split_at-2.ensures.front
    c.split_at-2.ensures.back c.first_of.ensures c.most_leaves.ensures c.in_ok-trunks.ensures.firsts c.in_ok-trunks.ensures.others c.as_slice.ensures.value c.as_slice-2.ensures.value in
    (dealt_right_all _ _ _ _ _ _ _ d c.requires.numbered).1

pub returns-clause-made : goal.returns-clause-made
returns-clause-made g c =
    let d = is_dealt (usable_of c.args.found.now) c.args.lists c.most_leaves.result c.first_of.result c.args.pages.now c.split_at.result.0.now c.split_at.result.1.now c.split_at-2.result.0.now c.split_at-2.result.1.now
    c.in_ok-trunks.trunks.items c.in_ok-trunks.others.items c.as_slice.result.now c.as_slice-2.result.now c.requires.long c.split_at.ensures.front c.split_at.ensures.back c.split_at-2.ensures.front
    c.split_at-2.ensures.back c.first_of.ensures c.most_leaves.ensures c.in_ok-trunks.ensures.firsts c.in_ok-trunks.ensures.others c.as_slice.ensures.value c.as_slice-2.ensures.value in
    let found = c.args.found.now in
    let told = g.D.Disk.told c.args.disk.now in
    let usable = usable_of found in
    let old : Paging → Paging = before found.page_size found.pages in
    let Q : Paging → Type 0 = λ paging. c.in-Ok.change ≡ named_by usable c.first_of.result c.split_at-2.result.0.now (old paging) in
    let R : Paging → Type 0 = λ paging. c.trunk_changes.new.changes.items ≡ c.push.new.self.items ++ map (change_of usable (old paging)) c.as_slice.result.now in
    let S : Paging → Type 0 = λ paging. c.trunk_changes-2.new.changes.items ≡ c.trunk_changes.new.changes.items ++ map (change_of usable (old paging)) c.as_slice-2.result.now in
    let first : WhereHeld told found R = subst (λ (h : Option History). WhereHeld h found R) c.in-Ok.ensures.same c.in-Ok-trunk_changes.ensures.made in
    OnOk-from c.trunk_changes-2.result
    (λ (second : WhereHeld (g.D.Disk.told c.trunk_changes.new.disk) found S). where_three told found Q R S _
    (λ paging node mine others. dealt_made usable c.args.lists c.first_of.result c.args.pages.now c.split_at-2.result.0.now c.as_slice.result.now c.as_slice-2.result.now (old paging) c.in-Ok.change
    c.args.changes.now.items c.push.new.self.items c.trunk_changes.new.changes.items c.trunk_changes-2.new.changes.items d node c.in_ok-push.ensures.items mine others)
    c.in-Ok.ensures.made first
    (subst (λ (h : Option History). WhereHeld h found S) (c.in-Ok-trunk_changes.ensures.same ∙ c.in-Ok.ensures.same) second))
    c.trunk_changes-2.ensures.made

pub returns-clause-numbers : goal.returns-clause-numbers
returns-clause-numbers g c =
    let d = is_dealt (usable_of c.args.found.now) c.args.lists c.most_leaves.result c.first_of.result c.args.pages.now c.split_at.result.0.now c.split_at.result.1.now c.split_at-2.result.0.now c.split_at-2.result.1.now
    c.in_ok-trunks.trunks.items c.in_ok-trunks.others.items c.as_slice.result.now c.as_slice-2.result.now c.requires.long c.split_at.ensures.front c.split_at.ensures.back c.split_at-2.ensures.front
    c.split_at-2.ensures.back c.first_of.ensures c.most_leaves.ensures c.in_ok-trunks.ensures.firsts c.in_ok-trunks.ensures.others c.as_slice.ensures.value c.as_slice-2.ensures.value in
    OnOk-from c.trunk_changes-2.result
    (dealt_numbers (usable_of c.args.found.now) c.args.lists c.first_of.result c.args.pages.now c.split_at-2.result.0.now c.as_slice.result.now c.as_slice-2.result.now c.in-Ok.change c.args.changes.now.items
    c.push.new.self.items _ _ d c.in-Ok.ensures.page c.in_ok-push.ensures.items c.in-Ok-trunk_changes.ensures.numbers)
    c.trunk_changes-2.ensures.numbers

pub returns-clause-sized : goal.returns-clause-sized
returns-clause-sized g c =
    OnOk-from c.trunk_changes-2.result
    (dealt_sized c.args.found.now.page_size c.in-Ok.change c.args.changes.now.items c.push.new.self.items c.trunk_changes.new.changes.items c.trunk_changes-2.new.changes.items c.in-Ok.ensures.sized
    c.in_ok-push.ensures.items c.in-Ok-trunk_changes.ensures.sized)
    c.trunk_changes-2.ensures.sized
