use Rattle.std.proofs.Common.{◌∙◌, ◌≤◌, refl, arith}
use Rattle.spe_delete.proofs.SmallLemmas.{becomes_alone, own_fails, own_held, own_later, rows_ascend, stays_first, stays_single}
use Rattle.spe_delete.proofs.small.gather_tree.Goals as goal

pub returns-in_default-clause-stays : goal.returns-in_default-clause-stays
returns-in_default-clause-stays g c = λ _ pages height low high agrees less held.
    let s = c.args.space.now in
    let m = c.gather_below.new.space in
    let list = c.as_slice.result.now in
    let none = c.in_default.len_below in
    stays_single g.S.Pages c.below_law.ensures s m pages height low high c.args.root held c.in-Ok-true.ensures.reads (c.in-Ok-true.ensures.sees pages height low high agrees less held)
    _ c.gather_below.new.leaves c.new.ensures.items c.new-2.ensures.items (c.in-Ok-true.ensures.gathers c.in-Ok-true.field-0-test pages height low high agrees less held)
    list c.as_slice.ensures.value (omega (arith, none))

pub returns-then-is_empty-clause-stays : goal.returns-then-is_empty-clause-stays
returns-then-is_empty-clause-stays g c = λ _ pages height low high agrees less held.
    let s = c.args.space.now in
    let m = c.gather_below.new.space in
    let list = c.as_slice.result.now in
    stays_first g.S.Pages c.below_law.ensures s m pages height low high c.args.root held c.in-Ok-true.ensures.reads (c.in-Ok-true.ensures.sees pages height low high agrees less held)
    _ c.gather_below.new.leaves c.new.ensures.items c.new-2.ensures.items (c.in-Ok-true.ensures.gathers c.in-Ok-true.field-0-test pages height low high agrees less held)
    list c.as_slice.ensures.value c.if-is_empty.ensures

pub returns-in-Ok-clause-gathered : goal.returns-in-Ok-clause-gathered
returns-in-Ok-clause-gathered g c = λ _ pages height low high agrees less held.
    let s = c.args.space.now in
    let m = c.gather_below.new.space in
    let e = c.put_leaves.new.space in
    let root = c.args.root in
    let laws = c.below_law.ensures in
    let new = c.gather_below.new.leaves in
    let list = c.as_slice.result.now in
    let agrees_m = c.in-Ok.ensures.kept.earlier pages agrees in
    let reads = c.in-Ok-true.ensures.reads in
    let seen = c.in-Ok-true.ensures.sees pages height low high agrees_m less held in
    let is = c.in-Ok-true.ensures.gathers c.in-Ok-true.field-0-test pages height low high agrees_m less held in
    let wide : 5 ≤ g.S.Pages.used s = omega (arith, c.usable-usable.ensures.range.0, c.usable-usable.ensures.value) in
    becomes_alone g.S.Pages laws s m pages height low high root held reads seen _ new c.new.ensures.items c.new-2.ensures.items is c.join_law.ensures.gathered wide list c.as_slice.ensures.value e
    (c.in-Ok.ensures.gathered pages agrees seen.ready
    (own_held g.S.Pages laws s m pages height low high root held reads seen _ new c.new.ensures.items c.new-2.ensures.items is c.join_law.ensures.gathered wide list c.as_slice.ensures.value)
    (own_later g.S.Pages laws s m pages height low high root held reads seen _ new c.new.ensures.items c.new-2.ensures.items is c.join_law.ensures.gathered wide list c.as_slice.ensures.value))

pub returns-in-Ok-clause-spares : goal.returns-in-Ok-clause-spares
returns-in-Ok-clause-spares g c = λ pages height low high agrees less held.
    (returns-in-Ok-clause-gathered g c refl pages height low high agrees less held).shifts.spares

pub returns-clause-spares : goal.returns-clause-spares
returns-clause-spares g c = λ pages height low high agrees less held.
    let s = c.args.space.now in
    let m = c.gather_below.new.space in
    let e = c.put_leaves.new.space in
    let root = c.args.root in
    let laws = c.below_law.ensures in
    let new = c.gather_below.new.leaves in
    let list = c.as_slice.result.now in
    let agrees_m = c.in-Err-put_leaves.ensures.kept.earlier pages agrees in
    let reads = c.in-Ok-true.ensures.reads in
    let seen = c.in-Ok-true.ensures.sees pages height low high agrees_m less held in
    let is = c.in-Ok-true.ensures.gathers c.in-Ok-true.field-0-test pages height low high agrees_m less held in
    let wide : 5 ≤ g.S.Pages.used s = omega (arith, c.usable-usable.ensures.range.0, c.usable-usable.ensures.value) in
    own_fails g.S.Pages laws s m pages height low high root held reads seen _ new c.new.ensures.items c.new-2.ensures.items is c.join_law.ensures.gathered wide list c.as_slice.ensures.value e
    (c.in-Err-put_leaves.ensures.spares pages agrees seen.ready
    (own_held g.S.Pages laws s m pages height low high root held reads seen _ new c.new.ensures.items c.new-2.ensures.items is c.join_law.ensures.gathered wide list c.as_slice.ensures.value)
    (own_later g.S.Pages laws s m pages height low high root held reads seen _ new c.new.ensures.items c.new-2.ensures.items is c.join_law.ensures.gathered wide list c.as_slice.ensures.value))

pub returns-clause-likely : goal.returns-clause-likely
returns-clause-likely g c = λ pages height low high agrees less held unsealed.
    let s = c.args.space.now in
    let m = c.gather_below.new.space in
    let root = c.args.root in
    let laws = c.below_law.ensures in
    let new = c.gather_below.new.leaves in
    let list = c.as_slice.result.now in
    let agrees_m = c.in-Err-put_leaves.ensures.kept.earlier pages agrees in
    let reads = c.in-Ok-true.ensures.reads in
    let seen = c.in-Ok-true.ensures.sees pages height low high agrees_m less held in
    let is = c.in-Ok-true.ensures.gathers c.in-Ok-true.field-0-test pages height low high agrees_m less held in
    let wide : 5 ≤ g.S.Pages.used s = omega (arith, c.usable-usable.ensures.range.0, c.usable-usable.ensures.value) in
    c.in-Err-put_leaves.ensures.likely pages agrees seen.ready
    (own_held g.S.Pages laws s m pages height low high root held reads seen _ new c.new.ensures.items c.new-2.ensures.items is c.join_law.ensures.gathered wide list c.as_slice.ensures.value)
    (reads.sealed ∙ unsealed)
    (own_later g.S.Pages laws s m pages height low high root held reads seen _ new c.new.ensures.items c.new-2.ensures.items is c.join_law.ensures.gathered wide list c.as_slice.ensures.value)
    (rows_ascend g.S.Pages laws s m pages height low high root held reads seen _ new c.new.ensures.items c.new-2.ensures.items is c.join_law.ensures.gathered wide list c.as_slice.ensures.value c.row_law.ensures.ascends)
