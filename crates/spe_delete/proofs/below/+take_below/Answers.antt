use Rattle.std.proofs.Common.{◌≡◌, ℤ, ◌∙◌, suc, refl, subst, sym, arith, to_z, of_z, w64, to_z-of_z}
use Rattle.spe_model.specs.Standing.{all_pages}
use Rattle.spe_space.specs.Calls.{sight}
use Rattle.spe_space.specs.Front.{number_in}
use Rattle.spe_frame.specs.Held.{Spares}
use Rattle.spe_write.specs.Chain.{IsSureOfTree}
use Rattle.spe_search.specs.declared.page.Step.TheVariants.{Child, Missing, Row}
use Rattle.spe_insert.specs.Below.{IsPlaceFor}
use Rattle.spe_insert.proofs.LookLemmas.{IsAtChild, IsLooked, at_child, less_below, looked_is, page_held, page_same, tree_seen}
use Rattle.spe_insert.proofs.RaiseLemmas.{none_there}
use Rattle.spe_delete.specs.Below.{IsBare, TakesRow}
use Rattle.spe_delete.specs.Leaf.{IsAbsent}
use Rattle.spe_delete.proofs.BelowLemmas.{IsAtRow, absent_below, absent_seen, at_row, bare_row, bare_then, fails_below, fails_seen, fails_then, low_two, missing_there, place_then, takes_below, takes_kept, takes_less, takes_row, takes_seen}
use Rattle.spe_delete.proofs.below.+take_below.Goals as goal

pub returns-in-Ok-Missing-clause-absent : goal.returns-in-Ok-Missing-clause-absent
returns-in-Ok-Missing-clause-absent g t c = λ none pages height low high agrees less placed.
    let s = c.args.space.now in
    let a = c.look.new.space in
    let page = c.args.page in
    let z = to_z w64 (of_z w64 c.args.rowid) in
    let same : z ≡ c.args.rowid = grind (arith, to_z-of_z) in
    let laws = c.below_law.ensures in
    let at_z : IsPlaceFor g.S.Pages s pages height low high page z = subst (λ (k : ℤ). IsPlaceFor g.S.Pages s pages height low high page k) (sym same) placed in
    let e = a in
    let agrees_a = agrees in
    let bytes = c.in-Ok-Missing.ensures.bytes pages agrees_a in
    let looked : IsLooked g.S.Pages s a pages page z (Missing) = looked_is g.S.Pages s a pages page z z _ (Missing) _ refl c.in-Ok-Missing.field-0-is agrees_a c.in-Ok-Missing.ensures.reads
    (λ ready held. c.in-Ok-Missing.ensures.shifts pages agrees_a ready held) c.in-Ok-Missing.ensures.given c.in-Ok-Missing.ensures.wide c.in-Ok-Missing.ensures.inside bytes in
    subst (λ (k : ℤ). IsAbsent g.S.Pages s a pages height page k) same (missing_there g.S.Pages laws s a pages height low high page z looked at_z)

pub returns-in-Ok-Missing-clause-spares : goal.returns-in-Ok-Missing-clause-spares
returns-in-Ok-Missing-clause-spares g t c = λ pages height low high agrees less placed.
    (returns-in-Ok-Missing-clause-absent g t c refl pages height low high agrees less placed).shifts.spares

pub returns-in-Ok-Some-clause-taken : goal.returns-in-Ok-Some-clause-taken
returns-in-Ok-Some-clause-taken g t c = λ pages height low high agrees less placed.
    let s = c.args.space.now in
    let a = c.look.new.space in
    let page = c.args.page in
    let z = to_z w64 (of_z w64 c.args.rowid) in
    let same : z ≡ c.args.rowid = grind (arith, to_z-of_z) in
    let laws = c.below_law.ensures in
    let at_z : IsPlaceFor g.S.Pages s pages height low high page z = subst (λ (k : ℤ). IsPlaceFor g.S.Pages s pages height low high page k) (sym same) placed in
    let e = c.drop_cell.new.space in
    let agrees_a = c.in-Ok-Some.ensures.kept.earlier pages agrees in
    let bytes = c.in-Ok-Row.ensures.bytes pages agrees_a in
    let looked : IsLooked g.S.Pages s a pages page z (Row c.in-Ok-Row.field-0-0) = looked_is g.S.Pages s a pages page z z _ (Row c.in-Ok-Row.field-0-0) _ refl c.in-Ok-Row.field-0-is agrees_a c.in-Ok-Row.ensures.reads
    (λ ready held. c.in-Ok-Row.ensures.shifts pages agrees_a ready held) c.in-Ok-Row.ensures.given c.in-Ok-Row.ensures.wide c.in-Ok-Row.ensures.inside bytes in
    let drops = rw c.in-Ok-Some.field-0-is at c.in-Ok-Some.ensures.dropped in
    subst (λ (k : ℤ). TakesRow g.S.Pages s e pages height low high page k) same (
    at_row g.S.Pages laws s a pages low high page z c.in-Ok-Row.field-0-0 (λ h. TakesRow g.S.Pages s e pages h low high page z) height looked at_z
    (λ (leaf : IsAtRow g.S.Pages s a pages low high page z). takes_seen g.S.Pages laws s a e pages 0 low high page z looked.reads leaf.seen
    (takes_row g.S.Pages a e pages low high page z _ (drops pages 0 low high agrees (omega arith) leaf.placed (page_same g.S.Pages s a pages page _ looked.reads bytes)))))

pub returns-in-Ok-Some-clause-spares : goal.returns-in-Ok-Some-clause-spares
returns-in-Ok-Some-clause-spares g t c = λ pages height low high agrees less placed.
    (returns-in-Ok-Some-clause-taken g t c pages height low high agrees less placed).loses.shifts.spares

pub returns-in-Ok-None-clause-absent : goal.returns-in-Ok-None-clause-absent
returns-in-Ok-None-clause-absent g t c = λ none pages height low high agrees less placed.
    let s = c.args.space.now in
    let a = c.look.new.space in
    let page = c.args.page in
    let z = to_z w64 (of_z w64 c.args.rowid) in
    let same : z ≡ c.args.rowid = grind (arith, to_z-of_z) in
    let laws = c.below_law.ensures in
    let at_z : IsPlaceFor g.S.Pages s pages height low high page z = subst (λ (k : ℤ). IsPlaceFor g.S.Pages s pages height low high page k) (sym same) placed in
    let e = c.drop_cell.new.space in
    let agrees_a = c.in-Ok-None.ensures.kept.earlier pages agrees in
    let bytes = c.in-Ok-Row.ensures.bytes pages agrees_a in
    let looked : IsLooked g.S.Pages s a pages page z (Row c.in-Ok-Row.field-0-0) = looked_is g.S.Pages s a pages page z z _ (Row c.in-Ok-Row.field-0-0) _ refl c.in-Ok-Row.field-0-is agrees_a c.in-Ok-Row.ensures.reads
    (λ ready held. c.in-Ok-Row.ensures.shifts pages agrees_a ready held) c.in-Ok-Row.ensures.given c.in-Ok-Row.ensures.wide c.in-Ok-Row.ensures.inside bytes in
    subst (λ (k : ℤ). IsAbsent g.S.Pages s e pages height page k) same (
    at_row g.S.Pages laws s a pages low high page z c.in-Ok-Row.field-0-0 (λ h. IsAbsent g.S.Pages s e pages h page z) height looked at_z
    (λ (leaf : IsAtRow g.S.Pages s a pages low high page z). absent_seen g.S.Pages laws s a e pages 0 page z looked.reads leaf.seen
    (c.in-Ok-None.ensures.absent c.in-Ok-None.field-0-is pages 0 low high agrees (omega arith) leaf.placed (page_same g.S.Pages s a pages page _ looked.reads bytes))))

pub returns-in-Ok-None-clause-spares : goal.returns-in-Ok-None-clause-spares
returns-in-Ok-None-clause-spares g t c = λ pages height low high agrees less placed.
    (returns-in-Ok-None-clause-absent g t c refl pages height low high agrees less placed).shifts.spares

pub returns-in-Ok-Row-clause-spares : goal.returns-in-Ok-Row-clause-spares
returns-in-Ok-Row-clause-spares g t c = λ pages height low high agrees less placed.
    let s = c.args.space.now in
    let a = c.look.new.space in
    let page = c.args.page in
    let z = to_z w64 (of_z w64 c.args.rowid) in
    let same : z ≡ c.args.rowid = grind (arith, to_z-of_z) in
    let laws = c.below_law.ensures in
    let at_z : IsPlaceFor g.S.Pages s pages height low high page z = subst (λ (k : ℤ). IsPlaceFor g.S.Pages s pages height low high page k) (sym same) placed in
    let e = c.drop_cell.new.space in
    let agrees_a = c.in-Err-drop_cell.ensures.kept.earlier pages agrees in
    let bytes = c.in-Ok-Row.ensures.bytes pages agrees_a in
    let looked : IsLooked g.S.Pages s a pages page z (Row c.in-Ok-Row.field-0-0) = looked_is g.S.Pages s a pages page z z _ (Row c.in-Ok-Row.field-0-0) _ refl c.in-Ok-Row.field-0-is agrees_a c.in-Ok-Row.ensures.reads
    (λ ready held. c.in-Ok-Row.ensures.shifts pages agrees_a ready held) c.in-Ok-Row.ensures.given c.in-Ok-Row.ensures.wide c.in-Ok-Row.ensures.inside bytes in
    at_row g.S.Pages laws s a pages low high page z c.in-Ok-Row.field-0-0 (λ h. Spares g.S.Pages s e pages (all_pages (g.S.Pages.used s) (sight g.S.Pages s pages) h page) 0) height looked at_z
    (λ (leaf : IsAtRow g.S.Pages s a pages low high page z). fails_seen g.S.Pages laws s a e pages 0 page looked.reads leaf.seen
    (c.in-Err-drop_cell.ensures.spares pages 0 low high agrees (omega arith) leaf.placed (page_same g.S.Pages s a pages page _ looked.reads bytes)))

pub returns-in-Ok-Row-clause-likely : goal.returns-in-Ok-Row-clause-likely
returns-in-Ok-Row-clause-likely g t c = λ pages height low high agrees less placed unsealed.
    let s = c.args.space.now in
    let a = c.look.new.space in
    let page = c.args.page in
    let z = to_z w64 (of_z w64 c.args.rowid) in
    let same : z ≡ c.args.rowid = grind (arith, to_z-of_z) in
    let laws = c.below_law.ensures in
    let at_z : IsPlaceFor g.S.Pages s pages height low high page z = subst (λ (k : ℤ). IsPlaceFor g.S.Pages s pages height low high page k) (sym same) placed in
    let e = c.drop_cell.new.space in
    let agrees_a = c.in-Err-drop_cell.ensures.kept.earlier pages agrees in
    let bytes = c.in-Ok-Row.ensures.bytes pages agrees_a in
    let looked : IsLooked g.S.Pages s a pages page z (Row c.in-Ok-Row.field-0-0) = looked_is g.S.Pages s a pages page z z _ (Row c.in-Ok-Row.field-0-0) _ refl c.in-Ok-Row.field-0-is agrees_a c.in-Ok-Row.ensures.reads
    (λ ready held. c.in-Ok-Row.ensures.shifts pages agrees_a ready held) c.in-Ok-Row.ensures.given c.in-Ok-Row.ensures.wide c.in-Ok-Row.ensures.inside bytes in
    at_row g.S.Pages laws s a pages low high page z c.in-Ok-Row.field-0-0 (λ h. IsSureOfTree (number_in (sight g.S.Pages e pages)) c.in-Err-drop_cell.fault) height looked at_z
    (λ (leaf : IsAtRow g.S.Pages s a pages low high page z).
    c.in-Err-drop_cell.ensures.likely pages 0 low high agrees (omega arith) leaf.placed (page_same g.S.Pages s a pages page _ looked.reads bytes) (looked.reads.sealed ∙ unsealed))

pub returns-in-Ok-Some-clause-bare : goal.returns-in-Ok-Some-clause-bare
returns-in-Ok-Some-clause-bare g t c = λ empty pages height low high agrees less placed.
    let s = c.args.space.now in
    let a = c.look.new.space in
    let page = c.args.page in
    let z = to_z w64 (of_z w64 c.args.rowid) in
    let same : z ≡ c.args.rowid = grind (arith, to_z-of_z) in
    let laws = c.below_law.ensures in
    let at_z : IsPlaceFor g.S.Pages s pages height low high page z = subst (λ (k : ℤ). IsPlaceFor g.S.Pages s pages height low high page k) (sym same) placed in
    let e = c.drop_cell.new.space in
    let agrees_a = c.in-Ok-Some.ensures.kept.earlier pages agrees in
    let bytes = c.in-Ok-Row.ensures.bytes pages agrees_a in
    let looked : IsLooked g.S.Pages s a pages page z (Row c.in-Ok-Row.field-0-0) = looked_is g.S.Pages s a pages page z z _ (Row c.in-Ok-Row.field-0-0) _ refl c.in-Ok-Row.field-0-is agrees_a c.in-Ok-Row.ensures.reads
    (λ ready held. c.in-Ok-Row.ensures.shifts pages agrees_a ready held) c.in-Ok-Row.ensures.given c.in-Ok-Row.ensures.wide c.in-Ok-Row.ensures.inside bytes in
    let drops = rw c.in-Ok-Some.field-0-is at c.in-Ok-Some.ensures.dropped in
    let none = sym c.as_slice.ensures ∙ none_there c.as_slice.result.now (sym c.is_empty.ensures ∙ empty) in
    at_row g.S.Pages laws s a pages low high page z c.in-Ok-Row.field-0-0 (λ h. IsBare g.S.Pages s e pages h page) height looked at_z
    (λ (leaf : IsAtRow g.S.Pages s a pages low high page z). bare_row g.S.Pages s a e pages low high page z _ looked.reads
    (drops pages 0 low high agrees (omega arith) leaf.placed (page_same g.S.Pages s a pages page _ looked.reads bytes)) none)

pub returns-in-Ok-Some-drop_leaf-clause-taken : goal.returns-in-Ok-Some-drop_leaf-clause-taken
returns-in-Ok-Some-drop_leaf-clause-taken g t c = λ pages height low high agrees less placed.
    let s = c.args.space.now in
    let a = c.look.new.space in
    let page = c.args.page in
    let z = to_z w64 (of_z w64 c.args.rowid) in
    let same : z ≡ c.args.rowid = grind (arith, to_z-of_z) in
    let laws = c.below_law.ensures in
    let at_z : IsPlaceFor g.S.Pages s pages height low high page z = subst (λ (k : ℤ). IsPlaceFor g.S.Pages s pages height low high page k) (sym same) placed in
    let e = c.drop_leaf.new.space in
    let agrees_a = c.in-Ok-Some-true.ensures.kept.earlier pages (c.in-Ok-Some-drop_leaf.ensures.kept.earlier pages agrees) in
    let bytes = c.in-Ok-Child.ensures.bytes pages agrees_a in
    let looked : IsLooked g.S.Pages s a pages page z (Child c.in-Ok-Child.child) = looked_is g.S.Pages s a pages page z z _ (Child c.in-Ok-Child.child) _ refl c.in-Ok-Child.field-0-is agrees_a c.in-Ok-Child.ensures.reads
    (λ ready held. c.in-Ok-Child.ensures.shifts pages agrees_a ready held) c.in-Ok-Child.ensures.given c.in-Ok-Child.ensures.wide c.in-Ok-Child.ensures.inside bytes in
    let m = c.take_below.new.space in
    let agrees_m = c.in-Ok-Some-drop_leaf.ensures.kept.earlier pages agrees in
    let takes = rw c.in-Ok-Some-true.field-0-is at c.in-Ok-Some-true.ensures.taken in
    let bares = (rw c.in-Ok-Some-true.field-0-is at c.in-Ok-Some-true.ensures.bare) c.in-Ok-Some-true.field-0-0-test in
    subst (λ (k : ℤ). TakesRow g.S.Pages s e pages height low high page k) same (
    at_child g.S.Pages laws s a pages low high page z c.in-Ok-Child.child (λ h. IsPlaceFor g.S.Pages s pages h low high page z → TakesRow g.S.Pages s e pages h low high page z) height looked at_z
    (λ h (down : IsAtChild g.S.Pages s a pages h low high page z c.in-Ok-Child.child) is placed_h.
    let take : TakesRow g.S.Pages a m pages h _ _ c.in-Ok-Child.child z = (takes pages h _ _ agrees_m (less_below height h c.args.levels is less) down.at) in
    let bare : IsBare g.S.Pages a m pages h c.in-Ok-Child.child = (bares pages h _ _ agrees_m (less_below height h c.args.levels is less) down.at) in
    let taken = takes_below g.S.Pages laws s a pages h low high page z c.in-Ok-Child.child looked.reads looked.wide down c.gone_law.ensures.taken m take in
    let place = place_then g.S.Pages laws s a pages h low high page z c.in-Ok-Child.child looked.reads looked.wide down c.gone_law.ensures.taken m take placed_h bare in
    let there = bare_then g.S.Pages laws s a pages h low high page z c.in-Ok-Child.child looked.reads looked.wide down c.gone_law.ensures.taken m take placed_h bare in
    takes_less g.S.Pages laws s m e pages (suc h) low high page z _ taken
    ((rw c.in-Ok-Some-drop_leaf.field-0-is at c.in-Ok-Some-drop_leaf.ensures.dropped) pages (suc h) low high agrees (low_two h bare.leaf) place there)) at_z)

pub returns-in-Ok-None-drop_leaf-clause-taken : goal.returns-in-Ok-None-drop_leaf-clause-taken
returns-in-Ok-None-drop_leaf-clause-taken g t c = λ pages height low high agrees less placed.
    let s = c.args.space.now in
    let a = c.look.new.space in
    let page = c.args.page in
    let z = to_z w64 (of_z w64 c.args.rowid) in
    let same : z ≡ c.args.rowid = grind (arith, to_z-of_z) in
    let laws = c.below_law.ensures in
    let at_z : IsPlaceFor g.S.Pages s pages height low high page z = subst (λ (k : ℤ). IsPlaceFor g.S.Pages s pages height low high page k) (sym same) placed in
    let e = c.drop_leaf.new.space in
    let agrees_a = c.in-Ok-Some-true.ensures.kept.earlier pages (c.in-Ok-None-drop_leaf.ensures.kept.earlier pages agrees) in
    let bytes = c.in-Ok-Child.ensures.bytes pages agrees_a in
    let looked : IsLooked g.S.Pages s a pages page z (Child c.in-Ok-Child.child) = looked_is g.S.Pages s a pages page z z _ (Child c.in-Ok-Child.child) _ refl c.in-Ok-Child.field-0-is agrees_a c.in-Ok-Child.ensures.reads
    (λ ready held. c.in-Ok-Child.ensures.shifts pages agrees_a ready held) c.in-Ok-Child.ensures.given c.in-Ok-Child.ensures.wide c.in-Ok-Child.ensures.inside bytes in
    let m = c.take_below.new.space in
    let agrees_m = c.in-Ok-None-drop_leaf.ensures.kept.earlier pages agrees in
    let takes = rw c.in-Ok-Some-true.field-0-is at c.in-Ok-Some-true.ensures.taken in
    let bares = (rw c.in-Ok-Some-true.field-0-is at c.in-Ok-Some-true.ensures.bare) c.in-Ok-Some-true.field-0-0-test in
    subst (λ (k : ℤ). TakesRow g.S.Pages s e pages height low high page k) same (
    at_child g.S.Pages laws s a pages low high page z c.in-Ok-Child.child (λ h. IsPlaceFor g.S.Pages s pages h low high page z → TakesRow g.S.Pages s e pages h low high page z) height looked at_z
    (λ h (down : IsAtChild g.S.Pages s a pages h low high page z c.in-Ok-Child.child) is placed_h.
    let take : TakesRow g.S.Pages a m pages h _ _ c.in-Ok-Child.child z = (takes pages h _ _ agrees_m (less_below height h c.args.levels is less) down.at) in
    let bare : IsBare g.S.Pages a m pages h c.in-Ok-Child.child = (bares pages h _ _ agrees_m (less_below height h c.args.levels is less) down.at) in
    let taken = takes_below g.S.Pages laws s a pages h low high page z c.in-Ok-Child.child looked.reads looked.wide down c.gone_law.ensures.taken m take in
    let place = place_then g.S.Pages laws s a pages h low high page z c.in-Ok-Child.child looked.reads looked.wide down c.gone_law.ensures.taken m take placed_h bare in
    let there = bare_then g.S.Pages laws s a pages h low high page z c.in-Ok-Child.child looked.reads looked.wide down c.gone_law.ensures.taken m take placed_h bare in
    takes_kept g.S.Pages laws s m e pages (suc h) low high page z taken (c.in-Ok-None-drop_leaf.ensures.idle c.in-Ok-None-drop_leaf.field-0-is)
    (c.in-Ok-None-drop_leaf.ensures.single c.in-Ok-None-drop_leaf.field-0-is pages (suc h) low high agrees (low_two h bare.leaf) place there)) at_z)

pub returns-in-Ok-Some-true-clause-spares : goal.returns-in-Ok-Some-true-clause-spares
returns-in-Ok-Some-true-clause-spares g t c = λ pages height low high agrees less placed.
    let s = c.args.space.now in
    let a = c.look.new.space in
    let page = c.args.page in
    let z = to_z w64 (of_z w64 c.args.rowid) in
    let same : z ≡ c.args.rowid = grind (arith, to_z-of_z) in
    let laws = c.below_law.ensures in
    let at_z : IsPlaceFor g.S.Pages s pages height low high page z = subst (λ (k : ℤ). IsPlaceFor g.S.Pages s pages height low high page k) (sym same) placed in
    let e = c.drop_leaf.new.space in
    let agrees_a = c.in-Ok-Some-true.ensures.kept.earlier pages (c.in-Err-drop_leaf.ensures.kept.earlier pages agrees) in
    let bytes = c.in-Ok-Child.ensures.bytes pages agrees_a in
    let looked : IsLooked g.S.Pages s a pages page z (Child c.in-Ok-Child.child) = looked_is g.S.Pages s a pages page z z _ (Child c.in-Ok-Child.child) _ refl c.in-Ok-Child.field-0-is agrees_a c.in-Ok-Child.ensures.reads
    (λ ready held. c.in-Ok-Child.ensures.shifts pages agrees_a ready held) c.in-Ok-Child.ensures.given c.in-Ok-Child.ensures.wide c.in-Ok-Child.ensures.inside bytes in
    let m = c.take_below.new.space in
    let agrees_m = c.in-Err-drop_leaf.ensures.kept.earlier pages agrees in
    let takes = rw c.in-Ok-Some-true.field-0-is at c.in-Ok-Some-true.ensures.taken in
    let bares = (rw c.in-Ok-Some-true.field-0-is at c.in-Ok-Some-true.ensures.bare) c.in-Ok-Some-true.field-0-0-test in
    at_child g.S.Pages laws s a pages low high page z c.in-Ok-Child.child (λ h. IsPlaceFor g.S.Pages s pages h low high page z → Spares g.S.Pages s e pages (all_pages (g.S.Pages.used s) (sight g.S.Pages s pages) h page) 0) height looked at_z
    (λ h (down : IsAtChild g.S.Pages s a pages h low high page z c.in-Ok-Child.child) is placed_h.
    let take : TakesRow g.S.Pages a m pages h _ _ c.in-Ok-Child.child z = (takes pages h _ _ agrees_m (less_below height h c.args.levels is less) down.at) in
    let bare : IsBare g.S.Pages a m pages h c.in-Ok-Child.child = (bares pages h _ _ agrees_m (less_below height h c.args.levels is less) down.at) in
    let taken = takes_below g.S.Pages laws s a pages h low high page z c.in-Ok-Child.child looked.reads looked.wide down c.gone_law.ensures.taken m take in
    let place = place_then g.S.Pages laws s a pages h low high page z c.in-Ok-Child.child looked.reads looked.wide down c.gone_law.ensures.taken m take placed_h bare in
    let there = bare_then g.S.Pages laws s a pages h low high page z c.in-Ok-Child.child looked.reads looked.wide down c.gone_law.ensures.taken m take placed_h bare in
    fails_then g.S.Pages laws s m e pages (suc h) low high page z taken
    (c.in-Err-drop_leaf.ensures.spares pages (suc h) low high agrees (low_two h bare.leaf) place there)) at_z

pub returns-in-Ok-Some-true-clause-likely : goal.returns-in-Ok-Some-true-clause-likely
returns-in-Ok-Some-true-clause-likely g t c = λ pages height low high agrees less placed unsealed.
    let s = c.args.space.now in
    let a = c.look.new.space in
    let page = c.args.page in
    let z = to_z w64 (of_z w64 c.args.rowid) in
    let same : z ≡ c.args.rowid = grind (arith, to_z-of_z) in
    let laws = c.below_law.ensures in
    let at_z : IsPlaceFor g.S.Pages s pages height low high page z = subst (λ (k : ℤ). IsPlaceFor g.S.Pages s pages height low high page k) (sym same) placed in
    let e = c.drop_leaf.new.space in
    let agrees_a = c.in-Ok-Some-true.ensures.kept.earlier pages (c.in-Err-drop_leaf.ensures.kept.earlier pages agrees) in
    let bytes = c.in-Ok-Child.ensures.bytes pages agrees_a in
    let looked : IsLooked g.S.Pages s a pages page z (Child c.in-Ok-Child.child) = looked_is g.S.Pages s a pages page z z _ (Child c.in-Ok-Child.child) _ refl c.in-Ok-Child.field-0-is agrees_a c.in-Ok-Child.ensures.reads
    (λ ready held. c.in-Ok-Child.ensures.shifts pages agrees_a ready held) c.in-Ok-Child.ensures.given c.in-Ok-Child.ensures.wide c.in-Ok-Child.ensures.inside bytes in
    let m = c.take_below.new.space in
    let agrees_m = c.in-Err-drop_leaf.ensures.kept.earlier pages agrees in
    let takes = rw c.in-Ok-Some-true.field-0-is at c.in-Ok-Some-true.ensures.taken in
    let bares = (rw c.in-Ok-Some-true.field-0-is at c.in-Ok-Some-true.ensures.bare) c.in-Ok-Some-true.field-0-0-test in
    at_child g.S.Pages laws s a pages low high page z c.in-Ok-Child.child (λ h. IsPlaceFor g.S.Pages s pages h low high page z → IsSureOfTree (number_in (sight g.S.Pages e pages)) c.in-Err-drop_leaf.fault) height looked at_z
    (λ h (down : IsAtChild g.S.Pages s a pages h low high page z c.in-Ok-Child.child) is placed_h.
    let take : TakesRow g.S.Pages a m pages h _ _ c.in-Ok-Child.child z = (takes pages h _ _ agrees_m (less_below height h c.args.levels is less) down.at) in
    let bare : IsBare g.S.Pages a m pages h c.in-Ok-Child.child = (bares pages h _ _ agrees_m (less_below height h c.args.levels is less) down.at) in
    let taken = takes_below g.S.Pages laws s a pages h low high page z c.in-Ok-Child.child looked.reads looked.wide down c.gone_law.ensures.taken m take in
    let place = place_then g.S.Pages laws s a pages h low high page z c.in-Ok-Child.child looked.reads looked.wide down c.gone_law.ensures.taken m take placed_h bare in
    let there = bare_then g.S.Pages laws s a pages h low high page z c.in-Ok-Child.child looked.reads looked.wide down c.gone_law.ensures.taken m take placed_h bare in
    c.in-Err-drop_leaf.ensures.likely pages (suc h) low high agrees (low_two h bare.leaf) place there (c.in-Ok-Some-true.ensures.kept.sealed ∙ looked.reads.sealed ∙ unsealed)) at_z

pub returns-in-Ok-Some-false-clause-taken : goal.returns-in-Ok-Some-false-clause-taken
returns-in-Ok-Some-false-clause-taken g t c = λ pages height low high agrees less placed.
    let s = c.args.space.now in
    let a = c.look.new.space in
    let page = c.args.page in
    let z = to_z w64 (of_z w64 c.args.rowid) in
    let same : z ≡ c.args.rowid = grind (arith, to_z-of_z) in
    let laws = c.below_law.ensures in
    let at_z : IsPlaceFor g.S.Pages s pages height low high page z = subst (λ (k : ℤ). IsPlaceFor g.S.Pages s pages height low high page k) (sym same) placed in
    let e = c.take_below.new.space in
    let agrees_a = c.in-Ok-Some-false.ensures.kept.earlier pages agrees in
    let bytes = c.in-Ok-Child.ensures.bytes pages agrees_a in
    let looked : IsLooked g.S.Pages s a pages page z (Child c.in-Ok-Child.child) = looked_is g.S.Pages s a pages page z z _ (Child c.in-Ok-Child.child) _ refl c.in-Ok-Child.field-0-is agrees_a c.in-Ok-Child.ensures.reads
    (λ ready held. c.in-Ok-Child.ensures.shifts pages agrees_a ready held) c.in-Ok-Child.ensures.given c.in-Ok-Child.ensures.wide c.in-Ok-Child.ensures.inside bytes in
    let takes = rw c.in-Ok-Some-false.field-0-is at c.in-Ok-Some-false.ensures.taken in
    subst (λ (k : ℤ). TakesRow g.S.Pages s e pages height low high page k) same (
    at_child g.S.Pages laws s a pages low high page z c.in-Ok-Child.child (λ h. TakesRow g.S.Pages s e pages h low high page z) height looked at_z
    (λ h (down : IsAtChild g.S.Pages s a pages h low high page z c.in-Ok-Child.child) is. takes_below g.S.Pages laws s a pages h low high page z c.in-Ok-Child.child looked.reads looked.wide down c.gone_law.ensures.taken e
    (takes pages h _ _ agrees (less_below height h c.args.levels is less) down.at)))

pub returns-in-Ok-Some-drop_leaf-clause-spares : goal.returns-in-Ok-Some-drop_leaf-clause-spares
returns-in-Ok-Some-drop_leaf-clause-spares g t c = λ pages height low high agrees less placed.
    (returns-in-Ok-Some-drop_leaf-clause-taken g t c pages height low high agrees less placed).loses.shifts.spares

pub returns-in-Ok-None-drop_leaf-clause-spares : goal.returns-in-Ok-None-drop_leaf-clause-spares
returns-in-Ok-None-drop_leaf-clause-spares g t c = λ pages height low high agrees less placed.
    (returns-in-Ok-None-drop_leaf-clause-taken g t c pages height low high agrees less placed).loses.shifts.spares

pub returns-in-Ok-Some-false-clause-spares : goal.returns-in-Ok-Some-false-clause-spares
returns-in-Ok-Some-false-clause-spares g t c = λ pages height low high agrees less placed.
    (returns-in-Ok-Some-false-clause-taken g t c pages height low high agrees less placed).loses.shifts.spares

pub returns-in-Ok-None-take_below-clause-absent : goal.returns-in-Ok-None-take_below-clause-absent
returns-in-Ok-None-take_below-clause-absent g t c = λ none pages height low high agrees less placed.
    let s = c.args.space.now in
    let a = c.look.new.space in
    let page = c.args.page in
    let z = to_z w64 (of_z w64 c.args.rowid) in
    let same : z ≡ c.args.rowid = grind (arith, to_z-of_z) in
    let laws = c.below_law.ensures in
    let at_z : IsPlaceFor g.S.Pages s pages height low high page z = subst (λ (k : ℤ). IsPlaceFor g.S.Pages s pages height low high page k) (sym same) placed in
    let e = c.take_below.new.space in
    let agrees_a = c.in-Ok-None-take_below.ensures.kept.earlier pages agrees in
    let bytes = c.in-Ok-Child.ensures.bytes pages agrees_a in
    let looked : IsLooked g.S.Pages s a pages page z (Child c.in-Ok-Child.child) = looked_is g.S.Pages s a pages page z z _ (Child c.in-Ok-Child.child) _ refl c.in-Ok-Child.field-0-is agrees_a c.in-Ok-Child.ensures.reads
    (λ ready held. c.in-Ok-Child.ensures.shifts pages agrees_a ready held) c.in-Ok-Child.ensures.given c.in-Ok-Child.ensures.wide c.in-Ok-Child.ensures.inside bytes in
    subst (λ (k : ℤ). IsAbsent g.S.Pages s e pages height page k) same (
    at_child g.S.Pages laws s a pages low high page z c.in-Ok-Child.child (λ h. IsAbsent g.S.Pages s e pages h page z) height looked at_z
    (λ h (down : IsAtChild g.S.Pages s a pages h low high page z c.in-Ok-Child.child) is. absent_below g.S.Pages laws s a pages h low high page z c.in-Ok-Child.child looked.reads looked.wide down e
    (c.in-Ok-None-take_below.ensures.absent c.in-Ok-None-take_below.field-0-is pages h _ _ agrees (less_below height h c.args.levels is less) down.at)))

pub returns-in-Ok-None-take_below-clause-spares : goal.returns-in-Ok-None-take_below-clause-spares
returns-in-Ok-None-take_below-clause-spares g t c = λ pages height low high agrees less placed.
    (returns-in-Ok-None-take_below-clause-absent g t c refl pages height low high agrees less placed).shifts.spares

pub returns-in-Ok-Child-clause-spares : goal.returns-in-Ok-Child-clause-spares
returns-in-Ok-Child-clause-spares g t c = λ pages height low high agrees less placed.
    let s = c.args.space.now in
    let a = c.look.new.space in
    let page = c.args.page in
    let z = to_z w64 (of_z w64 c.args.rowid) in
    let same : z ≡ c.args.rowid = grind (arith, to_z-of_z) in
    let laws = c.below_law.ensures in
    let at_z : IsPlaceFor g.S.Pages s pages height low high page z = subst (λ (k : ℤ). IsPlaceFor g.S.Pages s pages height low high page k) (sym same) placed in
    let e = c.take_below.new.space in
    let agrees_a = c.in-Err-take_below.ensures.kept.earlier pages agrees in
    let bytes = c.in-Ok-Child.ensures.bytes pages agrees_a in
    let looked : IsLooked g.S.Pages s a pages page z (Child c.in-Ok-Child.child) = looked_is g.S.Pages s a pages page z z _ (Child c.in-Ok-Child.child) _ refl c.in-Ok-Child.field-0-is agrees_a c.in-Ok-Child.ensures.reads
    (λ ready held. c.in-Ok-Child.ensures.shifts pages agrees_a ready held) c.in-Ok-Child.ensures.given c.in-Ok-Child.ensures.wide c.in-Ok-Child.ensures.inside bytes in
    at_child g.S.Pages laws s a pages low high page z c.in-Ok-Child.child (λ h. Spares g.S.Pages s e pages (all_pages (g.S.Pages.used s) (sight g.S.Pages s pages) h page) 0) height looked at_z
    (λ h (down : IsAtChild g.S.Pages s a pages h low high page z c.in-Ok-Child.child) is. fails_below g.S.Pages laws s a pages h low high page z c.in-Ok-Child.child looked.reads looked.wide down e
    (c.in-Err-take_below.ensures.spares pages h _ _ agrees (less_below height h c.args.levels is less) down.at))

pub returns-in-Ok-Child-clause-likely : goal.returns-in-Ok-Child-clause-likely
returns-in-Ok-Child-clause-likely g t c = λ pages height low high agrees less placed unsealed.
    let s = c.args.space.now in
    let a = c.look.new.space in
    let page = c.args.page in
    let z = to_z w64 (of_z w64 c.args.rowid) in
    let same : z ≡ c.args.rowid = grind (arith, to_z-of_z) in
    let laws = c.below_law.ensures in
    let at_z : IsPlaceFor g.S.Pages s pages height low high page z = subst (λ (k : ℤ). IsPlaceFor g.S.Pages s pages height low high page k) (sym same) placed in
    let e = c.take_below.new.space in
    let agrees_a = c.in-Err-take_below.ensures.kept.earlier pages agrees in
    let bytes = c.in-Ok-Child.ensures.bytes pages agrees_a in
    let looked : IsLooked g.S.Pages s a pages page z (Child c.in-Ok-Child.child) = looked_is g.S.Pages s a pages page z z _ (Child c.in-Ok-Child.child) _ refl c.in-Ok-Child.field-0-is agrees_a c.in-Ok-Child.ensures.reads
    (λ ready held. c.in-Ok-Child.ensures.shifts pages agrees_a ready held) c.in-Ok-Child.ensures.given c.in-Ok-Child.ensures.wide c.in-Ok-Child.ensures.inside bytes in
    at_child g.S.Pages laws s a pages low high page z c.in-Ok-Child.child (λ h. IsSureOfTree (number_in (sight g.S.Pages e pages)) c.in-Err-take_below.fault) height looked at_z
    (λ h (down : IsAtChild g.S.Pages s a pages h low high page z c.in-Ok-Child.child) is.
    c.in-Err-take_below.ensures.likely pages h _ _ agrees (less_below height h c.args.levels is less) down.at (looked.reads.sealed ∙ unsealed))

pub returns-clause-spares : goal.returns-clause-spares
returns-clause-spares g t c = λ pages height low high agrees less placed.
    (tree_seen g.S.Pages c.below_law.ensures c.args.space.now c.look.new.space pages height low high c.args.page c.args.rowid placed (λ ready held. c.in-Err.ensures.shifts pages agrees ready held)).spares

pub returns-clause-likely : goal.returns-clause-likely
returns-clause-likely g t c = λ pages height low high agrees less placed unsealed.
    c.in-Err.ensures.likely pages agrees placed.ready (page_held g.S.Pages c.below_law.ensures c.args.space.now pages height low high c.args.page c.args.rowid placed) height low high placed.tree
