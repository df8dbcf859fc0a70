use Rattle.std.proofs.Common.{◌≡◌, ◌≤◌, ◌∙◌, ℕ, ℤ, zero, suc, List, length, sym, subst, arith, to_z, of_z, w64, to_z-of_z}
use Rattle.spe_model.specs.Standing.{all_pages}
use Rattle.spe_space.specs.Calls.{sight}
use Rattle.spe_space.specs.Front.{number_in}
use Rattle.spe_space.specs.Outcome.{IsSure}
use Rattle.spe_frame.specs.Held.{Spares}
use Rattle.spe_write.specs.Chain.{IsSureOfTree}
use Rattle.spe_insert.specs.Below.{IsPlaceFor}
use Rattle.spe_insert.proofs.LookLemmas.{tree_seen}
use Rattle.spe_delete.specs.Child.{HasEmptyLeaf}
use Rattle.spe_delete.specs.Merge.{Merges}
use Rattle.spe_delete.proofs.LeafEndLemmas.{IsEnd, at_one, children_at, later, legal_is, node}
use Rattle.spe_mend.specs.Thin.{BecomesThin, HasOtherCells}
use Rattle.spe_mend.proofs.ThinLemmas.{bare_low, becomes_thin, pair_held, thin_fails}
use Rattle.spe_mend.proofs.thin.drop_only_leaf.Goals as goal

pub returns-in-Err-clause-spares : goal.returns-in-Err-clause-spares
returns-in-Err-clause-spares g c = λ pages height low high agrees less placed empty.
    (tree_seen g.S.Pages c.below_law.ensures c.args.space.now c.see_page.new.space pages height low high c.args.page c.args.rowid placed (λ ready held. c.in-Err.ensures.shifts pages agrees ready held)).spares

pub returns-in-Ok-None-clause-spares : goal.returns-in-Ok-None-clause-spares
returns-in-Ok-None-clause-spares g c = λ pages height low high agrees less placed empty.
    (tree_seen g.S.Pages c.below_law.ensures c.args.space.now c.see_page.new.space pages height low high c.args.page c.args.rowid placed (λ ready held. c.in-Ok.ensures.shifts pages agrees ready held)).spares

pub returns-in-Err-child_left-clause-spares : goal.returns-in-Err-child_left-clause-spares
returns-in-Err-child_left-clause-spares g c = λ pages height low high agrees less placed empty.
    (tree_seen g.S.Pages c.below_law.ensures c.args.space.now c.see_page.new.space pages height low high c.args.page c.args.rowid placed (λ ready held. c.in-Ok.ensures.shifts pages agrees ready held)).spares

pub returns-in-Ok-None-clause-other : goal.returns-in-Ok-None-clause-other
returns-in-Ok-None-clause-other g c = λ none pages height low high agrees less placed empty.
    let s = c.args.space.now in
    let a = c.see_page.new.space in
    let page = c.args.page in
    let leaf = c.args.leaf in
    let z = to_z w64 (of_z w64 c.args.rowid) in
    let same : z ≡ c.args.rowid = grind (arith, to_z-of_z) in
    let laws = c.below_law.ensures in
    let wider = c.stretch_law.ensures.wider in
    let placed_z : IsPlaceFor g.S.Pages s pages height low high page z = subst (λ (k : ℤ). IsPlaceFor g.S.Pages s pages height low high page k) (sym same) placed in
    let empty_z : HasEmptyLeaf g.S.Pages s pages height page leaf z = subst (λ (k : ℤ). HasEmptyLeaf g.S.Pages s pages height page leaf k) (sym same) empty in
    let agrees_a = agrees in
    let bytes = c.in-Ok.ensures.bytes pages agrees_a in
    let used = c.usable-usable.ensures.value ∙ c.in-Ok.ensures.reads.used in
    let usable = c.usable-usable.result in
    let inside : g.S.Pages.used s ≤ length (sight g.S.Pages s pages page) = subst (λ (bs : List ℕ). g.S.Pages.used s ≤ length bs) bytes (subst (λ (v : ℕ). v ≤ length c.see_page.new.buf) used c.in-Ok-None.ensures.wide) in
    let wide : 480 ≤ g.S.Pages.used s = (let range = c.usable-usable.ensures.range.0 in omega (arith, range, used)) in
    at_one (λ (h : ℕ). IsPlaceFor g.S.Pages s pages h low high page z → HasEmptyLeaf g.S.Pages s pages h page leaf z → HasOtherCells g.S.Pages s a pages h page) height empty_z.level
    (λ at there.
    let x : IsEnd g.S.Pages s a pages low high page leaf z = record {
      placed = at;
      empty = there;
      reads = c.in-Ok.ensures.reads;
      seen = tree_seen g.S.Pages laws s a pages (suc zero) low high page z at (λ ready held. c.in-Ok.ensures.shifts pages agrees_a ready held);
      inside = inside;
      wide = wide;
    } in
    let children = children_at (g.S.Pages.used s) (sight g.S.Pages s pages) page in
    let legal = legal_is usable (g.S.Pages.used s) page (sight g.S.Pages s pages) c.see_page.new.buf children used bytes (node g.S.Pages laws wider s a pages low high page leaf z x) in
    record { other = c.in-Ok-None.ensures.other c.in-Ok-None.field-0-is children legal; shifts = x.seen }) placed_z empty_z

pub returns-in-Err-child_left-clause-likely : goal.returns-in-Err-child_left-clause-likely
returns-in-Err-child_left-clause-likely g c = λ pages height low high agrees less placed empty unsealed.
    let s = c.args.space.now in
    let a = c.see_page.new.space in
    let page = c.args.page in
    let leaf = c.args.leaf in
    let z = to_z w64 (of_z w64 c.args.rowid) in
    let same : z ≡ c.args.rowid = grind (arith, to_z-of_z) in
    let laws = c.below_law.ensures in
    let wider = c.stretch_law.ensures.wider in
    let placed_z : IsPlaceFor g.S.Pages s pages height low high page z = subst (λ (k : ℤ). IsPlaceFor g.S.Pages s pages height low high page k) (sym same) placed in
    let empty_z : HasEmptyLeaf g.S.Pages s pages height page leaf z = subst (λ (k : ℤ). HasEmptyLeaf g.S.Pages s pages height page leaf k) (sym same) empty in
    let agrees_a = agrees in
    let bytes = c.in-Ok.ensures.bytes pages agrees_a in
    let used = c.usable-usable.ensures.value ∙ c.in-Ok.ensures.reads.used in
    let usable = c.usable-usable.result in
    let inside : g.S.Pages.used s ≤ length (sight g.S.Pages s pages page) = subst (λ (bs : List ℕ). g.S.Pages.used s ≤ length bs) bytes (subst (λ (v : ℕ). v ≤ length c.see_page.new.buf) used c.in-Err-child_left.ensures.wide) in
    let wide : 480 ≤ g.S.Pages.used s = (let range = c.usable-usable.ensures.range.0 in omega (arith, range, used)) in
    at_one (λ (h : ℕ). IsPlaceFor g.S.Pages s pages h low high page z → HasEmptyLeaf g.S.Pages s pages h page leaf z → IsSureOfTree (number_in (sight g.S.Pages a pages)) c.in-Err-child_left.fault) height empty_z.level
    (λ at there.
    let x : IsEnd g.S.Pages s a pages low high page leaf z = record {
      placed = at;
      empty = there;
      reads = c.in-Ok.ensures.reads;
      seen = tree_seen g.S.Pages laws s a pages (suc zero) low high page z at (λ ready held. c.in-Ok.ensures.shifts pages agrees_a ready held);
      inside = inside;
      wide = wide;
    } in
    let children = children_at (g.S.Pages.used s) (sight g.S.Pages s pages) page in
    let legal = legal_is usable (g.S.Pages.used s) page (sight g.S.Pages s pages) c.see_page.new.buf children used bytes (node g.S.Pages laws wider s a pages low high page leaf z x) in
    subst (IsSureOfTree (number_in (sight g.S.Pages a pages))) (sym (c.in-Err-child_left.ensures.fault children legal)) tt) placed_z empty_z

pub returns-in-Ok-true-clause-thin : goal.returns-in-Ok-true-clause-thin
returns-in-Ok-true-clause-thin g c = λ pages height low high agrees less placed empty.
    let s = c.args.space.now in
    let a = c.see_page.new.space in
    let page = c.args.page in
    let leaf = c.args.leaf in
    let z = to_z w64 (of_z w64 c.args.rowid) in
    let same : z ≡ c.args.rowid = grind (arith, to_z-of_z) in
    let laws = c.below_law.ensures in
    let wider = c.stretch_law.ensures.wider in
    let placed_z : IsPlaceFor g.S.Pages s pages height low high page z = subst (λ (k : ℤ). IsPlaceFor g.S.Pages s pages height low high page k) (sym same) placed in
    let empty_z : HasEmptyLeaf g.S.Pages s pages height page leaf z = subst (λ (k : ℤ). HasEmptyLeaf g.S.Pages s pages height page leaf k) (sym same) empty in
    let agrees_a = c.in-Ok-true.ensures.kept.earlier pages agrees in
    let bytes = c.in-Ok.ensures.bytes pages agrees_a in
    let used = c.usable-usable.ensures.value ∙ c.in-Ok.ensures.reads.used in
    let usable = c.usable-usable.result in
    let inside : g.S.Pages.used s ≤ length (sight g.S.Pages s pages page) = subst (λ (bs : List ℕ). g.S.Pages.used s ≤ length bs) bytes (subst (λ (v : ℕ). v ≤ length c.see_page.new.buf) used c.in-Ok-Some.ensures.wide) in
    let wide : 480 ≤ g.S.Pages.used s = (let range = c.usable-usable.ensures.range.0 in omega (arith, range, used)) in
    at_one (λ (h : ℕ). IsPlaceFor g.S.Pages s pages h low high page z → HasEmptyLeaf g.S.Pages s pages h page leaf z → BecomesThin g.S.Pages s c.merge_pages.new.space pages h low high page c.in-Ok-Some.child c.args.rowid) height empty_z.level
    (λ at there.
    let x : IsEnd g.S.Pages s a pages low high page leaf z = record {
      placed = at;
      empty = there;
      reads = c.in-Ok.ensures.reads;
      seen = tree_seen g.S.Pages laws s a pages (suc zero) low high page z at (λ ready held. c.in-Ok.ensures.shifts pages agrees_a ready held);
      inside = inside;
      wide = wide;
    } in
    let children = children_at (g.S.Pages.used s) (sight g.S.Pages s pages) page in
    let legal = legal_is usable (g.S.Pages.used s) page (sight g.S.Pages s pages) c.see_page.new.buf children used bytes (node g.S.Pages laws wider s a pages low high page leaf z x) in
    let child = c.in-Ok-Some.child in
    let one = (rw c.in-Ok-Some.field-0-is at c.in-Ok-Some.ensures.one) children legal in
    let was = (rw c.in-Ok-Some.field-0-is at c.in-Ok-Some.ensures.child) children legal in
    let held_both = pair_held g.S.Pages laws wider s a pages low high page leaf child z x one was in
    let other = later g.S.Pages laws wider s a pages low high page leaf z x in
    let low_leaf = bare_low g.S.Pages laws wider s a pages low high page leaf child z x one was in
    subst (λ (k : ℤ). BecomesThin g.S.Pages s c.merge_pages.new.space pages (suc zero) low high page child k) same
    (becomes_thin g.S.Pages laws wider s a pages low high page leaf child z x one was c.merge_pages.new.space (subst (Merges g.S.Pages a c.merge_pages.new.space pages page leaf) c.thin_page-node.ensures.cells
    (c.in-Ok-true.ensures.merged c.in-Ok-true.field-0-test pages agrees x.seen.ready held_both other low_leaf)))) placed_z empty_z

pub returns-in-Ok-true-clause-spares : goal.returns-in-Ok-true-clause-spares
returns-in-Ok-true-clause-spares g c = λ pages height low high agrees less placed empty.
    (returns-in-Ok-true-clause-thin g c pages height low high agrees less placed empty).shifts.spares

pub returns-in-Ok-false-clause-spares : goal.returns-in-Ok-false-clause-spares
returns-in-Ok-false-clause-spares g c = λ pages height low high agrees less placed empty.
    let s = c.args.space.now in
    let a = c.see_page.new.space in
    let page = c.args.page in
    let leaf = c.args.leaf in
    let z = to_z w64 (of_z w64 c.args.rowid) in
    let same : z ≡ c.args.rowid = grind (arith, to_z-of_z) in
    let laws = c.below_law.ensures in
    let wider = c.stretch_law.ensures.wider in
    let placed_z : IsPlaceFor g.S.Pages s pages height low high page z = subst (λ (k : ℤ). IsPlaceFor g.S.Pages s pages height low high page k) (sym same) placed in
    let empty_z : HasEmptyLeaf g.S.Pages s pages height page leaf z = subst (λ (k : ℤ). HasEmptyLeaf g.S.Pages s pages height page leaf k) (sym same) empty in
    let agrees_a = c.in-Ok-false.ensures.kept.earlier pages agrees in
    let bytes = c.in-Ok.ensures.bytes pages agrees_a in
    let used = c.usable-usable.ensures.value ∙ c.in-Ok.ensures.reads.used in
    let usable = c.usable-usable.result in
    let inside : g.S.Pages.used s ≤ length (sight g.S.Pages s pages page) = subst (λ (bs : List ℕ). g.S.Pages.used s ≤ length bs) bytes (subst (λ (v : ℕ). v ≤ length c.see_page.new.buf) used c.in-Ok-Some.ensures.wide) in
    let wide : 480 ≤ g.S.Pages.used s = (let range = c.usable-usable.ensures.range.0 in omega (arith, range, used)) in
    at_one (λ (h : ℕ). IsPlaceFor g.S.Pages s pages h low high page z → HasEmptyLeaf g.S.Pages s pages h page leaf z → Spares g.S.Pages s c.merge_pages.new.space pages (all_pages (g.S.Pages.used s) (sight g.S.Pages s pages) h page) 0) height empty_z.level
    (λ at there.
    let x : IsEnd g.S.Pages s a pages low high page leaf z = record {
      placed = at;
      empty = there;
      reads = c.in-Ok.ensures.reads;
      seen = tree_seen g.S.Pages laws s a pages (suc zero) low high page z at (λ ready held. c.in-Ok.ensures.shifts pages agrees_a ready held);
      inside = inside;
      wide = wide;
    } in
    let children = children_at (g.S.Pages.used s) (sight g.S.Pages s pages) page in
    let legal = legal_is usable (g.S.Pages.used s) page (sight g.S.Pages s pages) c.see_page.new.buf children used bytes (node g.S.Pages laws wider s a pages low high page leaf z x) in
    let child = c.in-Ok-Some.child in
    let one = (rw c.in-Ok-Some.field-0-is at c.in-Ok-Some.ensures.one) children legal in
    let was = (rw c.in-Ok-Some.field-0-is at c.in-Ok-Some.ensures.child) children legal in
    let held_both = pair_held g.S.Pages laws wider s a pages low high page leaf child z x one was in
    let other = later g.S.Pages laws wider s a pages low high page leaf z x in
    let low_leaf = bare_low g.S.Pages laws wider s a pages low high page leaf child z x one was in
    thin_fails g.S.Pages laws wider s a pages low high page leaf child z x one was c.merge_pages.new.space (c.in-Ok-false.ensures.spares pages agrees x.seen.ready held_both other low_leaf)) placed_z empty_z

pub returns-clause-spares : goal.returns-clause-spares
returns-clause-spares g c = λ pages height low high agrees less placed empty.
    let s = c.args.space.now in
    let a = c.see_page.new.space in
    let page = c.args.page in
    let leaf = c.args.leaf in
    let z = to_z w64 (of_z w64 c.args.rowid) in
    let same : z ≡ c.args.rowid = grind (arith, to_z-of_z) in
    let laws = c.below_law.ensures in
    let wider = c.stretch_law.ensures.wider in
    let placed_z : IsPlaceFor g.S.Pages s pages height low high page z = subst (λ (k : ℤ). IsPlaceFor g.S.Pages s pages height low high page k) (sym same) placed in
    let empty_z : HasEmptyLeaf g.S.Pages s pages height page leaf z = subst (λ (k : ℤ). HasEmptyLeaf g.S.Pages s pages height page leaf k) (sym same) empty in
    let agrees_a = c.in-Err-merge_pages.ensures.kept.earlier pages agrees in
    let bytes = c.in-Ok.ensures.bytes pages agrees_a in
    let used = c.usable-usable.ensures.value ∙ c.in-Ok.ensures.reads.used in
    let usable = c.usable-usable.result in
    let inside : g.S.Pages.used s ≤ length (sight g.S.Pages s pages page) = subst (λ (bs : List ℕ). g.S.Pages.used s ≤ length bs) bytes (subst (λ (v : ℕ). v ≤ length c.see_page.new.buf) used c.in-Ok-Some.ensures.wide) in
    let wide : 480 ≤ g.S.Pages.used s = (let range = c.usable-usable.ensures.range.0 in omega (arith, range, used)) in
    at_one (λ (h : ℕ). IsPlaceFor g.S.Pages s pages h low high page z → HasEmptyLeaf g.S.Pages s pages h page leaf z → Spares g.S.Pages s c.merge_pages.new.space pages (all_pages (g.S.Pages.used s) (sight g.S.Pages s pages) h page) 0) height empty_z.level
    (λ at there.
    let x : IsEnd g.S.Pages s a pages low high page leaf z = record {
      placed = at;
      empty = there;
      reads = c.in-Ok.ensures.reads;
      seen = tree_seen g.S.Pages laws s a pages (suc zero) low high page z at (λ ready held. c.in-Ok.ensures.shifts pages agrees_a ready held);
      inside = inside;
      wide = wide;
    } in
    let children = children_at (g.S.Pages.used s) (sight g.S.Pages s pages) page in
    let legal = legal_is usable (g.S.Pages.used s) page (sight g.S.Pages s pages) c.see_page.new.buf children used bytes (node g.S.Pages laws wider s a pages low high page leaf z x) in
    let child = c.in-Ok-Some.child in
    let one = (rw c.in-Ok-Some.field-0-is at c.in-Ok-Some.ensures.one) children legal in
    let was = (rw c.in-Ok-Some.field-0-is at c.in-Ok-Some.ensures.child) children legal in
    let held_both = pair_held g.S.Pages laws wider s a pages low high page leaf child z x one was in
    let other = later g.S.Pages laws wider s a pages low high page leaf z x in
    let low_leaf = bare_low g.S.Pages laws wider s a pages low high page leaf child z x one was in
    thin_fails g.S.Pages laws wider s a pages low high page leaf child z x one was c.merge_pages.new.space (c.in-Err-merge_pages.ensures.spares pages agrees x.seen.ready held_both other low_leaf)) placed_z empty_z

pub returns-clause-likely : goal.returns-clause-likely
returns-clause-likely g c = λ pages height low high agrees less placed empty unsealed.
    let s = c.args.space.now in
    let a = c.see_page.new.space in
    let page = c.args.page in
    let leaf = c.args.leaf in
    let z = to_z w64 (of_z w64 c.args.rowid) in
    let same : z ≡ c.args.rowid = grind (arith, to_z-of_z) in
    let laws = c.below_law.ensures in
    let wider = c.stretch_law.ensures.wider in
    let placed_z : IsPlaceFor g.S.Pages s pages height low high page z = subst (λ (k : ℤ). IsPlaceFor g.S.Pages s pages height low high page k) (sym same) placed in
    let empty_z : HasEmptyLeaf g.S.Pages s pages height page leaf z = subst (λ (k : ℤ). HasEmptyLeaf g.S.Pages s pages height page leaf k) (sym same) empty in
    let agrees_a = c.in-Err-merge_pages.ensures.kept.earlier pages agrees in
    let bytes = c.in-Ok.ensures.bytes pages agrees_a in
    let used = c.usable-usable.ensures.value ∙ c.in-Ok.ensures.reads.used in
    let usable = c.usable-usable.result in
    let inside : g.S.Pages.used s ≤ length (sight g.S.Pages s pages page) = subst (λ (bs : List ℕ). g.S.Pages.used s ≤ length bs) bytes (subst (λ (v : ℕ). v ≤ length c.see_page.new.buf) used c.in-Ok-Some.ensures.wide) in
    let wide : 480 ≤ g.S.Pages.used s = (let range = c.usable-usable.ensures.range.0 in omega (arith, range, used)) in
    at_one (λ (h : ℕ). IsPlaceFor g.S.Pages s pages h low high page z → HasEmptyLeaf g.S.Pages s pages h page leaf z → IsSure (number_in (sight g.S.Pages c.merge_pages.new.space pages)) c.in-Err-merge_pages.fault) height empty_z.level
    (λ at there.
    let x : IsEnd g.S.Pages s a pages low high page leaf z = record {
      placed = at;
      empty = there;
      reads = c.in-Ok.ensures.reads;
      seen = tree_seen g.S.Pages laws s a pages (suc zero) low high page z at (λ ready held. c.in-Ok.ensures.shifts pages agrees_a ready held);
      inside = inside;
      wide = wide;
    } in
    let children = children_at (g.S.Pages.used s) (sight g.S.Pages s pages) page in
    let legal = legal_is usable (g.S.Pages.used s) page (sight g.S.Pages s pages) c.see_page.new.buf children used bytes (node g.S.Pages laws wider s a pages low high page leaf z x) in
    let child = c.in-Ok-Some.child in
    let one = (rw c.in-Ok-Some.field-0-is at c.in-Ok-Some.ensures.one) children legal in
    let was = (rw c.in-Ok-Some.field-0-is at c.in-Ok-Some.ensures.child) children legal in
    let held_both = pair_held g.S.Pages laws wider s a pages low high page leaf child z x one was in
    let other = later g.S.Pages laws wider s a pages low high page leaf z x in
    let low_leaf = bare_low g.S.Pages laws wider s a pages low high page leaf child z x one was in
    c.in-Err-merge_pages.ensures.likely pages agrees x.seen.ready held_both (c.in-Ok.ensures.reads.sealed ∙ unsealed) other low_leaf) placed_z empty_z
