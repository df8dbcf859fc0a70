use Rattle.std.proofs.Common.{◌≡◌, ℤ, ◌∙◌, refl, subst, sym, arith, to_z, of_z, w64, to_z-of_z, length}
use Rattle.spe_model.specs.Standing.{all_pages}
use Rattle.spe_space.specs.Calls.{sight}
use Rattle.spe_frame.specs.Held.{Spares}
use Rattle.spe_write.specs.Chain.{IsSureOfTree}
use Rattle.spe_space.specs.Front.{number_in}
use Rattle.spe_search.specs.declared.page.Step.TheVariants.{Child, Missing, Row}
use Rattle.spe_insert.specs.Below.{Becomes, IsPlaceFor, pages_for}
use Rattle.spe_insert.specs.Edit.{changes}
use Rattle.spe_insert.specs.Replace.{IsUnmatched}
use Rattle.spe_insert.specs.Run.{run_of}
use Rattle.spe_insert.proofs.LookLemmas.{IsAtChild, IsLooked, IsReturn, at_child, becomes_seen, becomes_up, less_below, looked_is, page_held, page_same, returns_from, spares_back, spares_below, spares_got, spares_seen, tree_seen}
use Rattle.spe_insert.proofs.ReplaceBelowLemmas.{IsAtRow, at_row, row_unmatched, unmatched_below}
use Rattle.spe_insert.proofs.replace_below.+replace_below.Goals as goal

pub returns-in-Ok-clause-put : goal.returns-in-Ok-clause-put
returns-in-Ok-clause-put g t c = λ pages height low high agrees less placed.
    let s = c.args.space.now in
    let a = c.look.new.space in
    let page = c.args.page in
    let z = to_z w64 (of_z w64 c.args.rowid) in
    let same : z ≡ c.args.rowid = grind (arith, to_z-of_z) in
    let laws = c.below_law.ensures in
    let at_z : IsPlaceFor g.S.Pages s pages height low high page z = subst (λ (k : ℤ). IsPlaceFor g.S.Pages s pages height low high page k) (sym same) placed in
    let e = c.replace_in_leaf.new.space in
    let agrees_a = c.in-Ok.ensures.kept.earlier pages agrees in
    let bytes = c.in-Ok-Row.ensures.bytes pages agrees_a in
    let looked : IsLooked g.S.Pages s a pages page z (Row c.in-Ok-Row.field-0-0) = looked_is g.S.Pages s a pages page z z _ (Row c.in-Ok-Row.field-0-0) _ refl c.in-Ok-Row.field-0-is agrees_a c.in-Ok-Row.ensures.reads
    (λ ready held. c.in-Ok-Row.ensures.shifts pages agrees_a ready held) c.in-Ok-Row.ensures.given c.in-Ok-Row.ensures.wide c.in-Ok-Row.ensures.inside bytes in
    let run = run_of c.in-Ok.run' in
    subst (λ (k : ℤ). Becomes g.S.Pages s e pages height low high page k (changes c.args.payload.now) run) same
    (at_row g.S.Pages laws s a pages low high page z c.in-Ok-Row.field-0-0 (λ h. Becomes g.S.Pages s e pages h low high page z (changes c.args.payload.now) run) height looked at_z
    (λ (leaf : IsAtRow g.S.Pages s a pages low high page z). becomes_seen g.S.Pages laws s a e pages 0 low high page z (changes c.args.payload.now) run looked.reads leaf.seen
    (c.in-Ok.ensures.put pages 0 low high agrees (omega arith) leaf.placed (page_same g.S.Pages s a pages page _ looked.reads bytes) leaf.present)))

pub returns-in-Ok-clause-spares : goal.returns-in-Ok-clause-spares
returns-in-Ok-clause-spares g t c = λ pages height low high agrees less placed.
    (returns-in-Ok-clause-put g t c pages height low high agrees less placed).shifts.spares

pub returns-in-Ok-Row-clause-spares : goal.returns-in-Ok-Row-clause-spares
returns-in-Ok-Row-clause-spares g t c = λ pages height low high agrees less placed.
    let s = c.args.space.now in
    let a = c.look.new.space in
    let page = c.args.page in
    let z = to_z w64 (of_z w64 c.args.rowid) in
    let same : z ≡ c.args.rowid = grind (arith, to_z-of_z) in
    let laws = c.below_law.ensures in
    let at_z : IsPlaceFor g.S.Pages s pages height low high page z = subst (λ (k : ℤ). IsPlaceFor g.S.Pages s pages height low high page k) (sym same) placed in
    let e = c.replace_in_leaf.new.space in
    let agrees_a = c.in-Err-replace_in_leaf.ensures.kept.earlier pages agrees in
    let bytes = c.in-Ok-Row.ensures.bytes pages agrees_a in
    let looked : IsLooked g.S.Pages s a pages page z (Row c.in-Ok-Row.field-0-0) = looked_is g.S.Pages s a pages page z z _ (Row c.in-Ok-Row.field-0-0) _ refl c.in-Ok-Row.field-0-is agrees_a c.in-Ok-Row.ensures.reads
    (λ ready held. c.in-Ok-Row.ensures.shifts pages agrees_a ready held) c.in-Ok-Row.ensures.given c.in-Ok-Row.ensures.wide c.in-Ok-Row.ensures.inside bytes in
    let size = length c.args.payload.now in
    at_row g.S.Pages laws s a pages low high page z c.in-Ok-Row.field-0-0 (λ h. Spares g.S.Pages s e pages (all_pages (g.S.Pages.used s) (sight g.S.Pages s pages) h page) (pages_for (g.S.Pages.used s) h size)) height looked at_z
    (λ (leaf : IsAtRow g.S.Pages s a pages low high page z). spares_seen g.S.Pages laws s a e pages 0 page size looked.reads leaf.seen
    (c.in-Err-replace_in_leaf.ensures.spares pages 0 low high agrees (omega arith) leaf.placed (page_same g.S.Pages s a pages page _ looked.reads bytes) leaf.present))

pub returns-in-Ok-Row-clause-likely : goal.returns-in-Ok-Row-clause-likely
returns-in-Ok-Row-clause-likely g t c = λ pages height low high agrees less placed unsealed.
    let s = c.args.space.now in
    let a = c.look.new.space in
    let page = c.args.page in
    let z = to_z w64 (of_z w64 c.args.rowid) in
    let same : z ≡ c.args.rowid = grind (arith, to_z-of_z) in
    let laws = c.below_law.ensures in
    let at_z : IsPlaceFor g.S.Pages s pages height low high page z = subst (λ (k : ℤ). IsPlaceFor g.S.Pages s pages height low high page k) (sym same) placed in
    let e = c.replace_in_leaf.new.space in
    let agrees_a = c.in-Err-replace_in_leaf.ensures.kept.earlier pages agrees in
    let bytes = c.in-Ok-Row.ensures.bytes pages agrees_a in
    let looked : IsLooked g.S.Pages s a pages page z (Row c.in-Ok-Row.field-0-0) = looked_is g.S.Pages s a pages page z z _ (Row c.in-Ok-Row.field-0-0) _ refl c.in-Ok-Row.field-0-is agrees_a c.in-Ok-Row.ensures.reads
    (λ ready held. c.in-Ok-Row.ensures.shifts pages agrees_a ready held) c.in-Ok-Row.ensures.given c.in-Ok-Row.ensures.wide c.in-Ok-Row.ensures.inside bytes in
    at_row g.S.Pages laws s a pages low high page z c.in-Ok-Row.field-0-0 (λ h. IsSureOfTree (number_in (sight g.S.Pages e pages)) c.in-Err-replace_in_leaf.fault) height looked at_z
    (λ (leaf : IsAtRow g.S.Pages s a pages low high page z).
    c.in-Err-replace_in_leaf.ensures.likely pages 0 low high agrees (omega arith) leaf.placed (page_same g.S.Pages s a pages page _ looked.reads bytes) leaf.present (looked.reads.sealed ∙ unsealed))

pub returns-in-Ok-Missing-clause-absent : goal.returns-in-Ok-Missing-clause-absent
returns-in-Ok-Missing-clause-absent g t c = λ none pages height low high agrees less placed.
    let s = c.args.space.now in
    let a = c.look.new.space in
    let page = c.args.page in
    let z = to_z w64 (of_z w64 c.args.rowid) in
    let same : z ≡ c.args.rowid = grind (arith, to_z-of_z) in
    let laws = c.below_law.ensures in
    let at_z : IsPlaceFor g.S.Pages s pages height low high page z = subst (λ (k : ℤ). IsPlaceFor g.S.Pages s pages height low high page k) (sym same) placed in
    let agrees_a = agrees in
    let bytes = c.in-Ok-Missing.ensures.bytes pages agrees_a in
    let looked : IsLooked g.S.Pages s a pages page z (Missing) = looked_is g.S.Pages s a pages page z z _ (Missing) _ refl c.in-Ok-Missing.field-0-is agrees_a c.in-Ok-Missing.ensures.reads
    (λ ready held. c.in-Ok-Missing.ensures.shifts pages agrees_a ready held) c.in-Ok-Missing.ensures.given c.in-Ok-Missing.ensures.wide c.in-Ok-Missing.ensures.inside bytes in
    subst (λ (k : ℤ). IsUnmatched g.S.Pages s a pages height page k) same (row_unmatched g.S.Pages laws s a pages height low high page z looked at_z)

pub returns-in-Ok-Missing-clause-spares : goal.returns-in-Ok-Missing-clause-spares
returns-in-Ok-Missing-clause-spares g t c = λ pages height low high agrees less placed.
    let s = c.args.space.now in
    let a = c.look.new.space in
    let page = c.args.page in
    let z = to_z w64 (of_z w64 c.args.rowid) in
    let same : z ≡ c.args.rowid = grind (arith, to_z-of_z) in
    let laws = c.below_law.ensures in
    let at_z : IsPlaceFor g.S.Pages s pages height low high page z = subst (λ (k : ℤ). IsPlaceFor g.S.Pages s pages height low high page k) (sym same) placed in
    let agrees_a = agrees in
    let bytes = c.in-Ok-Missing.ensures.bytes pages agrees_a in
    let looked : IsLooked g.S.Pages s a pages page z (Missing) = looked_is g.S.Pages s a pages page z z _ (Missing) _ refl c.in-Ok-Missing.field-0-is agrees_a c.in-Ok-Missing.ensures.reads
    (λ ready held. c.in-Ok-Missing.ensures.shifts pages agrees_a ready held) c.in-Ok-Missing.ensures.given c.in-Ok-Missing.ensures.wide c.in-Ok-Missing.ensures.inside bytes in
    spares_got g.S.Pages laws s a pages height page (length c.args.payload.now) (tree_seen g.S.Pages laws s a pages height low high page z at_z looked.shifts)

pub returns-in-Ok-put_run-clause-put : goal.returns-in-Ok-put_run-clause-put
returns-in-Ok-put_run-clause-put g t c = λ pages height low high agrees less placed.
    let s = c.args.space.now in
    let a = c.look.new.space in
    let page = c.args.page in
    let z = to_z w64 (of_z w64 c.args.rowid) in
    let same : z ≡ c.args.rowid = grind (arith, to_z-of_z) in
    let laws = c.below_law.ensures in
    let at_z : IsPlaceFor g.S.Pages s pages height low high page z = subst (λ (k : ℤ). IsPlaceFor g.S.Pages s pages height low high page k) (sym same) placed in
    let m = c.replace_below.new.space in
    let e = c.put_run.new.space in
    let agrees_m = c.in-Ok-put_run.ensures.kept.earlier pages agrees in
    let agrees_a = c.in-Ok-Some.ensures.kept.earlier pages agrees_m in
    let bytes = c.in-Ok-Child.ensures.bytes pages agrees_a in
    let looked : IsLooked g.S.Pages s a pages page z (Child c.in-Ok-Child.child) = looked_is g.S.Pages s a pages page z z _ (Child c.in-Ok-Child.child) _ refl c.in-Ok-Child.field-0-is agrees_a c.in-Ok-Child.ensures.reads
    (λ ready held. c.in-Ok-Child.ensures.shifts pages agrees_a ready held) c.in-Ok-Child.ensures.given c.in-Ok-Child.ensures.wide c.in-Ok-Child.ensures.inside bytes in
    let run = run_of c.in-Ok-Some.run' in
    let child = c.in-Ok-Child.child in
    let edit = changes c.args.payload.now in
    let puts = rw c.in-Ok-Some.field-0-is at c.in-Ok-Some.ensures.put in
    let new = run_of c.in-Ok-put_run.all in
    subst (λ (k : ℤ). Becomes g.S.Pages s e pages height low high page k edit new) same (
    at_child g.S.Pages laws s a pages low high page z child (λ h. Becomes g.S.Pages s e pages h low high page z edit new) height looked at_z
    (λ h (down : IsAtChild g.S.Pages s a pages h low high page z child) is.
    let back : IsReturn g.S.Pages s a m pages h low high page z edit child run = returns_from g.S.Pages laws s a m pages h low high page z edit child run down
    (puts pages h _ _ agrees_m (less_below height h c.args.levels is less) down.at) in
    becomes_up g.S.Pages laws s a m e pages h low high page z edit child run new looked.reads looked.wide (g.met.S.Pages.bounded a) back
    (c.in-Ok-put_run.ensures.laid pages agrees back.ready back.held back.down.children down.later back.begun)))

pub returns-in-Ok-put_run-clause-spares : goal.returns-in-Ok-put_run-clause-spares
returns-in-Ok-put_run-clause-spares g t c = λ pages height low high agrees less placed.
    (returns-in-Ok-put_run-clause-put g t c pages height low high agrees less placed).shifts.spares

pub returns-in-Ok-Some-clause-spares : goal.returns-in-Ok-Some-clause-spares
returns-in-Ok-Some-clause-spares g t c = λ pages height low high agrees less placed.
    let s = c.args.space.now in
    let a = c.look.new.space in
    let page = c.args.page in
    let z = to_z w64 (of_z w64 c.args.rowid) in
    let same : z ≡ c.args.rowid = grind (arith, to_z-of_z) in
    let laws = c.below_law.ensures in
    let at_z : IsPlaceFor g.S.Pages s pages height low high page z = subst (λ (k : ℤ). IsPlaceFor g.S.Pages s pages height low high page k) (sym same) placed in
    let m = c.replace_below.new.space in
    let e = c.put_run.new.space in
    let agrees_m = c.in-Err-put_run.ensures.kept.earlier pages agrees in
    let agrees_a = c.in-Ok-Some.ensures.kept.earlier pages agrees_m in
    let bytes = c.in-Ok-Child.ensures.bytes pages agrees_a in
    let looked : IsLooked g.S.Pages s a pages page z (Child c.in-Ok-Child.child) = looked_is g.S.Pages s a pages page z z _ (Child c.in-Ok-Child.child) _ refl c.in-Ok-Child.field-0-is agrees_a c.in-Ok-Child.ensures.reads
    (λ ready held. c.in-Ok-Child.ensures.shifts pages agrees_a ready held) c.in-Ok-Child.ensures.given c.in-Ok-Child.ensures.wide c.in-Ok-Child.ensures.inside bytes in
    let run = run_of c.in-Ok-Some.run' in
    let child = c.in-Ok-Child.child in
    let edit = changes c.args.payload.now in
    let puts = rw c.in-Ok-Some.field-0-is at c.in-Ok-Some.ensures.put in
    at_child g.S.Pages laws s a pages low high page z child (λ h. Spares g.S.Pages s e pages (all_pages (g.S.Pages.used s) (sight g.S.Pages s pages) h page) (pages_for (g.S.Pages.used s) h (length c.args.payload.now))) height looked at_z
    (λ h (down : IsAtChild g.S.Pages s a pages h low high page z child) is.
    let back : IsReturn g.S.Pages s a m pages h low high page z edit child run = returns_from g.S.Pages laws s a m pages h low high page z edit child run down
    (puts pages h _ _ agrees_m (less_below height h c.args.levels is less) down.at) in
    spares_back g.S.Pages laws s a m e pages h low high page z edit child run looked.reads back (c.in-Err-put_run.ensures.spares pages agrees back.ready back.held down.later))

pub returns-in-Ok-Some-clause-likely : goal.returns-in-Ok-Some-clause-likely
returns-in-Ok-Some-clause-likely g t c = λ pages height low high agrees less placed unsealed.
    let s = c.args.space.now in
    let a = c.look.new.space in
    let page = c.args.page in
    let z = to_z w64 (of_z w64 c.args.rowid) in
    let same : z ≡ c.args.rowid = grind (arith, to_z-of_z) in
    let laws = c.below_law.ensures in
    let at_z : IsPlaceFor g.S.Pages s pages height low high page z = subst (λ (k : ℤ). IsPlaceFor g.S.Pages s pages height low high page k) (sym same) placed in
    let m = c.replace_below.new.space in
    let e = c.put_run.new.space in
    let agrees_m = c.in-Err-put_run.ensures.kept.earlier pages agrees in
    let agrees_a = c.in-Ok-Some.ensures.kept.earlier pages agrees_m in
    let bytes = c.in-Ok-Child.ensures.bytes pages agrees_a in
    let looked : IsLooked g.S.Pages s a pages page z (Child c.in-Ok-Child.child) = looked_is g.S.Pages s a pages page z z _ (Child c.in-Ok-Child.child) _ refl c.in-Ok-Child.field-0-is agrees_a c.in-Ok-Child.ensures.reads
    (λ ready held. c.in-Ok-Child.ensures.shifts pages agrees_a ready held) c.in-Ok-Child.ensures.given c.in-Ok-Child.ensures.wide c.in-Ok-Child.ensures.inside bytes in
    let run = run_of c.in-Ok-Some.run' in
    let child = c.in-Ok-Child.child in
    let edit = changes c.args.payload.now in
    let puts = rw c.in-Ok-Some.field-0-is at c.in-Ok-Some.ensures.put in
    at_child g.S.Pages laws s a pages low high page z child (λ h. IsSureOfTree (number_in (sight g.S.Pages e pages)) c.in-Err-put_run.fault) height looked at_z
    (λ h (down : IsAtChild g.S.Pages s a pages h low high page z child) is.
    let back : IsReturn g.S.Pages s a m pages h low high page z edit child run = returns_from g.S.Pages laws s a m pages h low high page z edit child run down
    (puts pages h _ _ agrees_m (less_below height h c.args.levels is less) down.at) in
    c.in-Err-put_run.ensures.likely pages agrees back.ready back.held back.down.children (c.in-Ok-Some.ensures.kept.sealed ∙ looked.reads.sealed ∙ unsealed) down.later back.begun back.ascends_)

pub returns-in-Ok-None-clause-absent : goal.returns-in-Ok-None-clause-absent
returns-in-Ok-None-clause-absent g t c = λ none pages height low high agrees less placed.
    let s = c.args.space.now in
    let a = c.look.new.space in
    let page = c.args.page in
    let z = to_z w64 (of_z w64 c.args.rowid) in
    let same : z ≡ c.args.rowid = grind (arith, to_z-of_z) in
    let laws = c.below_law.ensures in
    let at_z : IsPlaceFor g.S.Pages s pages height low high page z = subst (λ (k : ℤ). IsPlaceFor g.S.Pages s pages height low high page k) (sym same) placed in
    let e = c.replace_below.new.space in
    let agrees_a = c.in-Ok-None.ensures.kept.earlier pages agrees in
    let bytes = c.in-Ok-Child.ensures.bytes pages agrees_a in
    let looked : IsLooked g.S.Pages s a pages page z (Child c.in-Ok-Child.child) = looked_is g.S.Pages s a pages page z z _ (Child c.in-Ok-Child.child) _ refl c.in-Ok-Child.field-0-is agrees_a c.in-Ok-Child.ensures.reads
    (λ ready held. c.in-Ok-Child.ensures.shifts pages agrees_a ready held) c.in-Ok-Child.ensures.given c.in-Ok-Child.ensures.wide c.in-Ok-Child.ensures.inside bytes in
    let child = c.in-Ok-Child.child in
    let edit = changes c.args.payload.now in
    subst (λ (k : ℤ). IsUnmatched g.S.Pages s e pages height page k) same (
    at_child g.S.Pages laws s a pages low high page z child (λ h. IsUnmatched g.S.Pages s e pages h page z) height looked at_z
    (λ h (down : IsAtChild g.S.Pages s a pages h low high page z child) is. unmatched_below g.S.Pages laws s a e pages h low high page z child looked.reads down
    (c.in-Ok-None.ensures.absent c.in-Ok-None.field-0-is pages h _ _ agrees (less_below height h c.args.levels is less) down.at)))

pub returns-in-Ok-None-clause-spares : goal.returns-in-Ok-None-clause-spares
returns-in-Ok-None-clause-spares g t c = λ pages height low high agrees less placed.
    let s = c.args.space.now in
    let a = c.look.new.space in
    let page = c.args.page in
    let z = to_z w64 (of_z w64 c.args.rowid) in
    let same : z ≡ c.args.rowid = grind (arith, to_z-of_z) in
    let laws = c.below_law.ensures in
    let at_z : IsPlaceFor g.S.Pages s pages height low high page z = subst (λ (k : ℤ). IsPlaceFor g.S.Pages s pages height low high page k) (sym same) placed in
    let e = c.replace_below.new.space in
    let agrees_a = c.in-Ok-None.ensures.kept.earlier pages agrees in
    let bytes = c.in-Ok-Child.ensures.bytes pages agrees_a in
    let looked : IsLooked g.S.Pages s a pages page z (Child c.in-Ok-Child.child) = looked_is g.S.Pages s a pages page z z _ (Child c.in-Ok-Child.child) _ refl c.in-Ok-Child.field-0-is agrees_a c.in-Ok-Child.ensures.reads
    (λ ready held. c.in-Ok-Child.ensures.shifts pages agrees_a ready held) c.in-Ok-Child.ensures.given c.in-Ok-Child.ensures.wide c.in-Ok-Child.ensures.inside bytes in
    let child = c.in-Ok-Child.child in
    let edit = changes c.args.payload.now in
    at_child g.S.Pages laws s a pages low high page z child (λ h. Spares g.S.Pages s e pages (all_pages (g.S.Pages.used s) (sight g.S.Pages s pages) h page) (pages_for (g.S.Pages.used s) h (length c.args.payload.now))) height looked at_z
    (λ h (down : IsAtChild g.S.Pages s a pages h low high page z child) is. spares_below g.S.Pages laws s a e pages h low high page (length c.args.payload.now) z child looked.reads down
    (c.in-Ok-None.ensures.spares pages h _ _ agrees (less_below height h c.args.levels is less) down.at))

pub returns-in-Ok-Child-clause-spares : goal.returns-in-Ok-Child-clause-spares
returns-in-Ok-Child-clause-spares g t c = λ pages height low high agrees less placed.
    let s = c.args.space.now in
    let a = c.look.new.space in
    let page = c.args.page in
    let z = to_z w64 (of_z w64 c.args.rowid) in
    let same : z ≡ c.args.rowid = grind (arith, to_z-of_z) in
    let laws = c.below_law.ensures in
    let at_z : IsPlaceFor g.S.Pages s pages height low high page z = subst (λ (k : ℤ). IsPlaceFor g.S.Pages s pages height low high page k) (sym same) placed in
    let e = c.replace_below.new.space in
    let agrees_a = c.in-Err-replace_below.ensures.kept.earlier pages agrees in
    let bytes = c.in-Ok-Child.ensures.bytes pages agrees_a in
    let looked : IsLooked g.S.Pages s a pages page z (Child c.in-Ok-Child.child) = looked_is g.S.Pages s a pages page z z _ (Child c.in-Ok-Child.child) _ refl c.in-Ok-Child.field-0-is agrees_a c.in-Ok-Child.ensures.reads
    (λ ready held. c.in-Ok-Child.ensures.shifts pages agrees_a ready held) c.in-Ok-Child.ensures.given c.in-Ok-Child.ensures.wide c.in-Ok-Child.ensures.inside bytes in
    let child = c.in-Ok-Child.child in
    let edit = changes c.args.payload.now in
    at_child g.S.Pages laws s a pages low high page z child (λ h. Spares g.S.Pages s e pages (all_pages (g.S.Pages.used s) (sight g.S.Pages s pages) h page) (pages_for (g.S.Pages.used s) h (length c.args.payload.now))) height looked at_z
    (λ h (down : IsAtChild g.S.Pages s a pages h low high page z child) is. spares_below g.S.Pages laws s a e pages h low high page (length c.args.payload.now) z child looked.reads down
    (c.in-Err-replace_below.ensures.spares pages h _ _ agrees (less_below height h c.args.levels is less) down.at))

pub returns-in-Ok-Child-clause-likely : goal.returns-in-Ok-Child-clause-likely
returns-in-Ok-Child-clause-likely g t c = λ pages height low high agrees less placed unsealed.
    let s = c.args.space.now in
    let a = c.look.new.space in
    let page = c.args.page in
    let z = to_z w64 (of_z w64 c.args.rowid) in
    let same : z ≡ c.args.rowid = grind (arith, to_z-of_z) in
    let laws = c.below_law.ensures in
    let at_z : IsPlaceFor g.S.Pages s pages height low high page z = subst (λ (k : ℤ). IsPlaceFor g.S.Pages s pages height low high page k) (sym same) placed in
    let e = c.replace_below.new.space in
    let agrees_a = c.in-Err-replace_below.ensures.kept.earlier pages agrees in
    let bytes = c.in-Ok-Child.ensures.bytes pages agrees_a in
    let looked : IsLooked g.S.Pages s a pages page z (Child c.in-Ok-Child.child) = looked_is g.S.Pages s a pages page z z _ (Child c.in-Ok-Child.child) _ refl c.in-Ok-Child.field-0-is agrees_a c.in-Ok-Child.ensures.reads
    (λ ready held. c.in-Ok-Child.ensures.shifts pages agrees_a ready held) c.in-Ok-Child.ensures.given c.in-Ok-Child.ensures.wide c.in-Ok-Child.ensures.inside bytes in
    let child = c.in-Ok-Child.child in
    let edit = changes c.args.payload.now in
    at_child g.S.Pages laws s a pages low high page z child (λ h. IsSureOfTree (number_in (sight g.S.Pages e pages)) c.in-Err-replace_below.fault) height looked at_z
    (λ h (down : IsAtChild g.S.Pages s a pages h low high page z child) is.
    c.in-Err-replace_below.ensures.likely pages h _ _ agrees (less_below height h c.args.levels is less) down.at (looked.reads.sealed ∙ unsealed))

pub returns-clause-spares : goal.returns-clause-spares
returns-clause-spares g t c = λ pages height low high agrees less placed.
    let s = c.args.space.now in
    let a = c.look.new.space in
    let laws = c.below_law.ensures in
    spares_got g.S.Pages laws s a pages height c.args.page (length c.args.payload.now)
    (tree_seen g.S.Pages laws s a pages height low high c.args.page c.args.rowid placed (λ ready held. c.in-Err.ensures.shifts pages agrees ready held))

pub returns-clause-likely : goal.returns-clause-likely
returns-clause-likely g t c = λ pages height low high agrees less placed unsealed.
    c.in-Err.ensures.likely pages agrees placed.ready (page_held g.S.Pages c.below_law.ensures c.args.space.now pages height low high c.args.page c.args.rowid placed) height low high placed.tree
