use Rattle.std.proofs.Common.{◌≡◌, ◌≤◌, ◌∙◌, ℕ, ℤ, suc, List, ◌++◌, length, sym, ap, subst, arith, to_z, of_z, w64, to_z-of_z, Ok}
use Rattle.spe_model.specs.Page.{ascends}
use Rattle.spe_model.specs.Standing.{all_pages}
use Rattle.spe_model.specs.Tree.{node_at}
use Rattle.spe_space.specs.Calls.{sight}
use Rattle.spe_space.specs.Front.{number_in}
use Rattle.spe_format.specs.Canonical.{IsWritable}
use Rattle.spe_write.specs.Chain.{IsSureOfTree}
use Rattle.spe_frame.specs.Held.{Shifts}
use Rattle.spe_frame.proofs.TreeLemmas.{lower_pages}
use Rattle.spe_cut.specs.Parts.{run_cells}
use Rattle.spe_cut.specs.Run.{Run, pages_in}
use Rattle.spe_insert.specs.Run.{run_of}
use Rattle.spe_delete.specs.Join.{two_pages}
use Rattle.spe_delete.specs.JoinCells.{joined_of}
use Rattle.spe_delete.specs.Merge.{Merges}
use Rattle.spe_delete.proofs.BelowLemmas.{is_so, was_so}
use Rattle.spe_delete.proofs.LeafEndLemmas.{children_at}
use Rattle.spe_delete.proofs.JoinLemmas.{IsPairSeen, all_ascends, children_are, first_among, first_later, join_fails, one_held, page_seen, pair_held, second_among, second_low}
use Rattle.spe_mend.specs.Pair.{LaysHalves, ShareChildren}
use Rattle.spe_mend.proofs.PairLemmas.{become_one, share_children, thin_as_read}
use Rattle.spe_mend.proofs.pair.mend_pages.Goals as goal

pub returns-in-Err-clause-spares : goal.returns-in-Err-clause-spares
returns-in-Err-clause-spares g c = λ pages height low high agrees thin.
    let pair = thin.pair in
    let s = c.args.space.now in
    let a = c.see_children.new.space in
    let first = c.args.first in
    let second = c.args.second in
    let key = c.args.key in
    let laws = c.below_law.ensures in
    let u = g.S.Pages.used s in
    let was = sight g.S.Pages s pages in
    let own = pages_in u was (suc height) (two_pages key first second) in
    let rest_first : List ℕ = lower_pages u was (suc height) first ++ all_pages u was (suc height) second in
    let rest_second : List ℕ = all_pages u was (suc height) first ++ lower_pages u was (suc height) second in
    let agrees_a = agrees in
    let seen_a : Shifts g.S.Pages s a pages own own 0 = page_seen g.S.Pages laws s a pages own second rest_second (second_among u was height key first second) pair.ready pair.held
    (λ ready held. c.in-Err.ensures.shifts pages agrees_a ready held) in
    seen_a.spares

pub returns-in-Err-clause-likely : goal.returns-in-Err-clause-likely
returns-in-Err-clause-likely g c = λ pages height low high agrees thin unsealed.
    let pair = thin.pair in
    let s = c.args.space.now in
    let a = c.see_children.new.space in
    let first = c.args.first in
    let second = c.args.second in
    let key = c.args.key in
    let laws = c.below_law.ensures in
    let u = g.S.Pages.used s in
    let was = sight g.S.Pages s pages in
    let own = pages_in u was (suc height) (two_pages key first second) in
    let rest_first : List ℕ = lower_pages u was (suc height) first ++ all_pages u was (suc height) second in
    let rest_second : List ℕ = all_pages u was (suc height) first ++ lower_pages u was (suc height) second in
    let agrees_a = agrees in
    let seen_a : Shifts g.S.Pages s a pages own own 0 = page_seen g.S.Pages laws s a pages own second rest_second (second_among u was height key first second) pair.ready pair.held
    (λ ready held. c.in-Err.ensures.shifts pages agrees_a ready held) in
    c.in-Err.ensures.likely pages agrees pair.ready (one_held g.S.Pages laws s pages own second rest_second (second_among u was height key first second) pair.ready pair.held) (children_at u was second) pair.run.3.0

pub returns-in-Err-see_children-clause-spares : goal.returns-in-Err-see_children-clause-spares
returns-in-Err-see_children-clause-spares g c = λ pages height low high agrees thin.
    let pair = thin.pair in
    let s = c.args.space.now in
    let a = c.see_children.new.space in
    let first = c.args.first in
    let second = c.args.second in
    let key = c.args.key in
    let laws = c.below_law.ensures in
    let u = g.S.Pages.used s in
    let was = sight g.S.Pages s pages in
    let own = pages_in u was (suc height) (two_pages key first second) in
    let rest_first : List ℕ = lower_pages u was (suc height) first ++ all_pages u was (suc height) second in
    let rest_second : List ℕ = all_pages u was (suc height) first ++ lower_pages u was (suc height) second in
    let agrees_b = agrees in
    let agrees_a = c.in-Err-see_children.ensures.reads.earlier pages agrees_b in
    let seen_a : Shifts g.S.Pages s a pages own own 0 = page_seen g.S.Pages laws s a pages own second rest_second (second_among u was height key first second) pair.ready pair.held
    (λ ready held. c.in-Ok.ensures.shifts pages agrees_a ready held) in
    let b = c.see_children-2.new.space in
    let seen_b : Shifts g.S.Pages a b pages own own 0 = page_seen g.S.Pages laws a b pages own first rest_first (first_among u was height key first second) seen_a.ready (seen_a.held pair.held)
    (λ ready held. c.in-Err-see_children.ensures.shifts pages agrees_b ready held) in
    (laws.both s a b pages own own own 0 0 seen_a seen_b).spares

pub returns-in-Err-see_children-clause-likely : goal.returns-in-Err-see_children-clause-likely
returns-in-Err-see_children-clause-likely g c = λ pages height low high agrees thin unsealed.
    let pair = thin.pair in
    let s = c.args.space.now in
    let a = c.see_children.new.space in
    let first = c.args.first in
    let second = c.args.second in
    let key = c.args.key in
    let laws = c.below_law.ensures in
    let u = g.S.Pages.used s in
    let was = sight g.S.Pages s pages in
    let own = pages_in u was (suc height) (two_pages key first second) in
    let rest_first : List ℕ = lower_pages u was (suc height) first ++ all_pages u was (suc height) second in
    let rest_second : List ℕ = all_pages u was (suc height) first ++ lower_pages u was (suc height) second in
    let agrees_b = agrees in
    let agrees_a = c.in-Err-see_children.ensures.reads.earlier pages agrees_b in
    let seen_a : Shifts g.S.Pages s a pages own own 0 = page_seen g.S.Pages laws s a pages own second rest_second (second_among u was height key first second) pair.ready pair.held
    (λ ready held. c.in-Ok.ensures.shifts pages agrees_a ready held) in
    let b = c.see_children-2.new.space in
    let seen_b : Shifts g.S.Pages a b pages own own 0 = page_seen g.S.Pages laws a b pages own first rest_first (first_among u was height key first second) seen_a.ready (seen_a.held pair.held)
    (λ ready held. c.in-Err-see_children.ensures.shifts pages agrees_b ready held) in
    c.in-Err-see_children.ensures.likely pages agrees seen_a.ready (one_held g.S.Pages laws a pages own first rest_first (first_among u was height key first second) seen_a.ready (seen_a.held pair.held)) (children_at u was first)
    (is_so g.S.Pages s a pages (λ v p. node_at v p first ≡ Ok (run_cells (children_at u was first))) c.in-Ok.ensures.reads pair.run.2.0)

pub returns-in-Err-thin_joined-clause-spares : goal.returns-in-Err-thin_joined-clause-spares
returns-in-Err-thin_joined-clause-spares g c = λ pages height low high agrees thin.
    let pair = thin.pair in
    let s = c.args.space.now in
    let a = c.see_children.new.space in
    let first = c.args.first in
    let second = c.args.second in
    let key = c.args.key in
    let laws = c.below_law.ensures in
    let u = g.S.Pages.used s in
    let was = sight g.S.Pages s pages in
    let own = pages_in u was (suc height) (two_pages key first second) in
    let rest_first : List ℕ = lower_pages u was (suc height) first ++ all_pages u was (suc height) second in
    let rest_second : List ℕ = all_pages u was (suc height) first ++ lower_pages u was (suc height) second in
    let agrees_b = agrees in
    let agrees_a = c.in-Ok-see_children.ensures.reads.earlier pages agrees_b in
    let seen_a : Shifts g.S.Pages s a pages own own 0 = page_seen g.S.Pages laws s a pages own second rest_second (second_among u was height key first second) pair.ready pair.held
    (λ ready held. c.in-Ok.ensures.shifts pages agrees_a ready held) in
    let b = c.see_children-2.new.space in
    let seen_b : Shifts g.S.Pages a b pages own own 0 = page_seen g.S.Pages laws a b pages own first rest_first (first_among u was height key first second) seen_a.ready (seen_a.held pair.held)
    (λ ready held. c.in-Ok-see_children.ensures.shifts pages agrees_b ready held) in
    let seen : Shifts g.S.Pages s b pages own own 0 = laws.both s a b pages own own own 0 0 seen_a seen_b in
    let reads_a = c.in-Ok.ensures.reads in
    let reads_b = c.in-Ok-see_children.ensures.reads in
    let used_b = reads_b.used ∙ reads_a.used in
    let same_laid = reads_b.laid ∙ reads_a.laid in
    let usable = c.usable-usable.result in
    let same_usable = c.usable-usable.ensures.value ∙ used_b in
    let z = to_z w64 (of_z w64 key) in
    let same_key : z ≡ key = grind (arith, to_z-of_z) in
    let lower = run_of c.in-Ok-see_children.lower in
    let higher = run_of c.in-Ok.higher in
    let node_second = c.in-Ok.ensures.node pages agrees_a in
    let node_first_a = c.in-Ok-see_children.ensures.node pages agrees_b in
    let node_first : node_at u was first ≡ Ok (run_cells lower) = was_so g.S.Pages s a pages (λ v p. node_at v p first ≡ Ok (run_cells lower)) reads_a node_first_a in
    let x : IsPairSeen g.S.Pages s b pages height low high key first second = record {
      pair = pair;
      used = used_b;
      laid = same_laid;
      seen = seen;
      inside_first = was_so g.S.Pages s a pages (λ v p. v ≤ length (p first)) reads_a (c.in-Ok-see_children.ensures.inside pages agrees_b);
      inside_second = c.in-Ok.ensures.inside pages agrees_a;
      wide = (let range = c.usable-usable.ensures.range.0 in omega (arith, range, same_usable));
    } in
    let join = c.join_law.ensures.whole in
    let all_is : joined_of lower z higher ≡ joined_of (children_at u was first) key (children_at u was second) = children_are u was first second z key lower higher same_key node_first node_second in
    seen.spares

pub returns-in-Err-thin_joined-clause-likely : goal.returns-in-Err-thin_joined-clause-likely
returns-in-Err-thin_joined-clause-likely g c = λ pages height low high agrees thin unsealed.
    let pair = thin.pair in
    let s = c.args.space.now in
    let a = c.see_children.new.space in
    let first = c.args.first in
    let second = c.args.second in
    let key = c.args.key in
    let laws = c.below_law.ensures in
    let u = g.S.Pages.used s in
    let was = sight g.S.Pages s pages in
    let own = pages_in u was (suc height) (two_pages key first second) in
    let rest_first : List ℕ = lower_pages u was (suc height) first ++ all_pages u was (suc height) second in
    let rest_second : List ℕ = all_pages u was (suc height) first ++ lower_pages u was (suc height) second in
    let agrees_b = agrees in
    let agrees_a = c.in-Ok-see_children.ensures.reads.earlier pages agrees_b in
    let seen_a : Shifts g.S.Pages s a pages own own 0 = page_seen g.S.Pages laws s a pages own second rest_second (second_among u was height key first second) pair.ready pair.held
    (λ ready held. c.in-Ok.ensures.shifts pages agrees_a ready held) in
    let b = c.see_children-2.new.space in
    let seen_b : Shifts g.S.Pages a b pages own own 0 = page_seen g.S.Pages laws a b pages own first rest_first (first_among u was height key first second) seen_a.ready (seen_a.held pair.held)
    (λ ready held. c.in-Ok-see_children.ensures.shifts pages agrees_b ready held) in
    let seen : Shifts g.S.Pages s b pages own own 0 = laws.both s a b pages own own own 0 0 seen_a seen_b in
    let reads_a = c.in-Ok.ensures.reads in
    let reads_b = c.in-Ok-see_children.ensures.reads in
    let used_b = reads_b.used ∙ reads_a.used in
    let same_laid = reads_b.laid ∙ reads_a.laid in
    let usable = c.usable-usable.result in
    let same_usable = c.usable-usable.ensures.value ∙ used_b in
    let z = to_z w64 (of_z w64 key) in
    let same_key : z ≡ key = grind (arith, to_z-of_z) in
    let lower = run_of c.in-Ok-see_children.lower in
    let higher = run_of c.in-Ok.higher in
    let node_second = c.in-Ok.ensures.node pages agrees_a in
    let node_first_a = c.in-Ok-see_children.ensures.node pages agrees_b in
    let node_first : node_at u was first ≡ Ok (run_cells lower) = was_so g.S.Pages s a pages (λ v p. node_at v p first ≡ Ok (run_cells lower)) reads_a node_first_a in
    let x : IsPairSeen g.S.Pages s b pages height low high key first second = record {
      pair = pair;
      used = used_b;
      laid = same_laid;
      seen = seen;
      inside_first = was_so g.S.Pages s a pages (λ v p. v ≤ length (p first)) reads_a (c.in-Ok-see_children.ensures.inside pages agrees_b);
      inside_second = c.in-Ok.ensures.inside pages agrees_a;
      wide = (let range = c.usable-usable.ensures.range.0 in omega (arith, range, same_usable));
    } in
    let join = c.join_law.ensures.whole in
    let all_is : joined_of lower z higher ≡ joined_of (children_at u was first) key (children_at u was second) = children_are u was first second z key lower higher same_key node_first node_second in
    let sure = c.in-Err-thin_joined.ensures.fault (thin_as_read u was first second lower higher node_first node_second thin.thin)
    (ap (λ (r : Run). ascends r.cells) all_is ∙ all_ascends g.S.Pages laws join s b pages height low high key first second x) in
    subst (IsSureOfTree (number_in (sight g.S.Pages b pages))) (sym sure) tt

pub returns-in-Ok-Some-clause-shared : goal.returns-in-Ok-Some-clause-shared
returns-in-Ok-Some-clause-shared g c = λ pages height low high agrees thin.
    let pair = thin.pair in
    let s = c.args.space.now in
    let a = c.see_children.new.space in
    let first = c.args.first in
    let second = c.args.second in
    let key = c.args.key in
    let laws = c.below_law.ensures in
    let u = g.S.Pages.used s in
    let was = sight g.S.Pages s pages in
    let own = pages_in u was (suc height) (two_pages key first second) in
    let rest_first : List ℕ = lower_pages u was (suc height) first ++ all_pages u was (suc height) second in
    let rest_second : List ℕ = all_pages u was (suc height) first ++ lower_pages u was (suc height) second in
    let agrees_b = c.in-Ok-Some.ensures.kept.earlier pages agrees in
    let agrees_a = c.in-Ok-see_children.ensures.reads.earlier pages agrees_b in
    let seen_a : Shifts g.S.Pages s a pages own own 0 = page_seen g.S.Pages laws s a pages own second rest_second (second_among u was height key first second) pair.ready pair.held
    (λ ready held. c.in-Ok.ensures.shifts pages agrees_a ready held) in
    let b = c.see_children-2.new.space in
    let seen_b : Shifts g.S.Pages a b pages own own 0 = page_seen g.S.Pages laws a b pages own first rest_first (first_among u was height key first second) seen_a.ready (seen_a.held pair.held)
    (λ ready held. c.in-Ok-see_children.ensures.shifts pages agrees_b ready held) in
    let seen : Shifts g.S.Pages s b pages own own 0 = laws.both s a b pages own own own 0 0 seen_a seen_b in
    let reads_a = c.in-Ok.ensures.reads in
    let reads_b = c.in-Ok-see_children.ensures.reads in
    let used_b = reads_b.used ∙ reads_a.used in
    let same_laid = reads_b.laid ∙ reads_a.laid in
    let usable = c.usable-usable.result in
    let same_usable = c.usable-usable.ensures.value ∙ used_b in
    let z = to_z w64 (of_z w64 key) in
    let same_key : z ≡ key = grind (arith, to_z-of_z) in
    let lower = run_of c.in-Ok-see_children.lower in
    let higher = run_of c.in-Ok.higher in
    let node_second = c.in-Ok.ensures.node pages agrees_a in
    let node_first_a = c.in-Ok-see_children.ensures.node pages agrees_b in
    let node_first : node_at u was first ≡ Ok (run_cells lower) = was_so g.S.Pages s a pages (λ v p. node_at v p first ≡ Ok (run_cells lower)) reads_a node_first_a in
    let x : IsPairSeen g.S.Pages s b pages height low high key first second = record {
      pair = pair;
      used = used_b;
      laid = same_laid;
      seen = seen;
      inside_first = was_so g.S.Pages s a pages (λ v p. v ≤ length (p first)) reads_a (c.in-Ok-see_children.ensures.inside pages agrees_b);
      inside_second = c.in-Ok.ensures.inside pages agrees_a;
      wide = (let range = c.usable-usable.ensures.range.0 in omega (arith, range, same_usable));
    } in
    let join = c.join_law.ensures.whole in
    let all_is : joined_of lower z higher ≡ joined_of (children_at u was first) key (children_at u was second) = children_are u was first second z key lower higher same_key node_first node_second in
    let held = pair_held g.S.Pages laws join s b pages height low high key first second x in
    let later = first_later g.S.Pages laws join s b pages height low high key first second x in
    let low_second = second_low g.S.Pages laws join s b pages height low high key first second x in
    let e = c.lay_evenly.new.space in
    let children = run_of c.in-Ok-thin_joined.all in
    let all = joined_of (children_at u was first) key (children_at u was second) in
    let is : children ≡ all = c.in-Ok-thin_joined.ensures.all ∙ all_is in
    let form : IsWritable (run_cells all) u = subst (λ (v : ℕ). IsWritable (run_cells all) v) same_usable (subst (λ (r : Run). IsWritable (run_cells r) usable) is c.in-Ok-thin_joined.ensures.writable) in
    let same_other : to_z w64 (of_z w64 c.in-Ok-Some.other) ≡ c.in-Ok-Some.other = grind (arith, to_z-of_z) in
    let halves = (rw c.in-Ok-Some.field-0-is at c.in-Ok-Some.ensures.halves) pages agrees seen.ready held later low_second in
    subst (λ (k : ℤ). ShareChildren g.S.Pages s e pages height low high key k first second) (sym same_other)
    (share_children g.S.Pages laws join s b pages height low high key first second x e c.in-Ok-Some.other (subst (λ (r : Run). LaysHalves g.S.Pages b e pages first second r c.in-Ok-Some.other) is halves))

pub returns-in-Ok-Some-clause-spares : goal.returns-in-Ok-Some-clause-spares
returns-in-Ok-Some-clause-spares g c = λ pages height low high agrees thin. (returns-in-Ok-Some-clause-shared g c pages height low high agrees thin).shifts.spares

pub returns-in-Ok-None-clause-joined : goal.returns-in-Ok-None-clause-joined
returns-in-Ok-None-clause-joined g c = λ none pages height low high agrees thin.
    let pair = thin.pair in
    let s = c.args.space.now in
    let a = c.see_children.new.space in
    let first = c.args.first in
    let second = c.args.second in
    let key = c.args.key in
    let laws = c.below_law.ensures in
    let u = g.S.Pages.used s in
    let was = sight g.S.Pages s pages in
    let own = pages_in u was (suc height) (two_pages key first second) in
    let rest_first : List ℕ = lower_pages u was (suc height) first ++ all_pages u was (suc height) second in
    let rest_second : List ℕ = all_pages u was (suc height) first ++ lower_pages u was (suc height) second in
    let agrees_b = c.in-Ok-None.ensures.kept.earlier pages agrees in
    let agrees_a = c.in-Ok-see_children.ensures.reads.earlier pages agrees_b in
    let seen_a : Shifts g.S.Pages s a pages own own 0 = page_seen g.S.Pages laws s a pages own second rest_second (second_among u was height key first second) pair.ready pair.held
    (λ ready held. c.in-Ok.ensures.shifts pages agrees_a ready held) in
    let b = c.see_children-2.new.space in
    let seen_b : Shifts g.S.Pages a b pages own own 0 = page_seen g.S.Pages laws a b pages own first rest_first (first_among u was height key first second) seen_a.ready (seen_a.held pair.held)
    (λ ready held. c.in-Ok-see_children.ensures.shifts pages agrees_b ready held) in
    let seen : Shifts g.S.Pages s b pages own own 0 = laws.both s a b pages own own own 0 0 seen_a seen_b in
    let reads_a = c.in-Ok.ensures.reads in
    let reads_b = c.in-Ok-see_children.ensures.reads in
    let used_b = reads_b.used ∙ reads_a.used in
    let same_laid = reads_b.laid ∙ reads_a.laid in
    let usable = c.usable-usable.result in
    let same_usable = c.usable-usable.ensures.value ∙ used_b in
    let z = to_z w64 (of_z w64 key) in
    let same_key : z ≡ key = grind (arith, to_z-of_z) in
    let lower = run_of c.in-Ok-see_children.lower in
    let higher = run_of c.in-Ok.higher in
    let node_second = c.in-Ok.ensures.node pages agrees_a in
    let node_first_a = c.in-Ok-see_children.ensures.node pages agrees_b in
    let node_first : node_at u was first ≡ Ok (run_cells lower) = was_so g.S.Pages s a pages (λ v p. node_at v p first ≡ Ok (run_cells lower)) reads_a node_first_a in
    let x : IsPairSeen g.S.Pages s b pages height low high key first second = record {
      pair = pair;
      used = used_b;
      laid = same_laid;
      seen = seen;
      inside_first = was_so g.S.Pages s a pages (λ v p. v ≤ length (p first)) reads_a (c.in-Ok-see_children.ensures.inside pages agrees_b);
      inside_second = c.in-Ok.ensures.inside pages agrees_a;
      wide = (let range = c.usable-usable.ensures.range.0 in omega (arith, range, same_usable));
    } in
    let join = c.join_law.ensures.whole in
    let all_is : joined_of lower z higher ≡ joined_of (children_at u was first) key (children_at u was second) = children_are u was first second z key lower higher same_key node_first node_second in
    let held = pair_held g.S.Pages laws join s b pages height low high key first second x in
    let later = first_later g.S.Pages laws join s b pages height low high key first second x in
    let low_second = second_low g.S.Pages laws join s b pages height low high key first second x in
    let e = c.lay_evenly.new.space in
    let children = run_of c.in-Ok-thin_joined.all in
    let all = joined_of (children_at u was first) key (children_at u was second) in
    let is : children ≡ all = c.in-Ok-thin_joined.ensures.all ∙ all_is in
    let form : IsWritable (run_cells all) u = subst (λ (v : ℕ). IsWritable (run_cells all) v) same_usable (subst (λ (r : Run). IsWritable (run_cells r) usable) is c.in-Ok-thin_joined.ensures.writable) in
    become_one g.S.Pages laws join s b pages height low high key first second x e
    (subst (λ (r : Run). Merges g.S.Pages b e pages first second (run_cells r)) is (c.in-Ok-None.ensures.joined c.in-Ok-None.field-0-is pages agrees seen.ready held later low_second)) form.cells

pub returns-in-Ok-None-clause-spares : goal.returns-in-Ok-None-clause-spares
returns-in-Ok-None-clause-spares g c = λ pages height low high agrees thin.
    let pair = thin.pair in
    let s = c.args.space.now in
    let a = c.see_children.new.space in
    let first = c.args.first in
    let second = c.args.second in
    let key = c.args.key in
    let laws = c.below_law.ensures in
    let u = g.S.Pages.used s in
    let was = sight g.S.Pages s pages in
    let own = pages_in u was (suc height) (two_pages key first second) in
    let rest_first : List ℕ = lower_pages u was (suc height) first ++ all_pages u was (suc height) second in
    let rest_second : List ℕ = all_pages u was (suc height) first ++ lower_pages u was (suc height) second in
    let agrees_b = c.in-Ok-None.ensures.kept.earlier pages agrees in
    let agrees_a = c.in-Ok-see_children.ensures.reads.earlier pages agrees_b in
    let seen_a : Shifts g.S.Pages s a pages own own 0 = page_seen g.S.Pages laws s a pages own second rest_second (second_among u was height key first second) pair.ready pair.held
    (λ ready held. c.in-Ok.ensures.shifts pages agrees_a ready held) in
    let b = c.see_children-2.new.space in
    let seen_b : Shifts g.S.Pages a b pages own own 0 = page_seen g.S.Pages laws a b pages own first rest_first (first_among u was height key first second) seen_a.ready (seen_a.held pair.held)
    (λ ready held. c.in-Ok-see_children.ensures.shifts pages agrees_b ready held) in
    let seen : Shifts g.S.Pages s b pages own own 0 = laws.both s a b pages own own own 0 0 seen_a seen_b in
    let reads_a = c.in-Ok.ensures.reads in
    let reads_b = c.in-Ok-see_children.ensures.reads in
    let used_b = reads_b.used ∙ reads_a.used in
    let same_laid = reads_b.laid ∙ reads_a.laid in
    let usable = c.usable-usable.result in
    let same_usable = c.usable-usable.ensures.value ∙ used_b in
    let z = to_z w64 (of_z w64 key) in
    let same_key : z ≡ key = grind (arith, to_z-of_z) in
    let lower = run_of c.in-Ok-see_children.lower in
    let higher = run_of c.in-Ok.higher in
    let node_second = c.in-Ok.ensures.node pages agrees_a in
    let node_first_a = c.in-Ok-see_children.ensures.node pages agrees_b in
    let node_first : node_at u was first ≡ Ok (run_cells lower) = was_so g.S.Pages s a pages (λ v p. node_at v p first ≡ Ok (run_cells lower)) reads_a node_first_a in
    let x : IsPairSeen g.S.Pages s b pages height low high key first second = record {
      pair = pair;
      used = used_b;
      laid = same_laid;
      seen = seen;
      inside_first = was_so g.S.Pages s a pages (λ v p. v ≤ length (p first)) reads_a (c.in-Ok-see_children.ensures.inside pages agrees_b);
      inside_second = c.in-Ok.ensures.inside pages agrees_a;
      wide = (let range = c.usable-usable.ensures.range.0 in omega (arith, range, same_usable));
    } in
    let join = c.join_law.ensures.whole in
    let all_is : joined_of lower z higher ≡ joined_of (children_at u was first) key (children_at u was second) = children_are u was first second z key lower higher same_key node_first node_second in
    let held = pair_held g.S.Pages laws join s b pages height low high key first second x in
    let later = first_later g.S.Pages laws join s b pages height low high key first second x in
    let low_second = second_low g.S.Pages laws join s b pages height low high key first second x in
    let e = c.lay_evenly.new.space in
    let children = run_of c.in-Ok-thin_joined.all in
    let all = joined_of (children_at u was first) key (children_at u was second) in
    let is : children ≡ all = c.in-Ok-thin_joined.ensures.all ∙ all_is in
    let form : IsWritable (run_cells all) u = subst (λ (v : ℕ). IsWritable (run_cells all) v) same_usable (subst (λ (r : Run). IsWritable (run_cells r) usable) is c.in-Ok-thin_joined.ensures.writable) in
    join_fails g.S.Pages laws join s b pages height low high key first second x e (c.in-Ok-None.ensures.spares pages agrees seen.ready held later low_second)

pub returns-in-Err-lay_evenly-clause-spares : goal.returns-in-Err-lay_evenly-clause-spares
returns-in-Err-lay_evenly-clause-spares g c = λ pages height low high agrees thin.
    let pair = thin.pair in
    let s = c.args.space.now in
    let a = c.see_children.new.space in
    let first = c.args.first in
    let second = c.args.second in
    let key = c.args.key in
    let laws = c.below_law.ensures in
    let u = g.S.Pages.used s in
    let was = sight g.S.Pages s pages in
    let own = pages_in u was (suc height) (two_pages key first second) in
    let rest_first : List ℕ = lower_pages u was (suc height) first ++ all_pages u was (suc height) second in
    let rest_second : List ℕ = all_pages u was (suc height) first ++ lower_pages u was (suc height) second in
    let agrees_b = c.in-Err-lay_evenly.ensures.kept.earlier pages agrees in
    let agrees_a = c.in-Ok-see_children.ensures.reads.earlier pages agrees_b in
    let seen_a : Shifts g.S.Pages s a pages own own 0 = page_seen g.S.Pages laws s a pages own second rest_second (second_among u was height key first second) pair.ready pair.held
    (λ ready held. c.in-Ok.ensures.shifts pages agrees_a ready held) in
    let b = c.see_children-2.new.space in
    let seen_b : Shifts g.S.Pages a b pages own own 0 = page_seen g.S.Pages laws a b pages own first rest_first (first_among u was height key first second) seen_a.ready (seen_a.held pair.held)
    (λ ready held. c.in-Ok-see_children.ensures.shifts pages agrees_b ready held) in
    let seen : Shifts g.S.Pages s b pages own own 0 = laws.both s a b pages own own own 0 0 seen_a seen_b in
    let reads_a = c.in-Ok.ensures.reads in
    let reads_b = c.in-Ok-see_children.ensures.reads in
    let used_b = reads_b.used ∙ reads_a.used in
    let same_laid = reads_b.laid ∙ reads_a.laid in
    let usable = c.usable-usable.result in
    let same_usable = c.usable-usable.ensures.value ∙ used_b in
    let z = to_z w64 (of_z w64 key) in
    let same_key : z ≡ key = grind (arith, to_z-of_z) in
    let lower = run_of c.in-Ok-see_children.lower in
    let higher = run_of c.in-Ok.higher in
    let node_second = c.in-Ok.ensures.node pages agrees_a in
    let node_first_a = c.in-Ok-see_children.ensures.node pages agrees_b in
    let node_first : node_at u was first ≡ Ok (run_cells lower) = was_so g.S.Pages s a pages (λ v p. node_at v p first ≡ Ok (run_cells lower)) reads_a node_first_a in
    let x : IsPairSeen g.S.Pages s b pages height low high key first second = record {
      pair = pair;
      used = used_b;
      laid = same_laid;
      seen = seen;
      inside_first = was_so g.S.Pages s a pages (λ v p. v ≤ length (p first)) reads_a (c.in-Ok-see_children.ensures.inside pages agrees_b);
      inside_second = c.in-Ok.ensures.inside pages agrees_a;
      wide = (let range = c.usable-usable.ensures.range.0 in omega (arith, range, same_usable));
    } in
    let join = c.join_law.ensures.whole in
    let all_is : joined_of lower z higher ≡ joined_of (children_at u was first) key (children_at u was second) = children_are u was first second z key lower higher same_key node_first node_second in
    let held = pair_held g.S.Pages laws join s b pages height low high key first second x in
    let later = first_later g.S.Pages laws join s b pages height low high key first second x in
    let low_second = second_low g.S.Pages laws join s b pages height low high key first second x in
    let e = c.lay_evenly.new.space in
    let children = run_of c.in-Ok-thin_joined.all in
    let all = joined_of (children_at u was first) key (children_at u was second) in
    let is : children ≡ all = c.in-Ok-thin_joined.ensures.all ∙ all_is in
    let form : IsWritable (run_cells all) u = subst (λ (v : ℕ). IsWritable (run_cells all) v) same_usable (subst (λ (r : Run). IsWritable (run_cells r) usable) is c.in-Ok-thin_joined.ensures.writable) in
    join_fails g.S.Pages laws join s b pages height low high key first second x e (c.in-Err-lay_evenly.ensures.spares pages agrees seen.ready held later low_second)

pub returns-in-Err-lay_evenly-clause-likely : goal.returns-in-Err-lay_evenly-clause-likely
returns-in-Err-lay_evenly-clause-likely g c = λ pages height low high agrees thin unsealed.
    let pair = thin.pair in
    let s = c.args.space.now in
    let a = c.see_children.new.space in
    let first = c.args.first in
    let second = c.args.second in
    let key = c.args.key in
    let laws = c.below_law.ensures in
    let u = g.S.Pages.used s in
    let was = sight g.S.Pages s pages in
    let own = pages_in u was (suc height) (two_pages key first second) in
    let rest_first : List ℕ = lower_pages u was (suc height) first ++ all_pages u was (suc height) second in
    let rest_second : List ℕ = all_pages u was (suc height) first ++ lower_pages u was (suc height) second in
    let agrees_b = c.in-Err-lay_evenly.ensures.kept.earlier pages agrees in
    let agrees_a = c.in-Ok-see_children.ensures.reads.earlier pages agrees_b in
    let seen_a : Shifts g.S.Pages s a pages own own 0 = page_seen g.S.Pages laws s a pages own second rest_second (second_among u was height key first second) pair.ready pair.held
    (λ ready held. c.in-Ok.ensures.shifts pages agrees_a ready held) in
    let b = c.see_children-2.new.space in
    let seen_b : Shifts g.S.Pages a b pages own own 0 = page_seen g.S.Pages laws a b pages own first rest_first (first_among u was height key first second) seen_a.ready (seen_a.held pair.held)
    (λ ready held. c.in-Ok-see_children.ensures.shifts pages agrees_b ready held) in
    let seen : Shifts g.S.Pages s b pages own own 0 = laws.both s a b pages own own own 0 0 seen_a seen_b in
    let reads_a = c.in-Ok.ensures.reads in
    let reads_b = c.in-Ok-see_children.ensures.reads in
    let used_b = reads_b.used ∙ reads_a.used in
    let same_laid = reads_b.laid ∙ reads_a.laid in
    let usable = c.usable-usable.result in
    let same_usable = c.usable-usable.ensures.value ∙ used_b in
    let z = to_z w64 (of_z w64 key) in
    let same_key : z ≡ key = grind (arith, to_z-of_z) in
    let lower = run_of c.in-Ok-see_children.lower in
    let higher = run_of c.in-Ok.higher in
    let node_second = c.in-Ok.ensures.node pages agrees_a in
    let node_first_a = c.in-Ok-see_children.ensures.node pages agrees_b in
    let node_first : node_at u was first ≡ Ok (run_cells lower) = was_so g.S.Pages s a pages (λ v p. node_at v p first ≡ Ok (run_cells lower)) reads_a node_first_a in
    let x : IsPairSeen g.S.Pages s b pages height low high key first second = record {
      pair = pair;
      used = used_b;
      laid = same_laid;
      seen = seen;
      inside_first = was_so g.S.Pages s a pages (λ v p. v ≤ length (p first)) reads_a (c.in-Ok-see_children.ensures.inside pages agrees_b);
      inside_second = c.in-Ok.ensures.inside pages agrees_a;
      wide = (let range = c.usable-usable.ensures.range.0 in omega (arith, range, same_usable));
    } in
    let join = c.join_law.ensures.whole in
    let all_is : joined_of lower z higher ≡ joined_of (children_at u was first) key (children_at u was second) = children_are u was first second z key lower higher same_key node_first node_second in
    let held = pair_held g.S.Pages laws join s b pages height low high key first second x in
    let later = first_later g.S.Pages laws join s b pages height low high key first second x in
    let low_second = second_low g.S.Pages laws join s b pages height low high key first second x in
    let e = c.lay_evenly.new.space in
    let children = run_of c.in-Ok-thin_joined.all in
    let all = joined_of (children_at u was first) key (children_at u was second) in
    let is : children ≡ all = c.in-Ok-thin_joined.ensures.all ∙ all_is in
    let form : IsWritable (run_cells all) u = subst (λ (v : ℕ). IsWritable (run_cells all) v) same_usable (subst (λ (r : Run). IsWritable (run_cells r) usable) is c.in-Ok-thin_joined.ensures.writable) in
    c.in-Err-lay_evenly.ensures.likely pages agrees seen.ready held (reads_b.sealed ∙ reads_a.sealed ∙ unsealed) later low_second
