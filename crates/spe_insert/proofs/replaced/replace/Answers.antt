use Rattle.std.proofs.Common.{◌≡◌, ◌≤◌, ◌<◌, ◌∙◌, ℤ, Bool, List, [], length, refl, sym, subst, arith, true, Err, to_z, of_z, w64, to_z-of_z}
use lib.Signed.{mag}
use Rattle.spe_model.specs.Page.{ascends}
use Rattle.spe_space.specs.declared.fault.TreeFault.TheVariants.{Space}
use Rattle.spe_model.specs.declared.page.Cell.{Cell}
use Rattle.spe_model.specs.Standing.{pages_of_tree}
use Rattle.spe_model.specs.Tree.{rank}
use Rattle.spe_space.specs.Calls.{sight}
use Rattle.spe_frame.specs.Held.{Spares}
use Rattle.spe_write.specs.Chain.{IsLikelyOfTree}
use Rattle.spe_cut.proofs.OrderLemmas.{run_ascends}
use Rattle.spe_insert.specs.Edit.{changes}
use Rattle.spe_insert.specs.Insert.{Replaced, Unmatched, most_pages}
use Rattle.spe_insert.specs.Run.{run_of}
use Rattle.spe_insert.proofs.RootLemmas.{replaced_from, edited_alone, own_low, own_place, tree_at}
use Rattle.spe_insert.proofs.RaiseLemmas.{IsLow, edited_raised, PutWhere, for_tree, low_spares, most, none_there, raise_spares, rank_below, root_held, root_later, some_of, some_there}
use Rattle.spe_insert.proofs.replaced.replace.Goals as goal

pub returns-in-Ok-None-clause-absent : goal.returns-in-Ok-None-clause-absent
returns-in-Ok-None-clause-absent g c = λ same pages tree agrees own.
    let s = c.args.space.now in
    let m = c.replace_below.new.space in
    let root = c.args.root in
    let rowid = to_z w64 (of_z w64 c.args.rowid) in
    let same_row : rowid ≡ c.args.rowid = grind (arith, to_z-of_z) in
    let low_row : rank rowid < most = rank_below rowid (subst (λ (z : ℤ). mag z < 9223372036854775808) (sym same_row) c.ranges.rowid.sfits) in
    let payload = c.args.payload.now in
    subst (Unmatched g.S.Pages s m pages tree) same_row (for_tree g.S.Pages s pages root tree (λ t. Unmatched g.S.Pages s m pages t rowid) own (λ height own_.
    let is = c.in-Ok-None.ensures.absent c.in-Ok-None.field-0-is pages height 0 most agrees (own_low g.S.Pages s pages root height own_) (own_place g.S.Pages s pages root height rowid low_row own_) in
    record { absent = is.absent; shifts = is.shifts }))

pub returns-in-Ok-None-clause-spares : goal.returns-in-Ok-None-clause-spares
returns-in-Ok-None-clause-spares g c = λ pages tree agrees own.
    let s = c.args.space.now in
    let m = c.replace_below.new.space in
    let root = c.args.root in
    let rowid = to_z w64 (of_z w64 c.args.rowid) in
    let same_row : rowid ≡ c.args.rowid = grind (arith, to_z-of_z) in
    let low_row : rank rowid < most = rank_below rowid (subst (λ (z : ℤ). mag z < 9223372036854775808) (sym same_row) c.ranges.rowid.sfits) in
    let payload = c.args.payload.now in
    for_tree g.S.Pages s pages root tree (λ t. Spares g.S.Pages s m pages (pages_of_tree (g.S.Pages.used s) (sight g.S.Pages s pages) t) (most_pages (g.S.Pages.used s) (length payload))) own (λ height own_.
    low_spares g.S.Pages c.shifts_law.ensures.spares_more s m pages root height (changes payload) own_
    (c.in-Ok-None.ensures.spares pages height 0 most agrees (own_low g.S.Pages s pages root height own_) (own_place g.S.Pages s pages root height rowid low_row own_)))

pub returns-in-Err-clause-spares : goal.returns-in-Err-clause-spares
returns-in-Err-clause-spares g c = λ pages tree agrees own.
    let s = c.args.space.now in
    let m = c.replace_below.new.space in
    let root = c.args.root in
    let rowid = to_z w64 (of_z w64 c.args.rowid) in
    let same_row : rowid ≡ c.args.rowid = grind (arith, to_z-of_z) in
    let low_row : rank rowid < most = rank_below rowid (subst (λ (z : ℤ). mag z < 9223372036854775808) (sym same_row) c.ranges.rowid.sfits) in
    let payload = c.args.payload.now in
    for_tree g.S.Pages s pages root tree (λ t. Spares g.S.Pages s m pages (pages_of_tree (g.S.Pages.used s) (sight g.S.Pages s pages) t) (most_pages (g.S.Pages.used s) (length payload))) own (λ height own_.
    low_spares g.S.Pages c.shifts_law.ensures.spares_more s m pages root height (changes payload) own_
    (c.in-Err.ensures.spares pages height 0 most agrees (own_low g.S.Pages s pages root height own_) (own_place g.S.Pages s pages root height rowid low_row own_)))

pub returns-then-is_empty-clause-replaced : goal.returns-then-is_empty-clause-replaced
returns-then-is_empty-clause-replaced g c = λ same pages tree agrees own.
    let s = c.args.space.now in
    let m = c.replace_below.new.space in
    let root = c.args.root in
    let rowid = to_z w64 (of_z w64 c.args.rowid) in
    let same_row : rowid ≡ c.args.rowid = grind (arith, to_z-of_z) in
    let low_row : rank rowid < most = rank_below rowid (subst (λ (z : ℤ). mag z < 9223372036854775808) (sym same_row) c.ranges.rowid.sfits) in
    let payload = c.args.payload.now in
    let none : (run_of c.in-Ok-Some.run').cells ≡ [] = sym c.as_slice.ensures ∙ none_there c.as_slice.result.now (sym c.is_empty.ensures ∙ c.if-is_empty.true) in
    subst (λ (z : ℤ). Replaced g.S.Pages s m pages root tree z payload) same_row (for_tree g.S.Pages s pages root tree (λ t. Replaced g.S.Pages s m pages root t rowid payload) own (λ height own_.
    let low : IsLow g.S.Pages s m pages root height rowid (changes payload) (run_of c.in-Ok-Some.run') = record {
      wide = omega (arith, c.usable-usable.ensures.range.0, c.usable-usable.ensures.value);
      own = own_;
      becomes = some_of c.in-Ok-Some.field-0 c.in-Ok-Some.run' (PutWhere g.S.Pages s m root rowid (changes payload)) c.in-Ok-Some.field-0-is c.in-Ok-Some.ensures.put pages height 0 most agrees (own_low g.S.Pages s pages root height own_) (own_place g.S.Pages s pages root height rowid low_row own_);
    } in
    replaced_from g.S.Pages s m pages root (tree_at height root) rowid payload
    (edited_alone g.S.Pages c.shifts_law.ensures.spares_more s m pages root height rowid (changes payload) (run_of c.in-Ok-Some.run') low.wide own_ low.becomes none)))

pub returns-then-is_empty-clause-spares : goal.returns-then-is_empty-clause-spares
returns-then-is_empty-clause-spares g c = λ pages tree agrees own.
    let s = c.args.space.now in
    let m = c.replace_below.new.space in
    let root = c.args.root in
    let rowid = to_z w64 (of_z w64 c.args.rowid) in
    let same_row : rowid ≡ c.args.rowid = grind (arith, to_z-of_z) in
    let low_row : rank rowid < most = rank_below rowid (subst (λ (z : ℤ). mag z < 9223372036854775808) (sym same_row) c.ranges.rowid.sfits) in
    let payload = c.args.payload.now in
    for_tree g.S.Pages s pages root tree (λ t. Spares g.S.Pages s m pages (pages_of_tree (g.S.Pages.used s) (sight g.S.Pages s pages) t) (most_pages (g.S.Pages.used s) (length payload))) own (λ height own_.
    low_spares g.S.Pages c.shifts_law.ensures.spares_more s m pages root height (changes payload) own_
    (c.in-Ok-Some.ensures.spares pages height 0 most agrees (own_low g.S.Pages s pages root height own_) (own_place g.S.Pages s pages root height rowid low_row own_)))

pub returns-then-not-ascends_in-clause-spares : goal.returns-then-not-ascends_in-clause-spares
returns-then-not-ascends_in-clause-spares g c = λ pages tree agrees own.
    let s = c.args.space.now in
    let m = c.replace_below.new.space in
    let root = c.args.root in
    let rowid = to_z w64 (of_z w64 c.args.rowid) in
    let same_row : rowid ≡ c.args.rowid = grind (arith, to_z-of_z) in
    let low_row : rank rowid < most = rank_below rowid (subst (λ (z : ℤ). mag z < 9223372036854775808) (sym same_row) c.ranges.rowid.sfits) in
    let payload = c.args.payload.now in
    for_tree g.S.Pages s pages root tree (λ t. Spares g.S.Pages s m pages (pages_of_tree (g.S.Pages.used s) (sight g.S.Pages s pages) t) (most_pages (g.S.Pages.used s) (length payload))) own (λ height own_.
    low_spares g.S.Pages c.shifts_law.ensures.spares_more s m pages root height (changes payload) own_
    (c.in-Ok-Some.ensures.spares pages height 0 most agrees (own_low g.S.Pages s pages root height own_) (own_place g.S.Pages s pages root height rowid low_row own_)))

pub returns-then-not-ascends_in-clause-likely : goal.returns-then-not-ascends_in-clause-likely
returns-then-not-ascends_in-clause-likely g c = λ pages tree agrees own unsealed.
    let s = c.args.space.now in
    let m = c.replace_below.new.space in
    let root = c.args.root in
    let rowid = to_z w64 (of_z w64 c.args.rowid) in
    let same_row : rowid ≡ c.args.rowid = grind (arith, to_z-of_z) in
    let low_row : rank rowid < most = rank_below rowid (subst (λ (z : ℤ). mag z < 9223372036854775808) (sym same_row) c.ranges.rowid.sfits) in
    let payload = c.args.payload.now in
    for_tree g.S.Pages s pages root tree (λ t. ⊥) own (λ height own_.
    let low : IsLow g.S.Pages s m pages root height rowid (changes payload) (run_of c.in-Ok-Some.run') = record {
      wide = omega (arith, c.usable-usable.ensures.range.0, c.usable-usable.ensures.value);
      own = own_;
      becomes = some_of c.in-Ok-Some.field-0 c.in-Ok-Some.run' (PutWhere g.S.Pages s m root rowid (changes payload)) c.in-Ok-Some.field-0-is c.in-Ok-Some.ensures.put pages height 0 most agrees (own_low g.S.Pages s pages root height own_) (own_place g.S.Pages s pages root height rowid low_row own_);
    } in
    let up : ascends (run_of c.in-Ok-Some.run').cells ≡ true = run_ascends (g.S.Pages.used s) (sight g.S.Pages m pages) height 0 most (run_of c.in-Ok-Some.run') low.becomes.is in
    absurd cc)

pub returns-in-Ok-clause-replaced : goal.returns-in-Ok-clause-replaced
returns-in-Ok-clause-replaced g c = λ same pages tree agrees own.
    let s = c.args.space.now in
    let m = c.replace_below.new.space in
    let root = c.args.root in
    let rowid = to_z w64 (of_z w64 c.args.rowid) in
    let same_row : rowid ≡ c.args.rowid = grind (arith, to_z-of_z) in
    let low_row : rank rowid < most = rank_below rowid (subst (λ (z : ℤ). mag z < 9223372036854775808) (sym same_row) c.ranges.rowid.sfits) in
    let payload = c.args.payload.now in
    let e = c.raise_root.new.space in
    let run = run_of c.in-Ok-Some.run' in
    let agrees_m = c.in-Ok.ensures.kept.earlier pages agrees in
    let some : 1 ≤ length run.cells = subst (λ (cells : List Cell). 1 ≤ length cells) c.as_slice.ensures (some_there c.as_slice.result.now (sym c.is_empty.ensures ∙ c.if-is_empty.false)) in
    subst (λ (z : ℤ). Replaced g.S.Pages s e pages root tree z payload) same_row (for_tree g.S.Pages s pages root tree (λ t. Replaced g.S.Pages s e pages root t rowid payload) own (λ height own_.
    let low : IsLow g.S.Pages s m pages root height rowid (changes payload) (run_of c.in-Ok-Some.run') = record {
      wide = omega (arith, c.usable-usable.ensures.range.0, c.usable-usable.ensures.value);
      own = own_;
      becomes = some_of c.in-Ok-Some.field-0 c.in-Ok-Some.run' (PutWhere g.S.Pages s m root rowid (changes payload)) c.in-Ok-Some.field-0-is c.in-Ok-Some.ensures.put pages height 0 most agrees_m (own_low g.S.Pages s pages root height own_) (own_place g.S.Pages s pages root height rowid low_row own_);
    } in
    let raised = c.in-Ok.ensures.raised pages agrees low.becomes.shifts.ready (root_held g.S.Pages s m pages root height rowid (changes payload) run low c.shifts_law.ensures.apart) (root_later g.S.Pages s m pages root height rowid (changes payload) run low) in
    replaced_from g.S.Pages s e pages root (tree_at height root) rowid payload
    (edited_raised g.S.Pages s m pages root height rowid (changes payload) run low e some raised c.shifts_law.ensures.both c.shifts_law.ensures.beside c.shifts_law.ensures.alike c.shifts_law.ensures.spares_more)))

pub returns-in-Ok-clause-spares : goal.returns-in-Ok-clause-spares
returns-in-Ok-clause-spares g c = λ pages tree agrees own. (returns-in-Ok-clause-replaced g c refl pages tree agrees own).shifts.spares

pub returns-clause-spares : goal.returns-clause-spares
returns-clause-spares g c = λ pages tree agrees own.
    let s = c.args.space.now in
    let m = c.replace_below.new.space in
    let root = c.args.root in
    let rowid = to_z w64 (of_z w64 c.args.rowid) in
    let same_row : rowid ≡ c.args.rowid = grind (arith, to_z-of_z) in
    let low_row : rank rowid < most = rank_below rowid (subst (λ (z : ℤ). mag z < 9223372036854775808) (sym same_row) c.ranges.rowid.sfits) in
    let payload = c.args.payload.now in
    let e = c.raise_root.new.space in
    let run = run_of c.in-Ok-Some.run' in
    let agrees_m = c.in-Err-raise_root.ensures.kept.earlier pages agrees in
    for_tree g.S.Pages s pages root tree (λ t. Spares g.S.Pages s e pages (pages_of_tree (g.S.Pages.used s) (sight g.S.Pages s pages) t) (most_pages (g.S.Pages.used s) (length payload))) own (λ height own_.
    let low : IsLow g.S.Pages s m pages root height rowid (changes payload) (run_of c.in-Ok-Some.run') = record {
      wide = omega (arith, c.usable-usable.ensures.range.0, c.usable-usable.ensures.value);
      own = own_;
      becomes = some_of c.in-Ok-Some.field-0 c.in-Ok-Some.run' (PutWhere g.S.Pages s m root rowid (changes payload)) c.in-Ok-Some.field-0-is c.in-Ok-Some.ensures.put pages height 0 most agrees_m (own_low g.S.Pages s pages root height own_) (own_place g.S.Pages s pages root height rowid low_row own_);
    } in
    let fails = c.in-Err-raise_root.ensures.spares pages agrees low.becomes.shifts.ready (root_held g.S.Pages s m pages root height rowid (changes payload) run low c.shifts_law.ensures.apart) (root_later g.S.Pages s m pages root height rowid (changes payload) run low) in
    raise_spares g.S.Pages s m pages root height rowid (changes payload) run low c.shifts_law.ensures.spares c.shifts_law.ensures.spares_beside c.shifts_law.ensures.spares_alike c.shifts_law.ensures.spares_more e fails)

pub returns-clause-likely : goal.returns-clause-likely
returns-clause-likely g c = λ pages tree agrees own unsealed.
    let s = c.args.space.now in
    let m = c.replace_below.new.space in
    let root = c.args.root in
    let rowid = to_z w64 (of_z w64 c.args.rowid) in
    let same_row : rowid ≡ c.args.rowid = grind (arith, to_z-of_z) in
    let low_row : rank rowid < most = rank_below rowid (subst (λ (z : ℤ). mag z < 9223372036854775808) (sym same_row) c.ranges.rowid.sfits) in
    let payload = c.args.payload.now in
    let e = c.raise_root.new.space in
    let run = run_of c.in-Ok-Some.run' in
    let agrees_m = c.in-Err-raise_root.ensures.kept.earlier pages agrees in
    for_tree g.S.Pages s pages root tree (λ t. IsLikelyOfTree {X = Bool} g.S.Pages e pages (Err (Space c.in-Err-raise_root.fault))) own (λ height own_.
    let low : IsLow g.S.Pages s m pages root height rowid (changes payload) (run_of c.in-Ok-Some.run') = record {
      wide = omega (arith, c.usable-usable.ensures.range.0, c.usable-usable.ensures.value);
      own = own_;
      becomes = some_of c.in-Ok-Some.field-0 c.in-Ok-Some.run' (PutWhere g.S.Pages s m root rowid (changes payload)) c.in-Ok-Some.field-0-is c.in-Ok-Some.ensures.put pages height 0 most agrees_m (own_low g.S.Pages s pages root height own_) (own_place g.S.Pages s pages root height rowid low_row own_);
    } in
    c.in-Err-raise_root.ensures.likely pages agrees low.becomes.shifts.ready (root_held g.S.Pages s m pages root height rowid (changes payload) run low c.shifts_law.ensures.apart)
    (c.replace_below.ensures.kept.sealed ∙ unsealed) (root_later g.S.Pages s m pages root height rowid (changes payload) run low))
