use Rattle.std.proofs.Common.{◌≡◌, ◌<◌, ℤ, refl, sym, subst, arith, to_z, of_z, w64, to_z-of_z}
use lib.Signed.{mag}
use Rattle.spe_model.specs.Standing.{pages_of_tree}
use Rattle.spe_model.specs.Tree.{rank}
use Rattle.spe_space.specs.Calls.{sight}
use Rattle.spe_space.specs.Front.{number_in}
use Rattle.spe_frame.specs.Held.{Spares}
use Rattle.spe_write.specs.Chain.{IsSureOfTree}
use Rattle.spe_insert.proofs.RootLemmas.{own_low, own_place}
use Rattle.spe_insert.proofs.RaiseLemmas.{for_tree, most, rank_below}
use Rattle.spe_delete.specs.Delete.{Missing}
use Rattle.spe_delete.specs.Row.{Taken}
use Rattle.spe_delete.proofs.RowLemmas.{taken_own}
use Rattle.spe_delete.proofs.row.take_row.Goals as goal

pub returns-in-Ok-Some-clause-taken : goal.returns-in-Ok-Some-clause-taken
returns-in-Ok-Some-clause-taken g c = λ same pages tree agrees own.
    let s = c.args.space.now in
    let m = c.take_below.new.space in
    let root = c.args.root in
    let rowid = to_z w64 (of_z w64 c.args.rowid) in
    let same_row : rowid ≡ c.args.rowid = grind (arith, to_z-of_z) in
    let low_row : rank rowid < most = rank_below rowid (subst (λ (z : ℤ). mag z < 9223372036854775808) (sym same_row) c.ranges.rowid.sfits) in
    let takes = rw c.in-Ok-Some.field-0-is at c.in-Ok-Some.ensures.taken in
    subst (λ (z : ℤ). Taken g.S.Pages s m pages root tree z) same_row (for_tree g.S.Pages s pages root tree (λ t. Taken g.S.Pages s m pages root t rowid) own (λ height own_.
    taken_own g.S.Pages s m pages root height rowid (omega (arith, c.usable-usable.ensures.range.0, c.usable-usable.ensures.value)) own_
    (takes pages height 0 most agrees (own_low g.S.Pages s pages root height own_) (own_place g.S.Pages s pages root height rowid low_row own_))))

pub returns-in-Ok-Some-clause-spares : goal.returns-in-Ok-Some-clause-spares
returns-in-Ok-Some-clause-spares g c = λ pages tree agrees own. (returns-in-Ok-Some-clause-taken g c refl pages tree agrees own).shifts.spares

pub returns-in-Ok-None-clause-missing : goal.returns-in-Ok-None-clause-missing
returns-in-Ok-None-clause-missing g c = λ same pages tree agrees own.
    let s = c.args.space.now in
    let m = c.take_below.new.space in
    let root = c.args.root in
    let rowid = to_z w64 (of_z w64 c.args.rowid) in
    let same_row : rowid ≡ c.args.rowid = grind (arith, to_z-of_z) in
    let low_row : rank rowid < most = rank_below rowid (subst (λ (z : ℤ). mag z < 9223372036854775808) (sym same_row) c.ranges.rowid.sfits) in
    subst (λ (z : ℤ). Missing g.S.Pages s m pages tree z) same_row (for_tree g.S.Pages s pages root tree (λ t. Missing g.S.Pages s m pages t rowid) own (λ height own_.
    let is = c.in-Ok-None.ensures.absent c.in-Ok-None.field-0-is pages height 0 most agrees (own_low g.S.Pages s pages root height own_) (own_place g.S.Pages s pages root height rowid low_row own_) in
    record { absent = is.absent; shifts = is.shifts }))

pub returns-in-Ok-None-clause-spares : goal.returns-in-Ok-None-clause-spares
returns-in-Ok-None-clause-spares g c = λ pages tree agrees own. (returns-in-Ok-None-clause-missing g c refl pages tree agrees own).shifts.spares

pub returns-clause-spares : goal.returns-clause-spares
returns-clause-spares g c = λ pages tree agrees own.
    let s = c.args.space.now in
    let m = c.take_below.new.space in
    let root = c.args.root in
    let rowid = to_z w64 (of_z w64 c.args.rowid) in
    let same_row : rowid ≡ c.args.rowid = grind (arith, to_z-of_z) in
    let low_row : rank rowid < most = rank_below rowid (subst (λ (z : ℤ). mag z < 9223372036854775808) (sym same_row) c.ranges.rowid.sfits) in
    for_tree g.S.Pages s pages root tree (λ t. Spares g.S.Pages s m pages (pages_of_tree (g.S.Pages.used s) (sight g.S.Pages s pages) t) 0) own (λ height own_.
    c.in-Err.ensures.spares pages height 0 most agrees (own_low g.S.Pages s pages root height own_) (own_place g.S.Pages s pages root height rowid low_row own_))

pub returns-clause-likely : goal.returns-clause-likely
returns-clause-likely g c = λ pages tree agrees own unsealed.
    let s = c.args.space.now in
    let m = c.take_below.new.space in
    let root = c.args.root in
    let rowid = to_z w64 (of_z w64 c.args.rowid) in
    let same_row : rowid ≡ c.args.rowid = grind (arith, to_z-of_z) in
    let low_row : rank rowid < most = rank_below rowid (subst (λ (z : ℤ). mag z < 9223372036854775808) (sym same_row) c.ranges.rowid.sfits) in
    for_tree g.S.Pages s pages root tree (λ t. IsSureOfTree (number_in (sight g.S.Pages m pages)) c.in-Err.fault) own (λ height own_.
    c.in-Err.ensures.likely pages height 0 most agrees (own_low g.S.Pages s pages root height own_) (own_place g.S.Pages s pages root height rowid low_row own_) unsealed)
