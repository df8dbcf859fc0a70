use Rattle.std.proofs.Common.{◌∙◌, ℤ, List, refl, subst, arith}
use Rattle.spe_modify.specs.Removal.{IsPartGone}
use Rattle.spe_modify.proofs.ManyLemmas.{HaveLaws, empty_is, keeps_all, keeps_none}
use Rattle.spe_modify.proofs.RemovalLemmas.{done_spares, led_is, removing_done, removing_fails, removing_more, removing_none}
use Rattle.spe_modify.proofs.removal.remove_rows.Goals as goal

pub loop-left-init : goal.loop-left-init
loop-left-init g c =
    removing_none g.S.Pages c.shifts_law.ensures.idle c.table_law.ensures.one c.args.space.now c.args.root c.args.rowids.now (keeps_none g.S.Pages c.args.space.now) c.requires.refusal

pub loop-left-preserved : goal.loop-left-preserved
loop-left-preserved g c =
    let s = c.args.space.now in
    let mid = c.loop-left.space in
    let new = c.take_out.new.space in
    let root = c.args.root in
    let all = c.args.rowids.now in
    let held = c.loop-left.invariant in
    let laws : HaveLaws g.S.Pages = record {
      both = c.shifts_law.ensures.both;
      spares = c.shifts_law.ensures.spares;
      more = c.shifts_law.ensures.spares_more;
      table = c.table_law.ensures.table;
    } in
    let split = led_is c.loop-left.left.now _ (omega (arith, c.in-len1-up.len_at_least)) refl in
    record {
      kept = keeps_all g.S.Pages s mid new held.kept c.take_out.ensures.kept;
      refusal = c.in-Ok.ensures.refusal ∙ held.refusal;
      part = λ pages t agrees is.
          let part = held.part pages t (c.take_out.ensures.kept.earlier pages agrees) is in
          let led = subst (λ (left : List ℤ). IsPartGone g.S.Pages s mid pages root t all left) split part in
          removing_more g.S.Pages laws s mid new pages root t all _ _ led (c.in-Ok.ensures.goes pages _ agrees led.is);
    }

pub returns-in-Err-clause-few : goal.returns-in-Err-clause-few
returns-in-Err-clause-few g c = λ pages t agrees is.
    let s = c.args.space.now in
    let laws : HaveLaws g.S.Pages = record {
      both = c.shifts_law.ensures.both;
      spares = c.shifts_law.ensures.spares;
      more = c.shifts_law.ensures.spares_more;
      table = c.table_law.ensures.table;
    } in
    let part = c.loop-left.invariant.part pages t (c.take_out.ensures.kept.earlier pages agrees) is in
    removing_fails g.S.Pages laws s c.loop-left.space c.take_out.new.space pages c.args.root t c.args.rowids.now c.loop-left.left.now part (c.in-Err.ensures.few pages _ agrees part.is)

pub returns-in-Err-clause-likely : goal.returns-in-Err-clause-likely
returns-in-Err-clause-likely g c = λ pages t agrees is unsealed.
    let held = c.loop-left.invariant in
    let part = held.part pages t (c.take_out.ensures.kept.earlier pages agrees) is in
    c.in-Err.ensures.likely pages _ agrees part.is (held.kept.sealed ∙ unsealed)

pub returns-clause-removed : goal.returns-clause-removed
returns-clause-removed g c = λ pages t agrees is.
    let s = c.args.space.now in
    let now = c.loop-left.space in
    let all = c.args.rowids.now in
    let none = empty_is c.loop-left.left.now (omega (arith, c.in_default.len_below)) in
    let part = c.loop-left.invariant.part pages t agrees is in
    removing_done g.S.Pages s now pages c.args.root t all (subst (λ (left : List ℤ). IsPartGone g.S.Pages s now pages c.args.root t all left) none part)

pub returns-clause-few : goal.returns-clause-few
returns-clause-few g c = λ pages t agrees is.
    let s = c.args.space.now in
    let now = c.loop-left.space in
    let laws : HaveLaws g.S.Pages = record {
      both = c.shifts_law.ensures.both;
      spares = c.shifts_law.ensures.spares;
      more = c.shifts_law.ensures.spares_more;
      table = c.table_law.ensures.table;
    } in
    done_spares g.S.Pages laws s now pages c.args.root t c.args.rowids.now c.loop-left.left.now (c.loop-left.invariant.part pages t agrees is)
