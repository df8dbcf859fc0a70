use Rattle.std.proofs.Common.{◌∙◌, List, All, refl, subst, arith}
use Rattle.std.proofs.lemmas.List.Elements.{All-tail}
use Rattle.spe_modify.specs.declared.rows.StoredRow.{StoredRow}
use Rattle.spe_modify.specs.Rows.{IsPart, IsShort}
use Rattle.spe_modify.proofs.ManyLemmas.{HaveLaws, changing_done, changing_fails, changing_more, changing_none, done_spares, empty_is, front_is, keeps_all, keeps_none, next}
use Rattle.spe_modify.proofs.rows.replace_rows.Goals as goal

pub loop-left-init : goal.loop-left-init
loop-left-init g c =
    changing_none g.S.Pages c.shifts_law.ensures.idle c.table_law.ensures.one c.args.space.now c.args.root c.args.stored.now (keeps_none g.S.Pages c.args.space.now) c.requires.refusal c.requires.most

pub loop-left-preserved : goal.loop-left-preserved
loop-left-preserved g c =
    let s = c.args.space.now in
    let mid = c.loop-left.space in
    let new = c.turn.new.space in
    let all = c.args.stored.now in
    let first = c.row-item.result in
    let held = c.loop-left.invariant in
    let laws : HaveLaws g.S.Pages = record {
      both = c.shifts_law.ensures.both;
      spares = c.shifts_law.ensures.spares;
      more = c.shifts_law.ensures.spares_more;
      table = c.table_law.ensures.table;
    } in
    let split = front_is c.loop-left.left.now first _ (omega (arith, c.in-len1-up.len_at_least)) c.row-item.is refl in
    record {
      kept = keeps_all g.S.Pages s mid new held.kept c.turn.ensures.kept;
      refusal = c.in-Ok.ensures.refusal ∙ held.refusal;
      short = All-tail IsShort first _ (subst (All IsShort) split held.short);
      part = λ pages t agrees is rows are.
          let part = held.part pages t (c.turn.ensures.kept.earlier pages agrees) is rows are in
          let n = next g.S.Pages s mid pages c.args.root t all first _ rows (subst (λ (left : List StoredRow). IsPart g.S.Pages s mid pages c.args.root t all left rows) split part) in
          changing_more g.S.Pages laws s mid new pages c.args.root t all first _ rows is held.kept.used n (c.in-Ok.ensures.turns pages _ agrees n.part.is n.row n.is);
    }

pub returns-in-Err-clause-few : goal.returns-in-Err-clause-few
returns-in-Err-clause-few g c = λ pages t agrees is rows are.
    let s = c.args.space.now in
    let mid = c.loop-left.space in
    let new = c.turn.new.space in
    let all = c.args.stored.now in
    let first = c.row-item.result in
    let held = c.loop-left.invariant in
    let laws : HaveLaws g.S.Pages = record {
      both = c.shifts_law.ensures.both;
      spares = c.shifts_law.ensures.spares;
      more = c.shifts_law.ensures.spares_more;
      table = c.table_law.ensures.table;
    } in
    let split = front_is c.loop-left.left.now first _ (omega (arith, c.in-len1-up.len_at_least)) c.row-item.is refl in
    let part = held.part pages t (c.turn.ensures.kept.earlier pages agrees) is rows are in
    let led = subst (λ (left : List StoredRow). IsPart g.S.Pages s mid pages c.args.root t all left rows) split part in
    changing_fails g.S.Pages laws s mid new pages c.args.root t all first _ rows held.kept.used led (c.in-Err.ensures.few pages _ agrees led.is)

pub returns-in-Err-clause-likely : goal.returns-in-Err-clause-likely
returns-in-Err-clause-likely g c = λ pages t agrees is rows are unsealed.
    let held = c.loop-left.invariant in
    let part = held.part pages t (c.turn.ensures.kept.earlier pages agrees) is rows are in
    c.in-Err.ensures.likely pages _ agrees part.is (held.kept.sealed ∙ unsealed)

pub returns-clause-changed : goal.returns-clause-changed
returns-clause-changed g c = λ pages t agrees is rows are.
    let s = c.args.space.now in
    let now = c.loop-left.space in
    let none = empty_is c.loop-left.left.now (omega (arith, c.in_default.len_below)) in
    let part = c.loop-left.invariant.part pages t agrees is rows are in
    changing_done g.S.Pages s now pages c.args.root t c.args.stored.now rows (subst (λ (left : List StoredRow). IsPart g.S.Pages s now pages c.args.root t c.args.stored.now left rows) none part)

pub returns-clause-few : goal.returns-clause-few
returns-clause-few g c = λ pages t agrees is rows are.
    let s = c.args.space.now in
    let now = c.loop-left.space in
    let laws : HaveLaws g.S.Pages = record {
      both = c.shifts_law.ensures.both;
      spares = c.shifts_law.ensures.spares;
      more = c.shifts_law.ensures.spares_more;
      table = c.table_law.ensures.table;
    } in
    done_spares g.S.Pages laws s now pages c.args.root t c.args.stored.now c.loop-left.left.now rows (c.loop-left.invariant.part pages t agrees is rows are)
