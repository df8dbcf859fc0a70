use Rattle.std.proofs.Common.{◌≡◌, ◌∙◌, ◌<◌, sym, arith, to_z, of_z, w64, to_z-of_z}
use Rattle.spe_search.proofs.FoundLemmas.{reads_twice}
use Rattle.spe_search.proofs.LastLemmas.{rows_end, cut_first, cut_more, cut_found, found_same, cut_fault, cut_none, left_fault, left_names, end_names, cut_names, end_adds, more_adds, cut_adds}
use Rattle.spe_search.proofs.MissLemmas.{misses_end, misses_cut}
use Rattle.spe_search.proofs.last.+last_below.Goals as goal

pub returns-in-Ok-Rows-clause-found : goal.returns-in-Ok-Rows-clause-found
returns-in-Ok-Rows-clause-found g t c =
    rows_end g.S.Pages c.args.space.now c.end_at.new.space c.args.page c.args.levels c.in-Ok-Rows.last (rw c.in-Ok-Rows.field-0-is at c.in-Ok-Rows.ensures.given)

pub children-init : goal.children-init
children-init g t c = record {
  kept = c.in-Ok-Children.ensures.kept;
  refusal = c.in-Ok-Children.ensures.refusal;
  buf = omega (arith, c.end_at.auto.buf, c.requires);
  cut = cut_first g.S.Pages c.args.space.now c.end_at.new.space c.args.page c.args.levels c.in-Ok-Children.before c.in-Ok-Children.right (rw c.in-Ok-Children.field-0-is at c.in-Ok-Children.ensures.given);
  adds = end_adds g.S.Pages c.args.space.now c.end_at.new.space c.args.page c.args.levels c.in-Ok-Children.ensures.only;
}

pub returns-in-Ok-Some-clause-found : goal.returns-in-Ok-Some-clause-found
returns-in-Ok-Some-clause-found g t c =
    let same : c.in-Ok-Some.rowid ≡ to_z w64 (of_z w64 c.in-Ok-Some.rowid) = sym (grind (arith, to_z-of_z)) in
    found_same g.S.Pages c.args.space.now c.last_below.new.space c.args.page c.args.levels c.in-Ok-Some.rowid (to_z w64 (of_z w64 c.in-Ok-Some.rowid)) same
    (cut_found g.S.Pages c.args.space.now c.children.space c.last_below.new.space c.args.page c.args.levels c.children.before c.children.child c.in-Ok-Some.rowid
    c.children.invariant.kept c.in-Ok-Some.ensures.kept c.children.invariant.cut (rw c.in-Ok-Some.field-0-is at c.in-Ok-Some.ensures.found))

pub returns-in-Ok-Some-clause-adds : goal.returns-in-Ok-Some-clause-adds
returns-in-Ok-Some-clause-adds g t c =
    cut_adds g.S.Pages c.args.space.now c.children.space c.last_below.new.space c.args.page c.args.levels c.children.before c.children.child
    c.children.invariant.kept c.in-Ok-Some.ensures.kept c.children.invariant.cut c.children.invariant.adds c.in-Ok-Some.ensures.adds

pub returns-in-Err-last_below-clause-found : goal.returns-in-Err-last_below-clause-found
returns-in-Err-last_below-clause-found g t c =
    cut_fault g.S.Pages c.args.space.now c.children.space c.last_below.new.space c.args.page c.args.levels c.children.before c.children.child c.in-Err-last_below.fault
    c.children.invariant.kept c.in-Err-last_below.ensures.kept c.children.invariant.cut c.in-Err-last_below.ensures.found

pub returns-in-Err-last_below-clause-damage : goal.returns-in-Err-last_below-clause-damage
returns-in-Err-last_below-clause-damage g t c =
    cut_names g.S.Pages c.args.space.now c.children.space c.last_below.new.space c.args.page c.args.levels c.children.before c.children.child c.in-Err-last_below.fault (omega arith)
    c.children.invariant.kept c.in-Err-last_below.ensures.kept c.children.invariant.cut c.in-Err-last_below.ensures.damage

pub returns-in-Err-last_below-clause-adds : goal.returns-in-Err-last_below-clause-adds
returns-in-Err-last_below-clause-adds g t c =
    cut_adds g.S.Pages c.args.space.now c.children.space c.last_below.new.space c.args.page c.args.levels c.children.before c.children.child
    c.children.invariant.kept c.in-Err-last_below.ensures.kept c.children.invariant.cut c.children.invariant.adds c.in-Err-last_below.ensures.adds

pub returns-then-before-eq0-clause-found : goal.returns-then-before-eq0-clause-found
returns-then-before-eq0-clause-found g t c =
    cut_none g.S.Pages c.args.space.now c.children.space c.last_below.new.space c.args.page c.args.levels c.children.before c.children.child
    c.children.invariant.kept c.in-Ok-None.ensures.kept c.if-before-eq0.true c.children.invariant.cut (rw c.in-Ok-None.field-0-is at c.in-Ok-None.ensures.found)

pub returns-then-before-eq0-clause-adds : goal.returns-then-before-eq0-clause-adds
returns-then-before-eq0-clause-adds g t c =
    cut_adds g.S.Pages c.args.space.now c.children.space c.last_below.new.space c.args.page c.args.levels c.children.before c.children.child
    c.children.invariant.kept c.in-Ok-None.ensures.kept c.children.invariant.cut c.children.invariant.adds c.in-Ok-None.ensures.adds

pub returns-in-Err-left_at-clause-found : goal.returns-in-Err-left_at-clause-found
returns-in-Err-left_at-clause-found g t c =
    left_fault g.S.Pages c.args.space.now c.children.space c.last_below.new.space c.left_at.new.space c.args.page c.args.levels c.children.before c.children.child _ c.in-Err-left_at.fault
    c.children.invariant.kept c.in-Ok-None.ensures.kept c.in-Err-left_at.ensures.kept (omega arith) c.children.invariant.cut c.in-Err-left_at.ensures.given

pub returns-in-Err-left_at-clause-damage : goal.returns-in-Err-left_at-clause-damage
returns-in-Err-left_at-clause-damage g t c =
    left_names g.S.Pages c.args.space.now c.children.space c.last_below.new.space c.left_at.new.space c.args.page c.args.levels c.children.before c.children.child _ c.in-Err-left_at.fault (omega arith)
    c.children.invariant.kept c.in-Ok-None.ensures.kept c.in-Err-left_at.ensures.kept (omega arith) c.children.invariant.cut c.in-Err-left_at.ensures.given

pub returns-in-Err-left_at-clause-adds : goal.returns-in-Err-left_at-clause-adds
returns-in-Err-left_at-clause-adds g t c =
    more_adds g.S.Pages c.args.space.now c.last_below.new.space c.left_at.new.space c.args.page c.args.levels c.in-Err-left_at.ensures.kept c.in-Err-left_at.ensures.only
    (cut_adds g.S.Pages c.args.space.now c.children.space c.last_below.new.space c.args.page c.args.levels c.children.before c.children.child
    c.children.invariant.kept c.in-Ok-None.ensures.kept c.children.invariant.cut c.children.invariant.adds c.in-Ok-None.ensures.adds)

pub children-preserved : goal.children-preserved
children-preserved g t c =
    let some : 0 < c.children.before = omega arith in
    record {
      kept = reads_twice g.S.Pages c.args.space.now c.last_below.new.space c.left_at.new.space (reads_twice g.S.Pages c.args.space.now c.children.space c.last_below.new.space c.children.invariant.kept c.in-Ok-None.ensures.kept) c.in-Ok.ensures.kept;
      refusal = c.in-Ok.ensures.refusal ∙ c.in-Ok-None.ensures.refusal ∙ c.children.invariant.refusal;
      buf = omega (arith, c.left_at.auto.buf, c.last_below.auto.buf, c.children.invariant.buf);
      cut = cut_more g.S.Pages c.args.space.now c.children.space c.last_below.new.space c.left_at.new.space c.args.page c.args.levels c.children.before c.children.child c.in-Ok.child
          c.children.invariant.kept c.in-Ok-None.ensures.kept c.in-Ok.ensures.kept some c.children.invariant.cut (rw c.in-Ok-None.field-0-is at c.in-Ok-None.ensures.found) c.in-Ok.ensures.given;
      adds = more_adds g.S.Pages c.args.space.now c.last_below.new.space c.left_at.new.space c.args.page c.args.levels c.in-Ok.ensures.kept c.in-Ok.ensures.only
          (cut_adds g.S.Pages c.args.space.now c.children.space c.last_below.new.space c.args.page c.args.levels c.children.before c.children.child
          c.children.invariant.kept c.in-Ok-None.ensures.kept c.children.invariant.cut c.children.invariant.adds c.in-Ok-None.ensures.adds);
    }

pub returns-in-Err-clause-page_out : goal.returns-in-Err-clause-page_out
returns-in-Err-clause-page_out g t c = misses_end g.S.Pages c.args.space.now c.end_at.new.space c.args.page c.args.levels c.in-Err.fault c.in-Err.ensures.page_out

pub returns-in-Err-clause-damage : goal.returns-in-Err-clause-damage
returns-in-Err-clause-damage g t c = end_names g.S.Pages c.args.space.now c.end_at.new.space c.args.page c.args.levels c.in-Err.fault (omega arith) c.in-Err.ensures.given

pub returns-in-Err-last_below-clause-page_out : goal.returns-in-Err-last_below-clause-page_out
returns-in-Err-last_below-clause-page_out g t c =
    misses_cut g.S.Pages c.args.space.now c.children.space c.last_below.new.space c.args.page c.args.levels c.children.before c.children.child c.in-Err-last_below.fault
    c.children.invariant.kept c.in-Err-last_below.ensures.kept c.children.invariant.cut c.in-Err-last_below.ensures.page_out

pub returns-in-Err-left_at-clause-page_out : goal.returns-in-Err-left_at-clause-page_out
returns-in-Err-left_at-clause-page_out g t c = misses_end g.S.Pages c.args.space.now c.left_at.new.space c.args.page c.args.levels c.in-Err-left_at.fault c.in-Err-left_at.ensures.page_out
