use Rattle.std.proofs.Common.{ℕ, ◌-◌, List, Option, Ok, arith, to_z, of_z, w64, to_z-of_z}
use Rattle.spe_search.specs.declared.page.Step.TheVariants.{Missing, Row, Child}
use Rattle.spe_search.proofs.FoundLemmas.{step_same, finds_same, missing_finds, row_finds, child_finds, child_names, page_names, row_names, adds_page, adds_row, adds_below, adds_same}
use Rattle.spe_search.proofs.MissLemmas.{misses_page, misses_row, misses_below, misses_same}
use Rattle.spe_search.proofs.search.+descend.Goals as goal

pub returns-in-Ok-Missing-clause-found : goal.returns-in-Ok-Missing-clause-found
returns-in-Ok-Missing-clause-found g t c =
    missing_finds g.S.Pages c.args.space.now c.step_at.new.space c.args.page c.args.rowid c.args.levels (step_same g.S.Pages c.args.space.now c.step_at.new.space c.args.page (Ok Missing) (to_z w64 (of_z w64 c.args.rowid)) c.args.rowid (grind (arith, to_z-of_z))
    (rw c.in-Ok-Missing.field-0-is at c.in-Ok-Missing.ensures.given))

pub returns-in-Ok-Missing-clause-adds : goal.returns-in-Ok-Missing-clause-adds
returns-in-Ok-Missing-clause-adds g t c = adds_page g.S.Pages c.args.space.now c.step_at.new.space c.args.page c.args.rowid c.in-Ok-Missing.ensures.only

pub returns-in-Ok-Row-clause-found : goal.returns-in-Ok-Row-clause-found
returns-in-Ok-Row-clause-found g t c =
    row_finds g.S.Pages c.args.space.now c.step_at.new.space c.row_of.new.space c.args.page c.args.rowid c.args.levels c.in-Ok-Row.found c.row_of.result
    c.in-Ok-Row.ensures.kept c.row_of.ensures.kept (step_same g.S.Pages c.args.space.now c.step_at.new.space c.args.page (Ok (Row c.in-Ok-Row.found)) (to_z w64 (of_z w64 c.args.rowid)) c.args.rowid (grind (arith, to_z-of_z))
    (rw c.in-Ok-Row.field-0-is at c.in-Ok-Row.ensures.given)) c.row_of.ensures.whole

pub returns-in-Ok-Row-clause-adds : goal.returns-in-Ok-Row-clause-adds
returns-in-Ok-Row-clause-adds g t c =
    adds_row g.S.Pages c.args.space.now c.step_at.new.space c.row_of.new.space c.args.page c.args.rowid c.in-Ok-Row.found
    c.in-Ok-Row.ensures.kept c.row_of.ensures.kept c.in-Ok-Row.ensures.only (step_same g.S.Pages c.args.space.now c.step_at.new.space c.args.page (Ok (Row c.in-Ok-Row.found)) (to_z w64 (of_z w64 c.args.rowid)) c.args.rowid (grind (arith, to_z-of_z))
    (rw c.in-Ok-Row.field-0-is at c.in-Ok-Row.ensures.given)) c.row_of.ensures.adds

pub returns-in-Ok-Child-clause-found : goal.returns-in-Ok-Child-clause-found
returns-in-Ok-Child-clause-found g t c =
    child_finds g.S.Pages c.args.space.now c.step_at.new.space c.descend.new.space c.args.page c.args.rowid c.args.levels c.in-Ok-Child.child c.descend.result
    c.in-Ok-Child.ensures.kept c.descend.ensures.kept (step_same g.S.Pages c.args.space.now c.step_at.new.space c.args.page (Ok (Child c.in-Ok-Child.child)) (to_z w64 (of_z w64 c.args.rowid)) c.args.rowid (grind (arith, to_z-of_z))
    (rw c.in-Ok-Child.field-0-is at c.in-Ok-Child.ensures.given)) (finds_same g.S.Pages c.step_at.new.space c.descend.new.space c.in-Ok-Child.child (c.args.levels - 1) c.descend.result (to_z w64 (of_z w64 c.args.rowid)) c.args.rowid
    (grind (arith, to_z-of_z)) c.descend.ensures.found)

pub returns-in-Ok-Child-clause-damage : goal.returns-in-Ok-Child-clause-damage
returns-in-Ok-Child-clause-damage g t c =
    child_names g.S.Pages c.args.space.now c.step_at.new.space c.descend.new.space c.args.page c.args.rowid c.args.levels c.in-Ok-Child.child c.descend.result (omega arith)
    c.in-Ok-Child.ensures.kept c.descend.ensures.kept (step_same g.S.Pages c.args.space.now c.step_at.new.space c.args.page (Ok (Child c.in-Ok-Child.child)) (to_z w64 (of_z w64 c.args.rowid)) c.args.rowid (grind (arith, to_z-of_z))
    (rw c.in-Ok-Child.field-0-is at c.in-Ok-Child.ensures.given)) c.descend.ensures.damage

pub returns-in-Ok-Child-clause-adds : goal.returns-in-Ok-Child-clause-adds
returns-in-Ok-Child-clause-adds g t c =
    adds_below g.S.Pages c.args.space.now c.step_at.new.space c.descend.new.space c.args.page c.args.rowid c.in-Ok-Child.child
    c.in-Ok-Child.ensures.kept c.descend.ensures.kept c.in-Ok-Child.ensures.only (step_same g.S.Pages c.args.space.now c.step_at.new.space c.args.page (Ok (Child c.in-Ok-Child.child)) (to_z w64 (of_z w64 c.args.rowid)) c.args.rowid (grind (arith, to_z-of_z))
    (rw c.in-Ok-Child.field-0-is at c.in-Ok-Child.ensures.given)) (adds_same g.S.Pages c.step_at.new.space c.descend.new.space c.in-Ok-Child.child (to_z w64 (of_z w64 c.args.rowid)) c.args.rowid (grind (arith, to_z-of_z)) c.descend.ensures.adds)

pub returns-in-Err-clause-adds : goal.returns-in-Err-clause-adds
returns-in-Err-clause-adds g t c = adds_page g.S.Pages c.args.space.now c.step_at.new.space c.args.page c.args.rowid c.in-Err.ensures.only

pub returns-in-Ok-Row-clause-damage : goal.returns-in-Ok-Row-clause-damage
returns-in-Ok-Row-clause-damage g t c =
    row_names g.S.Pages c.args.space.now c.step_at.new.space c.row_of.new.space c.args.page c.args.rowid c.args.levels c.in-Ok-Row.found c.row_of.result (omega arith)
    c.in-Ok-Row.ensures.kept c.row_of.ensures.kept (step_same g.S.Pages c.args.space.now c.step_at.new.space c.args.page (Ok (Row c.in-Ok-Row.found)) (to_z w64 (of_z w64 c.args.rowid)) c.args.rowid (grind (arith, to_z-of_z))
    (rw c.in-Ok-Row.field-0-is at c.in-Ok-Row.ensures.given)) c.row_of.ensures.damage

pub returns-in-Ok-Row-clause-page_out : goal.returns-in-Ok-Row-clause-page_out
returns-in-Ok-Row-clause-page_out g t c =
    misses_row g.S.Pages c.args.space.now c.step_at.new.space c.row_of.new.space c.args.page c.args.rowid c.in-Ok-Row.found c.row_of.result
    c.in-Ok-Row.ensures.kept c.row_of.ensures.kept (step_same g.S.Pages c.args.space.now c.step_at.new.space c.args.page (Ok (Row c.in-Ok-Row.found)) (to_z w64 (of_z w64 c.args.rowid)) c.args.rowid (grind (arith, to_z-of_z))
    (rw c.in-Ok-Row.field-0-is at c.in-Ok-Row.ensures.given)) c.row_of.ensures.page_out

pub returns-in-Ok-Child-clause-page_out : goal.returns-in-Ok-Child-clause-page_out
returns-in-Ok-Child-clause-page_out g t c =
    misses_below g.S.Pages c.args.space.now c.step_at.new.space c.descend.new.space c.args.page c.args.rowid c.in-Ok-Child.child c.descend.result
    c.in-Ok-Child.ensures.kept c.descend.ensures.kept (step_same g.S.Pages c.args.space.now c.step_at.new.space c.args.page (Ok (Child c.in-Ok-Child.child)) (to_z w64 (of_z w64 c.args.rowid)) c.args.rowid (grind (arith, to_z-of_z))
    (rw c.in-Ok-Child.field-0-is at c.in-Ok-Child.ensures.given)) (misses_same g.S.Pages c.step_at.new.space c.descend.new.space c.in-Ok-Child.child c.descend.result (to_z w64 (of_z w64 c.args.rowid)) c.args.rowid (grind (arith, to_z-of_z)) c.descend.ensures.page_out)

pub returns-in-Err-clause-damage : goal.returns-in-Err-clause-damage
returns-in-Err-clause-damage g t c =
    page_names (Option (List ℕ)) g.S.Pages c.args.space.now c.step_at.new.space c.args.page (to_z w64 (of_z w64 c.args.rowid)) c.args.levels c.in-Err.fault (omega arith) c.in-Err.ensures.given

pub returns-in-Err-clause-page_out : goal.returns-in-Err-clause-page_out
returns-in-Err-clause-page_out g t c = misses_page (Option (List ℕ)) g.S.Pages c.args.space.now c.step_at.new.space c.args.page c.args.rowid c.in-Err.fault c.in-Err.ensures.page_out
