use Rattle.std.proofs.Common.{◌≡◌, ◌+◌, ◌*◌, ◌≤◌, ◌<◌, ◌∙◌, ◌++◌, ◌∷◌, List, length, arith, sym}
use Rattle.std.proofs.lemmas.Bool.{le-leb}
use Rattle.spe_model.specs.declared.page.Cell.{Cell}
use Rattle.spe_format.specs.Canonical.{canonical, splice, used}
use Rattle.spe_format.specs.Packed.{IsSlot, leaf_page}
use Rattle.spe_format.proofs.PutLemmas.{has_room, left_so, no_room, ranges_with, written_so}
use Rattle.spe_format.proofs.ReadBackLemmas.{written_reads}
use Rattle.spe_format.proofs.packed.put_in_slot.Goals as goal

pub returns-in_default-clause-fits : goal.returns-in_default-clause-fits
returns-in_default-clause-fits c = λ before after is.
    sym (no_room c.args.page.now c.args.at c.args.usable c.args.slot c.cell_length-size.result c.args.cell.now before after c.cell_length-size.ensures is
    (omega (arith, c.in_default.ensures, c.requires.within.array)))

pub returns-in_default-clause-bytes : goal.returns-in_default-clause-bytes
returns-in_default-clause-bytes c = λ before after is.
    left_so c.args.at c.args.usable (before ++ (c.args.cell.now ∷ after)) c.args.page.now (sym (returns-in_default-clause-fits c before after is))

pub returns-then-size-most-clause-fits : goal.returns-then-size-most-clause-fits
returns-then-size-most-clause-fits c = λ before after is.
    sym (no_room c.args.page.now c.args.at c.args.usable c.args.slot c.cell_length-size.result c.args.cell.now before after c.cell_length-size.ensures is
    (omega (arith, c.in-Some.ensures, c.if-size-most.true, c.requires.within.array)))

pub returns-then-size-most-clause-bytes : goal.returns-then-size-most-clause-bytes
returns-then-size-most-clause-bytes c = λ before after is.
    left_so c.args.at c.args.usable (before ++ (c.args.cell.now ∷ after)) c.args.page.now (sym (returns-then-size-most-clause-fits c before after is))

pub returns-clause-fits : goal.returns-clause-fits
returns-clause-fits c = λ before after is.
    let enough = has_room c.args.page.now c.args.at c.args.usable c.args.slot c.cell_length-size.result c.args.cell.now before after c.cell_length-size.ensures is
    (omega (arith, c.in-Some.ensures, c.if-size-most.false, c.requires.within.array)) in
    sym (le-leb (used (leaf_page (before ++ (c.args.cell.now ∷ after))) c.args.at) c.args.usable enough)

pub returns-clause-bytes : goal.returns-clause-bytes
returns-clause-bytes c = λ before after is.
    let enough = has_room c.args.page.now c.args.at c.args.usable c.args.slot c.cell_length-size.result c.args.cell.now before after c.cell_length-size.ensures is
    (omega (arith, c.in-Some.ensures, c.if-size-most.false, c.requires.within.array)) in
    written_so c.args.at c.args.usable (before ++ (c.args.cell.now ∷ after)) c.args.page.now c.put_at.new.page enough
    (c.put_at.ensures c.args.usable before after c.requires.high is)

pub returns-clause-reads_back : goal.returns-clause-reads_back
returns-clause-reads_back c = λ before after is writable _.
    let enough = has_room c.args.page.now c.args.at c.args.usable c.args.slot c.cell_length-size.result c.args.cell.now before after c.cell_length-size.ensures is
    (omega (arith, c.in-Some.ensures, c.if-size-most.false, c.requires.within.array)) in
    written_reads c.put_at.new.page c.args.page.now (leaf_page (before ++ (c.args.cell.now ∷ after))) c.args.at c.args.usable enough c.requires.high c.requires.inside writable
    (ranges_with before after c.args.cell.now is.packed.ranges c.see_range.ensures) (omega arith) (c.put_at.ensures c.args.usable before after c.requires.high is)
