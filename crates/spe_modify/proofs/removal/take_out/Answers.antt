use Rattle.std.proofs.Common.{◌≡◌, ℤ, subst, arith, to_z, of_z, w64, to_z-of_z}
use Rattle.spe_modify.specs.Removal.{Goes}
use Rattle.spe_modify.proofs.RemovalLemmas.{passed}
use Rattle.spe_modify.proofs.removal.take_out.Goals as goal

pub returns-in-Ok-true-clause-goes : goal.returns-in-Ok-true-clause-goes
returns-in-Ok-true-clause-goes g c = λ pages t agrees is.
    let same : to_z w64 (of_z w64 c.args.rowid.now) ≡ c.args.rowid.now = grind (arith, to_z-of_z) in
    subst (λ (z : ℤ). Goes g.S.Pages c.args.space.now c.remove_row.new.space pages t z) same
    (c.in-Ok-true.ensures.removed c.in-Ok-true.field-0-test pages t agrees is).gone

pub returns-in-Ok-false-clause-goes : goal.returns-in-Ok-false-clause-goes
returns-in-Ok-false-clause-goes g c = λ pages t agrees is.
    let same : to_z w64 (of_z w64 c.args.rowid.now) ≡ c.args.rowid.now = grind (arith, to_z-of_z) in
    subst (λ (z : ℤ). Goes g.S.Pages c.args.space.now c.remove_row.new.space pages t z) same
    (passed g.S.Pages c.args.space.now c.remove_row.new.space pages c.args.root t (to_z w64 (of_z w64 c.args.rowid.now)) is
    (c.in-Ok-false.ensures.absent c.in-Ok-false.field-0-test pages t agrees is))
