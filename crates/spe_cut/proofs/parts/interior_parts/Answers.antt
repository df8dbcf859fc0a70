use Rattle.std.proofs.Common.{◌≡◌, ◌-◌, length, arith}
use Rattle.std.specs.Prelude.{min}
use Rattle.spe_cut.specs.declared.parts.Halves.{Halves}
use Rattle.spe_cut.specs.Parts.{IsHalved}
use Rattle.spe_cut.specs.Place.{IsParted}
use Rattle.spe_cut.proofs.PartLemmas.{interior_answer, many_cells, ok_so}
use Rattle.spe_cut.proofs.parts.interior_parts.Goals as goal

pub overflow_sub-list : goal.overflow_sub-list
overflow_sub-list c =
    let many = many_cells c.args.usable c.args.cells c.requires.low c.requires.writable.cells c.requires.over in
    rw c.as_slice-list.ensures (omega (arith, many))

pub returns-clause-many : goal.returns-clause-many
returns-clause-many c = many_cells c.args.usable c.args.cells c.requires.low c.requires.writable.cells c.requires.over

pub returns-clause-halves : goal.returns-clause-halves
returns-clause-halves c =
    let at : c.min-at.result ≡ min c.front_within-count.result.0 (length c.as_slice-list.result.now - 2) = c.min-at.ensures in
    ok_so c.halves_at.result (IsParted c.into_vec.result.items c.min-at.result c.args.right)
    (λ (halves : Halves). IsHalved c.args.usable (record { cells = c.args.cells; right = c.args.right }) (record { cells = halves.low; right = halves.low_right }) halves.key
    (record { cells = halves.high; right = halves.high_right }))
    (λ halves is. interior_answer c.args.usable c.args.right halves.low_right halves.high_right c.first_share.result c.front_within-count.result.0 c.min-at.result c.need_of-total.result
    c.args.cells c.as_slice-list.result.now c.into_vec.result.items halves.low halves.high is.middle halves.key c.requires.low c.requires.writable c.requires.over c.requires.few
    c.as_slice-list.ensures c.into_vec.ensures c.need_of-total.ensures c.first_share.ensures c.front_within-count.ensures.count at
    is.low is.high is.joined is.child is.key is.last) c.halves_at.ensures
