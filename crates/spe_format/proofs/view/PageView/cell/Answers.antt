use Rattle.std.proofs.Common.{◌∙◌, ◌<◌, arith}
use Rattle.spe_format.proofs.ViewLemmas.{place_below, cell_is}
use Rattle.spe_format.proofs.view.PageView.cell.Goals as goal

pub overflow_mul-index : goal.overflow_mul-index
overflow_mul-index c =
    let below : c.args.index < c.self.inside.count = place_below _ _ _ _ _ _ _ c.self.invariant.array c.self.view_is c.requires in
    omega (arith, c.self.invariant.array, c.self.invariant.high)

pub overflow_add-self-inside : goal.overflow_add-self-inside
overflow_add-self-inside c =
    let below : c.args.index < c.self.inside.count = place_below _ _ _ _ _ _ _ c.self.invariant.array c.self.view_is c.requires in
    omega (arith, c.self.invariant.array, c.self.invariant.high)

pub u16_of-offset-requires : goal.u16_of-offset-requires
u16_of-offset-requires c =
    let below : c.args.index < c.self.inside.count = place_below _ _ _ _ _ _ _ c.self.invariant.array c.self.view_is c.requires in
    omega (arith, c.self.invariant.array)

pub returns : goal.returns
returns c =
    let below : c.args.index < c.self.inside.count = place_below _ _ _ _ _ _ _ c.self.invariant.array c.self.view_is c.requires in
    c.parts_from.ensures
    ∙ cell_is _ _ _ _ _ c.args.index _ _ c.self.invariant.array below c.self.view_is (c.from.ensures ∙ c.u16_of-offset.ensures)
