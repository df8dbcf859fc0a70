use Rattle.std.proofs.Common.{◌∙◌, sym, refl, arith, inl, inr}
use Rattle.spe_format.specs.View.{cell_seen}
use Rattle.spe_search.proofs.PlaceLemmas.{hole_there, child_past, child_here}
use Rattle.spe_search.proofs.page.child_in.Goals as goal

pub returns-then-place-count : goal.returns-then-place-count
returns-then-place-count c = (
  inl c.right.ensures,
  λ cells e sorted. c.right.ensures
      ∙ child_past c.args.view.now.cells c.args.view.now.right c.args.key c.in-Some.place c.in-Some.ensures.1 (omega (arith, c.if-place-count.true, c.count.ensures)) cells e sorted,
)

pub returns-in_default-cell : goal.returns-in_default-cell
returns-in_default-cell c = hole_there c.args.view.now.cells c.in-Some.place c.in_default-cell.ensures (omega (arith, c.in-Some.ensures.0, c.if-place-count.false, c.count.ensures))

pub returns : goal.returns
returns c =
    let cell = cell_seen c.in-Some-cell.parts in (
      inr (cell, record { index = c.in-Some.place; is = sym c.in-Some-cell.ensures }, refl),
      child_here c.args.view.now.cells c.args.view.now.right c.args.key c.in-Some.place cell c.in-Some.ensures.1 c.in-Some-cell.ensures
          (omega (arith, c.in-Some.ensures.0, c.if-place-count.false, c.count.ensures)),
    )
