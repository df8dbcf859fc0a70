use Rattle.std.proofs.Common.{◌≡◌, ◌∙◌, sym, refl, arith, to_z, of_z, w64, to_z-of_z}
use Rattle.spe_model.specs.Tree.{rank}
use Rattle.spe_search.specs.declared.page.Found.{Found}
use Rattle.spe_format.specs.View.{cell_seen}
use Rattle.spe_search.specs.Step.{IsFoundIn}
use Rattle.spe_search.proofs.PlaceLemmas.{hole_there, missing_past, missing_here, found_here}
use Rattle.spe_search.proofs.page.row_in.Goals as goal

pub returns-then-place-count : goal.returns-then-place-count
returns-then-place-count c =
    (tt, missing_past c.args.view.now.cells c.args.rowid c.in-Some.place (let same : c.rank_of.result ≡ rank c.args.rowid = grind (arith, to_z-of_z) in rw same at c.in-Some.ensures.1) (omega (arith, c.if-place-count.true, c.count.ensures)))

pub returns-in_default-cell : goal.returns-in_default-cell
returns-in_default-cell c = hole_there c.args.view.now.cells c.in-Some.place c.in_default-cell.ensures (omega (arith, c.in-Some.ensures.0, c.if-place-count.false, c.count.ensures))

pub returns-then-not-has_rowid : goal.returns-then-not-has_rowid
returns-then-not-has_rowid c = (
  tt,
  missing_here c.args.view.now.cells c.args.rowid c.in-Some.place (cell_seen c.in-Some-cell.parts) (let same : c.rank_of.result ≡ rank c.args.rowid = grind (arith, to_z-of_z) in rw same at c.in-Some.ensures.1) c.in-Some-cell.ensures
      (omega (arith, c.in-Some.ensures.0, c.if-place-count.false, c.count.ensures)) (let same : to_z w64 (of_z w64 c.args.rowid) ≡ c.args.rowid = grind (arith, to_z-of_z) in λ e. c.has_rowid.ensures.other c.if-not-has_rowid.true (e ∙ sym same)),
)

pub returns : goal.returns
returns c =
    let cell = cell_seen c.in-Some-cell.parts in
    let found : Found = record { local = c.new.result; rest = c.saturating_sub.result; chain = c.in-Some-cell.parts.chain } in
    let inside : IsFoundIn found cell = (c.new.ensures ∙ c.in_ok-local.ensures.items, c.saturating_sub.ensures, refl) in (
      (cell, record { index = c.in-Some.place; is = sym c.in-Some-cell.ensures }, (let same : to_z w64 (of_z w64 c.args.rowid) ≡ c.args.rowid = grind (arith, to_z-of_z) in c.has_rowid.ensures.here c.if-not-has_rowid.false ∙ same), inside),
      found_here c.args.view.now.cells c.args.rowid c.in-Some.place cell found (let same : c.rank_of.result ≡ rank c.args.rowid = grind (arith, to_z-of_z) in rw same at c.in-Some.ensures.1) c.in-Some-cell.ensures
          (omega (arith, c.in-Some.ensures.0, c.if-place-count.false, c.count.ensures)) (let same : to_z w64 (of_z w64 c.args.rowid) ≡ c.args.rowid = grind (arith, to_z-of_z) in c.has_rowid.ensures.here c.if-not-has_rowid.false ∙ same) inside,
    )
