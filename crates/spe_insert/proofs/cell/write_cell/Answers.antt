use Rattle.std.proofs.Common.{◌∙◌, ◌≤◌, [], length, ap, arith, to_z, of_z, w64}
use Rattle.std.proofs.lemmas.List.{length-drop}
use Rattle.spe_model.specs.Chain.{links}
use Rattle.spe_insert.proofs.CellLemmas.{has_payload, links_less, local_few}
use Rattle.spe_insert.proofs.cell.write_cell.Goals as goal

pub split_at-requires : goal.split_at-requires
split_at-requires g c =
    let few = local_few (length c.args.payload.now) c.usable.result c.usable.ensures.range.0 in
    omega (arith, few, c.local_size-size.ensures)

pub returns-in-Err-clause-spares : goal.returns-in-Err-clause-spares
returns-in-Err-clause-spares g c = λ pages agrees ready held.
    let used = g.S.Pages.used c.args.space.now in
    let less : length c.split_at.result.1.now ≤ length c.args.payload.now = omega (arith, ap length c.split_at.ensures.back, length-drop c.local_size-size.result c.args.payload.now) in
    c.shifts_law.ensures.spares_more c.args.space.now c.write_rest.new.space pages [] (links used (length c.split_at.result.1.now)) (links used (length c.args.payload.now))
    (links_less used (length c.split_at.result.1.now) (length c.args.payload.now) (omega (arith, c.usable.ensures.range.0, c.usable.ensures.value)) less) (c.write_rest.ensures.spares pages agrees ready held)

pub returns-clause-spares : goal.returns-clause-spares
returns-clause-spares g c = λ pages agrees ready held.
    let used = g.S.Pages.used c.args.space.now in
    let less : length c.split_at.result.1.now ≤ length c.args.payload.now = omega (arith, ap length c.split_at.ensures.back, length-drop c.local_size-size.result c.args.payload.now) in
    c.shifts_law.ensures.spares_more c.args.space.now c.write_rest.new.space pages [] (links used (length c.split_at.result.1.now)) (links used (length c.args.payload.now))
    (links_less used (length c.split_at.result.1.now) (length c.args.payload.now) (omega (arith, c.usable.ensures.range.0, c.usable.ensures.value)) less) (c.write_rest.ensures.spares pages agrees ready held)

pub returns-clause-payload : goal.returns-clause-payload
returns-clause-payload g c = λ pages agrees ready held.
    let used = g.S.Pages.used c.args.space.now in
    let few = local_few (length c.args.payload.now) c.usable.result c.usable.ensures.range.0 in
    has_payload g.S.Pages c.shifts_law.ensures.spares_more c.args.space.now c.write_rest.new.space pages c.args.payload.now c.split_at.result.0.now c.split_at.result.1.now c.new-local.result
    (to_z w64 (of_z w64 c.args.rowid)) c.local_size-size.result c.in-Ok.chain (omega (arith, c.usable.ensures.range.0, c.usable.ensures.value)) (omega (arith, few, c.local_size-size.ensures))
    c.split_at.ensures.front c.split_at.ensures.back (c.new-local.ensures ∙ c.in_ok-from_slice.ensures.items) (c.in-Ok.ensures.chain pages agrees ready held)
