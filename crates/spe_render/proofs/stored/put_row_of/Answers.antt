use Rattle.std.proofs.Common.{◌≡◌, ◌∷◌, ◌++◌, [], ap, arith, of_z, to_z, to_z-of_z, w64}
use Rattle.std.specs.Fmt.{signed_decimal}
use Rattle.spe_model.specs.Standing.{shown}
use Rattle.spe_render.specs.Values.{barred}
use Rattle.spe_render.proofs.PassesLemmas.{printed, then}
use Rattle.spe_render.proofs.stored.put_row_of.Goals as goal

pub returns : goal.returns
returns g c =
    let same : to_z w64 (of_z w64 c.args.rowid) ≡ c.args.rowid = grind (arith, to_z-of_z) in
    printed (ap (λ n. (signed_decimal n ++ barred (shown c.args.table.now n c.args.fields)) ++ 10 ∷ []) same) (then (then c.signed.ensures c.put_fields.ensures) c.byte.ensures)
