use Rattle.std.proofs.Common.{◌≡◌, ◌∙◌, ◌∷◌, ◌++◌, [], ap, arith, of_z, to_z, to_z-of_z, w64}
use Rattle.std.specs.Fmt.{signed_decimal}
use Rattle.spe_render.specs.Values.{barred}
use Rattle.spe_render.proofs.PassesLemmas.{printed, then}
use Rattle.spe_render.proofs.values.put_row.Goals as goal

pub returns : goal.returns
returns g c =
    let same : to_z w64 (of_z w64 c.args.row.now.0) ≡ c.args.row.now.0 = grind (arith, to_z-of_z) in
    printed (ap (λ vs. (signed_decimal (to_z w64 (of_z w64 c.args.row.now.0)) ++ barred vs) ++ 10 ∷ []) c.as_slice.ensures ∙ ap (λ n. (signed_decimal n ++ barred c.args.row.now.1) ++ 10 ∷ []) same)
    (then (then c.signed.ensures c.put_barred.ensures) c.byte.ensures)
