use Rattle.std.proofs.Common.{arith, sym, ℕ, ℤ, ◌<◌, ◌^◌, ◌∙◌, ap, to_z, of_z, w64, to_z-of_z, rules}
use Rattle.std.proofs.Math.Facts.{Fits-lt-pow}
use Rattle.std.proofs.lemmas.Int.{of_z-to_z}
use Rattle.spe_format.proofs.SpelledLemmas.{cell_is}
use Rattle.spe_format.proofs.spelled.cell_spelled.Goals as goal

pub returns : goal.returns
returns c =
    let fits : c.in_ok-key.key < 2 ^ 64 = search rules in
    cell_is c.args.usable c.local_size-size.result c.args.bytes.now c.in_ok-payload.rest.now c.in_ok-key.rest.now c.in_ok-local.rest.now c.in_ok-chain.rest.now c.in_ok-local.local.now
    c.in_ok-payload.payload c.in_ok-key.key c.in_ok-chain.chain _ (λ i. Fits-lt-pow (c.type_inv.bytes i)) (omega (arith, c.if-payload-gt2147483647.false)) c.local_size-size.ensures
    (ap (λ (z : ℤ). of_z w64 (to_z w64 (of_z w64 z))) c.cast_signed.ensures ∙ ap (λ (n : ℕ). of_z w64 (to_z w64 n)) (of_z-to_z w64 c.in_ok-key.key fits) ∙ of_z-to_z w64 c.in_ok-key.key fits)
    c.see_parts.ensures c.in_ok-payload.ensures c.in_ok-key.ensures c.in_ok-local.ensures.value c.in_ok-chain.ensures.value
