use Rattle.std.proofs.Common.{◌∷◌, [], refl}
use Rattle.hex.specs.Hex.{encode_lower}
use Rattle.spe_render.proofs.PassesLemmas.{finished, turn}
use Rattle.spe_render.proofs.TextLemmas.{encode_cons, encode_nil}
use Rattle.spe_render.proofs.values.put_hex.Goals as goal

pub loop-left-preserved : goal.loop-left-preserved
loop-left-preserved g c =
    turn encode_lower (λ b. encode_lower (b ∷ [])) c.loop-left.left.now _ 0 encode_cons c.loop-left.invariant c.in-len1-up.len_at_least refl c.put_hex_byte.ensures

pub returns : goal.returns
returns g c = finished encode_lower c.loop-left.left.now encode_nil c.loop-left.invariant c.in_default.len_below
