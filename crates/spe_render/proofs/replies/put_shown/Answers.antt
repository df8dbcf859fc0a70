use Rattle.std.proofs.Common.{◌++◌, ◌∷◌, [], ap, codes}
use Rattle.spe_render.specs.Values.{joined}
use Rattle.spe_render.proofs.PassesLemmas.{printed, then}
use Rattle.spe_render.proofs.replies.put_shown.Goals as goal

pub returns : goal.returns
returns g c =
    printed (ap (λ vs. codes "  row " ++ (joined vs ++ 10 ∷ [])) c.as_slice.ensures) (then c.bytes.ensures (then c.put_joined.ensures c.byte.ensures))
