use Rattle.std.proofs.Common.{◌++◌, ◌∷◌, [], ap, codes}
use Rattle.spe_render.proofs.PassesLemmas.{printed, then}
use Rattle.spe_render.proofs.replies.put_refused.Goals as goal

pub returns : goal.returns
returns g c =
    printed (ap (λ name. codes "  error " ++ (name ++ 10 ∷ [])) c.name_of.ensures) (then c.bytes.ensures (then c.bytes-2.ensures c.byte.ensures))
