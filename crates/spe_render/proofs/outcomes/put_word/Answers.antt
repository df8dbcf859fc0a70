use Rattle.std.proofs.Common.{◌∙◌, ◌++◌, ap, codes}
use Rattle.spe_render.specs.Outcomes.{without_zeros}
use Rattle.spe_render.proofs.PassesLemmas.{printed, then}
use Rattle.spe_render.proofs.outcomes.put_word.Goals as goal

pub returns : goal.returns
returns g c =
    printed (ap (λ digits. codes "0x" ++ digits) (c.significant.ensures ∙ ap without_zeros c.digits_of-digits.ensures)) (then c.bytes.ensures c.bytes-2.ensures)
