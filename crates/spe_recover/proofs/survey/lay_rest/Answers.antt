use Rattle.std.proofs.Common.{ℕ, List, Option, take, drop, ◌++◌, ap, sym, ◌∙◌}
use Rattle.std.specs.Prelude.{unwrap_or}
use Rattle.spe_recover.proofs.ImageLemmas.{put_rest}
use Rattle.spe_recover.proofs.survey.lay_rest.Goals as goal

pub returns-in-Some : goal.returns-in-Some
returns-in-Some c =
    put_rest c.args.front.now c.copy_from_slice.new.self c.in-Some.rest c.told-front c.copy_from_slice.ensures.len c.copy_from_slice.ensures.after
    ∙ ap (λ (rest : Option (List ℕ)). take 24 c.args.front.now ++ unwrap_or rest (drop 24 c.args.front.now)) (sym c.in-Some.is)
