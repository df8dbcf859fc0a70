use Rattle.std.proofs.Common.{◌++◌, ap}
use Rattle.spe_render.specs.Outcomes.{outcome_text}
use Rattle.spe_render.specs.Replies.{replies_text}
use Rattle.spe_render.proofs.PassesLemmas.{printed, then}
use Rattle.spe_render.proofs.outcomes.put_transaction.Goals as goal

pub returns : goal.returns
returns g c =
    printed (ap (λ rs. outcome_text c.args.number c.args.transaction.now.0 ++ replies_text rs) c.as_slice.ensures) (then c.put_outcome.ensures c.put_replies.ensures)
