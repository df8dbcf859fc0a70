use Rattle.std.proofs.Common.{◌++◌, ap}
use Rattle.spe_render.specs.Values.{line}
use Rattle.std.specs.Prelude.{codes}
use Rattle.spe_render.specs.Outcomes.{numbered, transactions_text}
use Rattle.spe_render.proofs.PassesLemmas.{printed, then}
use Rattle.spe_render.proofs.outcomes.put_client.Goals as goal

pub returns : goal.returns
returns g c =
    printed (ap (λ ts. line (numbered (codes "client ") c.args.number) ++ transactions_text 1 ts) c.as_slice.ensures)
    (then (then c.put_number.ensures c.byte.ensures) c.put_transactions.ensures)
