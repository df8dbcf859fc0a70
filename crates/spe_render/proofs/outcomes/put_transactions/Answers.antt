use Rattle.std.proofs.Common.{refl}
use Rattle.spe_render.specs.Outcomes.{transactions_text, transaction_text}
use Rattle.spe_render.proofs.PassesLemmas.{numbered_turn}
use Rattle.spe_render.proofs.outcomes.put_transactions.Goals as goal

pub loop-left-preserved : goal.loop-left-preserved
loop-left-preserved g c =
    numbered_turn transactions_text transaction_text c.loop-left.number c.loop-left.left.now c.transaction-item.result _ (λ n y ys. refl) c.loop-left.invariant c.in-len1-up.len_at_least
    c.transaction-item.is c.put_transaction.ensures
