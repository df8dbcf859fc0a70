use Rattle.std.proofs.Common.{refl}
use Rattle.spe_render.specs.Outcomes.{clients_text, client_text}
use Rattle.spe_render.proofs.PassesLemmas.{numbered_turn}
use Rattle.spe_render.proofs.outcomes.put_clients.Goals as goal

pub loop-left-preserved : goal.loop-left-preserved
loop-left-preserved g c =
    numbered_turn clients_text client_text c.loop-left.client_number c.loop-left.left.now c.client-item.result _ (λ n y ys. refl) c.loop-left.invariant c.in-len1-up.len_at_least
    c.client-item.is c.put_client.ensures
