use Rattle.std.proofs.Common.{◌≡◌, false, []}
use Rattle.spe_store.specs.Event.{open_in}
use Rattle.spe_store.specs.Pass.{Pass}
use Rattle.spe_store.specs.Store.{Store}
use Rattle.spe_store.proofs.ListLemmas.{carried}
use Rattle.spe_store.proofs.OpenLemmas.{opened_done, opened_refused}
use Rattle.spe_store.proofs.store.Store.open_journal.Goals as goal

pub invariant_of-self : goal.invariant_of-self
invariant_of-self g c =
    opened_refused _ _ c.self.inside.works.items c.self.inside.order c.self.invariant c.pass.inside.id c.pass.invariant
    (carried (λ (s : Store) (p : Pass). open_in s.events p.id ≡ false) c.self.view_is c.pass.view_is c.requires.closed)
    c.low_half-nonce.result c.put_head.new.out (record { small = c.low_half-nonce.type_inv; is = c.put_head.ensures.bytes; said = c.put_head.ensures.kind [] }) c.write.new.self c.in-Err.stop c.in-Err.ensures.tried

pub invariant_of-self-2 : goal.invariant_of-self-2
invariant_of-self-2 g c =
    opened_done _ _ c.self.inside.works.items c.self.inside.order c.self.invariant c.pass.inside.id c.pass.invariant
    (carried (λ (s : Store) (p : Pass). open_in s.events p.id ≡ false) c.self.view_is c.pass.view_is c.requires.closed)
    c.low_half-nonce.result c.put_head.new.out (record { small = c.low_half-nonce.type_inv; is = c.put_head.ensures.bytes; said = c.put_head.ensures.kind [] }) c.write.new.self c.in-Ok.ensures.tried
    c.from.result c.from.ensures c.index_mut-work.result.now c.index_mut-work.ensures.value c.with-self-inside.result.events c.with-self-inside.ensures
