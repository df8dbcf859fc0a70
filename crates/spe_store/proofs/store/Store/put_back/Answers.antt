use Rattle.std.proofs.Common.{sym, ◌∙◌, arith}
use Rattle.spe_store.proofs.ListLemmas.{read_at}
use Rattle.spe_store.proofs.PoolLemmas.{none_from, returned_held}
use Rattle.spe_store.proofs.store.Store.put_back.Goals as goal

pub invariant_of-self : goal.invariant_of-self
invariant_of-self g c =
    returned_held _ _ c.self.inside.works.items c.self.inside.order c.self.invariant (sym c.stopped.ensures ∙ none_from c.stopped.result (sym c.is_some.ensures ∙ c.if-is_some.false)) c.seat.inside.id c.seat.invariant c.index_mut-work.result.now
    (read_at c.self.inside.works.items c.from.result c.seat.inside.id c.index_mut-work.result.now c.from.ensures (omega (arith, c.self.invariant.all, c.seat.invariant)) c.index_mut-work.ensures.value)
    c.from.result c.from.ensures c.with-self-inside.result.events c.with-self-inside.ensures
