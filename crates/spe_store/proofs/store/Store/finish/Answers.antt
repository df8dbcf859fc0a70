use Rattle.std.proofs.Common.{◌≡◌, false, None, sym, ap, ◌∙◌, length, arith}
use Rattle.spe_store.specs.Event.{entries_in, open_in}
use Rattle.spe_store.specs.Pass.{Pass}
use Rattle.spe_store.specs.Store.{Store}
use Rattle.spe_store.proofs.CommitLemmas.{rows_long}
use Rattle.spe_store.proofs.ListLemmas.{carried, read_at}
use Rattle.spe_store.proofs.PoolLemmas.{finished_held, none_from}
use Rattle.spe_store.proofs.store.Store.finish.Goals as goal

pub returns-then-is_some-clause-number : goal.returns-then-is_some-clause-number
returns-then-is_some-clause-number g c =
    c.len-number.ensures ∙ ap length c.self.invariant.ordered.rows ∙ rows_long 1 (entries_in c.self.inside.story.events)
    ∙ ap (λ (s : Store). length (entries_in s.events)) c.self.view_is

pub invariant_of-self : goal.invariant_of-self
invariant_of-self g c =
    let going = sym c.stopped.ensures ∙ none_from c.stopped.result (sym c.is_some.ensures ∙ c.if-is_some.false) in
    let w = c.index_mut.result.now in
    finished_held _ _ c.self.inside.works.items c.self.inside.order c.self.invariant going c.pass.inside.id c.pass.invariant w
    (read_at c.self.inside.works.items c.from.result c.pass.inside.id w c.from.ensures (omega (arith, c.self.invariant.all, c.pass.invariant)) c.index_mut.ensures.value)
    (carried (λ (s : Store) (p : Pass). s.desk.stopped ≡ None → open_in s.events p.id ≡ false) c.self.view_is c.pass.view_is c.requires.closed going)
    c.end.new.self c.end.ensures c.from.result c.from.ensures c.with-self-inside.result.events c.with-self-inside.ensures

pub returns-clause-number : goal.returns-clause-number
returns-clause-number g c =
    c.len-number.ensures ∙ ap length c.self.invariant.ordered.rows ∙ rows_long 1 (entries_in c.self.inside.story.events)
    ∙ ap (λ (s : Store). length (entries_in s.events)) c.self.view_is
