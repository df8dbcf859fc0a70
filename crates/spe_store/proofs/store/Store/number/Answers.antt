use Rattle.std.proofs.Common.{ap, ◌∙◌, length}
use Rattle.spe_store.specs.Event.{entries_in}
use Rattle.spe_store.specs.Store.{Store}
use Rattle.spe_store.proofs.CommitLemmas.{rows_long}
use Rattle.spe_store.proofs.store.Store.number.Goals as goal

pub returns : goal.returns
returns g c =
    c.len.ensures ∙ ap length c.self.invariant.ordered.rows ∙ rows_long 1 (entries_in c.self.inside.story.events)
    ∙ ap (λ (s : Store). length (entries_in s.events)) c.self.view_is
