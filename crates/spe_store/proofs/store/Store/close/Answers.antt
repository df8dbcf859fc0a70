use Rattle.std.proofs.Common.{subst, sym, Option}
use Rattle.spe_model.specs.Trace.{History}
use Rattle.spe_store.specs.Call.{CutsAreLeft}
use Rattle.spe_store.specs.Event.{broken_in, entries_in}
use Rattle.spe_store.specs.Store.{IfTold, Store}
use Rattle.spe_store.proofs.LeftLemmas.{keeps_cuts}
use Rattle.spe_store.proofs.store.Store.close.Goals as goal

pub returns-clause-cuts : goal.returns-clause-cuts
returns-clause-cuts g c =
    subst (λ (s : Store). IfTold (g.D.Disk.told c.into_disk.result) (λ h. CutsAreLeft g.N.Opening.opened h (entries_in s.events) (broken_in s.events))) c.self.view_is
    (subst (λ (t : Option History). IfTold t (λ h. CutsAreLeft g.N.Opening.opened h (entries_in c.self.inside.story.events) (broken_in c.self.inside.story.events))) (sym c.into_disk.ensures.told)
    (keeps_cuts _ _ c.self.inside.works.items c.self.inside.order c.self.invariant))
