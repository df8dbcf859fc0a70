use Rattle.std.proofs.Common.{subst}
use Rattle.std.specs.Prelude.{◌≡◌, None}
use Rattle.spe_store.specs.Call.{KeepsCuts, KeepsPages}
use Rattle.spe_store.specs.Event.{broken_in}
use Rattle.spe_store.specs.Store.{IsOf, Store}
use Rattle.spe_store.proofs.LeftLemmas.{keeps_cuts, keeps_pages, keeps_unbroken}
use Rattle.spe_store.proofs.store.Store.keeps.Goals as goal

pub returns : goal.returns
returns g c = record {
  disk = subst (λ (s : Store). IsOf g.N.Opening.opened s.desk) c.self.view_is c.self.invariant.of;
  cuts = subst (KeepsCuts g.N.Opening.opened) c.self.view_is (keeps_cuts _ _ c.self.inside.works.items c.self.inside.order c.self.invariant);
  pages = subst (KeepsPages g.N.Opening.opened) c.self.view_is (keeps_pages _ _ c.self.inside.works.items c.self.inside.order c.self.invariant);
  unbroken = subst (λ (s : Store). s.desk.stopped ≡ None → broken_in s.events ≡ None) c.self.view_is (keeps_unbroken _ _ c.self.inside.works.items c.self.inside.order c.self.invariant);
  sized = subst (λ (s : Store). s.page_size ≡ g.N.Opening.opened.found.page_size) c.self.view_is c.self.invariant.found;
}
