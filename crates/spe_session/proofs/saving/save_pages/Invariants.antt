use Rattle.std.proofs.Common.{◌≡◌, ◌≤◌, ◌+◌, ◌-◌, None}
use Rattle.spe_store.specs.Call.{IsTied}
use Rattle.spe_session.specs.Working.{AreSaved, Saves}
use Rattle.spe_session.proofs.saving.save_pages.Given as goal

abbrev pub invariant-loop-page : goal.invariant-loop-page
invariant-loop-page g l = record {
  tied : IsTied l.store l.pass;
  going : l.store.desk.stopped ≡ None;
  saves : Saves l.fn.pass.id l.fn.store.events l.store.events;
  saved : AreSaved l.next l.count l.dirty l.store.events l.fn.pass.id;
  id : l.pass.id ≡ l.fn.pass.id;
  sized : l.store.page_size ≡ l.fn.store.page_size;
  counted : l.store.count ≡ l.fn.store.count;
  reads : l.fn.store.desk.reads ≤ l.store.desk.reads;
  same : l.count ≡ l.fn.store.count;
  some : 1 ≤ l.next;
  within : l.next ≤ l.count + 1;
}

abbrev pub decreases-loop-page : goal.decreases-loop-page
decreases-loop-page g l = l.count + 1 - l.next
