use Rattle.std.proofs.Common.{◌≡◌, ◌≤◌, ◌+◌, ◌-◌, None}
use Rattle.spe_store.specs.Call.{IsTied}
use Rattle.spe_store.specs.Event.{written_in}
use Rattle.spe_session.specs.Pages.{laid_in}
use Rattle.spe_session.specs.Working.{IsWrittenTo, Writes}
use Rattle.spe_session.proofs.writing.write_added.Given as goal

abbrev pub invariant-loop-page : goal.invariant-loop-page
invariant-loop-page g l = record {
  tied : IsTied l.store l.pass;
  going : l.store.desk.stopped ≡ None;
  writes : Writes l.fn.pass.id l.fn.store.events l.store.events;
  written : IsWrittenTo (l.page + 1) (laid_in l.fn.store.count l.pages l.fn.store.page_size l.dirty) (written_in l.store.events l.fn.pass.id);
  id : l.pass.id ≡ l.fn.pass.id;
  sized : l.store.page_size ≡ l.fn.store.page_size;
  counted : l.store.count ≡ l.fn.store.count;
  above : l.fn.store.count ≤ l.page;
  within : l.page ≤ l.pages;
}

abbrev pub decreases-loop-page : goal.decreases-loop-page
decreases-loop-page g l = l.pages - l.page
