use Rattle.std.proofs.Common.{◌≡◌, ◌∙◌, ℕ, arith, subst, sym, true}
use Rattle.spe_transactions.specs.Work.{has_page}
use Rattle.spe_store.specs.Event.{journalled_in}
use Rattle.spe_session.specs.Alone.{IsAlone}
use Rattle.spe_session.specs.Working.{Saves}
use Rattle.spe_session.proofs.CauseLemmas.{from_earlier}
use Rattle.spe_session.proofs.WorkingLemmas.{saved_more, saves_both}
use Rattle.spe_session.proofs.saving.save_pages.Goals as goal

pub save_page-requires-clause-alone : goal.save_page-requires-clause-alone
save_page-requires-clause-alone g c =
    let i = c.loop-page.invariant in
    subst (IsAlone c.loop-page.store.events) (sym i.id) (i.saves.carries.alone c.requires.alone)

pub returns-in-Err-clause-saves : goal.returns-in-Err-clause-saves
returns-in-Err-clause-saves g c =
    let i = c.loop-page.invariant in
    saves_both c.args.pass.now.id c.args.store.now.events c.loop-page.store.events c.save_page.new.store.events i.saves
    (subst (λ (id : ℕ). Saves id c.loop-page.store.events c.save_page.new.store.events) i.id c.save_page.ensures.saves)

pub returns-in-Err-clause-reads : goal.returns-in-Err-clause-reads
returns-in-Err-clause-reads g c = from_earlier c.args.store.now.desk.reads c.loop-page.store.desk.reads c.save_page.new.store.desk.reads c.in-Err.fault c.loop-page.invariant.reads c.in-Err.ensures.reads

pub returns-in-Err-clause-later : goal.returns-in-Err-clause-later
returns-in-Err-clause-later g c = omega (arith, c.loop-page.invariant.reads, c.save_page.ensures.later)

pub loop-page-preserved : goal.loop-page-preserved
loop-page-preserved g c =
    let i = c.loop-page.invariant in
    let e = c.in-Ok.ensures in
    let id = c.args.pass.now.id in
    let now = c.save_page.new.store.events in
    let saves : Saves id c.loop-page.store.events now = subst (λ (n : ℕ). Saves n c.loop-page.store.events now) i.id e.saves in
    record {
      tied = e.tied;
      going = e.going;
      saves = saves_both id c.args.store.now.events c.loop-page.store.events now i.saves saves;
      saved = saved_more c.loop-page.next c.in-Some.page c.count-count.result c.args.dirty.now c.loop-page.store.events now id i.saved saves
          (subst (λ (n : ℕ). has_page (journalled_in now) n c.in-Some.page ≡ true) i.id e.saved)
          c.in-Some.ensures.3;
      id = e.id ∙ i.id;
      sized = e.sized ∙ i.sized;
      counted = e.counted ∙ i.counted;
      reads = omega (arith, i.reads, e.later);
      same = i.same;
      some = omega arith;
      within = omega (arith, c.in-Some.ensures.1);
    }
