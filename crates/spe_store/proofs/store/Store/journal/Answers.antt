use Rattle.std.proofs.Common.{refl, ◌≡◌, true, false, subst, sym, ap, ◌∙◌, ◌∷◌, [], ◌+◌, length, arith, List, ℕ, Option, Some, inl, inr}
use Rattle.spe_model.specs.Journal.{record_bytes}
use Rattle.spe_model.specs.declared.file.FileNo.TheVariants.{Journal}
use Rattle.spe_model.specs.Big.{u32_at}
use Rattle.spe_model.specs.Recovery.{journal_of}
use Rattle.spe_model.specs.Trace.{History, present}
use Rattle.spe_model.specs.Trace.Operation.{Write}
use Rattle.spe_transactions.specs.Kept.{grown}
use Rattle.spe_transactions.specs.Pages.{page_at}
use Rattle.spe_store.specs.Event.{Event, open_in}
use Rattle.spe_store.specs.Event.Event.{Journalled}
use Rattle.spe_store.specs.Call.{HasJournalled, MayJournal}
use Rattle.spe_store.specs.declared.work.Work.{Work}
use Rattle.spe_store.specs.Desk.{ReadsPage}
use Rattle.spe_store.specs.Pass.{Pass}
use Rattle.spe_store.specs.Saved.{Adds}
use Rattle.spe_store.specs.Store.{IfTold, Store, pages_in}
use Rattle.spe_store.proofs.HeldLemmas.{listed, looks_held}
use Rattle.spe_store.proofs.ListLemmas.{carried, handed, read_at, same_read}
use Rattle.spe_store.proofs.SaveLemmas.{journalled_is, save_done, save_made, save_own, save_refused}
use Rattle.spe_store.proofs.store.Store.journal.Goals as goal

pub returns-then-has-clause-done : goal.returns-then-has-clause-done
returns-then-has-clause-done g c =
    let found = read_at c.self.inside.works.items c.from.result c.pass.inside.id c.index-work.result.now c.from.ensures (omega (arith, c.self.invariant.all, c.pass.invariant)) c.index-work.ensures in
    let going = sym c.stopped.ensures ∙ c.in_default.is in
    handed (λ (s : Store) (p : Pass). HasJournalled g.N.Opening.opened s s p p c.args.page) c.self.view_is c.pass.view_is
    (inl (record {
      has = journalled_is _ _ _ c.index-work.result.now (listed _ _ c.self.inside.works.items c.self.inside.order c.self.invariant going c.pass.inside.id c.index-work.result.now found) c.args.page true c.if-has.ensures;
      going = going;
      same = refl;
      pass = refl;
    }))

pub invariant_of-self-in-Err-write : goal.invariant_of-self-in-Err-write
invariant_of-self-in-Err-write g c =
    let w = c.index-work.result.now in
    let found = read_at c.self.inside.works.items c.from.result c.pass.inside.id w c.from.ensures (omega (arith, c.self.invariant.all, c.pass.invariant)) c.index-work.ensures in
    let going = sym c.stopped.ensures ∙ c.in_default.is in
    let f = carried (λ (s : Store) (p : Pass). MayJournal s p.id c.args.page) c.self.view_is c.pass.view_is c.requires.may in
    let lacks = journalled_is _ _ _ w (listed _ _ c.self.inside.works.items c.self.inside.order c.self.invariant going c.pass.inside.id w found) c.args.page false c.if-has.ensures in
    let same : c.index_mut-work.result.now ≡ c.index-work.result.now =
    same_read c.self.inside.works.items c.from-2.result c.from.result c.pass.inside.id c.index_mut-work.result.now c.index-work.result.now c.from-2.ensures c.from.ensures (omega (arith, c.self.invariant.all, c.pass.invariant))
    c.index_mut-work.ensures.value c.index-work.ensures in
    save_refused _ _ c.self.inside.works.items c.self.inside.order (looks_held _ _ c.self.inside.works.items c.self.inside.order c.self.invariant c.entry_of.new.desk c.in-Ok.ensures.looks) c.pass.inside.id c.pass.invariant
    (carried (λ (s : Store) (p : Pass). open_in s.events p.id ≡ true) c.self.view_is c.pass.view_is c.requires.begun) c.args.page
    (record { low = f.low; high = f.high; others = f.others; fresh = f.fresh }) lacks w found c.in-Ok.entry.old
    (subst (λ (t : Option History). ReadsPage t c.self.inside.page_size c.args.page c.in-Ok.entry.old) (sym c.in-Ok.ensures.looks.told) c.in-Ok.ensures.read) c.in-Ok.ensures.sized
    c.deref.result.now (c.deref.ensures.value ∙ c.in-Ok.ensures.text)
    c.write.new.self c.in-Err-write.stop c.in-Err-write.ensures.tried c.from-2.result c.from-2.ensures _ (ap (λ (v : Work). v.due) same)

pub invariant_of-self-2 : goal.invariant_of-self-2
invariant_of-self-2 g c =
    let w = c.index-work.result.now in
    let found = read_at c.self.inside.works.items c.from.result c.pass.inside.id w c.from.ensures (omega (arith, c.self.invariant.all, c.pass.invariant)) c.index-work.ensures in
    let going = sym c.stopped.ensures ∙ c.in_default.is in
    let f = carried (λ (s : Store) (p : Pass). MayJournal s p.id c.args.page) c.self.view_is c.pass.view_is c.requires.may in
    let lacks = journalled_is _ _ _ w (listed _ _ c.self.inside.works.items c.self.inside.order c.self.invariant going c.pass.inside.id w found) c.args.page false c.if-has.ensures in
    let same : c.index_mut-work.result.now ≡ c.index-work.result.now =
    same_read c.self.inside.works.items c.from-2.result c.from.result c.pass.inside.id c.index_mut-work.result.now c.index-work.result.now c.from-2.ensures c.from.ensures (omega (arith, c.self.invariant.all, c.pass.invariant))
    c.index_mut-work.ensures.value c.index-work.ensures in
    save_done _ _ c.self.inside.works.items c.self.inside.order (looks_held _ _ c.self.inside.works.items c.self.inside.order c.self.invariant c.entry_of.new.desk c.in-Ok.ensures.looks) c.pass.inside.id c.pass.invariant
    (carried (λ (s : Store) (p : Pass). open_in s.events p.id ≡ true) c.self.view_is c.pass.view_is c.requires.begun) c.args.page
    (record { low = f.low; high = f.high; others = f.others; fresh = f.fresh }) lacks w found c.in-Ok.entry.old
    (subst (λ (t : Option History). ReadsPage t c.self.inside.page_size c.args.page c.in-Ok.entry.old) (sym c.in-Ok.ensures.looks.told) c.in-Ok.ensures.read) c.in-Ok.ensures.sized
    c.deref.result.now (c.deref.ensures.value ∙ c.in-Ok.ensures.text)
    c.write.new.self c.in-Ok-write.ensures.tried _
    (record {
      nonce = ap (λ (v : Work). v.nonce) same;
      end = c.in-Ok.ensures.end;
      own = ap (λ (v : Work). v.own) same;
      due = ap (λ (v : Work). v.due) same;
      out = ap (λ (v : Work). v.out) same;
      saved = subst (λ (v : Work). Adds c.args.page c.in-Ok.entry.old v.saved c.add.new.self) same c.in-Ok-add.ensures.ok;
    })
    c.from-2.result c.from-2.ensures c.with-story.result.events (c.with-story.ensures ∙ ap (λ (b : List ℕ). Journalled c.pass.inside.id c.args.page b ∷ c.self.inside.story.events) c.as_slice.ensures)

pub returns-clause-done : goal.returns-clause-done
returns-clause-done g c =
    let w = c.index-work.result.now in
    let found = read_at c.self.inside.works.items c.from.result c.pass.inside.id w c.from.ensures (omega (arith, c.self.invariant.all, c.pass.invariant)) c.index-work.ensures in
    let going = sym c.stopped.ensures ∙ c.in_default.is in
    let f = carried (λ (s : Store) (p : Pass). MayJournal s p.id c.args.page) c.self.view_is c.pass.view_is c.requires.may in
    let lacks = journalled_is _ _ _ w (listed _ _ c.self.inside.works.items c.self.inside.order c.self.invariant going c.pass.inside.id w found) c.args.page false c.if-has.ensures in
    let old = c.in-Ok.entry.old in
    let told = c.in-Ok.ensures.looks.told in
    let one = λ (es : List Event). ap (λ (b : List ℕ). Journalled c.pass.inside.id c.args.page b ∷ es) c.as_slice.ensures in
    handed (λ (s : Store) (p : Pass). HasJournalled g.N.Opening.opened s (record { desk = c.write.new.self; events = c.with-story.result.events; page_size = c.self.inside.page_size; count = c.self.inside.count }) p (record { id = c.pass.inside.id; done = c.with-own.result.events }) c.args.page) c.self.view_is c.pass.view_is
    (inr (record {
      bytes = old;
      lacks = lacks;
      own = subst (λ (t : Option History). IfTold t (λ h. page_at (pages_in g.N.Opening.opened c.self.inside.story.events) c.args.page ≡ Some old)) told (save_own _ _ c.self.inside.works.items c.self.inside.order (looks_held _ _ c.self.inside.works.items c.self.inside.order c.self.invariant c.entry_of.new.desk c.in-Ok.ensures.looks) c.pass.inside.id c.pass.invariant
          (carried (λ (s : Store) (p : Pass). open_in s.events p.id ≡ true) c.self.view_is c.pass.view_is c.requires.begun) c.args.page
          (record { low = f.low; high = f.high; others = f.others; fresh = f.fresh }) lacks w found c.in-Ok.entry.old
          (subst (λ (t : Option History). ReadsPage t c.self.inside.page_size c.args.page c.in-Ok.entry.old) (sym c.in-Ok.ensures.looks.told) c.in-Ok.ensures.read) c.in-Ok.ensures.sized
          c.deref.result.now (c.deref.ensures.value ∙ c.in-Ok.ensures.text) (c.in-Ok.ensures.looks.stopped ∙ going));
      done = record {
        events = c.with-story.ensures ∙ one c.self.inside.story.events;
        pass = ap (λ (es : List Event). record { id = c.pass.inside.id; done = es }) (c.with-own.ensures ∙ one c.pass.inside.story.events);
        sized = refl;
        counted = refl;
      };
      going = c.in-Ok-write.ensures.tried.still;
      ops = c.in-Ok-write.ensures.tried.ops ∙ ap (λ (n : ℕ). n + 1) c.in-Ok.ensures.looks.ops;
      made = subst (λ (t : Option History). IfTold t (λ h. c.write.new.self.told ≡ Some (grown h (Write (Journal c.pass.inside.id) (length (journal_of (present h) c.pass.inside.id)) (record_bytes (u32_at (journal_of (present h) c.pass.inside.id) 12) c.args.page old) ∷ [])))) told
          (save_made _ _ c.self.inside.works.items c.self.inside.order (looks_held _ _ c.self.inside.works.items c.self.inside.order c.self.invariant c.entry_of.new.desk c.in-Ok.ensures.looks) c.pass.inside.id c.pass.invariant
          (carried (λ (s : Store) (p : Pass). open_in s.events p.id ≡ true) c.self.view_is c.pass.view_is c.requires.begun) c.args.page
          (record { low = f.low; high = f.high; others = f.others; fresh = f.fresh }) lacks w found c.in-Ok.entry.old
          (subst (λ (t : Option History). ReadsPage t c.self.inside.page_size c.args.page c.in-Ok.entry.old) (sym c.in-Ok.ensures.looks.told) c.in-Ok.ensures.read) c.in-Ok.ensures.sized
          c.deref.result.now (c.deref.ensures.value ∙ c.in-Ok.ensures.text) c.write.new.self c.in-Ok-write.ensures.tried);
    }))
