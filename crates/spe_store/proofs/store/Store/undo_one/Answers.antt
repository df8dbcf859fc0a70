use Rattle.std.proofs.Common.{◌≡◌, List, ◌∷◌, [], refl, sym, ap, ◌∙◌, subst, arith, Some, inl, inr}
use Rattle.spe_store.specs.declared.work.Work.{Work}
use Rattle.spe_store.specs.Call.{AreToUndo, IsUndone, UndoesOne}
use Rattle.spe_store.specs.Event.{Event}
use Rattle.spe_store.specs.Event.Event.{Undone}
use Rattle.spe_store.specs.Pass.{OthersStay, Pass}
use Rattle.spe_store.specs.Saved.{saved_at}
use Rattle.spe_store.specs.Store.{Store}
use Rattle.spe_store.proofs.HeldLemmas.{listed}
use Rattle.spe_store.proofs.ListLemmas.{handed, read_at, same_read}
use Rattle.spe_store.proofs.PutLemmas.{undo_done, undo_refused}
use Rattle.spe_store.proofs.UndoLemmas.{left_is, none_left, none_undone, over_is, undone_listed, undone_others}
use Rattle.spe_store.proofs.store.Store.undo_one.Goals as goal

pub returns-in_default-last_changed-clause-undone : goal.returns-in_default-last_changed-clause-undone
returns-in_default-last_changed-clause-undone g c =
    let going = sym c.stopped.ensures ∙ c.in_default.is in
    let w = c.index-work.result.now in
    let found = read_at c.self.inside.works.items c.from.result c.pass.inside.id w c.from.ensures (omega (arith, c.self.invariant.all, c.pass.invariant)) c.index-work.ensures in
    let lists = listed _ _ c.self.inside.works.items c.self.inside.order c.self.invariant going c.pass.inside.id w found in
    handed (λ (s : Store) (p : Pass). UndoesOne s s p p) c.self.view_is c.pass.view_is
    (inl (none_undone c.self.inside.page_size c.self.inside.story.events c.pass.inside.id w lists c.in_default-last_changed.ensures, going, refl, refl))

pub returns-in_default-last_changed-clause-left : goal.returns-in_default-last_changed-clause-left
returns-in_default-last_changed-clause-left g c =
    let going = sym c.stopped.ensures ∙ c.in_default.is in
    let w = c.index-work.result.now in
    let found = read_at c.self.inside.works.items c.from.result c.pass.inside.id w c.from.ensures (omega (arith, c.self.invariant.all, c.pass.invariant)) c.index-work.ensures in
    let lists = listed _ _ c.self.inside.works.items c.self.inside.order c.self.invariant going c.pass.inside.id w found in
    handed (λ (s : Store) (p : Pass). AreToUndo s p.id 0) c.self.view_is c.pass.view_is
    (record { pages = []; each = none_left c.self.inside.page_size c.self.inside.story.events c.pass.inside.id w lists c.in_default-last_changed.ensures; count = refl })

pub returns-in_default-last_changed-clause-over : goal.returns-in_default-last_changed-clause-over
returns-in_default-last_changed-clause-over g c = λ zero_left.
    let going = sym c.stopped.ensures ∙ c.in_default.is in
    let w = c.index-work.result.now in
    let found = read_at c.self.inside.works.items c.from.result c.pass.inside.id w c.from.ensures (omega (arith, c.self.invariant.all, c.pass.invariant)) c.index-work.ensures in
    let lists = listed _ _ c.self.inside.works.items c.self.inside.order c.self.invariant going c.pass.inside.id w found in
    handed (λ (s : Store) (p : Pass). IsUndone s p.id) c.self.view_is c.pass.view_is
    (none_undone c.self.inside.page_size c.self.inside.story.events c.pass.inside.id w lists c.in_default-last_changed.ensures)

pub write_page-requires-clause-sized : goal.write_page-requires-clause-sized
write_page-requires-clause-sized g c =
    let going = sym c.stopped.ensures ∙ c.in_default.is in
    let w = c.index-work.result.now in
    let found = read_at c.self.inside.works.items c.from.result c.pass.inside.id w c.from.ensures (omega (arith, c.self.invariant.all, c.pass.invariant)) c.index-work.ensures in
    (listed _ _ c.self.inside.works.items c.self.inside.order c.self.invariant going c.pass.inside.id w found).sized c.in-Some-last_changed.page c.in-Some-last_changed.bytes.now c.in-Some-last_changed.ensures.1

pub invariant_of-self : goal.invariant_of-self
invariant_of-self g c =
    let w = c.index-work.result.now in
    let found = read_at c.self.inside.works.items c.from.result c.pass.inside.id w c.from.ensures (omega (arith, c.self.invariant.all, c.pass.invariant)) c.index-work.ensures in
    undo_refused _ _ c.self.inside.works.items c.self.inside.order c.self.invariant c.pass.inside.id c.pass.invariant w found c.in-Some-last_changed.page c.in-Some-last_changed.bytes.now c.write_page.new.self
    c.in-Some-last_changed.ensures.1 c.in-Err.stop c.in-Err.ensures.tried

pub invariant_of-self-2 : goal.invariant_of-self-2
invariant_of-self-2 g c =
    let works = c.self.inside.works.items in
    let w = c.index_mut-undone.result.now in
    let found = read_at works c.from-2.result c.pass.inside.id w c.from-2.ensures (omega (arith, c.self.invariant.all, c.pass.invariant)) c.index_mut-undone.ensures.value in
    let same : w ≡ c.index-work.result.now = same_read works c.from-2.result c.from.result c.pass.inside.id w c.index-work.result.now c.from-2.ensures c.from.ensures (omega (arith, c.self.invariant.all, c.pass.invariant)) c.index_mut-undone.ensures.value c.index-work.ensures in
    undo_done _ _ works c.self.inside.order c.self.invariant c.pass.inside.id c.pass.invariant w found c.in-Some-last_changed.page c.in-Some-last_changed.bytes.now c.write_page.new.self
    (subst (λ (v : Work). saved_at c.in-Some-last_changed.page v.saved ≡ Some c.in-Some-last_changed.bytes.now) (sym same) c.in-Some-last_changed.ensures.1)
    c.in-Ok.ensures.tried c.undid.new.self c.undid.ensures c.from-2.result c.from-2.ensures c.with-self-inside.result.events c.with-self-inside.ensures

pub returns-clause-undone : goal.returns-clause-undone
returns-clause-undone g c =
    let going = sym c.stopped.ensures ∙ c.in_default.is in
    let w = c.index-work.result.now in
    let found = read_at c.self.inside.works.items c.from.result c.pass.inside.id w c.from.ensures (omega (arith, c.self.invariant.all, c.pass.invariant)) c.index-work.ensures in
    let lists = listed _ _ c.self.inside.works.items c.self.inside.order c.self.invariant going c.pass.inside.id w found in
    let page = c.in-Some-last_changed.page in
    handed (λ (s : Store) (p : Pass). UndoesOne s (record { desk = c.write_page.new.self; events = c.with-self-inside.result.events; page_size = c.self.inside.page_size; count = c.self.inside.count }) p (record { id = c.pass.inside.id; done = c.with-pass-inside.result.events })) c.self.view_is c.pass.view_is
    (inr (record {
      page = page;
      bytes = c.in-Some-last_changed.bytes.now;
      saved = sym (lists.saved page) ∙ c.in-Some-last_changed.ensures.1;
      done = record {
        events = c.with-self-inside.ensures;
        pass = ap (λ (es : List Event). record { id = c.pass.inside.id; done = es }) c.with-pass-inside.ensures;
        sized = refl;
        counted = refl;
      };
      made = c.in-Ok.ensures.tried;
    }))

pub returns-clause-left : goal.returns-clause-left
returns-clause-left g c =
    let going = sym c.stopped.ensures ∙ c.in_default.is in
    let works = c.self.inside.works.items in
    let w = c.index_mut-undone.result.now in
    let found = read_at works c.from-2.result c.pass.inside.id w c.from-2.ensures (omega (arith, c.self.invariant.all, c.pass.invariant)) c.index_mut-undone.ensures.value in
    let same : w ≡ c.index-work.result.now = same_read works c.from-2.result c.from.result c.pass.inside.id w c.index-work.result.now c.from-2.ensures c.from.ensures (omega (arith, c.self.invariant.all, c.pass.invariant)) c.index_mut-undone.ensures.value c.index-work.ensures in
    let lists = undone_listed _ _ works c.self.inside.order c.self.invariant c.pass.inside.id c.pass.invariant w found c.in-Some-last_changed.page c.in-Some-last_changed.bytes.now c.write_page.new.self
    (subst (λ (v : Work). saved_at c.in-Some-last_changed.page v.saved ≡ Some c.in-Some-last_changed.bytes.now) (sym same) c.in-Some-last_changed.ensures.1) going c.undid.new.self c.undid.ensures in
    handed (λ (es : List Event) (p : Pass). AreToUndo (record { desk = c.write_page.new.self; events = es; page_size = c.self.inside.page_size; count = c.self.inside.count }) p.id c.changed_count-left.result) (sym c.with-self-inside.ensures) c.pass.view_is
    (record { pages = c.undid.new.self.saved.changed; each = left_is c.self.inside.page_size (Undone c.pass.inside.id c.in-Some-last_changed.page ∷ c.self.inside.story.events) c.pass.inside.id c.undid.new.self lists c.changed_count-left.ensures.each; count = c.changed_count-left.ensures.count })

pub returns-clause-over : goal.returns-clause-over
returns-clause-over g c = λ zero_left.
    let going = sym c.stopped.ensures ∙ c.in_default.is in
    let works = c.self.inside.works.items in
    let w = c.index_mut-undone.result.now in
    let found = read_at works c.from-2.result c.pass.inside.id w c.from-2.ensures (omega (arith, c.self.invariant.all, c.pass.invariant)) c.index_mut-undone.ensures.value in
    let same : w ≡ c.index-work.result.now = same_read works c.from-2.result c.from.result c.pass.inside.id w c.index-work.result.now c.from-2.ensures c.from.ensures (omega (arith, c.self.invariant.all, c.pass.invariant)) c.index_mut-undone.ensures.value c.index-work.ensures in
    let lists = undone_listed _ _ works c.self.inside.order c.self.invariant c.pass.inside.id c.pass.invariant w found c.in-Some-last_changed.page c.in-Some-last_changed.bytes.now c.write_page.new.self
    (subst (λ (v : Work). saved_at c.in-Some-last_changed.page v.saved ≡ Some c.in-Some-last_changed.bytes.now) (sym same) c.in-Some-last_changed.ensures.1) going c.undid.new.self c.undid.ensures in
    handed (λ (es : List Event) (p : Pass). IsUndone (record { desk = c.write_page.new.self; events = es; page_size = c.self.inside.page_size; count = c.self.inside.count }) p.id) (sym c.with-self-inside.ensures) c.pass.view_is
    (over_is c.self.inside.page_size (Undone c.pass.inside.id c.in-Some-last_changed.page ∷ c.self.inside.story.events) c.pass.inside.id c.undid.new.self lists c.changed_count-left.ensures.each (sym c.changed_count-left.ensures.count ∙ zero_left))

pub returns-clause-others : goal.returns-clause-others
returns-clause-others g c =
    handed (λ (s : Store) (p : Pass). OthersStay c.with-self-inside.result.events s.events p.id) c.self.view_is c.pass.view_is
    (subst (λ (es : List Event). OthersStay es c.self.inside.story.events c.pass.inside.id) (sym c.with-self-inside.ensures) (undone_others c.self.inside.story.events c.pass.inside.id c.in-Some-last_changed.page))
