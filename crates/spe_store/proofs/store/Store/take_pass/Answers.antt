use Rattle.std.proofs.Common.{◌≡◌, ℕ, ◌<◌, List, ◌∷◌, length, refl, sym, ap, ◌∙◌, subst, arith, false, Some, None}
use Rattle.spe_store.specs.declared.work.Work.{Work}
use Rattle.spe_store.specs.Call.{HasBegun, is_free}
use Rattle.spe_store.specs.Event.{Event}
use Rattle.spe_store.specs.Event.Event.{Begun}
use Rattle.spe_store.specs.Pass.{AreAlike}
use Rattle.spe_store.specs.Store.{Store}
use Rattle.spe_store.specs.Work.{free_place}
use Rattle.spe_store.proofs.FreeLemmas.{first_free, free_fits, none_free, spare_shut}
use Rattle.spe_store.proofs.HeldLemmas.{listed}
use Rattle.spe_store.proofs.ListLemmas.{handed, read_at}
use Rattle.spe_store.proofs.PoolLemmas.{begun_alike, begun_held, free_shut}
use Rattle.spe_store.proofs.store.Store.take_pass.Goals as goal

pub returns-in_default-free_id-clause-unbegun : goal.returns-in_default-free_id-clause-unbegun
returns-in_default-free_id-clause-unbegun g c =
    let going = sym c.stopped.ensures ∙ c.in_default.is in
    let lists = listed _ _ c.self.inside.works.items c.self.inside.order c.self.invariant going in
    let none : free_place c.self.inside.works.items ≡ None = ap free_place (sym c.as_slice.ensures.value) ∙ sym c.free_id.ensures.place ∙ c.in_default-free_id.is in
    subst (λ (s : Store). (s ≡ s) × (s.desk.stopped ≡ None) × ((i : ℕ) → i < 16 → is_free s.events i ≡ false)) c.self.view_is (
      refl,
      going,
      λ i low.
          none_free (is_free c.self.inside.story.events) c.self.inside.works.items (free_fits c.self.inside.page_size c.self.inside.story.events c.self.inside.works.items lists) none i (omega (arith, c.self.invariant.all, low)),
    )

pub invariant_of-self-2 : goal.invariant_of-self-2
invariant_of-self-2 g c =
    let going = sym c.stopped.ensures ∙ c.in_default.is in
    let works = c.self.inside.works.items in
    let id = c.in-Some-free_id.id in
    let w = c.index_mut.result.now in
    let within : id < length works = subst (λ (l : List Work). id < length l) c.as_slice.ensures.value c.in-Some-free_id.ensures.within in
    let low : id < 16 = omega (arith, within, c.self.invariant.all) in
    let found = read_at works c.from.result id w c.from.ensures within c.index_mut.ensures.value in
    let place : free_place works ≡ Some id = ap free_place (sym c.as_slice.ensures.value) ∙ sym c.free_id.ensures.place ∙ c.in-Some-free_id.is in
    let fits = free_fits c.self.inside.page_size c.self.inside.story.events works (listed _ _ works c.self.inside.order c.self.invariant going) in
    let first = first_free (is_free c.self.inside.story.events) works fits id place in
    begun_held _ _ works c.self.inside.order c.self.invariant going id low w found (spare_shut w (sym (fits id w found) ∙ first.0))
    c.begin.new.self c.begin.ensures c.reserve.new.self c.reserve.ensures.rows c.in-Ok.ensures.room c.from.result c.from.ensures c.with-self-inside.result.events c.with-self-inside.ensures

pub returns-clause-begun : goal.returns-clause-begun
returns-clause-begun g c =
    let going = sym c.stopped.ensures ∙ c.in_default.is in
    let works = c.self.inside.works.items in
    let id = c.in-Some-free_id.id in
    let place : free_place works ≡ Some id = ap free_place (sym c.as_slice.ensures.value) ∙ sym c.free_id.ensures.place ∙ c.in-Some-free_id.is in
    let fits = free_fits c.self.inside.page_size c.self.inside.story.events works (listed _ _ works c.self.inside.order c.self.invariant going) in
    let first = first_free (is_free c.self.inside.story.events) works fits id place in
    subst (λ (s : Store). HasBegun s (record { desk = c.self.inside.desk; events = c.with-self-inside.result.events; page_size = c.self.inside.page_size; count = c.self.inside.count }) (record { id = id; done = c.with-story.result.events })) c.self.view_is
    (record {
      going = going;
      free = first.0;
      lowest = first.1;
      done = c.with-story.ensures ∙ ap (λ (es : List Event). Begun id ∷ es) c.none.ensures;
      same = ap (λ (es : List Event). record { desk = c.self.inside.desk; events = es; page_size = c.self.inside.page_size; count = c.self.inside.count }) c.with-self-inside.ensures;
    })

pub returns-clause-tied : goal.returns-clause-tied
returns-clause-tied g c =
    let going = sym c.stopped.ensures ∙ c.in_default.is in
    let works = c.self.inside.works.items in
    let id = c.in-Some-free_id.id in
    let place : free_place works ≡ Some id = ap free_place (sym c.as_slice.ensures.value) ∙ sym c.free_id.ensures.place ∙ c.in-Some-free_id.is in
    let fits = free_fits c.self.inside.page_size c.self.inside.story.events works (listed _ _ works c.self.inside.order c.self.invariant going) in
    let first = first_free (is_free c.self.inside.story.events) works fits id place in
    handed (λ (one other : List Event). AreAlike one other id) (sym c.with-self-inside.ensures) (sym (c.with-story.ensures ∙ ap (λ (es : List Event). Begun id ∷ es) c.none.ensures))
    (begun_alike c.self.inside.story.events id (free_shut c.self.inside.story.events id first.0))
