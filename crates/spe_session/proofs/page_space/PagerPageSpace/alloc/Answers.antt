use Rattle.std.proofs.Common.{◌≡◌, ℕ, None, refl, subst, false}
use Rattle.spe_model.specs.Paging.{Agrees, Paging}
use Rattle.spe_space.specs.Calls.{sight}
use Rattle.spe_space.specs.Outcome.{OnFull}
use Rattle.spe_space.specs.Space.{Each}
use Rattle.spe_freelist.specs.Steps.{OnFault, OnFullOf, TakesNot}
use Rattle.spe_store.specs.Event.{seen_in}
use Rattle.spe_store.specs.Pass.{Pass}
use Rattle.spe_freelist.specs.Place.{IsLikelyOfTree, ListsStay, WhereListed}
use Rattle.spe_session.specs.contracts.paging.PagerPages.TheImpl.{ghosts}
use Rattle.std.specs.Prelude.{Err}
use Rattle.spe_session.specs.Lists.{next_in}
use Rattle.spe_session.specs.Facts.{some_agrees}
use Rattle.spe_session.proofs.AllocLemmas.{Spaces, alloc_fits}
use Rattle.spe_session.proofs.AnswerLemmas.{Changes, Takes, fail_free, fail_stands, front_each, laid_each, never_each, full_none, seen_each, sure_each, take_allots, take_counted, take_inside, take_next, take_stands}
use Rattle.spe_session.proofs.page_space.PagerPageSpace.alloc.Goals as goal

spaces : (g : _) (c : goal.In-Ok g) → Spaces (ghosts g.row.D g.row.N g.row.K g.D.Disk g.D.Disk-dict g.N.Opening g.N.Opening-dict g.K.Beginning g.K.Beginning-dict) g.K.Beginning.begun.first
spaces g c = record { free = λ s pages. refl; order = λ s pages o. o; stands = λ s pages o. o }

takes : (g : _) (c : goal.In-Ok g) → Takes (ghosts g.row.D g.row.N g.row.K g.D.Disk g.D.Disk-dict g.N.Opening g.N.Opening-dict g.K.Beginning g.K.Beginning-dict) g.K.Beginning.begun.first c.args.self.now c.alloc.new.space c.in-Ok.page
takes g c =
    let e = c.in-Ok.ensures in
    subst (λ (f : ℕ). Takes (ghosts g.row.D g.row.N g.row.K g.D.Disk g.D.Disk-dict g.N.Opening g.N.Opening-dict g.K.Beginning g.K.Beginning-dict) f c.args.self.now c.alloc.new.space c.in-Ok.page) c.args.self.now.own (record {
      changes = record { laid = e.laid; front = e.front; named = e.named refl; seen = e.seen; earlier = e.kept.earlier; used = e.kept.used; more = e.kept.count; counted = e.counted refl; grown = (e.alone refl).0 };
      put = e.put;
      taken = e.taken;
    })

pub returns-in-Ok-clause-next : goal.returns-in-Ok-clause-next
returns-in-Ok-clause-next g c = take_next (ghosts g.row.D g.row.N g.row.K g.D.Disk g.D.Disk-dict g.N.Opening g.N.Opening-dict g.K.Beginning g.K.Beginning-dict) g.K.Beginning.begun.first (spaces g c) c.args.self.now c.alloc.new.space c.in-Ok.page (takes g c)

pub returns-in-Ok-clause-ok : goal.returns-in-Ok-clause-ok
returns-in-Ok-clause-ok g c = take_allots (ghosts g.row.D g.row.N g.row.K g.D.Disk g.D.Disk-dict g.N.Opening g.N.Opening-dict g.K.Beginning g.K.Beginning-dict) g.K.Beginning.begun.first (spaces g c) c.args.self.now c.alloc.new.space c.in-Ok.page (takes g c)

pub returns-in-Ok-clause-inside : goal.returns-in-Ok-clause-inside
returns-in-Ok-clause-inside g c = take_inside (ghosts g.row.D g.row.N g.row.K g.D.Disk g.D.Disk-dict g.N.Opening g.N.Opening-dict g.K.Beginning g.K.Beginning-dict) g.K.Beginning.begun.first (spaces g c) c.args.self.now c.alloc.new.space c.in-Ok.page (takes g c)

pub returns-in-Ok-clause-stands : goal.returns-in-Ok-clause-stands
returns-in-Ok-clause-stands g c = take_stands (ghosts g.row.D g.row.N g.row.K g.D.Disk g.D.Disk-dict g.N.Opening g.N.Opening-dict g.K.Beginning g.K.Beginning-dict) g.K.Beginning.begun.first (spaces g c) c.args.self.now c.alloc.new.space c.in-Ok.page (takes g c)

pub returns-in-Ok-clause-laid : goal.returns-in-Ok-clause-laid
returns-in-Ok-clause-laid g c = laid_each (ghosts g.row.D g.row.N g.row.K g.D.Disk g.D.Disk-dict g.N.Opening g.N.Opening-dict g.K.Beginning g.K.Beginning-dict) g.K.Beginning.begun.first (spaces g c) c.args.self.now c.alloc.new.space (takes g c).changes

pub returns-in-Ok-clause-seen : goal.returns-in-Ok-clause-seen
returns-in-Ok-clause-seen g c = seen_each (ghosts g.row.D g.row.N g.row.K g.D.Disk g.D.Disk-dict g.N.Opening g.N.Opening-dict g.K.Beginning g.K.Beginning-dict) g.K.Beginning.begun.first (spaces g c) c.args.self.now c.alloc.new.space (takes g c).changes

pub returns-in-Ok-clause-front : goal.returns-in-Ok-clause-front
returns-in-Ok-clause-front g c = front_each (ghosts g.row.D g.row.N g.row.K g.D.Disk g.D.Disk-dict g.N.Opening g.N.Opening-dict g.K.Beginning g.K.Beginning-dict) g.K.Beginning.begun.first (spaces g c) c.args.self.now c.alloc.new.space (takes g c).changes

pub returns-in-Ok-clause-counted : goal.returns-in-Ok-clause-counted
returns-in-Ok-clause-counted g c = λ alone. take_counted (ghosts g.row.D g.row.N g.row.K g.D.Disk g.D.Disk-dict g.N.Opening g.N.Opening-dict g.K.Beginning g.K.Beginning-dict) g.K.Beginning.begun.first (spaces g c) c.args.self.now c.alloc.new.space c.in-Ok.page (takes g c)

spaces_failed : (g : _) (c : goal.In-Err-Space g) → Spaces (ghosts g.row.D g.row.N g.row.K g.D.Disk g.D.Disk-dict g.N.Opening g.N.Opening-dict g.K.Beginning g.K.Beginning-dict) g.K.Beginning.begun.first
spaces_failed g c = record { free = λ s pages. refl; order = λ s pages o. o; stands = λ s pages o. o }

changes : (g : _) (c : goal.In-Err-Space g) → Changes (ghosts g.row.D g.row.N g.row.K g.D.Disk g.D.Disk-dict g.N.Opening g.N.Opening-dict g.K.Beginning g.K.Beginning-dict) g.K.Beginning.begun.first c.args.self.now c.alloc.new.space
changes g c =
    let e = c.in-Err-Space.ensures in
    subst (λ (f : ℕ). Changes (ghosts g.row.D g.row.N g.row.K g.D.Disk g.D.Disk-dict g.N.Opening g.N.Opening-dict g.K.Beginning g.K.Beginning-dict) f c.args.self.now c.alloc.new.space) c.args.self.now.own
    (record { laid = e.laid; front = e.front; named = e.named refl; seen = e.seen; earlier = e.kept.earlier; used = e.kept.used; more = e.kept.count; counted = e.counted refl; grown = (e.alone refl).0 })

stay : (g : _) (c : goal.In-Err-Space g) → WhereListed (ghosts g.row.D g.row.N g.row.K g.D.Disk g.D.Disk-dict g.N.Opening g.N.Opening-dict g.K.Beginning g.K.Beginning-dict) c.args.self.now c.alloc.new.space g.K.Beginning.begun.first (λ pages place. ListsStay (ghosts g.row.D g.row.N g.row.K g.D.Disk g.D.Disk-dict g.N.Opening g.N.Opening-dict g.K.Beginning g.K.Beginning-dict) c.args.self.now c.alloc.new.space pages g.K.Beginning.begun.first place)
stay g c = subst (λ (f : ℕ). WhereListed (ghosts g.row.D g.row.N g.row.K g.D.Disk g.D.Disk-dict g.N.Opening g.N.Opening-dict g.K.Beginning g.K.Beginning-dict) c.args.self.now c.alloc.new.space f (λ pages place. ListsStay (ghosts g.row.D g.row.N g.row.K g.D.Disk g.D.Disk-dict g.N.Opening g.N.Opening-dict g.K.Beginning g.K.Beginning-dict) c.args.self.now c.alloc.new.space pages f place)) c.args.self.now.own c.in-Err-Space.ensures.stay

pub returns-in-Err-Space-clause-err : goal.returns-in-Err-Space-clause-err
returns-in-Err-Space-clause-err g c = fail_free (ghosts g.row.D g.row.N g.row.K g.D.Disk g.D.Disk-dict g.N.Opening g.N.Opening-dict g.K.Beginning g.K.Beginning-dict) g.K.Beginning.begun.first (spaces_failed g c) c.args.self.now c.alloc.new.space (changes g c) (stay g c)

pub returns-in-Err-Space-clause-stands : goal.returns-in-Err-Space-clause-stands
returns-in-Err-Space-clause-stands g c = fail_stands (ghosts g.row.D g.row.N g.row.K g.D.Disk g.D.Disk-dict g.N.Opening g.N.Opening-dict g.K.Beginning g.K.Beginning-dict) g.K.Beginning.begun.first (spaces_failed g c) c.args.self.now c.alloc.new.space (changes g c) (stay g c)

pub returns-in-Err-Space-clause-laid : goal.returns-in-Err-Space-clause-laid
returns-in-Err-Space-clause-laid g c = laid_each (ghosts g.row.D g.row.N g.row.K g.D.Disk g.D.Disk-dict g.N.Opening g.N.Opening-dict g.K.Beginning g.K.Beginning-dict) g.K.Beginning.begun.first (spaces_failed g c) c.args.self.now c.alloc.new.space (changes g c)

pub returns-in-Err-Space-clause-seen : goal.returns-in-Err-Space-clause-seen
returns-in-Err-Space-clause-seen g c = seen_each (ghosts g.row.D g.row.N g.row.K g.D.Disk g.D.Disk-dict g.N.Opening g.N.Opening-dict g.K.Beginning g.K.Beginning-dict) g.K.Beginning.begun.first (spaces_failed g c) c.args.self.now c.alloc.new.space (changes g c)

pub returns-in-Err-Space-clause-front : goal.returns-in-Err-Space-clause-front
returns-in-Err-Space-clause-front g c = front_each (ghosts g.row.D g.row.N g.row.K g.D.Disk g.D.Disk-dict g.N.Opening g.N.Opening-dict g.K.Beginning g.K.Beginning-dict) g.K.Beginning.begun.first (spaces_failed g c) c.args.self.now c.alloc.new.space (changes g c)

pub returns-in-Err-Space-clause-fault : goal.returns-in-Err-Space-clause-fault
returns-in-Err-Space-clause-fault g c =
    let t = c.alloc.new.space in
    let some = some_agrees t.clean (seen_in t.pass.done t.pass.id) t.seen in
    let e = c.in-Err-Space.ensures in
    alloc_fits (ghosts g.row.D g.row.N g.row.K g.D.Disk g.D.Disk-dict g.N.Opening g.N.Opening-dict g.K.Beginning g.K.Beginning-dict) c.args.self.now t c.args.self.now.first some.0 c.in-Err-Space.fault some.1 refl
    (subst (OnFault (TakesNot (ghosts g.row.D g.row.N g.row.K g.D.Disk g.D.Disk-dict g.N.Opening g.N.Opening-dict g.K.Beginning g.K.Beginning-dict) c.args.self.now t c.args.self.now.first) _) c.in-Err-Space.field-0-is e.fault)

pub returns-in-Err-Space-clause-full : goal.returns-in-Err-Space-clause-full
returns-in-Err-Space-clause-full g c =
    let t = c.alloc.new.space in
    subst (λ (f : ℕ). OnFull ((pages : Paging) → Agrees pages (seen_in t.pass.done t.pass.id) → next_in f (sight (ghosts g.row.D g.row.N g.row.K g.D.Disk g.D.Disk-dict g.N.Opening g.N.Opening-dict g.K.Beginning g.K.Beginning-dict) c.args.self.now pages) ≡ None) c.in-Err-Space.fault) c.args.self.now.own
    (full_none (ghosts g.row.D g.row.N g.row.K g.D.Disk g.D.Disk-dict g.N.Opening g.N.Opening-dict g.K.Beginning g.K.Beginning-dict) c.args.self.now.first c.args.self.now t c.in-Err-Space.fault refl
    (subst (OnFault (OnFullOf _) _) c.in-Err-Space.field-0-is c.in-Err-Space.ensures.full))

pub returns-in-Err-Space-clause-sure : goal.returns-in-Err-Space-clause-sure
returns-in-Err-Space-clause-sure g c =
    let t = c.alloc.new.space in
    sure_each ℕ (ghosts g.row.D g.row.N g.row.K g.D.Disk g.D.Disk-dict g.N.Opening g.N.Opening-dict g.K.Beginning g.K.Beginning-dict) g.K.Beginning.begun.first (spaces_failed g c) c.args.self.now t c.in-Err-Space.fault c.in-Err-Space.field-0 c.in-Err-Space.field-0-is
    (subst (λ (f : ℕ). WhereListed (ghosts g.row.D g.row.N g.row.K g.D.Disk g.D.Disk-dict g.N.Opening g.N.Opening-dict g.K.Beginning g.K.Beginning-dict) c.args.self.now t f (λ pages place. false ≡ false → IsLikelyOfTree {X = ℕ} (ghosts g.row.D g.row.N g.row.K g.D.Disk g.D.Disk-dict g.N.Opening g.N.Opening-dict g.K.Beginning g.K.Beginning-dict) t pages (Err c.in-Err-Space.field-0))) c.args.self.now.own c.in-Err-Space.ensures.likely)

none : (g : _) (c : goal.After-refuse g) → Each (ghosts g.row.D g.row.N g.row.K g.D.Disk g.D.Disk-dict g.N.Opening g.N.Opening-dict g.K.Beginning g.K.Beginning-dict) c.args.self.now c.refuse.new.self (λ pages. ⊥)
none g c = λ pages agrees stood.
    let t = c.alloc.new.space in
    never_each ℕ (ghosts g.row.D g.row.N g.row.K g.D.Disk g.D.Disk-dict g.N.Opening g.N.Opening-dict g.K.Beginning g.K.Beginning-dict) g.K.Beginning.begun.first (record { free = λ s pages. refl; order = λ s pages o. o; stands = λ s pages o. o }) c.args.self.now t c.in-Err-Corrupt.page c.in-Err-Corrupt.field-0 c.in-Err-Corrupt.field-0-is
    (subst (λ (f : ℕ). WhereListed (ghosts g.row.D g.row.N g.row.K g.D.Disk g.D.Disk-dict g.N.Opening g.N.Opening-dict g.K.Beginning g.K.Beginning-dict) c.args.self.now t f (λ pages place. false ≡ false → IsLikelyOfTree {X = ℕ} (ghosts g.row.D g.row.N g.row.K g.D.Disk g.D.Disk-dict g.N.Opening g.N.Opening-dict g.K.Beginning g.K.Beginning-dict) t pages (Err c.in-Err-Corrupt.field-0))) c.args.self.now.own c.in-Err-Corrupt.ensures.likely)
    refl pages (subst (λ (p : Pass). Agrees pages (seen_in p.done p.id)) c.refuse.ensures.pass agrees) stood

pub returns-in-Err-Corrupt-clause-err : goal.returns-in-Err-Corrupt-clause-err
returns-in-Err-Corrupt-clause-err g c = λ pages agrees stood. absurd (none g c pages agrees stood)

pub returns-in-Err-Corrupt-clause-stands : goal.returns-in-Err-Corrupt-clause-stands
returns-in-Err-Corrupt-clause-stands g c = λ pages agrees stood. absurd (none g c pages agrees stood)

pub returns-in-Err-Corrupt-clause-laid : goal.returns-in-Err-Corrupt-clause-laid
returns-in-Err-Corrupt-clause-laid g c = λ pages agrees stood. absurd (none g c pages agrees stood)

pub returns-in-Err-Corrupt-clause-seen : goal.returns-in-Err-Corrupt-clause-seen
returns-in-Err-Corrupt-clause-seen g c = λ pages agrees stood. absurd (none g c pages agrees stood)

pub returns-in-Err-Corrupt-clause-front : goal.returns-in-Err-Corrupt-clause-front
returns-in-Err-Corrupt-clause-front g c = λ pages agrees stood. absurd (none g c pages agrees stood)

pub returns-in-Err-Corrupt-clause-sure : goal.returns-in-Err-Corrupt-clause-sure
returns-in-Err-Corrupt-clause-sure g c = λ writable pages agrees stood. absurd (none g c pages agrees stood)
