use Rattle.std.proofs.Common.{ap, ◌≡◌, ℕ, refl, subst, false}
use Rattle.spe_model.specs.Paging.{Agrees}
use Rattle.spe_space.specs.Space.{Each}
use Rattle.spe_space.specs.declared.fault.TreeFault.{TreeFault}
use Rattle.spe_store.specs.Event.{seen_in}
use Rattle.spe_store.specs.Pass.{Pass}
use Rattle.spe_freelist.specs.Place.{ListsStay, WhereListed}
use Rattle.spe_session.specs.contracts.paging.PagerPages.TheImpl.{ghosts}
use Rattle.spe_space.specs.Space.{MayBeFreed}
use Rattle.spe_space.specs.Calls.{sight}
use Rattle.spe_space.specs.Front.{number_in}
use Rattle.spe_space.specs.Outcome.{IsSure}
use Rattle.spe_freelist.specs.Lists.{freed}
use Rattle.spe_freelist.specs.Place.{IsSureOfTree, LeavesLists, MayBeGiven, trunks_of}
use Rattle.spe_store.specs.Store.{Store}
use Rattle.spe_space.specs.Space.{IsForFree}
use Rattle.spe_session.specs.Pages.{laid_in}
use Rattle.spe_session.proofs.PageLemmas.{differ_same, laid_alike}
use Rattle.spe_session.proofs.AllocLemmas.{Spaces}
use Rattle.spe_session.proofs.AnswerLemmas.{Gives, give_freed, give_laid, give_seen, give_stands, ungiven_free, ungiven_likely, ungiven_stands}
use Rattle.spe_session.proofs.page_space.PagerPageSpace.free.Goals as goal

spaces : (g : _) (c : goal.In-Ok g) → Spaces (ghosts g.row.D g.row.N g.row.K g.D.Disk g.D.Disk-dict g.N.Opening g.N.Opening-dict g.K.Beginning g.K.Beginning-dict) g.K.Beginning.begun.first
spaces g c = record { free = λ s pages. refl; order = λ s pages o. o; stands = λ s pages o. o }

gives : (g : _) (c : goal.In-Ok g) → Gives (ghosts g.row.D g.row.N g.row.K g.D.Disk g.D.Disk-dict g.N.Opening g.N.Opening-dict g.K.Beginning g.K.Beginning-dict) g.K.Beginning.begun.first c.args.self.now c.free.new.space c.args.page
gives g c =
    let e = c.in-Ok.ensures in
    subst (λ (f : ℕ). Gives (ghosts g.row.D g.row.N g.row.K g.D.Disk g.D.Disk-dict g.N.Opening g.N.Opening-dict g.K.Beginning g.K.Beginning-dict) f c.args.self.now c.free.new.space c.args.page) c.args.self.now.own (record { laid = e.laid; only = e.only; used = e.kept.used; count = (e.alone refl).0 })

leaves : (g : _) (c : goal.In-Ok g) → WhereListed (ghosts g.row.D g.row.N g.row.K g.D.Disk g.D.Disk-dict g.N.Opening g.N.Opening-dict g.K.Beginning g.K.Beginning-dict) c.args.self.now c.free.new.space g.K.Beginning.begun.first (λ pages place. MayBeGiven (ghosts g.row.D g.row.N g.row.K g.D.Disk g.D.Disk-dict g.N.Opening g.N.Opening-dict g.K.Beginning g.K.Beginning-dict) c.args.self.now pages g.K.Beginning.begun.first c.args.page place
    → LeavesLists (ghosts g.row.D g.row.N g.row.K g.D.Disk g.D.Disk-dict g.N.Opening g.N.Opening-dict g.K.Beginning g.K.Beginning-dict) c.args.self.now c.free.new.space pages g.K.Beginning.begun.first place (freed c.args.self.now.usable c.args.page (trunks_of (ghosts g.row.D g.row.N g.row.K g.D.Disk g.D.Disk-dict g.N.Opening g.N.Opening-dict g.K.Beginning g.K.Beginning-dict) c.args.self.now pages place)))
leaves g c = subst (λ (f : ℕ). WhereListed (ghosts g.row.D g.row.N g.row.K g.D.Disk g.D.Disk-dict g.N.Opening g.N.Opening-dict g.K.Beginning g.K.Beginning-dict) c.args.self.now c.free.new.space f (λ pages place. MayBeGiven (ghosts g.row.D g.row.N g.row.K g.D.Disk g.D.Disk-dict g.N.Opening g.N.Opening-dict g.K.Beginning g.K.Beginning-dict) c.args.self.now pages f c.args.page place
    → LeavesLists (ghosts g.row.D g.row.N g.row.K g.D.Disk g.D.Disk-dict g.N.Opening g.N.Opening-dict g.K.Beginning g.K.Beginning-dict) c.args.self.now c.free.new.space pages f place (freed c.args.self.now.usable c.args.page (trunks_of (ghosts g.row.D g.row.N g.row.K g.D.Disk g.D.Disk-dict g.N.Opening g.N.Opening-dict g.K.Beginning g.K.Beginning-dict) c.args.self.now pages place)))) c.args.self.now.own c.in-Ok.ensures.freed

pub returns-in-Ok-clause-ok : goal.returns-in-Ok-clause-ok
returns-in-Ok-clause-ok g c = give_freed (ghosts g.row.D g.row.N g.row.K g.D.Disk g.D.Disk-dict g.N.Opening g.N.Opening-dict g.K.Beginning g.K.Beginning-dict) g.K.Beginning.begun.first (spaces g c) c.args.self.now c.free.new.space c.args.page (gives g c) (leaves g c)

pub returns-in-Ok-clause-stands : goal.returns-in-Ok-clause-stands
returns-in-Ok-clause-stands g c = give_stands (ghosts g.row.D g.row.N g.row.K g.D.Disk g.D.Disk-dict g.N.Opening g.N.Opening-dict g.K.Beginning g.K.Beginning-dict) g.K.Beginning.begun.first (spaces g c) c.args.self.now c.free.new.space c.args.page (gives g c) (leaves g c)

pub returns-in-Ok-clause-laid : goal.returns-in-Ok-clause-laid
returns-in-Ok-clause-laid g c = give_laid (ghosts g.row.D g.row.N g.row.K g.D.Disk g.D.Disk-dict g.N.Opening g.N.Opening-dict g.K.Beginning g.K.Beginning-dict) g.K.Beginning.begun.first (spaces g c) c.args.self.now c.free.new.space c.args.page (gives g c)

pub returns-in-Ok-clause-seen : goal.returns-in-Ok-clause-seen
returns-in-Ok-clause-seen g c = give_seen (ghosts g.row.D g.row.N g.row.K g.D.Disk g.D.Disk-dict g.N.Opening g.N.Opening-dict g.K.Beginning g.K.Beginning-dict) g.K.Beginning.begun.first (spaces g c) c.args.self.now c.free.new.space c.args.page (gives g c)

spaces_failed : (g : _) (c : goal.In-Err-Space g) → Spaces (ghosts g.row.D g.row.N g.row.K g.D.Disk g.D.Disk-dict g.N.Opening g.N.Opening-dict g.K.Beginning g.K.Beginning-dict) g.K.Beginning.begun.first
spaces_failed g c = record { free = λ s pages. refl; order = λ s pages o. o; stands = λ s pages o. o }

gives_failed : (g : _) (c : goal.In-Err-Space g) → Gives (ghosts g.row.D g.row.N g.row.K g.D.Disk g.D.Disk-dict g.N.Opening g.N.Opening-dict g.K.Beginning g.K.Beginning-dict) g.K.Beginning.begun.first c.args.self.now c.free.new.space c.args.page
gives_failed g c =
    let e = c.in-Err-Space.ensures in
    subst (λ (f : ℕ). Gives (ghosts g.row.D g.row.N g.row.K g.D.Disk g.D.Disk-dict g.N.Opening g.N.Opening-dict g.K.Beginning g.K.Beginning-dict) f c.args.self.now c.free.new.space c.args.page) c.args.self.now.own (record { laid = e.laid; only = e.only; used = e.kept.used; count = (e.alone refl).0 })

stay : (g : _) (c : goal.In-Err-Space g) → WhereListed (ghosts g.row.D g.row.N g.row.K g.D.Disk g.D.Disk-dict g.N.Opening g.N.Opening-dict g.K.Beginning g.K.Beginning-dict) c.args.self.now c.free.new.space g.K.Beginning.begun.first (λ pages place. MayBeGiven (ghosts g.row.D g.row.N g.row.K g.D.Disk g.D.Disk-dict g.N.Opening g.N.Opening-dict g.K.Beginning g.K.Beginning-dict) c.args.self.now pages g.K.Beginning.begun.first c.args.page place
    → ListsStay (ghosts g.row.D g.row.N g.row.K g.D.Disk g.D.Disk-dict g.N.Opening g.N.Opening-dict g.K.Beginning g.K.Beginning-dict) c.args.self.now c.free.new.space pages g.K.Beginning.begun.first place)
stay g c = subst (λ (f : ℕ). WhereListed (ghosts g.row.D g.row.N g.row.K g.D.Disk g.D.Disk-dict g.N.Opening g.N.Opening-dict g.K.Beginning g.K.Beginning-dict) c.args.self.now c.free.new.space f (λ pages place. MayBeGiven (ghosts g.row.D g.row.N g.row.K g.D.Disk g.D.Disk-dict g.N.Opening g.N.Opening-dict g.K.Beginning g.K.Beginning-dict) c.args.self.now pages f c.args.page place
    → ListsStay (ghosts g.row.D g.row.N g.row.K g.D.Disk g.D.Disk-dict g.N.Opening g.N.Opening-dict g.K.Beginning g.K.Beginning-dict) c.args.self.now c.free.new.space pages f place)) c.args.self.now.own c.in-Err-Space.ensures.stay

pub returns-in-Err-Space-clause-err : goal.returns-in-Err-Space-clause-err
returns-in-Err-Space-clause-err g c = ungiven_free (ghosts g.row.D g.row.N g.row.K g.D.Disk g.D.Disk-dict g.N.Opening g.N.Opening-dict g.K.Beginning g.K.Beginning-dict) g.K.Beginning.begun.first (spaces_failed g c) c.args.self.now c.free.new.space c.args.page (gives_failed g c) (stay g c)

pub returns-in-Err-Space-clause-stands : goal.returns-in-Err-Space-clause-stands
returns-in-Err-Space-clause-stands g c = ungiven_stands (ghosts g.row.D g.row.N g.row.K g.D.Disk g.D.Disk-dict g.N.Opening g.N.Opening-dict g.K.Beginning g.K.Beginning-dict) g.K.Beginning.begun.first (spaces_failed g c) c.args.self.now c.free.new.space c.args.page (gives_failed g c) (stay g c)

pub returns-in-Err-Space-clause-laid : goal.returns-in-Err-Space-clause-laid
returns-in-Err-Space-clause-laid g c = give_laid (ghosts g.row.D g.row.N g.row.K g.D.Disk g.D.Disk-dict g.N.Opening g.N.Opening-dict g.K.Beginning g.K.Beginning-dict) g.K.Beginning.begun.first (spaces_failed g c) c.args.self.now c.free.new.space c.args.page (gives_failed g c)

pub returns-in-Err-Space-clause-seen : goal.returns-in-Err-Space-clause-seen
returns-in-Err-Space-clause-seen g c = give_seen (ghosts g.row.D g.row.N g.row.K g.D.Disk g.D.Disk-dict g.N.Opening g.N.Opening-dict g.K.Beginning g.K.Beginning-dict) g.K.Beginning.begun.first (spaces_failed g c) c.args.self.now c.free.new.space c.args.page (gives_failed g c)

pub returns-in-Err-Space-clause-sure : goal.returns-in-Err-Space-clause-sure
returns-in-Err-Space-clause-sure g c = λ writable. ungiven_likely (ghosts g.row.D g.row.N g.row.K g.D.Disk g.D.Disk-dict g.N.Opening g.N.Opening-dict g.K.Beginning g.K.Beginning-dict) g.K.Beginning.begun.first (spaces_failed g c) c.args.self.now c.free.new.space c.args.page (gives_failed g c)
    (λ pages. IsSure (number_in (sight (ghosts g.row.D g.row.N g.row.K g.D.Disk g.D.Disk-dict g.N.Opening g.N.Opening-dict g.K.Beginning g.K.Beginning-dict) c.free.new.space pages)) c.in-Err-Space.fault)
    (λ pages agrees stood place may. subst (λ (t : TreeFault). IsSureOfTree (number_in (sight (ghosts g.row.D g.row.N g.row.K g.D.Disk g.D.Disk-dict g.N.Opening g.N.Opening-dict g.K.Beginning g.K.Beginning-dict) c.free.new.space pages)) t) c.in-Err-Space.field-0-is
    (subst (λ (f : ℕ). WhereListed (ghosts g.row.D g.row.N g.row.K g.D.Disk g.D.Disk-dict g.N.Opening g.N.Opening-dict g.K.Beginning g.K.Beginning-dict) c.args.self.now c.free.new.space f (λ pages place. false ≡ false → MayBeGiven (ghosts g.row.D g.row.N g.row.K g.D.Disk g.D.Disk-dict g.N.Opening g.N.Opening-dict g.K.Beginning g.K.Beginning-dict) c.args.self.now pages f c.args.page place
    → IsSureOfTree (number_in (sight (ghosts g.row.D g.row.N g.row.K g.D.Disk g.D.Disk-dict g.N.Opening g.N.Opening-dict g.K.Beginning g.K.Beginning-dict) c.free.new.space pages)) c.in-Err-Space.field-0)) c.args.self.now.own c.in-Err-Space.ensures.likely pages agrees stood place refl may))

spaces_damaged : (g : _) (c : goal.After-refuse-in-Err-Corrupt g) → Spaces (ghosts g.row.D g.row.N g.row.K g.D.Disk g.D.Disk-dict g.N.Opening g.N.Opening-dict g.K.Beginning g.K.Beginning-dict) g.K.Beginning.begun.first
spaces_damaged g c = record { free = λ s pages. refl; order = λ s pages o. o; stands = λ s pages o. o }

gives_damaged : (g : _) (c : goal.After-refuse-in-Err-Corrupt g) → Gives (ghosts g.row.D g.row.N g.row.K g.D.Disk g.D.Disk-dict g.N.Opening g.N.Opening-dict g.K.Beginning g.K.Beginning-dict) g.K.Beginning.begun.first c.args.self.now c.free.new.space c.args.page
gives_damaged g c =
    let e = c.in-Err-Corrupt.ensures in
    subst (λ (f : ℕ). Gives (ghosts g.row.D g.row.N g.row.K g.D.Disk g.D.Disk-dict g.N.Opening g.N.Opening-dict g.K.Beginning g.K.Beginning-dict) f c.args.self.now c.free.new.space c.args.page) c.args.self.now.own (record { laid = e.laid; only = e.only; used = e.kept.used; count = (e.alone refl).0 })

none : (g : _) (c : goal.After-refuse-in-Err-Corrupt g) → Each (ghosts g.row.D g.row.N g.row.K g.D.Disk g.D.Disk-dict g.N.Opening g.N.Opening-dict g.K.Beginning g.K.Beginning-dict) c.args.self.now c.refuse-in-Err-Corrupt.new.self (λ pages. MayBeFreed (ghosts g.row.D g.row.N g.row.K g.D.Disk g.D.Disk-dict g.N.Opening g.N.Opening-dict g.K.Beginning g.K.Beginning-dict) c.args.self.now c.args.page pages → ⊥)
none g c = λ pages agrees stood may. ungiven_likely (ghosts g.row.D g.row.N g.row.K g.D.Disk g.D.Disk-dict g.N.Opening g.N.Opening-dict g.K.Beginning g.K.Beginning-dict) g.K.Beginning.begun.first (spaces_damaged g c) c.args.self.now c.free.new.space c.args.page (gives_damaged g c) (λ pages. ⊥)
    (λ pages agrees stood place may. subst (λ (t : TreeFault). IsSureOfTree (number_in (sight (ghosts g.row.D g.row.N g.row.K g.D.Disk g.D.Disk-dict g.N.Opening g.N.Opening-dict g.K.Beginning g.K.Beginning-dict) c.free.new.space pages)) t) c.in-Err-Corrupt.field-0-is
    (subst (λ (f : ℕ). WhereListed (ghosts g.row.D g.row.N g.row.K g.D.Disk g.D.Disk-dict g.N.Opening g.N.Opening-dict g.K.Beginning g.K.Beginning-dict) c.args.self.now c.free.new.space f (λ pages place. false ≡ false → MayBeGiven (ghosts g.row.D g.row.N g.row.K g.D.Disk g.D.Disk-dict g.N.Opening g.N.Opening-dict g.K.Beginning g.K.Beginning-dict) c.args.self.now pages f c.args.page place
    → IsSureOfTree (number_in (sight (ghosts g.row.D g.row.N g.row.K g.D.Disk g.D.Disk-dict g.N.Opening g.N.Opening-dict g.K.Beginning g.K.Beginning-dict) c.free.new.space pages)) c.in-Err-Corrupt.field-0)) c.args.self.now.own c.in-Err-Corrupt.ensures.likely pages agrees stood place refl may))
    pages (subst (λ (p : Pass). Agrees pages (seen_in p.done p.id)) c.refuse-in-Err-Corrupt.ensures.pass agrees) stood may

pub returns-in-Err-Corrupt-clause-err : goal.returns-in-Err-Corrupt-clause-err
returns-in-Err-Corrupt-clause-err g c = λ pages agrees stood may. absurd (none g c pages agrees stood may)

pub returns-in-Err-Corrupt-clause-stands : goal.returns-in-Err-Corrupt-clause-stands
returns-in-Err-Corrupt-clause-stands g c = λ pages agrees stood may. absurd (none g c pages agrees stood may)

pub returns-in-Err-Corrupt-clause-laid : goal.returns-in-Err-Corrupt-clause-laid
returns-in-Err-Corrupt-clause-laid g c = λ pages agrees stood.
    let s = c.args.self.now in
    let t = c.free.new.space in
    let r = c.refuse-in-Err-Corrupt.new.self in
    let e = c.refuse-in-Err-Corrupt.ensures in
    differ_same (laid_in s.store.count s.pages s.size s.dirty) (laid_in t.store.count t.pages t.size t.dirty) (laid_in r.store.count r.pages r.size r.dirty) (IsForFree (ghosts g.row.D g.row.N g.row.K g.D.Disk g.D.Disk-dict g.N.Opening g.N.Opening-dict g.K.Beginning g.K.Beginning-dict) s c.args.page pages)
    (laid_alike t.store.count r.store.count t.pages r.pages t.size r.size t.dirty r.dirty (ap (λ (x : Store). x.count) e.store) e.pages e.size e.dirty)
    (give_laid (ghosts g.row.D g.row.N g.row.K g.D.Disk g.D.Disk-dict g.N.Opening g.N.Opening-dict g.K.Beginning g.K.Beginning-dict) g.K.Beginning.begun.first (spaces_damaged g c) s t c.args.page (gives_damaged g c) pages (subst (λ (p : Pass). Agrees pages (seen_in p.done p.id)) e.pass agrees) stood)

pub returns-in-Err-Corrupt-clause-seen : goal.returns-in-Err-Corrupt-clause-seen
returns-in-Err-Corrupt-clause-seen g c = λ pages agrees stood.
    let s = c.args.self.now in
    let t = c.free.new.space in
    let r = c.refuse-in-Err-Corrupt.new.self in
    let e = c.refuse-in-Err-Corrupt.ensures in
    differ_same (seen_in s.pass.done s.pass.id) (seen_in t.pass.done t.pass.id) (seen_in r.pass.done r.pass.id) (IsForFree (ghosts g.row.D g.row.N g.row.K g.D.Disk g.D.Disk-dict g.N.Opening g.N.Opening-dict g.K.Beginning g.K.Beginning-dict) s c.args.page pages)
    (λ n. ap (λ (p : Pass). seen_in p.done p.id n) e.pass)
    (give_seen (ghosts g.row.D g.row.N g.row.K g.D.Disk g.D.Disk-dict g.N.Opening g.N.Opening-dict g.K.Beginning g.K.Beginning-dict) g.K.Beginning.begun.first (spaces_damaged g c) s t c.args.page (gives_damaged g c) pages (subst (λ (p : Pass). Agrees pages (seen_in p.done p.id)) e.pass agrees) stood)

pub returns-in-Err-Corrupt-clause-sure : goal.returns-in-Err-Corrupt-clause-sure
returns-in-Err-Corrupt-clause-sure g c = λ writable pages agrees stood may. absurd (none g c pages agrees stood may)
