use Rattle.std.proofs.Common.{rules, ◌≡◌, ◌+◌, ◌∙◌, ℕ, List, Some, ap, subst, arith}
use Rattle.std.proofs.lemmas.List.{with_items_is}
use Rattle.spe_model.specs.Paging.{Agrees, Paging, lay}
use Rattle.spe_space.specs.Front.{recounted}
use Rattle.spe_freelist.proofs.StepLemmas.{few_pages}
use Rattle.spe_store.specs.Event.{seen_in}
use Rattle.spe_store.specs.Pass.{Pass}
use Rattle.spe_session.specs.Lists.{AreInOrder, is_listed}
use Rattle.spe_session.specs.Pages.{Sets, laid_in}
use Rattle.spe_session.proofs.CauseLemmas.{full_room}
use Rattle.spe_session.proofs.StandLemmas.{grown_stands}
use Rattle.spe_session.proofs.paging.PagerPages.extend.Goals as goal

grown : (g : _) (c : goal.In_ok-grow g) (pages : Paging) → Agrees pages (seen_in c.grow.new.self.pass.done c.grow.new.self.pass.id)
    → AreInOrder c.args.self.now.usable c.args.self.now.pages g.K.Beginning.begun.first (lay (laid_in c.args.self.now.store.count c.args.self.now.pages c.args.self.now.size c.args.self.now.dirty) pages)
    → AreInOrder c.args.self.now.usable (c.args.self.now.pages + 16) g.K.Beginning.begun.first (lay (laid_in c.args.self.now.store.count (c.args.self.now.pages + 16) c.args.self.now.size c.grow.new.self.dirty) pages)
    × ((n : ℕ) → is_listed (lay (laid_in c.args.self.now.store.count (c.args.self.now.pages + 16) c.args.self.now.size c.grow.new.self.dirty) pages) n ≡ is_listed (lay (laid_in c.args.self.now.store.count c.args.self.now.pages c.args.self.now.size c.args.self.now.dirty) pages) n)
grown g c pages agrees stood =
    let s = c.args.self.now in
    let e = c.in_ok-grow.ensures in
    let w = c.in_ok-show.ensures in
    let shown = w.shown pages (subst (λ (p : Pass). Agrees pages (seen_in p.done p.id)) e.pass agrees) in
    let recount : c.recounted.result ≡ recounted (s.pages + 16) c.show.new.buf = c.recounted.ensures.bytes ∙ ap (recounted (s.pages + 16)) (with_items_is c.in_ok-front.front c.show.new.buf (omega (arith, w.len, c.as_mut_slice.ensures.len))) in
    grown_stands s.usable g.K.Beginning.begun.first s.store.count s.pages s.size s.dirty c.grow.new.self.dirty pages stood c.recounted.result
    (subst (λ (d : List (ℕ × List ℕ)). Sets 1 (Some c.recounted.result) d c.grow.new.self.dirty) w.dirty e.ok)
    (recount ∙ ap (recounted (s.pages + 16)) shown)
    (few_pages (s.pages + 16) s.limit s.size (c.has_room.ensures.room (search rules)) s.range.1 s.bounded)

pub returns-clause-free : goal.returns-clause-free
returns-clause-free g c = λ pages agrees stood n.
    let e = c.in_ok-grow.ensures in
    let w = c.in_ok-show.ensures in
    rw (e.store, w.base, e.more, w.pages, e.size, w.size) ((grown g c pages agrees stood).1 n)

pub returns-clause-stands : goal.returns-clause-stands
returns-clause-stands g c = λ pages agrees stood.
    let e = c.in_ok-grow.ensures in
    let w = c.in_ok-show.ensures in
    rw (e.store, w.base, e.more, w.pages, e.size, w.size, e.usable, w.usable) (grown g c pages agrees stood).0

pub refuse-requires-clause-filled : goal.refuse-requires-clause-filled
refuse-requires-clause-filled g c =
    let s = c.args.self.now in
    full_room s.limit s.pages s.size s.most (c.has_room.ensures.full (search rules))
