use Rattle.std.proofs.Common.{refl, subst, sym, ◌∙◌, arith, Option}
use Rattle.spe_model.specs.Trace.{History}
use Rattle.spe_store.specs.Call.{GivesPage, IsInside, IsUnread, MayRead}
use Rattle.spe_store.specs.Desk.{ReadsPage}
use Rattle.spe_store.specs.Pass.{Pass}
use Rattle.spe_store.specs.Store.{Store}
use Rattle.spe_store.specs.declared.stop.StoreFault.TheVariants.{PageOut, ReadFault}
use Rattle.spe_store.proofs.HeldLemmas.{looks_held}
use Rattle.spe_store.proofs.ListLemmas.{carried, handed, read_at}
use Rattle.spe_store.proofs.ReadLemmas.{own_is, read_gives, read_held}
use Rattle.spe_store.proofs.store.Store.read.Goals as goal

pub returns-then-not-is_inside-clause-unread : goal.returns-then-not-is_inside-clause-unread
returns-then-not-is_inside-clause-unread g c =
    let found = read_at c.self.inside.works.items c.from.result c.pass.inside.id c.index-work.result.now c.from.ensures (omega (arith, c.self.invariant.all, c.pass.invariant)) c.index-work.ensures in
    let going = sym c.stopped.ensures ∙ c.in_default.is in
    let count = c.unwrap_or-pages.ensures ∙ own_is _ _ c.self.inside.works.items c.self.inside.order c.self.invariant going c.pass.inside.id c.index-work.result.now found in
    handed (λ (s : Store) (p : Pass). IsUnread s s p.id c.args.page (PageOut c.args.page c.unwrap_or-pages.result)) c.self.view_is c.pass.view_is
    (refl, going, refl, count, λ (inside : IsInside c.args.page c.unwrap_or-pages.result). c.if-not-is_inside.ensures.outside refl inside.0 inside.1)

pub returns-in-Err-clause-unread : goal.returns-in-Err-clause-unread
returns-in-Err-clause-unread g c =
    let found = read_at c.self.inside.works.items c.from.result c.pass.inside.id c.index-work.result.now c.from.ensures (omega (arith, c.self.invariant.all, c.pass.invariant)) c.index-work.ensures in
    let going = sym c.stopped.ensures ∙ c.in_default.is in
    let count = c.unwrap_or-pages.ensures ∙ own_is _ _ c.self.inside.works.items c.self.inside.order c.self.invariant going c.pass.inside.id c.index-work.result.now found in
    handed (λ (s : Store) (p : Pass). IsUnread s (record { desk = c.read_page.new.self; events = c.self.inside.story.events; page_size = c.self.inside.page_size; count = c.self.inside.count }) p.id c.args.page ReadFault) c.self.view_is c.pass.view_is
    (record { same = refl; going = c.in-Err.ensures.looks.stopped ∙ going; looks = c.in-Err.ensures.looks; rose = c.in-Err.ensures.cause.failed }, subst (IsInside c.args.page) count (c.if-not-is_inside.ensures.inside refl))

pub invariant_of-self-2 : goal.invariant_of-self-2
invariant_of-self-2 g c =
    let found = read_at c.self.inside.works.items c.from.result c.pass.inside.id c.index-work.result.now c.from.ensures (omega (arith, c.self.invariant.all, c.pass.invariant)) c.index-work.ensures in
    let going = sym c.stopped.ensures ∙ c.in_default.is in
    let count = c.unwrap_or-pages.ensures ∙ own_is _ _ c.self.inside.works.items c.self.inside.order c.self.invariant going c.pass.inside.id c.index-work.result.now found in
    let m = carried (λ (s : Store) (p : Pass). MayRead s p.id c.args.page) c.self.view_is c.pass.view_is c.requires.may in
    read_held _ _ c.self.inside.works.items c.self.inside.order (looks_held _ _ c.self.inside.works.items c.self.inside.order c.self.invariant c.read_page.new.self c.in-Ok.ensures.looks) c.pass.inside.id c.args.page
    (record { others = m.others; added = m.added }) (subst (IsInside c.args.page) count (c.if-not-is_inside.ensures.inside refl)) c.read_page.new.buf
    (subst (λ (t : Option History). ReadsPage t c.self.inside.page_size c.args.page c.read_page.new.buf) (sym c.in-Ok.ensures.looks.told) c.in-Ok.ensures.bytes)
    (c.in-Ok.ensures.looks.stopped ∙ going) c.with-self-inside.result.events c.with-self-inside.ensures

pub returns-clause-gives : goal.returns-clause-gives
returns-clause-gives g c =
    let found = read_at c.self.inside.works.items c.from.result c.pass.inside.id c.index-work.result.now c.from.ensures (omega (arith, c.self.invariant.all, c.pass.invariant)) c.index-work.ensures in
    let going = sym c.stopped.ensures ∙ c.in_default.is in
    let count = c.unwrap_or-pages.ensures ∙ own_is _ _ c.self.inside.works.items c.self.inside.order c.self.invariant going c.pass.inside.id c.index-work.result.now found in
    let m = carried (λ (s : Store) (p : Pass). MayRead s p.id c.args.page) c.self.view_is c.pass.view_is c.requires.may in
    handed (λ (s : Store) (p : Pass). GivesPage g.N.Opening.opened s p.id c.args.page c.read_page.new.buf) c.self.view_is c.pass.view_is
    (read_gives _ _ c.self.inside.works.items c.self.inside.order c.self.invariant c.pass.inside.id c.args.page
    (record { others = m.others; added = m.added }) (subst (IsInside c.args.page) count (c.if-not-is_inside.ensures.inside refl)) c.read_page.new.buf c.in-Ok.ensures.bytes going)
