use Rattle.std.proofs.Common.{◌≡◌, true, refl, subst, sym, ap, ◌∙◌, arith, List, length}
use Rattle.spe_model.specs.Justified.{Justified}
use Rattle.spe_model.specs.Rollback.{cut_of}
use Rattle.spe_store.specs.Call.{CutsIf, HasCommitted, LeavesSeen, MayEnd}
use Rattle.spe_store.specs.Event.{Event, entries_in, lives_in, open_in, seen_in, written_in}
use Rattle.spe_store.specs.Pass.{OthersStay, Pass}
use Rattle.spe_store.specs.Served.{asked_of}
use Rattle.spe_store.specs.Store.{IsStored, Store}
use Rattle.spe_store.proofs.CommitLemmas.{breaks_at, commit_broken, commit_done, commit_others, commit_room, cuts_if, number_is}
use Rattle.spe_store.proofs.ListLemmas.{carried, handed, read_at, same_read}
use Rattle.spe_store.specs.Work.{HasEnded}
use Rattle.spe_store.specs.declared.work.Work.{Work}
use Rattle.spe_store.proofs.ReadLemmas.{own_is}
use Rattle.spe_store.proofs.store.Store.commit.Goals as goal

pub invariant_of-self : goal.invariant_of-self
invariant_of-self g c =
    let w = c.index-work.result.now in
    let found = read_at c.self.inside.works.items c.from.result c.pass.inside.id w c.from.ensures (omega (arith, c.self.invariant.all, c.pass.invariant)) c.index-work.ensures in
    let going = sym c.stopped.ensures ∙ c.in_default.is in
    subst (λ (es : List Event). IsStored g.N.Opening.opened (record { desk = c.cut_journal.new.desk; events = es; page_size = c.self.inside.page_size; count = c.self.inside.count }) c.self.inside.works.items c.self.inside.order) (sym c.with_end-self-inside.ensures)
    (commit_broken _ _ c.self.inside.works.items c.self.inside.order c.self.invariant c.pass.inside.id c.pass.invariant
    (carried (λ (s : Store) (p : Pass). MayEnd g.N.Opening.opened s p.id) c.self.view_is c.pass.view_is c.requires.may) c.args.session.now.number c.args.log.now
    (carried (λ (s : Store) (p : Pass). Justified g.N.Opening.opened.read (asked_of c.args.log.now) (seen_in s.events p.id) (written_in s.events p.id)) c.self.view_is c.pass.view_is c.requires.right) w found c.cut_journal.new.desk c.in-Err.stop.op
    (breaks_at _ _ c.self.inside.works.items c.self.inside.order c.self.invariant c.pass.inside.id c.pass.invariant
    (carried (λ (s : Store) (p : Pass). MayEnd g.N.Opening.opened s p.id) c.self.view_is c.pass.view_is c.requires.may) c.args.session.now.number c.args.log.now
    (carried (λ (s : Store) (p : Pass). Justified g.N.Opening.opened.read (asked_of c.args.log.now) (seen_in s.events p.id) (written_in s.events p.id)) c.self.view_is c.pass.view_is c.requires.right) w found c.cut_journal.new.desk c.in-Err.stop c.in-Err.ensures going))

pub push-number-requires : goal.push-number-requires
push-number-requires g c =
    let w = c.index-work.result.now in
    let found = read_at c.self.inside.works.items c.from.result c.pass.inside.id w c.from.ensures (omega (arith, c.self.invariant.all, c.pass.invariant)) c.index-work.ensures in
    let going = sym c.stopped.ensures ∙ c.in_default.is in
    commit_room _ _ c.self.inside.works.items c.self.inside.order c.self.invariant c.pass.inside.id c.pass.invariant
    (carried (λ (s : Store) (p : Pass). MayEnd g.N.Opening.opened s p.id) c.self.view_is c.pass.view_is c.requires.may) c.args.session.now.number c.args.log.now
    (carried (λ (s : Store) (p : Pass). Justified g.N.Opening.opened.read (asked_of c.args.log.now) (seen_in s.events p.id) (written_in s.events p.id)) c.self.view_is c.pass.view_is c.requires.right) w found c.cut_journal.new.desk going (carried (λ (s : Store) (p : Pass). lives_in s.events p.id ≡ true) c.self.view_is c.pass.view_is c.requires.lives)

pub invariant_of-self-2 : goal.invariant_of-self-2
invariant_of-self-2 g c =
    let w = c.index-work.result.now in
    let found = read_at c.self.inside.works.items c.from.result c.pass.inside.id w c.from.ensures (omega (arith, c.self.invariant.all, c.pass.invariant)) c.index-work.ensures in
    let going = sym c.stopped.ensures ∙ c.in_default.is in
    commit_done _ _ c.self.inside.works.items c.self.inside.order c.self.invariant c.pass.inside.id c.pass.invariant
    (carried (λ (s : Store) (p : Pass). MayEnd g.N.Opening.opened s p.id) c.self.view_is c.pass.view_is c.requires.may) c.args.session.now.number c.args.log.now
    (carried (λ (s : Store) (p : Pass). Justified g.N.Opening.opened.read (asked_of c.args.log.now) (seen_in s.events p.id) (written_in s.events p.id)) c.self.view_is c.pass.view_is c.requires.right) w found c.cut_journal.new.desk
    (carried (λ (s : Store) (p : Pass). LeavesSeen s p.id) c.self.view_is c.pass.view_is c.requires.alone) c.end.new.self
    (subst (λ (v : Work). HasEnded v c.end.new.self) (same_read c.self.inside.works.items c.from-2.result c.from.result c.pass.inside.id c.index_mut.result.now w c.from-2.ensures c.from.ensures (omega (arith, c.self.invariant.all, c.pass.invariant)) c.index_mut.ensures.value c.index-work.ensures) c.end.ensures) c.ops-ops.result c.ops-ops.ensures.ops c.ops-ops.ensures.counted
    c.unwrap_or-count.result c.unwrap_or-count.ensures (carried (λ (s : Store) (p : Pass). lives_in s.events p.id ≡ true) c.self.view_is c.pass.view_is c.requires.lives) c.push-number.new.self c.push-number.ensures.room c.push-number.ensures.rows c.in-Ok.ensures
    c.from-2.result c.from-2.ensures c.with_end-self-inside-2.result.events c.with_end-self-inside-2.ensures

pub returns-clause-committed : goal.returns-clause-committed
returns-clause-committed g c =
    let w = c.index-work.result.now in
    let found = read_at c.self.inside.works.items c.from.result c.pass.inside.id w c.from.ensures (omega (arith, c.self.invariant.all, c.pass.invariant)) c.index-work.ensures in
    let going = sym c.stopped.ensures ∙ c.in_default.is in
    handed (λ (s : Store) (p : Pass). HasCommitted s (record { desk = c.cut_journal.new.desk; events = c.with_end-self-inside-2.result.events; page_size = c.self.inside.page_size; count = c.unwrap_or-count.result }) p (record { id = c.pass.inside.id; done = c.with_end-pass-inside.result.events }) c.args.session.now.number c.args.log.now c.ops-ops.result) c.self.view_is c.pass.view_is
    (record {
      events = c.with_end-self-inside-2.ensures;
      pass = ap (λ (es : List Event). record { id = c.pass.inside.id; done = es }) c.with_end-pass-inside.ensures;
      entries = ap entries_in c.with_end-self-inside-2.ensures;
      made = c.ops-ops.ensures.ops;
      sized = refl;
      counted = c.unwrap_or-count.ensures ∙ own_is _ _ c.self.inside.works.items c.self.inside.order c.self.invariant going c.pass.inside.id w found;
    })

pub returns-clause-number : goal.returns-clause-number
returns-clause-number g c =
    let w = c.index-work.result.now in
    let found = read_at c.self.inside.works.items c.from.result c.pass.inside.id w c.from.ensures (omega (arith, c.self.invariant.all, c.pass.invariant)) c.index-work.ensures in
    let going = sym c.stopped.ensures ∙ c.in_default.is in
    c.push-number.ensures.number
    ∙ number_is _ _ c.self.inside.works.items c.self.inside.order c.self.invariant c.pass.inside.id c.pass.invariant
    (carried (λ (s : Store) (p : Pass). MayEnd g.N.Opening.opened s p.id) c.self.view_is c.pass.view_is c.requires.may) c.args.session.now.number c.args.log.now
    (carried (λ (s : Store) (p : Pass). Justified g.N.Opening.opened.read (asked_of c.args.log.now) (seen_in s.events p.id) (written_in s.events p.id)) c.self.view_is c.pass.view_is c.requires.right) w found c.cut_journal.new.desk c.ops-ops.result
    ∙ ap (λ (es : List Event). length (entries_in es)) (sym c.with_end-self-inside-2.ensures)

pub returns-clause-made : goal.returns-clause-made
returns-clause-made g c =
    let w = c.index-work.result.now in
    let found = read_at c.self.inside.works.items c.from.result c.pass.inside.id w c.from.ensures (omega (arith, c.self.invariant.all, c.pass.invariant)) c.index-work.ensures in
    let going = sym c.stopped.ensures ∙ c.in_default.is in
    handed (λ (s : Store) (p : Pass). CutsIf (open_in s.events p.id) s.desk c.cut_journal.new.desk (cut_of p.id)) c.self.view_is c.pass.view_is
    (cuts_if _ _ c.self.inside.works.items c.self.inside.order c.self.invariant c.pass.inside.id c.pass.invariant
    (carried (λ (s : Store) (p : Pass). MayEnd g.N.Opening.opened s p.id) c.self.view_is c.pass.view_is c.requires.may) c.args.session.now.number c.args.log.now
    (carried (λ (s : Store) (p : Pass). Justified g.N.Opening.opened.read (asked_of c.args.log.now) (seen_in s.events p.id) (written_in s.events p.id)) c.self.view_is c.pass.view_is c.requires.right) w found c.cut_journal.new.desk c.in-Ok.ensures going)

pub returns-clause-others : goal.returns-clause-others
returns-clause-others g c =
    handed (λ (s : Store) (p : Pass). OthersStay c.with_end-self-inside-2.result.events s.events p.id) c.self.view_is c.pass.view_is
    (subst (λ (es : List Event). OthersStay es c.self.inside.story.events c.pass.inside.id) (sym c.with_end-self-inside-2.ensures)
    (commit_others c.self.inside.story.events c.pass.inside.id c.args.session.now.number c.ops-ops.result c.args.log.now))
