use Rattle.std.proofs.Common.{◌∙◌, ap, inl, sym}
use Rattle.spe_store.specs.Event.{entries_in}
use Rattle.spe_store.specs.Store.{Store}
use Rattle.spe_session.specs.Transaction.{AreRight, StopsWhole}
use Rattle.spe_session.proofs.CauseLemmas.{corrupt_whole, keeps_broken, unbegun_broken, unbegun_whole}
use Rattle.spe_session.proofs.RunLemmas.{none_right, run_where, unbegun_rests}
use Rattle.spe_session.proofs.running.run_tx.Goals as goal

pub returns-in-Err-clause-resting : goal.returns-in-Err-clause-resting
returns-in-Err-clause-resting g c = unbegun_rests c.args.store c.take_pass.new.self c.in-Err.fault c.in-Err.ensures.unbegun c.requires.resting

pub returns-then-not-is_counted-clause-right : goal.returns-then-not-is_counted-clause-right
returns-then-not-is_counted-clause-right g c =
    none_right g.N.Opening.opened (entries_in c.args.store.events) c.args.body _ _ _ _ c.turn_away.ensures.replies c.turn_away.ensures.outcome

pub returns-clause-right : goal.returns-clause-right
returns-clause-right g c =
    let same = c.in-Ok.ensures.begun.same in
    run_where g.N.Opening.opened (entries_in c.args.store.events) (entries_in c.take_pass.new.self.events) c.args.store.desk.told c.take_pass.new.self.desk.told (λ es db. AreRight es db c.args.body c.work.result.replies c.work.result.outcome)
    (ap (λ (s : Store). s.desk.told) same) (ap (λ (s : Store). entries_in s.events) same) c.keeps.ensures.disk.first c.work.ensures.right

pub returns-in-Err-clause-broken : goal.returns-in-Err-clause-broken
returns-in-Err-clause-broken g c = unbegun_broken c.args.store c.take_pass.new.self c.args.turn.client c.args.turn.tx c.args.body _ _ c.in-Err.fault c.in-Err.ensures.unbegun

pub returns-in-Err-clause-whole : goal.returns-in-Err-clause-whole
returns-in-Err-clause-whole g c = λ going.
    unbegun_whole g.N.Opening.opened (entries_in c.args.store.events) c.args.store c.take_pass.new.self c.args.body _ _ _ c.in-Err.fault c.unbegun_outcome.ensures c.in-Err.ensures.unbegun going

pub returns-then-not-is_counted-clause-broken : goal.returns-then-not-is_counted-clause-broken
returns-then-not-is_counted-clause-broken g c = inl (c.turn_away.ensures.unbroken ∙ sym (c.keeps.ensures.unbroken c.in-Ok.ensures.begun.going))

pub returns-then-not-is_counted-clause-whole : goal.returns-then-not-is_counted-clause-whole
returns-then-not-is_counted-clause-whole g c = λ going.
    corrupt_whole g.N.Opening.opened (entries_in c.args.store.events) c.args.body _ _ _ _ c.turn_away.ensures.outcome

pub returns-clause-broken : goal.returns-clause-broken
returns-clause-broken g c =
    keeps_broken c.args.store c.work.result.store c.args.turn.client c.args.turn.tx c.args.body _ _ (c.keeps.ensures.unbroken c.in-Ok.ensures.begun.going) c.work.ensures.broken

pub returns-clause-whole : goal.returns-clause-whole
returns-clause-whole g c = λ going.
    let same = c.in-Ok.ensures.begun.same in
    run_where g.N.Opening.opened (entries_in c.args.store.events) (entries_in c.take_pass.new.self.events) c.args.store.desk.told c.take_pass.new.self.desk.told (λ es db. StopsWhole es db c.args.body c.work.result.replies c.work.result.outcome)
    (ap (λ (s : Store). s.desk.told) same) (ap (λ (s : Store). entries_in s.events) same) c.keeps.ensures.disk.first c.work.ensures.whole
