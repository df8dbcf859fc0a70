use Rattle.std.proofs.Common.{refl, sym, subst}
use Rattle.spe_model.specs.declared.transcript.Outcome.{Outcome}
use Rattle.spe_store.specs.Event.{broken_in, entries_in}
use Rattle.spe_session.specs.Transaction.{AreRight, IsToldBy, StopsWhole}
use Rattle.spe_session.proofs.CauseLemmas.{commit_breaks, commit_full, commit_read, commit_whole}
use Rattle.spe_session.proofs.TransactionLemmas.{all_right, commit_right, commit_told, on_ok, told_map}
use Rattle.spe_session.proofs.transaction.commit_all.Goals as goal

pub returns-clause-right : goal.returns-clause-right
returns-clause-right g c =
    let body = c.args.body in
    let entries = g.K.Beginning.begun.entries in
    told_map g.K.Beginning.begun.told _ _ (λ h rests db was.
    subst (λ (o : Outcome). AreRight entries db body c.args.replies o) (sym c.outcome_after.ensures)
    (commit_right entries db body c.args.replies c.commit-store.result.answer c.commit-store.ensures.failed
    (all_right _ g.N.Opening.opened entries c.args.pager rests body.kind body.statements c.args.replies c.requires.done db was)))
    c.rests.ensures

pub returns-clause-session : goal.returns-clause-session
returns-clause-session g c =
    subst (λ (o : Outcome). IsToldBy (entries_in c.commit-store.result.store.events) c.args.session.now c.commit-store.new.session o) (sym c.outcome_after.ensures)
    (commit_told g.K.Beginning.begun.entries (entries_in c.commit-store.result.store.events) c.args.session.now c.commit-store.new.session c.commit-store.result.answer _ _ _
    c.commit-store.ensures.session c.requires.told c.commit-store.ensures.committed c.commit-store.ensures.left c.commit-store.ensures.number c.commit-store.ensures.failed)

pub returns-clause-reads : goal.returns-clause-reads
returns-clause-reads g c = commit_read g.K.Beginning.begun.reads _ c.commit-store.result.answer _ c.outcome_after.ensures c.commit-store.ensures.reads

pub returns-clause-filled : goal.returns-clause-filled
returns-clause-filled g c = commit_full _ c.commit-store.result.answer _ c.outcome_after.ensures

pub returns-clause-broken : goal.returns-clause-broken
returns-clause-broken g c =
    commit_breaks c.args.turn.client c.args.turn.tx c.args.body c.args.replies c.commit-store.result.answer _ (broken_in c.commit-store.result.store.events) _ _ refl c.outcome_after.ensures
    (on_ok c.commit-store.result.answer _ _ c.keeps.ensures.unbroken c.commit-store.ensures.going) c.commit-store.ensures.broken c.commit-store.ensures.names

pub returns-clause-whole : goal.returns-clause-whole
returns-clause-whole g c =
    let body = c.args.body in
    let entries = g.K.Beginning.begun.entries in
    told_map g.K.Beginning.begun.told _ _ (λ h rests db was.
    subst (λ (o : Outcome). StopsWhole entries db body c.args.replies o) (sym c.outcome_after.ensures)
    (commit_whole entries db body c.args.replies c.commit-store.result.answer
    (all_right _ g.N.Opening.opened entries c.args.pager rests body.kind body.statements c.args.replies c.requires.done db was)))
    c.rests.ensures
