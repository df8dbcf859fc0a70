use Rattle.std.proofs.Common.{sym, subst}
use Rattle.spe_model.specs.declared.transcript.Outcome.{Outcome}
use Rattle.spe_session.specs.Transaction.{AreRight, IsFilled, ReadsFailed}
use Rattle.spe_session.proofs.CauseLemmas.{fault_full, fault_read, never_whole}
use Rattle.spe_session.proofs.TransactionLemmas.{fault_right, front_right, told_map}
use Rattle.spe_session.proofs.transaction.fail.Goals as goal

pub returns-clause-right : goal.returns-clause-right
returns-clause-right g c =
    let body = c.args.body.now in
    let entries = g.K.Beginning.begun.entries in
    let number = c.give_up-store.result.number in
    told_map g.K.Beginning.begun.told _ _ (λ h rests db was.
    subst (λ (o : Outcome). AreRight entries db body c.args.replies o) (sym c.outcome_of.ensures.outcome)
    (fault_right entries db body c.args.replies number c.args.fault c.give_up-store.ensures.number c.requires.own c.requires.short
    (front_right _ g.N.Opening.opened entries c.args.pager rests body.kind body.statements c.args.replies c.requires.front db was)))
    c.rests.ensures

pub returns-clause-reads : goal.returns-clause-reads
returns-clause-reads g c =
    subst (ReadsFailed g.K.Beginning.begun.reads c.give_up-store.result.store.desk.reads) (sym c.outcome_of.ensures.outcome)
    (fault_read g.K.Beginning.begun.reads _ c.give_up-store.result.number _ c.args.fault c.requires.kept c.give_up-store.ensures.caused)

pub returns-clause-filled : goal.returns-clause-filled
returns-clause-filled g c =
    subst (IsFilled c.give_up-store.result.store.page_size) (sym c.outcome_of.ensures.outcome)
    (fault_full c.give_up-store.result.store.page_size c.give_up-store.result.number _ c.args.fault c.requires.kept c.give_up-store.ensures.filled)

pub returns-clause-whole : goal.returns-clause-whole
returns-clause-whole g c =
    never_whole g.K.Beginning.begun.told g.K.Beginning.begun.entries _ c.args.body.now c.args.replies c.give_up-store.result.number c.args.fault _ c.outcome_of.ensures.outcome c.requires.own
