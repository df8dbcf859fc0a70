use Rattle.std.proofs.Common.{◌≡◌, List, sym, subst}
use Rattle.spe_model.specs.Meaning.{replies_of}
use Rattle.spe_store.specs.Served.{Entry, database_after}
use Rattle.spe_session.proofs.CauseLemmas.{told_any}
use Rattle.spe_session.proofs.TransactionLemmas.{all_right, all_taken, told_map}
use Rattle.spe_session.proofs.transaction.roll_back.Goals as goal

pub returns-clause-right : goal.returns-clause-right
returns-clause-right g c =
    let body = c.args.body.now in
    let entries = g.K.Beginning.begun.entries in
    told_map g.K.Beginning.begun.told _ _ (λ h rests db was.
    subst (λ (es : List Entry). c.args.replies ≡ replies_of (database_after db es) body) (sym (all_taken entries c.give_up-store.result.number c.give_up-store.ensures.number))
    (all_right _ g.N.Opening.opened entries c.args.pager rests body.kind body.statements c.args.replies c.requires.done db was))
    c.rests.ensures

pub returns-clause-whole : goal.returns-clause-whole
returns-clause-whole g c = told_any g.K.Beginning.begun.told _ (λ db was. tt)
