use Rattle.std.proofs.Common.{◌∙◌, ◌+◌, ℕ, subst, sym, refl, ap, arith, List, Err, Ok}
use Rattle.spe_model.specs.declared.recovery.Recovered.{Recovered}
use Rattle.spe_store.specs.Event.{Event}
use Rattle.spe_store.specs.Store.{IsStored}
use Rattle.spe_store.proofs.NewLemmas.{begun, cuts_begun, cuts_failed, cuts_first, new_stored, same_first}
use Rattle.spe_store.proofs.store.Store.new.Goals as goal

pub returns-in_default-clause-cuts : goal.returns-in_default-clause-cuts
returns-in_default-clause-cuts g c = cuts_first g.N.Opening.opened _ c.requires.opened

pub returns-in-Err-clause-cuts : goal.returns-in-Err-clause-cuts
returns-in-Err-clause-cuts g c = cuts_failed g.N.Opening.opened _ _ _ c.requires.opened c.in-Err.ensures.made

pub returns-in_default-checked_add-clause-cuts : goal.returns-in_default-checked_add-clause-cuts
returns-in_default-checked_add-clause-cuts g c =
    cuts_begun g.N.Opening.opened _ (g.N.Opening.opened.found.ops + c.in-Ok-make_journals.made)
    (begun g.N.Opening.opened _ _ c.in-Ok-make_journals.made c.requires.first c.requires.opened c.in-Ok-make_journals.ensures.made (g.N.Opening.opened.found.ops + c.in-Ok-make_journals.made) refl)

pub new-desk-requires-clause-counted : goal.new-desk-requires-clause-counted
new-desk-requires-clause-counted g c =
    (begun g.N.Opening.opened _ _ c.in-Ok-make_journals.made c.requires.first c.requires.opened c.in-Ok-make_journals.ensures.made c.in-Some.ops
    (c.in-Some.ensures.1 ∙ ap (λ (n : ℕ). c.args.found.now.ops + n) c.from.ensures ∙ ap (λ (r : Recovered). r.ops + c.in-Ok-make_journals.made) c.requires.found)).counts

pub invariant_of-result : goal.invariant_of-result
invariant_of-result g c =
    let b =
    begun g.N.Opening.opened _ _ c.in-Ok-make_journals.made c.requires.first c.requires.opened c.in-Ok-make_journals.ensures.made c.in-Some.ops
    (c.in-Some.ensures.1 ∙ ap (λ (n : ℕ). c.args.found.now.ops + n) c.from.ensures ∙ ap (λ (r : Recovered). r.ops + c.in-Ok-make_journals.made) c.requires.found) in
    subst (λ (es : List Event). IsStored g.N.Opening.opened (record { desk = c.new-desk.result; events = es; page_size = c.args.found.now.page_size; count = c.args.found.now.pages }) c.in-Ok.works.items c.none.result) (sym c.none-2.ensures)
    (new_stored g.N.Opening.opened c.in-Ok.works.items c.in-Ok.ensures c.args.found.now.page_size c.args.found.now.pages c.in-Some.ops c.requires.limits.low c.requires.limits.high
    (ap (λ (r : Recovered). r.page_size) c.requires.found) (ap (λ (r : Recovered). r.pages) c.requires.found)
    _ _ c.in-Ok-make_journals.made c.requires.opened c.in-Ok-make_journals.ensures.made b c.new-desk.result _ _ c.new-desk.ensures
    (omega (arith, c.in-Ok-make_journals.ensures.readings, c.requires.reads))
    (let later = c.in-Ok-make_journals.ensures.cause.later in omega (arith, c.requires.faults)) c.none.result c.none.ensures)

pub returns-in-Err-clause-same : goal.returns-in-Err-clause-same
returns-in-Err-clause-same g c = same_first _ _ _ (Err c.in-Err.field-0) c.requires.first c.in-Err.ensures.made

pub returns-in_default-checked_add-clause-same : goal.returns-in_default-checked_add-clause-same
returns-in_default-checked_add-clause-same g c = same_first _ _ _ (Ok c.in-Ok-make_journals.made) c.requires.first c.in-Ok-make_journals.ensures.made
