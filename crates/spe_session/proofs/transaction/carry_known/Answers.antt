use Rattle.std.proofs.Common.{◌∙◌, refl, sym}
use Rattle.spe_session.proofs.PageLemmas.{laid_alike}
use Rattle.spe_session.proofs.StartLemmas.{lists_stand, started}
use Rattle.spe_session.proofs.TransactionLemmas.{on_ok}
use Rattle.spe_session.proofs.transaction.carry_known.Goals as goal

pub carry_out-requires-clause-lists : goal.carry_out-requires-clause-lists
carry_out-requires-clause-lists g c = lists_stand _ g.K.Beginning.begun.first (λ s pages stood. stood) (λ s pages n. refl)

pub returns-in-Ok-true-clause-done : goal.returns-in-Ok-true-clause-done
returns-in-Ok-true-clause-done g c =
    let old = c.args.pager.now in
    let new = c.knows_front.new.self in
    let k = c.in-Ok-true.ensures in
    on_ok c.carry_out.result _ _
    (λ all. all g.N.Opening.opened.read (sym c.requires.catalog)
    (started _ g.K.Beginning.begun.first g.N.Opening.opened.read new
    (λ n. laid_alike old.store.count new.store.count old.pages new.pages old.size new.size old.dirty new.dirty k.base k.pages k.size k.dirty n ∙ c.requires.bare n)
    (λ pages o. o) (λ pages n. refl) c.requires.first new.range.1 (k.known c.in-Ok-true.field-0-test) c.args.kind))
    c.carry_out.ensures.done

pub returns-in-Ok-true-clause-front : goal.returns-in-Ok-true-clause-front
returns-in-Ok-true-clause-front g c =
    let old = c.args.pager.now in
    let new = c.knows_front.new.self in
    let k = c.in-Ok-true.ensures in
    c.carry_out.ensures.front g.N.Opening.opened.read (sym c.requires.catalog)
    (started _ g.K.Beginning.begun.first g.N.Opening.opened.read new
    (λ n. laid_alike old.store.count new.store.count old.pages new.pages old.size new.size old.dirty new.dirty k.base k.pages k.size k.dirty n ∙ c.requires.bare n)
    (λ pages o. o) (λ pages n. refl) c.requires.first new.range.1 (k.known c.in-Ok-true.field-0-test) c.args.kind)
