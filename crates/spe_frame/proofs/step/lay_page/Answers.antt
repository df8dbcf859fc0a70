use Rattle.std.proofs.Common.{◌≡◌, subst, sym}
use Rattle.std.specs.Prelude.{Result, Err}
use Rattle.spe_space.specs.declared.fault.SpaceFault.{SpaceFault}
use Rattle.spe_model.specs.Paging.{Agrees}
use Rattle.spe_frame.proofs.StepLemmas.{is_apart, put_likely, put_shifts, same_more}
use Rattle.spe_frame.proofs.step.lay_page.Goals as goal

abbrev the_err : SpaceFault → Result (Unit {0}) SpaceFault
the_err fault = Err fault

pub returns-clause-shifts : goal.returns-clause-shifts
returns-clause-shifts g c = λ pages agrees ready held head.
    let s = c.args.space.now in
    let put = c.in-Ok.ensures in
    let apart = is_apart g.S.Pages s pages c.args.page c.args.bytes.now held head in
    let agreed = subst (Agrees pages) put.seen agrees in
    put_shifts g.S.Pages s c.put.new.self pages c.args.page c.args.bytes.now (record { there = put.ok; others = put.others }) put.seen
    (record { size = put.size; used = put.used; limit = put.limit }) ready head
    (put.free pages agreed ready.stands apart) (put.stands pages agreed ready.stands apart)

pub returns-clause-spares : goal.returns-clause-spares
returns-clause-spares g c = λ pages agrees ready held head. (returns-clause-shifts g c pages agrees ready held head).spares

pub returns-in-Err-clause-likely : goal.returns-in-Err-clause-likely
returns-in-Err-clause-likely g c = λ pages agrees ready held writable other.
    let put = c.in-Err.ensures in
    let same : g.S.Pages.laid c.put.new.self 1 ≡ g.S.Pages.laid c.args.space.now 1 = put.others 1 (λ e. other (sym e)) in
    put_likely g.S.Pages c.args.space.now c.put.new.self pages c.args.page (the_err c.in-Err.fault) writable other ready held (same_more g.S.Pages c.args.space.now c.put.new.self pages same) put.fault
