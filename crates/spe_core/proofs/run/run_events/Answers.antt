use Rattle.std.proofs.Common.{◌∙◌, ap, subst, sym, take, []}
use Rattle.spe_core.specs.Changing.{count_done}
use Rattle.spe_core.specs.Serial.{IsSerial, after_events}
use Rattle.spe_core.specs.State.{State}
use Rattle.spe_core.proofs.CoreLemmas.{serial_after}
use Rattle.spe_core.proofs.RunLemmas.{front_item, next_run}
use Rattle.spe_core.proofs.run.run_events.Goals as goal

pub returns-in_err-step-clause-serial : goal.returns-in_err-step-clause-serial
returns-in_err-step-clause-serial c = subst IsSerial (sym c.in_err-step.ensures.err) (c.in_err-step.ensures.serial [])

pub returns-in_err-step-clause-always : goal.returns-in_err-step-clause-always
returns-in_err-step-clause-always c = λ es. subst (λ (s : State). IsSerial (after_events s es)) c.core.view_is (serial_after c.core.inside.parts c.core.invariant es)

pub loop-left-preserved : goal.loop-left-preserved
loop-left-preserved c =
    let parts = front_item c.loop-left.left.now c.event-item.result c.in-len1-up.len_at_least c.event-item.is in
    next_run c.args.core.now c.loop-left.core c.step.new.core c.args.events.now c.loop-left.left.now _ c.event-item.result c.loop-left.done c.count_of.result
    parts c.in_ok-step.ensures.next (c.count_of.ensures ∙ ap count_done c.in_ok-step.ensures.answer) c.loop-left.invariant

pub returns-clause-serial : goal.returns-clause-serial
returns-clause-serial c =
    let some = c.loop-left.invariant.some in
    let all = serial_after c.core.inside.parts c.core.invariant (take some.0 c.args.events.now) in
    subst IsSerial (sym some.2) (subst (λ (s : State). IsSerial (after_events s (take some.0 c.args.events.now))) c.core.view_is all)

pub returns-clause-always : goal.returns-clause-always
returns-clause-always c = λ es. subst (λ (s : State). IsSerial (after_events s es)) c.core.view_is (serial_after c.core.inside.parts c.core.invariant es)
