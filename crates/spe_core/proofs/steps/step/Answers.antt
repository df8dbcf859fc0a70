use Rattle.std.proofs.Common.{subst, rules}
use Rattle.spe_core.specs.Serial.{IsSerial, after_events}
use Rattle.spe_core.specs.State.{State}
use Rattle.spe_core.proofs.CoreLemmas.{counted_next, held_next, ready_of, serial_after}
use Rattle.spe_core.proofs.steps.step.Goals as goal

pub is_enabled-requires : goal.is_enabled-requires
is_enabled-requires c = ready_of c.core.inside.parts c.core.invariant

pub returns-then-not-is_enabled-clause-serial : goal.returns-then-not-is_enabled-clause-serial
returns-then-not-is_enabled-clause-serial c = λ es.
    subst (λ (s : State). IsSerial (after_events s es)) c.core.view_is (serial_after c.core.inside.parts c.core.invariant es)

pub make-requires-clause-ready : goal.make-requires-clause-ready
make-requires-clause-ready c = ready_of c.core.inside.parts c.core.invariant

pub make-requires-clause-counted : goal.make-requires-clause-counted
make-requires-clause-counted c = counted_next c.core.inside.parts c.args.event.now c.core.invariant (search rules)

pub returns-in_err-make-clause-serial : goal.returns-in_err-make-clause-serial
returns-in_err-make-clause-serial c = λ es.
    subst (λ (s : State). IsSerial (after_events s es)) c.core.view_is (serial_after c.core.inside.parts c.core.invariant es)

pub invariant_of-core-2 : goal.invariant_of-core-2
invariant_of-core-2 c = held_next c.core.inside.parts _ c.args.event.now c.core.invariant (search rules) c.in_ok-make.ensures.ok

pub returns-clause-serial : goal.returns-clause-serial
returns-clause-serial c = λ es.
    subst (λ (s : State). IsSerial (after_events s es)) c.core.view_is (serial_after c.core.inside.parts c.core.invariant es)
