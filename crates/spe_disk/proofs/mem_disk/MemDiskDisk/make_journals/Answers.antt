use Rattle.std.proofs.Common.{◌≡◌, List, Some, ◌∙◌, sym, refl, arith, append-nil}
use Rattle.std.specs.Prelude.{Option}
use Rattle.spe_model.specs.Content.{Content}
use Rattle.spe_model.specs.Trace.{Operation, History, present}
use Rattle.spe_disk.specs.Memory.{trace_of, history_of, first_files}
use Rattle.spe_disk.proofs.JournalLemmas.{below_none, making_more, counting_more, making_failed}
use Rattle.spe_disk.proofs.ListedLemmas.{made_more, made_none, made_failed}
use Rattle.spe_disk.proofs.mem_disk.MemDiskDisk.make_journals.Goals as goal

abbrev history_told : History → Option History
history_told h = Some h

same_history : (f g : Content) (t u : List Operation) → f ≡ g → t ≡ u → history_told (record { first = f; trace = t }) ≡ history_told (record { first = g; trace = u })
same_history f g t u first trace = rw (first, trace) refl

pub loop-number-init : goal.loop-number-init
loop-number-init c =
    let none = below_none (present (history_of c.args.self.now)) in
    record {
      attached = c.requires.attached;
      first = refl;
      trace = rw none (sym (append-nil (trace_of c.args.self.now)));
      count = rw none refl;
      few = omega arith;
      later = λ j le. refl;
      readings = refl;
      reads = refl;
      room = refl;
      disk = record { room = refl; limit = refl; faults = refl };
      listed = made_none _ c.args.self.now none;
      counted = omega arith;
    }

pub loop-number-preserved : goal.loop-number-preserved
loop-number-preserved c =
    let content = present (history_of c.args.self.now) in
    let now = present (history_of c.loop-number.self) in
    let same = c.loop-number.invariant.later c.loop-number.number (omega arith) in
    record {
      attached = c.in-Ok.ensures.attached;
      first = c.in-Ok.ensures.first ∙ c.loop-number.invariant.first;
      trace = making_more content now (trace_of c.args.self.now) (trace_of c.loop-number.self) (trace_of c.make_absent.new.self) c.loop-number.number same c.loop-number.invariant.trace c.in-Ok.ensures.made;
      count = counting_more content now c.loop-number.number c.loop-number.made c.in-Ok.count same c.loop-number.invariant.count c.in-Ok.ensures.count;
      few = omega (arith, c.in-Ok.ensures.at_most, c.loop-number.invariant.few);
      later = λ j le. c.in-Ok.ensures.others j (λ e. omega (arith, e, le)) ∙ c.loop-number.invariant.later j (omega arith);
      readings = c.in-Ok.ensures.readings ∙ c.loop-number.invariant.readings;
      reads = c.in-Ok.ensures.reads ∙ c.loop-number.invariant.reads;
      room = c.in-Ok.ensures.room ∙ c.loop-number.invariant.room;
      disk = record {
        room = c.in-Ok.ensures.disk.room ∙ c.loop-number.invariant.disk.room;
        limit = c.in-Ok.ensures.disk.limit ∙ c.loop-number.invariant.disk.limit;
        faults = c.in-Ok.ensures.disk.faults ∙ c.loop-number.invariant.disk.faults;
      };
      listed = made_more content now c.loop-number.number c.args.self.now c.loop-number.self _ same c.loop-number.invariant.listed c.in-Ok.ensures.listed;
      counted = omega (arith, c.in-Ok.ensures.cause.later, c.loop-number.invariant.counted);
    }

pub returns-in-Err-clause-made : goal.returns-in-Err-clause-made
returns-in-Err-clause-made c =
    let content = present (history_of c.args.self.now) in
    let now = present (history_of c.loop-number.self) in
    let same = c.loop-number.invariant.later c.loop-number.number (omega arith) in
    let some = c.in-Err.ensures.some in
    let made = making_failed content now (trace_of c.args.self.now) (trace_of c.loop-number.self) (trace_of c.make_absent.new.self) c.loop-number.number some.0 some.1 c.loop-number-test.true same c.loop-number.invariant.trace some.2 some.3 in
    let first : first_files c.make_absent.new.self ≡ first_files c.args.self.now = c.in-Err.ensures.first ∙ c.loop-number.invariant.first in
    (made.0, made.1, made.2, same_history _ _ _ _ first made.3)

pub returns-in-Err-clause-listed : goal.returns-in-Err-clause-listed
returns-in-Err-clause-listed c =
    let content = present (history_of c.args.self.now) in
    let now = present (history_of c.loop-number.self) in
    let same = c.loop-number.invariant.later c.loop-number.number (omega arith) in
    made_failed content now c.loop-number.number c.args.self.now c.loop-number.self _ c.loop-number-test.true same c.loop-number.invariant.listed c.in-Err.ensures.failing
