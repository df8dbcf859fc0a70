use Rattle.std.proofs.Common.{ℕ, List, Option, Err, arith, inr, subst}
use Rattle.spe_model.specs.Faults.{Rose}
use Rattle.spe_model.specs.Settled.{page_in}
use Rattle.spe_model.specs.Trace.{History}
use Rattle.spe_disk.specs.Told.{absent_journals, makings}
use Rattle.spe_rewrite.specs.Idle.{AreIdle}
use Rattle.spe_disk.specs.Added.{AddsSome, IfTold}
use Rattle.spe_rewrite.specs.Turns.{KeepsIdle}
use Rattle.spe_convert.specs.declared.fault.ConvertFault.TheVariants.{Disk}
use Rattle.spe_convert.specs.declared.preparing.Planned.{Planned}
use Rattle.spe_convert.specs.Free.{IsDamage}
use Rattle.spe_convert.specs.Prepare.{IsFullWhere, IsPreparedExactly}
use Rattle.spe_convert.specs.Reading.{usable_of}
use Rattle.spe_convert.proofs.RefusalLemmas.{cause_late, cause_refused, damage_late, full_late, late_other, prepared_late}
use Rattle.spe_convert.proofs.ServerLemmas.{Rewrote, damage_refused, first_may_told, found_always, full_done, full_refused, part_first_told, part_second_told, part_unmade, part_unplanned, prepared_done, prepared_refused, second_may_told, whole_second_told}
use Rattle.spe_convert.proofs.WholeLemmas.{IsMade}
use Rattle.spe_convert.proofs.preparing.prepare.Goals as goal

pub returns-in-Err-clause-stops : goal.returns-in-Err-clause-stops
returns-in-Err-clause-stops g c =
    let found = c.args.found.now in
    let told = g.D.Disk.told c.args.disk.now in
    part_unplanned c.recovered_pages.ensures.headed c.recovered_pages.ensures.whole found c.requires.limits c.args.lists c.requires.some c.requires.few told (g.D.Disk.told c.plan_server.new.disk) c.in-Err.ensures.same

pub returns-in-Err-clause-prepared : goal.returns-in-Err-clause-prepared
returns-in-Err-clause-prepared g c =
    let found = c.args.found.now in
    let told = g.D.Disk.told c.args.disk.now in
    prepared_refused c.recovered_pages.ensures.headed c.recovered_pages.ensures.whole found c.requires.limits c.args.lists c.requires.some c.requires.few Planned told c.in-Err.fault (g.met.D.Disk.whole c.args.disk.now) c.in-Err.ensures.refused

pub returns-in-Err-clause-full : goal.returns-in-Err-clause-full
returns-in-Err-clause-full g c =
    let found = c.args.found.now in
    let told = g.D.Disk.told c.args.disk.now in
    full_refused c.recovered_pages.ensures.headed c.recovered_pages.ensures.whole found c.requires.limits c.args.lists c.requires.some c.requires.few Planned told c.in-Err.fault (g.met.D.Disk.whole c.args.disk.now) c.in-Err.ensures.refused

pub returns-in-Err-clause-sound : goal.returns-in-Err-clause-sound
returns-in-Err-clause-sound g c =
    let found = c.args.found.now in
    let told = g.D.Disk.told c.args.disk.now in
    damage_refused c.recovered_pages.ensures.headed c.recovered_pages.ensures.whole found c.requires.limits c.args.lists c.requires.some c.requires.few Planned told c.in-Err.fault (g.met.D.Disk.whole c.args.disk.now) c.in-Err.ensures.refused

pub returns-in-Err-clause-cause : goal.returns-in-Err-clause-cause
returns-in-Err-clause-cause g c =
    cause_refused (g.D.Disk.read_faults c.args.disk.now) (g.D.Disk.read_faults c.plan_server.new.disk) (g.D.Disk.op_faults c.args.disk.now) (g.D.Disk.op_faults c.plan_server.new.disk) c.in-Err.fault c.in-Err.ensures.operations c.in-Err.ensures.cause

pub returns-in-Err-make_journals-clause-stops : goal.returns-in-Err-make_journals-clause-stops
returns-in-Err-make_journals-clause-stops g c =
    let found = c.args.found.now in
    let told = g.D.Disk.told c.args.disk.now in
    part_unmade c.recovered_pages.ensures.headed c.recovered_pages.ensures.whole found c.requires.limits c.args.lists c.requires.some c.requires.few told (g.D.Disk.told c.make_journals.new.disk) c.in-Ok.plan.count c.in-Ok.plan.first c.in-Ok.plan.second (g.met.D.Disk.whole c.args.disk.now) c.in-Ok.ensures.plans
    (subst (λ (t : Option History). IfTold t (λ content. AddsSome t (g.D.Disk.told c.make_journals.new.disk) (λ ops. (size : ℕ) (pages : List (List ℕ)) → AreIdle size content pages → KeepsIdle size content (makings (absent_journals content)) ops pages))) c.in-Ok.ensures.same c.in-Err-make_journals.ensures.stops)

pub returns-in-Err-make_journals-clause-prepared : goal.returns-in-Err-make_journals-clause-prepared
returns-in-Err-make_journals-clause-prepared g c =
    let found = c.args.found.now in
    let told = g.D.Disk.told c.args.disk.now in
    found_always c.recovered_pages.ensures.headed c.recovered_pages.ensures.whole found c.requires.limits c.args.lists c.requires.some c.requires.few told (λ pages. IsPreparedExactly (Err Disk) (page_in pages)) (λ pages. tt)

pub returns-in-Err-make_journals-clause-full : goal.returns-in-Err-make_journals-clause-full
returns-in-Err-make_journals-clause-full g c =
    let found = c.args.found.now in
    let told = g.D.Disk.told c.args.disk.now in
    found_always c.recovered_pages.ensures.headed c.recovered_pages.ensures.whole found c.requires.limits c.args.lists c.requires.some c.requires.few told (λ pages. IsFullWhere found c.args.lists (Err Disk) (page_in pages)) (λ pages. λ db s. tt)

pub returns-in-Err-make_journals-clause-sound : goal.returns-in-Err-make_journals-clause-sound
returns-in-Err-make_journals-clause-sound g c =
    let found = c.args.found.now in
    let told = g.D.Disk.told c.args.disk.now in
    found_always c.recovered_pages.ensures.headed c.recovered_pages.ensures.whole found c.requires.limits c.args.lists c.requires.some c.requires.few told (λ pages. IsDamage (usable_of found) found.pages Disk (page_in pages)) (λ pages. tt)

pub returns-in-Err-make_journals-clause-cause : goal.returns-in-Err-make_journals-clause-cause
returns-in-Err-make_journals-clause-cause g c =
    record {
      reads_later = omega (arith, c.in-Ok.ensures.cause.later, c.in-Err-make_journals.ensures.readings);
      ops_later = omega (arith, c.in-Ok.ensures.operations, c.in-Err-make_journals.ensures.cause.later);
      failed = inr (subst (λ (n : ℕ). Rose n (g.D.Disk.op_faults c.make_journals.new.disk)) c.in-Ok.ensures.operations c.in-Err-make_journals.ensures.cause.failed);
    }

pub rewrite-requires-clause-may : goal.rewrite-requires-clause-may
rewrite-requires-clause-may g c =
    let found = c.args.found.now in
    let told = g.D.Disk.told c.args.disk.now in
    let mid = g.D.Disk.told c.make_journals.new.disk in
    let at : IsMade found (g.D.Disk.told c.plan_server.new.disk) mid c.in-Ok-make_journals.made = record {
      adds = c.in-Ok-make_journals.ensures.made;
      counted_is = c.in-Ok-make_journals.ensures.counted;
      idle = c.in-Ok-make_journals.ensures.idle;
      stops = c.in-Ok-make_journals.ensures.stops;
      places = g.met.D.Disk.whole c.plan_server.new.disk;
    } in
    let m : IsMade found told mid c.in-Ok-make_journals.made = subst (λ (t : Option History). IsMade found t mid c.in-Ok-make_journals.made) c.in-Ok.ensures.same at in
    first_may_told c.recovered_pages.ensures.headed c.recovered_pages.ensures.whole found c.requires.limits c.args.lists c.requires.some c.requires.few told mid c.in-Ok-make_journals.made c.in-Ok.plan.count c.in-Ok.plan.first c.in-Ok.plan.second m c.requires.found c.in-Ok.ensures.plans c.in-Ok.ensures.first c.in-Ok.ensures.second

pub rewrite-requires-2-clause-may : goal.rewrite-requires-2-clause-may
rewrite-requires-2-clause-may g c =
    let found = c.args.found.now in
    let told = g.D.Disk.told c.args.disk.now in
    let mid = g.D.Disk.told c.make_journals.new.disk in
    let at : IsMade found (g.D.Disk.told c.plan_server.new.disk) mid c.in-Ok-make_journals.made = record {
      adds = c.in-Ok-make_journals.ensures.made;
      counted_is = c.in-Ok-make_journals.ensures.counted;
      idle = c.in-Ok-make_journals.ensures.idle;
      stops = c.in-Ok-make_journals.ensures.stops;
      places = g.met.D.Disk.whole c.plan_server.new.disk;
    } in
    let m : IsMade found told mid c.in-Ok-make_journals.made = subst (λ (t : Option History). IsMade found t mid c.in-Ok-make_journals.made) c.in-Ok.ensures.same at in
    let next = g.D.Disk.told c.rewrite.new.disk in
    let r : Rewrote c.recovered_pages.ensures.headed c.recovered_pages.ensures.whole found c.requires.limits c.args.lists c.requires.some c.requires.few mid next c.in-Ok-make_journals.made c.in-Ok-rewrite.counted c.in-Ok.plan.first = record {
      adds = c.in-Ok-rewrite.ensures.made;
      counted_is = c.in-Ok-rewrite.ensures.counted;
      idle = c.in-Ok-rewrite.ensures.rewritten;
      stops = c.in-Ok-rewrite.ensures.stops;
    } in
    second_may_told c.recovered_pages.ensures.headed c.recovered_pages.ensures.whole found c.requires.limits c.args.lists c.requires.some c.requires.few told mid next c.in-Ok-make_journals.made c.in-Ok-rewrite.counted c.in-Ok.plan.count c.in-Ok.plan.first c.in-Ok.plan.second m r c.requires.found c.in-Ok.ensures.plans c.in-Ok.ensures.first c.in-Ok.ensures.second

pub returns-in-Err-rewrite-clause-stops : goal.returns-in-Err-rewrite-clause-stops
returns-in-Err-rewrite-clause-stops g c =
    let found = c.args.found.now in
    let told = g.D.Disk.told c.args.disk.now in
    let mid = g.D.Disk.told c.make_journals.new.disk in
    let at : IsMade found (g.D.Disk.told c.plan_server.new.disk) mid c.in-Ok-make_journals.made = record {
      adds = c.in-Ok-make_journals.ensures.made;
      counted_is = c.in-Ok-make_journals.ensures.counted;
      idle = c.in-Ok-make_journals.ensures.idle;
      stops = c.in-Ok-make_journals.ensures.stops;
      places = g.met.D.Disk.whole c.plan_server.new.disk;
    } in
    let m : IsMade found told mid c.in-Ok-make_journals.made = subst (λ (t : Option History). IsMade found t mid c.in-Ok-make_journals.made) c.in-Ok.ensures.same at in
    part_first_told c.recovered_pages.ensures.headed c.recovered_pages.ensures.whole found c.requires.limits c.args.lists c.requires.some c.requires.few told mid (g.D.Disk.told c.rewrite.new.disk) c.in-Ok-make_journals.made c.in-Ok.plan.count c.in-Ok.plan.first c.in-Ok.plan.second m c.in-Ok.ensures.plans c.in-Ok.ensures.first c.in-Ok.ensures.second c.in-Err-rewrite.ensures.stops

pub returns-in-Err-rewrite-clause-prepared : goal.returns-in-Err-rewrite-clause-prepared
returns-in-Err-rewrite-clause-prepared g c =
    let found = c.args.found.now in
    let told = g.D.Disk.told c.args.disk.now in
    found_always c.recovered_pages.ensures.headed c.recovered_pages.ensures.whole found c.requires.limits c.args.lists c.requires.some c.requires.few told (λ pages. IsPreparedExactly (Err c.fault_of.result) (page_in pages)) (λ pages. prepared_late (page_in pages) c.in-Err-rewrite.fault c.fault_of.result c.fault_of.ensures)

pub returns-in-Err-rewrite-clause-full : goal.returns-in-Err-rewrite-clause-full
returns-in-Err-rewrite-clause-full g c =
    let found = c.args.found.now in
    let told = g.D.Disk.told c.args.disk.now in
    found_always c.recovered_pages.ensures.headed c.recovered_pages.ensures.whole found c.requires.limits c.args.lists c.requires.some c.requires.few told (λ pages. IsFullWhere found c.args.lists (Err c.fault_of.result) (page_in pages)) (λ pages. full_late found c.args.lists (page_in pages) c.in-Err-rewrite.fault c.fault_of.result c.fault_of.ensures)

pub returns-in-Err-rewrite-clause-sound : goal.returns-in-Err-rewrite-clause-sound
returns-in-Err-rewrite-clause-sound g c =
    let found = c.args.found.now in
    let told = g.D.Disk.told c.args.disk.now in
    found_always c.recovered_pages.ensures.headed c.recovered_pages.ensures.whole found c.requires.limits c.args.lists c.requires.some c.requires.few told (λ pages. IsDamage (usable_of found) found.pages c.fault_of.result (page_in pages)) (λ pages. damage_late (usable_of found) found.pages (page_in pages) c.in-Err-rewrite.fault c.fault_of.result c.fault_of.ensures)

pub returns-in-Err-rewrite-clause-untouched : goal.returns-in-Err-rewrite-clause-untouched
returns-in-Err-rewrite-clause-untouched g c =
    λ a b. absurd (late_other c.in-Err-rewrite.fault c.fault_of.result c.fault_of.ensures a b)

pub returns-in-Err-rewrite-clause-cause : goal.returns-in-Err-rewrite-clause-cause
returns-in-Err-rewrite-clause-cause g c =
    cause_late (g.D.Disk.read_faults c.args.disk.now) (g.D.Disk.read_faults c.make_journals.new.disk) (g.D.Disk.read_faults c.rewrite.new.disk) (g.D.Disk.op_faults c.args.disk.now) (g.D.Disk.op_faults c.make_journals.new.disk) (g.D.Disk.op_faults c.rewrite.new.disk) c.in-Err-rewrite.fault c.fault_of.result
    (omega (arith, c.in-Ok.ensures.cause.later, c.in-Ok-make_journals.ensures.readings)) (omega (arith, c.in-Ok.ensures.operations, c.in-Ok-make_journals.ensures.cause.later)) c.fault_of.ensures c.in-Err-rewrite.ensures.cause

pub returns-in-Ok-rewrite-2-clause-whole : goal.returns-in-Ok-rewrite-2-clause-whole
returns-in-Ok-rewrite-2-clause-whole g c =
    let found = c.args.found.now in
    let told = g.D.Disk.told c.args.disk.now in
    let mid = g.D.Disk.told c.make_journals.new.disk in
    let at : IsMade found (g.D.Disk.told c.plan_server.new.disk) mid c.in-Ok-make_journals.made = record {
      adds = c.in-Ok-make_journals.ensures.made;
      counted_is = c.in-Ok-make_journals.ensures.counted;
      idle = c.in-Ok-make_journals.ensures.idle;
      stops = c.in-Ok-make_journals.ensures.stops;
      places = g.met.D.Disk.whole c.plan_server.new.disk;
    } in
    let m : IsMade found told mid c.in-Ok-make_journals.made = subst (λ (t : Option History). IsMade found t mid c.in-Ok-make_journals.made) c.in-Ok.ensures.same at in
    let next = g.D.Disk.told c.rewrite.new.disk in
    let r : Rewrote c.recovered_pages.ensures.headed c.recovered_pages.ensures.whole found c.requires.limits c.args.lists c.requires.some c.requires.few mid next c.in-Ok-make_journals.made c.in-Ok-rewrite.counted c.in-Ok.plan.first = record {
      adds = c.in-Ok-rewrite.ensures.made;
      counted_is = c.in-Ok-rewrite.ensures.counted;
      idle = c.in-Ok-rewrite.ensures.rewritten;
      stops = c.in-Ok-rewrite.ensures.stops;
    } in
    let q : Rewrote c.recovered_pages.ensures.headed c.recovered_pages.ensures.whole found c.requires.limits c.args.lists c.requires.some c.requires.few next (g.D.Disk.told c.rewrite-2.new.disk) c.in-Ok-rewrite.counted c.in-Ok-rewrite-2.field-0 c.in-Ok.plan.second = record {
      adds = c.in-Ok-rewrite-2.ensures.made;
      counted_is = c.in-Ok-rewrite-2.ensures.counted;
      idle = c.in-Ok-rewrite-2.ensures.rewritten;
      stops = c.in-Ok-rewrite-2.ensures.stops;
    } in
    whole_second_told c.recovered_pages.ensures.headed c.recovered_pages.ensures.whole found c.requires.limits c.args.lists c.requires.some c.requires.few told mid next (g.D.Disk.told c.rewrite-2.new.disk) c.in-Ok-make_journals.made c.in-Ok-rewrite.counted c.in-Ok-rewrite-2.field-0 c.in-Ok.plan.count c.in-Ok.plan.first c.in-Ok.plan.second m r c.in-Ok.ensures.plans c.in-Ok.ensures.first c.in-Ok.ensures.second q

pub returns-in-Ok-rewrite-2-clause-stops : goal.returns-in-Ok-rewrite-2-clause-stops
returns-in-Ok-rewrite-2-clause-stops g c =
    let found = c.args.found.now in
    let told = g.D.Disk.told c.args.disk.now in
    let mid = g.D.Disk.told c.make_journals.new.disk in
    let at : IsMade found (g.D.Disk.told c.plan_server.new.disk) mid c.in-Ok-make_journals.made = record {
      adds = c.in-Ok-make_journals.ensures.made;
      counted_is = c.in-Ok-make_journals.ensures.counted;
      idle = c.in-Ok-make_journals.ensures.idle;
      stops = c.in-Ok-make_journals.ensures.stops;
      places = g.met.D.Disk.whole c.plan_server.new.disk;
    } in
    let m : IsMade found told mid c.in-Ok-make_journals.made = subst (λ (t : Option History). IsMade found t mid c.in-Ok-make_journals.made) c.in-Ok.ensures.same at in
    let next = g.D.Disk.told c.rewrite.new.disk in
    let r : Rewrote c.recovered_pages.ensures.headed c.recovered_pages.ensures.whole found c.requires.limits c.args.lists c.requires.some c.requires.few mid next c.in-Ok-make_journals.made c.in-Ok-rewrite.counted c.in-Ok.plan.first = record {
      adds = c.in-Ok-rewrite.ensures.made;
      counted_is = c.in-Ok-rewrite.ensures.counted;
      idle = c.in-Ok-rewrite.ensures.rewritten;
      stops = c.in-Ok-rewrite.ensures.stops;
    } in
    part_second_told c.recovered_pages.ensures.headed c.recovered_pages.ensures.whole found c.requires.limits c.args.lists c.requires.some c.requires.few told mid next (g.D.Disk.told c.rewrite-2.new.disk) c.in-Ok-make_journals.made c.in-Ok-rewrite.counted c.in-Ok.plan.count c.in-Ok.plan.first c.in-Ok.plan.second m r c.in-Ok.ensures.plans c.in-Ok.ensures.first c.in-Ok.ensures.second c.in-Ok-rewrite-2.ensures.stops

pub returns-in-Ok-rewrite-2-clause-prepared : goal.returns-in-Ok-rewrite-2-clause-prepared
returns-in-Ok-rewrite-2-clause-prepared g c =
    let found = c.args.found.now in
    let told = g.D.Disk.told c.args.disk.now in
    prepared_done c.recovered_pages.ensures.headed c.recovered_pages.ensures.whole found c.requires.limits c.args.lists c.requires.some c.requires.few _ told c.in-Ok.plan c.in-Ok.plan.count (g.met.D.Disk.whole c.args.disk.now) c.in-Ok.ensures.refused

pub returns-in-Ok-rewrite-2-clause-full : goal.returns-in-Ok-rewrite-2-clause-full
returns-in-Ok-rewrite-2-clause-full g c =
    let found = c.args.found.now in
    let told = g.D.Disk.told c.args.disk.now in
    full_done c.recovered_pages.ensures.headed c.recovered_pages.ensures.whole found c.requires.limits c.args.lists c.requires.some c.requires.few told c.in-Ok.plan.count c.in-Ok.plan.count c.in-Ok.plan.first c.in-Ok.plan.second (g.met.D.Disk.whole c.args.disk.now) c.in-Ok.ensures.plans

pub returns-in-Ok-rewrite-2-clause-cause : goal.returns-in-Ok-rewrite-2-clause-cause
returns-in-Ok-rewrite-2-clause-cause g c =
    record {
      reads_later = omega (arith, c.in-Ok.ensures.cause.later, c.in-Ok-make_journals.ensures.readings, c.in-Ok-rewrite.ensures.cause.reads_later, c.in-Ok-rewrite-2.ensures.cause.reads_later);
      ops_later = omega (arith, c.in-Ok.ensures.operations, c.in-Ok-make_journals.ensures.cause.later, c.in-Ok-rewrite.ensures.cause.ops_later, c.in-Ok-rewrite-2.ensures.cause.ops_later);
      failed = tt;
    }

pub returns-clause-stops : goal.returns-clause-stops
returns-clause-stops g c =
    let found = c.args.found.now in
    let told = g.D.Disk.told c.args.disk.now in
    let mid = g.D.Disk.told c.make_journals.new.disk in
    let at : IsMade found (g.D.Disk.told c.plan_server.new.disk) mid c.in-Ok-make_journals.made = record {
      adds = c.in-Ok-make_journals.ensures.made;
      counted_is = c.in-Ok-make_journals.ensures.counted;
      idle = c.in-Ok-make_journals.ensures.idle;
      stops = c.in-Ok-make_journals.ensures.stops;
      places = g.met.D.Disk.whole c.plan_server.new.disk;
    } in
    let m : IsMade found told mid c.in-Ok-make_journals.made = subst (λ (t : Option History). IsMade found t mid c.in-Ok-make_journals.made) c.in-Ok.ensures.same at in
    let next = g.D.Disk.told c.rewrite.new.disk in
    let r : Rewrote c.recovered_pages.ensures.headed c.recovered_pages.ensures.whole found c.requires.limits c.args.lists c.requires.some c.requires.few mid next c.in-Ok-make_journals.made c.in-Ok-rewrite.counted c.in-Ok.plan.first = record {
      adds = c.in-Ok-rewrite.ensures.made;
      counted_is = c.in-Ok-rewrite.ensures.counted;
      idle = c.in-Ok-rewrite.ensures.rewritten;
      stops = c.in-Ok-rewrite.ensures.stops;
    } in
    part_second_told c.recovered_pages.ensures.headed c.recovered_pages.ensures.whole found c.requires.limits c.args.lists c.requires.some c.requires.few told mid next (g.D.Disk.told c.rewrite-2.new.disk) c.in-Ok-make_journals.made c.in-Ok-rewrite.counted c.in-Ok.plan.count c.in-Ok.plan.first c.in-Ok.plan.second m r c.in-Ok.ensures.plans c.in-Ok.ensures.first c.in-Ok.ensures.second c.in-Err-rewrite-2.ensures.stops

pub returns-clause-prepared : goal.returns-clause-prepared
returns-clause-prepared g c =
    let found = c.args.found.now in
    let told = g.D.Disk.told c.args.disk.now in
    found_always c.recovered_pages.ensures.headed c.recovered_pages.ensures.whole found c.requires.limits c.args.lists c.requires.some c.requires.few told (λ pages. IsPreparedExactly (Err c.fault_of-in-Err-rewrite-2.result) (page_in pages)) (λ pages. prepared_late (page_in pages) c.in-Err-rewrite-2.fault c.fault_of-in-Err-rewrite-2.result c.fault_of-in-Err-rewrite-2.ensures)

pub returns-clause-full : goal.returns-clause-full
returns-clause-full g c =
    let found = c.args.found.now in
    let told = g.D.Disk.told c.args.disk.now in
    found_always c.recovered_pages.ensures.headed c.recovered_pages.ensures.whole found c.requires.limits c.args.lists c.requires.some c.requires.few told (λ pages. IsFullWhere found c.args.lists (Err c.fault_of-in-Err-rewrite-2.result) (page_in pages)) (λ pages. full_late found c.args.lists (page_in pages) c.in-Err-rewrite-2.fault c.fault_of-in-Err-rewrite-2.result c.fault_of-in-Err-rewrite-2.ensures)

pub returns-clause-sound : goal.returns-clause-sound
returns-clause-sound g c =
    let found = c.args.found.now in
    let told = g.D.Disk.told c.args.disk.now in
    found_always c.recovered_pages.ensures.headed c.recovered_pages.ensures.whole found c.requires.limits c.args.lists c.requires.some c.requires.few told (λ pages. IsDamage (usable_of found) found.pages c.fault_of-in-Err-rewrite-2.result (page_in pages)) (λ pages. damage_late (usable_of found) found.pages (page_in pages) c.in-Err-rewrite-2.fault c.fault_of-in-Err-rewrite-2.result c.fault_of-in-Err-rewrite-2.ensures)

pub returns-clause-untouched : goal.returns-clause-untouched
returns-clause-untouched g c =
    λ a b. absurd (late_other c.in-Err-rewrite-2.fault c.fault_of-in-Err-rewrite-2.result c.fault_of-in-Err-rewrite-2.ensures a b)

pub returns-clause-cause : goal.returns-clause-cause
returns-clause-cause g c =
    cause_late (g.D.Disk.read_faults c.args.disk.now) (g.D.Disk.read_faults c.rewrite.new.disk) (g.D.Disk.read_faults c.rewrite-2.new.disk) (g.D.Disk.op_faults c.args.disk.now) (g.D.Disk.op_faults c.rewrite.new.disk) (g.D.Disk.op_faults c.rewrite-2.new.disk) c.in-Err-rewrite-2.fault c.fault_of-in-Err-rewrite-2.result
    (omega (arith, c.in-Ok.ensures.cause.later, c.in-Ok-make_journals.ensures.readings, c.in-Ok-rewrite.ensures.cause.reads_later)) (omega (arith, c.in-Ok.ensures.operations, c.in-Ok-make_journals.ensures.cause.later, c.in-Ok-rewrite.ensures.cause.ops_later)) c.fault_of-in-Err-rewrite-2.ensures c.in-Err-rewrite-2.ensures.cause
