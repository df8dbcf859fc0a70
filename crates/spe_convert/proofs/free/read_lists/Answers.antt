use Rattle.std.proofs.Common.{◌≡◌, ◌+◌, ◌++◌, ◌∙◌, ℕ, List, Option, Some, Err, arith, subst}
use Rattle.std.specs.Prelude.{get_or}
use Rattle.std.specs.Option.{option_map}
use Rattle.spe_model.specs.Paging.{Paging}
use Rattle.spe_model.specs.Trace.{History}
use Rattle.spe_convert.specs.Reading.{ReadsInto, WhereHeld, found_trunks, usable_of}
use Rattle.spe_convert.proofs.ReadLemmas.{lists_err, lists_left, lists_turn, where_both}
use Rattle.spe_convert.proofs.free.read_lists.Goals as goal

pub loop-left-preserved : goal.loop-left-preserved
loop-left-preserved g c =
    let found = c.args.found.now in
    let told = g.D.Disk.told c.args.disk.now in
    let usable = usable_of found in
    let left = c.loop-left.left.now in
    let K : Paging → Type 0 = λ pages. lists_left usable found.pages pages c.loop-left.free.items left ≡ lists_left usable found.pages pages c.args.free.now.items c.args.firsts.now in
    let R : Paging → Type 0 = λ pages. option_map (λ (ps : List ℕ). c.loop-left.free.items ++ ps) (found_trunks usable found.pages pages (found.pages + 1) (get_or left 0 0)) ≡ Some c.read_trunks.new.free.items in
    record {
      buf = omega (arith, c.read_trunks.auto.buf, c.loop-left.invariant.buf);
      same = c.in-Ok.ensures.same ∙ c.loop-left.invariant.same;
      attached = c.in-Ok.ensures.attached;
      later = omega (arith, c.in-Ok.ensures.cause.later, c.loop-left.invariant.later);
      operations = c.in-Ok.ensures.operations ∙ c.loop-left.invariant.operations;
      read = where_both told found K R _
          (λ pages kept read. lists_turn usable found.pages pages left c.loop-left.free.items c.read_trunks.new.free.items c.args.free.now.items c.args.firsts.now
          c.in-len1-up.len_at_least c.if-first-eq0.false kept read)
          c.loop-left.invariant.read (subst (λ (t : Option History). WhereHeld t found R) c.loop-left.invariant.same c.in-Ok.ensures.read);
    }

pub returns-in-Err-clause-read : goal.returns-in-Err-clause-read
returns-in-Err-clause-read g c =
    let found = c.args.found.now in
    let told = g.D.Disk.told c.args.disk.now in
    let usable = usable_of found in
    let left = c.loop-left.left.now in
    let K : Paging → Type 0 = λ pages. lists_left usable found.pages pages c.loop-left.free.items left ≡ lists_left usable found.pages pages c.args.free.now.items c.args.firsts.now in
    let R : Paging → Type 0 = λ pages. ReadsInto {T = Unit {0}} c.loop-left.free.items c.read_trunks.new.free.items (Err c.in-Err.fault) (found_trunks usable found.pages pages (found.pages + 1) (get_or left 0 0)) in
    where_both told found K R _
    (λ pages kept read. lists_err usable found.pages pages left c.loop-left.free.items c.read_trunks.new.free.items c.args.free.now.items c.args.firsts.now c.in-Err.fault
    c.in-len1-up.len_at_least c.if-first-eq0.false kept read)
    c.loop-left.invariant.read (subst (λ (t : Option History). WhereHeld t found R) c.loop-left.invariant.same c.in-Err.ensures.read)
