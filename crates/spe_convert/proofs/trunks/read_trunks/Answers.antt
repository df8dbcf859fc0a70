use Rattle.std.proofs.Common.{◌≡◌, ◌≢◌, ◌+◌, ◌-◌, ◌<◌, ◌∙◌, Option, Ok, Err, arith, subst}
use Rattle.spe_model.specs.Paging.{Paging}
use Rattle.spe_model.specs.Trace.{History}
use Rattle.spe_convert.specs.Reading.{ReadsTrunk, ReadsTrunks, WhereHeld, usable_of}
use Rattle.spe_convert.proofs.ReadLemmas.{trunks_end, trunks_err, trunks_turn, where_both, where_map, with_left}
use Rattle.spe_convert.proofs.trunks.read_trunks.Goals as goal

pub returns-in-Err-clause-read : goal.returns-in-Err-clause-read
returns-in-Err-clause-read g c =
    let found = c.args.found.now in
    let told = g.D.Disk.told c.args.disk.now in
    let usable = usable_of found in
    let some : c.trunks.trunk ≢ 0 = grind (arith, c.trunks-test.true) in
    let more : 0 < c.trunks.most = grind (arith, c.if-most-eq0.false) in
    let K : Paging → Type 0 = λ pages. with_left usable found.pages pages c.trunks.free.items c.trunks.most c.trunks.trunk
    ≡ with_left usable found.pages pages c.args.free.now.items (found.pages + 1) c.args.first in
    let R : Paging → Type 0 = ReadsTrunk usable found.pages c.trunks.trunk c.trunks.free.items c.read_trunk.new.free.items (Err c.in-Err.fault) in
    where_both told found K R (ReadsTrunks usable found.pages (found.pages + 1) c.args.first c.args.free.now.items c.read_trunk.new.free.items (Err c.in-Err.fault))
    (λ pages kept read. trunks_err usable found.pages c.trunks.most c.trunks.trunk c.args.first c.args.free.now.items c.trunks.free.items c.read_trunk.new.free.items c.in-Err.fault pages some more kept read)
    c.trunks.invariant.read (subst (λ (t : Option History). WhereHeld t found R) c.trunks.invariant.same c.in-Err.ensures.read)

pub trunks-preserved : goal.trunks-preserved
trunks-preserved g c =
    let found = c.args.found.now in
    let told = g.D.Disk.told c.args.disk.now in
    let usable = usable_of found in
    let some : c.trunks.trunk ≢ 0 = grind (arith, c.trunks-test.true) in
    let more : 0 < c.trunks.most = grind (arith, c.if-most-eq0.false) in
    let K : Paging → Type 0 = λ pages. with_left usable found.pages pages c.trunks.free.items c.trunks.most c.trunks.trunk
    ≡ with_left usable found.pages pages c.args.free.now.items (found.pages + 1) c.args.first in
    let R : Paging → Type 0 = ReadsTrunk usable found.pages c.trunks.trunk c.trunks.free.items c.read_trunk.new.free.items (Ok c.in-Ok.next) in
    let N : Paging → Type 0 = λ pages. with_left usable found.pages pages c.read_trunk.new.free.items (c.trunks.most - 1) c.in-Ok.next
    ≡ with_left usable found.pages pages c.args.free.now.items (found.pages + 1) c.args.first in
    record {
      buf = omega (arith, c.read_trunk.auto.buf, c.trunks.invariant.buf);
      same = c.in-Ok.ensures.same ∙ c.trunks.invariant.same;
      attached = c.in-Ok.ensures.attached;
      later = omega (arith, c.in-Ok.ensures.cause.later, c.trunks.invariant.later);
      operations = c.in-Ok.ensures.operations ∙ c.trunks.invariant.operations;
      read = where_both told found K R N
          (λ pages kept read. trunks_turn usable found.pages c.trunks.most c.trunks.trunk c.args.first c.in-Ok.next c.args.free.now.items c.trunks.free.items c.read_trunk.new.free.items pages some more kept read)
          c.trunks.invariant.read (subst (λ (t : Option History). WhereHeld t found R) c.trunks.invariant.same c.in-Ok.ensures.read);
    }

pub returns-clause-read : goal.returns-clause-read
returns-clause-read g c =
    let found = c.args.found.now in
    let told = g.D.Disk.told c.args.disk.now in
    let usable = usable_of found in
    let K : Paging → Type 0 = λ pages. with_left usable found.pages pages c.trunks.free.items c.trunks.most c.trunks.trunk
    ≡ with_left usable found.pages pages c.args.free.now.items (found.pages + 1) c.args.first in
    where_map told found K (ReadsTrunks usable found.pages (found.pages + 1) c.args.first c.args.free.now.items c.trunks.free.items (Ok tt))
    (λ pages kept. trunks_end usable found.pages c.trunks.most c.trunks.trunk c.args.first c.args.free.now.items c.trunks.free.items pages c.trunks-test.false kept)
    c.trunks.invariant.read
