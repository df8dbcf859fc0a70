use Rattle.std.proofs.Common.{◌≡◌, ◌+◌, ◌≤◌, length, true}
use Rattle.spe_convert.specs.Reading.{WhereHeld, usable_of}
use Rattle.spe_convert.proofs.ReadLemmas.{with_left}
use Rattle.spe_convert.proofs.trunks.read_trunks.Given as goal

abbrev pub invariant-trunks : goal.invariant-trunks
invariant-trunks g l = record {
  buf : length l.buf ≡ l.fn.found.page_size;
  same : g.D.Disk.told l.disk ≡ g.D.Disk.told l.fn.disk;
  attached : g.D.Disk.attached l.disk ≡ true;
  later : g.D.Disk.read_faults l.fn.disk ≤ g.D.Disk.read_faults l.disk;
  operations : g.D.Disk.op_faults l.disk ≡ g.D.Disk.op_faults l.fn.disk;
  read : WhereHeld (g.D.Disk.told l.fn.disk) l.fn.found (λ pages.
      with_left (usable_of l.fn.found) l.fn.found.pages pages l.free.items l.most l.trunk
      ≡ with_left (usable_of l.fn.found) l.fn.found.pages pages l.fn.free.items (l.fn.found.pages + 1) l.fn.first);
}

abbrev pub decreases-trunks : goal.decreases-trunks
decreases-trunks g l = l.most
