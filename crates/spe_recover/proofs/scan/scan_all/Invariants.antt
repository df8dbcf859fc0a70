use Rattle.std.proofs.Common.{◌≡◌, ◌≤◌, ◌+◌, ◌-◌, length, true}
use Rattle.spe_disk.specs.Added.{IfTold}
use Rattle.spe_recover.proofs.ScanLemmas.{AreLeft}
use Rattle.spe_recover.proofs.scan.scan_all.Given as goal

abbrev pub invariant-loop-id : goal.invariant-loop-id
invariant-loop-id g l = record {
  attached : g.D.Disk.attached l.disk ≡ true;
  same : g.D.Disk.told l.disk ≡ g.D.Disk.told l.fn.disk;
  operations : g.D.Disk.op_faults l.disk ≡ g.D.Disk.op_faults l.fn.disk;
  later : g.D.Disk.read_faults l.fn.disk ≤ g.D.Disk.read_faults l.disk;
  few : l.id ≤ 16;
  page : length l.buf ≡ l.page_size + 8;
  kept : IfTold (g.D.Disk.told l.fn.disk) (AreLeft l.page_size l.id l.fn.seen l.seen);
}

abbrev pub decreases-loop-id : goal.decreases-loop-id
decreases-loop-id g l = 16 - l.id
