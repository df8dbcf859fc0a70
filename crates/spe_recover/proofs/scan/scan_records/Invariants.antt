use Rattle.std.proofs.Common.{◌≡◌, ◌≤◌, ◌+◌, ◌-◌, length, true}
use Rattle.spe_disk.specs.Added.{IfTold}
use Rattle.spe_recover.proofs.ScanLemmas.{IsLeft}
use Rattle.spe_recover.proofs.scan.scan_records.Given as goal

abbrev pub invariant-loop-left : goal.invariant-loop-left
invariant-loop-left g l = record {
  attached : g.D.Disk.attached l.disk ≡ true;
  same : g.D.Disk.told l.disk ≡ g.D.Disk.told l.fn.disk;
  operations : g.D.Disk.op_faults l.disk ≡ g.D.Disk.op_faults l.fn.disk;
  later : g.D.Disk.read_faults l.fn.disk ≤ g.D.Disk.read_faults l.disk;
  size : l.size ≡ l.page_size + 8;
  page : length l.buf ≡ l.page_size + 8;
  from : 512 ≤ l.at;
  reach : l.at + l.left ≡ 512 + (l.end - 512);
  kept : IfTold (g.D.Disk.told l.fn.disk) (IsLeft l.id l.nonce l.page_size l.at l.fn.seen l.seen);
}

abbrev pub decreases-loop-left : goal.decreases-loop-left
decreases-loop-left g l = l.left
