use Rattle.std.proofs.Common.{◌≡◌, ◌≤◌, ◌-◌, length, true}
use Rattle.spe_disk.specs.Added.{IfTold}
use Rattle.spe_recover.proofs.HeadLemmas.{AreFirst}
use Rattle.spe_recover.proofs.heads.read_heads.Given as goal

abbrev pub invariant-loop-id : goal.invariant-loop-id
invariant-loop-id g l = record {
  attached : g.D.Disk.attached l.disk ≡ true;
  same : g.D.Disk.told l.disk ≡ g.D.Disk.told l.fn.disk;
  operations : g.D.Disk.op_faults l.disk ≡ g.D.Disk.op_faults l.fn.disk;
  later : g.D.Disk.read_faults l.fn.disk ≤ g.D.Disk.read_faults l.disk;
  few : l.id ≤ 16;
  long : length l.heads ≡ 16;
  known : IfTold (g.D.Disk.told l.fn.disk) (AreFirst l.page_size l.id l.heads);
}

abbrev pub decreases-loop-id : goal.decreases-loop-id
decreases-loop-id g l = 16 - l.id
