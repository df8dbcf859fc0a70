use Rattle.std.proofs.Common.{◌≡◌, ◌≤◌, ◌+◌, ◌*◌, ◌-◌, ◌^◌, length, true}
use Rattle.spe_recover.specs.Restored.{Stays}
use Rattle.spe_disk.specs.Added.{IfTold}
use Rattle.spe_recover.proofs.LeftLemmas.{HasJournalsLeft}
use Rattle.spe_recover.proofs.TurnLemmas.{AreDue}
use Rattle.spe_recover.proofs.restore.restore_all.Given as goal

abbrev pub invariant-loop-id : goal.invariant-loop-id
invariant-loop-id g l = record {
  attached : g.D.Disk.attached l.disk ≡ true;
  reads_later : g.D.Disk.read_faults l.fn.disk ≤ g.D.Disk.read_faults l.disk;
  ops_later : g.D.Disk.op_faults l.fn.disk ≤ g.D.Disk.op_faults l.disk;
  page : length l.buf ≡ l.page_size + 8;
  number : l.id ≤ 16;
  few : l.made * 520 ≤ l.id * 2 ^ 64;
  stays : Stays (g.D.Disk.told l.fn.disk) (g.D.Disk.told l.disk);
  restored : IfTold (g.D.Disk.told l.fn.disk) (AreDue l.page_size l.pages l.id (g.D.Disk.told l.fn.disk) (g.D.Disk.told l.disk) l.fn.holders l.holders l.made);
  begun : IfTold (g.D.Disk.told l.fn.disk) (HasJournalsLeft l.page_size l.pages l.id (g.D.Disk.told l.fn.disk) (g.D.Disk.told l.disk) l.fn.holders l.holders);
}

abbrev pub decreases-loop-id : goal.decreases-loop-id
decreases-loop-id g l = 16 - l.id
