use Rattle.std.proofs.Common.{◌≡◌, ◌≤◌, ◌+◌, ◌*◌, ◌-◌, ◌^◌, length, true}
use Rattle.spe_recover.specs.Restored.{Stays}
use Rattle.spe_disk.specs.Added.{IfTold}
use Rattle.spe_recover.proofs.LeftLemmas.{HasRecordsLeft}
use Rattle.spe_recover.proofs.TurnLemmas.{IsDue}
use Rattle.spe_recover.proofs.restore.restore_records.Given as goal

abbrev pub invariant-loop-left : goal.invariant-loop-left
invariant-loop-left g l = record {
  attached : g.D.Disk.attached l.disk ≡ true;
  reads_later : g.D.Disk.read_faults l.fn.disk ≤ g.D.Disk.read_faults l.disk;
  ops_later : g.D.Disk.op_faults l.fn.disk ≤ g.D.Disk.op_faults l.disk;
  size : l.size ≡ l.page_size + 8;
  page : length l.buf ≡ l.page_size + 8;
  from : 512 ≤ l.at;
  reach : l.at + l.left ≡ 512 + (l.journal.length - 512);
  few : l.made * 520 + l.left ≤ 2 ^ 64;
  stays : Stays (g.D.Disk.told l.fn.disk) (g.D.Disk.told l.disk);
  restored : IfTold (g.D.Disk.told l.fn.disk) (IsDue l.journal.id l.journal.nonce l.page_size l.pages l.at (g.D.Disk.told l.fn.disk) (g.D.Disk.told l.disk) l.fn.holders l.holders l.made);
  begun : IfTold (g.D.Disk.told l.fn.disk) (HasRecordsLeft l.journal.id l.journal.nonce l.page_size l.pages l.at (g.D.Disk.told l.fn.disk) (g.D.Disk.told l.disk) l.fn.holders l.holders);
}

abbrev pub decreases-loop-left : goal.decreases-loop-left
decreases-loop-left g l = l.left
