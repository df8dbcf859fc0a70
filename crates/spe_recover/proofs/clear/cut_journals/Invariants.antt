use Rattle.std.proofs.Common.{◌≡◌, ◌≤◌, ◌-◌, true}
use Rattle.spe_recover.specs.Restored.{StaysFrom}
use Rattle.spe_recover.proofs.ClearLemmas.{AreUncut, HasCutsLeft}
use Rattle.spe_recover.proofs.clear.cut_journals.Given as goal

abbrev pub invariant-loop-id : goal.invariant-loop-id
invariant-loop-id g l = record {
  attached : g.D.Disk.attached l.disk ≡ true;
  readings : g.D.Disk.read_faults l.disk ≡ g.D.Disk.read_faults l.fn.disk;
  ops_later : g.D.Disk.op_faults l.fn.disk ≤ g.D.Disk.op_faults l.disk;
  number : l.id ≤ 16;
  few : l.made ≤ l.id;
  stays : StaysFrom l.id (g.D.Disk.told l.fn.disk) (g.D.Disk.told l.disk);
  cut : AreUncut l.id (g.D.Disk.told l.fn.disk) (g.D.Disk.told l.disk) l.made;
  begun : HasCutsLeft l.id (g.D.Disk.told l.fn.disk) (g.D.Disk.told l.disk);
}

abbrev pub decreases-loop-id : goal.decreases-loop-id
decreases-loop-id g l = 16 - l.id
