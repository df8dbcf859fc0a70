use Rattle.std.proofs.Common.{◌≡◌, ◌≤◌, length, map, true}
use Rattle.std.specs.Prelude.{All}
use Rattle.spe_rewrite.specs.declared.change.Change.{Change}
use Rattle.spe_rewrite.specs.Rewrite.{putting}
use Rattle.spe_rewrite.proofs.LeftLemmas.{HasLeft}
use Rattle.spe_rewrite.proofs.PutLemmas.{IsAscending}
use Rattle.spe_rewrite.proofs.put.put_pages.Given as goal

abbrev pub invariant-loop-left : goal.invariant-loop-left
invariant-loop-left g l = record {
  attached : g.D.Disk.attached l.disk ≡ true;
  readings : g.D.Disk.read_faults l.disk ≡ g.D.Disk.read_faults l.fn.disk;
  ops_later : g.D.Disk.op_faults l.fn.disk ≤ g.D.Disk.op_faults l.disk;
  ascending : IsAscending l.left;
  whole : All (λ (c : Change). length c.bytes ≡ l.page_size) l.left;
  begun : HasLeft (g.D.Disk.told l.fn.disk) (g.D.Disk.told l.disk) (map (putting l.page_size) l.changes) (map (putting l.page_size) l.left);
}

abbrev pub decreases-loop-left : goal.decreases-loop-left
decreases-loop-left g l = length l.left
