use Rattle.std.proofs.Common.{◌≡◌, ◌≤◌, ◌+◌, length, true}
use Rattle.spe_rewrite.specs.Rewrite.{old_changes}
use Rattle.spe_rewrite.specs.Told.{KeepsFile}
use Rattle.spe_rewrite.proofs.SaveLemmas.{HasSavingsLeft, IsPlaced}
use Rattle.spe_rewrite.proofs.journal.save_pages.Given as goal

abbrev pub invariant-loop-left : goal.invariant-loop-left
invariant-loop-left g l = record {
  attached : g.D.Disk.attached l.disk ≡ true;
  reads_later : g.D.Disk.read_faults l.fn.disk ≤ g.D.Disk.read_faults l.disk;
  ops_later : g.D.Disk.op_faults l.fn.disk ≤ g.D.Disk.op_faults l.disk;
  page : length l.page ≡ length l.fn.page;
  piece : length l.piece ≡ length l.fn.page + 8;
  placed : IsPlaced l.saved l.left;
  count : l.saved + length (old_changes l.count l.left) ≡ length (old_changes l.count l.changes);
  keeps : KeepsFile (g.D.Disk.told l.fn.disk) (g.D.Disk.told l.disk);
  begun : HasSavingsLeft (length l.fn.page) l.nonce l.count l.saved (g.D.Disk.told l.fn.disk) (g.D.Disk.told l.disk) l.changes l.left;
}

abbrev pub decreases-loop-left : goal.decreases-loop-left
decreases-loop-left g l = length l.left
