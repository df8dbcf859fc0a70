use Rattle.std.proofs.Common.{◌≡◌, ◌≤◌, ◌++◌, All, length, map, true}
use Rattle.spe_convert.specs.Changes.{before, change_of}
use Rattle.spe_convert.specs.Made.{HaveSize, IsWritable, changed_pages, heads}
use Rattle.spe_convert.specs.Reading.{WhereHeld, usable_of}
use Rattle.spe_convert.specs.Trunk.{room}
use Rattle.spe_convert.proofs.server.trunk_changes.Given as goal

abbrev pub invariant-loop-left : goal.invariant-loop-left
invariant-loop-left g l = record {
  buf : length l.buf ≡ l.fn.found.page_size;
  right : All (IsWritable (room (usable_of l.fn.found))) l.left;
  same : g.D.Disk.told l.disk ≡ g.D.Disk.told l.fn.disk;
  attached : g.D.Disk.attached l.disk ≡ true;
  later : g.D.Disk.read_faults l.fn.disk ≤ g.D.Disk.read_faults l.disk;
  operations : g.D.Disk.op_faults l.disk ≡ g.D.Disk.op_faults l.fn.disk;
  sized : HaveSize l.fn.found.page_size l.fn.changes.items → HaveSize l.fn.found.page_size l.changes.items;
  numbers : changed_pages l.changes.items ++ heads l.left ≡ changed_pages l.fn.changes.items ++ heads l.fn.trunks;
  made : WhereHeld (g.D.Disk.told l.fn.disk) l.fn.found (λ pages.
      l.changes.items ++ map (change_of (usable_of l.fn.found) (before l.fn.found.page_size l.fn.found.pages pages)) l.left
      ≡ l.fn.changes.items ++ map (change_of (usable_of l.fn.found) (before l.fn.found.page_size l.fn.found.pages pages)) l.fn.trunks);
}

abbrev pub decreases-loop-left : goal.decreases-loop-left
decreases-loop-left g l = length l.left
