use Rattle.std.proofs.Common.{◌≡◌, ◌≤◌, ◌++◌, All, length, map, true}
use Rattle.spe_model.specs.Standing.{IsOneOf}
use Rattle.spe_convert.specs.Changes.{change_of}
use Rattle.spe_convert.specs.Dealt.{chained}
use Rattle.spe_convert.specs.Made.{HaveSize, changed_pages, heads}
use Rattle.spe_convert.specs.Reading.{WhereHeld, usable_of}
use Rattle.spe_convert.specs.Trunk.{room}
use Rattle.spe_convert.proofs.stock.chain_changes.Given as goal

abbrev pub invariant-loop-left : goal.invariant-loop-left
invariant-loop-left g l = record {
  most : l.most ≡ room (usable_of l.fn.found);
  buf : length l.buf ≡ l.fn.found.page_size;
  inside : All (IsOneOf l.fn.found.pages) l.left;
  same : g.D.Disk.told l.disk ≡ g.D.Disk.told l.fn.disk;
  attached : g.D.Disk.attached l.disk ≡ true;
  later : g.D.Disk.read_faults l.fn.disk ≤ g.D.Disk.read_faults l.disk;
  operations : g.D.Disk.op_faults l.disk ≡ g.D.Disk.op_faults l.fn.disk;
  sized : HaveSize l.fn.found.page_size l.fn.changes.items → HaveSize l.fn.found.page_size l.changes.items;
  numbers : changed_pages l.changes.items ++ heads (chained (room (usable_of l.fn.found)) (length l.left) l.left)
      ≡ changed_pages l.fn.changes.items ++ heads (chained (room (usable_of l.fn.found)) (length l.fn.free) l.fn.free);
  made : WhereHeld (g.D.Disk.told l.fn.disk) l.fn.found (λ pages.
      l.changes.items ++ map (change_of (usable_of l.fn.found) pages) (chained (room (usable_of l.fn.found)) (length l.left) l.left)
      ≡ l.fn.changes.items ++ map (change_of (usable_of l.fn.found) pages) (chained (room (usable_of l.fn.found)) (length l.fn.free) l.fn.free));
}

abbrev pub decreases-loop-left : goal.decreases-loop-left
decreases-loop-left g l = length l.left
