use Rattle.std.proofs.Common.{◌≡◌, ◌≤◌, ◌++◌, length, true, List, ℕ}
use Rattle.std.specs.Option.{option_map}
use Rattle.spe_convert.specs.Reading.{WhereHeld, found_lists, usable_of}
use Rattle.spe_convert.proofs.free.read_lists.Given as goal

abbrev pub invariant-loop-left : goal.invariant-loop-left
invariant-loop-left g l = record {
  buf : length l.buf ≡ l.fn.found.page_size;
  same : g.D.Disk.told l.disk ≡ g.D.Disk.told l.fn.disk;
  attached : g.D.Disk.attached l.disk ≡ true;
  later : g.D.Disk.read_faults l.fn.disk ≤ g.D.Disk.read_faults l.disk;
  operations : g.D.Disk.op_faults l.disk ≡ g.D.Disk.op_faults l.fn.disk;
  read : WhereHeld (g.D.Disk.told l.fn.disk) l.fn.found (λ pages.
      option_map (λ (ps : List ℕ). l.free.items ++ ps) (found_lists (usable_of l.fn.found) l.fn.found.pages pages l.left)
      ≡ option_map (λ (ps : List ℕ). l.fn.free.items ++ ps) (found_lists (usable_of l.fn.found) l.fn.found.pages pages l.fn.firsts));
}

abbrev pub decreases-loop-left : goal.decreases-loop-left
decreases-loop-left g l = length l.left
