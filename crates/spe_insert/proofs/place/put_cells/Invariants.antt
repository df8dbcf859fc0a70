use Rattle.std.specs.Prelude.{◌≡◌, ◌≤◌, ◌++◌, take, drop, length}
use Rattle.spe_insert.proofs.place.put_cells.Given as goal

abbrev pub invariant-loop-cell : goal.invariant-loop-cell
invariant-loop-cell l = record {
  all : take l.place l.all.items ++ (l.left.items ++ drop l.place l.all.items) ≡ take l.place l.fn.cells.items ++ (l.fn.new.items ++ drop l.place l.fn.cells.items);
  within : l.place ≤ length l.all.items;
}

abbrev pub decreases-loop-cell : goal.decreases-loop-cell
decreases-loop-cell l = length l.left.items
