use Rattle.std.proofs.Common.{◌≡◌, not, ◌&&◌, length}
use Rattle.std.specs.List.{list_any}
use Rattle.spe_model.specs.Definition.{are_distinct, names_of}
use Rattle.spe_catalog.specs.Names.{has_name}
use Rattle.spe_catalog.proofs.table.are_distinct.Given as goal

abbrev pub invariant-loop-left : goal.invariant-loop-left
invariant-loop-left l = are_distinct (names_of l.fn.columns) ≡ (not (list_any (has_name l.names) (names_of l.left)) && are_distinct (names_of l.left))

abbrev pub decreases-loop-left : goal.decreases-loop-left
decreases-loop-left l = length l.left
