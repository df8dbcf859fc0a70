use Rattle.std.proofs.Common.{All, length, map}
use Rattle.std.specs.Option.{option_copied}
use Rattle.spe_search.specs.Pairs.{pair_seen}
use Rattle.spe_modify.specs.Rows.{IsShort}
use Rattle.spe_exec.specs.Changing.{IsGathering}
use Rattle.spe_exec.proofs.changing.change_rows.Given as goal

abbrev pub invariant-loop-left : goal.invariant-loop-left
invariant-loop-left l = IsGathering l.table (map option_copied l.given) (map pair_seen l.fn.pairs) (map pair_seen l.left) l.made.items × All IsShort l.made.items

abbrev pub decreases-loop-left : goal.decreases-loop-left
decreases-loop-left l = length l.left
