use Rattle.std.specs.Prelude.{length}
use Rattle.spe_insert.proofs.leaf.+lay_parts.Given as goal

abbrev pub decreases-lay_parts : goal.decreases-lay_parts
decreases-lay_parts g l = length l.parts.items
