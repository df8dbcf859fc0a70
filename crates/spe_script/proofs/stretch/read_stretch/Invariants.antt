use Rattle.std.proofs.Common.{◌≡◌, length}
use Rattle.spe_script.specs.Script.{ahead, stretches}
use Rattle.spe_script.proofs.stretch.read_stretch.Given as goal

abbrev pub invariant-tokens : goal.invariant-tokens
invariant-tokens l = ahead l.tokens.items (stretches l.fn.size l.cursor) ≡ stretches l.fn.size l.fn.cursor

abbrev pub decreases-tokens : goal.decreases-tokens
decreases-tokens l = length l.cursor.0
