use Rattle.std.proofs.Common.{◌≡◌, ◌++◌, length}
use Rattle.std.specs.Str.{str_to_ascii_uppercase}
use Rattle.spe_catalog.specs.Text.{capitals}
use Rattle.spe_catalog.proofs.affinity.push_capitals.Given as goal

abbrev pub invariant-loop-left : goal.invariant-loop-left
invariant-loop-left l = l.text.items ++ str_to_ascii_uppercase l.left ≡ l.fn.text.items ++ capitals l.fn.word

abbrev pub decreases-loop-left : goal.decreases-loop-left
decreases-loop-left l = length l.left
