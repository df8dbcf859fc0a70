use Rattle.std.proofs.Common.{◌≡◌, ◌++◌, length}
use Rattle.clap.specs.Walk.{texts}
use Rattle.spe_words.proofs.read.names.Given as goal

abbrev pub invariant-loop-left : goal.invariant-loop-left
invariant-loop-left l = l.names.items ++ texts l.left ≡ texts l.words

abbrev pub decreases-loop-left : goal.decreases-loop-left
decreases-loop-left l = length l.left
