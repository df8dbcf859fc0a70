use Rattle.std.proofs.Common.{◌≡◌, ◌≢◌, ◌++◌, length, [], All}
use Rattle.std.specs.Str.{IsUtf8}
use Rattle.clap.specs.Walk.{texts}
use Rattle.spe_words.proofs.read.texts_of.Given as goal

abbrev pub invariant-loop-left : goal.invariant-loop-left
invariant-loop-left l =
    (texts l.texts.items ++ l.left ≡ l.words) × All IsUtf8 (texts l.texts.items) × All (λ word. word ≢ []) (texts l.texts.items)

abbrev pub decreases-loop-left : goal.decreases-loop-left
decreases-loop-left l = length l.left
