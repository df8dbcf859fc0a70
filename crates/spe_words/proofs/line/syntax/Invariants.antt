use Rattle.std.proofs.Common.{◌≡◌, length}
use Rattle.clap.specs.Words.{app_of}
use Rattle.clap.specs.Walk.{texts}
use Rattle.spe_words.specs.Syntax.{syntax_of, with_options}
use Rattle.spe_words.proofs.line.syntax.Given as goal

abbrev pub invariant-loop-left : goal.invariant-loop-left
invariant-loop-left l = with_options (app_of l.syntax) (texts l.left) ≡ syntax_of l.command (texts l.options)

abbrev pub decreases-loop-left : goal.decreases-loop-left
decreases-loop-left l = length l.left
