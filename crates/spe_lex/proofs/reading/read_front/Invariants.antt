use Rattle.std.proofs.Common.{◌≡◌, length}
use Rattle.spe_lex.specs.Front.{front_of}
use Rattle.spe_lex.proofs.LexLemmas.{ahead}
use Rattle.spe_lex.proofs.reading.read_front.Given as goal

abbrev pub invariant-tokens : goal.invariant-tokens
invariant-tokens l = ahead l.found.items l.cursor ≡ front_of l.fn.text

abbrev pub decreases-tokens : goal.decreases-tokens
decreases-tokens l = length l.cursor.0
