use Rattle.std.proofs.Common.{◌≡◌, length}
use Rattle.spe_script.specs.Script.{stretches, txs_in}
use Rattle.spe_script.proofs.ScriptLemmas.{gathers}
use Rattle.spe_script.proofs.reading.read_text.Given as goal

abbrev pub invariant-stretches : goal.invariant-stretches
invariant-stretches l = gathers l.gathered (stretches l.size l.cursor) ≡ txs_in l.fn.text

abbrev pub decreases-stretches : goal.decreases-stretches
decreases-stretches l = length (stretches l.size l.cursor)
