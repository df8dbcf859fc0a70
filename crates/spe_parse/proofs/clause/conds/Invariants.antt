use Rattle.std.proofs.Common.{codes, length}
use Rattle.spe_model.specs.Definition.{is_word}
use Rattle.spe_parse.specs.Part.{parts_at}
use Rattle.spe_parse.specs.Clause.{cond_at}
use Rattle.spe_parse.proofs.PartLemmas.{Listing}
use Rattle.spe_parse.proofs.clause.conds.Given as goal

abbrev pub invariant-conds : goal.invariant-conds
invariant-conds l = Listing (is_word (codes "AND")) (cond_at) l.found.items l.left (parts_at (is_word (codes "AND")) (cond_at) l.fn.left)

abbrev pub decreases-conds : goal.decreases-conds
decreases-conds l = length l.left
