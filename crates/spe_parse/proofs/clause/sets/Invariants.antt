use Rattle.std.proofs.Common.{codes, length}
use Rattle.spe_model.specs.Definition.{is_sign}
use Rattle.spe_parse.specs.Part.{parts_at, single}
use Rattle.spe_parse.specs.Clause.{set_at}
use Rattle.spe_parse.proofs.PartLemmas.{Listing}
use Rattle.spe_parse.proofs.clause.sets.Given as goal

abbrev pub invariant-sets : goal.invariant-sets
invariant-sets l = Listing (is_sign (codes ",")) (single set_at) l.found.items l.left (parts_at (is_sign (codes ",")) (single set_at) l.fn.left)

abbrev pub decreases-sets : goal.decreases-sets
decreases-sets l = length l.left
