use Rattle.std.proofs.Common.{codes, length}
use Rattle.spe_model.specs.Definition.{is_sign}
use Rattle.spe_parse.specs.Part.{name_at, parts_at, single}
use Rattle.spe_parse.proofs.PartLemmas.{Listing}
use Rattle.spe_parse.proofs.clause.names.Given as goal

abbrev pub invariant-names : goal.invariant-names
invariant-names l = Listing (is_sign (codes ",")) (single name_at) l.found.items l.left (parts_at (is_sign (codes ",")) (single name_at) l.fn.left)

abbrev pub decreases-names : goal.decreases-names
decreases-names l = length l.left
