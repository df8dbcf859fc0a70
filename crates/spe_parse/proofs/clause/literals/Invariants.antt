use Rattle.std.proofs.Common.{codes, length}
use Rattle.spe_model.specs.Definition.{is_sign}
use Rattle.spe_parse.specs.Part.{parts_at, single}
use Rattle.spe_parse.specs.Number.{literal_at}
use Rattle.spe_parse.proofs.PartLemmas.{Listing}
use Rattle.spe_parse.proofs.clause.literals.Given as goal

abbrev pub invariant-literals : goal.invariant-literals
invariant-literals l = Listing (is_sign (codes ",")) (single literal_at) l.found.items l.left (parts_at (is_sign (codes ",")) (single literal_at) l.fn.left)

abbrev pub decreases-literals : goal.decreases-literals
decreases-literals l = length l.left
