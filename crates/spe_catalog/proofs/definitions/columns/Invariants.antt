use Rattle.std.proofs.Common.{◌≡◌, [], None, length}
use Rattle.spe_catalog.specs.Columns.{all_columns}
use Rattle.spe_catalog.proofs.definitions.columns.Given as goal

abbrev pub invariant-loop-most : goal.invariant-loop-most
invariant-loop-most l = all_columns l.columns.items l.alias l.most l.left ≡ all_columns [] None (length l.fn.tokens) l.fn.tokens

abbrev pub decreases-loop-most : goal.decreases-loop-most
decreases-loop-most l = l.most
