use Rattle.std.proofs.Common.{◌≡◌, ◌+◌, length}
use Rattle.std.specs.List.{prefix_len}
use Rattle.spe_model.specs.Definition.{is_name}
use Rattle.spe_catalog.proofs.column.names.Given as goal

abbrev pub invariant-loop-left : goal.invariant-loop-left
invariant-loop-left l = record {
  value : l.count + prefix_len is_name l.left ≡ prefix_len is_name l.fn.tokens;
  within : l.count + length l.left ≡ length l.fn.tokens;
}

abbrev pub decreases-loop-left : goal.decreases-loop-left
decreases-loop-left l = length l.left
