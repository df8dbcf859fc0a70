use Rattle.std.proofs.Common.{◌≡◌, ◌+◌, ◌≤◌, length}
use Rattle.spe_check.specs.Verdicts.{narrowed, tables_among}
use Rattle.spe_check.proofs.verdict.count_tables.Given as goal

abbrev pub invariant-rows : goal.invariant-rows
invariant-rows l = record {
  counted : narrowed (l.tables + tables_among l.left) ≡ narrowed (tables_among l.placed);
  below : l.tables ≤ 4294967295;
}

abbrev pub decreases-rows : goal.decreases-rows
decreases-rows l = length l.left
