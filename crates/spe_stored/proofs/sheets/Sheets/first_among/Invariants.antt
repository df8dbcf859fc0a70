use Rattle.std.proofs.Common.{◌≡◌}
use Rattle.std.specs.List.Sorted.{IsStrictlySortedBy}
use Rattle.std.specs.Map.{keys_of}
use Rattle.std.specs.Ordering.{nat_cmp}
use Rattle.spe_stored.proofs.UndoLemmas.{first_of}
use Rattle.spe_stored.proofs.sheets.Sheets.first_among.Given as goal

abbrev pub invariant-loop-page : goal.invariant-loop-page
invariant-loop-page l = record {
  same : first_of l.self l.page-iterator ≡ first_of l.self l.others;
  order : IsStrictlySortedBy nat_cmp (keys_of l.page-iterator);
}
