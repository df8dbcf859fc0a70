use Rattle.std.proofs.Common.{◌≡◌, ◌++◌, map}
use Rattle.std.specs.Option.{option_copied}
use Rattle.spe_model.specs.Conditions.{chosen}
use Rattle.spe_slow.proofs.StoredLemmas.{changed_row}
use Rattle.spe_slow.proofs.stored.changed_rows.Given as goal

abbrev pub invariant-loop-rowid : goal.invariant-loop-rowid
invariant-loop-rowid l = l.found.items ++ map (changed_row (map option_copied l.given)) (chosen l.conds l.rowid-iterator) ≡ map (changed_row (map option_copied l.given)) (chosen l.conds l.rows.entries)
