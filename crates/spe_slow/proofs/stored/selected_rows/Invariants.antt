use Rattle.std.proofs.Common.{◌≡◌, ◌++◌, map}
use Rattle.spe_model.specs.Conditions.{chosen}
use Rattle.spe_slow.specs.Rows.{shown_values}
use Rattle.spe_slow.proofs.stored.selected_rows.Given as goal

abbrev pub invariant-loop-rowid : goal.invariant-loop-rowid
invariant-loop-rowid l = l.found.items ++ map (shown_values l.all l.names) (chosen l.conds l.rowid-iterator) ≡ map (shown_values l.all l.names) (chosen l.conds l.rows.entries)
