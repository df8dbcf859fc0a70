use Rattle.std.proofs.Common.{length, refl}
use Rattle.spe_slow.specs.Tables.{held_rows}
use Rattle.spe_slow.proofs.TablesLemmas.{no_rows_yet}
use Rattle.spe_slow.proofs.database.SlowDb.new.Goals as goal

pub returns : goal.returns
returns c = no_rows_yet c.args.tables (held_rows c.in_ok-rows.rows.items) (length c.args.tables) refl (rw c.as_slice.ensures at c.in_ok-rows.ensures)
