-- The refusals for which a table gives cause whatever its rows are.
use Rattle.std.specs.Prelude.{List, [], ◌∷◌, Option}
use Rattle.std.specs.List.{find}
use Rattle.spe_model.specs.declared.table.TableDef.{TableDef}
use Rattle.spe_model.specs.declared.statement.Statement.{Statement}
use Rattle.spe_model.specs.declared.reply.Refusal.{Refusal}
use Rattle.spe_model.specs.declared.reply.Refusal.TheVariants.{ClosedTable, NoColumn, NotByRowid, Count, Class, NotNull, RowidFixed}
use Rattle.spe_model.specs.Refusals.{table_refuses}

abbrev pub rowless : List Refusal
rowless = ClosedTable ∷ NoColumn ∷ NotByRowid ∷ Count ∷ Class ∷ NotNull ∷ RowidFixed ∷ []

-- the lowest of them
abbrev pub rowless_refusal : TableDef → Statement → Option Refusal
rowless_refusal table s = find (table_refuses table [] s) rowless
