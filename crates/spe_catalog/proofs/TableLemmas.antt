-- Tables, open and closed.
use Rattle.std.proofs.Common.{◌≡◌, ℕ, List, Bool, ◌&&◌, Option, find, refl, ap}
use Rattle.spe_model.specs.declared.table.Closed.{Closed}
use Rattle.spe_model.specs.declared.table.TableDef.{TableDef}
use Rattle.spe_model.specs.declared.catalog.Declaration.{Declaration}
use Rattle.spe_model.specs.Schema.{SchemaRow, is_rooted, is_closed_by, reasons, table_of, is_declared, declaration_in, columns_in, alias_in}
use Rattle.spe_catalog.specs.declared.table.Attached.{Attached}
use Rattle.spe_catalog.specs.Table.{Attaches, first_reason}

abbrev mk : List ℕ → Declaration → Option Closed → TableDef
mk name parts closed = record { name = name; columns = parts.columns; alias = parts.alias; closed = closed }

reason_is : (is_index : ℕ → Bool) (rows : List SchemaRow) (attached : Attached) (row : SchemaRow) → Attaches rows attached
    → first_reason attached (is_declared (declaration_in row) && is_rooted is_index row.rootpage) row.name ≡ find (is_closed_by is_index rows row) reasons
unfolding is_closed_by
reason_is is_index rows attached row a = rw (a.indexed row.name, a.triggered row.name) refl

pub table_made : (is_index : ℕ → Bool) (rows : List SchemaRow) (attached : Attached) (row : SchemaRow) (rooted understood : Bool) (declaration : Option Declaration)
    (parts : Declaration) (name text : List ℕ) (closed : Option Closed) → Attaches rows attached → rooted ≡ is_rooted is_index row.rootpage → declaration ≡ declaration_in row
    → parts ≡ record { columns = columns_in declaration; alias = alias_in declaration } → name ≡ row.name → understood ≡ (is_declared declaration && rooted)
    → closed ≡ first_reason attached understood text → text ≡ row.name
    → mk name parts closed ≡ table_of is_index rows row
table_made is_index rows attached row rooted understood declaration parts name text closed a r d p n u c t =
    rw (p, n, c, t, u, d, r) (ap (λ (reason : Option Closed). mk row.name (record { columns = columns_in (declaration_in row); alias = alias_in (declaration_in row) }) reason) (reason_is is_index rows attached row a))
