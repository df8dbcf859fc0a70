-- What a statement speaks of.
use Rattle.std.specs.Prelude.{ℕ, Bool, true, false, List, [], ◌++◌, map, if◌then◌else◌}
use Rattle.spe_model.specs.declared.statement.Cond.{Cond}
use Rattle.spe_model.specs.declared.statement.Set.{Set}
use Rattle.spe_model.specs.declared.statement.Statement.{Statement}
use Rattle.spe_model.specs.declared.statement.Statement.TheVariants.{Select, Count, Insert, Update, Delete}
use Rattle.spe_model.specs.declared.transaction.TxKind.{TxKind}
use Rattle.spe_model.specs.declared.transaction.TxKind.TheVariants as kinds

-- the table that it names
abbrev pub table_name : Statement → List ℕ
table_name (Select table all columns conds) = table
table_name (Count table conds) = table
table_name (Insert table listed columns values) = table
table_name (Update table sets conds) = table
table_name (Delete table conds) = table

abbrev pub is_write : Statement → Bool
is_write (Select table all columns conds) = false
is_write (Count table conds) = false
is_write (Insert table listed columns values) = true
is_write (Update table sets conds) = true
is_write (Delete table conds) = true

abbrev pub is_insert : Statement → Bool
is_insert (Insert table listed columns values) = true
is_insert _ = false

abbrev pub is_update : Statement → Bool
is_update (Update table sets conds) = true
is_update _ = false

abbrev pub is_read_only : TxKind → Bool
is_read_only kinds.ReadWrite = false
is_read_only kinds.ReadOnly = true

-- its conditions
abbrev pub conds_of : Statement → List Cond
conds_of (Select table all columns conds) = conds
conds_of (Count table conds) = conds
conds_of (Insert table listed columns values) = []
conds_of (Update table sets conds) = conds
conds_of (Delete table conds) = conds

abbrev pub cond_name : Cond → List ℕ
cond_name c = c.name

abbrev pub set_name : Set → List ℕ
set_name s = s.name

-- the names outside its conditions, where it has such that count
abbrev pub columns_of : Statement → List (List ℕ)
columns_of (Select table all columns conds) = if all then [] else columns
columns_of (Count table conds) = []
columns_of (Insert table listed columns values) = if listed then columns else []
columns_of (Update table sets conds) = map set_name sets
columns_of (Delete table conds) = []

-- all its names, the table's apart
abbrev pub names_of : Statement → List (List ℕ)
names_of s = columns_of s ++ map cond_name (conds_of s)
