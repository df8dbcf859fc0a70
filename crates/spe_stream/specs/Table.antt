-- A table that is put to a sink while its tree is walked, whatever the pages below the space are, as long as they agree with all
-- that was given.
use Rattle.std.specs.Prelude.{◌≡◌, ◌⊎◌, ℕ, ℤ, Bool, true, false, List, [], ◌∷◌, ◌++◌, map, codes, decimal, Option, Some, None, Result, Ok, Err}
use Rattle.std.specs.List.{Contains}
use Rattle.spe_model.specs.declared.table.TableDef.{TableDef}
use Rattle.spe_model.specs.Database.{Row}
use Rattle.spe_model.specs.Paging.{Paging, Agrees}
use Rattle.spe_model.specs.Standing.{AreTableRows}
use Rattle.spe_model.specs.Tree.{IsTableTree, tree_rows}
use Rattle.spe_disk.specs.declared.disk.Failed.{Failed}
use Rattle.spe_space.specs.Calls.{sight}
use Rattle.spe_space.specs.declared.pages.Pages.{Ghosts}
use Rattle.spe_space.specs.declared.fault.TreeFault.{TreeFault}
use Rattle.spe_space.specs.declared.fault.TreeFault.TheVariants.{Space, Corrupt}
use Rattle.spe_space.specs.declared.fault.SpaceFault.TheVariants.{Memory}
use Rattle.spe_search.specs.declared.pairs.Pair.{Pair}
use Rattle.spe_search.specs.Found.{HasDamage}
use Rattle.spe_search.specs.Leaves.{IsRead}
use Rattle.spe_search.specs.Taking.{AreFirst}
use Rattle.spe_render.specs.Values.{line, rows_text, table_text}
use Rattle.spe_stream.specs.Row.{row_of}
use Rattle.spe_stream.specs.Shown.{row_at}

-- the rows of a table, as its tree has them
pub record AreRowsOf (usable : ℕ) (pages : Paging) (table : TableDef) (root : ℕ) (rows : List Row) : Type 0 where
  pub height : ℕ
  pub tree : IsTableTree usable pages height root
  pub rows_are : AreTableRows table (tree_rows usable pages height root) rows

-- Rows of a table were put: all, where the walk had no fault and the sink did not fail, else some first ones. Nothing is corrupt.
abbrev pub ArePut : (put all : List Row) → (walk : Result (Unit {0}) TreeFault) → (sink : Result (Unit {0}) Failed) → Type 0
ArePut put all (Ok whole) (Ok done) = put ≡ all
ArePut put all (Ok whole) (Err failed) = AreFirst put all
ArePut put all (Err (Space f)) sink = AreFirst put all
ArePut put all (Err (Corrupt page)) sink = ⊥

-- over a table whose tree stands
abbrev pub PutsTable : {P : Type 0} (g : Ghosts P) (early late : P) (table : TableDef) (root : ℕ) (put : List Row) → Result (Unit {0}) TreeFault → Result (Unit {0}) Failed → Type 0
PutsTable g early late table root put walk sink =
    (pages : Paging) → Agrees pages (g.seen late) → (all : List Row) → AreRowsOf (g.used early) (sight g early pages) table root all → ArePut put all walk sink

-- the first of these stored rows say what was put, and these later ones are behind them
abbrev pub SayBefore : TableDef → (stored later : List (ℤ × List ℕ)) → (put : List Row) → Type 0
SayBefore table stored later put = (first : List (ℤ × List ℕ)) × (stored ≡ first ++ later) × (map (row_of table) first ≡ map Some put)

-- Of all stored rows the first say what was put: all, where the walk had no fault and the sink did not fail. Corrupt comes only
-- where the next is damaged or has too many fields.
abbrev pub SayPut : TableDef → (stored : List (ℤ × List ℕ)) → (put : List Row) → (walk : Result (Unit {0}) TreeFault) → (sink : Result (Unit {0}) Failed) → Type 0
SayPut table stored put (Ok whole) (Ok done) = map (row_of table) stored ≡ map Some put
SayPut table stored put (Ok whole) (Err failed) = (later : List (ℤ × List ℕ)) × SayBefore table stored later put
SayPut table stored put (Err (Space f)) sink = (later : List (ℤ × List ℕ)) × SayBefore table stored later put
SayPut table stored put (Err (Corrupt page)) sink =
    (bad : ℤ × List ℕ) × (row_of table bad ≡ None) × (later : List (ℤ × List ℕ)) × SayBefore table stored (bad ∷ later) put

-- over a tree that stands, whatever its rows are
abbrev pub PutsStored : {P : Type 0} (g : Ghosts P) (early late : P) (table : TableDef) (root : ℕ) (put : List Row) → Result (Unit {0}) TreeFault → Result (Unit {0}) Failed → Type 0
PutsStored g early late table root put walk sink =
    (pages : Paging) → Agrees pages (g.seen late) → (height : ℕ) → IsTableTree (g.used early) (sight g early pages) height root
    → SayPut table (tree_rows (g.used early) (sight g early pages) height root) put walk sink

-- a row of a table as a leaf shows it, which is met on a walk from the root
pub record IsShownRow (usable : ℕ) (pages : Paging) (table : TableDef) (root : ℕ) (row : Row) : Type 0 where
  pub from : Pair
  pub read : IsRead usable pages 20 root from
  pub is : row_at table from ≡ Some row

-- each row that was put is such, whatever stands under the root
abbrev pub PutsShown : {P : Type 0} (g : Ghosts P) (early late : P) (table : TableDef) (root : ℕ) (put : List Row) → Type 0
PutsShown g early late table root put =
    (pages : Paging) → Agrees pages (g.seen late) → (row : Row) → Contains put row → IsShownRow (g.used early) (sight g early pages) table root row

-- the text of the rows that were put, with the line of their number behind them where the walk had no fault
abbrev pub text_put : List Row → Result (Unit {0}) TreeFault → List ℕ
text_put rows (Ok whole) = table_text rows
text_put rows (Err fault) = rows_text rows

-- a row of a table, as the leaf of this number shows it, is damaged or has too many fields
pub record HasBadRecord (usable : ℕ) (pages : Paging) (table : TableDef) (root at : ℕ) : Type 0 where
  pub row : Pair
  pub leaf_is : row.leaf ≡ at
  pub read : IsRead usable pages 20 root row
  pub bad : row_at table row ≡ None

abbrev pub HasRowsCause : (usable : ℕ) (pages : Paging) (table : TableDef) (root : ℕ) → Result (Unit {0}) TreeFault → Type 0
HasRowsCause usable pages table root (Ok whole) = Unit {0}
HasRowsCause usable pages table root (Err (Space f)) = Unit {0}
HasRowsCause usable pages table root (Err (Corrupt at)) =
    HasBadRecord usable pages table root at ⊎ HasDamage {X = Unit {0}} usable pages root 20 (Err (Corrupt at))

-- Corrupt comes only for the leaf of such a row, or as of a walk over the table's tree
abbrev pub NamesRows : {P : Type 0} (g : Ghosts P) (early late : P) (table : TableDef) (root : ℕ) → Result (Unit {0}) TreeFault → Type 0
NamesRows g early late table root walk = (pages : Paging) → Agrees pages (g.seen late) → HasRowsCause (g.used early) (sight g early pages) table root walk

-- why a walk ended early: a row is bad, the sink failed, or there is no number for one more row
abbrev pub stop_of : (flaw : Option ℕ) (printer : Option (List ℕ)) → Result (Unit {0}) TreeFault
stop_of (Some page) printer = Err (Corrupt page)
stop_of None None = Ok tt
stop_of None (Some waiting) = Err (Space Memory)

-- what the end of a walk says of the table
abbrev pub end_of : Result Bool TreeFault → (flaw : Option ℕ) (printer : Option (List ℕ)) → Result (Unit {0}) TreeFault
end_of (Ok true) flaw printer = Ok tt
end_of (Ok false) flaw printer = stop_of flaw printer
end_of (Err fault) flaw printer = Err fault

-- the line of the number, behind a walk without a fault
abbrev pub last_line : (count : ℕ) → Result (Unit {0}) TreeFault → List ℕ
last_line count (Ok whole) = line (codes "rows " ++ decimal count)
last_line count (Err fault) = []
