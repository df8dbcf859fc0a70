-- The rows of a schema table, read one after the other.
use Rattle.std.specs.Prelude.{◌≡◌, ℕ, ℤ, Bool, true, false, not, ◌&&◌, ◌||◌, nat_lt, List, [], ◌∷◌, ◌++◌, map, Some, None, filter}
use Rattle.std.specs.List.{list_any, list_all}
use Rattle.spe_model.specs.Agree.{agree}
use Rattle.spe_model.specs.Schema.{SchemaRow, schema_row_of, schema_of, is_table_row, root_of, have_own_names}
use Rattle.spe_catalog.specs.Names.{has_name}
use Rattle.spe_search.specs.declared.pairs.Pair.{Pair}
use Rattle.spe_search.specs.Pairs.{pair_seen}
use Rattle.spe_catalog.specs.declared.reading.Reading.{Reading}
use Rattle.spe_catalog.specs.declared.reading.Reading.TheVariants.{Rows, Damage}

-- the number of a table's root page has at most 32 bits
abbrev pub has_number : SchemaRow → Bool
has_number row = not (is_table_row row) || nat_lt (root_of row.rootpage) 4294967296

abbrev pub have_numbers : List SchemaRow → Bool
have_numbers rows = list_all has_number rows

-- why a row may not stand behind these: its record is no schema record, its root page has too great a number, or its
-- name is that of a table before it
pub data IsBad (before : List (ℤ × List ℕ)) (row : ℤ × List ℕ) : Type 0 where
  unread : schema_row_of row ≡ None → IsBad before row
  far : (found : SchemaRow) → schema_row_of row ≡ Some found → has_number found ≡ false → IsBad before row
  repeated : (rows : List SchemaRow) (found : SchemaRow) → schema_of before ≡ Some rows → schema_row_of row ≡ Some found
      → have_own_names (rows ++ found ∷ []) ≡ false → IsBad before row

-- a row that was read from this leaf may not stand behind those before it
pub record IsDamaged (stored : List Pair) (leaf : ℕ) : Type 0 where
  pub before : List Pair
  pub row : Pair
  pub behind : List Pair
  pub split : stored ≡ before ++ row ∷ behind
  pub leaf_is : row.leaf ≡ leaf
  pub bad : IsBad (map pair_seen before) (pair_seen row)

-- all rows are in order
pub record AreRead (stored : List (ℤ × List ℕ)) (rows : List SchemaRow) : Type 0 where
  pub rows_are : schema_of stored ≡ Some rows
  pub own : have_own_names rows ≡ true
  pub numbers : have_numbers rows ≡ true

-- what rows say
abbrev pub Tells : List Pair → Reading → Type 0
Tells stored (Rows rows) = AreRead (map pair_seen stored) rows.items
Tells stored (Damage leaf) = IsDamaged stored leaf

-- a row that is in order behind others adds its name to those of their tables
pub record JoinsNames (row : SchemaRow) (old new : List (List ℕ)) : Type 0 where
  pub number : has_number row ≡ true
  pub free : is_table_row row ≡ true → has_name old row.name ≡ false
  pub names : (other : List ℕ) → has_name new other ≡ ((is_table_row row && agree row.name other) || has_name old other)

-- a table's root page has too great a number, or another table has its name
pub data Clashes (row : SchemaRow) (names : List (List ℕ)) : Type 0 where
  too_far : has_number row ≡ false → Clashes row names
  taken : is_table_row row ≡ true → has_name names row.name ≡ true → Clashes row names

abbrev pub Joins : SchemaRow → (old new : List (List ℕ)) → Bool → Type 0
Joins row old new true = JoinsNames row old new
Joins row old new false = Clashes row old

abbrev pub table_names : List SchemaRow → List (List ℕ)
table_names rows = map (λ (row : SchemaRow). row.name) (filter is_table_row rows)

-- in a loop over the rows: those up to here are in order
pub record IsReading (stored left : List Pair) (rows : List SchemaRow) (names : List (List ℕ)) : Type 0 where
  pub done : List Pair
  pub split : stored ≡ done ++ left
  pub rows_are : schema_of (map pair_seen done) ≡ Some rows
  pub own : have_own_names rows ≡ true
  pub numbers : have_numbers rows ≡ true
  pub has : (other : List ℕ) → has_name names other ≡ list_any (λ name. agree name other) (table_names rows)
