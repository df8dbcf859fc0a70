-- The rows of a table that are printed while its tree is walked.
use Rattle.std.specs.Prelude.{◌≡◌, ◌⊎◌, ℕ, ◌+◌, Bool, true, false, List, [], ◌∷◌, ◌++◌, length, map, Option, Some, None}
use Rattle.spe_model.specs.declared.table.TableDef.{TableDef}
use Rattle.spe_model.specs.Database.{Row}
use Rattle.spe_search.specs.declared.pairs.Pair.{Pair}
use Rattle.spe_search.specs.Pairs.{pair_seen}
use Rattle.spe_render.specs.Passes.{Passes}
use Rattle.spe_render.specs.Values.{rows_text}
use Rattle.spe_stream.specs.Row.{row_of}

-- the row that a rowid and a payload say
abbrev pub row_at : TableDef → Pair → Option Row
row_at table pair = row_of table (pair_seen pair)

-- what follows the rows that were printed: nothing where more are wanted; where no more are, the first may be a row that is
-- damaged or has too many fields, and then its leaf is kept
abbrev pub Stops : TableDef → (rest : List Pair) → (flaw flaw_now : Option ℕ) → (more : Bool) → Type 0
Stops table rest flaw flaw_now true = (rest ≡ []) × (flaw_now ≡ flaw)
Stops table rest flaw flaw_now false =
    (flaw_now ≡ flaw) ⊎ ((bad : Pair) × (rest ≡ bad ∷ []) × (row_at table bad ≡ None) × (flaw_now ≡ Some bad.leaf))

-- Rows were taken, and the lines of some first ones of them given to a printer: all but one that stopped it.
pub record Puts (table : TableDef) (taken now : Option (List ℕ)) (faults faults_now : ℕ) (printer printer_now : Option (List ℕ)) (count count_now : ℕ) (shown shown_now : List Row) (flaw flaw_now : Option ℕ) (pairs : List Pair) (more : Bool) : Type 0 where
  pub good : List Pair
  pub rest : List Pair
  pub parts : pairs ≡ good ++ rest
  pub rows : List Row
  pub read : map (row_at table) good ≡ map Some rows
  pub puts : Passes taken now faults faults_now printer printer_now (rows_text rows)
  pub counts : count_now ≡ count + length rows
  pub shows : shown_now ≡ shown ++ rows
  pub stops : Stops table rest flaw flaw_now more
