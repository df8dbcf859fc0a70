-- The law of verdicts: no rule of the walk is broken exactly where the pages stand for a database. It is one at most, and
-- the verdict counts what it has.
use Rattle.std.specs.Prelude.{◌≡◌, ℕ, ℤ, ◌≤◌, Bool, true, false, List, [], length, take, map, filter, sum, None, Ok}
use Rattle.std.specs.List.{flat_map}
use Rattle.spe_model.specs.declared.header.Header.{Header}
use Rattle.spe_model.specs.declared.verdict.Verdict.TheVariants as verdicts
use Rattle.spe_model.specs.Database.{Database, Object, Table, Other}
use Rattle.spe_model.specs.Header.{header_of}
use Rattle.spe_model.specs.Paging.{Paging}
use Rattle.spe_model.specs.Served.{usable_in}
use Rattle.spe_model.specs.Standing.{FreeChain, Stands, StandsFor, chain_of_free}
use Rattle.spe_model.specs.Verdict.{all_marks, verdict_of}
use Rattle.spe_model.specs.Walk.{first_broken}

-- no rule of the walk is broken
abbrev pub AreUnbroken : (usable count : ℕ) → Paging → Type 0
AreUnbroken usable count pages = first_broken count [] (all_marks usable count pages) ≡ None

-- where no rule is broken, there is a database for which the pages stand
abbrev pub UnbrokenStand : Type 0
UnbrokenStand = (usable count : ℕ) (pages : Paging) → 480 ≤ usable → AreUnbroken usable count pages → (db : Database) × StandsFor usable count pages db

-- where there is one, no rule is broken
abbrev pub StandingAreUnbroken : Type 0
StandingAreUnbroken = (usable count : ℕ) (pages : Paging) (db : Database) → 480 ≤ usable → StandsFor usable count pages db → AreUnbroken usable count pages

-- pages stand for one database at most
abbrev pub StandForOne : Type 0
StandForOne = (usable count : ℕ) (pages : Paging) (a b : Database) → StandsFor usable count pages a → StandsFor usable count pages b → a ≡ b

abbrev pub is_table : ℤ × Object → Bool
is_table (rowid, Table table rows) = true
is_table (rowid, Other kind name on) = false

-- how many rows an object has; a closed table has none
abbrev pub rows_in_object : ℤ × Object → ℕ
rows_in_object (rowid, Table table rows) = length rows
rows_in_object (rowid, Other kind name on) = 0

abbrev pub tables_in : Database → ℕ
tables_in db = length (filter is_table db)

abbrev pub rows_in_tables : Database → ℕ
rows_in_tables db = sum (map rows_in_object db)

-- how many pages these lists have
abbrev pub free_in : Paging → List FreeChain → ℕ
free_in pages lists = length (flat_map (chain_of_free pages) lists)

-- the verdict over pages that stand for a database counts its tables, its rows and the free pages
abbrev pub VerdictCounts : Type 0
VerdictCounts = (usable count : ℕ) (pages : Paging) (db : Database) → 480 ≤ usable → (standing : StandsFor usable count pages db)
    → verdict_of usable count pages ≡ verdicts.Stands (tables_in db) (rows_in_tables db) (free_in pages standing.lists)

-- a verdict that pages stand gives such a database, with what it counts
abbrev pub StandsIsTrue : Type 0
StandsIsTrue = (usable count : ℕ) (pages : Paging) (tables rows free : ℕ) → 480 ≤ usable → verdict_of usable count pages ≡ verdicts.Stands tables rows free
    → (db : Database) × (standing : StandsFor usable count pages db)
    × (tables ≡ tables_in db) × (rows ≡ rows_in_tables db) × (free ≡ free_in pages standing.lists)

-- a verdict that a rule is broken says that there is none
abbrev pub BrokenIsTrue : Type 0
BrokenIsTrue = (usable count : ℕ) (pages : Paging) (page rule : ℕ) → 480 ≤ usable → verdict_of usable count pages ≡ verdicts.Broken page rule
    → (db : Database) → StandsFor usable count pages db → ⊥

-- the same two facts for pages with a legal header
abbrev pub LegalUnbrokenStand : Type 0
LegalUnbrokenStand = (count : ℕ) (pages : Paging) (header : Header)
    → header_of (take 100 (pages 1)) ≡ Ok header → AreUnbroken (usable_in header) count pages → (db : Database) × Stands count pages db

abbrev pub LegalStandingAreUnbroken : Type 0
LegalStandingAreUnbroken = (count : ℕ) (pages : Paging) (db : Database) (header : Header)
    → header_of (take 100 (pages 1)) ≡ Ok header → Stands count pages db → AreUnbroken (usable_in header) count pages
