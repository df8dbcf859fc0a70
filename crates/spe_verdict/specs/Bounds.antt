-- How much pages can stand for: each row takes two bytes of its page at least, and page 1 is never free.
use Rattle.std.specs.Prelude.{ℕ, ◌*◌, ◌^◌, ◌<◌, ◌≤◌}
use Rattle.spe_model.specs.Database.{Database}
use Rattle.spe_model.specs.Paging.{Paging}
use Rattle.spe_model.specs.Standing.{StandsFor}
use Rattle.spe_verdict.specs.Law.{free_in, rows_in_tables, tables_in}

-- 2^30 usable bytes hold at most 2^29 tables, each of which is a row of the schema
abbrev pub TablesAreFew : Type 0
TablesAreFew = (usable count : ℕ) (pages : Paging) (db : Database) → StandsFor usable count pages db → count * usable ≤ 2 ^ 30 → tables_in db ≤ 2 ^ 29

-- and all tables together have at most 2^29 rows
abbrev pub RowsAreFew : Type 0
RowsAreFew = (usable count : ℕ) (pages : Paging) (db : Database) → StandsFor usable count pages db → count * usable ≤ 2 ^ 30 → rows_in_tables db ≤ 2 ^ 29

-- fewer pages are free than there are
abbrev pub FreeAreFew : Type 0
FreeAreFew = (usable count : ℕ) (pages : Paging) (db : Database) → (standing : StandsFor usable count pages db) → free_in pages standing.lists < count
