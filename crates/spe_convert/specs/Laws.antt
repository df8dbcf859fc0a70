-- What stays where free lists are put in another form.
use Rattle.std.specs.Prelude.{◌≡◌, ℕ, ◌+◌, ◌*◌, ◌^◌, ◌≤◌, false, List, length, take, Ok}
use Rattle.spe_model.specs.declared.header.Header.{Header}
use Rattle.spe_model.specs.Database.{Database}
use Rattle.spe_model.specs.FreeList.{names_node}
use Rattle.spe_model.specs.Header.{IsSized, header_of}
use Rattle.spe_model.specs.Paging.{Paging, lay}
use Rattle.spe_model.specs.Served.{HasHeader, IsPrepared, usable_in}
use Rattle.spe_model.specs.Standing.{StandsFor}
use Rattle.spe_frame.specs.Times.{AreSame}
use Rattle.spe_rewrite.specs.Changes.{changed}
use Rattle.spe_convert.specs.Changes.{added, counted_changes, prepared_changes, released_changes, supply}

-- So many pages stand for a database, with a legal header. These are their free pages, the node page among them, in any
-- order.
pub record StandsWith (size usable count : ℕ) (pages : Paging) (db : Database) (free : List ℕ) : Type 0 where
  pub header : Header
  pub legal : header_of (take 100 (pages 1)) ≡ Ok header
  pub sized : IsSized header
  pub size_is : header.page_size ≡ size
  pub used : usable_in header ≡ usable
  pub long : 100 ≤ length (pages 1)
  pub few : count * size ≤ 2 ^ 30
  pub stands : StandsFor usable count pages db
  pub free_are : AreSame free stands.listed

-- the same, and the page count that page 1 names is valid and this one
pub record Counts (size usable count : ℕ) (pages : Paging) (db : Database) (free : List ℕ) : Type 0 where
  pub header : Header
  pub front : HasHeader count pages header
  pub size_is : header.page_size ≡ size
  pub used : usable_in header ≡ usable
  pub stands : StandsFor usable count pages db
  pub free_are : AreSame free stands.listed

-- pages with what `prepare` changes laid over them are prepared, and stand for the same database, with the new pages free
abbrev pub PrepareKeeps : Type 0
PrepareKeeps = (size usable count lists : ℕ) (pages : Paging) (db : Database) (free : List ℕ) → StandsWith size usable count pages db free
    → 1 ≤ lists → lists ≤ 16 → (count + added count lists free) * size ≤ 2 ^ 30
    → IsPrepared (lay (changed (prepared_changes size usable count lists free pages)) pages)
    × Counts size usable (count + added count lists free) (lay (changed (prepared_changes size usable count lists free pages)) pages) db (supply count lists free)

-- pages with what `release` changes laid over them are in stock form, and stand for the same database with the same pages
-- free
abbrev pub ReleaseKeeps : Type 0
ReleaseKeeps = (size usable count : ℕ) (pages : Paging) (db : Database) (free : List ℕ) → StandsWith size usable count pages db free
    → (names_node (lay (changed (released_changes usable count free pages)) pages 1) ≡ false)
    × Counts size usable count (lay (changed (released_changes usable count free pages)) pages) db free

-- pages with a page count that is made to count stand for the same database, with the same free lists
abbrev pub CountKeeps : Type 0
CountKeeps = (size usable count : ℕ) (pages : Paging) (db : Database) (free : List ℕ) → StandsWith size usable count pages db free
    → (names_node (lay (changed (counted_changes count pages)) pages 1) ≡ names_node (pages 1))
    × Counts size usable count (lay (changed (counted_changes count pages)) pages) db free
