-- The pages that a catalog is read from: those that are given for the first time, and those that are asked for and are
-- none of the space's.
use Rattle.std.specs.Prelude.{◌≡◌, ◌⊎◌, ℕ, ◌<◌, true, List, Result, IfErr}
use Rattle.std.specs.List.{Contains}
use Rattle.spe_model.specs.Paging.{Paging, Agrees}
use Rattle.spe_model.specs.Database.{Database}
use Rattle.spe_model.specs.Standing.{StandsFor}
use Rattle.spe_model.specs.Tree.{IsTableTree, tree_rows, tree_pages}
use Rattle.spe_model.specs.Schema.{SchemaRow, is_table_row, root_of}
use Rattle.spe_space.specs.Calls.{sight}
use Rattle.spe_space.specs.Found.{OnMissing}
use Rattle.spe_space.specs.declared.pages.Pages.{Ghosts}
use Rattle.spe_space.specs.declared.fault.TreeFault.{TreeFault}
use Rattle.spe_space.specs.Outcome.{IsInside}
use Rattle.spe_search.specs.Range.{IsOverflowBetween}
use Rattle.spe_catalog.specs.Reading.{AreRead}

-- each page that is given for the first time is such a one
abbrev pub AddsOnly : {P : Type 0} (g : Ghosts P) (early late : P) → (ℕ → Type 0) → Type 0
AddsOnly g early late What = (n : ℕ) → (g.seen late n ≡ g.seen early n) ⊎ What n

-- a page that is asked for and is none of the space's is such a one
abbrev pub MissesOnly : {X : Type 0} → Result X TreeFault → (ℕ → Type 0) → Type 0
MissesOnly result What = IfErr result (OnMissing What)

-- the page of a row's root, where it has one
abbrev pub IsRootOf : SchemaRow → ℕ → Type 0
IsRootOf row n = (root_of row.rootpage ≡ n) × (0 < n)

-- the root page of a table among these rows
pub record IsRootIn (rows : List SchemaRow) (n : ℕ) : Type 0 where
  pub row : SchemaRow
  pub is : Contains rows row
  pub table : is_table_row row ≡ true
  pub root : IsRootOf row n

-- the root page of a table among the rows of the schema's tree, all of which are in order
pub record IsTableRoot (usable : ℕ) (pages : Paging) (height n : ℕ) : Type 0 where
  pub rows : List SchemaRow
  pub read : AreRead (tree_rows usable pages height 1) rows
  pub root : IsRootIn rows n

-- a page of the schema's tree, an overflow page of a row there, whatever its rowid, or the root page of a table
abbrev pub IsCatalogPage : (usable : ℕ) (pages : Paging) (height n : ℕ) → Type 0
IsCatalogPage usable pages height n =
    Contains (tree_pages usable pages height 1) n
    ⊎ (IsOverflowBetween usable pages 0 18446744073709551615 height 1 n ⊎ IsTableRoot usable pages height n)

-- the same of a page that is asked for and is none of the space's: page 0 only where the tree itself has it
abbrev pub IsCatalogMiss : (usable : ℕ) (pages : Paging) (height at : ℕ) → Type 0
IsCatalogMiss usable pages height at =
    Contains (tree_pages usable pages height 1) at
    ⊎ (((0 < at) × IsOverflowBetween usable pages 0 18446744073709551615 height 1 at) ⊎ IsTableRoot usable pages height at)

-- Where the schema's tree stands, whatever its rows say, each page that is given for the first time is one of the catalog's
abbrev pub AddsOfCatalog : {P : Type 0} (g : Ghosts P) (early late : P) → Type 0
AddsOfCatalog g early late =
    (pages : Paging) → Agrees pages (g.seen late) → (height : ℕ) → IsTableTree (g.used early) (sight g early pages) height 1
    → AddsOnly g early late (IsCatalogPage (g.used early) (sight g early pages) height)

-- the same of a page that is asked for and is none of the space's
abbrev pub MissesOfCatalog : {P X : Type 0} (g : Ghosts P) (early late : P) (result : Result X TreeFault) → Type 0
MissesOfCatalog g early late result =
    (pages : Paging) → Agrees pages (g.seen late) → (height : ℕ) → IsTableTree (g.used early) (sight g early pages) height 1
    → MissesOnly result (IsCatalogMiss (g.used early) (sight g early pages) height)

-- where the pages stand for a database, a page that is asked for and is none of the space's is one of these pages
abbrev pub MissesStanding : {P X : Type 0} (g : Ghosts P) (early late : P) (result : Result X TreeFault) → Type 0
MissesStanding g early late result =
    (pages : Paging) → Agrees pages (g.seen late) → (count : ℕ) (db : Database) → StandsFor (g.used early) count (sight g early pages) db
    → MissesOnly result (IsInside count)
