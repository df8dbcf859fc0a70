-- What is read of a database once, before all transactions, whatever the pages below the space are, as long as they agree
-- with all that was given.
use Rattle.std.specs.Prelude.{◌≡◌, ℕ, Result, Ok, Err, IfErr}
use Rattle.spe_model.specs.declared.header.Header.{Header}
use Rattle.spe_model.specs.Big.{u32_at}
use Rattle.spe_model.specs.Database.{Database}
use Rattle.spe_model.specs.Justified.{Opening, ServedSince}
use Rattle.spe_model.specs.Paging.{Paging, Agrees}
use Rattle.spe_model.specs.Served.{HasHeader, IsPrepared, Served, usable_in}
use Rattle.spe_model.specs.Standing.{StandsFor}
use Rattle.spe_space.specs.Calls.{sight}
use Rattle.spe_space.specs.Found.{OnMissing}
use Rattle.spe_space.specs.Outcome.{IsInside}
use Rattle.spe_space.specs.declared.pages.Pages.{Ghosts}
use Rattle.spe_space.specs.declared.fault.TreeFault.{TreeFault}
use Rattle.spe_space.specs.declared.fault.TreeFault.TheVariants.{Space, Corrupt}
use Rattle.spe_opening.specs.declared.shared.Shared.{Shared}
use Rattle.spe_opening.specs.Below.{IsBare}

-- So many pages stand for a database in server form, and page 1 names this node page.
pub record StandsPrepared (usable count node : ℕ) (pages : Paging) (db : Database) : Type 0 where
  pub stands : StandsFor usable count pages db
  pub prepared : IsPrepared pages
  pub named : node ≡ u32_at (pages 1) 32

-- The same, with a legal header of so many used bytes on page 1.
pub record StandsHeaded (usable count node : ℕ) (pages : Paging) (db : Database) : Type 0 where
  pub header : Header
  pub front : HasHeader count pages header
  pub used : usable_in header ≡ usable
  pub body : StandsPrepared usable count node pages db

abbrev pub opening_of : (usable : ℕ) → Shared → Opening
opening_of usable shared = record { usable = usable; catalog = shared.catalog; trunks = shared.trunks }

-- the pages are served and have what was read; Corrupt comes only for a bare page, and the pages are then not served
abbrev pub IsShared : (usable count : ℕ) → Paging → Database → Result Shared TreeFault → Type 0
IsShared usable count pages db (Ok shared) = ServedSince (opening_of usable shared) count pages db
IsShared usable count pages db (Err (Space f)) = Unit {0}
IsShared usable count pages db (Err (Corrupt at)) = IsBare usable pages at × (Served count pages db → ⊥)

abbrev pub FindsShared : {P : Type 0} (g : Ghosts P) (early late : P) (node : ℕ) (result : Result Shared TreeFault) → Type 0
FindsShared g early late node result =
    (pages : Paging) → Agrees pages (g.seen late) → (count : ℕ) (db : Database) → StandsHeaded (g.used early) count node (sight g early pages) db
    → IsShared (g.used early) count (sight g early pages) db result

-- a page that is asked for and is none of the space's is one of so many
abbrev pub AsksInside : {P X : Type 0} (g : Ghosts P) (early late : P) (node : ℕ) (result : Result X TreeFault) → Type 0
AsksInside g early late node result =
    (pages : Paging) → Agrees pages (g.seen late) → (count : ℕ) (db : Database) → StandsPrepared (g.used early) count node (sight g early pages) db
    → IfErr result (OnMissing (IsInside count))
