-- What clients share, as it is read over recovered pages.
use Rattle.std.specs.Prelude.{◌≡◌, ℕ, true, List, length, Option, Some, Result, Ok, Err, IfErr, IfSome}
use Rattle.spe_model.specs.declared.recovery.Recovered.{Recovered}
use Rattle.spe_model.specs.Database.{Database}
use Rattle.spe_model.specs.Justified.{ServedSince}
use Rattle.spe_model.specs.Paging.{Paging}
use Rattle.spe_model.specs.Served.{Served, usable_in}
use Rattle.spe_model.specs.Settled.{header_in, page_in}
use Rattle.spe_space.specs.Calls.{sight}
use Rattle.spe_space.specs.Found.{OnMissing}
use Rattle.spe_space.specs.Outcome.{IsInside}
use Rattle.spe_space.specs.declared.pages.Pages.{Ghosts}
use Rattle.spe_space.specs.declared.fault.SpaceFault.{SpaceFault}
use Rattle.spe_space.specs.declared.fault.SpaceFault.TheVariants as spaces
use Rattle.spe_space.specs.declared.fault.TreeFault.{TreeFault}
use Rattle.spe_space.specs.declared.fault.TreeFault.TheVariants as trees
use Rattle.spe_recover.specs.declared.want.Want.TheVariants.{Prepared}
use Rattle.spe_recover.specs.Recovered.{is_wanted}
use Rattle.spe_opening.specs.declared.shared.Shared.{Shared}
use Rattle.spe_opening.specs.Below.{IsBare}
use Rattle.spe_opening.specs.Shared.{IsShared, StandsHeaded, opening_of}
use Rattle.spe_serve.specs.declared.failure.Failure.{Failure}
use Rattle.spe_serve.specs.declared.failure.Failure.TheVariants.{Disk, Memory}
use Rattle.spe_serve.specs.Own.{StandOver}

-- what is read is right, and only pages are asked for that there are
pub record IsSharedRight (usable count : ℕ) (pages : Paging) (db : Database) (result : Result Shared TreeFault) : Type 0 where
  pub right : IsShared usable count pages db result
  pub asks : IfErr result (OnMissing (IsInside count))

-- so it is over the pages that a space tells, where they stand for a database in server form
abbrev pub TellsShared : {P : Type 0} (g : Ghosts P) (early : P) (node : ℕ) (result : Result Shared TreeFault) → Type 0
TellsShared g early node result = IfSome (g.told early) (λ pages. (count : ℕ) (db : Database) → StandsHeaded (g.used early) count node (sight g early pages) db
    → IsSharedRight (g.used early) count (sight g early pages) db result)

-- what a fault of the space comes to: a page that there is not is damage
abbrev pub faulty_shared : SpaceFault → Result (Result Shared ℕ) Failure
faulty_shared spaces.Read = Err Disk
faulty_shared (spaces.PageOut page pages) = Ok (Err page)
faulty_shared _ = Err Memory

abbrev pub shared_or_failure : Result Shared TreeFault → Result (Result Shared ℕ) Failure
shared_or_failure (Ok shared) = Ok (Ok shared)
shared_or_failure (Err (trees.Corrupt page)) = Ok (Err page)
shared_or_failure (Err (trees.Space fault)) = faulty_shared fault

-- What is read of recovered pages in server form that stand for a database: they are served, and have it; or a page is bare, and
-- they are not served.
abbrev pub IsReadOver : (pages : List (List ℕ)) → Database → Result Shared ℕ → Type 0
IsReadOver pages db (Ok shared) = ServedSince (opening_of (usable_in (header_in pages)) shared) (length pages) (page_in pages) db
IsReadOver pages db (Err page) = IsBare (usable_in (header_in pages)) (page_in pages) page × (Served (length pages) (page_in pages) db → ⊥)

abbrev pub IsSharedOver : (pages : List (List ℕ)) → Result Shared ℕ → Type 0
IsSharedOver pages read = is_wanted Prepared (header_in pages) ≡ true → (db : Database) → StandOver pages db → IsReadOver pages db read
