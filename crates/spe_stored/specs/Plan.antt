-- The operations that roll back hot journals, gathered record by record.
use Rattle.std.specs.Prelude.{◌≡◌, ℕ, Bool, ◌&&◌, not, nat_le, List, ◌++◌}
use Rattle.std.specs.Ordering.{nat_cmp}
use Rattle.std.specs.BTreeSet.{contains}
use Rattle.spe_model.specs.Journal.{Saved}
use Rattle.spe_model.specs.Rollback.{restores}
use Rattle.spe_model.specs.Trace.{Operation}
use Rattle.spe_stored.specs.declared.plan.Plan.{Plan}
use Rattle.spe_stored.specs.Shown.{all_shown}

-- a page is still to be written back
abbrev pub is_due : Plan → ℕ → Bool
is_due plan p = nat_le p plan.pages && not (contains nat_cmp plan.done p)

-- the operations so far, and those that some records add
abbrev pub planned : Plan → List Saved → List Operation
planned plan saved = all_shown plan.ops.items ++ restores plan.page_size (is_due plan) saved

-- the records of some pages are gathered, where others are still to come
pub record Leaves (left saved : List Saved) (old new : Plan) : Type 0 where
  pub size : new.page_size ≡ old.page_size
  pub pages : new.pages ≡ old.pages
  pub adds : (rest : List Saved) → planned new (left ++ rest) ≡ planned old (saved ++ rest)

-- the records of some pages are gathered
pub record Plans (saved : List Saved) (old new : Plan) : Type 0 where
  pub size : new.page_size ≡ old.page_size
  pub pages : new.pages ≡ old.pages
  pub adds : (rest : List Saved) → planned new rest ≡ planned old (saved ++ rest)
