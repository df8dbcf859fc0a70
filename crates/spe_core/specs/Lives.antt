-- The live transactions of a state.
use Rattle.std.specs.Prelude.{◌≡◌, ℕ, List, Option, Some, None}
use Rattle.std.specs.Option.{option_map_or}
use Rattle.std.specs.Ordering.{nat_cmp}
use Rattle.std.specs.BTreeMap.{insert_entry}
use Rattle.spe_stored.specs.Sheets.{Sheets}
use Rattle.spe_core.specs.State.{Live, live_in}

abbrev pub with_live_in : ℕ → Live → List (ℕ × Live) → List (ℕ × Live)
with_live_in id t live = insert_entry nat_cmp live id t

-- the transaction of a number, where it is live, becomes what `f` makes of it
abbrev pub updated_in : ℕ → (Live → Live) → List (ℕ × Live) → List (ℕ × Live)
updated_in id f live = option_map_or (λ t. with_live_in id (f t) live) (live_in id live) live

-- what a transaction journalled, where it is live
abbrev pub Leaves : Option Live → Option Sheets → Type 0
Leaves None left = left ≡ None
Leaves (Some t) left = left ≡ Some t.journalled
