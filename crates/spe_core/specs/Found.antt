-- A transaction that was looked up.
use Rattle.std.specs.Prelude.{◌≡◌, Bool, false, Option, Some, None}
use Rattle.spe_core.specs.State.{Live}

-- each test answers what it answers of the transaction that was found, and false where there is none
abbrev pub FindsLive : ((Live → Bool) → Bool) → Option Live → Type 0
FindsLive answer None = (test : Live → Bool) → answer test ≡ false
FindsLive answer (Some t) = (test : Live → Bool) → answer test ≡ test t
