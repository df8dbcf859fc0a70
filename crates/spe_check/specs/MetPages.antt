-- The pages that a walk has met.
use Rattle.std.specs.Prelude.{ℕ, Bool}
use Rattle.spe_check.specs.declared.met.Met.{Met}
use Rattle.spe_check.specs.Marked.{is_marked}

abbrev pub has_met : Met → ℕ → Bool
has_met met page = is_marked met.bits.items page
