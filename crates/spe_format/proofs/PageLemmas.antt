-- The cells of a page, one after the other.
use Rattle.std.proofs.Common.{◌≡◌, ℕ, List, [], ◌∷◌, ◌++◌, Option, refl, true, arith}
use Rattle.std.proofs.lemmas.Bool.Decides.{nat_tests}
use Rattle.std.specs.List.{list_all}
use Rattle.std.specs.Option.{option_map}
use Rattle.spe_model.specs.Page.{is_within}

-- what is found, behind what was found before
abbrev pub behind : {X : Type 0} → List X → Option (List X) → Option (List X)
behind xs found = option_map (λ ys. xs ++ ys) found

-- what is not below some place is not below 0
pub within_zero : (low high : ℕ) (offsets : List ℕ) → list_all (is_within low high) offsets ≡ true → list_all (is_within 0 high) offsets ≡ true
within_zero low high [] all = refl
within_zero low high (n ∷ ns) all = grind (arith, nat_tests, within_zero low high ns)
