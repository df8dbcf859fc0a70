-- The rows of a tree between two rowids, and what of the tree they touch.
use Rattle.std.specs.Prelude.{ℕ, ℤ, List, [], ◌∷◌, ◌++◌, filter, nat_le, nat_lt, ◌&&◌, Bool, if◌then◌else◌}
use Rattle.spe_model.specs.declared.page.Cell.{Cell}
use Rattle.spe_model.specs.Tree.{rank}

-- the rows whose rowids are from one to another, by rank
abbrev pub is_between : ℕ → ℕ → ℤ × List ℕ → Bool
is_between low high r = nat_le low (rank r.0) && nat_le (rank r.0) high

abbrev pub between : ℕ → ℕ → List (ℤ × List ℕ) → List (ℤ × List ℕ)
between low high rows = filter (is_between low high) rows

-- the children under which such rows may be
abbrev pub touched : (low high : ℕ) → List Cell → (right : ℕ) → List ℕ
touched low high [] right = right ∷ []
touched low high (c ∷ cs) right =
    if nat_lt (rank c.key) low then touched low high cs right
    else (if nat_le high (rank c.key) then c.left ∷ [] else c.left ∷ touched low high cs right)

-- what some pages have, one after the other
abbrev pub joined : {X : Type 0} → (ℕ → List X) → List ℕ → List X
joined own [] = []
joined own (page ∷ rest) = own page ++ joined own rest
