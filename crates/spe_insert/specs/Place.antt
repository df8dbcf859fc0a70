-- Places among the cells of a page.
use Rattle.std.specs.Prelude.{ℕ, ◌+◌, List, [], ◌∷◌, take, drop, nat_lt, if◌then◌else◌}
use Rattle.spe_model.specs.declared.page.Cell.{Cell}
use Rattle.spe_model.specs.Tree.{rank}
use Rattle.spe_cut.specs.Run.{Place, Run, inner, last}

-- how many cells stand before the first whose key is not below this one, by rank
abbrev pub place_for : ℕ → List Cell → ℕ
place_for key [] = 0
place_for key (c ∷ cs) = if nat_lt (rank c.key) key then place_for key cs + 1 else 0

-- the place behind some cells
abbrev pub place_behind : (before after : List Cell) → (right : ℕ) → Place
place_behind before [] right = last before
place_behind before (c ∷ cs) right = inner before c cs right

-- the place of a child by its number, from 0
abbrev pub place_at : ℕ → Run → Place
place_at n run = place_behind (take n run.cells) (drop n run.cells) run.right
