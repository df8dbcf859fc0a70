-- Runs of children, as code makes them.
use Rattle.std.proofs.Common.{◌≡◌, ℤ, pos, List, [], ◌∷◌, refl}
use Rattle.spe_model.specs.declared.page.Cell.{Cell}
use Rattle.spe_cut.specs.Leaf.{last_key}
use Rattle.spe_insert.specs.Run.{last_from}

pub last_is : (key : ℤ) (c : Cell) (cs : List Cell) → last_from key (c ∷ cs) ≡ last_key (c ∷ cs)
last_is key c [] = refl
last_is key c (d ∷ cs) = last_is c.key d cs

pub last_of : (cells : List Cell) → last_from (pos 0) cells ≡ last_key cells
last_of [] = refl
last_of (c ∷ cs) = last_is (pos 0) c cs

-- nothing is left
pub last_ends : (key : ℤ) (left : List Cell) → left ≡ [] → last_from key left ≡ key
last_ends key left e = rw e refl
