-- Two children one behind the other, among those of a page.
use Rattle.std.specs.Prelude.{◌≡◌, ℕ, ◌+◌, ◌<◌, List, [], ◌∷◌, drop, length}
use Rattle.spe_model.specs.declared.page.Cell.{Cell}
use Rattle.spe_model.specs.declared.page.Kind.TheVariants.{TableInterior}
use Rattle.spe_model.specs.Tree.{child_for}
use Rattle.spe_format.specs.Canonical.{AreWritable}
use Rattle.spe_cut.specs.Parts.{without}
use Rattle.spe_cut.specs.Run.{Place, Run, alone, with_run}
use Rattle.spe_insert.specs.Below.{first_child}
use Rattle.spe_insert.specs.Place.{place_at, place_for}
use Rattle.spe_delete.specs.Join.{two_pages}

-- the first two of some children, with the key between them
abbrev pub first_two : List Cell → (right : ℕ) → Run
first_two [] right = alone right
first_two (c ∷ []) right = two_pages c.key c.left right
first_two (c ∷ d ∷ ds) right = two_pages c.key c.left d.left

-- the place of the two children on both sides of a cell, by its number, from 0
abbrev pub pair_place : ℕ → Run → Place
pair_place n run = place_at n (record { cells = without n run.cells; right = run.right })

-- they stand there: so all children are a run in which the two are a stretch
abbrev pub PairStands : Type 0
PairStands = (usable n : ℕ) (run : Run) → AreWritable TableInterior usable run.cells → n < length run.cells
    → with_run (pair_place n run) (first_two (drop n run.cells) run.right) ≡ run

-- the child in which a rowid of this rank belongs is the first of them, or the second
abbrev pub PairHasChild : Type 0
PairHasChild = (key n : ℕ) (run : Run) → n < length run.cells
    → (n ≡ place_for key run.cells → child_for key run.cells run.right ≡ first_child (first_two (drop n run.cells) run.right))
    × (n + 1 ≡ place_for key run.cells → child_for key run.cells run.right ≡ (first_two (drop n run.cells) run.right).right)
