-- The cells of a leaf with another one in the place of one of them.
use Rattle.std.proofs.Common.{◌≡◌, ◌∙◌, ℕ, ℤ, ◌+◌, ◌<◌, ◌≤◌, List, [], ◌∷◌, ◌++◌, true, take, drop, length, refl, sym, ap, subst, arith}
use Rattle.std.specs.Prelude.{◌&&◌, int_lt}
use Rattle.std.proofs.lemmas.List.{length-take-le}
use Rattle.spe_model.specs.declared.page.Cell.{Cell}
use Rattle.spe_model.specs.declared.page.Kind.{Kind}
use Rattle.spe_model.specs.declared.page.Kind.TheVariants.{TableLeaf}
use Rattle.spe_model.specs.Page.{above, ascends}
use Rattle.spe_format.specs.Canonical.{AreWritable, IsWritable, IsWritableCell}
use Rattle.spe_cut.specs.Parts.{leaf_cells, need, room, without}
use Rattle.spe_insert.specs.Replace.{StandsAt, with_other}
use Rattle.spe_insert.proofs.GapLemmas.{before_with}

above_other : (key : ℤ) (before : List Cell) (cell other : Cell) (after : List Cell) → other.key ≡ cell.key → above key (before ++ (other ∷ after)) ≡ above key (before ++ (cell ∷ after))
above_other key [] cell other after same = ap (λ (k : ℤ). int_lt key k && above k after) same
above_other key (d ∷ ds) cell other after same = rw (above_other d.key ds cell other after same) refl

ascends_other : (before : List Cell) (cell other : Cell) (after : List Cell) → other.key ≡ cell.key → ascends (before ++ (other ∷ after)) ≡ ascends (before ++ (cell ∷ after))
ascends_other [] cell other after same = ap (λ (k : ℤ). above k after) same
ascends_other (d ∷ ds) cell other after same = above_other d.key ds cell other after same

cells_other : (usable : ℕ) (before : List Cell) (cell other : Cell) (after : List Cell) → AreWritable TableLeaf usable (before ++ (cell ∷ after)) → IsWritableCell TableLeaf usable other
    → AreWritable TableLeaf usable (before ++ (other ∷ after))
cells_other usable [] cell other after are is = (is, are.1)
cells_other usable (d ∷ ds) cell other after are is = (are.0, cells_other usable ds cell other after are.1 is)

-- they can be written as the cells before
pub other_writable : (usable used place : ℕ) (cells all : List Cell) (cell other : Cell) → usable ≡ used → StandsAt cells place cell → all ≡ with_other place cells other → other.key ≡ cell.key
    → IsWritableCell TableLeaf usable other → IsWritable (leaf_cells cells) usable → IsWritable (leaf_cells all) used
other_writable usable used place cells all cell other same stands is key form old =
    let before = take place cells in
    let after = drop (place + 1) cells in
    subst (λ (v : ℕ). IsWritable (leaf_cells all) v) same (subst (λ (cs : List Cell). IsWritable (leaf_cells cs) usable) (sym is) (record {
      cells = cells_other usable before cell other after (subst (AreWritable TableLeaf usable) stands old.cells) form;
      right = λ _. refl;
      ascends = λ table. ascends_other before cell other after key ∙ subst (λ (cs : List Cell). ascends cs ≡ true) stands (old.ascends table);
    }))

need_less : (kind : Kind) (before : List Cell) (cell : Cell) (after : List Cell) → need kind (before ++ after) ≤ need kind (before ++ (cell ∷ after))
need_less kind [] cell after = omega arith
need_less kind (e ∷ es) cell after = let rest = need_less kind es cell after in omega (arith, rest)

-- and without the new one they fit
pub others_fit : (usable used place : ℕ) (cells all : List Cell) (cell other : Cell) → usable ≡ used → place < length cells → StandsAt cells place cell → all ≡ with_other place cells other
    → need TableLeaf cells ≤ room TableLeaf 0 usable → need TableLeaf (without place all) ≤ room TableLeaf 0 used
others_fit usable used place cells all cell other same within stands is few =
    let before = take place cells in
    let after = drop (place + 1) cells in
    let less : need TableLeaf (before ++ after) ≤ need TableLeaf (before ++ (cell ∷ after)) = need_less TableLeaf before cell after in
    let mine : need TableLeaf cells ≡ need TableLeaf (before ++ (cell ∷ after)) = ap (need TableLeaf) stands in
    let left : need TableLeaf (without place all) ≡ need TableLeaf (before ++ after) =
    ap (λ (cs : List Cell). need TableLeaf (without place cs)) is ∙ ap (need TableLeaf) (before_with place before other after (length-take-le place cells (omega (arith, within)))) in
    subst (λ (v : ℕ). need TableLeaf (without place all) ≤ room TableLeaf 0 v) same (omega (arith, less, mine, left, few))
