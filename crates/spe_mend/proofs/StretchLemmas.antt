-- Two children one behind the other, among those of a page.
use Rattle.std.proofs.Common.{◌≡◌, ℕ, zero, suc, ◌+◌, ◌<◌, ◌∙◌, List, [], ◌∷◌, ◌++◌, take, drop, length, refl, sym, ap, arith}
use Rattle.spe_model.specs.declared.page.Cell.{Cell}
use Rattle.spe_model.specs.declared.page.Kind.TheVariants.{TableInterior}
use Rattle.spe_model.specs.Cell.{size_of}
use Rattle.spe_format.specs.Canonical.{AreWritable, IsWritableCell}
use Rattle.spe_cut.specs.Parts.{without}
use Rattle.spe_cut.specs.Run.{Run, separator, with_run}
use Rattle.spe_insert.specs.Place.{place_behind}
use Rattle.spe_insert.specs.Run.{with_first}
use Rattle.spe_mend.specs.Stretch.{PairStands, first_two, pair_place}

abbrev run_with : List Cell → ℕ → Run
run_with cells right = record { cells = cells; right = right }

none_long : (xs : List ℕ) → length xs ≡ 0 → xs ≡ []
none_long [] long = refl
none_long (x ∷ xs) long = absurd (omega (arith, long))

-- a cell of an interior page is a child and a key alone
is_separator : (usable : ℕ) (c : Cell) → IsWritableCell TableInterior usable c → separator c.key c.left ≡ c
is_separator usable c form =
    let bare = form.payload refl in
    let long : length c.local ≡ 0 = form.local ∙ ap (λ (n : ℕ). size_of TableInterior n usable) bare in
    let local = none_long c.local long in
    let chain = form.chain (long ∙ sym bare) in
    sym (ap (λ (n : ℕ). record { left = c.left; key = c.key; payload = n; local = c.local; chain = c.chain }) bare
    ∙ ap (λ (xs : List ℕ). record { left = c.left; key = c.key; payload = 0; local = xs; chain = c.chain }) local
    ∙ ap (λ (n : ℕ). record { left = c.left; key = c.key; payload = 0; local = []; chain = n }) chain)

behind_first : (c : Cell) (before after : List Cell) (right : ℕ) (run : Run) → with_run (place_behind (c ∷ before) after right) run ≡ with_first c (with_run (place_behind before after right) run)
behind_first c before [] right run = refl
behind_first c before (d ∷ ds) right run = refl

behind_on : (n : ℕ) → suc n + 1 ≡ suc (n + 1)
behind_on n = omega arith

pub stands : (usable n : ℕ) (cells : List Cell) (right : ℕ) → AreWritable TableInterior usable cells → n < length cells
    → with_run (pair_place n (run_with cells right)) (first_two (drop n cells) right) ≡ run_with cells right
stands usable n [] right are within = absurd (omega (arith, within))
stands usable zero (c ∷ []) right are within = ap (λ (x : Cell). run_with (x ∷ []) right) (is_separator usable c are.0)
stands usable zero (c ∷ d ∷ ds) right are within = ap (λ (x : Cell). run_with (x ∷ d ∷ ds) right) (is_separator usable c are.0)
stands usable (suc n) (c ∷ cs) right are within =
    let rest = without n cs in
    let two = first_two (drop n cs) right in
    ap (λ (k : ℕ). with_run (place_behind (take (suc n) (c ∷ (take n cs ++ drop k (c ∷ cs)))) (drop (suc n) (c ∷ (take n cs ++ drop k (c ∷ cs)))) right) two) (behind_on n)
    ∙ behind_first c (take n rest) (drop n rest) right two ∙ ap (with_first c) (stands usable n cs right are.1 (omega (arith, within)))

pub pair_stands : PairStands
pair_stands usable n run are within = stands usable n run.cells run.right are within
