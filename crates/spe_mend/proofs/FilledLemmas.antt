-- Two children of a page that became others: what has cells.
use Rattle.std.proofs.Common.{ℕ, List, [], ◌∷◌, ◌++◌, All, arith}
use Rattle.std.proofs.lemmas.List.Elements.{All-cons, All-head, All-nil, All-tail}
use Rattle.std.specs.List.{flat_map}
use Rattle.spe_model.specs.declared.page.Cell.{Cell}
use Rattle.spe_model.specs.Paging.{Paging}
use Rattle.spe_model.specs.Served.{HasCells}
use Rattle.spe_model.specs.Standing.{AreBelow, all_pages}
use Rattle.spe_model.specs.Tree.{fan}
use Rattle.spe_frame.proofs.TimesLemmas.{times-append}
use Rattle.spe_cut.specs.Run.{AreKept, KeptRunStays, Run, alone, inner, last}
use Rattle.spe_mend.specs.Filled.{FilledBeside}
use Rattle.spe_mend.proofs.PairLemmas.{below_both}

abbrev run_with : List Cell → ℕ → Run
run_with cells right = record { cells = cells; right = right }

kept_first : (old new : Paging) (xs ys : List ℕ) → AreKept old new (xs ++ ys) → AreKept old new xs
kept_first old new xs ys kept n some = kept n (omega (arith, some, times-append n xs ys))

kept_last : (old new : Paging) (xs ys : List ℕ) → AreKept old new (xs ++ ys) → AreKept old new ys
kept_last old new xs ys kept n some = kept n (omega (arith, some, times-append n xs ys))

-- the trees before a place
front_filled : KeptRunStays → (usable : ℕ) (old new : Paging) (height : ℕ) (before : List Cell) → AreKept old new (flat_map (λ (d : Cell). all_pages usable old height d.left) before)
    → All (λ (d : Cell). HasCells usable old height d.left) before → All (λ (d : Cell). HasCells usable new height d.left) before
front_filled stays usable old new height [] kept has = All-nil (λ (d : Cell). HasCells usable new height d.left)
front_filled stays usable old new height (c ∷ cs) kept has =
    let mine = all_pages usable old height c.left in
    let others = flat_map (λ (d : Cell). all_pages usable old height d.left) cs in
    All-cons (λ (d : Cell). HasCells usable new height d.left) c cs
    ((stays usable old new height (alone c.left) (kept_first old new mine others kept)).filled (All-head (λ (d : Cell). HasCells usable old height d.left) c cs has))
    (front_filled stays usable old new height cs (kept_last old new mine others kept) (All-tail (λ (d : Cell). HasCells usable old height d.left) c cs has))

below_behind : (T : ℕ → Type 0) (before cells : List Cell) (right : ℕ) → All (λ (d : Cell). T d.left) before → AreBelow T cells right → AreBelow T (before ++ cells) right
below_behind T [] cells right front rest = rest
below_behind T (c ∷ cs) cells right front rest =
    (All-head (λ (d : Cell). T d.left) c cs front, below_behind T cs cells right (All-tail (λ (d : Cell). T d.left) c cs front) rest)

pub filled_beside : KeptRunStays → FilledBeside
filled_beside stays usable old new height (inner before c after right) run kept has below =
    let own = all_pages usable old height in
    let front = flat_map (λ (d : Cell). own d.left) before in
    let back = fan own after right in
    let behind = (stays usable old new height (run_with after right) (kept_last old new front back kept)).filled has.1 in
    below_behind (HasCells usable new height) before (run.cells ++ (record c { left = run.right } ∷ after)) right
    (front_filled stays usable old new height before (kept_first old new front back kept) has.0)
    (below_both (HasCells usable new height) run.cells (record c { left = run.right }) after right below behind)
filled_beside stays usable old new height (last before) run kept has below =
    below_behind (HasCells usable new height) before run.cells run.right
    (front_filled stays usable old new height before (kept_first old new (flat_map (λ (d : Cell). all_pages usable old height d.left) before) [] kept) has) below
