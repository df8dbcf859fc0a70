-- A run in the place of a child.
use Rattle.std.proofs.Common.{◌≡◌, ℕ, zero, suc, ◌<◌, ◌≤◌, ◌∙◌, List, [], ◌∷◌, ◌++◌, take, drop, length, refl, sym, ap, arith}
use Rattle.std.specs.Prelude.{slice_index_or, slice_set}
use Rattle.std.proofs.lemmas.List.{append-nil, drop_all, drop_at, length-take-le, take_all, take_at}
use Rattle.spe_model.specs.declared.page.Cell.{Cell}
use Rattle.spe_cut.specs.Run.{Run, with_child, with_run}
use Rattle.spe_insert.specs.Place.{place_behind}
use Rattle.spe_insert.specs.Run.{with_first}

abbrev run_with : ℕ → List Cell → Run
run_with right cells = record { cells = cells; right = right }

-- a run with some cells more before the one at a place
abbrev pub put_in : ℕ → List Cell → Run → Run
put_in n new run = record { cells = take n run.cells ++ (new ++ drop n run.cells); right = run.right }

put_behind : (n : ℕ) (before after : List Cell) (right : ℕ) (run : Run) → length before ≡ n
    → put_in n run.cells (with_child (place_behind before after right) run.right) ≡ with_run (place_behind before after right) run
put_behind n before [] right run long =
    ap (run_with run.right) (ap (λ (cs : List Cell). cs ++ (run.cells ++ drop n before)) (take_all n before (omega (arith, long)))
    ∙ ap (λ (cs : List Cell). before ++ (run.cells ++ cs)) (drop_all n before (omega (arith, long))) ∙ ap (λ (cs : List Cell). before ++ cs) (append-nil run.cells))
put_behind n before (c ∷ cs) right run long =
    let rest : List Cell = record c { left = run.right } ∷ cs in
    ap (run_with right) (ap (λ (ds : List Cell). ds ++ (run.cells ++ drop n (before ++ rest))) (take_at before rest n long)
    ∙ ap (λ (ds : List Cell). before ++ (run.cells ++ ds)) (drop_at before rest n long))

pub run_put : (n : ℕ) (cells : List Cell) (right : ℕ) (run : Run) → n ≤ length cells
    → put_in n run.cells (with_child (place_behind (take n cells) (drop n cells) right) run.right) ≡ with_run (place_behind (take n cells) (drop n cells) right) run
run_put n cells right run within = put_behind n (take n cells) (drop n cells) right run (length-take-le n cells within)

pub behind_first : (c : Cell) (before after : List Cell) (right child : ℕ)
    → with_child (place_behind (c ∷ before) after right) child ≡ with_first c (with_child (place_behind before after right) child)
behind_first c before [] right child = refl
behind_first c before (d ∷ ds) right child = refl

-- the cell of a child names another
pub child_set : (n : ℕ) (cells : List Cell) (right child : ℕ) (d : Cell) → n < length cells
    → record { cells = slice_set cells n (record (slice_index_or cells n d) { left = child }); right = right } ≡ with_child (place_behind (take n cells) (drop n cells) right) child
child_set n [] right child d within = absurd (omega (arith, within))
child_set zero (c ∷ cs) right child d within = refl
child_set (suc n) (c ∷ cs) right child d within =
    ap (with_first c) (child_set n cs right child d (omega (arith, within))) ∙ sym (behind_first c (take n cs) (drop n cs) right child)
