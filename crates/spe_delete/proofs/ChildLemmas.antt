-- A child that goes from its page.
use Rattle.std.proofs.Common.{◌≡◌, ℕ, suc, ℤ, ◌+◌, ◌-◌, ◌*◌, ◌<◌, ◌≤◌, ◌∙◌, List, true, length, sym, ap, subst, arith}
use Rattle.std.proofs.lemmas.Bool.{le-leb}
use Rattle.spe_model.specs.declared.page.Cell.{Cell}
use Rattle.spe_model.specs.declared.page.Kind.TheVariants.{TableInterior}
use Rattle.spe_model.specs.Page.{ascends}
use Rattle.spe_model.specs.Tree.{rank}
use Rattle.spe_format.specs.Canonical.{AreWritable, IsWritable, cells_length, fits}
use Rattle.spe_cut.specs.Parts.{need, room, run_cells, without}
use Rattle.spe_cut.specs.Run.{Run}
use Rattle.spe_insert.specs.Place.{place_for}
use Rattle.spe_delete.specs.Child.{fewer_of}
use Rattle.spe_delete.specs.Leaf.{IsAmong}
use Rattle.spe_delete.proofs.FewerLemmas.{fewer_end, fewer_inner, fewer_need, fewer_writable}

abbrev run_with : List Cell → ℕ → Run
run_with cells right = record { cells = cells; right = right }

less_one : (long : ℕ) → 1 ≤ long → long ≡ suc (long - 1)
less_one long some = omega (arith, some)

-- a cell is taken out
pub inner_is : (rowid z : ℤ) (cells one two rest : List Cell) (right place : ℕ) → z ≡ rowid → one ≡ cells → two ≡ cells → place ≡ place_for (rank z) two → 1 ≤ length cells
    → place ≤ length one - 1 → rest ≡ without place cells → run_with rest right ≡ fewer_of rowid (run_with cells right)
inner_is rowid z cells one two rest right place same first second at some low is =
    let there : place ≡ place_for (rank rowid) cells = at ∙ ap (λ (k : ℤ). place_for (rank k) two) same ∙ ap (place_for (rank rowid)) second in
    let within : place < length cells = (let long = ap length first in omega (arith, some, low, long)) in
    ap (λ (cs : List Cell). run_with cs right) (is ∙ ap (λ (n : ℕ). without n cells) there)
    ∙ sym (fewer_inner (rank rowid) cells right (subst (λ (n : ℕ). n < length cells) there within))

-- the last cell is taken out, whose child is the last then
pub end_is : (rowid z : ℤ) (cells one two rest : List Cell) (right place : ℕ) (cell : Cell) → z ≡ rowid → one ≡ cells → two ≡ cells → place ≡ place_for (rank z) two → 1 ≤ length cells
    → length one - 1 < place → rest ≡ without (length one - 1) cells → IsAmong cells (length one - 1) cell
    → run_with rest cell.left ≡ fewer_of rowid (run_with cells right)
end_is rowid z cells one two rest right place cell same first second at some low is among =
    let there : place ≡ place_for (rank rowid) cells = at ∙ ap (λ (k : ℤ). place_for (rank k) two) same ∙ ap (place_for (rank rowid)) second in
    let long : length one ≡ length cells = ap length first in
    let past : length cells ≤ place = omega (arith, some, low, long) in
    ap (λ (cs : List Cell). run_with cs cell.left) is
    ∙ sym (fewer_end (rank rowid) (length one - 1) cells right cell (sym long ∙ less_one (length one) (omega (arith, long, some))) (subst (λ (n : ℕ). length cells ≤ n) there past) among)

-- the others can be written on the page
pub fewer_form : (usable : ℕ) (rowid : ℤ) (children left : Run) → left ≡ fewer_of rowid children → AreWritable TableInterior usable children.cells → ascends left.cells ≡ true
    → IsWritable (run_cells left) usable
fewer_form usable rowid children left is are order = record {
  cells = subst (λ (r : Run). AreWritable TableInterior usable r.cells) (sym is) (fewer_writable TableInterior usable (rank rowid) children.cells children.right are);
  right = λ e. absurd cc;
  ascends = λ _. order;
}

pub fewer_fits : (usable : ℕ) (rowid : ℤ) (children left : Run) → 480 ≤ usable → left ≡ fewer_of rowid children → need TableInterior children.cells ≤ room TableInterior 0 usable
    → fits (run_cells left) 0 usable ≡ true
fewer_fits usable rowid children left wide is few =
    let less = fewer_need TableInterior (rank rowid) children.cells children.right in
    let mine = ap (λ (r : Run). need TableInterior r.cells) is in
    le-leb (12 + (2 * length left.cells + cells_length TableInterior left.cells)) usable (omega (arith, less, mine, few, wide))
