-- The cells of a legal page fit it in their written form.
use Rattle.std.proofs.Common.{◌≡◌, ℕ, ◌-◌, ◌*◌, ◌≤◌, ◌∙◌, List, [], ◌∷◌, length, take, drop, Bool, true, false, Option, Some, None, Result, Ok, Err, refl, ap, subst, arith, length-drop}
use Rattle.std.specs.Prelude.{◌&&◌, if◌then◌else◌, nat_lt, not, slice_index, slice_range}
use Rattle.std.specs.List.{list_all}
use Rattle.std.proofs.lemmas.Bool.{leb-true, ltb-false, not-false}
use Rattle.std.proofs.lemmas.List.{length-take}
use Rattle.std.proofs.lemmas.List.Edits.{length-between}
use Rattle.spe_model.specs.declared.page.Cell.{Cell}
use Rattle.spe_model.specs.declared.page.Kind.{Kind}
use Rattle.spe_model.specs.declared.page.PageCells.{PageCells}
use Rattle.spe_model.specs.declared.page.PageFault.{PageFault}
use Rattle.spe_model.specs.Cell.{cell_at}
use Rattle.spe_model.specs.Kind.{is_table, kind_of}
use Rattle.spe_model.specs.Page.{apart, array_end, array_start, ascends, cell_count, is_within, numbers, offsets_at, page_at, page_of_cells, page_of_kind, placed_all, placed_at, right_at}
use Rattle.spe_format.specs.Canonical.{cell_bytes, cells_length}
use Rattle.spe_cut.specs.Parts.{need, room}
use Rattle.spe_cut.proofs.ShortLemmas.{AreSmall, bind_some, cell_read, small_drop}
use Rattle.spe_cut.proofs.SpanLemmas.{AreInside, spans_fit, spans_length}

numbers_length : (n : ℕ) (xs : List ℕ) → length xs ≡ 2 * n → length (numbers xs) ≡ n
numbers_length n [] e = omega (arith, e)
numbers_length n (a ∷ []) e = absurd (omega (arith, e))
numbers_length n (a ∷ b ∷ rest) e = let few = numbers_length (n - 1) rest (omega (arith, e)) in omega (arith, few, e)

and_both : (a b : Bool) → (a && b) ≡ true → (a ≡ true) × (b ≡ true)
and_both true b both = (refl, both)
and_both false b both = absurd cc

-- a cell and where it lies
record IsPlacedAt (kind : Kind) (low : ℕ) (page : List ℕ) (offset : ℕ) (cell : Cell) (end : ℕ) : Type 0 where
  from : low ≤ offset
  to : end ≤ length page
  short : length (cell_bytes kind cell) ≤ end - offset

placed_is : (kind : Kind) (low : ℕ) (page : List ℕ) (offset : ℕ) (found : Cell × ℕ) → AreSmall page → is_within low (length page) offset ≡ true
    → placed_at kind (length page) page offset ≡ Some found → IsPlacedAt kind low page offset found.0 found.1
unfolding placed_at
placed_is kind low page offset found small within e =
    let both = and_both _ _ within in
    let from = leb-true low offset both.0 in
    let to = leb-true offset (length page) both.1 in
    let one = bind_some (cell_at kind (length page) (drop offset page)) _ found e in
    let read = cell_read kind (length page) (drop offset page) one.0.1 one.0.0 (small_drop offset page small) one.1 in
    let left = length-drop offset page in
    let is : IsPlacedAt kind low page offset one.0.0 (length page - length one.0.1) =
    record { from = from; to = omega arith; short = omega (arith, read, left, to) } in
    subst (λ (x : Cell × ℕ). IsPlacedAt kind low page offset x.0 x.1) (ap (λ (o : Option (Cell × ℕ)). taken found o) one.2) is
  where
    taken : Cell × ℕ → Option (Cell × ℕ) → Cell × ℕ
    taken other None = other
    taken other (Some x) = x

record AllPlaced (kind : Kind) (low : ℕ) (page offsets : List ℕ) (cells : List Cell) (spans : List (ℕ × ℕ)) : Type 0 where
  count : length cells ≡ length offsets
  short : cells_length kind cells ≤ spans_length spans
  inside : AreInside low (length page) spans

abbrev found_in : List Cell × List (ℕ × ℕ) → Option (List Cell × List (ℕ × ℕ)) → List Cell × List (ℕ × ℕ)
found_in other None = other
found_in other (Some x) = x

all_placed : (kind : Kind) (low : ℕ) (page offsets : List ℕ) (found : List Cell × List (ℕ × ℕ)) → AreSmall page → list_all (is_within low (length page)) offsets ≡ true
    → placed_all kind (length page) page offsets ≡ Some found → AllPlaced kind low page offsets found.0 found.1
all_placed kind low page [] found small within e =
    subst (λ (x : List Cell × List (ℕ × ℕ)). AllPlaced kind low page [] x.0 x.1) (ap (λ (o : Option (List Cell × List (ℕ × ℕ))). found_in found o) e)
    (record { count = refl; short = omega arith; inside = tt })
all_placed kind low page (o ∷ os) found small within e =
    let both = and_both (is_within low (length page) o) (list_all (is_within low (length page)) os) within in
    let first = bind_some (placed_at kind (length page) page o) _ found e in
    let others = bind_some (placed_all kind (length page) page os) _ found first.2 in
    let one = placed_is kind low page o first.0 small both.0 first.1 in
    let rest = all_placed kind low page os others.0 small both.1 others.1 in
    let count = rest.count in
    let short = rest.short in
    let cell = one.short in
    subst (λ (x : List Cell × List (ℕ × ℕ)). AllPlaced kind low page (o ∷ os) x.0 x.1) (ap (λ (p : Option (List Cell × List (ℕ × ℕ))). found_in found p) others.2)
    (record { count = omega (arith, count); short = omega (arith, short, cell); inside = (one.from, one.to, rest.inside) })

unless_err : {X : Type 0} (b : Bool) (f : PageFault) (r : Result X PageFault) (x : X) → (if b then Err f else r) ≡ Ok x → (b ≡ false) × (r ≡ Ok x)
unless_err true f r x e = absurd cc
unless_err false f r x e = (refl, e)

abbrev page_in : PageCells → Result PageCells PageFault → PageCells
page_in other (Err f) = other
page_in other (Ok x) = x

found_fits : (kind : Kind) (page : List ℕ) (at : ℕ) (found : Option (List Cell × List (ℕ × ℕ))) (p : PageCells) → AreSmall page → array_end kind page at ≤ length page
    → list_all (is_within (array_end kind page at) (length page)) (offsets_at kind page at) ≡ true
    → placed_all kind (length page) page (offsets_at kind page at) ≡ found → page_of_cells kind page at found ≡ Ok p → need p.kind p.cells ≤ room p.kind at (length page)
found_fits kind page at None p small ends within placed e = absurd cc
found_fits kind page at (Some x) p small ends within placed e =
    let one = unless_err (not (apart x.1)) _ _ p e in
    let two = unless_err (is_table kind && not (ascends x.0)) _ _ p one.1 in
    let all = all_placed kind (array_end kind page at) page (offsets_at kind page at) x small within placed in
    let few = spans_fit (array_end kind page at) (length page) x.1 (not-false (apart x.1) one.0) all.inside in
    let between = length-between page (array_start kind at) (array_end kind page at) ends in
    let count = numbers_length (cell_count page at) (slice_range page (array_start kind at) (array_end kind page at)) (between ∙ omega arith) in
    let cells = all.count in
    let short = all.short in
    let fits : need kind x.0 ≤ room kind at (length page) = omega (arith, few, count, cells, short, ends) in
    let same : record { kind = kind; cells = x.0; right = right_at kind page at } ≡ p = ap (page_in p) two.1 in
    subst (λ (q : PageCells). need q.kind q.cells ≤ room q.kind at (length page)) same fits

kind_fits : (kind : Option Kind) (page : List ℕ) (at : ℕ) (p : PageCells) → AreSmall page → page_of_kind kind page at ≡ Ok p → need p.kind p.cells ≤ room p.kind at (length page)
kind_fits None page at p small e = absurd cc
kind_fits (Some kind) page at p small e =
    let one = unless_err (nat_lt (length page) (array_end kind page at)) _ _ p e in
    let two = unless_err (not (list_all (is_within (array_end kind page at) (length page)) (offsets_at kind page at))) _ _ p one.1 in
    found_fits kind page at (placed_all kind (length page) page (offsets_at kind page at)) p small (ltb-false (length page) (array_end kind page at) one.0) (not-false _ two.0) refl two.1

pub legal_fits : (usable : ℕ) (page : List ℕ) (at : ℕ) (p : PageCells) → AreSmall (take usable page) → page_at (take usable page) at ≡ Ok p → need p.kind p.cells ≤ room p.kind at usable
unfolding page_at
legal_fits usable page at p small e =
    let fits = kind_fits (kind_of (slice_index (take usable page) at)) (take usable page) at p small e in
    let long = length-take usable page in
    omega (arith, fits, long)
