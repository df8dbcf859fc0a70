-- What a page shows, beside what it holds.
use Rattle.std.proofs.Common.{◌≡◌, ℕ, zero, suc, ◌+◌, ◌-◌, ◌*◌, ◌<◌, ◌≤◌, List, [], ◌∷◌, length, map, get_or, Bool, true, false, refl, sym, ◌∙◌, ap, arith, Option, Some, None, Result, Ok, Err}
use Rattle.std.specs.Prelude.{IfErr, slice_index, slice_range, not, ◌&&◌, nat_lt, if◌then◌else◌}
use Rattle.std.specs.List.{list_all}
use Rattle.std.proofs.lemmas.Bool.{not-false}
use Rattle.std.proofs.lemmas.List.{get_or-map, get_or-drop, length-map}
use Rattle.std.proofs.lemmas.List.Edits.{get_or-between, length-between}
use Rattle.spe_model.specs.declared.page.Kind.{Kind}
use Rattle.spe_model.specs.declared.page.Cell.{Cell}
use Rattle.spe_model.specs.declared.page.PageCells.{PageCells}
use Rattle.spe_model.specs.declared.page.PageFault.{PageFault}
use Rattle.spe_model.specs.declared.page.PageFault.TheVariants.{OffsetOut}
use Rattle.spe_model.specs.Big.{u16_at}
use Rattle.spe_model.specs.Cell.{◌>>=◌}
use Rattle.spe_model.specs.Kind.{is_table, kind_of}
use Rattle.spe_model.specs.Page.{numbers, is_within, placed_at, placed_all, apart, ascends, array_end, offsets_at, right_at, page_of_cells, page_of_kind, page_at}
use Rattle.spe_format.specs.View.{Shown, cell_from, shown_by, shown_of_kind, shown_at, shown_of}

numbers_length : (n : ℕ) (xs : List ℕ) → length xs ≡ 2 * n → length (numbers xs) ≡ n
numbers_length n [] e = omega arith
numbers_length n (a ∷ []) e = absurd (omega arith)
numbers_length n (a ∷ b ∷ rest) e =
    let few : length (numbers rest) ≡ n - 1 = numbers_length (n - 1) rest (omega arith) in
    omega arith

numbers_get : (i : ℕ) (xs : List ℕ) → 2 * i + 1 < length xs → get_or (numbers xs) i 0 ≡ get_or xs (2 * i) 0 * 256 + get_or xs (2 * i + 1) 0
numbers_get i [] l = absurd (omega arith)
numbers_get i (a ∷ []) l = absurd (omega arith)
numbers_get zero (a ∷ b ∷ rest) l = refl
numbers_get (suc i) (a ∷ b ∷ rest) l =
    let one : 2 * suc i ≡ suc (suc (2 * i)) = omega arith in
    let two : 2 * suc i + 1 ≡ suc (suc (2 * i + 1)) = omega arith in
    rw (two, one) (numbers_get i rest (omega arith))

-- an offset of the array
offset_at : (page : List ℕ) (start count i : ℕ) → start + 2 * count ≤ length page → i < count
    → get_or (numbers (slice_range page start (start + 2 * count))) i 0 ≡ u16_at page (start + 2 * i)
unfolding u16_at
offset_at page start count i within below =
    let high = get_or-between page start (start + 2 * count) (2 * i) 0 (omega arith) in
    let low = get_or-between page start (start + 2 * count) (2 * i + 1) 0 (omega arith) in
    let long = length-between page start (start + 2 * count) within in
    let next : start + (2 * i + 1) ≡ start + 2 * i + 1 = omega arith in
    let none : start + 2 * i + 0 ≡ start + 2 * i = omega arith in
    numbers_get i (slice_range page start (start + 2 * count)) (omega (arith, long))
    ∙ rw (high, low, get_or-drop (start + 2 * i) page 0 0, get_or-drop (start + 2 * i) page 1 0, next, none) (omega arith)

offsets_length : (page : List ℕ) (start count : ℕ) → start + 2 * count ≤ length page → length (numbers (slice_range page start (start + 2 * count))) ≡ count
offsets_length page start count within = numbers_length count _ (length-between page start (start + 2 * count) within ∙ omega arith)

cells_length : (kind : Kind) (page : List ℕ) (start count right : ℕ) → start + 2 * count ≤ length page → length (shown_by kind page start count right).cells ≡ count
cells_length kind page start count right within = rw length-map (offsets_length page start count within)

-- a cell of the view
cell_shown : (kind : Kind) (page : List ℕ) (start count right i : ℕ) → start + 2 * count ≤ length page → i < count
    → get_or (shown_by kind page start count right).cells i None ≡ cell_from kind page (start + 2 * count) (u16_at page (start + 2 * i))
cell_shown kind page start count right i within below =
    let long : i < length (numbers (slice_range page start (start + 2 * count))) = rw offsets_length below in
    get_or-map (cell_from kind page (start + 2 * count)) (numbers (slice_range page start (start + 2 * count))) i 0 None long
    ∙ ap (cell_from kind page (start + 2 * count)) (offset_at page start count i within below)

abbrev cells_in : Option (List Cell × List (ℕ × ℕ)) → List Cell
cells_in None = []
cells_in (Some x) = x.0

abbrev fault_of : {T U : Type 0} → Result U PageFault → Result T PageFault → Result U PageFault
fault_of other (Ok x) = other
fault_of other (Err f) = Err f

cons_same : {X : Type 0} {x y : X} {xs ys : List X} → x ≡ y → xs ≡ ys → x ∷ xs ≡ y ∷ ys
cons_same e f = rw (e, f) refl

bind_some : {A B : Type 0} (o : Option A) (f : A → Option B) (y : B) → (o >>= f) ≡ Some y → (x : A) × (o ≡ Some x) × (f x ≡ Some y)
bind_some None f y e = absurd cc
bind_some (Some x) f y e = (x, refl, e)

and_parts : (a b : Bool) → (a && b) ≡ true → (a ≡ true) × (b ≡ true)
and_parts true b e = (refl, e)
and_parts false b e = absurd cc

cell_within : (kind : Kind) (page : List ℕ) (low o : ℕ) (found : Cell × ℕ) → is_within low (length page) o ≡ true
    → placed_at kind (length page) page o ≡ Some found → cell_from kind page low o ≡ Some found.0
cell_within kind page low o found within e = rw (within, e) refl

-- the cells of a legal page are those that it shows
placed_map : (kind : Kind) (page : List ℕ) (low : ℕ) (offsets : List ℕ) (found : List Cell × List (ℕ × ℕ))
    → list_all (is_within low (length page)) offsets ≡ true → placed_all kind (length page) page offsets ≡ Some found
    → map (cell_from kind page low) offsets ≡ map Some found.0
placed_map kind page low [] found all e = ap (λ (o : Option (List Cell × List (ℕ × ℕ))). map Some (cells_in o)) e
placed_map kind page low (o ∷ os) found all e =
    let parts = and_parts (is_within low (length page) o) (list_all (is_within low (length page)) os) all in
    let one = bind_some (placed_at kind (length page) page o) _ found e in
    let two = bind_some (placed_all kind (length page) page os) _ found one.2 in
    let first : cell_from kind page low o ≡ Some one.0.0 = cell_within kind page low o one.0 parts.0 one.1 in
    let rest : map (cell_from kind page low) os ≡ map Some two.0.0 = placed_map kind page low os two.0 parts.1 two.1 in
    let whole : one.0.0 ∷ two.0.0 ≡ found.0 = ap (λ (o : Option (List Cell × List (ℕ × ℕ))). cells_in o) two.2 in
    cons_same first rest ∙ ap (map Some) whole

unless_err : {X : Type 0} (b : Bool) (f : PageFault) (r : Result X PageFault) (x : X) → (if b then Err f else r) ≡ Ok x → (b ≡ false) × (r ≡ Ok x)
unless_err true f r x e = absurd cc
unless_err false f r x e = (refl, e)

abbrev ok : PageCells → Result PageCells PageFault
ok x = Ok x

abbrev shows_none : PageFault → Result Shown PageFault
shows_none f = Err f

ok_is : (x y : PageCells) → ok x ≡ ok y → x ≡ y
ok_is x y e = cc

cells_legal : (kind : Kind) (page : List ℕ) (at : ℕ) (found : Option (List Cell × List (ℕ × ℕ))) (cells : PageCells) → page_of_cells kind page at found ≡ Ok cells
    → (x : List Cell × List (ℕ × ℕ)) × (found ≡ Some x) × (record { kind = kind; cells = x.0; right = right_at kind page at } ≡ cells)
cells_legal kind page at None cells e = absurd cc
cells_legal kind page at (Some x) cells e =
    let one = unless_err (not (apart x.1)) _ _ cells e in
    let two = unless_err (is_table kind && not (ascends x.0)) _ _ cells one.1 in
    (x, refl, ok_is _ cells two.1)

kind_legal : (kind : Kind) (page : List ℕ) (at : ℕ) (cells : PageCells) → page_of_kind (Some kind) page at ≡ Ok cells
    → shown_of_kind (Some kind) page at ≡ Ok (shown_of cells)
kind_legal kind page at cells e =
    let one = unless_err (nat_lt (length page) (array_end kind page at)) _ _ cells e in
    let two = unless_err (not (list_all (is_within (array_end kind page at) (length page)) (offsets_at kind page at))) _ _ cells one.1 in
    let found = cells_legal kind page at (placed_all kind (length page) page (offsets_at kind page at)) cells two.1 in
    let all = placed_map kind page (array_end kind page at) (offsets_at kind page at) found.0 (not-false _ two.0) found.1 in
    rw (one.0, ← found.2, all) refl

page_legal : (found : Option Kind) (page : List ℕ) (at : ℕ) (cells : PageCells) → page_of_kind found page at ≡ Ok cells
    → shown_of_kind found page at ≡ Ok (shown_of cells)
page_legal None page at cells e = absurd cc
page_legal (Some kind) page at cells e = kind_legal kind page at cells e

-- a legal page shows its cells
pub shown_legal : (page : List ℕ) (at : ℕ) (cells : PageCells) → page_at page at ≡ Ok cells → shown_at page at ≡ Ok (shown_of cells)
unfolding page_at shown_at
shown_legal page at cells e = page_legal (kind_of (slice_index page at)) page at cells e

array_fault : (b : Bool) (r : Result PageCells PageFault) (shown : Shown) (f : PageFault)
    → (if b then Err OffsetOut else Ok shown) ≡ shows_none f → (if b then Err OffsetOut else r) ≡ Err f
array_fault true r shown f e = ap (λ (x : Result Shown PageFault). fault_of r x) e
array_fault false r shown f e = absurd cc

fault_legal : (found : Option Kind) (page : List ℕ) (at : ℕ) (f : PageFault) → shown_of_kind found page at ≡ Err f → page_of_kind found page at ≡ Err f
fault_legal None page at f e = ap (λ (x : Result Shown PageFault). fault_of (Err f) x) e
fault_legal (Some kind) page at f e = array_fault (nat_lt (length page) (array_end kind page at)) _ _ f e

-- a page that shows nothing has that fault
pub shown_fault : (page : List ℕ) (at : ℕ) (result : Result Shown PageFault) → result ≡ shown_at page at → IfErr result (λ f. page_at page at ≡ Err f)
unfolding page_at shown_at
shown_fault page at (Ok x) e = tt
shown_fault page at (Err f) e = fault_legal (kind_of (slice_index page at)) page at f (sym e)

-- a place among the cells of a view
pub place_below : (kind : Kind) (page : List ℕ) (start count right i : ℕ) (shown : Shown) → start + 2 * count ≤ length page
    → shown_by kind page start count right ≡ shown → i < length shown.cells → i < count
place_below kind page start count right i shown within e below =
    let long : length (shown_by kind page start count right).cells ≡ count = cells_length kind page start count right within in
    omega (arith, long, rw (← e) at below)

pub count_is : (kind : Kind) (page : List ℕ) (start count right : ℕ) (shown : Shown) → start + 2 * count ≤ length page
    → shown_by kind page start count right ≡ shown → count ≡ length shown.cells
count_is kind page start count right shown within e = rw (← e) (sym (cells_length kind page start count right within))

pub cell_is : (kind : Kind) (page : List ℕ) (start count right i : ℕ) (shown : Shown) (offset : ℕ) → start + 2 * count ≤ length page → i < count
    → shown_by kind page start count right ≡ shown → offset ≡ u16_at page (start + 2 * i)
    → cell_from kind page (start + 2 * count) offset ≡ get_or shown.cells i None
cell_is kind page start count right i shown offset within below e is = rw (← e, is) (sym (cell_shown kind page start count right i within below))
