-- A page that shows its cells and whose cells lie well is legal.
use Rattle.std.proofs.Common.{◌≡◌, ℕ, zero, suc, ◌≤◌, List, [], ◌∷◌, length, drop, subst, map, Bool, true, false, refl, sym, ◌∙◌, ap, arith, Option, Some, None, Result, Ok, Err}
use Rattle.std.specs.Prelude.{◌+◌, ◌*◌, ◌&&◌, not, nat_lt, slice_get, slice_index, slice_index_or, slice_range, if◌then◌else◌}
use Rattle.std.specs.List.{list_all}
use Rattle.std.specs.Option.{option_map}
use Rattle.std.proofs.lemmas.List.{length-map}
use Rattle.std.proofs.lemmas.Option.{slice_get_past}
use Rattle.spe_format.specs.declared.cell.Parts.{Parts}
use Rattle.std.proofs.lemmas.Bool.{le-ltb}
use Rattle.spe_model.specs.declared.page.Kind.{Kind}
use Rattle.spe_model.specs.declared.page.PageFault.{PageFault}
use Rattle.spe_model.specs.Big.{u16_at}
use Rattle.spe_model.specs.Kind.{kind_of, is_table}
use Rattle.spe_model.specs.Page.{apart, array_end, array_start, ascends, is_within, numbers, page_at, page_of_cells, page_of_kind, placed_all}
use Rattle.spe_model.specs.declared.page.Cell.{Cell}
use Rattle.spe_model.specs.declared.page.PageCells.{PageCells}
use Rattle.spe_format.specs.Legal.{IsLegal, Leads, cells_of, legality_of, present, sorted_of}
use Rattle.spe_format.specs.View.{Shown, cell_seen, shown_of}

abbrev IsFront : Option Cell → List Cell → List Cell → Type 0
IsFront None old new = old ≡ []
IsFront (Some c) old new = old ≡ c ∷ new

pub present_all : (cells : List Cell) → present (map Some cells) ≡ cells
present_all [] = refl
present_all (c ∷ cs) = ap (λ (xs : List Cell). c ∷ xs) (present_all cs)

-- the cells of what legal cells show
pub cells_shown : (page : PageCells) → cells_of (shown_of page) ≡ page
cells_shown page = ap (λ (xs : List Cell). record page { cells = xs }) (present_all page.cells)

pub get_shown : (cells : List Cell) (index : ℕ) → slice_index_or (map Some cells) index None ≡ slice_get cells index
get_shown [] index = refl
get_shown (c ∷ cs) zero = refl
get_shown (c ∷ cs) (suc index) = get_shown cs index

legality_if : (a b : Bool) (f g : PageFault) (cells : PageCells)
    → legality_of (if a then Err f else (if b then Err g else Ok cells)) ≡ (if a then Err f else (if b then Err g else Ok tt))
legality_if true b f g cells = refl
legality_if false true f g cells = refl
legality_if false false f g cells = refl

legality_cells : (kind : Kind) (page : List ℕ) (at : ℕ) (found : Option (List Cell × List (ℕ × ℕ)))
    → legality_of (page_of_cells kind page at found) ≡ sorted_of kind found
legality_cells kind page at None = refl
legality_cells kind page at (Some x) = legality_if (not (apart x.1)) (is_table kind && not (ascends x.0)) _ _ _

legality_ends : (kind : Kind) (page : List ℕ) (at start end : ℕ) → array_start kind at ≡ start → array_end kind page at ≡ end
    → end ≤ length page → list_all (is_within end (length page)) (numbers (slice_range page start end)) ≡ true
    → legality_of (page_of_kind (Some kind) page at) ≡ sorted_of kind (placed_all kind (length page) page (numbers (slice_range page start end)))
legality_ends kind page at start end s e inside all =
    let no : nat_lt (length page) end ≡ false = le-ltb (length page) end inside in
    rw (e, s, no, all) (legality_cells kind page at (placed_all kind (length page) page (numbers (slice_range page start end))))

-- a page whose offsets lie well is legal where its cells lie well and are in order
pub legality_page : (kind : Kind) (page : List ℕ) (at start count : ℕ) → kind_of (slice_index page at) ≡ Some kind
    → start ≡ array_start kind at → count ≡ u16_at page (at + 3) → start + 2 * count ≤ length page
    → list_all (is_within (start + 2 * count) (length page)) (numbers (slice_range page start (start + 2 * count))) ≡ true
    → legality_of (page_at page at) ≡ sorted_of kind (placed_all kind (length page) page (numbers (slice_range page start (start + 2 * count))))
unfolding page_at
legality_page kind page at start count e s n inside all =
    let end : array_end kind page at ≡ start + 2 * count = rw (s, n) refl in
    rw e (legality_ends kind page at start (start + 2 * count) (sym s) end inside all)

legality_ok : (found : Result PageCells PageFault) → legality_of found ≡ Ok tt → (cells : PageCells) × (found ≡ Ok cells)
legality_ok (Ok cells) e = (cells, refl)
legality_ok (Err f) e = absurd cc

abbrev ok : Shown → Result Shown PageFault
ok x = Ok x

-- what a legal page shows
pub legal_shown : (page : List ℕ) (at : ℕ) (shown : Shown) → legality_of (page_at page at) ≡ Ok tt
    → ((cells : PageCells) → page_at page at ≡ Ok cells → ok shown ≡ Ok (shown_of cells)) → IsLegal shown × (page_at page at ≡ Ok (cells_of shown))
legal_shown page at shown legal shows =
    let found = legality_ok (page_at page at) legal in
    let same : shown ≡ shown_of found.0 = cc (shows found.0 found.1) in
    let cells : cells_of shown ≡ found.0 = ap cells_of same ∙ cells_shown found.0 in
    (same ∙ ap shown_of (sym cells), rw cells found.1)

get_front : (cells : List Cell) (index : ℕ) → IsFront (slice_get cells index) (drop index cells) (drop (suc index) cells)
get_front [] zero = refl
get_front [] (suc index) = refl
get_front (c ∷ cs) zero = refl
get_front (c ∷ cs) (suc index) = get_front cs index

leads_at : (found : Option Parts) (cells : List Cell) (index next : ℕ) → option_map cell_seen found ≡ slice_get cells index → next ≡ suc index
    → Leads found (drop index cells) (drop next cells)
leads_at None cells index next e n = subst (λ (o : Option Cell). IsFront o (drop index cells) (drop next cells)) (sym e) (rw n (get_front cells index))
leads_at (Some parts) cells index next e n = subst (λ (o : Option Cell). IsFront o (drop index cells) (drop next cells)) (sym e) (rw n (get_front cells index))

shown_cells : (shown : Shown) (page : PageCells) → cells_of shown ≡ page → IsLegal shown → shown.cells ≡ map Some page.cells
shown_cells shown page same legal = ap (λ (s : Shown). s.cells) legal ∙ ap (λ (p : PageCells). map Some p.cells) same

-- a cell of a view, as a cell of the page
pub cell_legal : (shown : Shown) (page : PageCells) (index : ℕ) (found : Option Parts) → cells_of shown ≡ page → IsLegal shown
    → option_map cell_seen found ≡ slice_index_or shown.cells index None → option_map cell_seen found ≡ slice_get page.cells index
cell_legal shown page index found same legal e =
    let cells : shown.cells ≡ map Some page.cells = shown_cells shown page same legal in
    rw cells at e ∙ get_shown page.cells index

-- and it is the front of what is left there
pub front_legal : (shown : Shown) (page : PageCells) (index : ℕ) (found : Option Parts) → cells_of shown ≡ page → IsLegal shown
    → option_map cell_seen found ≡ slice_index_or shown.cells index None → Leads found (drop index page.cells) (drop (index + 1) page.cells)
front_legal shown page index found same legal e = leads_at found page.cells index (index + 1) (cell_legal shown page index found same legal e) (omega arith)

-- behind the last one
pub past_legal : (shown : Shown) (page : PageCells) (index count : ℕ) → cells_of shown ≡ page → IsLegal shown → count ≡ length shown.cells
    → count ≤ index → None ≡ slice_get page.cells index
past_legal shown page index count same legal n past =
    let cells : shown.cells ≡ map Some page.cells = shown_cells shown page same legal in
    let many : length shown.cells ≡ length page.cells = ap length cells ∙ length-map page.cells (λ (c : Cell). Some c) in
    sym (slice_get_past page.cells index (omega arith))
