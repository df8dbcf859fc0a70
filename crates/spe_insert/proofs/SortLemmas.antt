-- The sort of a page: whether it is one of an index.
use Rattle.std.proofs.Common.{◌≡◌, ◌∙◌, ℕ, ◌<◌, ◌≤◌, ◌==◌, ◌&&◌, Bool, true, false, not, List, Option, Some, None, sym, ap, arith, length, take}
use Rattle.std.specs.Prelude.{Result, Ok, Err, nat_lt, if◌then◌else◌, slice_index}
use Rattle.std.specs.List.{list_all}
use Rattle.std.proofs.lemmas.List.{get_or-take}
use Rattle.spe_model.specs.declared.page.Kind.{Kind}
use Rattle.spe_model.specs.declared.page.Cell.{Cell}
use Rattle.spe_model.specs.declared.page.PageCells.{PageCells}
use Rattle.spe_model.specs.declared.page.PageFault.{PageFault}
use Rattle.spe_model.specs.Kind.{is_table, kind_of}
use Rattle.spe_model.specs.Page.{is_within, placed_all, apart, ascends, array_end, offsets_at, page_of_cells, page_of_kind, page_at}
use Rattle.spe_model.specs.Paging.{Paging}
use Rattle.spe_model.specs.Schema.{is_index_kind, is_index_page}
use Rattle.spe_model.specs.Tree.{node_at, header_end}

unless_err : (b : Bool) (f : PageFault) (r : Result PageCells PageFault) (node : PageCells) → (if b then Err f else r) ≡ Ok node → r ≡ Ok node
unless_err true f r node e = absurd cc
unless_err false f r node e = e

abbrev kind_in : Kind → Result PageCells PageFault → Kind
kind_in kind (Ok node) = node.kind
kind_in kind (Err fault) = kind

cells_kind : (kind : Kind) (page : List ℕ) (at : ℕ) (found : Option (List Cell × List (ℕ × ℕ))) (node : PageCells) → page_of_cells kind page at found ≡ Ok node → kind ≡ node.kind
cells_kind kind page at None node e = absurd cc
cells_kind kind page at (Some x) node e =
    ap (kind_in kind) (unless_err (is_table kind && not (ascends x.0)) _ _ node (unless_err (not (apart x.1)) _ _ node e))

kind_sort : (found : Option Kind) (page : List ℕ) (at : ℕ) (node : PageCells) → page_of_kind found page at ≡ Ok node → is_index_kind found ≡ not (is_table node.kind)
kind_sort None page at node e = absurd cc
kind_sort (Some kind) page at node e =
    let cells = unless_err (not (list_all (is_within (array_end kind page at) (length page)) (offsets_at kind page at))) _ _ node
    (unless_err (nat_lt (length page) (array_end kind page at)) _ _ node e) in
    ap (λ k. not (is_table k)) (cells_kind kind page at (placed_all kind (length page) page (offsets_at kind page at)) node cells)

page_sort : (page : List ℕ) (at : ℕ) (node : PageCells) → page_at page at ≡ Ok node → is_index_kind (kind_of (slice_index page at)) ≡ not (is_table node.kind)
unfolding page_at
page_sort page at node e = kind_sort (kind_of (slice_index page at)) page at node e

header_room : (usable page : ℕ) → 480 ≤ usable → header_end page < usable
header_room usable page wide = by_first (page == 1)
  where
    by_first : (b : Bool) → (if b then 100 else 0) < usable
    by_first true = omega (arith, wide)
    by_first false = omega (arith, wide)

-- a legal page is of the sort that its type byte names
pub node_sort : (usable : ℕ) (pages : Paging) (page : ℕ) (node : PageCells) → 480 ≤ usable → node_at usable pages page ≡ Ok node
    → is_index_page pages page ≡ not (is_table node.kind)
node_sort usable pages page node wide is =
    ap (λ b. is_index_kind (kind_of b)) (sym (get_or-take usable (pages page) (header_end page) 0 (header_room usable page wide)))
    ∙ page_sort (take usable (pages page)) (header_end page) node is
