-- How much pages can stand for.
use Rattle.std.proofs.Common.{◌≡◌, ℕ, zero, suc, ℤ, ◌+◌, ◌*◌, ◌-◌, ◌≤◌, ◌^◌, List, [], ◌∷◌, ◌++◌, length, take, map, filter, refl, sym, ap, ◌∙◌, arith, Bool, true, false, Option, Some, None, Result, Ok, Err, ⊎_elim, length-append}
use Rattle.std.specs.Prelude.{◌&&◌, not, nat_lt, is_some, slice_index, slice_range, drop, if◌then◌else◌}
use Rattle.std.specs.List.{flat_map, list_all}
use Rattle.std.proofs.Math.Nat.{mul-le-mul_left}
use Rattle.std.proofs.lemmas.Bool.{cases_Bool}
use Rattle.std.proofs.lemmas.List.{length-drop, length-map, length-take}
use Rattle.std.proofs.lemmas.List.Sums.{sum_by-cons}
use Rattle.spe_model.specs.declared.page.Cell.{Cell}
use Rattle.spe_model.specs.declared.page.Kind.{Kind}
use Rattle.spe_model.specs.declared.page.PageCells.{PageCells}
use Rattle.spe_model.specs.declared.page.PageFault.{PageFault}
use Rattle.spe_model.specs.declared.page.PageFault.TheVariants.{OffsetOut, Overlap, OutOfOrder}
use Rattle.spe_model.specs.Database.{Database, Object, Other, Row, Table}
use Rattle.spe_model.specs.Kind.{kind_of, is_table}
use Rattle.spe_model.specs.FreeList.{names_node}
use Rattle.spe_model.specs.Page.{apart, array_end, array_start, ascends, is_within, numbers, offsets_at, page_at, page_of_cells, page_of_kind, placed_all, placed_at, right_at}
use Rattle.spe_model.specs.Paging.{Paging}
use Rattle.spe_model.specs.Schema.{SchemaRow, is_table_row, schema_of, schema_row_of}
use Rattle.spe_model.specs.Standing.{AreEntries, AreFree, AreTableRows, FreeChain, IsObjectOf, IsOneOf, IsServer, IsStock, StandsFor, Tree, all_pages, chain_of_free, chain_pages, pages_of_some, stored_rows}
use Rattle.spe_model.specs.Tree.{cells_in, fan, header_end, node_cells, node_right, payload_of, tree_rows}
use Rattle.spe_verdict.specs.Bounds.{FreeAreFew, RowsAreFew, TablesAreFew}
use Rattle.spe_verdict.specs.Law.{free_in, rows_in_object, rows_in_tables}
use Rattle.spe_verdict.proofs.CountLemmas.{tables_count}
use Rattle.spe_verdict.proofs.NodeLemmas.{bind_some}
use Rattle.spe_verdict.proofs.RowLemmas.{rows_are, shown_row}
use Rattle.spe_verdict.proofs.TimesLemmas.{holds_from_all, length_within, single_from_distinct}

numbers_few : (bytes : List ℕ) → 2 * length (numbers bytes) ≤ length bytes
numbers_few [] = omega arith
numbers_few (a ∷ []) = omega arith
numbers_few (a ∷ b ∷ rest) = let others = numbers_few rest in omega arith

placed_few : (kind : Kind) (usable : ℕ) (page offsets : List ℕ) (found : List Cell × List (ℕ × ℕ))
    → placed_all kind usable page offsets ≡ Some found → length found.0 ≡ length offsets
placed_few kind usable page [] found is = let none : [] ≡ found.0 = cc in ap (λ (cs : List Cell). length cs) (sym none)
placed_few kind usable page (offset ∷ offsets) found is =
    let first = bind_some (placed_at kind usable page offset) _ found is in
    let others = bind_some (placed_all kind usable page offsets) _ found first.2 in
    let all : first.0.0 ∷ others.0.0 ≡ found.0 = cc in
    let rest = placed_few kind usable page offsets others.0 others.1 in
    ap (λ (cs : List Cell). length cs) (sym all) ∙ ap (λ (n : ℕ). suc n) rest

-- at most so many cells, where it is a page at all
if_few : (most : ℕ) (b : Bool) (fault : PageFault) (r : Result PageCells PageFault)
    → 2 * length (cells_in r) ≤ most → 2 * length (cells_in (if b then Err fault else r)) ≤ most
if_few most true fault r few = omega arith
if_few most false fault r few = few

offsets_few : (kind : Kind) (page : List ℕ) (at : ℕ) → 2 * length (offsets_at kind page at) ≤ length page
offsets_few kind page at =
    let start = array_start kind at in
    let end = array_end kind page at in
    let half = numbers_few (slice_range page start end) in
    let part = length-take (end - start) (drop start page) in
    let rest = length-drop start page in
    omega arith

cells_few : (kind : Kind) (page : List ℕ) (at : ℕ) (placed : Option (List Cell × List (ℕ × ℕ)))
    → placed ≡ placed_all kind (length page) page (offsets_at kind page at) → 2 * length (cells_in (page_of_cells kind page at placed)) ≤ length page
cells_few kind page at None all = omega arith
cells_few kind page at (Some found) all =
    let same = placed_few kind (length page) page (offsets_at kind page at) found (sym all) in
    let few = offsets_few kind page at in
    if_few (length page) (not (apart found.1)) Overlap _
    (if_few (length page) (is_table kind && not (ascends found.0)) OutOfOrder (Ok (record { kind = kind; cells = found.0; right = right_at kind page at })) (omega arith))

page_few : (kind : Option Kind) (page : List ℕ) (at : ℕ) → 2 * length (cells_in (page_of_kind kind page at)) ≤ length page
page_few None page at = omega arith
page_few (Some kind) page at =
    if_few (length page) (nat_lt (length page) (array_end kind page at)) OffsetOut _
    (if_few (length page) (not (list_all (is_within (array_end kind page at) (length page)) (offsets_at kind page at))) OffsetOut _
    (cells_few kind page at (placed_all kind (length page) page (offsets_at kind page at)) refl))

-- a page has a cell for every two usable bytes at most
node_few : (usable : ℕ) (pages : Paging) (page : ℕ) → 2 * length (node_cells usable pages page) ≤ usable
unfolding page_at
node_few usable pages page =
    let bytes = take usable (pages page) in
    let few = page_few (kind_of (slice_index bytes (header_end page))) bytes (header_end page) in
    let cut = length-take usable (pages page) in
    omega arith

-- so many rows have two bytes each on so many pages
abbrev HaveRoom : (usable rows pages : ℕ) → Type 0
HaveRoom usable rows pages = 2 * rows ≤ usable * pages

no_rows : (usable pages : ℕ) → HaveRoom usable 0 pages
no_rows usable pages = omega arith

both_rooms : (usable a b p q : ℕ) → HaveRoom usable a p → HaveRoom usable b q → HaveRoom usable (a + b) (p + q)
both_rooms usable a b p q first rest = let all : usable * (p + q) ≡ usable * p + usable * q = omega arith in omega arith

more_room : (usable rows p q : ℕ) → p ≤ q → HaveRoom usable rows p → HaveRoom usable rows q
more_room usable rows p q more room = let wider = mul-le-mul_left usable more in omega arith

joined_rooms : {X : Type 0} (usable : ℕ) (xs ys : List X) (ps qs : List ℕ)
    → HaveRoom usable (length xs) (length ps) → HaveRoom usable (length ys) (length qs) → HaveRoom usable (length (xs ++ ys)) (length (ps ++ qs))
joined_rooms usable xs ys ps qs first rest =
    rw (length-append xs ys, length-append ps qs) (both_rooms usable (length xs) (length ys) (length ps) (length qs) first rest)

fan_rooms : {X : Type 0} (usable : ℕ) (own : ℕ → List X) (pages_of : ℕ → List ℕ) → ((page : ℕ) → HaveRoom usable (length (own page)) (length (pages_of page)))
    → (cells : List Cell) (right : ℕ) → HaveRoom usable (length (fan own cells right)) (length (fan pages_of cells right))
fan_rooms usable own pages_of each [] right = each right
fan_rooms usable own pages_of each (c ∷ cs) right =
    joined_rooms usable (own c.left) (fan own cs right) (pages_of c.left) (fan pages_of cs right) (each c.left) (fan_rooms usable own pages_of each cs right)

tree_room : (usable : ℕ) (pages : Paging) (height page : ℕ)
    → HaveRoom usable (length (tree_rows usable pages height page)) (length (all_pages usable pages height page))
tree_room usable pages zero page =
    let cells = node_cells usable pages page in
    let few = node_few usable pages page in
    let same : length (tree_rows usable pages zero page) ≡ length cells = length-map cells (λ (c : Cell). (c.key, payload_of usable pages c)) in
    more_room usable (length (tree_rows usable pages zero page)) 1 (length (all_pages usable pages zero page)) (omega arith) (omega arith)
tree_room usable pages (suc height) page =
    let cells = node_cells usable pages page in
    let right = node_right usable pages page in
    let below = fan (all_pages usable pages height) cells right in
    let split = length-append (flat_map (chain_pages usable pages) cells) below in
    more_room usable (length (tree_rows usable pages (suc height) page)) (length below) (length (all_pages usable pages (suc height) page)) (omega arith)
    (fan_rooms usable (tree_rows usable pages height) (all_pages usable pages height) (λ p. tree_room usable pages height p) cells right)

stored_room : (usable : ℕ) (pages : Paging) (table : Bool) (height root : ℕ)
    → HaveRoom usable (length (stored_rows usable pages (Some (record { table = table; height = height; root = root })))) (length (all_pages usable pages height root))
stored_room usable pages true height root = tree_room usable pages height root
stored_room usable pages false height root = no_rows usable (length (all_pages usable pages height root))

grown_room : (usable : ℕ) (pages : Paging) (grown : Option Tree)
    → HaveRoom usable (length (stored_rows usable pages grown)) (length (pages_of_some usable pages grown))
grown_room usable pages None = no_rows usable 0
grown_room usable pages (Some t) = stored_room usable pages t.table t.height t.root

-- an object has no more rows than are stored
object_few : (usable : ℕ) (pages : Paging) (all : List SchemaRow) (row : SchemaRow) (stored : List (ℤ × List ℕ)) (rowid : ℤ) (object : Object)
    → IsObjectOf usable pages all row stored object → rows_in_object (rowid, object) ≤ length stored
object_few usable pages all row stored rowid (Other kind name on) is = omega arith
object_few usable pages all row stored rowid (Table table found) is = ⊎_elim
    (λ (shut : is_some table.closed ≡ true).
    let none : found ≡ [] = rw shut at is.2 in
    let same = ap (λ (rs : List Row). length rs) none in
    omega arith)
    (λ (free : is_some table.closed ≡ false).
    let are : AreTableRows table stored found = rw free at is.2 in
    let same = ap (λ (rs : List Row). length rs) (rows_are table stored found are) in
    let mapped = length-map stored (shown_row table) in
    omega arith)
    (cases_Bool (is_some table.closed))

entries_room : (usable : ℕ) (pages : Paging) (all rows : List SchemaRow) (trees : List (Option Tree)) (db : Database)
    → AreEntries usable pages all rows trees db → HaveRoom usable (rows_in_tables db) (length (flat_map (pages_of_some usable pages) trees))
entries_room usable pages all [] [] [] are = no_rows usable 0
entries_room usable pages all [] [] (o ∷ os) are = absurd are
entries_room usable pages all [] (t ∷ ts) db are = absurd are
entries_room usable pages all (r ∷ rs) [] db are = absurd are
entries_room usable pages all (r ∷ rs) (t ∷ ts) [] are = absurd are
entries_room usable pages all (r ∷ rs) (t ∷ ts) (o ∷ os) are =
    let mine = pages_of_some usable pages t in
    let others = flat_map (pages_of_some usable pages) ts in
    let few : rows_in_object o ≤ length (stored_rows usable pages t) = object_few usable pages all r (stored_rows usable pages t) o.0 o.1 are.0.object in
    let room = grown_room usable pages t in
    let rest = entries_room usable pages all rs ts os are.1 in
    let sums : rows_in_tables (o ∷ os) ≡ rows_in_object o + rows_in_tables os = sum_by-cons (λ (n : ℕ). n) (rows_in_object o) (map rows_in_object os) in
    rw (length-append mine others, sums) (both_rooms usable (rows_in_object o) (rows_in_tables os) (length mine) (length others) (omega arith) rest)

schema_length : (stored : List (ℤ × List ℕ)) (rows : List SchemaRow) → schema_of stored ≡ Some rows → length rows ≡ length stored
schema_length [] rows is = let none : [] ≡ rows = cc in ap (λ (rs : List SchemaRow). length rs) (sym none)
schema_length (s ∷ ss) rows is =
    let first = bind_some (schema_row_of s) _ rows is in
    let others = bind_some (schema_of ss) _ rows first.2 in
    let all : first.0 ∷ others.0 ≡ rows = cc in
    ap (λ (rs : List SchemaRow). length rs) (sym all) ∙ ap (λ (n : ℕ). suc n) (schema_length ss others.0 others.1)

filter_few : {X : Type 0} (test : X → Bool) (xs : List X) → length (filter test xs) ≤ length xs
filter_few test [] = omega arith
filter_few test (x ∷ xs) =
    let rest = filter_few test xs in
    ⊎_elim
    (λ (is : test x ≡ true). rw is (omega arith))
    (λ (is : test x ≡ false). rw is (omega arith))
    (cases_Bool (test x))

-- there are no more pages than are counted: those of the schema, of the other trees and of the free lists
met_few : (usable count : ℕ) (pages : Paging) (db : Database) → (standing : StandsFor usable count pages db)
    → length (all_pages usable pages standing.height 1) + length (flat_map (pages_of_some usable pages) standing.trees) + length standing.listed ≤ count
met_few usable count pages db standing =
    let schema = all_pages usable pages standing.height 1 in
    let trees = flat_map (pages_of_some usable pages) standing.trees in
    let met = schema ++ trees ++ standing.listed in
    let most = length_within count met (single_from_distinct met standing.distinct) (holds_from_all (IsOneOf count) met standing.within) in
    let split = length-append (schema ++ trees) standing.listed in
    let parts = length-append schema trees in
    omega arith

bounded : (usable count rows p : ℕ) → HaveRoom usable rows p → p ≤ count → count * usable ≤ 2 ^ 30 → rows ≤ 2 ^ 29
bounded usable count rows p room few small = let wider = more_room usable rows p count few room in omega arith

pub tables : TablesAreFew
tables usable count pages db standing small =
    let few = met_few usable count pages db standing in
    let stored = tree_rows usable pages standing.height 1 in
    let same = tables_count usable pages standing.rows standing.rows standing.trees db standing.entries in
    let most = filter_few is_table_row standing.rows in
    let long = schema_length stored standing.rows standing.rows_are in
    let fits = bounded usable count (length stored) _ (tree_room usable pages standing.height 1) (omega arith) small in
    omega arith

pub rows : RowsAreFew
rows usable count pages db standing small =
    let few = met_few usable count pages db standing in
    bounded usable count (rows_in_tables db) _ (entries_room usable pages standing.rows standing.rows standing.trees db standing.entries) (omega arith) small

-- a tree has its root
some_page : (usable : ℕ) (pages : Paging) (height page : ℕ) → 1 ≤ length (all_pages usable pages height page)
some_page usable pages zero page = omega arith
some_page usable pages (suc height) page =
    let chains = flat_map (chain_pages usable pages) (node_cells usable pages page) in
    let below = fan (all_pages usable pages height) (node_cells usable pages page) (node_right usable pages page) in
    let split = length-append (page ∷ chains) below in
    omega arith

server_few : (usable : ℕ) (pages : Paging) (lists : List FreeChain) (listed : List ℕ) → IsServer usable pages lists listed → free_in pages lists ≤ length listed
server_few usable pages lists listed is = let all = ap (λ (ps : List ℕ). length ps) is.pages_are in omega arith

stock_few : (usable : ℕ) (pages : Paging) (lists : List FreeChain) (listed : List ℕ) → IsStock usable pages lists listed → free_in pages lists ≤ length listed
stock_few usable pages lists listed is =
    let chain = chain_of_free pages is.only in
    let all = ap (λ (ps : List ℕ). length ps) is.pages_are in
    let one = ap (free_in pages) is.one in
    let end = length-append chain [] in
    omega arith

lists_few : (usable : ℕ) (pages : Paging) (lists : List FreeChain) (listed : List ℕ) → AreFree usable pages lists listed → free_in pages lists ≤ length listed
lists_few usable pages lists listed free = ⊎_elim
    (λ (is : names_node (pages 1) ≡ true). server_few usable pages lists listed (rw is at free))
    (λ (is : names_node (pages 1) ≡ false). stock_few usable pages lists listed (rw is at free))
    (cases_Bool (names_node (pages 1)))

pub free : FreeAreFew
free usable count pages db standing =
    let few = met_few usable count pages db standing in
    let root = some_page usable pages standing.height 1 in
    let mine = lists_few usable pages standing.lists standing.listed standing.free in
    omega arith
