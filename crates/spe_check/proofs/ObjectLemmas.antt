use Rattle.std.proofs.Common.{◌≡◌, ◌∙◌, ℕ, zero, suc, ◌+◌, ◌<◌, ◌≤◌, ◌==◌, inl, inr, Bool, true, false, not, ◌&&◌, cond, nat_lt, is_some, List, [], ◌∷◌, ◌++◌, length, map, take, get_or, slice_index, Option, Some, None, refl, sym, ap, subst, arith, append-nil}
use Rattle.std.specs.Prelude.{Result, Ok, Err, IfOk, if◌then◌else◌}
use Rattle.std.specs.List.{flat_map, list_all}
use Rattle.std.proofs.lemmas.Bool.{cases_lt}
use Rattle.std.proofs.lemmas.List.{get_or-take}
use Rattle.std.proofs.lemmas.List.Concat.{flat_map-cons}
use Rattle.std.proofs.lemmas.List.Sums.{sum_by-cons}
use Rattle.spe_model.specs.declared.page.Cell.{Cell}
use Rattle.spe_model.specs.declared.page.Kind.{Kind}
use Rattle.spe_model.specs.declared.page.PageCells.{PageCells}
use Rattle.spe_model.specs.declared.page.PageFault.{PageFault}
use Rattle.spe_model.specs.declared.page.PageFault.TheVariants.{OffsetOut, Overlap, OutOfOrder}
use Rattle.spe_model.specs.declared.table.Closed.{Closed}
use Rattle.spe_model.specs.declared.table.Closed.TheVariants.{Reserved, Definition}
use Rattle.spe_model.specs.Kind.{kind_of, is_table}
use Rattle.spe_model.specs.Page.{apart, ascends, array_end, is_within, offsets_at, right_at, placed_all, page_of_cells, page_of_kind, page_at}
use Rattle.spe_model.specs.Paging.{Paging}
use Rattle.spe_model.specs.Schema.{SchemaRow, is_table_row, is_index_kind, is_index_page, is_closed_by, is_rooted, is_own_name, is_declared, declaration_in, root_of, table_of}
use Rattle.spe_model.specs.Tree.{header_end, node_at}
use Rattle.spe_model.specs.Verdict.{LeafRow, is_open, no_marks, object_marks, open_rows, own_marks, record_marks, root_marks, schema_rows, table_in, tree_levels}
use Rattle.spe_model.specs.Walk.{Mark, Names, Keeps, RowMarks, index_marks, is_legal, is_one_of, table_marks, walk_rows}
use Rattle.spe_check.specs.declared.met.Met.{Met}
use Rattle.spe_check.specs.declared.halt.Halt.{Halt}
use Rattle.spe_check.specs.declared.halt.Halt.TheVariants.{Broken}
use Rattle.spe_check.specs.MetPages.{has_met}
use Rattle.spe_check.specs.Objects.{index_tree, table_tree, open_columns, rows_of_open, IsTried}
use Rattle.spe_check.specs.Pages.{behind_read, read_marks}
use Rattle.spe_check.specs.RecordRows.{saturated}
use Rattle.spe_check.specs.SchemaRows.{rows_in}
use Rattle.spe_check.specs.Tries.{Leads, Tries}
use Rattle.spe_check.proofs.TriesLemmas.{leads_try, leads_halt, names_out, tries_halt, tries_then, the_ok, the_err}

abbrev ok : PageCells → Result PageCells PageFault
ok x = Ok x

abbrev bad : PageFault → Result PageCells PageFault
bad f = Err f

ok_is : (x y : PageCells) → ok x ≡ ok y → x ≡ y
ok_is x y e = cc

-- a page that is read has the kind of its type byte
cells_kind : (kind : Kind) (page : List ℕ) (at : ℕ) (found : Option (List Cell × List (ℕ × ℕ))) (node : PageCells) → page_of_cells kind page at found ≡ ok node → kind ≡ node.kind
cells_kind kind page at None node e = absurd cc
cells_kind kind page at (Some x) node e = go (not (apart x.1)) (is_table kind && not (ascends x.0)) e
  where
    go : (a b : Bool) → (if a then bad Overlap else (if b then bad OutOfOrder else ok (record { kind = kind; cells = x.0; right = right_at kind page at }))) ≡ ok node → kind ≡ node.kind
    go true b h = absurd cc
    go false true h = absurd cc
    go false false h = ap (λ (n : PageCells). n.kind) (ok_is (record { kind = kind; cells = x.0; right = right_at kind page at }) node h)

page_kind : (found : Option Kind) (page : List ℕ) (at : ℕ) (node : PageCells) → page_of_kind found page at ≡ ok node → found ≡ Some node.kind
page_kind None page at node e = absurd cc
page_kind (Some kind) page at node e =
    go (nat_lt (length page) (array_end kind page at)) (not (list_all (is_within (array_end kind page at) (length page)) (offsets_at kind page at))) e
  where
    go : (a b : Bool) → (if a then bad OffsetOut else (if b then bad OffsetOut else page_of_cells kind page at (placed_all kind (length page) page (offsets_at kind page at)))) ≡ ok node
        → Some kind ≡ Some node.kind
    go true b h = absurd cc
    go false true h = absurd cc
    go false false h = ap (λ (k : Kind). Some k) (cells_kind kind page at (placed_all kind (length page) page (offsets_at kind page at)) node h)

beyond : (n : ℕ) (bytes : List ℕ) (i : ℕ) → n ≤ i → get_or (take n bytes) i 0 ≡ 0
beyond zero bytes i more = refl
beyond (suc n) [] i more = refl
beyond (suc n) (b ∷ bs) zero more = absurd (omega (arith, more))
beyond (suc n) (b ∷ bs) (suc i) more = beyond n bs i (omega (arith, more))

none_some : (k : Kind) → kind_of 0 ≡ Some k → ⊥
unfolding kind_of
none_some k e = cc

node_byte : (usable : ℕ) (pages : Paging) (page : ℕ) (node : PageCells) → node_at usable pages page ≡ Ok node
    → kind_of (slice_index (take usable (pages page)) (header_end page)) ≡ Some node.kind
unfolding page_at
node_byte usable pages page node is = page_kind (kind_of (slice_index (take usable (pages page)) (header_end page))) (take usable (pages page)) (header_end page) node is

pub kind_told : (usable : ℕ) (pages : Paging) (page : ℕ) (node : PageCells) → node_at usable pages page ≡ Ok node → is_index_page pages page ≡ not (is_table node.kind)
kind_told usable pages page node is =
    elim (cases_lt (header_end page) usable) [
      | inl less ↦
          ap (λ (n : ℕ). is_index_kind (kind_of n)) (sym (get_or-take usable (pages page) (header_end page) 0 less))
          ∙ ap is_index_kind (node_byte usable pages page node is)
      | inr more ↦
          absurd (none_some node.kind (ap kind_of (sym (beyond usable (pages page) (header_end page) more)) ∙ node_byte usable pages page node is))
    ]

-- a table without a root among pages of tables is closed
unrooted_closed : (f : ℕ → Bool) (rows : List SchemaRow) (row : SchemaRow) → is_rooted f row.rootpage ≡ false → is_some (table_of f rows row).closed ≡ true
unfolding is_closed_by
unrooted_closed f rows row unrooted = rw unrooted (go (is_own_name row.name) (is_declared (declaration_in row)) _)
  where
    go : (own declared : Bool) (rest : Option Closed) → is_some (cond own (Some Reserved) (cond (not (declared && false)) (Some Definition) rest)) ≡ true
    go true declared rest = refl
    go false true rest = refl
    go false false rest = refl

and_false : (b : Bool) → (b && false) ≡ false
and_false true = refl
and_false false = refl

unrooted_rows : (usable : ℕ) (pages : Paging) (row : SchemaRow) → is_rooted (is_index_page pages) row.rootpage ≡ false → open_rows usable pages row ≡ 0
unrooted_rows usable pages row unrooted =
    let closed = unrooted_closed (is_index_page pages) (schema_rows usable pages) row unrooted in
    let shut : is_open usable pages row ≡ false = ap (λ b. is_table_row row && not b) closed ∙ and_false (is_table_row row) in
    ap (λ b. if b then length (walk_rows usable pages tree_levels (root_of row.rootpage)) else 0) shut

saturated_none : (n : ℕ) → n ≡ 0 → 0 ≡ saturated n
saturated_none n is = omega (arith, is)

pub if_ok : (r : Result ℕ Halt) (m n : ℕ) → m ≡ n → IfOk r (λ x. x ≡ m) → IfOk r (λ x. x ≡ n)
if_ok (Ok x) m n same is = is ∙ same
if_ok (Err halt) m n same is = tt

-- the marks of a tree by the kind of its root
root_is : (usable : ℕ) (pages : Paging) (leaf : ℕ) (row : SchemaRow) (root : ℕ) (b : Bool) → is_index_page pages root ≡ b
    → root_marks usable pages leaf row root ≡ (if b then index_tree usable pages leaf root else table_tree (own_marks usable pages row) usable pages leaf root)
root_is usable pages leaf row root b is = ap (λ k. if k then index_tree usable pages leaf root else table_tree (own_marks usable pages row) usable pages leaf root) is

-- the tree of an index was tried
pub tree_index : (count : ℕ) (a b : ℕ → Bool) (usable : ℕ) (pages : Paging) (holder : ℕ) (row : SchemaRow) (root : ℕ) (node : PageCells) (r : Result ℕ Halt)
    → root ≡ root_of row.rootpage → node_at usable pages root ≡ Ok node → is_table node.kind ≡ false
    → Tries count a b (behind_read (index_tree usable pages holder root)) r × IfOk r (λ n. n ≡ 0)
    → Tries count a b (behind_read (root_marks usable pages holder row root)) r × IfOk r (λ n. n ≡ saturated (open_rows usable pages row))
tree_index count a b usable pages holder row root node r at is kind tried =
    let index : is_index_page pages root ≡ true = kind_told usable pages root node is ∙ ap not kind in
    let there : is_index_page pages (root_of row.rootpage) ≡ true = ap (is_index_page pages) (sym at) ∙ index in
    let unrooted : is_rooted (is_index_page pages) row.rootpage ≡ false =
    ap (λ k. not (root_of row.rootpage == 0) && not k) there ∙ and_false (not (root_of row.rootpage == 0)) in
    let P : List Mark → Type 0 = λ marks. Tries count a b (behind_read marks) r in (
      subst P (sym (root_is usable pages holder row root true index)) tried.0,
      if_ok r 0 (saturated (open_rows usable pages row)) (saturated_none (open_rows usable pages row) (unrooted_rows usable pages row unrooted)) tried.1,
    )

-- what is tried of the rows, by whether the table is open
abbrev own_at : Bool → ℕ → RowMarks
own_at open_ columns leaf rowid payload = if open_ then record_marks columns leaf rowid payload else []

open_is : (b : Bool) (n columns : ℕ) → Some columns ≡ (if b then Some n else None) → (b ≡ true) × (columns ≡ n)
open_is true n columns e = (refl, cc)
open_is false n columns e = absurd cc

shut_is : (b : Bool) (n : ℕ) → None ≡ (if b then Some n else None) → b ≡ false
shut_is true n e = absurd cc
shut_is false n e = refl

-- its root is a page of a table
pub tree_rooted : (usable : ℕ) (pages : Paging) (row : SchemaRow) (root : ℕ) (node : PageCells) → root ≡ root_of row.rootpage → (root == 0) ≡ false
    → node_at usable pages root ≡ Ok node → is_table node.kind ≡ true → is_rooted (is_index_page pages) row.rootpage ≡ true
tree_rooted usable pages row root node at some is kind =
    let index : is_index_page pages root ≡ false = kind_told usable pages root node is ∙ ap not kind in
    let P : ℕ → Type 0 = λ n. (not (n == 0) && not (is_index_page pages n)) ≡ true in
    subst P at (rw (some, index) refl)

-- the tree of an open table was tried
pub tree_open : (count : ℕ) (a b : ℕ → Bool) (usable : ℕ) (pages : Paging) (holder : ℕ) (row : SchemaRow) (root columns : ℕ) (node : PageCells) (r : Result ℕ Halt)
    → root ≡ root_of row.rootpage → node_at usable pages root ≡ Ok node → is_table node.kind ≡ true
    → Some columns ≡ open_columns (is_index_page pages) (schema_rows usable pages) row
    → Tries count a b (behind_read (table_tree (record_marks columns) usable pages holder root)) r × IfOk r (λ n. n ≡ saturated (length (walk_rows usable pages tree_levels root)))
    → Tries count a b (behind_read (root_marks usable pages holder row root)) r × IfOk r (λ n. n ≡ saturated (open_rows usable pages row))
tree_open count a b usable pages holder row root columns node r at is kind columns_are tried =
    let index : is_index_page pages root ≡ false = kind_told usable pages root node is ∙ ap not kind in
    let told = open_is (is_open usable pages row) (length (table_in usable pages row).columns) columns columns_are in
    let own : own_marks usable pages row ≡ record_marks columns =
    ap (λ k. own_at k (length (table_in usable pages row).columns)) told.0 ∙ ap (own_at true) (sym told.1) in
    let rows : open_rows usable pages row ≡ length (walk_rows usable pages tree_levels root) =
    ap (λ k. if k then length (walk_rows usable pages tree_levels (root_of row.rootpage)) else 0) told.0 ∙ ap (λ n. length (walk_rows usable pages tree_levels n)) (sym at) in
    let P : List Mark → Type 0 = λ marks. Tries count a b (behind_read marks) r in
    let Q : RowMarks → Type 0 = λ marks. Tries count a b (behind_read (table_tree marks usable pages holder root)) r in (
      subst P (sym (root_is usable pages holder row root false index)) (subst Q (sym own) tried.0),
      if_ok r (saturated (length (walk_rows usable pages tree_levels root))) (saturated (open_rows usable pages row)) (ap saturated (sym rows)) tried.1,
    )

-- the tree of a table that is not open was tried
pub tree_closed : (count : ℕ) (a b : ℕ → Bool) (usable : ℕ) (pages : Paging) (holder : ℕ) (row : SchemaRow) (root : ℕ) (node : PageCells) (r : Result ℕ Halt)
    → node_at usable pages root ≡ Ok node → is_table node.kind ≡ true → None ≡ open_columns (is_index_page pages) (schema_rows usable pages) row
    → Tries count a b (behind_read (table_tree no_marks usable pages holder root)) r × IfOk r (λ n. n ≡ 0)
    → Tries count a b (behind_read (root_marks usable pages holder row root)) r × IfOk r (λ n. n ≡ saturated (open_rows usable pages row))
tree_closed count a b usable pages holder row root node r is kind none tried =
    let index : is_index_page pages root ≡ false = kind_told usable pages root node is ∙ ap not kind in
    let shut = shut_is (is_open usable pages row) (length (table_in usable pages row).columns) none in
    let own : own_marks usable pages row ≡ no_marks = ap (λ k. own_at k (length (table_in usable pages row).columns)) shut in
    let rows : open_rows usable pages row ≡ 0 = ap (λ k. if k then length (walk_rows usable pages tree_levels (root_of row.rootpage)) else 0) shut in
    let P : List Mark → Type 0 = λ marks. Tries count a b (behind_read marks) r in
    let Q : RowMarks → Type 0 = λ marks. Tries count a b (behind_read (table_tree marks usable pages holder root)) r in (
      subst P (sym (root_is usable pages holder row root false index)) (subst Q (sym own) tried.0),
      if_ok r 0 (saturated (open_rows usable pages row)) (saturated_none (open_rows usable pages row) rows) tried.1,
    )

-- a tree is tried by reading its root first
table_front : (own : RowMarks) (usable : ℕ) (pages : Paging) (stand levels low high holder page : ℕ)
    → table_marks own usable pages stand levels low high holder page ≡ read_marks usable pages holder page ++ behind_read (table_marks own usable pages stand levels low high holder page)
table_front own usable pages stand zero low high holder page = refl
table_front own usable pages stand (suc levels) low high holder page = refl

index_front : (usable : ℕ) (pages : Paging) (stand levels holder page : ℕ)
    → index_marks usable pages stand levels holder page ≡ read_marks usable pages holder page ++ behind_read (index_marks usable pages stand levels holder page)
index_front usable pages stand zero holder page = refl
index_front usable pages stand (suc levels) holder page = refl

root_front : (usable : ℕ) (pages : Paging) (leaf : ℕ) (row : SchemaRow) (root : ℕ)
    → root_marks usable pages leaf row root ≡ read_marks usable pages leaf root ++ behind_read (root_marks usable pages leaf row root)
root_front usable pages leaf row root = go (is_index_page pages root)
  where
    go : (b : Bool) → (if b then index_tree usable pages leaf root else table_tree (own_marks usable pages row) usable pages leaf root)
        ≡ read_marks usable pages leaf root ++ behind_read (if b then index_tree usable pages leaf root else table_tree (own_marks usable pages row) usable pages leaf root)
    go true = index_front usable pages _ tree_levels leaf root
    go false = table_front (own_marks usable pages row) usable pages _ tree_levels 0 18446744073709551616 leaf root

object_some : (usable : ℕ) (pages : Paging) (leaf : ℕ) (row : SchemaRow) (root : ℕ) → root ≡ root_of row.rootpage → (root == 0) ≡ false
    → object_marks usable pages (leaf, row) ≡ read_marks usable pages leaf root ++ behind_read (root_marks usable pages leaf row root)
object_some usable pages leaf row root at some =
    let P : ℕ → Type 0 = λ n. (if n == 0 then [] else root_marks usable pages leaf row n) ≡ root_marks usable pages leaf row root in
    subst P at (ap (λ b. if b then [] else root_marks usable pages leaf row root) some) ∙ root_front usable pages leaf row root

-- an object whose root is read, and whose tree is tried from there on
pub object_tried : (usable : ℕ) (pages : Paging) (before now later : Met) (leaf : ℕ) (row : SchemaRow) (root : ℕ) (node : PageCells) (r : Result ℕ Halt)
    → root ≡ root_of row.rootpage → (root == 0) ≡ false → now.pages ≡ before.pages
    → Tries before.pages (has_met before) (has_met now) (read_marks usable pages leaf root) (the_ok PageCells node)
    → Tries now.pages (has_met now) (has_met later) (behind_read (root_marks usable pages leaf row root)) r
    → Tries before.pages (has_met before) (has_met later) (object_marks usable pages (leaf, row)) r
object_tried usable pages before now later leaf row root node r at some same read tried =
    let P : List Mark → Type 0 = λ marks. Tries before.pages (has_met before) (has_met later) marks r in
    let Q : ℕ → Type 0 = λ n. Tries n (has_met now) (has_met later) (behind_read (root_marks usable pages leaf row root)) r in
    subst P (sym (object_some usable pages leaf row root at some))
    (tries_then {X = PageCells} {Y = ℕ} before.pages (has_met before) (has_met now) (has_met later) (read_marks usable pages leaf root) (behind_read (root_marks usable pages leaf row root)) node r read
    (subst Q same tried))

pub object_halts : (usable : ℕ) (pages : Paging) (count : ℕ) (a b : ℕ → Bool) (leaf : ℕ) (row : SchemaRow) (root : ℕ) (halt : Halt) → root ≡ root_of row.rootpage → (root == 0) ≡ false
    → Tries count a b (read_marks usable pages leaf root) (the_err PageCells halt) → Tries count a b (object_marks usable pages (leaf, row)) (the_err ℕ halt)
object_halts usable pages count a b leaf row root halt at some read =
    let P : List Mark → Type 0 = λ marks. Tries count a b marks (the_err ℕ halt) in
    subst P (sym (object_some usable pages leaf row root at some))
    (tries_halt PageCells ℕ count a b b (read_marks usable pages leaf root) (behind_read (root_marks usable pages leaf row root)) halt read)

-- there are fewer pages
pub object_out : (usable : ℕ) (pages : Paging) (count : ℕ) (a : ℕ → Bool) (leaf : ℕ) (row : SchemaRow) → (root_of row.rootpage ≤ count → ⊥)
    → Tries count a a (object_marks usable pages (leaf, row)) (the_err ℕ (Broken leaf 1))
object_out usable pages count a leaf row out = go (root_of row.rootpage) refl out
  where
    go : (root : ℕ) → root ≡ root_of row.rootpage → (root ≤ count → ⊥) → Tries count a a (object_marks usable pages (leaf, row)) (the_err ℕ (Broken leaf 1))
    go root at far =
        let some : (root == 0) ≡ false = grind (arith, far) in
        let none : is_one_of count root ≡ false = grind (arith, far) in
        object_halts usable pages count a a leaf row root (Broken leaf 1) at some
        (tries_halt (Unit {0}) PageCells count a a a (Names leaf root ∷ []) (Keeps root 3 (is_legal (node_at usable pages root)) ∷ []) (Broken leaf 1) (names_out count a leaf root none))

-- a row without a root
pub object_none : (usable : ℕ) (pages : Paging) (count : ℕ) (a : ℕ → Bool) (leaf : ℕ) (row : SchemaRow) → root_of row.rootpage ≡ 0
    → Tries count a a (object_marks usable pages (leaf, row)) (the_ok ℕ 0) × (0 ≡ saturated (open_rows usable pages row))
object_none usable pages count a leaf row none =
    let unrooted : is_rooted (is_index_page pages) row.rootpage ≡ false = ap (λ (n : ℕ). not (n == 0) && not (is_index_page pages n)) none in
    let P : ℕ → Type 0 = λ n. Tries count a a (if n == 0 then [] else root_marks usable pages leaf row n) (the_ok ℕ 0) in
    (subst P (sym none) (λ more. refl), saturated_none (open_rows usable pages row) (unrooted_rows usable pages row unrooted))

-- the same of a pair
pub of_pair : (leaf : ℕ) (row : SchemaRow) (placed : ℕ × SchemaRow) → leaf ≡ placed.0 → row ≡ placed.1 → (leaf, row) ≡ placed
of_pair leaf row placed l r = ap (λ (n : ℕ). (n, row)) l ∙ ap (λ (s : SchemaRow). (placed.0, s)) r

saturated_more : (rows more total open_ rest : ℕ) → more ≡ saturated open_ → total ≡ saturated (rows + more) → saturated (total + rest) ≡ saturated (rows + (open_ + rest))
saturated_more rows more total open_ rest m t = omega (arith, m, t)

pub tried_first : (usable : ℕ) (pages : Paging) (met : Met) (placed : List (ℕ × SchemaRow)) → IsTried usable pages met met placed placed 0
tried_first usable pages met placed = record { tried = λ more. refl; counted = ap saturated (none_more (rows_of_open usable pages placed)) }
  where
    none_more : (n : ℕ) → 0 + n ≡ n
    none_more n = omega arith

-- the same are left
pub tried_rest : (usable : ℕ) (pages : Paging) (before now : Met) (placed left other : List (ℕ × SchemaRow)) (rows : ℕ) → left ≡ other
    → IsTried usable pages before now placed left rows → IsTried usable pages before now placed other rows
tried_rest usable pages before now placed left other rows same tried =
    let P : List (ℕ × SchemaRow) → Type 0 = λ l. IsTried usable pages before now placed l rows in subst P same tried

pub tried_next : (usable : ℕ) (pages : Paging) (before now later : Met) (placed left rest : List (ℕ × SchemaRow)) (first : ℕ × SchemaRow) (rows more total : ℕ)
    → now.pages ≡ before.pages → left ≡ first ∷ rest → IsTried usable pages before now placed left rows
    → Tries now.pages (has_met now) (has_met later) (object_marks usable pages first) (the_ok ℕ more)
    → more ≡ saturated (open_rows usable pages first.1) → total ≡ saturated (rows + more)
    → IsTried usable pages before later placed rest total
tried_next usable pages before now later placed left rest first rows more total same is tried object counted sum_is =
    let P : List (ℕ × SchemaRow) → Type 0 = λ l. Leads before.pages (has_met before) (flat_map (object_marks usable pages) placed) (has_met now) (flat_map (object_marks usable pages) l) in
    let R : List Mark → Type 0 = λ l. Leads before.pages (has_met before) (flat_map (object_marks usable pages) placed) (has_met now) l in
    let Q : ℕ → Type 0 = λ n. Tries n (has_met now) (has_met later) (object_marks usable pages first) (the_ok ℕ more) in
    let C : List (ℕ × SchemaRow) → Type 0 = λ l. saturated (rows + rows_of_open usable pages l) ≡ saturated (rows_of_open usable pages placed) in
    record {
      tried = leads_try ℕ before.pages (has_met before) (has_met now) (has_met later) (flat_map (object_marks usable pages) placed) (object_marks usable pages first)
          (flat_map (object_marks usable pages) rest) more (subst R (flat_map-cons (object_marks usable pages) first rest) (subst P is tried.tried)) (subst Q same object);
      counted = saturated_more rows more total (open_rows usable pages first.1) (rows_of_open usable pages rest) counted sum_is
          ∙ ap (λ n. saturated (rows + n)) (sym (sum_by-cons (λ x. x) (open_rows usable pages first.1) (map (open_rows usable pages) (rows_in rest)))) ∙ subst C is tried.counted;
    }

pub tried_halt : (usable : ℕ) (pages : Paging) (before now later : Met) (placed left rest : List (ℕ × SchemaRow)) (first : ℕ × SchemaRow) (rows : ℕ) (halt : Halt)
    → now.pages ≡ before.pages → left ≡ first ∷ rest → IsTried usable pages before now placed left rows
    → Tries now.pages (has_met now) (has_met later) (object_marks usable pages first) (the_err ℕ halt)
    → Tries before.pages (has_met before) (has_met later) (flat_map (object_marks usable pages) placed) (the_err ℕ halt)
tried_halt usable pages before now later placed left rest first rows halt same is tried object =
    let P : List (ℕ × SchemaRow) → Type 0 = λ l. Leads before.pages (has_met before) (flat_map (object_marks usable pages) placed) (has_met now) (flat_map (object_marks usable pages) l) in
    let R : List Mark → Type 0 = λ l. Leads before.pages (has_met before) (flat_map (object_marks usable pages) placed) (has_met now) l in
    let Q : ℕ → Type 0 = λ n. Tries n (has_met now) (has_met later) (object_marks usable pages first) (the_err ℕ halt) in
    leads_halt ℕ ℕ before.pages (has_met before) (has_met now) (has_met later) (has_met later) (flat_map (object_marks usable pages) placed) (object_marks usable pages first)
    (flat_map (object_marks usable pages) rest) halt (subst R (flat_map-cons (object_marks usable pages) first rest) (subst P is tried.tried)) (subst Q same object)

pub tried_end : (usable : ℕ) (pages : Paging) (before now : Met) (placed left : List (ℕ × SchemaRow)) (rows : ℕ) → length left < 1 → rows ≤ 18446744073709551615
    → IsTried usable pages before now placed left rows
    → Tries before.pages (has_met before) (has_met now) (flat_map (object_marks usable pages) placed) (the_ok ℕ rows) × (rows ≡ saturated (rows_of_open usable pages placed))
tried_end usable pages before now placed (p ∷ ps) rows none few tried = absurd (omega (arith, none))
tried_end usable pages before now placed [] rows none few tried = (tried.tried, omega (arith, few, tried.counted))

-- how many rows were counted, once all came
pub all_counted : (old new shown : ℕ) (rows : List LeafRow) → saturated (new + 0) ≡ saturated (old + length (rows ++ [])) → old ≡ 0 → shown ≡ new → shown < 18446744073709551616
    → shown ≡ saturated (length rows)
all_counted old new shown rows count none same few =
    let all : length (rows ++ []) ≡ length rows = ap (λ (rs : List LeafRow). length rs) (append-nil rows) in
    omega (arith, count, none, same, few, all)
