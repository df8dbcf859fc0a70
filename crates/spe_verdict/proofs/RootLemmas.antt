-- Served pages are framed for their roots.
use Rattle.std.proofs.Common.{◌≡◌, ℕ, zero, suc, ◌≤◌, List, [], ◌∷◌, ◌++◌, length, take, All, refl, sym, ap, subst, ◌∙◌, arith, true, false, Option, Some, None, Ok, ⊎_elim}
use Rattle.std.specs.Prelude.{◌&&◌, ◌==◌, not, nat_lt, slice_index}
use Rattle.std.specs.List.{flat_map, list_all}
use Rattle.std.proofs.lemmas.Bool.{cases_Bool, eq-eqb, ne_eqb}
use Rattle.std.proofs.lemmas.List.{get_or-take}
use Rattle.spe_model.specs.declared.header.Header.{Header}
use Rattle.spe_model.specs.declared.page.Cell.{Cell}
use Rattle.spe_model.specs.declared.page.Kind.{Kind}
use Rattle.spe_model.specs.declared.page.Kind.TheVariants.{TableLeaf, TableInterior}
use Rattle.spe_model.specs.declared.page.PageCells.{PageCells}
use Rattle.spe_model.specs.declared.page.PageFault.TheVariants.{OffsetOut, Overlap, OutOfOrder}
use Rattle.spe_model.specs.Database.{Database}
use Rattle.spe_model.specs.Kind.{is_table, kind_of}
use Rattle.spe_model.specs.Page.{apart, array_end, ascends, is_within, offsets_at, page_at, page_of_cells, page_of_kind, placed_all}
use Rattle.spe_model.specs.Paging.{Paging}
use Rattle.spe_model.specs.Schema.{SchemaRow, is_index_kind, is_index_page, root_of}
use Rattle.spe_model.specs.Served.{AreFilled, AreGrown, usable_in}
use Rattle.spe_model.specs.Standing.{AreDistinct, AreEntries, HasTree, IsOneOf, StandsFor, Tree, all_pages, pages_of_some, pages_of_tree}
use Rattle.spe_model.specs.Tree.{IsNode, IsTree, header_end, node_cells, node_right}
use Rattle.spe_verdict.specs.Roots.{ServedAreFramed, ServedForOne, ServedStand, root_in}
use Rattle.spe_verdict.proofs.HeaderLemmas.{legal_usable}
use Rattle.spe_verdict.proofs.NodeLemmas.{if_ok}
use Rattle.spe_verdict.proofs.OneLemmas.{one as stand_for_one}

cells_kind : (kind : Kind) (page : List ℕ) (at : ℕ) (placed : Option (List Cell × List (ℕ × ℕ))) (shown : PageCells)
    → page_of_cells kind page at placed ≡ Ok shown → kind ≡ shown.kind
cells_kind kind page at None shown is = absurd cc
cells_kind kind page at (Some found) shown is =
    let apart_ok = if_ok (not (apart found.1)) Overlap _ shown is in
    let made_ok = if_ok (is_table kind && not (ascends found.0)) OutOfOrder _ shown apart_ok in
    cc

page_kind : (kind : Option Kind) (page : List ℕ) (at : ℕ) (shown : PageCells) → page_of_kind kind page at ≡ Ok shown → kind ≡ Some shown.kind
page_kind None page at shown is = absurd cc
page_kind (Some kind) page at shown is =
    let array = if_ok (nat_lt (length page) (array_end kind page at)) OffsetOut _ shown is in
    let within = if_ok (not (list_all (is_within (array_end kind page at) (length page)) (offsets_at kind page at))) OffsetOut _ shown array in
    ap (λ (k : Kind). Some k) (cells_kind kind page at (placed_all kind (length page) page (offsets_at kind page at)) shown within)

-- a legal page has the kind that its type byte names
node_kind : (usable : ℕ) (pages : Paging) (page : ℕ) (kind : Kind) → 480 ≤ usable → IsNode kind usable pages page
    → kind_of (slice_index (pages page) (header_end page)) ≡ Some kind
unfolding page_at
node_kind usable pages page kind least is =
    let bytes = take usable (pages page) in
    let front = header_low page in
    let same : slice_index bytes (header_end page) ≡ slice_index (pages page) (header_end page) = get_or-take usable (pages page) (header_end page) 0 (omega arith) in
    ap kind_of (sym same)
    ∙ page_kind (kind_of (slice_index bytes (header_end page))) bytes (header_end page) (record { kind = kind; cells = node_cells usable pages page; right = node_right usable pages page }) is
  where
    header_low : (page : ℕ) → header_end page ≤ 100
    header_low page = ⊎_elim
        (λ (is : (page == 1) ≡ true). rw is (omega arith))
        (λ (is : (page == 1) ≡ false). rw is (omega arith))
        (cases_Bool (page == 1))

-- the root of a table tree is no page of an index
pub table_page : (usable : ℕ) (pages : Paging) (height low high page : ℕ) → 480 ≤ usable → IsTree usable pages height low high page → is_index_page pages page ≡ false
table_page usable pages zero low high page least tree = ap is_index_kind (node_kind usable pages page TableLeaf least tree.0)
table_page usable pages (suc height) low high page least tree = ap is_index_kind (node_kind usable pages page TableInterior least tree.0)

-- the trees that there are
abbrev present : List (Option Tree) → List Tree
present [] = []
present (None ∷ ts) = present ts
present (Some t ∷ ts) = t ∷ present ts

present_pages : (usable : ℕ) (pages : Paging) (trees : List (Option Tree))
    → flat_map (pages_of_tree usable pages) (present trees) ≡ flat_map (pages_of_some usable pages) trees
present_pages usable pages [] = refl
present_pages usable pages (None ∷ ts) = present_pages usable pages ts
present_pages usable pages (Some t ∷ ts) = rw (present_pages usable pages ts) refl

rows_grown : (usable : ℕ) (pages : Paging) (all rows : List SchemaRow) (trees : List (Option Tree)) (db : Database)
    → AreEntries usable pages all rows trees db → AreFilled usable pages all rows trees → AreGrown usable pages (flat_map (root_in pages all) rows) (present trees)
rows_grown usable pages all [] [] [] are filled = tt
rows_grown usable pages all [] [] (o ∷ os) are filled = absurd are
rows_grown usable pages all [] (t ∷ ts) db are filled = absurd are
rows_grown usable pages all (r ∷ rs) [] db are filled = absurd are
rows_grown usable pages all (r ∷ rs) (t ∷ ts) [] are filled = absurd are
rows_grown usable pages all (r ∷ rs) (None ∷ ts) (o ∷ os) are filled =
    let none = eq-eqb (root_of r.rootpage) 0 are.0.tree in
    rw none (rows_grown usable pages all rs ts os are.1 filled.1)
rows_grown usable pages all (r ∷ rs) (Some t ∷ ts) (o ∷ os) are filled =
    let some = ne_eqb (root_of r.rootpage) 0 are.0.tree.0 in
    rw some ((are.0.tree, filled.0), rows_grown usable pages all rs ts os are.1 filled.1)

pub stand : ServedStand
stand count pages db served = record { header = served.header; legal = served.front.legal; body = served.stands }

pub framed : ServedAreFramed
framed count pages db served =
    let usable = usable_in served.header in
    let standing = served.stands in
    let least = legal_usable (take 100 (pages 1)) served.header served.front.legal in
    let schema : Tree = record { table = true; height = standing.height; root = 1 } in
    let trees = schema ∷ present standing.trees in
    let sort = table_page usable pages standing.height 0 18446744073709551616 1 least standing.schema.1 in
    let has : HasTree usable pages 1 (Some schema) = ((λ (e : 1 ≡ 0). absurd (omega arith)), refl, sym (ap not sort), standing.schema) in
    let same : flat_map (pages_of_some usable pages) standing.trees ≡ flat_map (pages_of_tree usable pages) (present standing.trees) = sym (present_pages usable pages standing.trees) in
    record {
      header = served.header;
      front = served.front;
      prepared = served.prepared;
      first = (0, omega arith, refl);
      trees = trees;
      grown = ((has, tt), rows_grown usable pages standing.rows standing.rows standing.trees db standing.entries served.filled);
      lists = standing.lists;
      listed = standing.listed;
      free = standing.free;
      distinct = subst (λ (ps : List ℕ). AreDistinct (all_pages usable pages standing.height 1 ++ ps ++ standing.listed)) same standing.distinct;
      within = subst (λ (ps : List ℕ). All (IsOneOf count) (all_pages usable pages standing.height 1 ++ ps ++ standing.listed)) same standing.within;
    }

pub one : ServedForOne
one count pages a b x y =
    let both : Ok x.header ≡ Ok y.header = sym x.front.legal ∙ y.front.legal in
    let same : y.header ≡ x.header = cc in
    stand_for_one (usable_in x.header) count pages a b x.stands (subst (λ (h : Header). StandsFor (usable_in h) count pages b) same y.stands)
