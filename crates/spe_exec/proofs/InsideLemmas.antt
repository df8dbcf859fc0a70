-- The pages that a statement asks for, where the pages stand for a database: each is one of these.
use Rattle.std.proofs.Common.{◌≡◌, inl, inr, ℕ, zero, suc, ◌+◌, Bool, true, false, not, ◌==◌, List, [], ◌∷◌, ◌++◌, Option, Some, None, Result, Ok, Err, All, is_some, refl, sym, ap, ◌∙◌, subst}
use Rattle.std.specs.List.{find, flat_map}
use Rattle.std.proofs.lemmas.List.Elements.{All-cons, All-head, All-nil, All-tail}
use Rattle.spe_model.specs.declared.catalog.Entry.{Entry}
use Rattle.spe_model.specs.declared.page.Cell.{Cell}
use Rattle.spe_model.specs.declared.page.Kind.{Kind}
use Rattle.spe_model.specs.declared.page.Kind.TheVariants.{TableLeaf, TableInterior}
use Rattle.spe_model.specs.declared.page.PageCells.{PageCells}
use Rattle.spe_model.specs.declared.page.PageFault.{PageFault}
use Rattle.spe_model.specs.declared.statement.Cond.{Cond}
use Rattle.spe_model.specs.declared.statement.Statement.{Statement}
use Rattle.spe_model.specs.Database.{Database}
use Rattle.spe_model.specs.Paging.{Paging}
use Rattle.spe_model.specs.Schema.{SchemaRow, is_table_row, is_index_page, is_closed_by, is_rooted, root_of, table_of, entry_of}
use Rattle.spe_model.specs.Standing.{Whether, Tree, HasTree, AreEntries, all_pages, pages_of_some}
use Rattle.spe_model.specs.Statement.{table_name, conds_of}
use Rattle.spe_model.specs.Tree.{rank, AreUnder, IsTree, IsTableTree, node_cells, node_right}
use Rattle.spe_space.specs.Calls.{sight}
use Rattle.spe_space.specs.Found.{misses_weaker}
use Rattle.spe_space.specs.Outcome.{IsInside}
use Rattle.spe_space.specs.declared.pages.Pages.{Ghosts}
use Rattle.spe_space.specs.declared.fault.TreeFault.{TreeFault}
use Rattle.spe_search.proofs.InsideLemmas.{all_behind, all_front, between_inside, touched_inside}
use Rattle.spe_catalog.proofs.StandingLemmas.{parts_inside, rest_inside}
use Rattle.spe_exec.specs.Finding.{entry_named, is_named}
use Rattle.spe_exec.specs.Misses.{IsAskedFor, IsAskedOf, MissesOfStatement, MissesStatement}
use Rattle.spe_exec.specs.Run.{StandsWith}
use Rattle.spe_exec.proofs.TableLemmas.{and_both, no_reason, not_root, part_of, rooted_if}

-- the tree of a table, all pages of which are among so many
record GrowsInside (usable count : ℕ) (pages : Paging) (root : ℕ) : Type 0 where
  height : ℕ
  tree : IsTableTree usable pages height root
  within : All (IsInside count) (all_pages usable pages height root)

-- the tree of a table that is open
open_inside : (usable count : ℕ) (pages : Paging) (row : SchemaRow) (grown : Option Tree) (more : List ℕ) → HasTree usable pages (root_of row.rootpage) grown
    → is_rooted (is_index_page pages) row.rootpage ≡ true → All (IsInside count) (pages_of_some usable pages grown ++ more) → GrowsInside usable count pages (root_of row.rootpage)
open_inside usable count pages row None more tree rooted all =
    absurd (not_root (root_of row.rootpage) (and_both (not (root_of row.rootpage == 0)) (not (is_index_page pages (root_of row.rootpage))) rooted).0 tree)
open_inside usable count pages row (Some t) more tree rooted all =
    let table : t.table ≡ true = tree.2 ∙ (and_both (not (root_of row.rootpage == 0)) (not (is_index_page pages (root_of row.rootpage))) rooted).1 in
    let grown = rw table at tree.3 in
    subst (GrowsInside usable count pages) tree.1
    (record { height = t.height; tree = grown; within = all_front (IsInside count) (all_pages usable pages t.height t.root) more all })

abbrev IsEntryInside : (usable count : ℕ) → Paging → Entry → Type 0
IsEntryInside usable count pages entry = Whether (is_some entry.table.closed) (Unit {0}) (GrowsInside usable count pages entry.root)

entry_inside : (usable count : ℕ) (pages : Paging) (all : List SchemaRow) (row : SchemaRow) (grown : Option Tree) (more : List ℕ) → HasTree usable pages (root_of row.rootpage) grown
    → All (IsInside count) (pages_of_some usable pages grown ++ more) → IsEntryInside usable count pages (entry_of (is_index_page pages) all row)
entry_inside usable count pages all row grown more tree within = go (is_some (table_of (is_index_page pages) all row).closed) refl
  where
    go : (closed : Bool) → is_some (table_of (is_index_page pages) all row).closed ≡ closed → Whether closed (Unit {0}) (GrowsInside usable count pages (root_of row.rootpage))
    go true e = tt
    go false e = open_inside usable count pages row grown more tree
        (rooted_if (is_index_page pages) all row (no_reason (is_closed_by (is_index_page pages) all row) e)) within

entries_inside : (usable count : ℕ) (pages : Paging) (all rows : List SchemaRow) (trees : List (Option Tree)) (db : Database) (more : List ℕ)
    → AreEntries usable pages all rows trees db → All (IsInside count) (flat_map (pages_of_some usable pages) trees ++ more)
    → All (IsEntryInside usable count pages) (part_of pages all rows)
entries_inside usable count pages all [] trees db more h within = All-nil (IsEntryInside usable count pages)
entries_inside usable count pages all (r ∷ rs) [] db more h within = absurd h
entries_inside usable count pages all (r ∷ rs) (t ∷ ts) [] more h within = absurd h
entries_inside usable count pages all (r ∷ rs) (t ∷ ts) (o ∷ os) more h within =
    go (is_table_row r) refl (entries_inside usable count pages all rs ts os more h.1 (all_behind (IsInside count) (pages_of_some usable pages t) _ both))
  where
    both : All (IsInside count) (pages_of_some usable pages t ++ (flat_map (pages_of_some usable pages) ts ++ more))
    both = rest_inside usable count pages t ts more within

    go : (b : Bool) → is_table_row r ≡ b → All (IsEntryInside usable count pages) (part_of pages all rs) → All (IsEntryInside usable count pages) (part_of pages all (r ∷ rs))
    go true e rest =
        let own = entry_inside usable count pages all r t _ h.0.tree both in
        rw e (All-cons (IsEntryInside usable count pages) (entry_of (is_index_page pages) all r) (part_of pages all rs) own rest)
    go false e rest = rw e rest

find_such : (Q : Entry → Type 0) (test : Entry → Bool) (es : List Entry) (e : Entry) → All Q es → find test es ≡ Some e → Q e
find_such Q test [] e all is = absurd cc
find_such Q test (x ∷ xs) e all is = go (test x) refl (find_such Q test xs e (All-tail Q x xs all))
  where
    go : (b : Bool) → test x ≡ b → (find test xs ≡ Some e → Q e) → Q e
    go true t later = let same : Some x ≡ Some e = rw t at is in let one : x ≡ e = cc in subst Q one (All-head Q x xs all)
    go false t later = later (rw t at is)

-- the tree of an open table that the catalog names
named_inside : (usable count : ℕ) (pages : Paging) (catalog : List Entry) (db : Database) (name : List ℕ) (entry : Entry) → StandsWith usable count pages catalog db
    → entry_named name catalog ≡ Some entry → is_some entry.table.closed ≡ false → GrowsInside usable count pages entry.root
named_inside usable count pages catalog db name entry with_catalog found is_open =
    let stands = with_catalog.stands in
    let own : IsEntryInside usable count pages entry =
    find_such (IsEntryInside usable count pages) (is_named name) catalog entry
    (rw with_catalog.catalog_is (entries_inside usable count pages stands.rows stands.rows stands.trees db stands.listed stands.entries (parts_inside usable count pages db stands).others)) found in
    rw is_open at own

-- a tree has one height
record IsSome (T : ℕ → ℕ → ℕ → Type 0) (page : ℕ) : Type 0 where
  low : ℕ
  high : ℕ
  tree : T low high page

last_under : (T : ℕ → ℕ → ℕ → Type 0) (low high : ℕ) (cells : List Cell) (right : ℕ) → AreUnder T low high cells right → IsSome T right
last_under T low high [] right under = record { low = low; high = high; tree = under }
last_under T low high (c ∷ cs) right under = last_under T (rank c.key + 1) high cs right under.3

abbrev kind_in : Result PageCells PageFault → Kind
kind_in (Ok cells) = cells.kind
kind_in (Err fault) = TableLeaf

other_kind : TableLeaf ≡ TableInterior → ⊥
other_kind e = cc

pub one_height : (usable : ℕ) (pages : Paging) (a b low high from to page : ℕ) → IsTree usable pages a low high page → IsTree usable pages b from to page → a ≡ b
one_height usable pages zero zero low high from to page one other = refl
one_height usable pages zero (suc b) low high from to page one other = absurd (other_kind (ap kind_in (sym one.0 ∙ other.0)))
one_height usable pages (suc a) zero low high from to page one other = absurd (other_kind (ap kind_in (sym other.0 ∙ one.0)))
one_height usable pages (suc a) (suc b) low high from to page one other =
    let cells = node_cells usable pages page in
    let right = node_right usable pages page in
    let first = last_under (IsTree usable pages a) low high cells right one.1 in
    let second = last_under (IsTree usable pages b) from to cells right other.1 in
    ap suc (one_height usable pages a b first.low first.high second.low second.high right first.tree second.tree)

asked_inside : (usable count : ℕ) (pages : Paging) (root : ℕ) (conds : List Cond) (n : ℕ) → GrowsInside usable count pages root → IsAskedFor usable pages root conds n → IsInside count n
asked_inside usable count pages root conds n grows asked =
    let same : grows.height ≡ asked.height = one_height usable pages grows.height asked.height 0 18446744073709551616 0 18446744073709551616 root grows.tree.1 asked.tree.1 in
    let within : All (IsInside count) (all_pages usable pages asked.height root) = subst (λ (h : ℕ). All (IsInside count) (all_pages usable pages h root)) same grows.within in
    elim asked.page [
      | inl own ↦ touched_inside (IsInside count) usable pages (rank asked.span.low) (rank asked.span.high) asked.height 0 18446744073709551616 root n asked.tree.1 within own
      | inr over ↦ between_inside (IsInside count) usable pages (rank asked.span.low) (rank asked.span.high) asked.height 0 18446744073709551616 root n asked.tree.1 within over.1
    ]

pub misses_inside : {P X : Type 0} (g : Ghosts P) (early late : P) (catalog : List Entry) (s : Statement) (result : Result X TreeFault) → MissesOfStatement g early late catalog s result
    → MissesStatement g early late catalog result
misses_inside g early late catalog s result misses pages agrees count db stands =
    let usable = g.used early in
    let view = sight g early pages in
    misses_weaker (IsAskedOf usable view catalog s) (IsInside count) result
    (λ n asked. asked_inside usable count view asked.entry.root (conds_of s) n (named_inside usable count view catalog db (table_name s) asked.entry stands asked.named asked.is_open) asked.page)
    (misses pages agrees count db stands)
