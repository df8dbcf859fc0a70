-- The pages that are asked for where the pages stand for a database: each is one of these.
use Rattle.std.proofs.Common.{◌≡◌, ℕ, ℤ, Bool, true, false, not, ◌==◌, List, [], ◌∷◌, ◌++◌, Option, Some, None, Err, All, is_some, refl, ap, ◌∙◌, subst, append_assoc}
use Rattle.std.specs.List.{Contains, find, flat_map}
use Rattle.std.proofs.lemmas.List.Elements.{All-cons, All-head, All-nil, All-tail}
use Rattle.spe_model.specs.declared.catalog.Entry.{Entry}
use Rattle.spe_model.specs.Database.{Database}
use Rattle.spe_model.specs.Paging.{Paging}
use Rattle.spe_model.specs.Schema.{SchemaRow, is_table_row, is_index_page, is_closed_by, is_rooted, root_of, table_of, entry_of, catalog_of}
use Rattle.spe_model.specs.Standing.{Whether, Tree, HasTree, AreEntries, StandsFor, all_pages, pages_of_some}
use Rattle.spe_model.specs.Tree.{tree_rows}
use Rattle.spe_space.specs.Calls.{sight}
use Rattle.spe_space.specs.Found.{missing_weaker}
use Rattle.spe_space.specs.Outcome.{IsInside}
use Rattle.spe_space.specs.declared.pages.Pages.{Ghosts}
use Rattle.spe_space.specs.declared.fault.TreeFault.{TreeFault}
use Rattle.spe_search.specs.Inside.{MissesTree}
use Rattle.spe_catalog.specs.Reader.{IsCatalog}
use Rattle.spe_serve.specs.declared.reply.Reply.{Reply}
use Rattle.spe_serve.specs.Space.{AsksOfRows, GrowsInside, entry_named, is_named}
use Rattle.spe_serve.proofs.InsideLemmas.{all_behind, all_front, one_of}
use Rattle.spe_serve.proofs.TableLemmas.{and_both, no_reason, not_root, part_of, rooted_if, some_same}

-- a walk over the rows of a table
pub range_asks : {P : Type 0} (g : Ghosts P) (early late : P) (entry : Entry) (fault : TreeFault) → MissesTree {X = Reply} g early late entry.root (Err fault)
    → AsksOfRows g early late entry (Err fault)
range_asks g early late entry fault misses pages agrees count grows =
    missing_weaker (Contains (all_pages (g.used early) (sight g early pages) grows.height entry.root)) (IsInside count) fault
    (λ n has. one_of (IsInside count) _ n grows.within has)
    (misses pages agrees grows.height grows.tree)

-- pages of the trees behind the first
rest_inside : (usable count : ℕ) (pages : Paging) (t : Option Tree) (ts : List (Option Tree)) (more : List ℕ)
    → All (IsInside count) (flat_map (pages_of_some usable pages) (t ∷ ts) ++ more)
    → All (IsInside count) (pages_of_some usable pages t ++ (flat_map (pages_of_some usable pages) ts ++ more))
rest_inside usable count pages t ts more all =
    subst (All (IsInside count)) (append_assoc (pages_of_some usable pages t) (flat_map (pages_of_some usable pages) ts) more) all

trees_inside : (usable count : ℕ) (pages : Paging) (db : Database) (stands : StandsFor usable count pages db)
    → All (IsInside count) (flat_map (pages_of_some usable pages) stands.trees ++ stands.listed)
trees_inside usable count pages db stands =
    let schema = all_pages usable pages stands.height 1 in
    let trees = flat_map (pages_of_some usable pages) stands.trees in
    all_behind (IsInside count) schema (trees ++ stands.listed)
    (subst (All (IsInside count)) (append_assoc schema trees stands.listed) stands.within)

-- the tree of a table that is open
open_inside : (usable count : ℕ) (pages : Paging) (page : Option ℤ) (grown : Option Tree) (more : List ℕ) → HasTree usable pages (root_of page) grown
    → is_rooted (is_index_page pages) page ≡ true → All (IsInside count) (pages_of_some usable pages grown ++ more) → GrowsInside usable count pages (root_of page)
open_inside usable count pages page None more tree rooted all =
    absurd (not_root (root_of page) (and_both (not (root_of page == 0)) (not (is_index_page pages (root_of page))) rooted).0 tree)
open_inside usable count pages page (Some t) more tree rooted all =
    let table : t.table ≡ true = tree.2 ∙ (and_both (not (root_of page == 0)) (not (is_index_page pages (root_of page))) rooted).1 in
    let grown = rw table at tree.3 in
    subst (GrowsInside usable count pages) tree.1
    (record { height = t.height; tree = grown; within = all_front (IsInside count) (all_pages usable pages t.height t.root) more all })

abbrev IsEntryInside : (usable count : ℕ) → Paging → Entry → Type 0
IsEntryInside usable count pages entry = Whether (is_some entry.table.closed) (Unit {0}) (GrowsInside usable count pages entry.root)

entry_inside : (usable count : ℕ) (pages : Paging) (all : List SchemaRow) (row : SchemaRow) (grown : Option Tree) (more : List ℕ) → HasTree usable pages (root_of row.rootpage) grown
    → All (IsInside count) (pages_of_some usable pages grown ++ more) → IsEntryInside usable count pages (entry_of (is_index_page pages) all row)
entry_inside usable count pages all row grown more tree within = go (is_some (table_of (is_index_page pages) all row).closed) refl
  where
    go : (closed : Bool) → is_some (table_of (is_index_page pages) all row).closed ≡ closed → Whether closed (Unit {0}) (GrowsInside usable count pages (root_of row.rootpage))
    go true e = tt
    go false e = open_inside usable count pages row.rootpage grown more tree
        (rooted_if (is_index_page pages) all row (no_reason (is_closed_by (is_index_page pages) all row) e)) within

entries_inside : (usable count : ℕ) (pages : Paging) (all rows : List SchemaRow) (trees : List (Option Tree)) (db : Database) (more : List ℕ)
    → AreEntries usable pages all rows trees db → All (IsInside count) (flat_map (pages_of_some usable pages) trees ++ more)
    → All (IsEntryInside usable count pages) (part_of pages all rows)
entries_inside usable count pages all [] trees db more h within = All-nil (IsEntryInside usable count pages)
entries_inside usable count pages all (r ∷ rs) [] db more h within = absurd h
entries_inside usable count pages all (r ∷ rs) (t ∷ ts) [] more h within = absurd h
entries_inside usable count pages all (r ∷ rs) (t ∷ ts) (o ∷ os) more h within =
    go (is_table_row r) refl (entries_inside usable count pages all rs ts os more h.1 (all_behind (IsInside count) (pages_of_some usable pages t) _ both))
  where
    both : All (IsInside count) (pages_of_some usable pages t ++ (flat_map (pages_of_some usable pages) ts ++ more))
    both = rest_inside usable count pages t ts more within

    go : (b : Bool) → is_table_row r ≡ b → All (IsEntryInside usable count pages) (part_of pages all rs) → All (IsEntryInside usable count pages) (part_of pages all (r ∷ rs))
    go true e rest =
        let own = entry_inside usable count pages all r t _ h.0.tree both in
        rw e (All-cons (IsEntryInside usable count pages) (entry_of (is_index_page pages) all r) (part_of pages all rs) own rest)
    go false e rest = rw e rest

find_such : (Q : Entry → Type 0) (test : Entry → Bool) (es : List Entry) (e : Entry) → All Q es → Some e ≡ find test es → Q e
find_such Q test [] e all is = absurd cc
find_such Q test (x ∷ xs) e all is = go (test x) refl (find_such Q test xs e (All-tail Q x xs all))
  where
    go : (b : Bool) → test x ≡ b → (Some e ≡ find test xs → Q e) → Q e
    go true t later = let same : Some e ≡ Some x = is ∙ rw t refl in let one : x ≡ e = cc in subst Q one (All-head Q x xs all)
    go false t later = later (is ∙ rw t refl)

-- the tree of a table that the catalog names
pub named_inside : (usable count : ℕ) (pages : Paging) (catalog : List Entry) (db : Database) (name : List ℕ) (entry : Entry) (stands : StandsFor usable count pages db)
    → IsCatalog pages (tree_rows usable pages stands.height 1) catalog → Some entry ≡ entry_named name catalog → IsEntryInside usable count pages entry
named_inside usable count pages catalog db name entry stands is found =
    let rows : is.rows ≡ stands.rows = some_same stands.rows is.rows _ stands.rows_are is.rows_are in
    let same : catalog ≡ catalog_of (is_index_page pages) stands.rows = is.tables ∙ ap (catalog_of (is_index_page pages)) rows in
    find_such (IsEntryInside usable count pages) (is_named name) catalog entry
    (rw same (entries_inside usable count pages stands.rows stands.rows stands.trees db stands.listed stands.entries (trees_inside usable count pages db stands))) found
