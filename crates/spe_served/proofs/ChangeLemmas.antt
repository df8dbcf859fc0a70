-- A table of served pages gets other rows.
use Rattle.std.proofs.Common.{◌≡◌, ℕ, ◌+◌, ◌*◌, ◌^◌, ◌≤◌, Bool, true, false, not, ◌==◌, List, [], ◌∷◌, ◌++◌, map, take, Option, Some, None, Ok, is_some, unwrap_or, refl, sym, ap, ◌∙◌, arith, subst}
use Rattle.std.specs.List.{flat_map}
use Rattle.spe_model.specs.declared.catalog.Entry.{Entry}
use Rattle.spe_model.specs.declared.header.Header.{Header}
use Rattle.spe_model.specs.declared.table.Closed.{Closed}
use Rattle.spe_model.specs.declared.table.TableDef.{TableDef}
use Rattle.spe_model.specs.Big.{u32_at}
use Rattle.spe_model.specs.Database.{Database, Row}
use Rattle.spe_model.specs.FreeList.{first_trunks}
use Rattle.spe_model.specs.Header.{header_of}
use Rattle.spe_model.specs.Journal.{numbers_from}
use Rattle.spe_model.specs.Justified.{Opening}
use Rattle.spe_model.specs.Paging.{Paging}
use Rattle.spe_model.specs.Rows.{with_rows}
use Rattle.spe_model.specs.Schema.{SchemaRow, catalog_of, is_index_page, is_rooted, root_of, schema_of, table_of}
use Rattle.spe_model.specs.Served.{AreGrown, Framed, IsGrown, Root, Served, usable_in}
use Rattle.spe_model.specs.Standing.{AreEntries, AreFree, AreTableRows, HasTree, Tree, pages_of_tree, stored_rows}
use Rattle.spe_model.specs.Tree.{IsTableTree, tree_rows}
use Rattle.spe_space.specs.declared.pages.Pages.{Ghosts}
use Rattle.spe_space.specs.Calls.{sight}
use Rattle.spe_space.specs.Front.{list_in, number_in}
use Rattle.spe_frame.specs.Framed.{FramedIn}
use Rattle.spe_frame.specs.Held.{Shifts}
use Rattle.spe_frame.specs.Pick.{Picked}
use Rattle.spe_frame.specs.Times.{Lacks}
use Rattle.spe_frame.proofs.ForestLemmas.{first_count, forest_stays}
use Rattle.spe_frame.proofs.FramedLemmas.{frame_is_framed, frame_stays, framed_is_frame, list_not_first, list_other, some_node}
use Rattle.spe_frame.proofs.HeldLemmas.{held_left, list_same}
use Rattle.spe_frame.proofs.PickLemmas.{picks}
use Rattle.spe_frame.proofs.TimesLemmas.{times-append}
use Rattle.spe_verdict.specs.Frames.{HaveObjects}
use Rattle.spe_verdict.specs.Roots.{names_open, root_in, roots_of}
use Rattle.spe_verdict.proofs.FrameLemmas.{served}
use Rattle.spe_verdict.proofs.HeaderLemmas.{legal_usable}
use Rattle.spe_verdict.proofs.OneLemmas.{same_tree}
use Rattle.spe_verdict.proofs.RootLemmas.{framed, table_page}
use Rattle.spe_verdict.proofs.ShapeLemmas.{leaves_of_tree, same_height}
use Rattle.spe_verdict.proofs.StandLemmas.{top}
use Rattle.spe_served.specs.Change.{ChangesTable, HasRows, IsServed, RootHasOne, entry_named, root_of_table}
use Rattle.spe_served.specs.Lists.{ListsStand}
use Rattle.spe_served.proofs.EveryLemmas.{Every, every_back, every_from, every_front}
use Rattle.spe_served.proofs.KeptLemmas.{KeepsRow, KeepsTree, kept_roots, kept_rows, roots_split, sort_stays}
use Rattle.spe_served.proofs.ObjectLemmas.{Changed, SameTable, objects_changed, own_rows}
use Rattle.spe_served.proofs.TableLemmas.{Place, SortStays, and_both, catalog_alike, place, rooted_if, roots_alike, table_alike, zero_not}

-- legal headers of one page 1 are one
one_header : (bytes : List ℕ) (h k : Header) → header_of bytes ≡ Ok h → header_of bytes ≡ Ok k → h ≡ k
one_header bytes h k a b = let both : Ok h ≡ Ok k = sym a ∙ b in cc

-- pages served show the rows of one schema
one_schema : (count : ℕ) (pages : Paging) (db : Database) (sv : Served count pages db) (height : ℕ) (rows : List SchemaRow)
    → IsTableTree (usable_in sv.header) pages height 1 → schema_of (tree_rows (usable_in sv.header) pages height 1) ≡ Some rows → sv.stands.rows ≡ rows
one_schema count pages db sv height rows tree are =
    let usable = usable_in sv.header in
    let same : sv.stands.height ≡ height = same_height usable pages sv.stands.height height 1
    (leaves_of_tree usable pages sv.stands.height 0 top 1 sv.stands.schema.1) (leaves_of_tree usable pages height 0 top 1 tree.1) in
    let both : Some sv.stands.rows ≡ Some rows = sym sv.stands.rows_are ∙ ap (λ (h : ℕ). schema_of (tree_rows usable pages h 1)) same ∙ are in
    cc

-- the tree of page 1
abbrev schema_tree : ℕ → Tree
schema_tree height = record { table = true; height = height; root = 1 }

-- the roots of the tables before one, and of those after it
abbrev roots_before : (pages : Paging) (all before : List SchemaRow) → List Root
roots_before pages all before = record { page = 1; marked = false } ∷ flat_map (root_in pages all) before

-- the root of an open table, among all
root_is : (pages : Paging) (all : List SchemaRow) (name : List ℕ) (entry : Entry) (rows : List SchemaRow) (at : Place (is_index_page pages) all name entry rows) → entry.table.closed ≡ None
    → (root_of at.row.rootpage == 0) ≡ false → root_in pages all at.row ≡ root_of_table entry ∷ []
root_is pages all name entry rows at free some =
    let shut : is_some (table_of (is_index_page pages) all at.row).closed ≡ false = ap (λ (d : TableDef). is_some d.closed) at.table ∙ ap (λ (o : Option Closed). is_some o) free in
    let marked : names_open pages all at.row ≡ true = rw (at.is_table, shut) refl in
    rw some (ap (λ (m : Bool). record { page = root_of at.row.rootpage; marked = m } ∷ []) marked ∙ ap (λ (n : ℕ). root_of_table' n ∷ []) at.root)
  where
    root_of_table' : ℕ → Root
    root_of_table' n = record { page = n; marked = true }

roots_are : (pages : Paging) (all : List SchemaRow) (name : List ℕ) (entry : Entry) (at : Place (is_index_page pages) all name entry all) → entry.table.closed ≡ None
    → (root_of at.row.rootpage == 0) ≡ false → roots_of pages all ≡ roots_before pages all at.before ++ root_of_table entry ∷ flat_map (root_in pages all) at.after
roots_are pages all name entry at free some =
    ap (λ (rs : List Root). record { page = 1; marked = false } ∷ rs)
    (ap (λ (rows : List SchemaRow). flat_map (root_in pages all) rows) at.rows_are
    ∙ roots_split pages all at.before at.row at.after some (root_of_table entry) (root_is pages all name entry all at free some))

-- the rows of the table's own tree
own_is : (usable : ℕ) (pages : Paging) (root : ℕ) (table : TableDef) (o : Option Tree) (t : Tree) (rows : List Row) → HasTree usable pages root o → HasTree usable pages root (Some t)
    → t.table ≡ true → AreTableRows table (stored_rows usable pages o) rows → AreTableRows table (tree_rows usable pages t.height t.root) rows
own_is usable pages root table None t rows none has sort are = absurd (has.0 none)
own_is usable pages root table (Some u) t rows some has sort are =
    let it : u ≡ t = same_tree usable pages root u t some has in
    let stored : stored_rows usable pages (Some u) ≡ tree_rows usable pages t.height t.root =
    ap (λ (x : Tree). stored_rows usable pages (Some x)) it ∙ rw sort refl in
    rw stored at are

-- the sorts of all root pages stay
row_sort : (usable : ℕ) (old new : Paging) (row : SchemaRow) (t : Option Tree) → HasTree usable old (root_of row.rootpage) t → KeepsRow usable old new row → SortStays (is_index_page old) (is_index_page new) row
row_sort usable old new row None none keeps some = absurd (some none)
row_sort usable old new row (Some t) has keeps some = sort_stays usable old new (root_of row.rootpage) t has (keeps some t has).0

sorts_after : (usable : ℕ) (old new : Paging) (all rows : List SchemaRow) (trees : List (Option Tree)) (db : Database) → AreEntries usable old all rows trees db
    → Every (KeepsRow usable old new) rows → Every (SortStays (is_index_page old) (is_index_page new)) rows
sorts_after usable old new all [] trees db are keep = tt
sorts_after usable old new all (r ∷ rs) [] db are keep = absurd are
sorts_after usable old new all (r ∷ rs) (t ∷ ts) [] are keep = absurd are
sorts_after usable old new all (r ∷ rs) (t ∷ ts) (o ∷ os) are keep =
    (row_sort usable old new r t are.0.tree keep.0, sorts_after usable old new all rs ts os are.1 keep.1)

sorts : (usable : ℕ) (old new : Paging) (all before : List SchemaRow) (row : SchemaRow) (after : List SchemaRow) (trees : List (Option Tree)) (db : Database)
    → AreEntries usable old all (before ++ row ∷ after) trees db → Every (KeepsRow usable old new) before → Every (KeepsRow usable old new) after
    → SortStays (is_index_page old) (is_index_page new) row → Every (SortStays (is_index_page old) (is_index_page new)) (before ++ row ∷ after)
sorts usable old new all [] row after [] db are kb ka own = absurd are
sorts usable old new all [] row after (t ∷ ts) [] are kb ka own = absurd are
sorts usable old new all [] row after (t ∷ ts) (o ∷ os) are kb ka own = (own, sorts_after usable old new all after ts os are.1 ka)
sorts usable old new all (r ∷ rs) row after [] db are kb ka own = absurd are
sorts usable old new all (r ∷ rs) row after (t ∷ ts) [] are kb ka own = absurd are
sorts usable old new all (r ∷ rs) row after (t ∷ ts) (o ∷ os) are kb ka own =
    (row_sort usable old new r t are.0.tree kb.0, sorts usable old new all rs row after ts os are.1 kb.1 ka own)

not_both : (a b : Bool) → true ≡ not a → true ≡ not b → a ≡ b
not_both true b x y = absurd cc
not_both false true x y = absurd cc
not_both false false x y = refl

-- All that is known of the table before it changes.
record Setup {P : Type 0} (g : Ghosts P) (opening : Opening) (s : P) (pages : Paging) (db : Database) (name : List ℕ) (entry : Entry) (sv : IsServed g opening s pages db) : Type 0 where
  at : Place (is_index_page (sight g s pages)) sv.since.served.stands.rows name entry sv.since.served.stands.rows
  some : (root_of at.row.rootpage == 0) ≡ false
  used : usable_in sv.since.served.header ≡ g.used s
  rooted : is_rooted (is_index_page (sight g s pages)) at.row.rootpage ≡ true
  frame : FramedIn g s pages (roots_before (sight g s pages) sv.since.served.stands.rows at.before ++ root_of_table entry ∷ flat_map (root_in (sight g s pages) sv.since.served.stands.rows) at.after)
  picked : Picked g s pages (roots_before (sight g s pages) sv.since.served.stands.rows at.before) (root_of_table entry) (flat_map (root_in (sight g s pages) sv.since.served.stands.rows) at.after)
  sort : picked.tree.table ≡ true
  entries : AreEntries (g.used s) (sight g s pages) sv.since.served.stands.rows (at.before ++ at.row ∷ at.after) sv.since.served.stands.trees db

framed_at : {P : Type 0} (g : Ghosts P) → ListsStand g → (opening : Opening) (s : P) (pages : Paging) (db : Database) (sv : IsServed g opening s pages db)
    → FramedIn g s pages (roots_of (sight g s pages) sv.since.served.stands.rows)
framed_at g lists opening s pages db sv =
    let a = sight g s pages in
    let served = sv.since.served in
    let f = framed (number_in a) a db served in
    let same : f.header ≡ served.header = one_header (take 100 (a 1)) f.header served.header f.front.legal served.front.legal in
    let used : usable_in f.header ≡ g.used s = ap usable_in same ∙ sv.since.usable ∙ sv.used in
    let free : AreFree (g.used s) a f.lists f.listed = subst (λ (u : ℕ). AreFree u a f.lists f.listed) used f.free in
    framed_is_frame g s pages (roots_of a served.stands.rows) f (ap (λ (h : Header). h.page_size) same ∙ sv.size) used sv.ready
    ((lists s pages sv.ready.stands).each f.lists f.listed free)

setup : {P : Type 0} (g : Ghosts P) → ListsStand g → (opening : Opening) (s : P) (pages : Paging) (db : Database) (name : List ℕ) (entry : Entry) (sv : IsServed g opening s pages db)
    → entry_named name opening.catalog ≡ Some entry → entry.table.closed ≡ None → Setup g opening s pages db name entry sv
setup g lists opening s pages db name entry sv found free =
    let a = sight g s pages in
    let served = sv.since.served in
    let rows = served.stands.rows in
    let here : entry_named name (catalog_of (is_index_page a) rows) ≡ Some entry = ap (λ (c : List Entry). entry_named name c) sv.since.catalog ∙ found in
    let at = place (is_index_page a) rows name entry rows here in
    let rooted = rooted_if (is_index_page a) rows at.row (ap (λ (d : TableDef). d.closed) at.table ∙ free) in
    let parts = and_both (not (root_of at.row.rootpage == 0)) (not (is_index_page a (root_of at.row.rootpage))) rooted in
    let some = zero_not (root_of at.row.rootpage) parts.0 in
    let used : usable_in served.header ≡ g.used s = sv.since.usable ∙ sv.used in
    let frame = subst (λ (rs : List Root). FramedIn g s pages rs) (roots_are a rows name entry at free some) (framed_at g lists opening s pages db sv) in
    let picked = picks g s pages (roots_before a rows at.before) (root_of_table entry) (flat_map (root_in a rows) at.after) frame.trees frame.forest frame.first in
    record {
      at = at;
      some = some;
      used = used;
      rooted = rooted;
      frame = frame;
      picked = picked;
      sort = picked.grown.0.2 ∙ ap (λ (n : ℕ). not (is_index_page a n)) (sym at.root) ∙ parts.1;
      entries = subst (λ (u : ℕ). AreEntries u a rows (at.before ++ at.row ∷ at.after) served.stands.trees db) used
          (subst (λ (rs : List SchemaRow). AreEntries (usable_in served.header) a rows rs served.stands.trees db) at.rows_are served.stands.entries);
    }

-- page 1 is in another tree, that of the schema
later : {P : Type 0} (g : Ghosts P) (opening : Opening) (s : P) (pages : Paging) (db : Database) (name : List ℕ) (entry : Entry) (sv : IsServed g opening s pages db)
    → (st : Setup g opening s pages db name entry sv) → Lacks (pages_of_tree (g.used s) (sight g s pages) st.picked.tree) 1
later g opening s pages db name entry sv st =
    let a = sight g s pages in
    let rows = sv.since.served.stands.rows in
    let own = pages_of_tree (g.used s) a st.picked.tree in
    let others = flat_map (pages_of_tree (g.used s) a) st.picked.others in
    let rest = flat_map (root_in a rows) st.at.before ++ flat_map (root_in a rows) st.at.after in
    let count = first_count (g.used s) a (roots_before a rows st.at.before ++ flat_map (root_in a rows) st.at.after) st.picked.others st.picked.forest.grown in
    omega (arith, count, times-append 1 own others, st.picked.forest.held.single 1)

-- the root of the table, as a root and as a row names it
has_root : (usable other : ℕ) (pages : Paging) (root : ℕ) (n : ℕ) (t : Tree) → usable ≡ other → n ≡ root → HasTree usable pages root (Some t) → HasTree other pages n (Some t)
has_root usable other pages root n t same is has =
    subst (λ (u : ℕ). HasTree u pages n (Some t)) same (subst (λ (m : ℕ). HasTree usable pages m (Some t)) (sym is) has)

-- What stays where the table's tree is shifted.
record Left {P : Type 0} (g : Ghosts P) (opening : Opening) (s new : P) (pages : Paging) (db : Database) (name : List ℕ) (entry : Entry) (sv : IsServed g opening s pages db) (st : Setup g opening s pages db name entry sv) : Type 0 where
  used : g.used new ≡ g.used s
  schema : KeepsTree (g.used s) (sight g s pages) (sight g new pages) 1
  before : Every (KeepsRow (g.used s) (sight g s pages) (sight g new pages)) st.at.before
  after : Every (KeepsRow (g.used s) (sight g s pages) (sight g new pages)) st.at.after
  sorts : Every (SortStays (is_index_page (sight g s pages)) (is_index_page (sight g new pages))) (st.at.before ++ st.at.row ∷ st.at.after)
  trunks : first_trunks (sight g new pages) (list_in (sight g new pages)) ≡ first_trunks (sight g s pages) (list_in (sight g s pages))

left : {P : Type 0} (g : Ghosts P) (opening : Opening) (s : P) (pages : Paging) (db : Database) (name : List ℕ) (entry : Entry) (sv : IsServed g opening s pages db)
    → (st : Setup g opening s pages db name entry sv) → (new : P) (other : Tree) (allocs : ℕ)
    → Shifts g s new pages (pages_of_tree (g.used s) (sight g s pages) st.picked.tree) (pages_of_tree (g.used new) (sight g new pages) other) allocs
    → other.table ≡ true → IsGrown (g.used new) (sight g new pages) (root_of_table entry) other → Left g opening s new pages db name entry sv st
left g opening s pages db name entry sv st new other allocs shifts table grown =
    let a = sight g s pages in
    let b = sight g new pages in
    let rows = sv.since.served.stands.rows in
    let own = pages_of_tree (g.used s) a st.picked.tree in
    let own' = pages_of_tree (g.used new) b other in
    let front = roots_before a rows st.at.before in
    let back = flat_map (root_in a rows) st.at.after in
    let used : g.used new ≡ g.used s = shifts.spares.sizes.used in
    let stays = forest_stays g s new pages own own' allocs (front ++ back) st.picked.others shifts st.picked.first st.picked.forest in
    let grown_now : AreGrown (g.used s) b (front ++ back) st.picked.others = subst (λ (u : ℕ). AreGrown u b (front ++ back) st.picked.others) used stays.forest.grown in
    let kept = kept_roots (g.used s) a b (front ++ back) st.picked.others st.picked.forest.grown grown_now stays.rows in
    let first = flat_map (root_in a rows) st.at.before in
    let kb = kept_rows (g.used s) a b a rows st.at.before (every_front (λ (r : Root). KeepsTree (g.used s) a b r.page) first back kept.1) in
    let ka = kept_rows (g.used s) a b a rows st.at.after (every_back (λ (r : Root). KeepsTree (g.used s) a b r.page) first back kept.1) in
    let own_sort : is_index_page b entry.root ≡ is_index_page a entry.root = not_both (is_index_page b entry.root) (is_index_page a entry.root) (sym table ∙ grown.0.2) (sym st.sort ∙ st.picked.grown.0.2) in
    let row_stays : SortStays (is_index_page a) (is_index_page b) st.at.row = λ some. subst (λ (n : ℕ). is_index_page b n ≡ is_index_page a n) (sym st.at.root) own_sort in
    let node = and_both (not (u32_at (a 1) 32 == 0)) (u32_at (a 1) 36 == 0) st.frame.prepared.0 in
    let listed = list_other g s pages own (front ++ back) st.picked.others sv.ready (some_node (list_in a) 0 node.0) st.picked.forest in
    let kept_node : b (list_in a) ≡ a (list_in a) = ap (λ (o : Option (List ℕ)). unwrap_or o (pages (list_in a)))
    (shifts.spares.laid (list_in a) listed (list_not_first g s pages own (front ++ back) st.picked.others st.picked.forest st.picked.first)) in
    record {
      used = used;
      schema = kept.0;
      before = kb;
      after = ka;
      sorts = sorts (g.used s) a b rows st.at.before st.at.row st.at.after sv.since.served.stands.trees db st.entries kb ka row_stays;
      trunks = ap (λ (n : ℕ). first_trunks b n) (list_same a b shifts.spares.head)
          ∙ ap (λ (bytes : List ℕ). map (λ i. u32_at bytes (4 + 4 * i)) (numbers_from 0 (u32_at bytes 0))) kept_node;
    }

again : {P : Type 0} (g : Ghosts P) → ((s : P) → g.limit s * g.size s ≤ 2 ^ 30) → ListsStand g → (opening : Opening) (s : P) (pages : Paging) (db : Database) (name : List ℕ) (entry : Entry)
    (sv : IsServed g opening s pages db) → entry.table.closed ≡ None → (st : Setup g opening s pages db name entry sv) → (new : P) (other : Tree) (allocs : ℕ) (others : List Row)
    → Shifts g s new pages (pages_of_tree (g.used s) (sight g s pages) st.picked.tree) (pages_of_tree (g.used new) (sight g new pages) other) allocs
    → HasRows g new pages entry other others → IsServed g opening new pages (with_rows name others db)
again g bounded lists opening s pages db name entry sv free st new other allocs others shifts has =
    let a = sight g s pages in
    let b = sight g new pages in
    let old = sv.since.served in
    let rows = old.stands.rows in
    let u = g.used s in
    let at = st.at in
    let l = left g opening s pages db name entry sv st new other allocs shifts has.sort has.grown in
    let front = roots_before a rows at.before in
    let back = flat_map (root_in a rows) at.after in
    let shut : is_some entry.table.closed ≡ false = ap (λ (o : Option Closed). is_some o) free in
    let frame = frame_stays g bounded s new pages front (root_of_table entry) back other allocs st.frame st.picked shifts has.grown in
    let all_sorts : Every (SortStays (is_index_page a) (is_index_page b)) rows = subst (λ (rs : List SchemaRow). Every (SortStays (is_index_page a) (is_index_page b)) rs) (sym at.rows_are) l.sorts in
    let roots : front ++ root_of_table entry ∷ back ≡ roots_of b rows = sym (roots_are a rows name entry at free st.some) ∙ sym (roots_alike a b rows all_sorts) in
    let named = lists new pages shifts.ready.stands in
    let f : Framed (number_in b) b (roots_of b rows) = subst (λ (rs : List Root). Framed (number_in b) b rs) roots
    (frame_is_framed g new pages (front ++ root_of_table entry ∷ back) named.lists named.listed frame named.are) in
    let header : f.header ≡ frame.header = one_header (take 100 (b 1)) f.header frame.header f.front.legal frame.front.legal in
    let f_used : usable_in f.header ≡ u = ap usable_in header ∙ frame.used ∙ l.used in
    let least = legal_usable (take 100 (a 1)) old.header old.front.legal in
    let sort = table_page (usable_in old.header) a old.stands.height 0 18446744073709551616 1 least old.stands.schema.1 in
    let was : HasTree u a 1 (Some (schema_tree old.stands.height)) = subst (λ (n : ℕ). HasTree n a 1 (Some (schema_tree old.stands.height))) st.used ((λ (e : 1 ≡ 0). absurd (omega arith)), refl, sym (ap not sort), old.stands.schema) in
    let schema = l.schema (schema_tree old.stands.height) was in
    let tree : IsTableTree (usable_in f.header) b old.stands.height 1 = subst (λ (n : ℕ). IsTableTree n b old.stands.height 1) (sym f_used) schema.0.3 in
    let shown : schema_of (tree_rows u b old.stands.height 1) ≡ Some rows =
    ap schema_of (schema.1 ∙ ap (λ (n : ℕ). tree_rows n a old.stands.height 1) (sym st.used)) ∙ old.stands.rows_are in
    let rows_are : schema_of (tree_rows (usable_in f.header) b old.stands.height 1) ≡ Some rows = ap (λ (n : ℕ). schema_of (tree_rows n b old.stands.height 1)) f_used ∙ shown in
    let tables = every_from (SortStays (is_index_page a) (is_index_page b)) (SameTable a b rows) (at.before ++ at.row ∷ at.after) (λ r stays. table_alike (is_index_page a) (is_index_page b) rows r stays) l.sorts in
    let changed : Changed u b at.row entry.table others = record {
      tree = other;
      has = has_root (g.used new) u b entry.root (root_of at.row.rootpage) other l.used at.root has.grown.0;
      sort = has.sort;
      rows_are = subst (λ (n : ℕ). AreTableRows entry.table (tree_rows n b other.height other.root) others) l.used has.rows_are;
    } in
    let objects : HaveObjects u b rows (at.before ++ at.row ∷ at.after) (with_rows name others db) =
    objects_changed u a b rows name at.before at.row at.after entry.table others old.stands.trees db tables l.before l.after at.unlike at.is_table at.agrees at.table shut changed st.entries in
    let have : HaveObjects (usable_in f.header) b rows rows (with_rows name others db) =
    subst (λ (n : ℕ). HaveObjects n b rows rows (with_rows name others db)) (sym f_used)
    (subst (λ (rs : List SchemaRow). HaveObjects u b rows rs (with_rows name others db)) (sym at.rows_are) objects) in
    let now = served (number_in b) b (with_rows name others db) old.stands.height rows f tree rows_are old.stands.named have in
    let now_header : now.header ≡ frame.header = one_header (take 100 (b 1)) now.header frame.header now.front.legal frame.front.legal in
    let now_used : usable_in now.header ≡ u = ap usable_in now_header ∙ frame.used ∙ l.used in
    let same_rows : now.stands.rows ≡ rows = one_schema (number_in b) b (with_rows name others db) now old.stands.height rows
    (subst (λ (n : ℕ). IsTableTree n b old.stands.height 1) (sym now_used) schema.0.3)
    (ap (λ (n : ℕ). schema_of (tree_rows n b old.stands.height 1)) now_used ∙ shown) in
    record {
      since = record {
        served = now;
        usable = now_used ∙ sym sv.used;
        catalog = ap (λ (rs : List SchemaRow). catalog_of (is_index_page b) rs) same_rows ∙ catalog_alike (is_index_page a) (is_index_page b) rows all_sorts ∙ sv.since.catalog;
        trunks = l.trunks ∙ sv.since.trunks;
      };
      size = ap (λ (h : Header). h.page_size) now_header ∙ frame.size;
      used = sv.used ∙ sym l.used;
      ready = shifts.ready;
    }

pub changes : {P : Type 0} (g : Ghosts P) → ((s : P) → g.limit s * g.size s ≤ 2 ^ 30) → ListsStand g → ChangesTable g
changes g bounded lists opening s pages db name entry sv found free =
    let a = sight g s pages in
    let rows = sv.since.served.stands.rows in
    let st = setup g lists opening s pages db name entry sv found free in
    let at = st.at in
    let shut : is_some entry.table.closed ≡ false = ap (λ (o : Option Closed). is_some o) free in
    let own = own_rows (g.used s) a rows name at.before at.row at.after entry.table sv.since.served.stands.trees db at.unlike at.is_table at.agrees at.table shut st.entries in
    let tree = st.picked.tree in
    let here = has_root (g.used s) (g.used s) a entry.root (root_of at.row.rootpage) tree refl at.root st.picked.grown.0 in
    record {
      tree = tree;
      rows = own.rows;
      has = record { sort = st.sort; grown = st.picked.grown; rows_are = own_is (g.used s) a (root_of at.row.rootpage) entry.table own.tree tree own.rows own.has here st.sort own.rows_are };
      named = own.named;
      held = held_left g s pages (pages_of_tree (g.used s) a tree) (flat_map (pages_of_tree (g.used s) a) st.picked.others) st.picked.forest.held;
      later = later g opening s pages db name entry sv st;
      again = λ new other allocs others shifts has. again g bounded lists opening s pages db name entry sv free st new other allocs others shifts has;
    }

pub one_tree : RootHasOne
one_tree usable pages root a b x y = same_tree usable pages root.page a b x.0 y.0
