-- Marks of the objects that rows of the schema name, each with its tree.
use Rattle.std.proofs.Common.{◌≡◌, ◌≢◌, ℕ, ℤ, ◌+◌, ◌-◌, ◌<◌, ◌≤◌, List, [], ◌∷◌, refl, sym, ap, subst, ◌∙◌, arith, Bool, true, false, Option, Some, None, ⊎_elim}
use Rattle.std.specs.Prelude.{◌==◌, not, length}
use Rattle.std.specs.List.{flat_map}
use Rattle.std.proofs.lemmas.Bool.{cases_Bool, eq-eqb, eqb-true, eqb-false, ne_eqb, not-false, not-true, not_from_true, not_from_false}
use Rattle.spe_model.specs.Database.{Database, Object}
use Rattle.spe_model.specs.Paging.{Paging}
use Rattle.spe_model.specs.Schema.{SchemaRow, is_index_page, root_of}
use Rattle.spe_model.specs.Standing.{AreEntries, HasTree, IsEntry, IsIndexTree, IsTreeOf, Tree, all_pages, pages_of_some, stored_rows}
use Rattle.spe_model.specs.Tree.{IsTree}
use Rattle.spe_model.specs.Verdict.{is_open, object_marks, own_marks, root_marks, schema_rows, table_in, tree_levels}
use Rattle.spe_model.specs.Walk.{index_marks, levels_at_leaf, table_marks, walk_rows}
use Rattle.spe_verdict.proofs.IndexLemmas.{index_complete, index_levels, index_named, index_sound}
use Rattle.spe_verdict.proofs.MarkLemmas.{AreKept, kept-append, kept_parts, named, named-append}
use Rattle.spe_verdict.proofs.RowLemmas.{FitAll, fit_of_object, fit_own, object_of, own_fit, own_none}
use Rattle.spe_verdict.proofs.SchemaLemmas.{rows_in}
use Rattle.spe_verdict.proofs.ShapeLemmas.{HasLeaves, leaves_of_index, leaves_of_tree, levels_left, walked_rows}
use Rattle.spe_verdict.proofs.TableLemmas.{table_complete, table_levels, table_named, table_own, table_sound}
use Rattle.spe_verdict.proofs.TimesLemmas.{times, times-append}

pub levels_are : tree_levels ≡ 20
unfolding tree_levels
levels_are = refl

-- where the leaves of a tree stand
pub record Stood (usable : ℕ) (pages : Paging) (height page : ℕ) : Type 0 where
  pub some : 0 < levels_at_leaf usable pages tree_levels page
  pub at : tree_levels ≡ height + levels_at_leaf usable pages tree_levels page

pub stood : (usable : ℕ) (pages : Paging) (height page : ℕ) → height < 20 → HasLeaves usable pages height page → Stood usable pages height page
stood usable pages height page few has =
    let twenty = levels_are in
    let is = levels_left usable pages tree_levels height (tree_levels - height) page (omega arith) (omega arith) has in
    record { some = omega arith; at = omega arith }

-- the rows of an open table that are stored under a root fit
abbrev pub Fits : (usable : ℕ) → Paging → SchemaRow → Option Tree → Type 0
Fits usable pages row grown = is_open usable pages row ≡ true → FitAll (length (table_in usable pages row).columns) (stored_rows usable pages grown)

-- a tree under a root, whose rows fit
pub record HasRoot (usable : ℕ) (pages : Paging) (row : SchemaRow) (root : ℕ) : Type 0 where
  pub tree : Tree
  pub has : HasTree usable pages root (Some tree)
  pub fits : Fits usable pages row (Some tree)

index_root : (usable : ℕ) (pages : Paging) (leaf : ℕ) (row : SchemaRow) (root : ℕ)
    → 5 ≤ usable → root ≢ 0 → is_index_page pages root ≡ true
    → AreKept (index_marks usable pages (levels_at_leaf usable pages tree_levels root) tree_levels leaf root) → HasRoot usable pages row root
index_root usable pages leaf row root wide some is kept =
    let stand = levels_at_leaf usable pages tree_levels root in
    let levels = index_levels usable pages stand tree_levels leaf root kept in
    let low = levels.0 in
    let high = levels.1 in
    let twenty = levels_are in
    let height = tree_levels - stand in
    let tree = index_sound usable pages stand tree_levels height leaf root wide low (omega arith) kept in
    record {
      tree = record { table = false; height = height; root = root };
      has = (some, refl, sym (not_from_true (is_index_page pages root) is), (omega arith, tree));
      fits = λ _. tt;
    }

table_root : (usable : ℕ) (pages : Paging) (leaf : ℕ) (row : SchemaRow) (root : ℕ)
    → 5 ≤ usable → root ≢ 0 → is_index_page pages root ≡ false
    → AreKept (table_marks (own_marks usable pages row) usable pages (levels_at_leaf usable pages tree_levels root) tree_levels 0 18446744073709551616 leaf root)
    → HasRoot usable pages row root
table_root usable pages leaf row root wide some is kept =
    let stand = levels_at_leaf usable pages tree_levels root in
    let own = own_marks usable pages row in
    let levels = table_levels own usable pages stand tree_levels 0 18446744073709551616 leaf root kept in
    let low = levels.0 in
    let high = levels.1 in
    let twenty = levels_are in
    let height = tree_levels - stand in
    let at : tree_levels ≡ height + stand = omega arith in
    let tree = table_sound own usable pages stand tree_levels height 0 18446744073709551616 leaf root wide low at (omega arith) kept in
    let rows = walked_rows usable pages tree_levels height stand root low at (leaves_of_tree usable pages height 0 18446744073709551616 root tree) in
    let own_rows = table_own own usable pages stand tree_levels 0 18446744073709551616 leaf root kept in
    record {
      tree = record { table = true; height = height; root = root };
      has = (some, refl, sym (not_from_false (is_index_page pages root) is), (omega arith, tree));
      fits = λ free. subst (FitAll (length (table_in usable pages row).columns)) rows (own_fit usable pages row (walk_rows usable pages tree_levels root) free own_rows);
    }

root_sound : (usable : ℕ) (pages : Paging) (leaf : ℕ) (row : SchemaRow) (root : ℕ)
    → 5 ≤ usable → root ≢ 0 → AreKept (root_marks usable pages leaf row root) → HasRoot usable pages row root
root_sound usable pages leaf row root wide some kept = ⊎_elim
    (λ (is : is_index_page pages root ≡ true). index_root usable pages leaf row root wide some is (rw is at kept))
    (λ (is : is_index_page pages root ≡ false). table_root usable pages leaf row root wide some is (rw is at kept))
    (cases_Bool (is_index_page pages root))

-- what the marks of a tree say, where it is there
pub record RootFound (usable : ℕ) (pages : Paging) (leaf : ℕ) (row : SchemaRow) (root : ℕ) (tree : Tree) : Type 0 where
  pub kept : Fits usable pages row (Some tree) → AreKept (root_marks usable pages leaf row root)
  pub names : (n : ℕ) → times n (named (root_marks usable pages leaf row root)) ≡ times n (all_pages usable pages tree.height root)

index_found : (usable : ℕ) (pages : Paging) (leaf : ℕ) (row : SchemaRow) (root height : ℕ) → is_index_page pages root ≡ true
    → height < 20 → IsIndexTree usable pages height root → RootFound usable pages leaf row root (record { table = false; height = height; root = root })
index_found usable pages leaf row root height is few tree =
    let stand = levels_at_leaf usable pages tree_levels root in
    let at = stood usable pages height root few (leaves_of_index usable pages height root tree) in
    record {
      kept = λ fits. rw is (index_complete usable pages stand tree_levels height leaf root at.some at.at tree);
      names = λ n. rw is (index_named usable pages stand tree_levels height leaf root n at.some at.at tree);
    }

table_found : (usable : ℕ) (pages : Paging) (leaf : ℕ) (row : SchemaRow) (root height : ℕ) → 5 ≤ usable → is_index_page pages root ≡ false
    → height < 20 → IsTree usable pages height 0 18446744073709551616 root
    → RootFound usable pages leaf row root (record { table = true; height = height; root = root })
table_found usable pages leaf row root height wide is few tree =
    let stand = levels_at_leaf usable pages tree_levels root in
    let own = own_marks usable pages row in
    let leaves = leaves_of_tree usable pages height 0 18446744073709551616 root tree in
    let at = stood usable pages height root few leaves in
    let rows = walked_rows usable pages tree_levels height stand root at.some at.at leaves in
    record {
      kept = λ fits. rw is (table_complete own usable pages stand tree_levels height 0 18446744073709551616 leaf root at.some at.at tree
          (fit_own usable pages row (walk_rows usable pages tree_levels root)
          (λ free. subst (FitAll (length (table_in usable pages row).columns)) (sym rows) (fits free))));
      names = λ n. rw is (ap (times n) (table_named own usable pages stand tree_levels height 0 18446744073709551616 leaf root wide at.some at.at (own_none usable pages row) tree));
    }

found_at : (usable : ℕ) (pages : Paging) (leaf : ℕ) (row : SchemaRow) (table : Bool) (height root : ℕ)
    → 5 ≤ usable → table ≡ not (is_index_page pages root) → IsTreeOf usable pages (record { table = table; height = height; root = root })
    → RootFound usable pages leaf row root (record { table = table; height = height; root = root })
found_at usable pages leaf row true height root wide sort tree =
    table_found usable pages leaf row root height wide (not-true (is_index_page pages root) (sym sort)) tree.0 tree.1
found_at usable pages leaf row false height root wide sort tree =
    index_found usable pages leaf row root height (not-false (is_index_page pages root) (sym sort)) tree.0 tree.1

root_found : (usable : ℕ) (pages : Paging) (leaf : ℕ) (row : SchemaRow) (root : ℕ) (tree : Tree)
    → 5 ≤ usable → HasTree usable pages root (Some tree) → RootFound usable pages leaf row root tree
root_found usable pages leaf row root tree wide has =
    subst (λ (r : ℕ). RootFound usable pages leaf row r tree) has.1
    (found_at usable pages leaf row tree.table tree.height tree.root wide
    (subst (λ (r : ℕ). tree.table ≡ not (is_index_page pages r)) (sym has.1) has.2) has.3)

-- the object of a row, with the tree that is its own
pub record HasEntry (usable : ℕ) (pages : Paging) (row : SchemaRow) : Type 0 where
  pub grown : Option Tree
  pub object : Object
  pub entry : IsEntry usable pages (schema_rows usable pages) row grown (row.rowid, object)

entry_of : (usable : ℕ) (pages : Paging) (row : SchemaRow) (grown : Option Tree)
    → HasTree usable pages (root_of row.rootpage) grown → Fits usable pages row grown → HasEntry usable pages row
entry_of usable pages row grown tree fits =
    let object = object_of usable pages row (stored_rows usable pages grown) fits in
    record { grown = grown; object = object.0; entry = record { rowid = refl; tree = tree; object = object.1 } }

object_sound : (usable : ℕ) (pages : Paging) (placed : ℕ × SchemaRow) → 5 ≤ usable → AreKept (object_marks usable pages placed) → HasEntry usable pages placed.1
object_sound usable pages placed wide kept =
    let root = root_of placed.1.rootpage in
    ⊎_elim
    (λ (none : (root_of placed.1.rootpage == 0) ≡ true). entry_of usable pages placed.1 None (eqb-true root 0 none) (λ _. tt))
    (λ (some : (root_of placed.1.rootpage == 0) ≡ false).
    let found = root_sound usable pages placed.0 placed.1 root wide (eqb-false root 0 some) (rw some at kept) in
    entry_of usable pages placed.1 (Some found.tree) found.has found.fits)
    (cases_Bool (root_of placed.1.rootpage == 0))

-- what the marks of an object say, where it has an entry
pub record ObjectFound (usable : ℕ) (pages : Paging) (placed : ℕ × SchemaRow) (grown : Option Tree) : Type 0 where
  pub kept : AreKept (object_marks usable pages placed)
  pub names : (n : ℕ) → times n (named (object_marks usable pages placed)) ≡ times n (pages_of_some usable pages grown)

object_found : (usable : ℕ) (pages : Paging) (placed : ℕ × SchemaRow) (grown : Option Tree) (entry : ℤ × Object)
    → 5 ≤ usable → IsEntry usable pages (schema_rows usable pages) placed.1 grown entry → ObjectFound usable pages placed grown
object_found usable pages placed None entry wide is =
    let none = eq-eqb (root_of placed.1.rootpage) 0 is.tree in
    record { kept = rw none tt; names = λ n. rw none refl }
object_found usable pages placed (Some tree) entry wide is =
    let some = ne_eqb (root_of placed.1.rootpage) 0 is.tree.0 in
    let found = root_found usable pages placed.0 placed.1 (root_of placed.1.rootpage) tree wide is.tree in
    let fits = fit_of_object usable pages placed.1 (stored_rows usable pages (Some tree)) entry.1 is.object in
    record {
      kept = rw some (found.kept fits);
      names = λ n. rw some (found.names n ∙ ap (λ (r : ℕ). times n (all_pages usable pages tree.height r)) (sym is.tree.1));
    }

-- the objects of rows, with their trees
pub record HasEntries (usable : ℕ) (pages : Paging) (rows : List SchemaRow) : Type 0 where
  pub trees : List (Option Tree)
  pub db : Database
  pub entries : AreEntries usable pages (schema_rows usable pages) rows trees db

pub objects_sound : (usable : ℕ) (pages : Paging) (placed : List (ℕ × SchemaRow))
    → 5 ≤ usable → AreKept (flat_map (object_marks usable pages) placed) → HasEntries usable pages (rows_in placed)
objects_sound usable pages [] wide kept = record { trees = []; db = []; entries = tt }
objects_sound usable pages (p ∷ ps) wide kept =
    let parts = kept_parts (object_marks usable pages p) (flat_map (object_marks usable pages) ps) kept in
    let first = object_sound usable pages p wide parts.0 in
    let rest = objects_sound usable pages ps wide parts.1 in
    record { trees = first.grown ∷ rest.trees; db = (p.1.rowid, first.object) ∷ rest.db; entries = (first.entry, rest.entries) }

-- what the marks of objects say, where they have entries
pub record ObjectsFound (usable : ℕ) (pages : Paging) (placed : List (ℕ × SchemaRow)) (trees : List (Option Tree)) : Type 0 where
  pub kept : AreKept (flat_map (object_marks usable pages) placed)
  pub names : (n : ℕ) → times n (named (flat_map (object_marks usable pages) placed)) ≡ times n (flat_map (pages_of_some usable pages) trees)

pub objects_found : (usable : ℕ) (pages : Paging) (placed : List (ℕ × SchemaRow)) (trees : List (Option Tree)) (db : Database)
    → 5 ≤ usable → AreEntries usable pages (schema_rows usable pages) (rows_in placed) trees db → ObjectsFound usable pages placed trees
objects_found usable pages [] [] [] wide are = record { kept = tt; names = λ n. refl }
objects_found usable pages [] [] (o ∷ os) wide are = absurd are
objects_found usable pages [] (t ∷ ts) db wide are = absurd are
objects_found usable pages (p ∷ ps) [] db wide are = absurd are
objects_found usable pages (p ∷ ps) (t ∷ ts) [] wide are = absurd are
objects_found usable pages (p ∷ ps) (t ∷ ts) (o ∷ os) wide are =
    let first = object_found usable pages p t o wide are.0 in
    let rest = objects_found usable pages ps ts os wide are.1 in
    let mine = object_marks usable pages p in
    let others = flat_map (object_marks usable pages) ps in
    record {
      kept = kept-append mine others first.kept rest.kept;
      names = λ n.
          ap (times n) (named-append mine others) ∙ times-append n (named mine) (named others)
          ∙ rw (first.names n, rest.names n) (sym (times-append n (pages_of_some usable pages t) (flat_map (pages_of_some usable pages) ts)));
    }
