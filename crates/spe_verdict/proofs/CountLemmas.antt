-- What a verdict counts.
use Rattle.std.proofs.Common.{◌≡◌, ◌≢◌, ℕ, suc, ℤ, List, [], ◌∷◌, length, map, filter, refl, sym, ap, ◌∙◌, Bool, true, false, Option, Some, None, ⊎_elim}
use Rattle.std.specs.Prelude.{◌==◌, not, is_some, find, sum}
use Rattle.std.proofs.lemmas.Bool.{and_parts, and_right, cases_Bool, eq-eqb, not-true}
use Rattle.std.proofs.lemmas.List.{length-map}
use Rattle.spe_model.specs.declared.table.Closed.{Closed}
use Rattle.spe_model.specs.declared.table.Closed.TheVariants.{Reserved, Definition}
use Rattle.spe_model.specs.declared.table.TableDef.{TableDef}
use Rattle.spe_model.specs.declared.verdict.Verdict.TheVariants as verdicts
use Rattle.spe_model.specs.Database.{Database, Object, Other, Row, Table}
use Rattle.spe_model.specs.Paging.{Paging}
use Rattle.spe_model.specs.Schema.{SchemaRow, declaration_in, is_closed_by, is_declared, is_index_page, is_rooted, is_table_row, reasons, root_of}
use Rattle.spe_model.specs.Standing.{AreEntries, AreTableRows, HasTree, IsObjectOf, IsTreeOf, Tree, stored_rows}
use Rattle.spe_model.specs.Verdict.{all_marks, is_open, open_rows, schema_rows, table_in, tree_levels, verdict_of, verdict_with}
use Rattle.spe_model.specs.Walk.{first_broken, levels_at_leaf, walk_rows}
use Rattle.spe_verdict.specs.Law.{VerdictCounts, free_in, is_table, rows_in_object, rows_in_tables, tables_in}
use Rattle.spe_verdict.proofs.ObjectLemmas.{stood}
use Rattle.spe_verdict.proofs.RowLemmas.{rows_are, shown_row}
use Rattle.spe_verdict.proofs.ShapeLemmas.{leaves_of_tree, placeless, walked_rows}
use Rattle.spe_verdict.proofs.StandLemmas.{complete, standing_entries, standing_free, top}

sort_of : (usable : ℕ) (pages : Paging) (rows : List SchemaRow) (row : SchemaRow) (stored : List (ℤ × List ℕ)) (rowid : ℤ) (object : Object)
    → IsObjectOf usable pages rows row stored object → is_table (rowid, object) ≡ is_table_row row
sort_of usable pages rows row stored rowid (Table table found) is = sym is.0
sort_of usable pages rows row stored rowid (Other kind name on) is = sym is.0

pub tables_count : (usable : ℕ) (pages : Paging) (all rows : List SchemaRow) (trees : List (Option Tree)) (db : Database)
    → AreEntries usable pages all rows trees db → tables_in db ≡ length (filter is_table_row rows)
tables_count usable pages all [] [] [] are = refl
tables_count usable pages all [] [] (o ∷ os) are = absurd are
tables_count usable pages all [] (t ∷ ts) db are = absurd are
tables_count usable pages all (r ∷ rs) [] db are = absurd are
tables_count usable pages all (r ∷ rs) (t ∷ ts) [] are = absurd are
tables_count usable pages all (r ∷ rs) (t ∷ ts) (o ∷ os) are =
    let rest = tables_count usable pages all rs ts os are.1 in
    let sort : is_table o ≡ is_table_row r = sort_of usable pages all r (stored_rows usable pages t) o.0 o.1 are.0.object in
    ⊎_elim
    (λ (is : is_table_row r ≡ true). let mine : is_table o ≡ true = sort ∙ is in rw (is, mine) (ap (λ (n : ℕ). suc n) rest))
    (λ (is : is_table_row r ≡ false). let mine : is_table o ≡ false = sort ∙ is in rw (is, mine) rest)
    (cases_Bool (is_table_row r))

-- the second reason is found where it holds
find_second : (holds : Closed → Bool) → holds Definition ≡ true → is_some (find holds reasons) ≡ true
find_second holds second = ⊎_elim
    (λ (first : holds Reserved ≡ true). rw first refl)
    (λ (first : holds Reserved ≡ false). rw (first, second) refl)
    (cases_Bool (holds Reserved))

unrooted_closed : (is_index : ℕ → Bool) (rows : List SchemaRow) (row : SchemaRow) → is_rooted is_index row.rootpage ≡ false → is_closed_by is_index rows row Definition ≡ true
unfolding is_closed_by
unrooted_closed is_index rows row none = ap not (and_right (is_declared (declaration_in row)) (is_rooted is_index row.rootpage) none)

-- an open table has a root, which is no page of an index
rooted : (usable : ℕ) (pages : Paging) (row : SchemaRow) → is_some (table_in usable pages row).closed ≡ false → is_rooted (is_index_page pages) row.rootpage ≡ true
rooted usable pages row free = ⊎_elim
    (λ (is : is_rooted (is_index_page pages) row.rootpage ≡ true). is)
    (λ (none : is_rooted (is_index_page pages) row.rootpage ≡ false).
    let shut : is_some (table_in usable pages row).closed ≡ true =
    find_second (is_closed_by (is_index_page pages) (schema_rows usable pages) row) (unrooted_closed (is_index_page pages) (schema_rows usable pages) row none) in
    let both : true ≡ false = sym shut ∙ free in
    absurd cc)
    (cases_Bool (is_rooted (is_index_page pages) row.rootpage))

walked_at : (usable : ℕ) (pages : Paging) (table : Bool) (height root : ℕ) → table ≡ true → IsTreeOf usable pages (record { table = table; height = height; root = root })
    → length (walk_rows usable pages tree_levels root) ≡ length (stored_rows usable pages (Some (record { table = table; height = height; root = root })))
walked_at usable pages false height root is tree = absurd cc
walked_at usable pages true height root is tree =
    let leaves = leaves_of_tree usable pages height 0 top root tree.1 in
    let at = stood usable pages height root tree.0 leaves in
    sym (length-map (walk_rows usable pages tree_levels root) placeless)
    ∙ ap (λ (rs : List (ℤ × List ℕ)). length rs) (walked_rows usable pages tree_levels height (levels_at_leaf usable pages tree_levels root) root at.some at.at leaves)

walked_count : (usable : ℕ) (pages : Paging) (root : ℕ) (grown : Option Tree) → HasTree usable pages root grown → root ≢ 0 → is_index_page pages root ≡ false
    → length (walk_rows usable pages tree_levels root) ≡ length (stored_rows usable pages grown)
walked_count usable pages root None has some sort = absurd (some has)
walked_count usable pages root (Some tree) has some sort =
    ap (λ (r : ℕ). length (walk_rows usable pages tree_levels r)) (sym has.1)
    ∙ walked_at usable pages tree.table tree.height tree.root (has.2 ∙ ap not sort) has.3

shut_rows : (usable : ℕ) (pages : Paging) (row : SchemaRow) → is_open usable pages row ≡ false → open_rows usable pages row ≡ 0
shut_rows usable pages row shut = rw shut refl

object_rows : (usable : ℕ) (pages : Paging) (row : SchemaRow) (grown : Option Tree) (rowid : ℤ) (object : Object) → HasTree usable pages (root_of row.rootpage) grown
    → IsObjectOf usable pages (schema_rows usable pages) row (stored_rows usable pages grown) object → rows_in_object (rowid, object) ≡ open_rows usable pages row
object_rows usable pages row grown rowid (Other kind name on) has is =
    let shut : is_open usable pages row ≡ false = rw is.0 refl in
    sym (shut_rows usable pages row shut)
object_rows usable pages row grown rowid (Table table found) has is = ⊎_elim
    (λ (closed : is_some table.closed ≡ true).
    let mine : is_some (table_in usable pages row).closed ≡ true = sym (ap (λ (t : TableDef). is_some t.closed) is.1) ∙ closed in
    let none : found ≡ [] = rw closed at is.2 in
    let shut : is_open usable pages row ≡ false = rw (is.0, mine) refl in
    ap (λ (rs : List Row). length rs) none ∙ sym (shut_rows usable pages row shut))
    (λ (free : is_some table.closed ≡ false).
    let mine : is_some (table_in usable pages row).closed ≡ false = sym (ap (λ (t : TableDef). is_some t.closed) is.1) ∙ free in
    let are : AreTableRows table (stored_rows usable pages grown) found = rw free at is.2 in
    let unshut : is_open usable pages row ≡ true = rw (is.0, mine) refl in
    let parts = and_parts (not (root_of row.rootpage == 0)) (not (is_index_page pages (root_of row.rootpage))) (rooted usable pages row mine) in
    let some : root_of row.rootpage ≢ 0 = λ (e : root_of row.rootpage ≡ 0).
    let both : true ≡ false = sym (eq-eqb (root_of row.rootpage) 0 e) ∙ not-true (root_of row.rootpage == 0) parts.0 in absurd cc in
    let walked = walked_count usable pages (root_of row.rootpage) grown has some (not-true (is_index_page pages (root_of row.rootpage)) parts.1) in
    let all : open_rows usable pages row ≡ length (walk_rows usable pages tree_levels (root_of row.rootpage)) = rw unshut refl in
    ap (λ (rs : List Row). length rs) (rows_are table (stored_rows usable pages grown) found are)
    ∙ length-map (stored_rows usable pages grown) (shown_row table) ∙ sym walked ∙ sym all)
    (cases_Bool (is_some table.closed))

same_front : (a b : ℕ) (xs ys : List ℕ) → a ≡ b → xs ≡ ys → a ∷ xs ≡ b ∷ ys
same_front a b xs ys first rest = cc

rows_count : (usable : ℕ) (pages : Paging) (rows : List SchemaRow) (trees : List (Option Tree)) (db : Database)
    → AreEntries usable pages (schema_rows usable pages) rows trees db → map rows_in_object db ≡ map (open_rows usable pages) rows
rows_count usable pages [] [] [] are = refl
rows_count usable pages [] [] (o ∷ os) are = absurd are
rows_count usable pages [] (t ∷ ts) db are = absurd are
rows_count usable pages (r ∷ rs) [] db are = absurd are
rows_count usable pages (r ∷ rs) (t ∷ ts) [] are = absurd are
rows_count usable pages (r ∷ rs) (t ∷ ts) (o ∷ os) are =
    let first : rows_in_object o ≡ open_rows usable pages r = object_rows usable pages r t o.0 o.1 are.0.tree are.0.object in
    let rest = rows_count usable pages rs ts os are.1 in
    same_front (rows_in_object o) (open_rows usable pages r) (map rows_in_object os) (map (open_rows usable pages) rs) first rest

verdict_none : (usable count : ℕ) (pages : Paging) → first_broken count [] (all_marks usable count pages) ≡ None → verdict_of usable count pages ≡ verdict_with usable count pages None
unfolding verdict_of
verdict_none usable count pages none = ap (verdict_with usable count pages) none

same_counts : (t r f u s g : ℕ) → t ≡ u → r ≡ s → f ≡ g → verdicts.Stands t r f ≡ verdicts.Stands u s g
same_counts t r f u s g tables rows free = cc

pub counts : VerdictCounts
counts usable count pages db least standing =
    let none = complete usable count pages db least standing in
    let entries = standing_entries usable count pages db standing in
    let tables = tables_count usable pages (schema_rows usable pages) (schema_rows usable pages) standing.trees db entries in
    let rows = ap sum (rows_count usable pages (schema_rows usable pages) standing.trees db entries) in
    let free = ap (λ (ps : List ℕ). length ps) (standing_free usable count pages db standing).pages_are in
    verdict_none usable count pages none ∙ sym (same_counts (tables_in db) (rows_in_tables db) (free_in pages standing.lists) _ _ _ tables rows (sym free))
