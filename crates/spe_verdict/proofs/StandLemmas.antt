-- No mark is broken exactly where the pages stand for a database.
use Rattle.std.proofs.Common.{◌≡◌, ◌≢◌, ℕ, ◌+◌, ◌-◌, ◌<◌, ◌≤◌, List, [], ◌++◌, length, map, refl, sym, ap, subst, ◌∙◌, arith, true, Some, ⊎_elim, length-append}
use Rattle.std.specs.List.{flat_map}
use Rattle.spe_model.specs.Database.{Database}
use Rattle.spe_model.specs.Paging.{Paging}
use Rattle.spe_model.specs.Schema.{SchemaRow, have_own_names, schema_of}
use Rattle.spe_model.specs.Standing.{AreEntries, IsOneOf, StandsFor, all_pages, pages_of_some}
use Rattle.spe_model.specs.Tree.{IsTree, tree_rows}
use Rattle.spe_model.specs.Verdict.{all_marks, free_marks, object_marks, placed_rows, schema_marks, schema_rows, tree_levels}
use Rattle.spe_model.specs.Walk.{Mark, first_broken, levels_at_leaf, table_marks, walk_rows}
use Rattle.spe_verdict.specs.Law.{AreUnbroken, StandingAreUnbroken, UnbrokenStand}
use Rattle.spe_verdict.proofs.ClimbLemmas.{Climbs, climbs_tree}
use Rattle.spe_verdict.proofs.FreeLemmas.{FreeFound, free_complete, free_sound}
use Rattle.spe_verdict.proofs.MarkLemmas.{AreFresh, AreKept, kept-append, kept_parts, named, named-append, none_broken, unbroken}
use Rattle.spe_verdict.proofs.ObjectLemmas.{levels_are, objects_found, objects_sound, stood}
use Rattle.spe_verdict.proofs.SchemaLemmas.{schema_complete, schema_found, schema_names, schema_placed}
use Rattle.spe_verdict.proofs.ShapeLemmas.{leaves_of_tree, placeless, walked_rows}
use Rattle.spe_verdict.proofs.TableLemmas.{NamesNone, table_complete, table_levels, table_named, table_own, table_sound}
use Rattle.spe_verdict.proofs.TimesLemmas.{AreSingle, HoldsOf, all_from_holds, distinct_from_single, holds_from_all, length_within, same_or_not, single_from_distinct, times, times-append}

-- the highest bound of a rank
abbrev pub top : ℕ
top = 18446744073709551616

-- the marks of the schema's tree
abbrev pub schema_tree : (usable : ℕ) → Paging → List Mark
schema_tree usable pages = table_marks (schema_marks (schema_rows usable pages)) usable pages (levels_at_leaf usable pages tree_levels 1) tree_levels 0 top 1 1

abbrev pub object_trees : (usable : ℕ) → Paging → List Mark
object_trees usable pages = flat_map (object_marks usable pages) (placed_rows usable pages)

all_are : (usable count : ℕ) (pages : Paging) → all_marks usable count pages ≡ schema_tree usable pages ++ object_trees usable pages ++ free_marks usable count pages
unfolding all_marks
all_are usable count pages = refl

schema_none : (rows : List SchemaRow) → NamesNone (schema_marks rows)
schema_none rows leaf rowid payload = refl

-- three lists after one another
three : (n : ℕ) (xs ys zs : List ℕ) → times n (xs ++ ys ++ zs) ≡ times n xs + times n ys + times n zs
three n xs ys zs = times-append n (xs ++ ys) zs ∙ ap (λ (k : ℕ). k + times n zs) (times-append n xs ys)

three_named : (n : ℕ) (a b c : List Mark) → times n (named (a ++ b ++ c)) ≡ times n (named a) + times n (named b) + times n (named c)
three_named n a b c =
    ap (times n) (named-append (a ++ b) c ∙ ap (λ (ps : List ℕ). ps ++ named c) (named-append a b)) ∙ three n (named a) (named b) (named c)

fresh_single : (count : ℕ) (pages : List ℕ) → AreFresh count [] pages → AreSingle pages
fresh_single count pages fresh n = ⊎_elim
    (λ (none : times n pages ≡ 0). omega arith)
    (λ (some : times n pages ≢ 0). let at = fresh n (omega arith) in let once = at.1 in omega arith)
    (same_or_not (times n pages) 0)

fresh_holds : (count : ℕ) (pages : List ℕ) → AreFresh count [] pages → HoldsOf (IsOneOf count) pages
fresh_holds count pages fresh n some = (fresh n some).0

fresh_from : (count : ℕ) (pages : List ℕ) → AreSingle pages → HoldsOf (IsOneOf count) pages → AreFresh count [] pages
fresh_from count pages single holds n some = (holds n some, (let once = single n in omega arith))

same_single : (xs ys : List ℕ) → ((n : ℕ) → times n xs ≡ times n ys) → AreSingle xs → AreSingle ys
same_single xs ys same single n = let at = same n in let once = single n in omega arith

same_holds : (P : ℕ → Type 0) (xs ys : List ℕ) → ((n : ℕ) → times n xs ≡ times n ys) → HoldsOf P xs → HoldsOf P ys
same_holds P xs ys same holds n some = let at = same n in holds n (omega arith)

-- what kept marks say of the schema
pub record HasSchema (usable : ℕ) (pages : Paging) : Type 0 where
  pub height : ℕ
  pub few : height < 20
  pub tree : IsTree usable pages height 0 top 1
  pub rows_are : schema_of (tree_rows usable pages height 1) ≡ Some (schema_rows usable pages)
  pub own : have_own_names (schema_rows usable pages) ≡ true
  pub names : named (schema_tree usable pages) ≡ all_pages usable pages height 1

schema_sound : (usable : ℕ) (pages : Paging) → 5 ≤ usable → AreKept (schema_tree usable pages) → HasSchema usable pages
schema_sound usable pages wide kept =
    let stand = levels_at_leaf usable pages tree_levels 1 in
    let rows = schema_rows usable pages in
    let own = schema_marks rows in
    let found = walk_rows usable pages tree_levels 1 in
    let levels = table_levels own usable pages stand tree_levels 0 top 1 1 kept in
    let low = levels.0 in
    let high = levels.1 in
    let twenty = levels_are in
    let height = tree_levels - stand in
    let at : tree_levels ≡ height + stand = omega arith in
    let tree = table_sound own usable pages stand tree_levels height 0 top 1 1 wide low at (omega arith) kept in
    let walked = walked_rows usable pages tree_levels height stand 1 low at (leaves_of_tree usable pages height 0 top 1 tree) in
    let own_kept = table_own own usable pages stand tree_levels 0 top 1 1 kept in
    let climbs = climbs_tree usable pages height 0 top 1 tree in
    record {
      height = height;
      few = omega arith;
      tree = tree;
      rows_are = ap schema_of (sym walked) ∙ schema_found rows found own_kept;
      own = schema_names rows [] found 0 top (subst (Climbs 0 top) (sym walked) climbs) tt refl refl own_kept;
      names = table_named own usable pages stand tree_levels height 0 top 1 1 wide low at (schema_none rows) tree;
    }

-- the marks are kept, and name each page once and as one of the file
pub record HasMarks (usable count : ℕ) (pages : Paging) : Type 0 where
  pub schema : AreKept (schema_tree usable pages)
  pub objects : AreKept (object_trees usable pages)
  pub free : AreKept (free_marks usable count pages)
  pub fresh : AreFresh count [] (named (schema_tree usable pages ++ object_trees usable pages ++ free_marks usable count pages))

marks_sound : (usable count : ℕ) (pages : Paging) → AreUnbroken usable count pages → HasMarks usable count pages
marks_sound usable count pages none =
    let a = schema_tree usable pages in
    let b = object_trees usable pages in
    let c = free_marks usable count pages in
    let found = unbroken count [] (a ++ b ++ c) (ap (first_broken count []) (sym (all_are usable count pages)) ∙ none) in
    let parts = kept_parts (a ++ b) c found.kept in
    let firsts = kept_parts a b parts.0 in
    record { schema = firsts.0; objects = firsts.1; free = parts.1; fresh = found.fresh }

marks_complete : (usable count : ℕ) (pages : Paging) → HasMarks usable count pages → AreUnbroken usable count pages
marks_complete usable count pages has =
    let a = schema_tree usable pages in
    let b = object_trees usable pages in
    let c = free_marks usable count pages in
    ap (first_broken count []) (all_are usable count pages)
    ∙ none_broken count [] (a ++ b ++ c) (kept-append (a ++ b) c (kept-append a b has.schema has.objects) has.free) has.fresh

length_last : (xs ys zs : List ℕ) → length zs ≤ length (xs ++ ys ++ zs)
length_last xs ys zs = let all = length-append (xs ++ ys) zs in omega arith

named_last : (a b c : List Mark) → length (named c) ≤ length (named (a ++ b ++ c))
named_last a b c =
    let all = ap (λ (ps : List ℕ). length ps) (named-append (a ++ b) c) in
    let both = length-append (named (a ++ b)) (named c) in
    omega arith

pub sound : UnbrokenStand
sound usable count pages least none =
    let wide : 5 ≤ usable = omega arith in
    let marks = marks_sound usable count pages none in
    let a = schema_tree usable pages in
    let b = object_trees usable pages in
    let c = free_marks usable count pages in
    let all = named (a ++ b ++ c) in
    let single = fresh_single count all marks.fresh in
    let holds = fresh_holds count all marks.fresh in
    let few : length (named (free_marks usable count pages)) ≤ count =
    let most = length_within count all single holds in let last = named_last a b c in omega arith in
    let schema = schema_sound usable pages wide marks.schema in
    let objects = objects_sound usable pages (placed_rows usable pages) wide marks.objects in
    let free = free_sound usable count pages marks.free
    (λ n some. (holds n (let split = three_named n a b c in omega arith)).0) few in
    let objects_are = objects_found usable pages (placed_rows usable pages) objects.trees objects.db wide objects.entries in
    let met = all_pages usable pages schema.height 1 ++ flat_map (pages_of_some usable pages) objects.trees ++ free.listed in
    let same : (n : ℕ) → times n all ≡ times n met = λ n.
    three_named n a b c
    ∙ rw (ap (times n) schema.names, objects_are.names n, ap (times n) free.names)
    (sym (three n (all_pages usable pages schema.height 1) (flat_map (pages_of_some usable pages) objects.trees) free.listed)) in (
      objects.db,
      record {
        height = schema.height;
        schema = (schema.few, schema.tree);
        rows = schema_rows usable pages;
        rows_are = schema.rows_are;
        named = schema.own;
        trees = objects.trees;
        entries = objects.entries;
        lists = free.lists;
        listed = free.listed;
        free = free.free;
        distinct = distinct_from_single met (same_single all met same single);
        within = all_from_holds (IsOneOf count) met (same_holds (IsOneOf count) all met same holds);
      },
    )

pub standing_rows : (usable count : ℕ) (pages : Paging) (db : Database) → (standing : StandsFor usable count pages db) → schema_rows usable pages ≡ standing.rows
standing_rows usable count pages db standing =
    let height = standing.height in
    let leaves = leaves_of_tree usable pages height 0 top 1 standing.schema.1 in
    let at = stood usable pages height 1 standing.schema.0 leaves in
    let walked = walked_rows usable pages tree_levels height (levels_at_leaf usable pages tree_levels 1) 1 at.some at.at leaves in
    schema_placed (walk_rows usable pages tree_levels 1) standing.rows (ap schema_of walked ∙ standing.rows_are)

pub standing_entries : (usable count : ℕ) (pages : Paging) (db : Database) → (standing : StandsFor usable count pages db)
    → AreEntries usable pages (schema_rows usable pages) (schema_rows usable pages) standing.trees db
standing_entries usable count pages db standing =
    subst (λ (rs : List SchemaRow). AreEntries usable pages rs rs standing.trees db) (sym (standing_rows usable count pages db standing)) standing.entries

-- the pages that standing pages are
abbrev pub met_in : (usable count : ℕ) (pages : Paging) (db : Database) → StandsFor usable count pages db → List ℕ
met_in usable count pages db standing = all_pages usable pages standing.height 1 ++ flat_map (pages_of_some usable pages) standing.trees ++ standing.listed

pub standing_free : (usable count : ℕ) (pages : Paging) (db : Database) → (standing : StandsFor usable count pages db)
    → FreeFound usable count pages standing.lists standing.listed
standing_free usable count pages db standing =
    let met = met_in usable count pages db standing in
    let most = length_within count met (single_from_distinct met standing.distinct) (holds_from_all (IsOneOf count) met standing.within) in
    let last = length_last (all_pages usable pages standing.height 1) (flat_map (pages_of_some usable pages) standing.trees) standing.listed in
    free_complete usable count pages standing.lists standing.listed standing.free (omega arith)

schema_complete_marks : (usable count : ℕ) (pages : Paging) (db : Database) → 5 ≤ usable → (standing : StandsFor usable count pages db)
    → AreKept (schema_tree usable pages) × (named (schema_tree usable pages) ≡ all_pages usable pages standing.height 1)
schema_complete_marks usable count pages db wide standing =
    let height = standing.height in
    let tree = standing.schema.1 in
    let leaves = leaves_of_tree usable pages height 0 top 1 tree in
    let at = stood usable pages height 1 standing.schema.0 leaves in
    let stand = levels_at_leaf usable pages tree_levels 1 in
    let walked = walked_rows usable pages tree_levels height stand 1 at.some at.at leaves in
    let found = walk_rows usable pages tree_levels 1 in
    let is : schema_of (map placeless (walk_rows usable pages tree_levels 1)) ≡ Some standing.rows = ap schema_of walked ∙ standing.rows_are in
    let rows = standing_rows usable count pages db standing in
    let own : have_own_names (schema_rows usable pages) ≡ true = ap have_own_names rows ∙ standing.named in
    let climbs = subst (Climbs 0 top) (sym walked) (climbs_tree usable pages height 0 top 1 tree) in
    let own_kept = schema_complete (schema_rows usable pages) [] found standing.rows 0 top climbs tt rows is own in
    let marks = schema_marks (schema_rows usable pages) in (
      table_complete marks usable pages stand tree_levels height 0 top 1 1 at.some at.at tree own_kept,
      table_named marks usable pages stand tree_levels height 0 top 1 1 wide at.some at.at (schema_none (schema_rows usable pages)) tree,
    )

pub complete : StandingAreUnbroken
complete usable count pages db least standing =
    let wide : 5 ≤ usable = omega arith in
    let schema = schema_complete_marks usable count pages db wide standing in
    let objects = objects_found usable pages (placed_rows usable pages) standing.trees db wide (standing_entries usable count pages db standing) in
    let free = standing_free usable count pages db standing in
    let met = met_in usable count pages db standing in
    let single = single_from_distinct met standing.distinct in
    let holds = holds_from_all (IsOneOf count) met standing.within in
    let a = schema_tree usable pages in
    let b = object_trees usable pages in
    let c = free_marks usable count pages in
    let all = named (a ++ b ++ c) in
    let same : (n : ℕ) → times n met ≡ times n all = λ n.
    sym (three_named n a b c
    ∙ rw (ap (times n) schema.1, objects.names n, ap (times n) free.names)
    (sym (three n (all_pages usable pages standing.height 1) (flat_map (pages_of_some usable pages) standing.trees) standing.listed))) in
    marks_complete usable count pages (record {
      schema = schema.0;
      objects = objects.kept;
      free = free.kept;
      fresh = fresh_from count all (same_single met all same single) (same_holds (IsOneOf count) met all same holds);
    })
