-- Pages of which only free ones and the front of page 1 change stand for the same database.
use Rattle.std.proofs.Common.{◌≡◌, ◌≢◌, ◌⊎◌, ℕ, ℤ, zero, suc, ◌+◌, ◌<◌, ◌≤◌, ◌∙◌, List, [], ◌∷◌, ◌++◌, take, refl, sym, ap, subst, arith, true, false, Bool, Option, Some, None, All, ⊎_elim, inl, inr}
use Rattle.std.specs.Prelude.{not, ◌&&◌, ◌==◌, slice_index, find, if◌then◌else◌}
use Rattle.std.specs.List.{flat_map}
use Rattle.spe_model.specs.declared.table.Closed.{Closed}
use Rattle.spe_model.specs.declared.table.Closed.TheVariants.{Reserved, Definition, Indexed, Triggered}
use Rattle.spe_model.specs.declared.table.TableDef.{TableDef}
use Rattle.spe_model.specs.Database.{Database, Object, Table, Other}
use Rattle.spe_model.specs.Kind.{kind_of}
use Rattle.spe_model.specs.Paging.{Paging}
use Rattle.spe_model.specs.Schema.{SchemaRow, alias_in, columns_in, declaration_in, is_closed_by, is_declared, is_index_kind, is_index_page, reasons, root_of, table_of}
use Rattle.spe_model.specs.Standing.{AreDistinct, AreEntries, AreFree, FreeChain, HasTree, IsObjectOf, IsOneOf, IsTreeOf, StandsFor, Tree, all_pages, pages_of_some, pages_of_tree, stored_rows}
use Rattle.spe_model.specs.Tree.{header_end}
use Rattle.spe_frame.specs.Times.{AreSame, AreSingle, HoldsOf, Lacks, times}
use Rattle.spe_frame.proofs.ForestLemmas.{pages_split}
use Rattle.spe_frame.proofs.FrontLemmas.{AreAlike, page_alike, take_alike}
use Rattle.spe_frame.proofs.TimesLemmas.{all_from_holds, distinct_from_single, each_from_holds, here, holds_from_all, single_from_distinct, times-append}
use Rattle.spe_frame.proofs.TreeLemmas.{IsKept, TreeKept, all_pages_kept, index_kept, lower_pages, tree_kept, tree_rows_kept, whole_kept}

-- one table, for two tests of pages that agree on its root
closed_same : (f g : ℕ → Bool) (rows : List SchemaRow) (row : SchemaRow) → f (root_of row.rootpage) ≡ g (root_of row.rootpage) → (reason : Closed)
    → is_closed_by f rows row reason ≡ is_closed_by g rows row reason
unfolding is_closed_by
closed_same f g rows row same Reserved = refl
closed_same f g rows row same Definition =
    ap (λ (b : Bool). not (is_declared (declaration_in row) && (not (root_of row.rootpage == 0) && not b))) same
closed_same f g rows row same Indexed = refl
closed_same f g rows row same Triggered = refl

find_same : {X : Type 0} (f g : X → Bool) → ((x : X) → f x ≡ g x) → (xs : List X) → find f xs ≡ find g xs
find_same f g same [] = refl
find_same {X = X} f g same (x ∷ xs) =
    ap (λ (b : Bool). if b then Some x else find f xs) (same x) ∙ ap (λ (o : Option X). if g x then Some x else o) (find_same f g same xs)

table_same : (f g : ℕ → Bool) (rows : List SchemaRow) (row : SchemaRow) → f (root_of row.rootpage) ≡ g (root_of row.rootpage) → table_of f rows row ≡ table_of g rows row
table_same f g rows row same =
    let table : Option Closed → TableDef = λ closed. record {
      name = row.name;
      columns = columns_in (declaration_in row);
      alias = alias_in (declaration_in row);
      closed = closed;
    } in
    ap table (find_same (is_closed_by f rows row) (is_closed_by g rows row) (closed_same f g rows row same) reasons)

object_kept : (usable : ℕ) (old new : Paging) (rows : List SchemaRow) (row : SchemaRow) (stored stored' : List (ℤ × List ℕ)) (object : Object)
    → is_index_page old (root_of row.rootpage) ≡ is_index_page new (root_of row.rootpage) → stored ≡ stored'
    → IsObjectOf usable old rows row stored object → IsObjectOf usable new rows row stored' object
object_kept usable old new rows row stored stored' (Table table found) sort same is =
    subst (λ (s : List (ℤ × List ℕ)). IsObjectOf usable new rows row s (Table table found)) same
    (is.0, is.1 ∙ table_same (is_index_page old) (is_index_page new) rows row sort, is.2)
object_kept usable old new rows row stored stored' (Other kind name on) sort same is = is

-- the pages of a tree of the schema's rows keep their bytes
tree_of_kept : (usable : ℕ) (old new : Paging) (table : Bool) (height root : ℕ) → TreeKept usable old new height root
    → IsTreeOf usable old (record { table = table; height = height; root = root }) → IsTreeOf usable new (record { table = table; height = height; root = root })
tree_of_kept usable old new true height root kept is = (is.0, tree_kept usable old new height 0 18446744073709551616 root kept is.1)
tree_of_kept usable old new false height root kept is = (is.0, index_kept usable old new height root kept is.1)

record EntryKept (usable : ℕ) (old new : Paging) (root : ℕ) (grown : Option Tree) : Type 0 where
  sort : is_index_page old root ≡ is_index_page new root
  tree : HasTree usable new root grown
  rows : stored_rows usable old grown ≡ stored_rows usable new grown
  pages_are : pages_of_some usable new grown ≡ pages_of_some usable old grown

sort_at : (old new : Paging) (root : ℕ) → new root ≡ old root → is_index_page old root ≡ is_index_page new root
sort_at old new root kept = ap (λ (b : List ℕ). is_index_kind (kind_of (slice_index b (header_end root)))) (sym kept)

rows_at : (usable : ℕ) (old new : Paging) (table : Bool) (height root : ℕ) → TreeKept usable old new height root
    → stored_rows usable old (Some (record { table = table; height = height; root = root })) ≡ stored_rows usable new (Some (record { table = table; height = height; root = root }))
rows_at usable old new true height root kept = sym (tree_rows_kept usable old new height root kept)
rows_at usable old new false height root kept = refl

entry_kept : (usable : ℕ) (old new : Paging) (root : ℕ) (grown : Option Tree) → is_index_page old 0 ≡ is_index_page new 0 → HoldsOf (IsKept old new) (pages_of_some usable old grown)
    → HasTree usable old root grown → EntryKept usable old new root grown
entry_kept usable old new root None none holds has =
    record { sort = ap (is_index_page old) has ∙ none ∙ ap (is_index_page new) (sym has); tree = has; rows = refl; pages_are = refl }
entry_kept usable old new root (Some t) none holds has =
    let kept = whole_kept usable old new t.height t.root (each_from_holds (IsKept old new) (pages_of_tree usable old t) holds) in
    let there : 0 < times t.root (pages_of_tree usable old t) =
    rw (pages_split usable old t.height t.root) (let at = here t.root t.root (lower_pages usable old t.height t.root) refl in omega arith) in
    let sort = sort_at old new root (ap new (sym has.1) ∙ holds t.root there ∙ ap old has.1) in
    record {
      sort = sort;
      tree = (has.0, has.1, has.2 ∙ ap not sort, tree_of_kept usable old new t.table t.height t.root kept has.3);
      rows = rows_at usable old new t.table t.height t.root kept;
      pages_are = all_pages_kept usable old new t.height t.root kept;
    }

entries_kept : (usable : ℕ) (old new : Paging) (all rows : List SchemaRow) (trees : List (Option Tree)) (db : Database) → is_index_page old 0 ≡ is_index_page new 0
    → HoldsOf (IsKept old new) (flat_map (pages_of_some usable old) trees) → AreEntries usable old all rows trees db → AreEntries usable new all rows trees db
entries_kept usable old new all [] [] [] none holds are = tt
entries_kept usable old new all [] [] (o ∷ os) none holds are = absurd are
entries_kept usable old new all [] (t ∷ ts) db none holds are = absurd are
entries_kept usable old new all (r ∷ rs) [] db none holds are = absurd are
entries_kept usable old new all (r ∷ rs) (t ∷ ts) [] none holds are = absurd are
entries_kept usable old new all (r ∷ rs) (t ∷ ts) (o ∷ os) none holds are =
    let mine = pages_of_some usable old t in
    let more = flat_map (pages_of_some usable old) ts in
    let kept = entry_kept usable old new (root_of r.rootpage) t none (λ n some. holds n (rw (times-append n mine more) (omega (arith, some)))) are.0.tree in (
      record {
        rowid = are.0.rowid;
        tree = kept.tree;
        object = object_kept usable old new all r (stored_rows usable old t) (stored_rows usable new t) o.1 kept.sort kept.rows are.0.object;
      },
      entries_kept usable old new all rs ts os none (λ n some. holds n (rw (times-append n mine more) (omega (arith, some)))) are.1,
    )

entries_pages : (usable : ℕ) (old new : Paging) (all rows : List SchemaRow) (trees : List (Option Tree)) (db : Database) → is_index_page old 0 ≡ is_index_page new 0
    → HoldsOf (IsKept old new) (flat_map (pages_of_some usable old) trees) → AreEntries usable old all rows trees db
    → flat_map (pages_of_some usable new) trees ≡ flat_map (pages_of_some usable old) trees
entries_pages usable old new all [] [] [] none holds are = refl
entries_pages usable old new all [] [] (o ∷ os) none holds are = absurd are
entries_pages usable old new all [] (t ∷ ts) db none holds are = absurd are
entries_pages usable old new all (r ∷ rs) [] db none holds are = absurd are
entries_pages usable old new all (r ∷ rs) (t ∷ ts) [] none holds are = absurd are
entries_pages usable old new all (r ∷ rs) (t ∷ ts) (o ∷ os) none holds are =
    let mine = pages_of_some usable old t in
    let more = flat_map (pages_of_some usable old) ts in
    let kept = entry_kept usable old new (root_of r.rootpage) t none (λ n some. holds n (rw (times-append n mine more) (omega (arith, some)))) are.0.tree in
    let rest = entries_pages usable old new all rs ts os none (λ n some. holds n (rw (times-append n mine more) (omega (arith, some)))) are.1 in
    rw (kept.pages_are, rest) refl

-- the tree of the schema, of which page 1 keeps what stands behind its header
schema_kept : (usable height : ℕ) (old new : Paging) → AreAlike 100 (new 1) (old 1) → HoldsOf (λ n. n ≢ 1 → IsKept old new n) (all_pages usable old height 1)
    → times 1 (all_pages usable old height 1) ≤ 1 → TreeKept usable old new height 1
schema_kept usable height old new alike holds once =
    let low = lower_pages usable old height 1 in
    let split = pages_split usable old height 1 in
    let at = here 1 1 low refl in
    let lacks : times 1 low ≡ 0 = let e = ap (times 1) split in omega (arith, once, e, at) in
    record {
      node = page_alike 100 (take usable (new 1)) (take usable (old 1)) (take_alike usable 100 (new 1) (old 1) alike);
      lower = each_from_holds (IsKept old new) low (λ n some. holds n (rw split (omega (arith, some)))
          (λ (e : n ≡ 1). let none = ap (λ (m : ℕ). times m low) e ∙ lacks in absurd (omega (arith, some, none))));
    }

-- What changes: free pages, added ones, and the front of page 1.
pub record FreeChange (count count' : ℕ) (old new : Paging) (listed listed' more : List ℕ) : Type 0 where
  pub bytes : (n : ℕ) → 1 ≤ n → n ≤ count → n ≢ 1 → Lacks listed n → new n ≡ old n
  pub sort : is_index_page old 0 ≡ is_index_page new 0
  pub front : AreAlike 100 (new 1) (old 1)
  pub same : AreSame listed' (listed ++ more)
  pub single : AreSingle more
  pub above : HoldsOf (λ n. (count < n) × (n ≤ count')) more
  pub low : count ≤ count'

none_or_some : (n : ℕ) → (n ≡ 0) ⊎ (0 < n)
none_or_some zero = inl refl
none_or_some (suc n) = inr (omega arith)

single_again : (count count' : ℕ) (trees listed listed' more : List ℕ) → AreSame listed' (listed ++ more) → AreSingle more
    → HoldsOf (λ n. (count < n) × (n ≤ count')) more → AreSingle (trees ++ listed) → HoldsOf (IsOneOf count) (trees ++ listed) → AreSingle (trees ++ listed')
single_again count count' trees listed listed' more same single above once within n =
    let a = times-append n trees listed in
    let b = times-append n trees listed' in
    let c = times-append n listed more in
    let d = same n in
    let e = once n in
    let f = single n in
    ⊎_elim
    (λ (none : times n more ≡ 0). omega (arith, a, b, c, d, e, none))
    (λ (some : 0 < times n more). ⊎_elim
    (λ (out : times n (trees ++ listed) ≡ 0). omega (arith, a, b, c, d, f, out))
    (λ (inside : 0 < times n (trees ++ listed)). let high = above n some in let in_file = within n inside in absurd (omega (arith, high.0, in_file.1)))
    (none_or_some (times n (trees ++ listed))))
    (none_or_some (times n more))

within_again : (count count' : ℕ) (trees listed listed' more : List ℕ) → AreSame listed' (listed ++ more)
    → HoldsOf (λ n. (count < n) × (n ≤ count')) more → count ≤ count' → HoldsOf (IsOneOf count) (trees ++ listed) → HoldsOf (IsOneOf count') (trees ++ listed')
within_again count count' trees listed listed' more same above low within n some =
    let a = times-append n trees listed in
    let b = times-append n trees listed' in
    let c = times-append n listed more in
    let d = same n in
    ⊎_elim
    (λ (none : times n more ≡ 0). let in_file = within n (omega (arith, a, b, c, d, none, some)) in (in_file.0, omega (arith, in_file.1, low)))
    (λ (more_some : 0 < times n more). let high = above n more_some in (omega (arith, high.0), high.1))
    (none_or_some (times n more))

-- where page 0 keeps its bytes it keeps its sort
pub sort_kept : (old new : Paging) → new 0 ≡ old 0 → is_index_page old 0 ≡ is_index_page new 0
sort_kept old new kept = sort_at old new 0 kept

-- then they stand for the same database, with the new lists
pub stays : (usable count count' : ℕ) (old new : Paging) (db : Database) (before : StandsFor usable count old db) (lists : List FreeChain) (listed more : List ℕ)
    → FreeChange count count' old new before.listed listed more → AreFree usable new lists listed
    → (after : StandsFor usable count' new db) × (after.listed ≡ listed)
stays usable count count' old new db before lists listed more change free =
    let schema = all_pages usable old before.height 1 in
    let others = flat_map (pages_of_some usable old) before.trees in
    let once = single_from_distinct (schema ++ others ++ before.listed) before.distinct in
    let within = holds_from_all (IsOneOf count) (schema ++ others ++ before.listed) before.within in
    let parts : (n : ℕ) → times n (schema ++ others ++ before.listed) ≡ times n schema + times n others + times n before.listed =
    λ n. let a = times-append n (schema ++ others) before.listed in let b = times-append n schema others in omega (arith, a, b) in
    let root_there : 0 < times 1 schema = rw (pages_split usable old before.height 1) (let at = here 1 1 (lower_pages usable old before.height 1) refl in omega arith) in
    let kept_in : (n : ℕ) → 0 < times n schema + times n others → n ≢ 1 → IsKept old new n = λ n some other.
    let p = parts n in
    let o = once n in
    let inside = within n (omega (arith, p, some)) in
    change.bytes n inside.0 inside.1 other (omega (arith, p, o, some)) in
    let tree = schema_kept usable before.height old new change.front (λ n some other. kept_in n (omega (arith, some)) other)
    (let p = parts 1 in let o = once 1 in omega (arith, p, o)) in
    let not_first : (n : ℕ) → 0 < times n others → n ≢ 1 = λ n some e.
    let p = parts 1 in
    let o = once 1 in
    let s = subst (λ (m : ℕ). 0 < times m others) e some in
    absurd (omega (arith, p, o, s, root_there)) in
    let holds : HoldsOf (IsKept old new) others = λ n some. kept_in n (omega (arith, some)) (not_first n some) in
    let schema_is = all_pages_kept usable old new before.height 1 tree in
    let others_are = entries_pages usable old new before.rows before.rows before.trees db change.sort holds before.entries in
    let trees_are : all_pages usable new before.height 1 ++ flat_map (pages_of_some usable new) before.trees ≡ schema ++ others = rw (schema_is, others_are) refl in (
      record {
        height = before.height;
        schema = (before.schema.0, tree_kept usable old new before.height 0 18446744073709551616 1 tree before.schema.1);
        rows = before.rows;
        rows_are = rw (tree_rows_kept usable old new before.height 1 tree) before.rows_are;
        named = before.named;
        trees = before.trees;
        entries = entries_kept usable old new before.rows before.rows before.trees db change.sort holds before.entries;
        lists = lists;
        listed = listed;
        free = free;
        distinct = subst (λ (ts : List ℕ). AreDistinct (ts ++ listed)) (sym trees_are)
            (distinct_from_single (schema ++ others ++ listed)
            (single_again count count' (schema ++ others) before.listed listed more change.same change.single change.above once within));
        within = subst (λ (ts : List ℕ). All (IsOneOf count') (ts ++ listed)) (sym trees_are)
            (all_from_holds (IsOneOf count') (schema ++ others ++ listed)
            (within_again count count' (schema ++ others) before.listed listed more change.same change.above change.low within));
      },
      refl,
    )
