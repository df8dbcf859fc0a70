-- The catalog of pages.
use Rattle.std.proofs.Common.{◌≡◌, inl, inr, ℕ, ℤ, ◌^◌, ◌<◌, Bool, true, false, not, ◌&&◌, ◌||◌, ◌==◌, nat_lt, List, [], ◌∷◌, ◌++◌, length, map, Option, Some, None, Result, Ok, Err, SomeIff, unwrap_or, refl, sym, ap, ◌∙◌, arith, append_assoc, subst}
use Rattle.std.specs.List.{Contains, list_any}
use Rattle.std.proofs.lemmas.Bool.{false≢true}
use Rattle.std.proofs.lemmas.List.{map-append}
use Rattle.std.proofs.lemmas.List.Elements.{Contains-append_left, Contains-append_right}
use Rattle.spe_model.specs.declared.catalog.Entry.{Entry}
use Rattle.spe_model.specs.declared.table.TableDef.{TableDef}
use Rattle.spe_model.specs.Agree.{agree}
use Rattle.spe_model.specs.Cell.{◌>>=◌}
use Rattle.spe_model.specs.Paging.{Paging}
use Rattle.spe_model.specs.Tree.{IsTableTree, tree_rows}
use Rattle.spe_model.specs.Definition.{are_distinct}
use Rattle.spe_model.specs.Schema.{SchemaRow, schema_row_of, schema_of, is_table_row, is_index_page, is_rooted, root_of, table_of, entry_of, catalog_of, have_own_names}
use Rattle.spe_space.specs.Found.{Answers}
use Rattle.spe_space.specs.declared.fault.TreeFault.{TreeFault}
use Rattle.spe_space.specs.declared.fault.TreeFault.TheVariants.{Space, Corrupt}
use Rattle.spe_search.specs.declared.pairs.Pair.{Pair}
use Rattle.spe_search.specs.Found.{HasDamage}
use Rattle.spe_search.specs.Leaves.{IsRead}
use Rattle.spe_search.specs.Pairs.{pair_seen}
use Rattle.spe_catalog.specs.Reading.{has_number, have_numbers, IsBad, unread, far, repeated, IsDamaged, AreRead, table_names}
use Rattle.spe_catalog.specs.Reader.{Pushes, tables_of, CatalogOrBad, HasSchemaCause}

-- the root of a table, as its number
pub root_told : (row : SchemaRow) (result : Option ℕ) → is_table_row row ≡ true → has_number row ≡ true → SomeIff result (root_of row.rootpage < 2 ^ 32) (root_of row.rootpage)
    → unwrap_or result 0 ≡ root_of row.rootpage
root_told row (Some n) t h s = s.1
root_told row None t h s = absurd (s (small (root_of row.rootpage) (rw t at h)))
  where
    small : (n : ℕ) → (not true || nat_lt n 4294967296) ≡ true → n < 2 ^ 32
    small n e = grind arith

pub entry_made : (f : ℕ → Bool) (all : List SchemaRow) (row : SchemaRow) (root : ℕ) (rooted : Bool) (table : TableDef) → root ≡ root_of row.rootpage
    → rooted ≡ (not (root == 0) && not (f root)) → (rooted ≡ is_rooted f row.rootpage → table ≡ table_of f all row)
    → ◌≡◌ {A = Entry} (record { table = table; root = root }) (entry_of f all row)
entry_made f all row root rooted table e r made = rw (made (r ∙ rw e refl), e) refl

append_none : (xs : List Entry) → xs ≡ xs ++ []
append_none [] = refl
append_none (x ∷ xs) = ap (λ (ys : List Entry). x ∷ ys) (append_none xs)

pub pushed_none : (f : ℕ → Bool) (all : List SchemaRow) (row : SchemaRow) (old : List Entry) → is_table_row row ≡ false → old ≡ old ++ tables_of f all (row ∷ [])
pushed_none f all row old t = rw t (append_none old)

pub pushed_one : (f : ℕ → Bool) (all : List SchemaRow) (row : SchemaRow) (old new : List Entry) (entry : Entry) → is_table_row row ≡ true → entry ≡ entry_of f all row
    → new ≡ old ++ entry ∷ [] → new ≡ old ++ tables_of f all (row ∷ [])
pushed_one f all row old new entry t e n = n ∙ rw (e, t) refl

pub pushed_fault : (X Y Z : Type 0) (view : X → Y) (there : Y) (tables old new : List Entry) (fault : TreeFault) → Answers {X = X} view there (Err fault)
    → Pushes {X = Z} tables old new (Err fault)
pushed_fault X Y Z view there tables old new (Space f) h = tt
pushed_fault X Y Z view there tables old new (Corrupt at) h = h

pub answers_fault : (X Y : Type 0) (view : X → Y) (there : Y) (tables old new : List Entry) (fault : TreeFault) → Pushes {X = Unit {0}} tables old new (Err fault)
    → Answers {X = X} view there (Err fault)
answers_fault X Y view there tables old new (Space f) h = tt
answers_fault X Y view there tables old new (Corrupt at) h = h

tables_split : (f : ℕ → Bool) (all : List SchemaRow) (row : SchemaRow) (rest : List SchemaRow) → tables_of f all (row ∷ rest) ≡ tables_of f all (row ∷ []) ++ tables_of f all rest
tables_split f all row rest = go (is_table_row row) refl
  where
    go : (b : Bool) → is_table_row row ≡ b → tables_of f all (row ∷ rest) ≡ tables_of f all (row ∷ []) ++ tables_of f all rest
    go true e = rw e refl
    go false e = rw e refl

and_both : (a b : Bool) → (a && b) ≡ true → (a ≡ true) × (b ≡ true)
and_both true b h = (refl, h)
and_both false b h = absurd (false≢true h)

-- one more row of a table, or of another object
pub made_more : (f : ℕ → Bool) (all left rest : List SchemaRow) (row : SchemaRow) (made new goal : List Entry) → left ≡ row ∷ rest
    → (have_numbers left ≡ true) × (made ++ tables_of f all left ≡ goal) → (has_number row ≡ true → new ≡ made ++ tables_of f all (row ∷ []))
    → (have_numbers rest ≡ true) × (new ++ tables_of f all rest ≡ goal)
made_more f all left rest row made new goal l before push =
    let numbers = and_both (has_number row) (have_numbers rest) (rw l at before.0) in
    let tables : tables_of f all left ≡ tables_of f all (row ∷ []) ++ tables_of f all rest = ap (λ (rs : List SchemaRow). tables_of f all rs) l ∙ tables_split f all row rest in (
      numbers.1,
      ap (λ (es : List Entry). es ++ tables_of f all rest) (push numbers.0) ∙ (append_assoc made (tables_of f all (row ∷ [])) (tables_of f all rest)
          ∙ (ap (λ (es : List Entry). made ++ es) (sym tables) ∙ before.1)),
    )

pub made_end : (f : ℕ → Bool) (all left : List SchemaRow) (made goal : List Entry) → length left < 1 → made ++ tables_of f all left ≡ goal → made ≡ goal
made_end f all [] made goal none e = append_none made ∙ e
made_end f all (r ∷ rs) made goal none e = absurd (omega arith)

pub answers_same : (X Z Y : Type 0) (view : X → Y) (other : Z → Y) (there : Y) (fault : TreeFault) → Answers {X = X} view there (Err fault) → Answers {X = Z} other there (Err fault)
answers_same X Z Y view other there (Space f) h = tt
answers_same X Z Y view other there (Corrupt at) h = h

pub row_number : (left rest : List SchemaRow) (row : SchemaRow) → left ≡ row ∷ rest → have_numbers left ≡ true → has_number row ≡ true
row_number left rest row l h = (and_both (has_number row) (have_numbers rest) (rw l at h)).0

-- the catalog of rows that are in order
pub catalog_found : (pages : Paging) (stored : List (ℤ × List ℕ)) (rows : List SchemaRow) (result : Result (List Entry) TreeFault) → AreRead stored rows
    → Answers (λ c. c) (catalog_of (is_index_page pages) rows) result → CatalogOrBad pages stored result
catalog_found pages stored rows (Ok catalog) read h = record { rows = rows; rows_are = read.rows_are; own = read.own; tables = h }
catalog_found pages stored rows (Err (Space f)) read h = tt
catalog_found pages stored rows (Err (Corrupt at)) read h = absurd h

pub never_corrupt : (X Y : Type 0) (usable : ℕ) (pages : Paging) (view : X → Y) (there : Y) (result : Result X TreeFault) → Answers view there result → HasSchemaCause usable pages result
never_corrupt X Y usable pages view there (Ok x) h = tt
never_corrupt X Y usable pages view there (Err (Space f)) h = tt
never_corrupt X Y usable pages view there (Err (Corrupt at)) h = absurd h

-- what a fault of the walk says of the catalog
pub walk_fault : (X Y : Type 0) (view : X → Y) (there : Y) (pages : Paging) (stored : List (ℤ × List ℕ)) (fault : TreeFault) → Answers {X = X} view there (Err fault)
    → CatalogOrBad pages stored (Err fault)
walk_fault X Y view there pages stored (Space f) h = tt
walk_fault X Y view there pages stored (Corrupt at) h = absurd h

pub walk_cause : (X Y : Type 0) (usable : ℕ) (pages : Paging) (fault : TreeFault) → HasDamage {X = X} usable pages 1 20 (Err fault) → HasSchemaCause {X = Y} usable pages (Err fault)
walk_cause X Y usable pages (Space f) h = tt
walk_cause X Y usable pages (Corrupt at) h = inr h

-- the rows before a row, itself, and those behind it
record Splits (before behind : List (ℤ × List ℕ)) (row : ℤ × List ℕ) (rows : List SchemaRow) : Type 0 where
  first : List SchemaRow
  found : SchemaRow
  others : List SchemaRow
  are : rows ≡ first ++ found ∷ others
  first_is : schema_of before ≡ Some first
  found_is : schema_row_of row ≡ Some found

splits : (before behind : List (ℤ × List ℕ)) (row : ℤ × List ℕ) (rows : List SchemaRow) → schema_of (before ++ row ∷ behind) ≡ Some rows → Splits before behind row rows
splits [] behind row rows h = go (schema_row_of row) (schema_of behind) refl h
  where
    go : (first : Option SchemaRow) (others : Option (List SchemaRow)) → schema_row_of row ≡ first → (first >>= λ f. (others >>= λ o. Some (f ∷ o))) ≡ Some rows
        → Splits [] behind row rows
    go None others a h = absurd cc
    go (Some f) None a h = absurd cc
    go (Some f) (Some o) a h = record { first = []; found = f; others = o; are = cc; first_is = refl; found_is = a }
splits (x ∷ xs) behind row rows h = go (schema_row_of x) (schema_of (xs ++ row ∷ behind)) refl refl h (λ o e. splits xs behind row o e)
  where
    go : (first : Option SchemaRow) (others : Option (List SchemaRow)) → schema_row_of x ≡ first → schema_of (xs ++ row ∷ behind) ≡ others
        → (first >>= λ f. (others >>= λ o. Some (f ∷ o))) ≡ Some rows
        → ((o : List SchemaRow) → schema_of (xs ++ row ∷ behind) ≡ Some o → Splits xs behind row o) → Splits (x ∷ xs) behind row rows
    go None others a b h next = absurd cc
    go (Some f) None a b h next = absurd cc
    go (Some f) (Some o) a b h next =
        let s = next o b in
        let e : rows ≡ f ∷ o = cc in
        record {
          first = f ∷ s.first;
          found = s.found;
          others = s.others;
          are = e ∙ ap (λ (rs : List SchemaRow). f ∷ rs) s.are;
          first_is = rw (a, s.first_is) refl;
          found_is = s.found_is;
        }

numbers_middle : (first : List SchemaRow) (found : SchemaRow) (others : List SchemaRow) → have_numbers (first ++ found ∷ others) ≡ true → has_number found ≡ true
numbers_middle [] found others h = (and_both (has_number found) (have_numbers others) h).0
numbers_middle (r ∷ rs) found others h = numbers_middle rs found others (and_both (has_number r) (have_numbers (rs ++ found ∷ others)) h).1

names_append : (xs ys : List SchemaRow) → table_names (xs ++ ys) ≡ table_names xs ++ table_names ys
names_append [] ys = refl
names_append (x ∷ xs) ys = go (is_table_row x) refl (names_append xs ys)
  where
    go : (b : Bool) → is_table_row x ≡ b → table_names (xs ++ ys) ≡ table_names xs ++ table_names ys → table_names ((x ∷ xs) ++ ys) ≡ table_names (x ∷ xs) ++ table_names ys
    go true e next = rw (e, next) refl
    go false e next = rw (e, next) refl

none_before : (test : List ℕ → Bool) (xs ys : List (List ℕ)) → list_any test (xs ++ ys) ≡ false → list_any test xs ≡ false
none_before test [] ys h = refl
none_before test (x ∷ xs) ys h = go (test x) refl h (λ k. none_before test xs ys k)
  where
    go : (b : Bool) → test x ≡ b → (b || list_any test (xs ++ ys)) ≡ false → (list_any test (xs ++ ys) ≡ false → list_any test xs ≡ false) → (test x || list_any test xs) ≡ false
    go true e h next = absurd (false≢true (sym h))
    go false e h next = rw (e, next h) refl

not_true : (b : Bool) → not b ≡ true → b ≡ false
not_true true h = absurd (false≢true h)
not_true false h = refl

distinct_front : (xs ys : List (List ℕ)) → are_distinct (xs ++ ys) ≡ true → are_distinct xs ≡ true
distinct_front [] ys h = refl
distinct_front (x ∷ xs) ys h =
    let both = and_both (not (list_any (agree x) (xs ++ ys))) (are_distinct (xs ++ ys)) h in
    rw (none_before (agree x) xs ys (not_true (list_any (agree x) (xs ++ ys)) both.0), distinct_front xs ys both.1) refl

own_front : (first : List SchemaRow) (found : SchemaRow) (others : List SchemaRow) → have_own_names (first ++ found ∷ others) ≡ true
    → have_own_names (first ++ found ∷ []) ≡ true
own_front first found others h =
    distinct_front (table_names (first ++ found ∷ [])) (table_names others)
    (rw (← (names_append (first ++ found ∷ []) others), append_assoc first (found ∷ []) others) h)

-- rows that are in order have no row that is not
bad_not : (first behind : List (ℤ × List ℕ)) (row : ℤ × List ℕ) (rows : List SchemaRow) → IsBad first row → schema_of (first ++ row ∷ behind) ≡ Some rows → have_own_names rows ≡ true
    → have_numbers rows ≡ true → ⊥
bad_not first behind row rows bad h own numbers = against (splits first behind row rows h) bad
  where
    against : Splits first behind row rows → IsBad first row → ⊥
    against s (unread e) = absurd (no_row (sym e ∙ s.found_is))
      where
        no_row : None ≡ Some s.found → ⊥
        no_row e = absurd cc
    against s (far found e n) =
        let same : s.found ≡ found = (let both : Some s.found ≡ Some found = sym s.found_is ∙ e in cc) in
        false≢true (sym n ∙ (rw (← same) (numbers_middle s.first s.found s.others (rw s.are at numbers))))
    against s (repeated before found b e n) =
        let same : s.found ≡ found = (let both : Some s.found ≡ Some found = sym s.found_is ∙ e in cc) in
        let front : s.first ≡ before = (let both : Some s.first ≡ Some before = sym s.first_is ∙ b in cc) in
        false≢true (sym n ∙ (rw (← same, ← front) (own_front s.first s.found s.others (rw s.are at own))))

pub split_seen : (stored before behind : List Pair) (row : Pair) → stored ≡ before ++ row ∷ behind → map pair_seen stored ≡ map pair_seen before ++ pair_seen row ∷ map pair_seen behind
split_seen stored before behind row e = ap (λ (xs : List Pair). map pair_seen xs) e ∙ map-append pair_seen before (row ∷ behind)

pub damaged_not : (stored : List Pair) (leaf : ℕ) (rows : List SchemaRow) → IsDamaged stored leaf → schema_of (map pair_seen stored) ≡ Some rows → have_own_names rows ≡ true
    → have_numbers rows ≡ true → ⊥
damaged_not stored leaf rows d h own numbers =
    bad_not (map pair_seen d.before) (map pair_seen d.behind) (pair_seen d.row) rows d.bad (rw (split_seen stored d.before d.behind d.row d.split) at h) own numbers

-- why the leaf of a row is called corrupt
pub row_cause : (X : Type 0) (usable : ℕ) (pages : Paging) (stored slice : List Pair) (leaf : ℕ) → slice ≡ stored
    → ((row : Pair) → Contains stored row → IsRead usable pages 20 1 row)
    → ((height : ℕ) → IsTableTree usable pages height 1 → map pair_seen stored ≡ tree_rows usable pages height 1)
    → IsDamaged slice leaf → HasSchemaCause {X = X} usable pages (Err (Corrupt leaf))
row_cause X usable pages stored slice leaf e read tree d =
    let split : stored ≡ d.before ++ d.row ∷ d.behind = sym e ∙ d.split in
    inl (record {
      before = d.before;
      row = d.row;
      leaf_is = d.leaf_is;
      read = read d.row (rw split (Contains-append_right d.before (d.row ∷ d.behind) d.row (0, omega arith, refl)));
      others = λ other has. read other (rw split (Contains-append_left d.before (d.row ∷ d.behind) other has));
      bad = d.bad;
      stored = λ height grown. (map pair_seen d.behind, sym (tree height grown) ∙ split_seen stored d.before d.behind d.row split);
    })

pub rows_found : (pages : Paging) (stored tree : List (ℤ × List ℕ)) (rows slice : List SchemaRow) (result : Result (List Entry) TreeFault) → stored ≡ tree → slice ≡ rows
    → AreRead stored rows → (have_numbers slice ≡ true → Answers (λ c. c) (catalog_of (is_index_page pages) slice) result) → CatalogOrBad pages tree result
rows_found pages stored tree rows slice result e s read made =
    let numbers : have_numbers slice ≡ true = ap have_numbers s ∙ read.numbers in
    catalog_found pages tree rows result (subst (λ (xs : List (ℤ × List ℕ)). AreRead xs rows) e read)
    (subst (λ (xs : List SchemaRow). Answers (λ c. c) (catalog_of (is_index_page pages) xs) result) s (made numbers))

pub fault_found : (pages : Paging) (stored : List Pair) (tree : List (ℤ × List ℕ)) (leaf : ℕ) → map pair_seen stored ≡ tree → IsDamaged stored leaf → CatalogOrBad pages tree (Err (Corrupt leaf))
fault_found pages stored tree leaf e d = λ rows h own numbers. damaged_not stored leaf rows d (subst (λ (xs : List (ℤ × List ℕ)). schema_of xs ≡ Some rows) (sym e) h) own numbers
