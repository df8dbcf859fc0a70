-- What a table of the schema is where pages change, but no page that is a root changes its sort.
use Rattle.std.proofs.Common.{◌≡◌, ◌≢◌, ℕ, Bool, true, false, not, ◌&&◌, ◌==◌, List, [], ◌∷◌, ◌++◌, map, filter, Option, Some, None, is_some, refl, sym, ap, ◌∙◌, arith, ⊎_elim}
use Rattle.std.specs.List.{find, flat_map}
use Rattle.std.proofs.lemmas.Bool.{cases_Bool, false≢true}
use Rattle.spe_model.specs.declared.catalog.Entry.{Entry}
use Rattle.spe_model.specs.declared.table.Closed.{Closed}
use Rattle.spe_model.specs.declared.table.Closed.TheVariants.{Reserved, Definition, Indexed, Triggered}
use Rattle.spe_model.specs.declared.table.TableDef.{TableDef}
use Rattle.spe_model.specs.Agree.{agree}
use Rattle.spe_model.specs.Paging.{Paging}
use Rattle.spe_model.specs.Schema.{SchemaRow, catalog_of, columns_in, alias_in, declaration_in, entry_of, is_closed_by, is_declared, is_index_page, is_rooted, is_table_row, reasons, root_of, table_of}
use Rattle.spe_model.specs.Served.{Root}
use Rattle.spe_verdict.specs.Roots.{names_open, root_in, roots_of}
use Rattle.spe_served.specs.Change.{entry_named}
use Rattle.spe_served.proofs.EveryLemmas.{Every}

-- the page of a root is of the same sort by both tests
abbrev pub SortStays : (f h : ℕ → Bool) → SchemaRow → Type 0
SortStays f h row = root_of row.rootpage ≢ 0 → h (root_of row.rootpage) ≡ f (root_of row.rootpage)

not_zero : (n : ℕ) → (n == 0) ≡ false → n ≢ 0
not_zero n other e = absurd (grind arith)

rooted_alike : (f h : ℕ → Bool) (row : SchemaRow) → SortStays f h row → is_rooted h row.rootpage ≡ is_rooted f row.rootpage
rooted_alike f h row stays = ⊎_elim
    (λ (none : (root_of row.rootpage == 0) ≡ true). rw none refl)
    (λ (some : (root_of row.rootpage == 0) ≡ false). ap (λ (b : Bool). not (root_of row.rootpage == 0) && not b) (stays (not_zero (root_of row.rootpage) some)))
    (cases_Bool (root_of row.rootpage == 0))

closed_alike : (f h : ℕ → Bool) (all : List SchemaRow) (row : SchemaRow) → SortStays f h row → (why : Closed) → is_closed_by h all row why ≡ is_closed_by f all row why
unfolding is_closed_by
closed_alike f h all row stays Reserved = refl
closed_alike f h all row stays Definition = ap (λ (b : Bool). not (is_declared (declaration_in row) && b)) (rooted_alike f h row stays)
closed_alike f h all row stays Indexed = refl
closed_alike f h all row stays Triggered = refl

find_alike : {X : Type 0} (p q : X → Bool) (xs : List X) → ((x : X) → p x ≡ q x) → find p xs ≡ find q xs
find_alike p q [] same = refl
find_alike p q (x ∷ xs) same = rw (same x, find_alike p q xs same) refl

pub table_alike : (f h : ℕ → Bool) (all : List SchemaRow) (row : SchemaRow) → SortStays f h row → table_of h all row ≡ table_of f all row
table_alike f h all row stays =
    ap (λ (o : Option Closed). record { name = row.name; columns = columns_in (declaration_in row); alias = alias_in (declaration_in row); closed = o })
    (find_alike (is_closed_by h all row) (is_closed_by f all row) reasons (closed_alike f h all row stays))

catalog_part : (f h : ℕ → Bool) (all rows : List SchemaRow) → Every (SortStays f h) rows → map (entry_of h all) (filter is_table_row rows) ≡ map (entry_of f all) (filter is_table_row rows)
catalog_part f h all [] stay = refl
catalog_part f h all (r ∷ rs) stay =
    let next = catalog_part f h all rs stay.1 in
    let table = table_alike f h all r stay.0 in
    ⊎_elim
    (λ (is : is_table_row r ≡ true). rw (is, table, next) refl)
    (λ (is : is_table_row r ≡ false). rw (is, next) refl)
    (cases_Bool (is_table_row r))

pub catalog_alike : (f h : ℕ → Bool) (all : List SchemaRow) → Every (SortStays f h) all → catalog_of h all ≡ catalog_of f all
catalog_alike f h all stay = catalog_part f h all all stay

open_alike : (old new : Paging) (all : List SchemaRow) (row : SchemaRow) → SortStays (is_index_page old) (is_index_page new) row → names_open new all row ≡ names_open old all row
open_alike old new all row stays = ap (λ (t : TableDef). is_table_row row && not (is_some t.closed)) (table_alike (is_index_page old) (is_index_page new) all row stays)

roots_part : (old new : Paging) (all rows : List SchemaRow) → Every (SortStays (is_index_page old) (is_index_page new)) rows
    → flat_map (root_in new all) rows ≡ flat_map (root_in old all) rows
roots_part old new all [] stay = refl
roots_part old new all (r ∷ rs) stay =
    let open_same = open_alike old new all r stay.0 in
    let next = roots_part old new all rs stay.1 in
    rw (open_same, next) refl

pub roots_alike : (old new : Paging) (all : List SchemaRow) → Every (SortStays (is_index_page old) (is_index_page new)) all → roots_of new all ≡ roots_of old all
roots_alike old new all stay = ap (λ (rs : List Root). record { page = 1; marked = false } ∷ rs) (roots_part old new all all stay)

-- a table of another name
abbrev pub IsUnlike : (name : List ℕ) → SchemaRow → Type 0
IsUnlike name row = is_table_row row ≡ true → agree row.name name ≡ false

-- the row of the schema that names a table, and those before and after it
pub record Place (f : ℕ → Bool) (all : List SchemaRow) (name : List ℕ) (entry : Entry) (rows : List SchemaRow) : Type 0 where
  pub before : List SchemaRow
  pub row : SchemaRow
  pub after : List SchemaRow
  pub rows_are : rows ≡ before ++ row ∷ after
  pub is_table : is_table_row row ≡ true
  pub table : table_of f all row ≡ entry.table
  pub root : root_of row.rootpage ≡ entry.root
  pub agrees : agree row.name name ≡ true
  pub unlike : Every (IsUnlike name) before

pub place : (f : ℕ → Bool) (all : List SchemaRow) (name : List ℕ) (entry : Entry) (rows : List SchemaRow)
    → entry_named name (map (entry_of f all) (filter is_table_row rows)) ≡ Some entry → Place f all name entry rows
place f all name entry [] found = absurd cc
place f all name entry (r ∷ rs) found = ⊎_elim
    (λ (is : is_table_row r ≡ true). ⊎_elim
    (λ (same : agree r.name name ≡ true).
    let here : Some (entry_of f all r) ≡ Some entry = rw (is, same) at found in
    let it : entry_of f all r ≡ entry = cc in
    record {
      before = [];
      row = r;
      after = rs;
      rows_are = refl;
      is_table = is;
      table = ap (λ (e : Entry). e.table) it;
      root = ap (λ (e : Entry). e.root) it;
      agrees = same;
      unlike = tt;
    })
    (λ (other : agree r.name name ≡ false).
    let rest = place f all name entry rs (rw (is, other) at found) in
    more rest (λ yes. other))
    (cases_Bool (agree r.name name)))
    (λ (is : is_table_row r ≡ false). more (place f all name entry rs (rw is at found)) (λ yes. absurd (false≢true (sym is ∙ yes))))
    (cases_Bool (is_table_row r))
  where
    more : Place f all name entry rs → IsUnlike name r → Place f all name entry (r ∷ rs)
    more rest unlike = record {
      before = r ∷ rest.before;
      row = rest.row;
      after = rest.after;
      rows_are = ap (λ (xs : List SchemaRow). r ∷ xs) rest.rows_are;
      is_table = rest.is_table;
      table = rest.table;
      root = rest.root;
      agrees = rest.agrees;
      unlike = (unlike, rest.unlike);
    }

-- an open table has a root, which is no page of an index
no_reason : (test : Closed → Bool) → find test reasons ≡ None → test Definition ≡ false
no_reason test h = go (test Reserved) (test Definition) refl refl h
  where
    go : (a b : Bool) → test Reserved ≡ a → test Definition ≡ b → find test reasons ≡ None → test Definition ≡ false
    go a false e f h = f
    go true true e f h = let bad : Some Reserved ≡ None = rw e at h in absurd cc
    go false true e f h = let bad : Some Definition ≡ None = rw (e, f) at h in absurd cc

pub and_both : (a b : Bool) → (a && b) ≡ true → (a ≡ true) × (b ≡ true)
and_both true b h = (refl, h)
and_both false b h = absurd (false≢true h)

not_false : (b : Bool) → not b ≡ false → b ≡ true
not_false true h = refl
not_false false h = absurd (false≢true (sym h))

pub rooted_if : (f : ℕ → Bool) (all : List SchemaRow) (row : SchemaRow) → (table_of f all row).closed ≡ None → is_rooted f row.rootpage ≡ true
unfolding is_closed_by
rooted_if f all row h = (and_both (is_declared (declaration_in row)) (is_rooted f row.rootpage) (not_false _ (no_reason (is_closed_by f all row) h))).1

pub zero_not : (n : ℕ) → not (n == 0) ≡ true → (n == 0) ≡ false
zero_not n h = go (n == 0) refl
  where
    go : (b : Bool) → (n == 0) ≡ b → (n == 0) ≡ false
    go false e = e
    go true e = let bad : false ≡ true = rw e at h in absurd cc
