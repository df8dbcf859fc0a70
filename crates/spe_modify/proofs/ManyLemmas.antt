-- Rows of a table that get other values, one after the other.
use Rattle.std.proofs.Common.{◌≡◌, ℕ, ℤ, ◌+◌, ◌-◌, ◌≤◌, ◌||◌, Bool, true, false, List, [], ◌∷◌, ◌++◌, All, length, map, take, drop, get_or, Option, Some, None, refl, sym, ap, ◌∙◌, subst, arith, append_assoc, inl, inr}
use Rattle.std.specs.Ordering.{int_eq}
use Rattle.std.proofs.lemmas.Bool.{cases_Bool}
use Rattle.std.proofs.lemmas.List.{append-nil, take_all}
use Rattle.spe_model.specs.declared.table.TableDef.{TableDef}
use Rattle.spe_model.specs.Agree.{agree}
use Rattle.spe_model.specs.Database.{Database, Other, Row, Table}
use Rattle.spe_model.specs.Paging.{Paging}
use Rattle.spe_model.specs.Rows.{table_named, with_rows}
use Rattle.spe_model.specs.Standing.{AreTableRows, IsTableRow, pages_of_tree}
use Rattle.spe_space.specs.declared.pages.Pages.{Ghosts}
use Rattle.spe_space.specs.Calls.{Keeps, sight}
use Rattle.spe_frame.specs.Held.{Shifts}
use Rattle.spe_frame.specs.Laws.{ShiftsBoth, ShiftsNone, SparesBoth, SparesMore}
use Rattle.spe_served.specs.Change.{ChangesTable, IsServed, RootHasOne, root_of_table}
use Rattle.spe_served.specs.Lists.{ListsStand}
use Rattle.spe_slow.specs.Answers.{is_taken}
use Rattle.spe_slow.proofs.TablesLemmas.{with_same}
use Rattle.spe_insert.specs.Insert.{most_pages}
use Rattle.spe_modify.specs.declared.rows.StoredRow.{StoredRow}
use Rattle.spe_modify.specs.Row.{ChangesRow, IsOpen, LacksRowid, ShiftsOwn, SparesOthers, TableOf, table_with, with_changed}
use Rattle.spe_modify.specs.Rows.{IsChanging, IsPart, IsShort, SparesRows, Turns, pages_of_rows, stored_of, with_all}
use Rattle.spe_modify.proofs.ServedLemmas.{alone_there}

-- no row has the rowid, so all stay
pub first_other : (a b : Bool) → (a || b) ≡ false → (a ≡ false) × (b ≡ false)
first_other true b e = absurd cc
first_other false b e = (refl, e)

none_changed : (row : Row) (rows : List Row) → is_taken rows row.0 ≡ false → with_changed row rows ≡ rows
none_changed row [] free = refl
none_changed row (r ∷ rs) free =
    let both = first_other (int_eq r.0 row.0) (is_taken rs row.0) free in
    rw (both.0) (ap (λ (xs : List Row). r ∷ xs) (none_changed row rs both.1))

-- a row that is there gets other values
pub turned : {P : Type 0} (g : Ghosts P) (s new : P) (pages : Paging) (t : TableOf) (rowid : ℤ) (bytes : List ℕ) (row : Row) → IsTableRow t.entry.table (rowid, bytes) row
    → ChangesRow g s new pages t rowid bytes → Turns g s new pages t row (most_pages (g.used s) (length bytes))
turned g s new pages t rowid bytes row is changes = record { served = changes.served row is; shifts = changes.shifts row }

more_room : {P : Type 0} (g : Ghosts P) → SparesMore g → (s new : P) (pages : Paging) (xs ys : List ℕ) (n : ℕ) → Shifts g s new pages xs ys 0 → Shifts g s new pages xs ys n
more_room g more s new pages xs ys n x = record {
  spares = more s new pages xs 0 n (omega arith) x.spares;
  others = x.others;
  front = x.front;
  held = x.held;
  ready = x.ready;
  more = x.more;
  found = x.found;
  added = x.added;
}

-- the table with its own rows
pub own_rows : (t : TableOf) → with_rows t.name t.rows t.db ≡ t.db → table_with t t.rows ≡ t
own_rows t same = ap (λ (db : Database). record { opening = t.opening; db = db; name = t.name; entry = t.entry; rows = t.rows }) same

-- one that is not there does not
pub passed : {P : Type 0} (g : Ghosts P) → SparesMore g → (s new : P) (pages : Paging) (root : ℕ) (t : TableOf) (rowid : ℤ) (row : Row) (allocs : ℕ) → IsOpen g s pages root t → row.0 ≡ rowid
    → LacksRowid g s new pages t rowid → Turns g s new pages t row allocs
passed g more s new pages root t rowid row allocs is key lacks =
    let rows : with_changed row t.rows ≡ t.rows = none_changed row t.rows (ap (is_taken t.rows) key ∙ lacks.absent) in
    let same = with_same t.name t.db t.entry.table t.rows is.found in
    let then_ : t ≡ table_with t (with_changed row t.rows) = sym (ap (table_with t) rows ∙ own_rows t same) in
    record {
      served = subst (λ (x : TableOf). IsServed g x.opening new pages x.db) then_ lacks.served;
      shifts = subst (λ (x : TableOf). ShiftsOwn g s new pages t x allocs) then_
          (λ alone later. more_room g more s new pages _ _ allocs (lacks.shifts alone later));
    }

-- a database whose table gets rows twice
pub rows_twice : (name : List ℕ) (first second : List Row) (db : Database) → with_rows name second (with_rows name first db) ≡ with_rows name second db
rows_twice name first second [] = refl
rows_twice name first second ((rowid, Table table rows) ∷ others) = elim (cases_Bool (agree table.name name)) [
  | inl it ↦ rw (it, it) refl
  | inr other ↦ rw (other, other) (ap (λ (db : Database). (rowid, Table table rows) ∷ db) (rows_twice name first second others))
]
rows_twice name first second ((rowid, Other kind named on) ∷ others) = ap (λ (db : Database). (rowid, Other kind named on) ∷ db) (rows_twice name first second others)

abbrev table_in : TableDef → Option (TableDef × List Row) → TableDef
table_in d None = d
table_in d (Some found) = found.0

rows_found : (name : List ℕ) (new : List Row) (db : Database) (table : TableDef) (rows : List Row) → table_named name db ≡ Some (table, rows)
    → table_named name (with_rows name new db) ≡ Some (table, new)
rows_found name new [] table rows found = absurd cc
rows_found name new ((rowid, Table first held) ∷ others) table rows found = elim (cases_Bool (agree first.name name)) [
  | inl it ↦
      let e : Some (first, held) ≡ Some (table, rows) = rw it at found in
      let same : first ≡ table = ap (table_in first) e in
      rw (it, it, same) refl
  | inr other ↦
      let rest : table_named name others ≡ Some (table, rows) = rw other at found in
      rw (other, other) (rows_found name new others table rows rest)
]
rows_found name new ((rowid, Other kind named on) ∷ others) table rows found = rows_found name new others table rows found

-- the table is open with its other rows
pub open_with : {P : Type 0} (g : Ghosts P) (s new : P) (pages : Paging) (root : ℕ) (t : TableOf) (rows : List Row) → IsOpen g s pages root t → IsServed g t.opening new pages (with_rows t.name rows t.db)
    → IsOpen g new pages root (table_with t rows)
open_with g s new pages root t rows is served = record {
  lists = is.lists;
  served = served;
  named = is.named;
  free = is.free;
  root_is = is.root_is;
  found = rows_found t.name rows t.db t.entry.table t.rows is.found;
}

all_more : (front : List Row) (row : Row) (rows : List Row) → with_all (front ++ (row ∷ [])) rows ≡ with_changed row (with_all front rows)
all_more [] row rows = refl
all_more (n ∷ new) row rows = all_more new row (with_changed n rows)

pub front_is : {X : Type 0} (left : List X) (first : X) (n : ℕ) → 1 ≤ length left → first ≡ get_or left 0 first → n ≡ length left - 1
    → left ≡ first ∷ take n (drop 1 left)
front_is [] first n some f e = absurd (omega arith)
front_is (x ∷ xs) first n some f e =
    let all : length xs ≤ n = omega arith in
    rw (take_all n xs all, f) refl

-- nothing is changed yet
pub changing_none : {P : Type 0} (g : Ghosts P) → ShiftsNone g → RootHasOne → (s : P) (root : ℕ) (all : List StoredRow) → Keeps g s s → g.refusal s ≡ None → All IsShort all → IsChanging g s s root all all
changing_none g idle one s root all kept refusal short = record {
  kept = kept;
  refusal = refusal;
  short = short;
  part = λ pages t agrees is rows are.
      let same = with_same t.name t.db t.entry.table t.rows is.found in
      let it : t ≡ table_with t t.rows = sym (own_rows t same) in
      record {
        front = [];
        others = rows;
        split = refl;
        are = are;
        count = 0;
        counted = omega arith;
        is = subst (IsOpen g s pages root) it is;
        shifts = subst (λ (x : TableOf). ShiftsOwn g s s pages t x 0) it (λ alone later.
            let tree = one (g.used s) (sight g s pages) (root_of_table t.entry) alone.tree later.tree alone.has.grown later.has.grown in
            let own = pages_of_tree (g.used s) (sight g s pages) alone.tree in
            subst (λ x. Shifts g s s pages own (pages_of_tree (g.used s) (sight g s pages) x) 0) tree (idle s pages own is.served.ready));
      };
}

pub record HaveLaws {P : Type 0} (g : Ghosts P) : Type 0 where
  pub both : ShiftsBoth g
  pub spares : SparesBoth g
  pub more : SparesMore g
  pub table : ListsStand g → ChangesTable g

-- the rows that are left begin with one
pub record IsNext {P : Type 0} (g : Ghosts P) (old now : P) (pages : Paging) (root : ℕ) (t : TableOf) (all : List StoredRow) (first : StoredRow) (rest : List StoredRow) (rows : List Row) : Type 0 where
  pub part : IsPart g old now pages root t all (first ∷ rest) rows
  pub row : Row
  pub others : List Row
  pub split : part.others ≡ row ∷ others
  pub is : IsTableRow t.entry.table (stored_of first) row
  pub are : AreTableRows t.entry.table (map stored_of rest) others

next_by : {P : Type 0} (g : Ghosts P) (old now : P) (pages : Paging) (root : ℕ) (t : TableOf) (all : List StoredRow) (first : StoredRow) (rest : List StoredRow) (rows others : List Row)
    → (part : IsPart g old now pages root t all (first ∷ rest) rows) → part.others ≡ others → AreTableRows t.entry.table (map stored_of (first ∷ rest)) others
    → IsNext g old now pages root t all first rest rows
next_by g old now pages root t all first rest rows [] part e are = absurd are
next_by g old now pages root t all first rest rows (row ∷ others) part e are = record { part = part; row = row; others = others; split = e; is = are.0; are = are.1 }

pub next : {P : Type 0} (g : Ghosts P) (old now : P) (pages : Paging) (root : ℕ) (t : TableOf) (all : List StoredRow) (first : StoredRow) (rest : List StoredRow) (rows : List Row)
    → IsPart g old now pages root t all (first ∷ rest) rows → IsNext g old now pages root t all first rest rows
next g old now pages root t all first rest rows part = next_by g old now pages root t all first rest rows part.others part refl part.are

-- one row more is changed
pub changing_more : {P : Type 0} (g : Ghosts P) → HaveLaws g → (old now new : P) (pages : Paging) (root : ℕ) (t : TableOf) (all : List StoredRow) (first : StoredRow) (rest : List StoredRow) (rows : List Row)
    → IsOpen g old pages root t → g.used now ≡ g.used old → (n : IsNext g old now pages root t all first rest rows)
    → Turns g now new pages (table_with t (with_all n.part.front t.rows)) n.row (most_pages (g.used now) (length first.record))
    → IsPart g old new pages root t all rest rows
changing_more g laws old now new pages root t all first rest rows is used n turns =
    let part = n.part in
    let held = with_all part.front t.rows in
    let mid = table_with t held in
    let front = part.front ++ (n.row ∷ []) in
    let most : most_pages (g.used now) (length first.record) ≡ most_pages (g.used old) (length first.record) = ap (λ (u : ℕ). most_pages u (length first.record)) used in
    let then_ : table_with mid (with_changed n.row held) ≡ table_with t (with_all front t.rows) =
    ap (λ (db : Database). record { opening = t.opening; db = db; name = t.name; entry = t.entry; rows = with_changed n.row held }) (rows_twice t.name held (with_changed n.row held) t.db)
    ∙ ap (table_with t) (sym (all_more part.front n.row t.rows)) in
    let open_ = open_with g now new pages root mid (with_changed n.row held) part.is turns.served in
    record {
      front = front;
      others = n.others;
      split = part.split ∙ ap (λ (rs : List Row). part.front ++ rs) n.split ∙ sym (append_assoc part.front (n.row ∷ []) n.others);
      are = n.are;
      count = part.count + most_pages (g.used now) (length first.record);
      counted = (let e = part.counted in omega (arith, e, most));
      is = subst (IsOpen g new pages root) then_ open_;
      shifts = subst (λ (x : TableOf). ShiftsOwn g old new pages t x (part.count + most_pages (g.used now) (length first.record))) then_ (λ alone later.
          let between = alone_there g now pages root mid laws.table part.is in
          laws.both old now new pages _ _ _ part.count (most_pages (g.used now) (length first.record)) (part.shifts alone between) (turns.shifts between later));
    }

-- a turn that fails
pub changing_fails : {P : Type 0} (g : Ghosts P) → HaveLaws g → (old now new : P) (pages : Paging) (root : ℕ) (t : TableOf) (all : List StoredRow) (first : StoredRow) (rest : List StoredRow) (rows : List Row)
    → g.used now ≡ g.used old → (part : IsPart g old now pages root t all (first ∷ rest) rows) → SparesOthers g now new pages (table_with t (with_all part.front t.rows)) (length first.record)
    → SparesRows g old new pages t (pages_of_rows (g.used old) all)
changing_fails g laws old now new pages root t all first rest rows used part few alone =
    let mid = table_with t (with_all part.front t.rows) in
    let between = alone_there g now pages root mid laws.table part.is in
    let most : most_pages (g.used now) (length first.record) ≡ most_pages (g.used old) (length first.record) = ap (λ (u : ℕ). most_pages u (length first.record)) used in
    let own = pages_of_tree (g.used old) (sight g old pages) alone.tree in
    laws.more old new pages own (part.count + most_pages (g.used now) (length first.record)) (pages_of_rows (g.used old) all) (let e = part.counted in omega (arith, e, most))
    (laws.spares old now new pages own _ part.count (most_pages (g.used now) (length first.record)) (part.shifts alone between) (few between))

-- no row is left
pub changing_done : {P : Type 0} (g : Ghosts P) (old now : P) (pages : Paging) (root : ℕ) (t : TableOf) (all : List StoredRow) (rows : List Row) → IsPart g old now pages root t all [] rows
    → IsServed g t.opening now pages (with_rows t.name (with_all rows t.rows) t.db)
changing_done g old now pages root t all rows part = done part.others part.are part.split
  where
    done : (others : List Row) → AreTableRows t.entry.table [] others → rows ≡ part.front ++ others → IsServed g t.opening now pages (with_rows t.name (with_all rows t.rows) t.db)
    done [] are split = subst (λ (rs : List Row). IsServed g t.opening now pages (with_rows t.name (with_all rs t.rows) t.db)) (sym (split ∙ append-nil part.front)) part.is.served
    done (r ∷ rs) are split = absurd are

pub done_spares : {P : Type 0} (g : Ghosts P) → HaveLaws g → (old now : P) (pages : Paging) (root : ℕ) (t : TableOf) (all left : List StoredRow) (rows : List Row) → IsPart g old now pages root t all left rows
    → SparesRows g old now pages t (pages_of_rows (g.used old) all)
done_spares g laws old now pages root t all left rows part alone =
    let between = alone_there g now pages root (table_with t (with_all part.front t.rows)) laws.table part.is in
    laws.more old now pages (pages_of_tree (g.used old) (sight g old pages) alone.tree) part.count (pages_of_rows (g.used old) all) (let e = part.counted in omega (arith, e)) (part.shifts alone between).spares

pub keeps_none : {P : Type 0} (g : Ghosts P) (s : P) → Keeps g s s
keeps_none g s = record {
  earlier = λ pages agrees. agrees;
  told = refl;
  size = refl;
  used = refl;
  limit = refl;
  sealed = refl;
  count = omega arith;
}

pub keeps_all : {P : Type 0} (g : Ghosts P) (a b c : P) → Keeps g a b → Keeps g b c → Keeps g a c
keeps_all g a b c x y = record {
  earlier = λ pages agrees. x.earlier pages (y.earlier pages agrees);
  told = y.told ∙ x.told;
  size = y.size ∙ x.size;
  used = y.used ∙ x.used;
  limit = y.limit ∙ x.limit;
  sealed = y.sealed ∙ x.sealed;
  count = omega (arith, x.count, y.count);
}

pub empty_is : {X : Type 0} (xs : List X) → length xs ≤ 0 → xs ≡ []
empty_is [] none = refl
empty_is (x ∷ xs) none = absurd (omega (arith, none))
