-- Rows of a table that are taken out, one after the other.
use Rattle.std.proofs.Common.{◌≡◌, ℕ, ℤ, pos, ◌-◌, ◌≤◌, false, List, [], ◌∷◌, length, take, drop, get_or, Option, None, is_some, refl, sym, ap, ◌∙◌, subst, inl, inr, arith}
use Rattle.std.specs.Prelude.{not, if◌then◌else◌}
use Rattle.std.specs.List.{list_any}
use Rattle.std.specs.Ordering.{int_eq}
use Rattle.std.proofs.lemmas.Bool.{cases_Bool}
use Rattle.std.proofs.lemmas.List.{take_all}
use Rattle.spe_model.specs.declared.catalog.Entry.{Entry}
use Rattle.spe_model.specs.declared.table.TableDef.{TableDef}
use Rattle.spe_model.specs.Database.{Database, Row}
use Rattle.spe_model.specs.Paging.{Paging}
use Rattle.spe_model.specs.Rows.{with_rows}
use Rattle.spe_model.specs.Served.{IsGrown}
use Rattle.spe_model.specs.Standing.{AreTableRows, Tree, pages_of_tree}
use Rattle.spe_model.specs.Tree.{tree_rows}
use Rattle.spe_space.specs.declared.pages.Pages.{Ghosts}
use Rattle.spe_space.specs.Calls.{Keeps, sight}
use Rattle.spe_frame.specs.Held.{Shifts}
use Rattle.spe_frame.specs.Laws.{ShiftsNone}
use Rattle.spe_cut.specs.Gone.{without_row}
use Rattle.spe_served.specs.Change.{IsServed, RootHasOne, root_of_table}
use Rattle.spe_slow.specs.Answers.{is_taken}
use Rattle.spe_slow.proofs.TablesLemmas.{with_same}
use Rattle.spe_insert.specs.Insert.{Unmatched, marked_root}
use Rattle.spe_delete.specs.Delete.{Missing}
use Rattle.spe_delete.specs.Row.{Taken}
use Rattle.spe_modify.specs.Row.{IsOpen, LacksRowid, ShiftsOwn, TableOf, table_with}
use Rattle.spe_modify.specs.Rows.{SparesRows}
use Rattle.spe_modify.specs.Removal.{Goes, IsPartGone, IsRemoving, RemovesRow, RemovesRows, without, without_all}
use Rattle.spe_modify.proofs.ManyLemmas.{HaveLaws, first_other, open_with, own_rows, rows_twice}
use Rattle.spe_modify.proofs.RowsLemmas.{same_rowid, taken_is}
use Rattle.spe_modify.proofs.ServedLemmas.{Alone, alone_there, rows_are}

-- stored rows and those of the table stay so without one
rows_gone : (table : TableDef) (rowid : ℤ) (xs : List (ℤ × List ℕ)) (rs : List Row) → AreTableRows table xs rs → AreTableRows table (without_row rowid xs) (without rowid rs)
rows_gone table rowid [] [] are = tt
rows_gone table rowid [] (r ∷ rs) are = absurd are
rows_gone table rowid (x ∷ xs) [] are = absurd are
rows_gone table rowid (x ∷ xs) (r ∷ rs) are =
    let same : int_eq r.0 rowid ≡ int_eq x.0 rowid = ap (λ (k : ℤ). int_eq k rowid) (same_rowid table x r are.0) in
    let rest = rows_gone table rowid xs rs are.1 in
    elim (cases_Bool (int_eq x.0 rowid)) [
      | inl here ↦ rw (same, here) rest
      | inr other ↦ rw (same, other) (are.0, rest)
    ]

-- the tree of the table then is its tree
shifted : {P : Type 0} (g : Ghosts P) (s new : P) (pages : Paging) (root : ℕ) (t then_ : TableOf) (rowid : ℤ) → RootHasOne → t.entry.root ≡ root → then_.entry ≡ t.entry
    → (alone : Alone g s pages t) → Taken g s new pages root alone.tree rowid → (later : Alone g new pages then_)
    → Shifts g s new pages (pages_of_tree (g.used s) (sight g s pages) alone.tree) (pages_of_tree (g.used new) (sight g new pages) later.tree) 0
shifted g s new pages root t then_ rowid one root_is same alone taken later =
    let grown : IsGrown (g.used new) (sight g new pages) (marked_root root) later.tree =
    subst (λ (n : ℕ). IsGrown (g.used new) (sight g new pages) (marked_root n) later.tree) (ap (λ (e : Entry). e.root) same ∙ root_is) later.has.grown in
    let is = one (g.used new) (sight g new pages) (marked_root root) alone.tree later.tree taken.grown grown in
    subst (λ (x : Tree). Shifts g s new pages (pages_of_tree (g.used s) (sight g s pages) alone.tree) (pages_of_tree (g.used new) (sight g new pages) x) 0) is taken.shifts

pub removes : {P : Type 0} (g : Ghosts P) (s new : P) (pages : Paging) (root : ℕ) (t : TableOf) (rowid : ℤ) → RootHasOne
    → IsOpen g s pages root t → (alone : Alone g s pages t) → ((alone : Alone g s pages t) → Taken g s new pages root alone.tree rowid) → RemovesRow g s new pages t rowid
removes g s new pages root t rowid one is alone all =
    let taken = all alone in
    let table = t.entry.table in
    let stored = tree_rows (g.used s) (sight g s pages) alone.tree.height alone.tree.root in
    let are = rows_are g s pages root t is alone in
    record {
      present = taken_is table rowid stored t.rows are ∙ ap (λ (o : Option (List ℕ)). is_some o) taken.present;
      gone = record {
        served = alone.again new alone.tree 0 (without rowid t.rows) taken.shifts (record {
          sort = alone.has.sort;
          grown = subst (λ (n : ℕ). IsGrown (g.used new) (sight g new pages) (marked_root n) alone.tree) (sym is.root_is) taken.grown;
          rows_are = subst (λ (xs : List (ℤ × List ℕ)). AreTableRows table xs (without rowid t.rows)) (sym taken.rows) (rows_gone table rowid stored t.rows are);
        });
        shifts = λ it later. shifted g s new pages root t (table_with t (without rowid t.rows)) rowid one is.root_is refl it (all it) later;
      };
    }

pub unmatched : {P : Type 0} (g : Ghosts P) (s new : P) (pages : Paging) (tree : Tree) (rowid : ℤ) → Missing g s new pages tree rowid → Unmatched g s new pages tree rowid
unmatched g s new pages tree rowid missing = record { absent = missing.absent; shifts = missing.shifts }

-- no row has the rowid, so all stay
none_gone : (rowid : ℤ) (rows : List Row) → is_taken rows rowid ≡ false → without rowid rows ≡ rows
none_gone rowid [] free = refl
none_gone rowid (r ∷ rs) free =
    let both = first_other (int_eq r.0 rowid) (is_taken rs rowid) free in
    rw (both.0) (ap (λ (xs : List Row). r ∷ xs) (none_gone rowid rs both.1))

pub passed : {P : Type 0} (g : Ghosts P) (s new : P) (pages : Paging) (root : ℕ) (t : TableOf) (rowid : ℤ) → IsOpen g s pages root t → LacksRowid g s new pages t rowid → Goes g s new pages t rowid
passed g s new pages root t rowid is lacks =
    let rows : without rowid t.rows ≡ t.rows = none_gone rowid t.rows lacks.absent in
    let same = with_same t.name t.db t.entry.table t.rows is.found in
    let then_ : t ≡ table_with t (without rowid t.rows) = sym (ap (table_with t) rows ∙ own_rows t same) in
    record {
      served = subst (λ (x : TableOf). IsServed g x.opening new pages x.db) then_ lacks.served;
      shifts = subst (λ (x : TableOf). ShiftsOwn g s new pages t x 0) then_ lacks.shifts;
    }

-- one of some rowids, and the others
first_gone : (k : ℤ) (ks : List ℤ) (rows : List Row) → without_all (k ∷ ks) rows ≡ without_all ks (without k rows)
first_gone k ks [] = refl
first_gone k ks (r ∷ rs) =
    let rest = first_gone k ks rs in
    elim (cases_Bool (int_eq r.0 k)) [
      | inl here ↦ rw here rest
      | inr other ↦ rw other (ap (λ (xs : List Row). if not (list_any (λ (n : ℤ). int_eq r.0 n) ks) then r ∷ xs else xs) rest)
    ]

all_stay : (rows : List Row) → without_all [] rows ≡ rows
all_stay [] = refl
all_stay (r ∷ rs) = ap (λ (xs : List Row). r ∷ xs) (all_stay rs)

-- the rowids that are left begin with one
pub led_is : (left : List ℤ) (n : ℕ) → 1 ≤ length left → n ≡ length left - 1 → left ≡ get_or left 0 (pos 0) ∷ take n (drop 1 left)
led_is [] n some e = absurd (omega arith)
led_is (k ∷ ks) n some e =
    let all : length ks ≤ n = omega arith in
    rw (take_all n ks all) refl

-- nothing is gone yet
pub removing_none : {P : Type 0} (g : Ghosts P) → ShiftsNone g → RootHasOne → (s : P) (root : ℕ) (all : List ℤ) → Keeps g s s → g.refusal s ≡ None → IsRemoving g s s root all all
removing_none g idle one s root all kept refusal = record {
  kept = kept;
  refusal = refusal;
  part = λ pages t agrees is.
      let same = with_same t.name t.db t.entry.table t.rows is.found in
      let it : t ≡ table_with t t.rows = sym (own_rows t same) in
      record {
        rows = t.rows;
        rest = refl;
        is = subst (IsOpen g s pages root) it is;
        shifts = subst (λ (x : TableOf). ShiftsOwn g s s pages t x 0) it (λ alone later.
            let tree = one (g.used s) (sight g s pages) (root_of_table t.entry) alone.tree later.tree alone.has.grown later.has.grown in
            let own = pages_of_tree (g.used s) (sight g s pages) alone.tree in
            subst (λ (x : Tree). Shifts g s s pages own (pages_of_tree (g.used s) (sight g s pages) x) 0) tree (idle s pages own is.served.ready));
      };
}

-- one row more is gone
pub removing_more : {P : Type 0} (g : Ghosts P) → HaveLaws g → (old now new : P) (pages : Paging) (root : ℕ) (t : TableOf) (all : List ℤ) (first : ℤ) (rest : List ℤ)
    → (part : IsPartGone g old now pages root t all (first ∷ rest)) → Goes g now new pages (table_with t part.rows) first → IsPartGone g old new pages root t all rest
removing_more g laws old now new pages root t all first rest part goes =
    let mid = table_with t part.rows in
    let rows = without first part.rows in
    let then_ : table_with mid rows ≡ table_with t rows =
    ap (λ (db : Database). record { opening = t.opening; db = db; name = t.name; entry = t.entry; rows = rows }) (rows_twice t.name part.rows rows t.db) in
    let open_ = open_with g now new pages root mid rows part.is goes.served in
    record {
      rows = rows;
      rest = sym (first_gone first rest part.rows) ∙ part.rest;
      is = subst (IsOpen g new pages root) then_ open_;
      shifts = subst (λ (x : TableOf). ShiftsOwn g old new pages t x 0) then_ (λ alone later.
          let between = alone_there g now pages root mid laws.table part.is in
          laws.both old now new pages _ _ _ 0 0 (part.shifts alone between) (goes.shifts between later));
    }

-- a turn that fails
pub removing_fails : {P : Type 0} (g : Ghosts P) → HaveLaws g → (old now new : P) (pages : Paging) (root : ℕ) (t : TableOf) (all left : List ℤ)
    → (part : IsPartGone g old now pages root t all left) → SparesRows g now new pages (table_with t part.rows) 0 → SparesRows g old new pages t 0
removing_fails g laws old now new pages root t all left part few alone =
    let between = alone_there g now pages root (table_with t part.rows) laws.table part.is in
    laws.spares old now new pages (pages_of_tree (g.used old) (sight g old pages) alone.tree) _ 0 0 (part.shifts alone between) (few between)

-- no rowid is left
pub removing_done : {P : Type 0} (g : Ghosts P) (old now : P) (pages : Paging) (root : ℕ) (t : TableOf) (all : List ℤ) → IsPartGone g old now pages root t all [] → RemovesRows g now pages t all
removing_done g old now pages root t all part =
    subst (λ (rows : List Row). IsServed g t.opening now pages (with_rows t.name rows t.db)) (sym (all_stay part.rows) ∙ part.rest) part.is.served

pub done_spares : {P : Type 0} (g : Ghosts P) → HaveLaws g → (old now : P) (pages : Paging) (root : ℕ) (t : TableOf) (all left : List ℤ) → IsPartGone g old now pages root t all left
    → SparesRows g old now pages t 0
done_spares g laws old now pages root t all left part alone =
    let between = alone_there g now pages root (table_with t part.rows) laws.table part.is in
    (part.shifts alone between).spares
