-- The trees of the tables of a catalog, and those of the rows of the schema.
use Rattle.std.proofs.Common.{◌≡◌, ◌≢◌, ℕ, ℤ, Bool, true, false, not, ◌&&◌, ◌==◌, List, [], ◌∷◌, ◌++◌, Option, Some, None, All, is_some, refl, sym, ◌∙◌, subst, append_assoc, arith}
use Rattle.std.specs.List.{find, flat_map}
use Rattle.std.proofs.lemmas.Bool.{false≢true}
use Rattle.std.proofs.lemmas.List.Elements.{All-cons, All-head, All-nil, All-tail}
use Rattle.spe_model.specs.declared.table.Closed.{Closed}
use Rattle.spe_model.specs.declared.table.Closed.TheVariants.{Reserved, Definition}
use Rattle.spe_model.specs.Database.{Database}
use Rattle.spe_model.specs.Paging.{Paging}
use Rattle.spe_model.specs.Schema.{SchemaRow, declaration_in, entry_of, is_closed_by, is_declared, is_index_page, is_rooted, is_table_row, reasons, root_of, table_of}
use Rattle.spe_model.specs.Served.{AreFilled, HasCells, IsFilled}
use Rattle.spe_model.specs.Standing.{AreEntries, HasTree, Tree, Whether, all_pages, pages_of_some}
use Rattle.spe_model.specs.Tree.{IsTableTree}
use Rattle.spe_space.specs.Outcome.{IsInside}
use Rattle.spe_catalog.specs.Reader.{tables_of}
use Rattle.spe_opening.specs.Below.{IsEntryFilled, IsEntryStanding, IsFilledUnder, StandsUnder}
use Rattle.spe_opening.proofs.ListLemmas.{all_behind, all_front}
use Rattle.spe_opening.proofs.HeightLemmas.{one_height}

and_both : (a b : Bool) → (a && b) ≡ true → (a ≡ true) × (b ≡ true)
and_both true b h = (refl, h)
and_both false b h = absurd (false≢true h)

not_false : (b : Bool) → not b ≡ false → b ≡ true
not_false true h = refl
not_false false h = absurd (false≢true (sym h))

-- an open table is closed for no reason
no_reason : (test : Closed → Bool) → is_some (find test reasons) ≡ false → test Definition ≡ false
no_reason test h = go (test Reserved) (test Definition) refl refl h
  where
    go : (a b : Bool) → test Reserved ≡ a → test Definition ≡ b → is_some (find test reasons) ≡ false → test Definition ≡ false
    go a false e f h = f
    go true true e f h = absurd (false≢true (sym (rw e at h)))
    go false true e f h = absurd (false≢true (sym (rw (e, f) at h)))

rooted_if : (f : ℕ → Bool) (all : List SchemaRow) (row : SchemaRow) → is_closed_by f all row Definition ≡ false → is_rooted f row.rootpage ≡ true
unfolding is_closed_by
rooted_if f all row h = (and_both (is_declared (declaration_in row)) (is_rooted f row.rootpage) (not_false _ h)).1

not_root : (n : ℕ) → not (n == 0) ≡ true → n ≢ 0
not_root n h e = absurd (grind arith)

-- The tree of a table that is open.
record IsOpenTree (usable : ℕ) (pages : Paging) (root : ℕ) (grown : Option Tree) : Type 0 where
  t : Tree
  is : grown ≡ Some t
  root_is : t.root ≡ root
  tree : IsTableTree usable pages t.height root

rooted_tree : (usable : ℕ) (pages : Paging) (page : Option ℤ) (grown : Option Tree) → HasTree usable pages (root_of page) grown → is_rooted (is_index_page pages) page ≡ true
    → IsOpenTree usable pages (root_of page) grown
rooted_tree usable pages page None tree rooted =
    absurd (not_root (root_of page) (and_both (not (root_of page == 0)) (not (is_index_page pages (root_of page))) rooted).0 tree)
rooted_tree usable pages page (Some t) tree rooted =
    let table : t.table ≡ true = tree.2 ∙ (and_both (not (root_of page == 0)) (not (is_index_page pages (root_of page))) rooted).1 in
    let grown : IsTableTree usable pages t.height t.root = rw table at tree.3 in
    record { t = t; is = refl; root_is = tree.1; tree = subst (IsTableTree usable pages t.height) tree.1 grown }

-- whether the table of a row is closed
abbrev is_shut : (pages : Paging) (all : List SchemaRow) (row : SchemaRow) → Bool
is_shut pages all row = is_some (table_of (is_index_page pages) all row).closed

open_tree : (usable : ℕ) (pages : Paging) (all : List SchemaRow) (row : SchemaRow) (grown : Option Tree) → HasTree usable pages (root_of row.rootpage) grown → is_shut pages all row ≡ false
    → IsOpenTree usable pages (root_of row.rootpage) grown
open_tree usable pages all row grown tree e =
    rooted_tree usable pages row.rootpage grown tree (rooted_if (is_index_page pages) all row (no_reason (is_closed_by (is_index_page pages) all row) e))

row_stands : (usable count : ℕ) (pages : Paging) (all : List SchemaRow) (row : SchemaRow) (grown : Option Tree) (more : List ℕ) → HasTree usable pages (root_of row.rootpage) grown
    → All (IsInside count) (pages_of_some usable pages grown ++ more) → IsEntryStanding usable count pages (entry_of (is_index_page pages) all row)
row_stands usable count pages all row grown more tree within = go (is_shut pages all row) refl
  where
    go : (shut : Bool) → is_shut pages all row ≡ shut → Whether shut (Unit {0}) (StandsUnder usable count pages (root_of row.rootpage))
    go true e = tt
    go false e =
        let open_ = open_tree usable pages all row grown tree e in
        let own : All (IsInside count) (pages_of_some usable pages (Some open_.t)) =
        subst (λ (o : Option Tree). All (IsInside count) (pages_of_some usable pages o)) open_.is (all_front (IsInside count) (pages_of_some usable pages grown) more within) in
        record { height = open_.t.height; tree = open_.tree; within = subst (λ (n : ℕ). All (IsInside count) (all_pages usable pages open_.t.height n)) open_.root_is own }

-- a row of a table with a tree that is filled
row_filled : (usable : ℕ) (pages : Paging) (all : List SchemaRow) (row : SchemaRow) (grown : Option Tree) → HasTree usable pages (root_of row.rootpage) grown → is_table_row row ≡ true
    → IsFilled usable pages all row grown → IsEntryFilled usable pages (entry_of (is_index_page pages) all row)
row_filled usable pages all row grown tree table filled = go (is_shut pages all row) refl
  where
    go : (shut : Bool) → is_shut pages all row ≡ shut → Whether shut (Unit {0}) (IsFilledUnder usable pages (root_of row.rootpage))
    go true e = tt
    go false e = λ height other.
        let open_ = open_tree usable pages all row grown tree e in
        let own : Whether (is_table_row row && not (is_shut pages all row)) (HasCells usable pages open_.t.height open_.t.root) (Unit {0}) = subst (IsFilled usable pages all row) open_.is filled in
        let cells : HasCells usable pages open_.t.height open_.t.root = rw (table, e) at own in
        let high = one_height usable pages open_.t.height height 0 18446744073709551616 0 18446744073709551616 (root_of row.rootpage) open_.tree.1 other.1 in
        subst (λ (h : ℕ). HasCells usable pages h (root_of row.rootpage)) high (subst (HasCells usable pages open_.t.height) open_.root_is cells)

row_fills : (usable : ℕ) (pages : Paging) (all : List SchemaRow) (row : SchemaRow) (grown : Option Tree) → HasTree usable pages (root_of row.rootpage) grown → is_table_row row ≡ true
    → IsEntryFilled usable pages (entry_of (is_index_page pages) all row) → IsFilled usable pages all row grown
row_fills usable pages all row None tree table filled = tt
row_fills usable pages all row (Some t) tree table filled = go (is_shut pages all row) refl
  where
    go : (shut : Bool) → is_shut pages all row ≡ shut → Whether (is_table_row row && not (is_shut pages all row)) (HasCells usable pages t.height t.root) (Unit {0})
    go true e = rw (table, e) tt
    go false e =
        let open_ = open_tree usable pages all row (Some t) tree e in
        let under : IsFilledUnder usable pages (root_of row.rootpage) = rw e at filled in
        let one : open_.t ≡ t = let both = open_.is in cc in
        let cells : HasCells usable pages open_.t.height open_.t.root = subst (HasCells usable pages open_.t.height) (sym open_.root_is) (under open_.t.height open_.tree) in
        rw (table, e) (subst (λ (x : Tree). HasCells usable pages x.height x.root) one cells)

-- pages of the trees behind the first
rest_inside : (usable count : ℕ) (pages : Paging) (t : Option Tree) (ts : List (Option Tree)) (more : List ℕ)
    → All (IsInside count) (flat_map (pages_of_some usable pages) (t ∷ ts) ++ more)
    → All (IsInside count) (pages_of_some usable pages t ++ (flat_map (pages_of_some usable pages) ts ++ more))
rest_inside usable count pages t ts more all =
    subst (All (IsInside count)) (append_assoc (pages_of_some usable pages t) (flat_map (pages_of_some usable pages) ts) more) all

-- the tables of rows that stand for objects have trees
pub entries_stand : (usable count : ℕ) (pages : Paging) (all rows : List SchemaRow) (trees : List (Option Tree)) (db : Database) (more : List ℕ)
    → AreEntries usable pages all rows trees db → All (IsInside count) (flat_map (pages_of_some usable pages) trees ++ more)
    → All (IsEntryStanding usable count pages) (tables_of (is_index_page pages) all rows)
entries_stand usable count pages all [] trees db more h within = All-nil (IsEntryStanding usable count pages)
entries_stand usable count pages all (r ∷ rs) [] db more h within = absurd h
entries_stand usable count pages all (r ∷ rs) (t ∷ ts) [] more h within = absurd h
entries_stand usable count pages all (r ∷ rs) (t ∷ ts) (o ∷ os) more h within =
    go (is_table_row r) refl (entries_stand usable count pages all rs ts os more h.1 (all_behind (IsInside count) (pages_of_some usable pages t) _ both))
  where
    both : All (IsInside count) (pages_of_some usable pages t ++ (flat_map (pages_of_some usable pages) ts ++ more))
    both = rest_inside usable count pages t ts more within

    go : (b : Bool) → is_table_row r ≡ b → All (IsEntryStanding usable count pages) (tables_of (is_index_page pages) all rs)
        → All (IsEntryStanding usable count pages) (tables_of (is_index_page pages) all (r ∷ rs))
    go true e rest =
        let own = row_stands usable count pages all r t _ h.0.tree both in
        rw e (All-cons (IsEntryStanding usable count pages) (entry_of (is_index_page pages) all r) (tables_of (is_index_page pages) all rs) own rest)
    go false e rest = rw e rest

-- trees of the schema that are filled are those of its tables
pub entries_filled : (usable : ℕ) (pages : Paging) (all rows : List SchemaRow) (trees : List (Option Tree)) (db : Database)
    → AreEntries usable pages all rows trees db → AreFilled usable pages all rows trees → All (IsEntryFilled usable pages) (tables_of (is_index_page pages) all rows)
entries_filled usable pages all [] trees db h filled = All-nil (IsEntryFilled usable pages)
entries_filled usable pages all (r ∷ rs) [] db h filled = absurd h
entries_filled usable pages all (r ∷ rs) (t ∷ ts) [] h filled = absurd h
entries_filled usable pages all (r ∷ rs) (t ∷ ts) (o ∷ os) h filled = go (is_table_row r) refl (entries_filled usable pages all rs ts os h.1 filled.1)
  where
    go : (b : Bool) → is_table_row r ≡ b → All (IsEntryFilled usable pages) (tables_of (is_index_page pages) all rs) → All (IsEntryFilled usable pages) (tables_of (is_index_page pages) all (r ∷ rs))
    go true e rest =
        let own = row_filled usable pages all r t h.0.tree e filled.0 in
        rw e (All-cons (IsEntryFilled usable pages) (entry_of (is_index_page pages) all r) (tables_of (is_index_page pages) all rs) own rest)
    go false e rest = rw e rest

-- a row of no table asks nothing
no_table : (usable : ℕ) (pages : Paging) (all : List SchemaRow) (row : SchemaRow) (grown : Option Tree) → is_table_row row ≡ false → IsFilled usable pages all row grown
no_table usable pages all row None e = tt
no_table usable pages all row (Some t) e = rw e tt

pub entries_fill : (usable : ℕ) (pages : Paging) (all rows : List SchemaRow) (trees : List (Option Tree)) (db : Database)
    → AreEntries usable pages all rows trees db → All (IsEntryFilled usable pages) (tables_of (is_index_page pages) all rows) → AreFilled usable pages all rows trees
entries_fill usable pages all [] trees db h filled = tt
entries_fill usable pages all (r ∷ rs) [] db h filled = absurd h
entries_fill usable pages all (r ∷ rs) (t ∷ ts) [] h filled = absurd h
entries_fill usable pages all (r ∷ rs) (t ∷ ts) (o ∷ os) h filled = go (is_table_row r) refl (λ rest. entries_fill usable pages all rs ts os h.1 rest)
  where
    go : (b : Bool) → is_table_row r ≡ b → (All (IsEntryFilled usable pages) (tables_of (is_index_page pages) all rs) → AreFilled usable pages all rs ts)
        → IsFilled usable pages all r t × AreFilled usable pages all rs ts
    go true e more =
        let both : All (IsEntryFilled usable pages) (entry_of (is_index_page pages) all r ∷ tables_of (is_index_page pages) all rs) = rw e at filled in (
          row_fills usable pages all r t h.0.tree e (All-head (IsEntryFilled usable pages) (entry_of (is_index_page pages) all r) (tables_of (is_index_page pages) all rs) both),
          more (All-tail (IsEntryFilled usable pages) (entry_of (is_index_page pages) all r) (tables_of (is_index_page pages) all rs) both),
        )
    go false e more = (no_table usable pages all r t e, more (rw e at filled))
