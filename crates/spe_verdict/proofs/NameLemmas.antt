-- Names of tables, which differ where none is that of a table before it.
use Rattle.std.proofs.Common.{◌≡◌, ℕ, ℤ, List, [], ◌∷◌, ◌++◌, filter, map, refl, sym, ap, ◌∙◌, Bool, true, false, ⊎_elim}
use Rattle.std.specs.Prelude.{◌&&◌, ◌||◌, not, int_lt}
use Rattle.std.specs.List.{list_any}
use Rattle.std.proofs.lemmas.Bool.{and_from, and_parts, cases_Bool, not-true, not_from_false, or_from, or_parts}
use Rattle.std.proofs.lemmas.List.{append-nil, map-append}
use Rattle.std.proofs.lemmas.List.Elements.{filter-append}
use Rattle.std.proofs.lemmas.List.Folds.{list_any-append}
use Rattle.std.proofs.lemmas.List.Sums.{take_while-cons}
use Rattle.spe_model.specs.Agree.{agree}
use Rattle.spe_model.specs.Definition.{are_distinct}
use Rattle.spe_model.specs.Schema.{SchemaRow, have_own_names, is_table_row}
use Rattle.spe_model.specs.Verdict.{before}
use Rattle.spe_verdict.proofs.ClimbLemmas.{not_below_self}

distinct_snoc : (xs : List (List ℕ)) (n : List ℕ) → are_distinct xs ≡ true → list_any (λ m. agree m n) xs ≡ false → are_distinct (xs ++ n ∷ []) ≡ true
distinct_snoc [] n distinct none = refl
distinct_snoc (x ∷ xs) n distinct none =
    let parts = and_parts (not (list_any (agree x) xs)) (are_distinct xs) distinct in
    let apart = or_parts (agree x n) (list_any (λ m. agree m n) xs) none in
    let no_one : list_any (agree x) (xs ++ n ∷ []) ≡ false =
    list_any-append (agree x) xs (n ∷ []) ∙ or_from (list_any (agree x) xs) (agree x n || false) (not-true (list_any (agree x) xs) parts.0) (or_from (agree x n) false apart.0 refl) in
    and_from (not (list_any (agree x) (xs ++ n ∷ []))) (are_distinct (xs ++ n ∷ [])) (not_from_false (list_any (agree x) (xs ++ n ∷ [])) no_one) (distinct_snoc xs n parts.1 apart.1)

distinct_before : (xs : List (List ℕ)) (n : List ℕ) (ys : List (List ℕ)) → are_distinct (xs ++ n ∷ ys) ≡ true → list_any (λ m. agree m n) xs ≡ false
distinct_before [] n ys distinct = refl
distinct_before (x ∷ xs) n ys distinct =
    let parts = and_parts (not (list_any (agree x) (xs ++ n ∷ ys))) (are_distinct (xs ++ n ∷ ys)) distinct in
    let none = sym (list_any-append (agree x) xs (n ∷ ys)) ∙ not-true (list_any (agree x) (xs ++ n ∷ ys)) parts.0 in
    let both = or_parts (list_any (agree x) xs) (agree x n || list_any (agree x) ys) none in
    or_from (agree x n) (list_any (λ m. agree m n) xs) (or_parts (agree x n) (list_any (agree x) ys) both.1).0 (distinct_before xs n ys parts.1)

abbrev pub table_names : List SchemaRow → List (List ℕ)
table_names rows = map (λ (row : SchemaRow). row.name) (filter is_table_row rows)

-- a table among the rows has the row's name
abbrev pub has_twin : List SchemaRow → SchemaRow → Bool
has_twin rows row = list_any (λ (r : SchemaRow). is_table_row r && agree r.name row.name) rows

twin_names : (rows : List SchemaRow) (row : SchemaRow) → has_twin rows row ≡ list_any (λ m. agree m row.name) (table_names rows)
twin_names [] row = refl
twin_names (r ∷ rs) row = ⊎_elim
    (λ (is : is_table_row r ≡ true). rw (is, twin_names rs row) refl)
    (λ (is : is_table_row r ≡ false). rw (is, twin_names rs row) refl)
    (cases_Bool (is_table_row r))

names-append : (xs ys : List SchemaRow) → table_names (xs ++ ys) ≡ table_names xs ++ table_names ys
names-append xs ys = rw (filter-append is_table_row xs ys) (map-append (λ (row : SchemaRow). row.name) (filter is_table_row xs) (filter is_table_row ys))

pub own_names_more : (firsts : List SchemaRow) (row : SchemaRow)
    → have_own_names firsts ≡ true → not (is_table_row row && has_twin firsts row) ≡ true → have_own_names (firsts ++ row ∷ []) ≡ true
own_names_more firsts row own alone = ⊎_elim
    (λ (is : is_table_row row ≡ true).
    let none : has_twin firsts row ≡ false = not-true (has_twin firsts row) (rw is at alone) in
    let names : table_names (row ∷ []) ≡ row.name ∷ [] = rw is refl in
    ap are_distinct (names-append firsts (row ∷ [])) ∙ rw names (distinct_snoc (table_names firsts) row.name own (sym (twin_names firsts row) ∙ none)))
    (λ (is : is_table_row row ≡ false).
    let names : table_names (row ∷ []) ≡ [] = rw is refl in
    ap are_distinct (names-append firsts (row ∷ [])) ∙ rw names (ap are_distinct (append-nil (table_names firsts)) ∙ own))
    (cases_Bool (is_table_row row))

pub own_names_alone : (firsts : List SchemaRow) (row : SchemaRow) (others : List SchemaRow)
    → have_own_names (firsts ++ row ∷ others) ≡ true → not (is_table_row row && has_twin firsts row) ≡ true
own_names_alone firsts row others own = ⊎_elim
    (λ (is : is_table_row row ≡ true).
    let names : table_names (row ∷ others) ≡ row.name ∷ table_names others = rw is refl in
    let all : are_distinct (table_names firsts ++ row.name ∷ table_names others) ≡ true =
    ap (λ (ns : List (List ℕ)). are_distinct (table_names firsts ++ ns)) (sym names) ∙ sym (ap are_distinct (names-append firsts (row ∷ others))) ∙ own in
    let none : has_twin firsts row ≡ false = twin_names firsts row ∙ distinct_before (table_names firsts) row.name (table_names others) all in
    rw (is, none) refl)
    (λ (is : is_table_row row ≡ false). rw is refl)
    (cases_Bool (is_table_row row))

-- the rowids of all these are below one
abbrev pub AreLower : ℤ → List SchemaRow → Type 0
AreLower rowid [] = Unit {0}
AreLower rowid (r ∷ rs) = (int_lt r.rowid rowid ≡ true) × AreLower rowid rs

pub before_is : (firsts : List SchemaRow) (row : SchemaRow) (others : List SchemaRow) → AreLower row.rowid firsts → before row.rowid (firsts ++ row ∷ others) ≡ firsts
before_is [] row others lower =
    take_while-cons (λ (r : SchemaRow). int_lt r.rowid row.rowid) row others ∙ rw (not_below_self row.rowid) refl
before_is (r ∷ rs) row others lower =
    take_while-cons (λ (r : SchemaRow). int_lt r.rowid row.rowid) r (rs ++ row ∷ others) ∙ rw lower.0 (ap (λ (xs : List SchemaRow). r ∷ xs) (before_is rs row others lower.1))
