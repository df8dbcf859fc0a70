-- The rows of a schema table, read one after the other.
use Rattle.std.proofs.Common.{◌≡◌, ℕ, ℤ, ◌-◌, ◌≤◌, Bool, true, false, not, ◌&&◌, ◌||◌, List, [], ◌∷◌, ◌++◌, length, take, drop, get_or, map, Option, Some, None, refl, sym, ap, ◌∙◌, arith, append_assoc}
use Rattle.std.specs.List.{list_any, list_all}
use Rattle.std.proofs.lemmas.List.{map-append, take_all}
use Rattle.std.proofs.lemmas.Bool.{false≢true}
use Rattle.spe_model.specs.Agree.{agree}
use Rattle.spe_model.specs.Cell.{◌>>=◌}
use Rattle.spe_model.specs.Definition.{are_distinct}
use Rattle.spe_model.specs.Schema.{SchemaRow, schema_row_of, schema_of, is_table_row, have_own_names}
use Rattle.spe_search.specs.declared.pairs.Pair.{Pair}
use Rattle.spe_search.specs.Pairs.{pair_seen}
use Rattle.spe_catalog.specs.Names.{has_name}
use Rattle.spe_catalog.specs.Reading.{has_number, have_numbers, IsBad, unread, far, repeated, IsDamaged, AreRead, JoinsNames, Joins, Clashes, too_far, taken, table_names, IsReading}

-- the first element and what is behind it
pub front_is : {X : Type 0} (left : List X) (first : X) (n : ℕ) → 1 ≤ length left → first ≡ get_or left 0 first → n ≡ length left - 1
    → left ≡ first ∷ take n (drop 1 left)
front_is [] first n some f e = absurd (omega arith)
front_is (x ∷ xs) first n some f e =
    let all : length xs ≤ n = omega arith in
    rw (take_all n xs all, f) refl

schema_push : (done : List (ℤ × List ℕ)) (row : ℤ × List ℕ) (rows : List SchemaRow) (found : SchemaRow) → schema_of done ≡ Some rows → schema_row_of row ≡ Some found
    → schema_of (done ++ row ∷ []) ≡ Some (rows ++ found ∷ [])
schema_push [] row rows found d r =
    let e : [] ≡ rows = cc in
    rw (r, ← e) refl
schema_push (x ∷ xs) row rows found d r = go (schema_row_of x) (schema_of xs) refl refl d (λ o b. schema_push xs row o found b r)
  where
    go : (first : Option SchemaRow) (others : Option (List SchemaRow)) → schema_row_of x ≡ first → schema_of xs ≡ others
        → (first >>= λ f. (others >>= λ o. Some (f ∷ o))) ≡ Some rows
        → ((o : List SchemaRow) → schema_of xs ≡ Some o → schema_of (xs ++ row ∷ []) ≡ Some (o ++ found ∷ []))
        → schema_of ((x ∷ xs) ++ row ∷ []) ≡ Some (rows ++ found ∷ [])
    go None others a b h next = cc
    go (Some f) None a b h next = cc
    go (Some f) (Some o) a b h next =
        let e : (f ∷ o) ≡ rows = cc in
        rw (a, next o b, ← e) refl

any_push : {X : Type 0} (test : X → Bool) (xs : List X) (x : X) → list_any test (xs ++ x ∷ []) ≡ (list_any test xs || test x)
any_push test [] x = or_false (test x)
  where
    or_false : (b : Bool) → (b || false) ≡ b
    or_false true = refl
    or_false false = refl
any_push test (y ∷ ys) x = rw (any_push test ys x) (or_left (test y) (list_any test ys) (test x))
  where
    or_left : (a b c : Bool) → (a || (b || c)) ≡ ((a || b) || c)
    or_left true b c = refl
    or_left false b c = refl

-- names with one more behind them
distinct_push : (names : List (List ℕ)) (name : List ℕ) → are_distinct (names ++ name ∷ []) ≡ (are_distinct names && not (list_any (λ n. agree n name) names))
distinct_push [] name = refl
distinct_push (n ∷ ns) name =
    rw (any_push (agree n) ns name, distinct_push ns name)
    (both (list_any (agree n) ns) (agree n name) (are_distinct ns) (list_any (λ m. agree m name) ns))
  where
    both : (a b d e : Bool) → (not (a || b) && (d && not e)) ≡ ((not a && d) && not (b || e))
    both true b d e = refl
    both false true true e = refl
    both false true false e = refl
    both false false true e = refl
    both false false false e = refl

names_push : (rows : List SchemaRow) (found : SchemaRow) → is_table_row found ≡ true → table_names (rows ++ found ∷ []) ≡ table_names rows ++ found.name ∷ []
names_push [] found t = rw t refl
names_push (r ∷ rs) found t = go (is_table_row r) refl (names_push rs found t)
  where
    go : (b : Bool) → is_table_row r ≡ b → table_names (rs ++ found ∷ []) ≡ table_names rs ++ found.name ∷ [] → table_names ((r ∷ rs) ++ found ∷ []) ≡ table_names (r ∷ rs) ++ found.name ∷ []
    go true e next = rw (e, next) refl
    go false e next = rw (e, next) refl

names_stay : (rows : List SchemaRow) (found : SchemaRow) → is_table_row found ≡ false → table_names (rows ++ found ∷ []) ≡ table_names rows
names_stay [] found t = rw t refl
names_stay (r ∷ rs) found t = go (is_table_row r) refl (names_stay rs found t)
  where
    go : (b : Bool) → is_table_row r ≡ b → table_names (rs ++ found ∷ []) ≡ table_names rs → table_names ((r ∷ rs) ++ found ∷ []) ≡ table_names (r ∷ rs)
    go true e next = rw (e, next) refl
    go false e next = rw (e, next) refl

numbers_push : (rows : List SchemaRow) (found : SchemaRow) → have_numbers rows ≡ true → has_number found ≡ true → have_numbers (rows ++ found ∷ []) ≡ true
numbers_push [] found n f = rw f refl
numbers_push (r ∷ rs) found n f = go (has_number r) refl n (λ h. numbers_push rs found h f)
  where
    go : (b : Bool) → has_number r ≡ b → (b && list_all has_number rs) ≡ true → (have_numbers rs ≡ true → have_numbers (rs ++ found ∷ []) ≡ true) → have_numbers ((r ∷ rs) ++ found ∷ []) ≡ true
    go true e h next = rw (e, next h) refl
    go false e h next = cc

or_flip : (a b : Bool) → (a || b) ≡ (b || a)
or_flip true true = refl
or_flip true false = refl
or_flip false true = refl
or_flip false false = refl

-- one more row that is in order
pub reading_more : (stored left behind : List Pair) (row : Pair) (rows more : List SchemaRow) (old new : List (List ℕ)) (found : SchemaRow)
    → left ≡ row ∷ behind → more ≡ rows ++ found ∷ [] → IsReading stored left rows old → schema_row_of (pair_seen row) ≡ Some found → JoinsNames found old new → IsReading stored behind more new
reading_more stored left behind row rows more old new found l m reading r joins = rw m (record {
  done = reading.done ++ row ∷ [];
  split = reading.split ∙ rw l (sym (append_assoc reading.done (row ∷ []) behind));
  rows_are = rw (map-append pair_seen reading.done (row ∷ [])) (schema_push (map pair_seen reading.done) (pair_seen row) rows found reading.rows_are r);
  own = (case (is_table_row found) refl).0;
  numbers = numbers_push rows found reading.numbers joins.number;
  has = (case (is_table_row found) refl).1;
})
  where
    case : (b : Bool) → is_table_row found ≡ b
        → (have_own_names (rows ++ found ∷ []) ≡ true) × ((other : List ℕ) → has_name new other ≡ list_any (λ name. agree name other) (table_names (rows ++ found ∷ [])))
    case true t = (
      rw (names_push rows found t, distinct_push (table_names rows) found.name, reading.own, ← (reading.has found.name), joins.free t) refl,
      λ other. rw (joins.names other, names_push rows found t, any_push (λ name. agree name other) (table_names rows) found.name, reading.has other, t)
          (or_flip (agree found.name other) (list_any (λ name. agree name other) (table_names rows))),
    )
    case false t = (
      rw (names_stay rows found t) reading.own,
      λ other. rw (joins.names other, names_stay rows found t, t) (reading.has other),
    )

pub reading_unread : (stored left behind : List Pair) (row : Pair) (rows : List SchemaRow) (names : List (List ℕ))
    → left ≡ row ∷ behind → IsReading stored left rows names → schema_row_of (pair_seen row) ≡ None → IsDamaged stored row.leaf
reading_unread stored left behind row rows names l reading r = record {
  before = reading.done;
  row = row;
  behind = behind;
  split = reading.split ∙ rw l refl;
  leaf_is = refl;
  bad = unread r;
}

pub reading_clash : (stored left behind : List Pair) (row : Pair) (rows : List SchemaRow) (names : List (List ℕ)) (found : SchemaRow)
    → left ≡ row ∷ behind → IsReading stored left rows names → schema_row_of (pair_seen row) ≡ Some found → Clashes found names → IsDamaged stored row.leaf
reading_clash stored left behind row rows names found l reading r clashes = record {
  before = reading.done;
  row = row;
  behind = behind;
  split = reading.split ∙ rw l refl;
  leaf_is = refl;
  bad = why clashes;
}
  where
    why : Clashes found names → IsBad (map pair_seen reading.done) (pair_seen row)
    why (too_far f) = far found r f
    why (taken t h) =
        repeated rows found reading.rows_are r
        (rw (names_push rows found t, distinct_push (table_names rows) found.name, reading.own, ← (reading.has found.name), h) refl)

pub reading_end : (stored left : List Pair) (rows : List SchemaRow) (names : List (List ℕ)) → left ≡ [] → IsReading stored left rows names → AreRead (map pair_seen stored) rows
reading_end stored left rows names e reading = record {
  rows_are = (let all : stored ≡ reading.done = reading.split ∙ (ap (λ (xs : List Pair). reading.done ++ xs) e ∙ append_none reading.done) in rw all reading.rows_are);
  own = reading.own;
  numbers = reading.numbers;
}
  where
    append_none : (xs : List Pair) → xs ++ [] ≡ xs
    append_none [] = refl
    append_none (x ∷ xs) = ap (λ (ys : List Pair). x ∷ ys) (append_none xs)

pub reading_first : (stored : List Pair) (names : List (List ℕ)) → ((other : List ℕ) → has_name names other ≡ false) → IsReading stored stored [] names
reading_first stored names none = record { done = []; split = refl; rows_are = refl; own = refl; numbers = refl; has = none }

pub joins_yes : (row : SchemaRow) (old new : List (List ℕ)) (flag : Bool) → flag ≡ true → Joins row old new flag → JoinsNames row old new
joins_yes row old new true e h = h
joins_yes row old new false e h = absurd (false≢true e)

pub joins_no : (row : SchemaRow) (old new : List (List ℕ)) (flag : Bool) → flag ≡ false → Joins row old new flag → Clashes row old
joins_no row old new true e h = absurd (false≢true (sym e))
joins_no row old new false e h = h
