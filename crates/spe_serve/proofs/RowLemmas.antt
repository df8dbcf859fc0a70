-- The rows of a table as their payloads say them.
use Rattle.std.proofs.Common.{◌≡◌, ℕ, zero, suc, ℤ, ◌+◌, ◌-◌, ◌<◌, ◌≤◌, true, nat_le, List, [], ◌∷◌, ◌++◌, length, map, Option, Some, None, Result, Ok, Err, refl, sym, ap, subst, ◌∙◌, append_assoc, append-nil, arith, length-append}
use Rattle.std.specs.Prelude.{replicate}
use Rattle.std.specs.Result.{result_map_both}
use Rattle.spe_model.specs.declared.value.Value.{Value}
use Rattle.spe_model.specs.declared.value.Value.TheVariants.{Null}
use Rattle.spe_model.specs.declared.table.TableDef.{TableDef}
use Rattle.spe_model.specs.Database.{Row, padded}
use Rattle.spe_model.specs.Standing.{IsTableRow, AreTableRows}
use Rattle.std.specs.List.{Contains}
use Rattle.spe_search.specs.declared.pairs.Pair.{Pair}
use Rattle.spe_search.specs.Pairs.{pair_seen}
use Rattle.spe_serve.specs.Row.{HasDamaged, row_before, row_of, rows_stored}

abbrev nulls : ℕ → List Value
nulls n = replicate n Null

pub padded_one : (values new : List Value) (n : ℕ) → new ≡ values ++ Null ∷ [] → length values < n → padded new n ≡ padded values n
padded_one values new n e few =
    let len : length new ≡ length values + 1 = ap length e ∙ length-append values (Null ∷ []) in
    let left : n - length values ≡ suc (n - length new) = omega arith in
    let more : nulls (n - length values) ≡ Null ∷ nulls (n - length new) = ap nulls left in
    rw more (ap (λ (v : List Value). v ++ nulls (n - length new)) e ∙ append_assoc values (Null ∷ []) (nulls (n - length new)))

pub padded_all : (values : List Value) (n : ℕ) → n ≤ length values → padded values n ≡ values
padded_all values n all =
    let none : n - length values ≡ 0 = omega arith in
    rw none (append-nil values)

le_yes : (a b : ℕ) → a ≤ b → nat_le a b ≡ true
le_yes a b h = grind arith

row_is : (table : TableDef) (stored : ℤ × List ℕ) (row : Row) → IsTableRow table stored row → row_of table stored ≡ Some row
row_is table (rowid, payload) row (values, is, few, e) = rw (is, e, le_yes (length values) (length table.columns) few) refl

-- rows before those that are stored
abbrev pub behind : List Row → Result (List Row) ℕ → Result (List Row) ℕ
behind front found = result_map_both (λ rest. front ++ rest) (λ damaged. damaged) found

behind_found : (front : List Row) (leaf : ℕ) (row : Row) (found : Result (List Row) ℕ) → behind front (row_before leaf (Some row) found) ≡ behind (front ++ row ∷ []) found
behind_found front leaf row (Err damaged) = refl
behind_found front leaf row (Ok rest) = simp append_assoc

err_same : (a b : ℕ) (found : Result (List Row) ℕ) → found ≡ Err a → found ≡ Err b → a ≡ b
err_same a b found p q = let both : Err a ≡ Err b = sym p ∙ q in cc

pub behind_one : (table : TableDef) (front : List Row) (x : Pair) (row : Row) (xs : List Pair) → row_of table (pair_seen x) ≡ Some row
    → behind front (rows_stored table (x ∷ xs)) ≡ behind (front ++ row ∷ []) (rows_stored table xs)
behind_one table front x row xs e = rw e (behind_found front x.leaf row (rows_stored table xs))

pub behind_none : (table : TableDef) (front : List Row) (x : Pair) (xs : List Pair) → row_of table (pair_seen x) ≡ None
    → behind front (rows_stored table (x ∷ xs)) ≡ Err x.leaf
behind_none table front x xs e = rw e refl

pub behind_nothing : (found : Result (List Row) ℕ) → behind [] found ≡ found
behind_nothing (Err damaged) = refl
behind_nothing (Ok rows) = refl

-- the rows of a table are those that its payloads say
pub rows_are : (table : TableDef) (stored : List Pair) (rows : List Row) → AreTableRows table (map pair_seen stored) rows → rows_stored table stored ≡ Ok rows
rows_are table [] [] are = refl
rows_are table [] (r ∷ rs) are = absurd are
rows_are table (x ∷ xs) [] are = absurd are
rows_are table (x ∷ xs) (r ∷ rs) are = rw (row_is table (pair_seen x) r are.0, rows_are table xs rs are.1) refl

rows_both : (rows others : List Row) (found : Result (List Row) ℕ) → found ≡ Ok rows → found ≡ Ok others → rows ≡ others
rows_both rows others found a b = let both : Ok rows ≡ Ok others = sym a ∙ b in cc

-- the rows that were read are stored so
read_stored : (table : TableDef) (read : List Pair) (stored : List (ℤ × List ℕ)) (found : Result (List Row) ℕ) (others : List Row) → map pair_seen read ≡ stored
    → found ≡ rows_stored table read → AreTableRows table stored others → found ≡ Ok others
read_stored table read stored found others same is are =
    is ∙ rows_are table read others (subst (λ (s : List (ℤ × List ℕ)). AreTableRows table s others) (sym same) are)

-- what is read of the rows of a tree is what the table has
pub rows_read : (table : TableDef) (read : List Pair) (stored : List (ℤ × List ℕ)) (found : Result (List Row) ℕ) (rows others : List Row) → map pair_seen read ≡ stored
    → found ≡ rows_stored table read → found ≡ Ok rows → AreTableRows table stored others → rows ≡ others
rows_read table read stored found rows others same is ok are = rows_both rows others found ok (read_stored table read stored found others same is are)

pub rows_unread : (table : TableDef) (read : List Pair) (stored : List (ℤ × List ℕ)) (found : Result (List Row) ℕ) (leaf : ℕ) (others : List Row) → map pair_seen read ≡ stored
    → found ≡ rows_stored table read → found ≡ Err leaf → AreTableRows table stored others → ⊥
rows_unread table read stored found leaf others same is damaged are =
    let both : Err leaf ≡ Ok others = sym damaged ∙ read_stored table read stored found others same is are in absurd cc

-- a row that is damaged was read from its leaf
pub damaged_row : (table : TableDef) (read : List Pair) (found : Result (List Row) ℕ) (leaf : ℕ) → found ≡ rows_stored table read → found ≡ Err leaf → HasDamaged table read leaf
damaged_row table [] found leaf is damaged = absurd (let both : Err leaf ≡ Ok [] = sym damaged ∙ is in cc)
damaged_row table (x ∷ xs) found leaf is damaged =
    go (row_of table (pair_seen x)) refl (rows_stored table xs) refl (λ e. damaged_row table xs (rows_stored table xs) leaf refl e) (sym damaged ∙ is)
  where
    further : (row : Pair) → Contains xs row → Contains (x ∷ xs) row
    further row (k, less, is) = (suc k, omega (arith, less), is)

    go : (o : Option Row) → row_of table (pair_seen x) ≡ o → (r : Result (List Row) ℕ) → rows_stored table xs ≡ r → (rows_stored table xs ≡ Err leaf → HasDamaged table xs leaf)
        → Err leaf ≡ row_before x.leaf o r → HasDamaged table (x ∷ xs) leaf
    go None e r f later both = record { row = x; among = (zero, omega arith, refl); leaf_is = sym (err_same leaf x.leaf (Err leaf) refl both); bad = e }
    go (Some row) e (Ok rows) f later both = absurd (let other : Err leaf ≡ Ok (row ∷ rows) = both in cc)
    go (Some row) e (Err at) f later both =
        let rest = later (f ∙ ap Err (sym (err_same leaf at (Err leaf) refl both))) in
        record { row = rest.row; among = further rest.row rest.among; leaf_is = rest.leaf_is; bad = rest.bad }
