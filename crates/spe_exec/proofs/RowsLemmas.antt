-- The rows of a table as their payloads say them.
use Rattle.std.proofs.Common.{◌≡◌, ℕ, zero, suc, ℤ, ◌+◌, ◌-◌, ◌<◌, ◌≤◌, Bool, true, false, ◌==◌, nat_le, List, [], ◌∷◌, ◌++◌, length, map, Option, Some, None, refl, sym, ap, ◌∙◌, arith, append_assoc, replicate, slice_set, if◌then◌else◌, get_or, take, drop}
use Rattle.std.proofs.lemmas.List.{take_all}
use Rattle.std.proofs.lemmas.List.Elements.{Contains-append_right}
use Rattle.std.specs.List.{enumerate_from}
use Rattle.std.specs.Option.{option_map}
use Rattle.spe_model.specs.declared.value.Value.{Value}
use Rattle.spe_model.specs.declared.value.Value.TheVariants.{Null}
use Rattle.spe_model.specs.declared.table.TableDef.{TableDef}
use Rattle.spe_model.specs.declared.naming.Named.{Named}
use Rattle.spe_model.specs.Alias.{is_alias, with_alias}
use Rattle.spe_model.specs.Database.{Row, padded}
use Rattle.spe_model.specs.Standing.{IsTableRow, AreTableRows}
use Rattle.spe_slow.specs.Rows.{shown_values}
use Rattle.spe_search.specs.declared.pairs.Pair.{Pair}
use Rattle.spe_search.specs.Pairs.{pair_seen}
use Rattle.spe_exec.specs.Rows.{values_in, IsDamaged, IsLeft, IsShowing}

pub front_is : {X : Type 0} (left : List X) (first : X) (n : ℕ) → 1 ≤ length left → first ≡ get_or left 0 first → n ≡ length left - 1
    → left ≡ first ∷ take n (drop 1 left)
front_is [] first n some f e = absurd (omega arith)
front_is (x ∷ xs) first n some f e =
    let all : length xs ≤ n = omega arith in
    rw (take_all n xs all, f) refl

append_none : {X : Type 0} (xs : List X) → xs ++ [] ≡ xs
append_none [] = refl
append_none (x ∷ xs) = ap (λ ys. x ∷ ys) (append_none xs)

length_more : (xs : List Value) (v : Value) → length (xs ++ v ∷ []) ≡ length xs + 1
length_more [] v = refl
length_more (x ∷ xs) v = let h = length_more xs v in omega arith

-- one more NULL
pub padded_more : (xs new : List Value) (n : ℕ) → length xs < n → new ≡ xs ++ Null ∷ [] → padded new n ≡ padded xs n
padded_more xs new n less e =
    rw e (append_assoc xs (Null ∷ []) (replicate (n - length (xs ++ Null ∷ [])) Null)
    ∙ ap (λ ys. xs ++ ys) (one (n - length (xs ++ Null ∷ [])) (n - length xs) (let h = length_more xs Null in omega (arith, h, less))))
  where
    one : (k m : ℕ) → suc k ≡ m → Null ∷ replicate k Null ≡ replicate m Null
    one k m e = rw (← e) refl

pub padded_done : (xs : List Value) (n : ℕ) → n ≤ length xs → padded xs n ≡ xs
padded_done xs n all = let e : n - length xs ≡ 0 = omega arith in rw e (append_none xs)

-- the places from a number on have the value only at another
alias_from : (a k : ℕ) (v : Value) (xs : List Value) → a < k → map (λ (x : ℕ × Value). if is_alias (Some a) x.0 then v else x.1) (enumerate_from k xs) ≡ xs
alias_from a k v [] less = refl
alias_from a k v (x ∷ xs) less = rw (apart a k less) (ap (λ ys. x ∷ ys) (alias_from a (k + 1) v xs (omega arith)))
  where
    apart : (a k : ℕ) → a < k → (a == k) ≡ false
    apart a k less = grind arith

alias_at : (a k i : ℕ) (v : Value) (xs : List Value) → a ≡ k + i → i < length xs
    → map (λ (x : ℕ × Value). if is_alias (Some a) x.0 then v else x.1) (enumerate_from k xs) ≡ slice_set xs i v
alias_at a k i v [] e within = absurd (omega arith)
alias_at a k zero v (x ∷ xs) e within = rw (same a k e) (ap (λ ys. v ∷ ys) (alias_from a (k + 1) v xs (omega arith)))
  where
    same : (a k : ℕ) → a ≡ k + 0 → (a == k) ≡ true
    same a k e = grind arith
alias_at a k (suc i) v (x ∷ xs) e within = rw (apart a k i e) (ap (λ ys. x ∷ ys) (alias_at a (k + 1) i v xs (omega arith) (omega arith)))
  where
    apart : (a k i : ℕ) → a ≡ k + suc i → (a == k) ≡ false
    apart a k i e = grind arith

alias_past : (a k : ℕ) (v : Value) (xs : List Value) → k + length xs ≤ a → map (λ (x : ℕ × Value). if is_alias (Some a) x.0 then v else x.1) (enumerate_from k xs) ≡ xs
alias_past a k v [] past = refl
alias_past a k v (x ∷ xs) past = rw (apart a k (length xs) past) (ap (λ ys. x ∷ ys) (alias_past a (k + 1) v xs (omega arith)))
  where
    apart : (a k n : ℕ) → k + suc n ≤ a → (a == k) ≡ false
    apart a k n e = grind arith

alias_none_from : (k : ℕ) (v : Value) (xs : List Value) → map (λ (x : ℕ × Value). if is_alias None x.0 then v else x.1) (enumerate_from k xs) ≡ xs
alias_none_from k v [] = refl
alias_none_from k v (x ∷ xs) = ap (λ ys. x ∷ ys) (alias_none_from (k + 1) v xs)

pub alias_put : (alias : Option ℕ) (a : ℕ) (v : Value) (xs : List Value) → alias ≡ Some a → a < length xs → slice_set xs a v ≡ with_alias alias v xs
alias_put alias a v xs e within = rw e (sym (alias_at a 0 a v xs (omega arith) within))

pub alias_out : (alias : Option ℕ) (a : ℕ) (v : Value) (xs : List Value) → alias ≡ Some a → length xs ≤ a → xs ≡ with_alias alias v xs
alias_out alias a v xs e past = rw e (sym (alias_past a 0 v xs (omega (arith, past))))

pub alias_none : (alias : Option ℕ) (v : Value) (xs : List Value) → alias ≡ None → xs ≡ with_alias alias v xs
alias_none alias v xs e = rw e (sym (alias_none_from 0 v xs))

le_yes : (a b : ℕ) → a ≤ b → nat_le a b ≡ true
le_yes a b h = grind arith

-- a row of the table has the values of its record
pub row_is : (table : TableDef) (stored : ℤ × List ℕ) (row : Row) → IsTableRow table stored row → Some row.1 ≡ values_in table stored
row_is table (rowid, payload) row (values, is, few, e) = rw (is, e, le_yes (length values) (length table.columns) few) refl

pub row_number : (table : TableDef) (stored : ℤ × List ℕ) (row : Row) → IsTableRow table stored row → row.0 ≡ stored.0
row_number table (rowid, payload) row (values, is, few, e) = ap (λ (r : Row). r.0) e

row_same : (table : TableDef) (stored : ℤ × List ℕ) (row : Row) (values : List Value) → IsTableRow table stored row → values_in table stored ≡ Some values → (stored.0, values) ≡ row
row_same table stored (n, held) values is e =
    let v : Some held ≡ Some values = row_is table stored (n, held) is ∙ e in
    let w : held ≡ values = cc in
    rw (row_number table stored (n, held) is, w) refl

pub show_start : (table : TableDef) (all : Bool) (names : List Named) (stored : List Pair) → IsShowing table all names stored stored []
show_start table all names stored = record { done = []; split = refl; shown = λ rows are. record { others = rows; others_are = are; made_is = refl } }

left_more : (table : TableDef) (all : Bool) (names : List Named) (x : ℤ × List ℕ) (rest : List (ℤ × List ℕ)) (values made_one : List Value) (rows : List Row) (made : List (List Value))
    → values_in table x ≡ Some values → IsLeft table all names (x ∷ rest) rows made → IsLeft table all names rest rows (made ++ shown_values all names (x.0, values) ∷ [])
left_more table all names x rest values one rows made e left = go left.others left.others_are left.made_is
  where
    go : (others : List Row) → AreTableRows table (x ∷ rest) others → made ++ map (shown_values all names) others ≡ map (shown_values all names) rows
        → IsLeft table all names rest rows (made ++ shown_values all names (x.0, values) ∷ [])
    go [] are is = absurd are
    go (r ∷ rs) are is = record {
      others = rs;
      others_are = are.1;
      made_is = append_assoc made (shown_values all names (x.0, values) ∷ []) (map (shown_values all names) rs)
          ∙ ap (λ (q : Row). made ++ shown_values all names q ∷ map (shown_values all names) rs) (row_same table x r values are.0 e) ∙ is;
    }

-- one more row
pub show_more : (table : TableDef) (all : Bool) (names : List Named) (stored left rest : List Pair) (x : Pair) (values : List Value) (made new : List (List Value))
    → left ≡ x ∷ rest → values_in table (pair_seen x) ≡ Some values → new ≡ made ++ shown_values all names (x.rowid, values) ∷ [] → IsShowing table all names stored left made
    → IsShowing table all names stored rest new
show_more table all names stored left rest x values made new l e n is = rw n (record {
  done = is.done ++ x ∷ [];
  split = is.split ∙ (ap (λ ys. is.done ++ ys) l ∙ sym (append_assoc is.done (x ∷ []) rest));
  shown = λ rows are. left_more table all names (pair_seen x) (map pair_seen rest) values values rows made e (rw l at (is.shown rows are));
})

pub show_bad : (table : TableDef) (all : Bool) (names : List Named) (stored left rest : List Pair) (x : Pair) (made : List (List Value))
    → left ≡ x ∷ rest → values_in table (pair_seen x) ≡ None → IsShowing table all names stored left made → IsDamaged table stored x.leaf
show_bad table all names stored left rest x made l e is = record {
  row = x;
  inside = rw (is.split, l) (Contains-append_right is.done (x ∷ rest) x (0, omega arith, refl));
  leaf_is = refl;
  none = e;
}

pub show_end : (table : TableDef) (all : Bool) (names : List Named) (stored left : List Pair) (made : List (List Value)) → length left < 1
    → IsShowing table all names stored left made → (rows : List Row) → AreTableRows table (map pair_seen stored) rows → made ≡ map (shown_values all names) rows
show_end table all names stored [] made none is rows are = go (is.shown rows are)
  where
    go : IsLeft table all names [] rows made → made ≡ map (shown_values all names) rows
    go left = by left.others left.others_are left.made_is
      where
        by : (others : List Row) → AreTableRows table [] others → made ++ map (shown_values all names) others ≡ map (shown_values all names) rows → made ≡ map (shown_values all names) rows
        by [] a m = sym (append_none made) ∙ m
        by (r ∷ rs) a m = absurd a
show_end table all names stored (x ∷ xs) made none is rows are = absurd (omega arith)

-- what is shown of a row of the table, or nothing
abbrev pub shown_of : TableDef → Bool → List Named → ℤ × List ℕ → Option (List Value)
shown_of table all names x = option_map (λ values. shown_values all names (x.0, values)) (values_in table x)

pub show_missed : (table : TableDef) (all : Bool) (names : List Named) (x : ℤ × List ℕ) → shown_of table all names x ≡ None → values_in table x ≡ None
show_missed table all names x e = go (values_in table x) refl e
  where
    go : (o : Option (List Value)) → values_in table x ≡ o → option_map (λ values. shown_values all names (x.0, values)) o ≡ None → values_in table x ≡ None
    go None a e = a
    go (Some v) a e = absurd cc

pub show_found : (table : TableDef) (all : Bool) (names : List Named) (stored left rest : List Pair) (x : Pair) (one : List Value) (made new : List (List Value))
    → left ≡ x ∷ rest → shown_of table all names (pair_seen x) ≡ Some one → new ≡ made ++ one ∷ [] → IsShowing table all names stored left made
    → IsShowing table all names stored rest new
show_found table all names stored left rest x one made new l e n is = go (values_in table (pair_seen x)) refl e
  where
    go : (o : Option (List Value)) → values_in table (pair_seen x) ≡ o → option_map (λ values. shown_values all names (x.rowid, values)) o ≡ Some one → IsShowing table all names stored rest new
    go None a e = absurd cc
    go (Some v) a e =
        let same : shown_values all names (x.rowid, v) ≡ one = (let both : Some (shown_values all names (x.rowid, v)) ≡ Some one = e in cc) in
        show_more table all names stored left rest x v made new l a (rw same n) is
