-- A value in the column that is another name of the rowid.
use Rattle.std.proofs.Common.{◌≡◌, ℕ, zero, suc, ◌+◌, ◌<◌, ◌≤◌, true, false, ◌==◌, List, [], ◌∷◌, length, map, Option, Some, None, refl, sym, ap, arith, slice_set, if◌then◌else◌}
use Rattle.std.specs.List.{enumerate_from}
use Rattle.spe_model.specs.declared.value.Value.{Value}
use Rattle.spe_model.specs.Alias.{is_alias, with_alias}

abbrev put_at : Option ℕ → Value → ℕ → List Value → List Value
put_at alias v k xs = map (λ (x : ℕ × Value). if is_alias alias x.0 then v else x.1) (enumerate_from k xs)

apart : (a k : ℕ) → a < k → (a == k) ≡ false
apart a k less = grind arith

above : (a k : ℕ) → k < a → (a == k) ≡ false
above a k less = grind arith

same : (a k : ℕ) → a ≡ k → (a == k) ≡ true
same a k e = grind arith

-- the places from a number on have the value only at another
put_before : (a k : ℕ) (v : Value) (xs : List Value) → a < k → put_at (Some a) v k xs ≡ xs
put_before a k v [] less = refl
put_before a k v (x ∷ xs) less = rw (apart a k less) (ap (λ ys. x ∷ ys) (put_before a (k + 1) v xs (omega arith)))

put_here : (a k i : ℕ) (v : Value) (xs : List Value) → a ≡ k + i → i < length xs → put_at (Some a) v k xs ≡ slice_set xs i v
put_here a k i v [] e within = absurd (omega arith)
put_here a k zero v (x ∷ xs) e within = rw (same a k (omega arith)) (ap (λ ys. v ∷ ys) (put_before a (k + 1) v xs (omega arith)))
put_here a k (suc i) v (x ∷ xs) e within = rw (above a k (omega arith)) (ap (λ ys. x ∷ ys) (put_here a (k + 1) i v xs (omega arith) (omega arith)))

put_behind : (a k : ℕ) (v : Value) (xs : List Value) → k + length xs ≤ a → put_at (Some a) v k xs ≡ xs
put_behind a k v [] past = refl
put_behind a k v (x ∷ xs) past = rw (above a k (omega arith)) (ap (λ ys. x ∷ ys) (put_behind a (k + 1) v xs (omega arith)))

put_nowhere : (k : ℕ) (v : Value) (xs : List Value) → put_at None v k xs ≡ xs
put_nowhere k v [] = refl
put_nowhere k v (x ∷ xs) = ap (λ ys. x ∷ ys) (put_nowhere (k + 1) v xs)

pub alias_put : (alias : Option ℕ) (a : ℕ) (v : Value) (xs : List Value) → alias ≡ Some a → a < length xs → slice_set xs a v ≡ with_alias alias v xs
alias_put alias a v xs e within = rw e (sym (put_here a 0 a v xs (omega arith) within))

pub alias_out : (alias : Option ℕ) (a : ℕ) (v : Value) (xs : List Value) → alias ≡ Some a → length xs ≤ a → xs ≡ with_alias alias v xs
alias_out alias a v xs e past = rw e (sym (put_behind a 0 v xs (omega (arith, past))))

pub alias_none : (alias : Option ℕ) (v : Value) (xs : List Value) → alias ≡ None → xs ≡ with_alias alias v xs
alias_none alias v xs e = rw e (sym (put_nowhere 0 v xs))
