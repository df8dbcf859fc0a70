-- The rows of a table and the stored rows of its tree: the last one, and a rowid above it.
use Rattle.std.proofs.Common.{◌≡◌, ℕ, ℤ, pos, negsuc, ◌+◌, ◌<◌, ◌≤◌, Bool, true, false, List, [], ◌∷◌, map, Option, Some, None, is_some, refl, ap, ◌∙◌, subst, arith}
use Rattle.std.specs.Prelude.{int_lt, ◌+ℤ◌}
use Rattle.std.specs.List.{last_or}
use Rattle.std.specs.Option.{option_map}
use Rattle.std.specs.Ordering.{int_eq}
use Rattle.std.proofs.lemmas.Bool.Decides.{Decides-int_eq}
use Rattle.std.proofs.lemmas.Int.{ints}
use Rattle.spe_model.specs.declared.table.TableDef.{TableDef}
use Rattle.spe_model.specs.Database.{Row}
use Rattle.spe_model.specs.Rows.{largest}
use Rattle.spe_model.specs.Standing.{AreTableRows}
use Rattle.spe_model.specs.Tree.{rank, row_at}
use Rattle.spe_search.specs.Last.{last_rowid}
use Rattle.spe_slow.specs.Answers.{is_taken}
use Rattle.spe_served.proofs.KeysLemmas.{AreNumbered, IsRowid}
use Rattle.spe_modify.proofs.OrderLemmas.{Ascend}
use Rattle.spe_modify.proofs.RowsLemmas.{taken_is}

-- the last rowid of the rows is that of the stored rows
last_from : (table : TableDef) (xs : List (ℤ × List ℕ)) (rs : List Row) (a : Option Row) (b : Option ℤ) → option_map (λ (r : Row). r.0) a ≡ b → AreTableRows table xs rs
    → option_map (λ (r : Row). r.0) (last_or a rs) ≡ last_or b (map (λ (x : ℤ × List ℕ). x.0) xs)
last_from table [] [] a b e are = e
last_from table [] (r ∷ rs) a b e are = absurd are
last_from table (x ∷ xs) [] a b e are = absurd are
last_from table (x ∷ xs) (r ∷ rs) a b e are = last_from table xs rs (Some r) (Some x.0) (ap (λ (row : Row). Some row.0) are.0.3) are.1

pub last_is : (table : TableDef) (xs : List (ℤ × List ℕ)) (rs : List Row) → AreTableRows table xs rs → largest rs ≡ last_rowid xs
last_is table xs rs are = last_from table xs rs None None refl are

some_is : (a b : ℤ) → Some a ≡ Some b → a ≡ b
some_is a b e = cc

-- no row is above the last
last_above : (a n : ℤ) (low : ℕ) (xs : List (ℤ × List ℕ)) → rank a < low → Ascend low xs → last_or (Some a) (map (λ (x : ℤ × List ℕ). x.0) xs) ≡ Some n → rank a ≤ rank n
last_above a n low [] below up e = let same : a ≡ n = some_is a n e in subst (λ (m : ℤ). rank a ≤ rank m) same (omega arith)
last_above a n low (x ∷ xs) below up e =
    let rest = last_above x.0 n (rank x.0 + 1) xs (omega arith) up.1 e in omega (arith, rest, below, up.0)

-- a rowid of lower rank is another
other_rank : (a b : ℤ) → rank a < rank b → int_eq a b ≡ false
other_rank a b less = go (int_eq a b) refl
  where
    go : (q : Bool) → int_eq a b ≡ q → q ≡ false
    go true e = let same : a ≡ b = (Decides-int_eq a b).0 e in absurd (let l : rank b < rank b = subst (λ (m : ℤ). rank m < rank b) same less in omega (arith, l))
    go false e = refl

past_last : (k n : ℤ) (low : ℕ) (xs : List (ℤ × List ℕ)) (a : Option ℤ) → Ascend low xs → last_or a (map (λ (x : ℤ × List ℕ). x.0) xs) ≡ Some n → rank n < rank k → row_at k xs ≡ None
past_last k n low [] a up e less = refl
past_last k n low (x ∷ xs) a up e less =
    let under = last_above x.0 n (rank x.0 + 1) xs (omega arith) up.1 e in
    let other : int_eq x.0 k ≡ false = other_rank x.0 k (omega (arith, under, less)) in
    rw other (past_last k n (rank x.0 + 1) xs (Some x.0) up.1 e less)

-- a lower rowid is of lower rank
lower_rank : (a b : ℤ) → IsRowid a → int_lt a b ≡ true → rank a < rank b
lower_rank (pos m) (pos n) fits less = grind (arith, fits, less)
lower_rank (pos m) (negsuc n) fits less = absurd (grind (arith, fits, less))
lower_rank (negsuc m) (pos n) fits less = grind (arith, fits, less)
lower_rank (negsuc m) (negsuc n) fits less = grind (arith, fits, less)

-- the next one is of higher rank
next_rank : (n : ℤ) → IsRowid n → rank n < rank (n +ℤ pos 1)
next_rank n fits = let less : int_lt n (n +ℤ pos 1) ≡ true = grind (arith, ints) in lower_rank n (n +ℤ pos 1) fits less

-- the last rowid fits 64 bits
fits_from : (a n : ℤ) (xs : List (ℤ × List ℕ)) → IsRowid a → AreNumbered xs → last_or (Some a) (map (λ (x : ℤ × List ℕ). x.0) xs) ≡ Some n → IsRowid n
fits_from a n [] fits are e = subst (λ (m : ℤ). IsRowid m) (some_is a n e) fits
fits_from a n (x ∷ xs) fits are e = fits_from x.0 n xs are.0 are.1 e

pub last_fits : (xs : List (ℤ × List ℕ)) (n : ℤ) → AreNumbered xs → last_rowid xs ≡ Some n → IsRowid n
last_fits [] n are e = absurd cc
last_fits (x ∷ xs) n are e = fits_from x.0 n xs are.0 are.1 e

none_last : (xs : List (ℤ × List ℕ)) (a : ℤ) → last_or (Some a) (map (λ (x : ℤ × List ℕ). x.0) xs) ≡ None → ⊥
none_last [] a e = absurd cc
none_last (x ∷ xs) a e = none_last xs x.0 e

-- the rowid after the last is taken by no row
pub next_free : (table : TableDef) (low : ℕ) (xs : List (ℤ × List ℕ)) (rs : List Row) (n : ℤ) → IsRowid n → Ascend low xs → AreTableRows table xs rs → last_rowid xs ≡ Some n
    → is_taken rs (n +ℤ pos 1) ≡ false
next_free table low xs rs n fits up are e =
    taken_is table (n +ℤ pos 1) xs rs are ∙ ap (λ (o : Option (List ℕ)). is_some o) (past_last (n +ℤ pos 1) n low xs None up e (next_rank n fits))

pub first_free : (table : TableDef) (xs : List (ℤ × List ℕ)) (rs : List Row) (k : ℤ) → AreTableRows table xs rs → last_rowid xs ≡ None → is_taken rs k ≡ false
first_free table [] [] k are e = refl
first_free table [] (r ∷ rs) k are e = absurd are
first_free table (x ∷ xs) rs k are e = absurd (none_last xs x.0 e)
