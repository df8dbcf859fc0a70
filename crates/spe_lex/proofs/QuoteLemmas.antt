-- What stands before a quote, byte by byte.
use Rattle.std.proofs.Common.{◌≡◌, ◌≢◌, ℕ, ◌+◌, ◌-◌, ◌≤◌, ◌<◌, List, [], ◌∷◌, length, take, drop, get_or, Option, Some, None, refl, sym, ◌∙◌, arith, subst}
use Rattle.std.proofs.Math.Seq.{take-length}
use Rattle.std.proofs.lemmas.Bool.Decides.{nat_tests}
use Rattle.spe_model.specs.Token.{before_quote, further}

pub rest_is : {X : Type 0} (x : X) (xs : List X) → take (length (x ∷ xs) - 1) (drop 1 (x ∷ xs)) ≡ xs
rest_is x xs = let few : length (x ∷ xs) - 1 ≡ length xs = omega arith in rw few (take-length xs)

pub further_twice : (n m : ℕ) (more : Option ℕ) → further n (further m more) ≡ further (n + m) more
further_twice n m None = refl
further_twice n m (Some k) = let e : n + (m + k) ≡ (n + m) + k = omega arith in rw e refl

pub not_quote : (quote b : ℕ) (bs : List ℕ) → b ≢ quote → before_quote quote (b ∷ bs) ≡ further 1 (before_quote quote bs)
not_quote quote b [] ne = grind (arith, nat_tests)
not_quote quote b (c ∷ bs) ne = grind (arith, nat_tests)

pub two_quotes : (quote b c : ℕ) (bs : List ℕ) → b ≡ quote → c ≡ quote → before_quote quote (b ∷ c ∷ bs) ≡ further 2 (before_quote quote bs)
two_quotes quote b c bs e f = grind (arith, nat_tests)

pub lone_quote : (quote b : ℕ) (bs : List ℕ) → b ≡ quote → (0 < length bs → get_or bs 0 0 ≢ quote) → before_quote quote (b ∷ bs) ≡ Some 0
lone_quote quote b [] e ne = grind (arith, nat_tests)
lone_quote quote b (c ∷ bs) e ne = let other : c ≢ quote = ne (omega arith) in grind (arith, nat_tests)

-- a byte that is no quote is passed
pub quote_one : (count quote : ℕ) (left all : List ℕ) → 1 ≤ length left → get_or left 0 0 ≢ quote → further count (before_quote quote left) ≡ before_quote quote all
    → further (count + 1) (before_quote quote (take (length left - 1) (drop 1 left))) ≡ before_quote quote all
quote_one count quote [] all some ne e = absurd (omega arith)
quote_one count quote (b ∷ bs) all some ne e =
    rw (rest_is b bs, ← further_twice count 1 (before_quote quote bs), ← not_quote quote b bs ne) e

-- a doubled quote is passed
pub quote_two : (count quote : ℕ) (left rest all : List ℕ) → 1 ≤ length left → get_or left 0 0 ≡ quote → rest ≡ take (length left - 1) (drop 1 left)
    → 1 ≤ length rest → get_or rest 0 0 ≡ quote → further count (before_quote quote left) ≡ before_quote quote all
    → further (count + 2) (before_quote quote (take (length rest - 1) (drop 1 rest))) ≡ before_quote quote all
quote_two count quote [] rest all some first is more second e = absurd (omega arith)
quote_two count quote (b ∷ bs) [] all some first is more second e = absurd (omega arith)
quote_two count quote (b ∷ bs) (c ∷ cs) all some first is more second e =
    let tail : bs ≡ c ∷ cs = sym (is ∙ rest_is b bs) in
    let moved : further count (before_quote quote (b ∷ c ∷ cs)) ≡ before_quote quote all =
    subst (λ (t : List ℕ). further count (before_quote quote (b ∷ t)) ≡ before_quote quote all) tail e
    in
    rw (rest_is c cs, ← further_twice count 2 (before_quote quote cs), ← two_quotes quote b c cs first second) moved
