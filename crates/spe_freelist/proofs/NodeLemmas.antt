use Rattle.std.proofs.Common.{◌≡◌, ℕ, suc, ◌+◌, ◌-◌, ◌<◌, List, [], ◌∷◌, ◌++◌, map, subst, ◌∙◌, arith, append_assoc}
use Rattle.spe_model.specs.Journal.{numbers_from}

-- one more of them is read
pub firsts_more : (f : ℕ → ℕ) (done all : List ℕ) (i count : ℕ) → i < count
    → done ++ map f (numbers_from i (count - i)) ≡ all
    → (done ++ f i ∷ []) ++ map f (numbers_from (i + 1) (count - (i + 1))) ≡ all
firsts_more f done all i count below kept =
    let one : count - i ≡ suc (count - (i + 1)) = omega (arith, below) in
    let P : ℕ → Type 0 = λ m. done ++ map f (numbers_from i m) ≡ all in
    append_assoc done (f i ∷ []) (map f (numbers_from (i + 1) (count - (i + 1)))) ∙ subst P one kept
