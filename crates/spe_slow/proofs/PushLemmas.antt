-- Lists that a loop builds by `push`: what was found with what is still to come is the whole.
use Rattle.std.proofs.Common.{◌≡◌, ℕ, suc, ◌+◌, ◌-◌, ◌<◌, ◌≤◌, List, [], ◌∷◌, ◌++◌, map, refl, sym, ap, ◌∙◌, arith, append_assoc}
use Rattle.std.specs.List.{range_with_len}
use Rattle.std.proofs.lemmas.List.{append-nil, map-append}

range_more : (a n m : ℕ) → n ≡ suc m → range_with_len a n ≡ a ∷ range_with_len (a + 1) m
range_more a n m e = rw e refl

-- what stands for a number is pushed
pub push_number : {Y : Type 0} (g : ℕ → Y) (found : List Y) (y : Y) (i n : ℕ) (all : List Y) → i < n → y ≡ g i
    → found ++ map g (range_with_len i (n - i)) ≡ all → (found ++ y ∷ []) ++ map g (range_with_len (i + 1) (n - (i + 1))) ≡ all
push_number g found y i n all within is e =
    rw (append_assoc, is)
    (ap (λ xs. found ++ map g xs) (sym (range_more i (n - i) (n - (i + 1)) (omega arith))) ∙ e)

pub push_mapped : {X Y : Type 0} (v : X → Y) (g : ℕ → Y) (found : List X) (x : X) (i n : ℕ) (all : List Y) → i < n → v x ≡ g i
    → map v found ++ map g (range_with_len i (n - i)) ≡ all → map v (found ++ x ∷ []) ++ map g (range_with_len (i + 1) (n - (i + 1))) ≡ all
push_mapped v g found x i n all within is e =
    rw (map-append v found (x ∷ [])) (push_number g (map v found) (v x) i n all within is e)

pub push_end : {Y : Type 0} (g : ℕ → Y) (found : List Y) (i n : ℕ) (all : List Y) → n ≤ i → found ++ map g (range_with_len i (n - i)) ≡ all → found ≡ all
push_end g found i n all past e =
    let none : n - i ≡ 0 = omega arith in
    sym (append-nil found) ∙ (rw none at e)
