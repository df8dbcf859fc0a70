-- Lists by places.
use Rattle.std.proofs.Common.{◌≡◌, ◌≢◌, ℕ, zero, suc, ◌<◌, List, [], ◌∷◌, length, refl, sym, ap, ◌∙◌, subst, arith, Some}
use Rattle.std.specs.Prelude.{slice_get, slice_index_or, slice_set}

pub get_at : {X : Type 0} (xs : List X) (n : ℕ) (d : X) → n < length xs → slice_get xs n ≡ Some (slice_index_or xs n d)
get_at [] n d low = absurd (omega arith)
get_at (x ∷ xs) zero d low = refl
get_at (x ∷ xs) (suc n) d low = get_at xs n d (omega arith)

pub get_set : {X : Type 0} (xs : List X) (n : ℕ) (x : X) → n < length xs → slice_get (slice_set xs n x) n ≡ Some x
get_set [] n x low = absurd (omega arith)
get_set (y ∷ ys) zero x low = refl
get_set (y ∷ ys) (suc n) x low = get_set ys n x (omega arith)

pub get_other : {X : Type 0} (xs : List X) (n i : ℕ) (x : X) → i ≢ n → slice_get (slice_set xs n x) i ≡ slice_get xs i
get_other [] n i x apart = refl
get_other (y ∷ ys) zero zero x apart = absurd (apart refl)
get_other (y ∷ ys) zero (suc i) x apart = refl
get_other (y ∷ ys) (suc n) zero x apart = refl
get_other (y ∷ ys) (suc n) (suc i) x apart = get_other ys n i x (λ same. apart (ap suc same))

pub set_length : {X : Type 0} (xs : List X) (n : ℕ) (x : X) → length (slice_set xs n x) ≡ length xs
set_length [] n x = refl
set_length (y ∷ ys) zero x = refl
set_length (y ∷ ys) (suc n) x = ap suc (set_length ys n x)

pub there : {X : Type 0} (xs : List X) (n : ℕ) → n < length xs → (x : X) × (slice_get xs n ≡ Some x)
there [] n low = absurd (omega arith)
there (x ∷ xs) zero low = (x, refl)
there (x ∷ xs) (suc n) low = there xs n (omega arith)

-- an element as it was read
pub read_at : {X : Type 0} (xs : List X) (at n : ℕ) (x : X) → at ≡ n → n < length xs → x ≡ slice_index_or xs at x → slice_get xs n ≡ Some x
read_at {X = X} xs at n x same low value =
    get_at xs n x low ∙ ap (λ (y : X). Some y) (ap (λ (m : ℕ). slice_index_or xs m x) (sym same) ∙ sym value)

-- one element that was read twice
pub same_read : {X : Type 0} (xs : List X) (at other n : ℕ) (x y : X) → at ≡ n → other ≡ n → n < length xs → x ≡ slice_index_or xs at x → y ≡ slice_index_or xs other y → x ≡ y
same_read xs at other n x y same also low x_is y_is =
    let both : Some x ≡ Some y = sym (read_at xs at n x same low x_is) ∙ read_at xs other n y also low y_is in
    cc

-- what is asked of two values as they are seen holds of them as they are inside
pub carried : {A B : Type 0} (P : A → B → Type 0) {a x : A} {b y : B} → a ≡ x → b ≡ y → P x y → P a b
carried P {a = a} {x = x} {b = b} {y = y} self pass asked = subst (λ (v : _). P v b) (sym self) (subst (P x) (sym pass) asked)

pub handed : {A B : Type 0} (P : A → B → Type 0) {a x : A} {b y : B} → a ≡ x → b ≡ y → P a b → P x y
handed P {a = a} {x = x} {b = b} {y = y} self pass has = subst (λ (v : _). P v y) self (subst (P a) pass has)
