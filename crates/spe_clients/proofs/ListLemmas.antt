-- Lists, and what is so wherever pages were served.
use Rattle.std.proofs.Common.{◌≡◌, ◌⊎◌, ◌+◌, ℕ, zero, suc, List, [], ◌∷◌, ◌++◌, length, Option, Some, None, refl, ap, subst, arith, inl, inr, get_or}
use Rattle.std.specs.Prelude.{All, IfSome, slice_get}
use Rattle.std.specs.List.{AllPairs}
use Rattle.std.proofs.lemmas.List.{get_or-append-add, get_or_append_left, length-append}
use Rattle.std.proofs.lemmas.List.Elements.{All-head}
use Rattle.spe_model.specs.Content.{Content}
use Rattle.spe_model.specs.Database.{Database}
use Rattle.spe_store.specs.Opened.{Opened}
use Rattle.spe_store.specs.Served.{AreServed}
use Rattle.spe_session.specs.Transaction.{WhereWasServed}

-- an element of a list with one more is of the list, or is that one
pub get_push : {X : Type 0} (xs : List X) (x y : X) (n : ℕ) → slice_get (xs ++ x ∷ []) n ≡ Some y → (slice_get xs n ≡ Some y) ⊎ ((n ≡ length xs) × (x ≡ y))
get_push [] x y zero is = inr (refl, cc)
get_push [] x y (suc n) is = absurd (none_some n is)
  where
    none_some : {X : Type 0} {y : X} (n : ℕ) → slice_get {X = X} [] n ≡ Some y → ⊥
    none_some zero h = cc
    none_some (suc n) h = cc
get_push (z ∷ xs) x y zero is = inl is
get_push (z ∷ xs) x y (suc n) is = elim (get_push xs x y n is) [ inl h ↦ inl h | inr h ↦ inr (ap suc h.0, h.1) ]

pub All-front : {X : Type 0} (P : X → Type 0) (xs ys : List X) → All P (xs ++ ys) → All P xs
All-front P xs ys all = λ k d low. subst P (get_or_append_left xs ys d k low) (all k d (omega (arith, length-append xs ys)))

pub All-back : {X : Type 0} (P : X → Type 0) (xs ys : List X) → All P (xs ++ ys) → All P ys
All-back P xs ys all = λ k d low. subst P (get_or-append-add xs ys k d) (all (length xs + k) d (omega (arith, length-append xs ys)))

pub All-last : {X : Type 0} (P : X → Type 0) (xs : List X) (x : X) → All P (xs ++ x ∷ []) → P x
All-last P xs x all = All-head P x [] (All-back P xs (x ∷ []) all)

-- pairs of the front of a list, and of what follows it
pub pairs_left : {X : Type 0} (R : X → X → Type 0) (xs ys : List X) → AllPairs R (xs ++ ys) → AllPairs R xs
pairs_left {X = X} R xs ys all = λ i j d below low.
    subst (λ (v : X). R v (get_or xs j d)) (get_or_append_left xs ys d i (omega arith))
    (subst (λ (v : X). R (get_or (xs ++ ys) i d) v) (get_or_append_left xs ys d j low) (all i j d below (omega (arith, length-append xs ys))))

pub pairs_right : {X : Type 0} (R : X → X → Type 0) (xs ys : List X) → AllPairs R (xs ++ ys) → AllPairs R ys
pairs_right {X = X} R xs ys all = λ i j d below low.
    subst (λ (v : X). R v (get_or ys j d)) (get_or-append-add xs ys i d)
    (subst (λ (v : X). R (get_or (xs ++ ys) (length xs + i) d) v) (get_or-append-add xs ys j d) (all (length xs + i) (length xs + j) d (omega arith) (omega (arith, length-append xs ys))))

-- what is so wherever pages were served, and what follows from it
pub was_then : (opened : Opened) (P Q : Database → Type 0) → ((db : Database) → P db → Q db) → WhereWasServed opened P → WhereWasServed opened Q
was_then opened P Q then' = go opened.first
  where
    go : (o : Option Content) → IfSome o (λ _. (db : Database) → AreServed opened.read opened.pages db → P db) → IfSome o (λ _. (db : Database) → AreServed opened.read opened.pages db → Q db)
    go None has = tt
    go (Some first) has = λ db served. then' db (has db served)

pub was_both : (opened : Opened) (P Q R : Database → Type 0) → ((db : Database) → P db → Q db → R db) → WhereWasServed opened P → WhereWasServed opened Q → WhereWasServed opened R
was_both opened P Q R both = go opened.first
  where
    go : (o : Option Content) → IfSome o (λ _. (db : Database) → AreServed opened.read opened.pages db → P db)
        → IfSome o (λ _. (db : Database) → AreServed opened.read opened.pages db → Q db) → IfSome o (λ _. (db : Database) → AreServed opened.read opened.pages db → R db)
    go None p q = tt
    go (Some first) p q = λ db served. both db (p db served) (q db served)

pub was_any : (opened : Opened) (P : Database → Type 0) → ((db : Database) → P db) → WhereWasServed opened P
was_any opened P all = go opened.first
  where
    go : (o : Option Content) → IfSome o (λ _. (db : Database) → AreServed opened.read opened.pages db → P db)
    go None = tt
    go (Some first) = λ db served. all db
