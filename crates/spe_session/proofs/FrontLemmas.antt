-- The first 24 bytes of page 1.
use Rattle.std.proofs.Common.{◌≡◌, ◌≢◌, ◌≤◌, ◌+◌, ◌%◌, ◌∙◌, ℕ, List, [], ◌++◌, length, take, drop, Option, Some, None, Result, Ok, Err, OnOk, refl, sym, ap, arith, ⊎_elim, length-append}
use Rattle.std.specs.Prelude.{◌<◌, ◌&&◌, ◌||◌, Bool, is_some, nat_le, not, true, false}
use Rattle.std.specs.Option.{option_map}
use Rattle.std.proofs.lemmas.Bool.{cases_eq, cases_lt, le-leb, lt-leb}
use Rattle.std.proofs.lemmas.List.{length-take-le, take-append-le, take-take}
use Rattle.spe_model.specs.Big.{u32_at}
use Rattle.spe_space.specs.Front.{KeepsFront, recounted, with_u32}
use Rattle.spe_space.proofs.FrontLemmas.{length-with_u32}
use Rattle.spe_session.specs.Pages.{HasFrontOf, Sets, are_numbered, bytes_at, first_of, front_read, front_shown, or_else}

before : (xs ys zs : List ℕ) → 24 ≤ length xs → take 24 (xs ++ ys ++ zs) ≡ take 24 xs
before xs ys zs long = take-append-le 24 (xs ++ ys) zs (omega (arith, length-append xs ys, long)) ∙ take-append-le 24 xs ys long

with_front : (at n : ℕ) (xs : List ℕ) → 24 ≤ at → at ≤ length xs → take 24 (with_u32 at n xs) ≡ take 24 xs
with_front at n xs low high =
    let front : length (take at xs) ≡ at = length-take-le at xs high in
    before (take at xs) _ (drop (at + 4) xs) (omega (arith, front, low)) ∙ take-take 24 at xs low

pub recounted_front : (pages : ℕ) (front : List ℕ) → 96 ≤ length front → take 24 (recounted pages front) ≡ take 24 front
unfolding recounted
recounted_front pages front long =
    let change = (u32_at front 24 + 1) % 4294967296 in
    let first = with_u32 24 change front in
    let second = with_u32 28 pages first in
    let one = length-with_u32 24 change front (omega (arith, long)) in
    let two = length-with_u32 28 pages first (omega (arith, one, long)) in
    with_front 92 change second (omega arith) (omega (arith, one, two, long)) ∙ with_front 28 pages first (omega arith) (omega (arith, one, long)) ∙ with_front 24 change front (omega arith) (omega (arith, long))

-- what is shown of the front is what was read, also of page 1 as it was put
pub put_front : (dirty clean : List (ℕ × List ℕ)) (bytes : List ℕ) → front_shown dirty clean ≡ front_read clean → bytes_at dirty 1 ≡ Some bytes → HasFrontOf clean bytes
unfolding front_shown front_read
put_front dirty clean bytes same there = sym same ∙ ap (λ (o : Option (List ℕ)). option_map (take 24) (or_else o (bytes_at clean 1))) there

pub clean_front : (clean : List (ℕ × List ℕ)) (bytes : List ℕ) → bytes_at clean 1 ≡ Some bytes → HasFrontOf clean bytes
unfolding front_read
clean_front clean bytes there = ap (option_map (take 24)) there

-- bytes that keep the front of page 1 as it was put, or else as it was read
pub keeps_fronted : (dirty clean : List (ℕ × List ℕ)) (front bytes : List ℕ) → front_shown dirty clean ≡ front_read clean → first_of dirty clean ≡ Some front → KeepsFront front bytes → HasFrontOf clean bytes
unfolding front_shown
keeps_fronted dirty clean front bytes same is keeps = sym same ∙ ap (option_map (take 24)) is ∙ ap Some (sym keeps.0)

-- where a page was put
pub put_one : (page : ℕ) (bytes : List ℕ) (old new clean : List (ℕ × List ℕ)) → front_shown old clean ≡ front_read clean → Sets page (Some bytes) old new → (page ≡ 1 → HasFrontOf clean bytes)
    → front_shown new clean ≡ front_read clean
unfolding front_shown
put_one page bytes old new clean same sets front = ⊎_elim
    (λ (e : 1 ≡ page). ap (λ (o : Option (List ℕ)). option_map (take 24) (or_else o (bytes_at clean 1))) (ap (bytes_at new) e ∙ sets.here) ∙ sym (front (sym e)))
    (λ (other : 1 ≢ page). ap (λ (o : Option (List ℕ)). option_map (take 24) (or_else o (bytes_at clean 1))) (sets.other 1 other) ∙ same)
    (cases_eq 1 page)

numbered_parts : (base pages : ℕ) (dirty : List (ℕ × List ℕ)) → are_numbered base pages dirty ≡ true → (bytes_at dirty 0 ≡ None) × (base < pages → is_some (bytes_at dirty 1) ≡ true)
unfolding are_numbered
numbered_parts base pages dirty is = by_zero (bytes_at dirty 0) refl
  where
    by_zero : (o : Option (List ℕ)) → bytes_at dirty 0 ≡ o → (bytes_at dirty 0 ≡ None) × (base < pages → is_some (bytes_at dirty 1) ≡ true)
    by_zero (Some own) there = absurd (let both : false ≡ true = sym (ap (λ (o : Option (List ℕ)). not (is_some o) && (nat_le pages base || is_some (bytes_at dirty 1))) there) ∙ is in cc)
    by_zero None none = (
      none,
      λ more.
          let rest : (nat_le pages base || is_some (bytes_at dirty 1)) ≡ true = sym (ap (λ (o : Option (List ℕ)). not (is_some o) && (nat_le pages base || is_some (bytes_at dirty 1))) none) ∙ is in
          sym (ap (λ (b : Bool). b || is_some (bytes_at dirty 1)) (lt-leb pages base more)) ∙ rest,
    )

pub no_zero : (base pages : ℕ) (dirty : List (ℕ × List ℕ)) → are_numbered base pages dirty ≡ true → bytes_at dirty 0 ≡ None
no_zero base pages dirty is = (numbered_parts base pages dirty is).0

pub first_put : (base pages : ℕ) (dirty : List (ℕ × List ℕ)) → are_numbered base pages dirty ≡ true → base < pages → is_some (bytes_at dirty 1) ≡ true
first_put base pages dirty is = (numbered_parts base pages dirty is).1

or_true : (b : Bool) → (b || true) ≡ true
or_true true = refl
or_true false = refl

numbered_of : (base pages : ℕ) (dirty : List (ℕ × List ℕ)) → bytes_at dirty 0 ≡ None → (base < pages → is_some (bytes_at dirty 1) ≡ true) → are_numbered base pages dirty ≡ true
unfolding are_numbered
numbered_of base pages dirty none added = ⊎_elim
    (λ (more : base < pages). rw (none, added more) (or_true (nat_le pages base)))
    (λ (few : pages ≤ base). rw (none, le-leb pages base few) refl)
    (cases_lt base pages)

pub put_numbered : (base pages page : ℕ) (bytes : List ℕ) (old new : List (ℕ × List ℕ)) → are_numbered base pages old ≡ true → Sets page (Some bytes) old new → 1 ≤ page → are_numbered base pages new ≡ true
put_numbered base pages page bytes old new is sets some = numbered_of base pages new
    (sets.other 0 (λ e. absurd (omega (arith, e, some))) ∙ no_zero base pages old is)
    (λ more. ⊎_elim
    (λ (e : 1 ≡ page). ap is_some (ap (bytes_at new) e ∙ sets.here))
    (λ (other : 1 ≢ page). ap is_some (sets.other 1 other) ∙ first_put base pages old is more)
    (cases_eq 1 page))

-- where page 1 was put, and pages were added
pub grown_numbered : (base pages later : ℕ) (bytes : List ℕ) (old new : List (ℕ × List ℕ)) → are_numbered base pages old ≡ true → Sets 1 (Some bytes) old new → are_numbered base later new ≡ true
grown_numbered base pages later bytes old new is sets = numbered_of base later new (sets.other 0 (λ e. absurd (omega (arith, e))) ∙ no_zero base pages old is) (λ more. ap is_some sets.here)

-- where a page was read that was not kept, or its room is gone again
pub read_front : (page : ℕ) (room : List ℕ) (o : Option (List ℕ)) (dirty a b c : List (ℕ × List ℕ)) → front_shown dirty a ≡ front_read a → bytes_at a page ≡ None → Sets page (Some room) a b → Sets page o b c
    → front_shown dirty c ≡ front_read c
unfolding front_shown front_read
read_front page room o dirty a b c same fresh first second = by_put (bytes_at dirty 1) refl
  where
    by_put : (put : Option (List ℕ)) → bytes_at dirty 1 ≡ put → option_map (take 24) (or_else (bytes_at dirty 1) (bytes_at c 1)) ≡ option_map (take 24) (bytes_at c 1)
    by_put None none = ap (λ (x : Option (List ℕ)). option_map (take 24) (or_else x (bytes_at c 1))) none
    by_put (Some own) there = ⊎_elim
        (λ (e : 1 ≡ page).
        absurd (let both : Some (take 24 own) ≡ None = sym (ap (λ (x : Option (List ℕ)). option_map (take 24) (or_else x (bytes_at a 1))) there) ∙ same ∙ ap (option_map (take 24)) (ap (bytes_at a) e ∙ fresh) in cc))
        (λ (other : 1 ≢ page).
        ap (λ (x : Option (List ℕ)). option_map (take 24) (or_else x (bytes_at c 1))) there ∙ sym (ap (λ (x : Option (List ℕ)). option_map (take 24) (or_else x (bytes_at a 1))) there) ∙ same ∙ sym (ap (option_map (take 24)) (second.other 1 other ∙ first.other 1 other)))
        (cases_eq 1 page)

pub kept_front : {X E : Type 0} (result : Result X E) (page : ℕ) (clean : List (ℕ × List ℕ)) (bytes : List ℕ) → OnOk result (bytes_at clean page ≡ Some bytes) → OnOk result (page ≡ 1 → HasFrontOf clean bytes)
kept_front (Ok x) page clean bytes kept = λ e. clean_front clean bytes (ap (bytes_at clean) (sym e) ∙ kept)
kept_front (Err e) page clean bytes kept = tt

-- where nothing was put yet
pub none_front : (dirty clean : List (ℕ × List ℕ)) → dirty ≡ [] → front_shown dirty clean ≡ front_read clean
unfolding front_shown front_read
none_front dirty clean none = ap (λ (d : List (ℕ × List ℕ)). option_map (take 24) (or_else (bytes_at d 1) (bytes_at clean 1))) none

pub none_numbered : (base pages : ℕ) (dirty : List (ℕ × List ℕ)) → dirty ≡ [] → pages ≤ base → are_numbered base pages dirty ≡ true
none_numbered base pages dirty none few = numbered_of base pages dirty (ap (λ (d : List (ℕ × List ℕ)). bytes_at d 0) none) (λ more. absurd (omega (arith, more, few)))
