-- What follows from the facts that a pager has.
use Rattle.std.specs.Prelude.{◌≡◌, ◌≤◌, ℕ, List, [], Option, Some, None, option_to_list, unwrap_or, All, IfSome, refl}
use Rattle.std.proofs.Common.{arith, subst, sym}
use Rattle.std.proofs.lemmas.List.Elements.{All-nil, All-cons}
use Rattle.spe_model.specs.Paging.{Agrees, Given, Paging}
use Rattle.spe_space.specs.Outcome.{IsInside}
use Rattle.spe_session.specs.Below.{IsBelow}
use Rattle.spe_session.specs.Pages.{KeepsSeen, bytes_at}

all_itself : (o : Option (List ℕ)) → All (λ (bytes : List ℕ). unwrap_or o [] ≡ bytes) (option_to_list o)
all_itself None = All-nil (λ (bytes : List ℕ). [] ≡ bytes)
all_itself (Some x) = All-cons (λ (bytes : List ℕ). x ≡ bytes) x [] refl (All-nil (λ (bytes : List ℕ). x ≡ bytes))

-- some pages agree with what was read, as each was read once
pub some_agrees : (clean : List (ℕ × List ℕ)) (seen : Given) → KeepsSeen clean seen → (pages : Paging) × Agrees pages seen
some_agrees clean seen keeps = (
  λ n. unwrap_or (bytes_at clean n) [],
  record { each = λ n. subst (λ (xs : List (List ℕ)). All (λ (bytes : List ℕ). unwrap_or (bytes_at clean n) [] ≡ bytes) xs) (sym (keeps n)) (all_itself (bytes_at clean n)) },
)

pub pages_inside : (base pages limit : ℕ) → 1 ≤ base → base ≤ pages → pages ≤ limit → IsInside limit pages
pages_inside base pages limit some more few = (omega (arith, some, more), few)

pub given_of : (told : Option Paging) (seen : Given) → IsBelow told seen → IfSome told (λ pages. Agrees pages seen)
given_of None seen below = tt
given_of (Some pages) seen below = below pages refl
