-- Pages that are freed into lists, one by one.
use Rattle.std.proofs.Common.{◌≡◌, ◌∙◌, ℕ, zero, suc, ◌+◌, ◌%◌, ◌<◌, List, [], ◌∷◌, ◌++◌, drop, length, refl, sym, ap, arith, append_assoc, append-nil, true, false, Result, Ok, Err, slice_set}
use Rattle.std.specs.Prelude.{OnOk, get_or, nat_lt}
use Rattle.std.proofs.Math.Seq.{drop-cons}
use Rattle.spe_convert.specs.Dealt.{dealt, freed_at, made_at, made_of}
use Rattle.spe_convert.specs.Trunk.{Trunk, emptied, freed, made, taking, with_leaf}

pub OnOk-from : {T E P Q : Type 0} (result : Result T E) → (P → Q) → OnOk result P → OnOk result Q
OnOk-from (Ok x) f p = f p
OnOk-from (Err e) f p = tt

pub OnOk-always : {T E P : Type 0} (result : Result T E) → P → OnOk result P
OnOk-always (Ok x) p = p
OnOk-always (Err e) p = tt

-- what is freed into list k, in terms of its first trunk
freed_is : (most k page : ℕ) (ts : List Trunk) (t d : Trunk) → k < length ts → t ≡ get_or ts k d → freed_at most k page ts ≡ slice_set ts k (freed most page t)
freed_is most k page [] t d low is = absurd (omega (arith, low))
freed_is most zero page (x ∷ xs) t d low is = ap (λ (y : Trunk). freed most page y ∷ xs) (sym is)
freed_is most (suc k) page (x ∷ xs) t d low is = ap (λ (ys : List Trunk). x ∷ ys) (freed_is most k page xs t d (omega (arith, low)) is)

made_is : (most k page : ℕ) (ts : List Trunk) (t d : Trunk) → k < length ts → t ≡ get_or ts k d → made_at most k page ts ≡ made most page t
made_is most k page [] t d low is = absurd (omega (arith, low))
made_is most zero page (x ∷ xs) t d low is = ap (made most page) (sym is)
made_is most (suc k) page (x ∷ xs) t d low is = made_is most k page xs t d (omega (arith, low)) is

pub leaf_added : (most k page : ℕ) (ts : List Trunk) (t d new : Trunk) → k < length ts → t ≡ get_or ts k d → nat_lt (length t.leaves) most ≡ true → new ≡ with_leaf page t
    → slice_set ts k new ≡ freed_at most k page ts
leaf_added most k page ts t d new low is room new_is =
    let one : freed most page t ≡ with_leaf page t = rw room refl in
    ap (slice_set ts k) (new_is ∙ sym one) ∙ sym (freed_is most k page ts t d low is)

pub none_made : (most k page : ℕ) (ts : List Trunk) (t d : Trunk) (others : List Trunk) → k < length ts → t ≡ get_or ts k d → nat_lt (length t.leaves) most ≡ true
    → others ≡ others ++ made_at most k page ts
none_made most k page ts t d others low is room =
    let none : made most page t ≡ [] = rw room refl in
    sym (ap (λ (ms : List Trunk). others ++ ms) (made_is most k page ts t d low is ∙ none) ∙ append-nil others)

pub moved_on : (most k page : ℕ) (ts : List Trunk) (t d new : Trunk) → k < length ts → t ≡ get_or ts k d → nat_lt (length t.leaves) most ≡ false → new ≡ emptied page t
    → slice_set ts k new ≡ freed_at most k page ts
moved_on most k page ts t d new low is room new_is =
    let one : freed most page t ≡ emptied page t = rw room refl in
    ap (slice_set ts k) (new_is ∙ sym one) ∙ sym (freed_is most k page ts t d low is)

pub one_made : (most k page : ℕ) (ts : List Trunk) (t d trunk : Trunk) (others now : List Trunk) → k < length ts → t ≡ get_or ts k d → nat_lt (length t.leaves) most ≡ false → trunk ≡ taking page t
    → now ≡ others ++ trunk ∷ [] → now ≡ others ++ made_at most k page ts
one_made most k page ts t d trunk others now low is room trunk_is now_is =
    let one : made most page t ≡ taking page t ∷ [] = rw room refl in
    now_is ∙ ap (λ (x : Trunk). others ++ x ∷ []) trunk_is ∙ ap (λ (ms : List Trunk). others ++ ms) (sym (made_is most k page ts t d low is ∙ one))

-- one page more is freed
pub deal_turn : (most lists j : ℕ) (firsts now all : List Trunk) (pages : List ℕ) (page d : ℕ) → j < length pages → page ≡ get_or pages j d → now ≡ freed_at most (j % lists) page firsts
    → dealt most lists j firsts (drop j pages) ≡ all → dealt most lists (j + 1) now (drop (j + 1) pages) ≡ all
deal_turn most lists j firsts now all pages page d low page_is now_is kept =
    let next : j + 1 ≡ suc j = omega arith in
    let split : drop j pages ≡ page ∷ drop (j + 1) pages = drop-cons pages j d low ∙ ap (λ (p : ℕ). p ∷ drop (suc j) pages) (sym page_is) ∙ ap (λ (n : ℕ). page ∷ drop n pages) (sym next) in
    ap (λ (ts : List Trunk). dealt most lists (j + 1) ts (drop (j + 1) pages)) now_is
    ∙ sym (ap (dealt most lists j firsts) split) ∙ kept

pub made_turn : (most lists j : ℕ) (firsts now others later all : List Trunk) (pages : List ℕ) (page d : ℕ) → j < length pages → page ≡ get_or pages j d → now ≡ freed_at most (j % lists) page firsts
    → later ≡ others ++ made_at most (j % lists) page firsts
    → others ++ made_of most lists j firsts (drop j pages) ≡ all → later ++ made_of most lists (j + 1) now (drop (j + 1) pages) ≡ all
made_turn most lists j firsts now others later all pages page d low page_is now_is later_is kept =
    let next : j + 1 ≡ suc j = omega arith in
    let split : drop j pages ≡ page ∷ drop (j + 1) pages = drop-cons pages j d low ∙ ap (λ (p : ℕ). p ∷ drop (suc j) pages) (sym page_is) ∙ ap (λ (n : ℕ). page ∷ drop n pages) (sym next) in
    ap (λ (ts : List Trunk). later ++ made_of most lists (j + 1) ts (drop (j + 1) pages)) now_is
    ∙ ap (λ (ts : List Trunk). ts ++ made_of most lists (j + 1) (freed_at most (j % lists) page firsts) (drop (j + 1) pages)) later_is
    ∙ append_assoc others (made_at most (j % lists) page firsts) (made_of most lists (j + 1) (freed_at most (j % lists) page firsts) (drop (j + 1) pages))
    ∙ sym (ap (λ (ps : List ℕ). others ++ made_of most lists j firsts ps) split) ∙ kept
