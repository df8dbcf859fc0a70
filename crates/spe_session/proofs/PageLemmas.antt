-- What a pager shows of its pages.
use Rattle.std.proofs.Common.{inl, inr, ◌≡◌, ◌≢◌, ◌≤◌, ◌∙◌, ℕ, List, [], ◌∷◌, length, All, Option, Some, None, Result, Ok, Err, OnOk, refl, sym, ap, subst, arith, ⊎_elim, unwrap_or, option_to_list}
use Rattle.std.specs.Prelude.{IfSome, ◌&&◌, nat_lt, nat_le, Bool, ◌<◌, is_some, replicate, true, false, if◌then◌else◌}
use Rattle.std.proofs.lemmas.Bool.{cases_eq, le-leb, le-ltb, lt-leb, lt-ltb}
use Rattle.std.proofs.lemmas.List.Elements.{All-cons, All-head, All-nil}
use Rattle.spe_model.specs.Paging.{Given, PageMap, Paging}
use Rattle.spe_space.specs.Free.{DifferAt}
use Rattle.spe_session.specs.Below.{IsBelow}
use Rattle.spe_session.specs.Pages.{AreSized, AreUpTo, IsShown, KeepsSeen, ReadsOne, Sets, bytes_at, first_of, laid_in, laid_of, or_else}

pub laid_none : (base pages size : ℕ) (dirty : List (ℕ × List ℕ)) (n : ℕ) → bytes_at dirty n ≡ None → n ≤ base → laid_in base pages size dirty n ≡ None
laid_none base pages size dirty n none low = rw (none, le-ltb base n low) refl

-- a page that was neither put nor added is shown as it is below
pub below_shown : (seen : Given) (laid : PageMap) (page : ℕ) (bytes : List ℕ) → laid page ≡ None → seen page ≡ bytes ∷ [] → IsShown seen laid page bytes
below_shown seen laid page bytes none once = λ pages agrees.
    let given : All (λ (b : List ℕ). pages page ≡ b) (bytes ∷ []) = subst (λ (bs : List (List ℕ)). All (λ (b : List ℕ). pages page ≡ b) bs) once (agrees.each page) in
    sym (All-head (λ (b : List ℕ). pages page ≡ b) bytes [] given) ∙ sym (ap (λ (o : Option (List ℕ)). unwrap_or o (pages page)) none)

pub clean_shown : (base pages size : ℕ) (dirty clean : List (ℕ × List ℕ)) (seen : Given) (page : ℕ) (bytes : List ℕ) → KeepsSeen clean seen
    → bytes_at dirty page ≡ None → page ≤ base → bytes_at clean page ≡ Some bytes → IsShown seen (laid_in base pages size dirty) page bytes
clean_shown base pages size dirty clean seen page bytes keeps none low kept =
    below_shown seen (laid_in base pages size dirty) page bytes (laid_none base pages size dirty page none low) (keeps page ∙ ap option_to_list kept)

-- page 1 as it was put, or else as it was read
pub first_shown : (base pages size : ℕ) (dirty clean : List (ℕ × List ℕ)) (seen : Given) (bytes : List ℕ) → KeepsSeen clean seen → 1 ≤ base
    → first_of dirty clean ≡ Some bytes → IsShown seen (laid_in base pages size dirty) 1 bytes
first_shown base pages size dirty clean seen bytes keeps some is = by_put (bytes_at dirty 1) refl
  where
    by_put : (o : Option (List ℕ)) → bytes_at dirty 1 ≡ o → IsShown seen (laid_in base pages size dirty) 1 bytes
    by_put (Some put) there = λ q agrees.
        let same : Some put ≡ Some bytes = sym (ap (λ (o : Option (List ℕ)). or_else o (bytes_at clean 1)) there) ∙ is in
        let put_is : put ≡ bytes = cc in
        let laid : laid_in base pages size dirty 1 ≡ Some put = rw there refl in
        sym put_is ∙ sym (ap (λ (o : Option (List ℕ)). unwrap_or o (q 1)) laid)
    by_put None none = clean_shown base pages size dirty clean seen 1 bytes keeps none some (sym (ap (λ (o : Option (List ℕ)). or_else o (bytes_at clean 1)) none) ∙ is)

-- a page was read and kept, in the room that was taken for it
pub seen_kept : (page : ℕ) (room copied bytes : List ℕ) (a b c : List (ℕ × List ℕ)) (old new : Given) → KeepsSeen a old → Sets page (Some room) a b → Sets page (Some copied) b c
    → copied ≡ bytes → ReadsOne page bytes old new → KeepsSeen c new
seen_kept page room copied bytes a b c old new keeps first second same read n = ⊎_elim
    (λ (e : n ≡ page). ap new e ∙ read.here ∙ ap (λ (x : List ℕ). x ∷ []) (sym same) ∙ sym (ap option_to_list (ap (bytes_at c) e ∙ second.here)))
    (λ (other : n ≢ page). read.other n other ∙ keeps n ∙ sym (ap option_to_list (second.other n other ∙ first.other n other)))
    (cases_eq n page)

pub sized_kept : (size page : ℕ) (room copied : List ℕ) (a b c : List (ℕ × List ℕ)) → AreSized size a → Sets page (Some room) a b → Sets page (Some copied) b c → length copied ≡ size → AreSized size c
sized_kept size page room copied a b c sized first second long n bytes there = ⊎_elim
    (λ (e : n ≡ page). let same : Some copied ≡ Some bytes = sym second.here ∙ sym (ap (bytes_at c) e) ∙ there in let is : copied ≡ bytes = cc in ap length (sym is) ∙ long)
    (λ (other : n ≢ page). sized n bytes (sym (second.other n other ∙ first.other n other) ∙ there))
    (cases_eq n page)

pub below_kept : (told told' : Option Paging) (page : ℕ) (bytes : List ℕ) (old new : Given) → IsBelow told old → IfSome told (λ (pages : Paging). pages page ≡ bytes) → ReadsOne page bytes old new → told' ≡ told → IsBelow told' new
below_kept told told' page bytes old new below gives read same pages is =
    let was : told ≡ Some pages = sym same ∙ is in
    let at : pages page ≡ bytes = subst (λ (o : Option Paging). IfSome o (λ (q : Paging). q page ≡ bytes)) was gives in
    record {
      each = λ n. ⊎_elim
          (λ (e : n ≡ page). subst (λ (xs : List (List ℕ)). All (λ (b : List ℕ). pages n ≡ b) xs) (sym (ap new e ∙ read.here))
          (All-cons (λ (b : List ℕ). pages n ≡ b) bytes [] (ap pages e ∙ at) (All-nil (λ (b : List ℕ). pages n ≡ b))))
          (λ (other : n ≢ page). subst (λ (xs : List (List ℕ)). All (λ (b : List ℕ). pages n ≡ b) xs) (sym (read.other n other)) ((below pages was).each n))
          (cases_eq n page);
    }

pub shown_of : {X E : Type 0} (result : Result X E) (page : ℕ) (bytes : List ℕ) (old new : Given) (laid : PageMap) → laid page ≡ None → OnOk result (ReadsOne page bytes old new) → OnOk result (IsShown new laid page bytes)
shown_of (Ok x) page bytes old new laid none read = below_shown new laid page bytes none read.here
shown_of (Err e) page bytes old new laid none read = tt

-- what is laid after one page was put
pub laid_put : (base pages size page : ℕ) (bytes : List ℕ) (old new : List (ℕ × List ℕ)) → Sets page (Some bytes) old new → laid_in base pages size new page ≡ Some bytes
laid_put base pages size page bytes old new sets = ap (λ (o : Option (List ℕ)). laid_of o (nat_lt base page && nat_le page pages) size) sets.here

pub laid_other : (base pages size page : ℕ) (bytes : List ℕ) (old new : List (ℕ × List ℕ)) → Sets page (Some bytes) old new → (n : ℕ) → n ≢ page → laid_in base pages size new n ≡ laid_in base pages size old n
laid_other base pages size page bytes old new sets n other = ap (λ (o : Option (List ℕ)). laid_of o (nat_lt base n && nat_le n pages) size) (sets.other n other)

-- pages that there were before others were added
pub laid_before : (base pages more size : ℕ) (dirty : List (ℕ × List ℕ)) (n : ℕ) → n ≤ pages → pages ≤ more → laid_in base more size dirty n ≡ laid_in base pages size dirty n
laid_before base pages more size dirty n low high =
    ap (λ (b : Bool). laid_of (bytes_at dirty n) (nat_lt base n && b) size) (le-leb n more (omega (arith, low, high)) ∙ sym (le-leb n pages low))

-- a fault was kept, and nothing else is new
pub laid_alike : (base base' pages pages' size size' : ℕ) (dirty dirty' : List (ℕ × List ℕ)) → base' ≡ base → pages' ≡ pages → size' ≡ size → dirty' ≡ dirty
    → (n : ℕ) → laid_in base' pages' size' dirty' n ≡ laid_in base pages size dirty n
laid_alike base base' pages pages' size size' dirty dirty' a b c d n =
    ap (λ (k : ℕ). laid_in k pages' size' dirty' n) a ∙ ap (λ (k : ℕ). laid_in base k size' dirty' n) b
    ∙ ap (λ (k : ℕ). laid_in base pages k dirty' n) c ∙ ap (λ (es : List (ℕ × List ℕ)). laid_in base pages size es n) d

pub differ_same : {X : Type 0} (old mid new : ℕ → X) (P : ℕ → Type 0) → ((n : ℕ) → new n ≡ mid n) → DifferAt old mid P → DifferAt old new P
differ_same old mid new P same differ n = ⊎_elim
    (λ (is : mid n ≡ old n). inl (same n ∙ is))
    (λ (is : P n). inr is)
    (differ n)

-- pages after one was put
pub sized_put : (size page : ℕ) (bytes : List ℕ) (old new : List (ℕ × List ℕ)) → AreSized size old → Sets page (Some bytes) old new → length bytes ≡ size → AreSized size new
sized_put size page bytes old new sized sets long n own there = ⊎_elim
    (λ (e : n ≡ page). let same : Some bytes ≡ Some own = sym sets.here ∙ sym (ap (bytes_at new) e) ∙ there in let is : bytes ≡ own = cc in ap length (sym is) ∙ long)
    (λ (other : n ≢ page). sized n own (sym (sets.other n other) ∙ there))
    (cases_eq n page)

pub placed_put : (pages more page : ℕ) (bytes : List ℕ) (old new : List (ℕ × List ℕ)) → AreUpTo pages old → Sets page (Some bytes) old new → page ≤ more → pages ≤ more → AreUpTo more new
placed_put pages more page bytes old new placed sets within few n own there = ⊎_elim
    (λ (e : n ≡ page). omega (arith, e, within))
    (λ (other : n ≢ page). omega (arith, placed n own (sym (sets.other n other) ∙ there), few))
    (cases_eq n page)

-- room for a page was taken and is gone again
pub gone_same : (page : ℕ) (room : List ℕ) (a b c : List (ℕ × List ℕ)) → bytes_at a page ≡ None → Sets page (Some room) a b → Sets page None b c → (n : ℕ) → bytes_at c n ≡ bytes_at a n
gone_same page room a b c fresh first second n = ⊎_elim
    (λ (e : n ≡ page). ap (bytes_at c) e ∙ second.here ∙ sym fresh ∙ sym (ap (bytes_at a) e))
    (λ (other : n ≢ page). second.other n other ∙ first.other n other)
    (cases_eq n page)

-- a page that was added: as it was put, or zeros
pub laid_added : (base pages size page : ℕ) (dirty : List (ℕ × List ℕ)) (bytes zeros : List ℕ) → base < page → page ≤ pages → bytes ≡ unwrap_or (bytes_at dirty page) zeros → zeros ≡ replicate size 0
    → laid_in base pages size dirty page ≡ Some bytes
laid_added base pages size page dirty bytes zeros above within is blank = by_put (bytes_at dirty page) refl
  where
    by_put : (o : Option (List ℕ)) → bytes_at dirty page ≡ o → laid_in base pages size dirty page ≡ Some bytes
    by_put (Some own) there = rw there (ap Some (sym (is ∙ ap (λ (x : Option (List ℕ)). unwrap_or x zeros) there)))
    by_put None none =
        rw (none, lt-ltb base page above, le-leb page pages within) (ap Some (sym (is ∙ ap (λ (x : Option (List ℕ)). unwrap_or x zeros) none ∙ blank)))

-- none of these pages was added
pub laid_old : (base pages size page : ℕ) (dirty : List (ℕ × List ℕ)) → page ≤ base → laid_in base pages size dirty page ≡ bytes_at dirty page
laid_old base pages size page dirty low = by_put (bytes_at dirty page) refl
  where
    by_put : (o : Option (List ℕ)) → bytes_at dirty page ≡ o → laid_in base pages size dirty page ≡ o
    by_put (Some own) there = rw there refl
    by_put None none = laid_none base pages size dirty page none low

none_added : (b : Bool) (zeros : List ℕ) → (if b && false then Some zeros else None) ≡ None
none_added true zeros = refl
none_added false zeros = refl

-- there is no page above all
pub laid_above : (base pages size page : ℕ) (dirty : List (ℕ × List ℕ)) → AreUpTo pages dirty → pages < page → laid_in base pages size dirty page ≡ None
laid_above base pages size page dirty placed above = by_put (bytes_at dirty page) refl
  where
    by_put : (o : Option (List ℕ)) → bytes_at dirty page ≡ o → laid_in base pages size dirty page ≡ None
    by_put (Some own) there = absurd (omega (arith, above, placed page own there))
    by_put None none = rw (none, lt-leb page pages above) (none_added (nat_lt base page) (replicate size 0))

pub laid_fresh : (base pages size page : ℕ) (dirty : List (ℕ × List ℕ)) → base < page → page ≤ pages → is_some (laid_in base pages size dirty page) ≡ true
laid_fresh base pages size page dirty above within = ap is_some (laid_added base pages size page dirty (unwrap_or (bytes_at dirty page) (replicate size 0)) (replicate size 0) above within refl refl)
