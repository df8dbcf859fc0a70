use Rattle.std.proofs.Common.{◌≡◌, ◌∙◌, ℕ, Bool, true, false, List, [], ◌∷◌, ◌++◌, ap, refl, append_assoc}
use Rattle.spe_model.specs.Walk.{Mark, Names, Keeps, is_one_of}
use Rattle.std.specs.Prelude.{Result, Ok, Err}
use Rattle.spe_check.specs.Tries.{broken, with_page, Leads, Passes, Breaks, Tries}
use Rattle.spe_check.specs.declared.halt.Halt.{Halt}
use Rattle.spe_check.specs.declared.halt.Halt.TheVariants.{Broken, Space}

abbrev pub the_ok : (X : Type 0) → X → Result X Halt
the_ok X x = Ok x

abbrev pub the_err : (X : Type 0) → Halt → Result X Halt
the_err X halt = Err halt

pub leads_first : (count : ℕ) (met : ℕ → Bool) (all : List Mark) → Leads count met all met all
leads_first count met all more = refl

-- some marks more are tried
pub leads_more : (count : ℕ) (a b c : ℕ → Bool) (all some left : List Mark)
    → Leads count a all b (some ++ left) → Passes count b c some → Leads count a all c left
leads_more count a b c all some left led passed more =
    led more ∙ ap (broken count b) (append_assoc some left more) ∙ passed (left ++ more)

pub leads_break : (count : ℕ) (a b : ℕ → Bool) (all some left : List Mark) (which : ℕ × ℕ)
    → Leads count a all b (some ++ left) → Breaks count b some which → Breaks count a all which
leads_break count a b all some left which led broke more =
    led more ∙ ap (broken count b) (append_assoc some left more) ∙ broke (left ++ more)

pub leads_end : (count : ℕ) (a b c : ℕ → Bool) (all some : List Mark) → Leads count a all b some → Passes count b c some → Passes count a c all
leads_end count a b c all some led passed more = led more ∙ passed more

pub leads_end_break : (count : ℕ) (a b : ℕ → Bool) (all some : List Mark) (which : ℕ × ℕ) → Leads count a all b some → Breaks count b some which → Breaks count a all which
leads_end_break count a b all some which led broke more = led more ∙ broke more

-- one mark
pub keeps_passes : (count : ℕ) (met : ℕ → Bool) (page rule : ℕ) (kept : Bool) → kept ≡ true → Passes count met met (Keeps page rule kept ∷ [])
keeps_passes count met page rule kept is more = rw is refl

pub keeps_breaks : (count : ℕ) (met : ℕ → Bool) (page rule : ℕ) (kept : Bool) → kept ≡ false → Breaks count met (Keeps page rule kept ∷ []) (page, rule)
keeps_breaks count met page rule kept is more = rw is refl

pub names_passes : (count : ℕ) (before after : ℕ → Bool) (holder page : ℕ) → is_one_of count page ≡ true → before page ≡ false
    → after ≡ with_page page before → Passes count before after (Names holder page ∷ [])
names_passes count before after holder page one new same more = rw (one, new, same) refl

pub names_out : (count : ℕ) (before : ℕ → Bool) (holder page : ℕ) → is_one_of count page ≡ false → Breaks count before (Names holder page ∷ []) (holder, 1)
names_out count before holder page out more = rw out refl

pub names_twice : (count : ℕ) (before : ℕ → Bool) (holder page : ℕ) → is_one_of count page ≡ true → before page ≡ true
    → Breaks count before (Names holder page ∷ []) (page, 2)
names_twice count before holder page one twice more = rw (one, twice) refl

-- one part of a walk after another
pub tries_then : {X Y : Type 0} (count : ℕ) (a b c : ℕ → Bool) (first second : List Mark) (x : X) (r : Result Y Halt)
    → Tries count a b first (the_ok X x) → Tries count b c second r → Tries count a c (first ++ second) r
tries_then count a b c first second x (Ok y) passed next = λ more. ap (broken count a) (append_assoc first second more) ∙ passed (second ++ more) ∙ next more
tries_then count a b c first second x (Err (Broken page rule)) passed next = λ more. ap (broken count a) (append_assoc first second more) ∙ passed (second ++ more) ∙ next more
tries_then count a b c first second x (Err (Space f)) passed next = tt

pub tries_halt : (X Y : Type 0) (count : ℕ) (a b c : ℕ → Bool) (first second : List Mark) (halt : Halt)
    → Tries count a b first (the_err X halt) → Tries count a c (first ++ second) (the_err Y halt)
tries_halt X Y count a b c first second (Broken page rule) broke = λ more. ap (broken count a) (append_assoc first second more) ∙ broke (second ++ more)
tries_halt X Y count a b c first second (Space f) broke = tt

-- in a loop
pub leads_try : (X : Type 0) (count : ℕ) (a b c : ℕ → Bool) (all some left : List Mark) (x : X)
    → Leads count a all b (some ++ left) → Tries count b c some (the_ok X x) → Leads count a all c left
leads_try X count a b c all some left x led passed more =
    led more ∙ ap (broken count b) (append_assoc some left more) ∙ passed (left ++ more)

pub leads_halt : (X Y : Type 0) (count : ℕ) (a b c d : ℕ → Bool) (all some left : List Mark) (halt : Halt)
    → Leads count a all b (some ++ left) → Tries count b c some (the_err X halt) → Tries count a d all (the_err Y halt)
leads_halt X Y count a b c d all some left (Broken page rule) led broke =
    λ more. led more ∙ ap (broken count b) (append_assoc some left more) ∙ broke (left ++ more)
leads_halt X Y count a b c d all some left (Space f) led broke = tt

-- the last part of a loop
pub leads_last : {X : Type 0} (count : ℕ) (a b c : ℕ → Bool) (all some : List Mark) (r : Result X Halt)
    → Leads count a all b some → Tries count b c some r → Tries count a c all r
leads_last count a b c all some (Ok x) led tried = λ more. led more ∙ tried more
leads_last count a b c all some (Err (Broken page rule)) led tried = λ more. led more ∙ tried more
leads_last count a b c all some (Err (Space f)) led tried = tt

-- where a walk halts, what it would have answered is no matter
pub halts_same : (X Y : Type 0) (count : ℕ) (a b : ℕ → Bool) (marks : List Mark) (halt : Halt)
    → Tries count a b marks (the_err X halt) → Tries count a b marks (the_err Y halt)
halts_same X Y count a b marks (Broken page rule) broke = broke
halts_same X Y count a b marks (Space f) broke = tt
