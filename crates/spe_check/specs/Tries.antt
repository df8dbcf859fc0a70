-- What a part of a walk does: it tries marks, one after the other, whatever marks follow.
use Rattle.std.specs.Prelude.{◌≡◌, ℕ, ◌==◌, ◌||◌, not, Bool, List, [], ◌∷◌, ◌++◌, Option, Some, None, Result, Ok, Err, if◌then◌else◌}
use Rattle.spe_model.specs.Walk.{Mark, Names, Keeps, is_one_of}
use Rattle.spe_check.specs.declared.halt.Halt.{Halt}
use Rattle.spe_check.specs.declared.halt.Halt.TheVariants.{Broken, Space}

-- pages as a test of page numbers, with one more
abbrev pub with_page : ℕ → (ℕ → Bool) → ℕ → Bool
with_page page met n = page == n || met n

-- the first mark that is broken, where these pages were met before
abbrev pub broken : (count : ℕ) → (met : ℕ → Bool) → List Mark → Option (ℕ × ℕ)
broken count met [] = None
broken count met (Names holder page ∷ marks) =
    if not (is_one_of count page) then Some (holder, 1)
    else (if met page then Some (page, 2) else broken count (with_page page met) marks)
broken count met (Keeps page rule kept ∷ marks) = if kept then broken count met marks else Some (page, rule)

-- after all these marks, as far as they were tried, so many are left
abbrev pub Leads : (count : ℕ) (before : ℕ → Bool) → List Mark → (now : ℕ → Bool) → List Mark → Type 0
Leads count before all now left = (more : List Mark) → broken count before (all ++ more) ≡ broken count now (left ++ more)

-- none of the marks is broken, and these pages were met after them
abbrev pub Passes : (count : ℕ) (before after : ℕ → Bool) → List Mark → Type 0
Passes count before after marks = Leads count before marks after []

-- the first of the marks that is broken
abbrev pub Breaks : (count : ℕ) (before : ℕ → Bool) → List Mark → ℕ × ℕ → Type 0
Breaks count before marks which = (more : List Mark) → broken count before (marks ++ more) ≡ Some which

-- a part of a walk tries these marks
abbrev pub Tries : {X : Type 0} → (count : ℕ) (before after : ℕ → Bool) → List Mark → Result X Halt → Type 0
Tries count before after marks (Ok x) = Passes count before after marks
Tries count before after marks (Err (Broken page rule)) = Breaks count before marks (page, rule)
Tries count before after marks (Err (Space f)) = Unit {0}

-- a rule is broken
abbrev pub IsBroken : Halt → Type 0
IsBroken (Broken page rule) = Unit {0}
IsBroken (Space f) = ⊥
