-- Rows in a map, as its entries.
use Rattle.std.proofs.Common.{◌≡◌, Bool, true, false, List, [], ◌∷◌, ◌++◌, map, refl, sym, ap, ◌∙◌, append_assoc, Option}
use Rattle.std.specs.Prelude.{None}
use Rattle.std.specs.Map.{lookup, set_value}
use Rattle.std.proofs.lemmas.Option.{none-some}
use Rattle.std.proofs.lemmas.List.{append-nil}
use Rattle.spe_model.specs.declared.value.Value.{Value}
use Rattle.spe_model.specs.declared.naming.Named.{Named}
use Rattle.spe_model.specs.declared.statement.Cond.{Cond}
use Rattle.spe_model.specs.Database.{Row}
use Rattle.spe_model.specs.Conditions.{is_chosen, chosen}
use Rattle.spe_slow.specs.Rows.{shown_values, changed_values}

-- a row as it is shown, and as it is changed
abbrev pub shown_row : Bool → List Named → Row → Row
shown_row all names r = (r.0, shown_values all names r)

abbrev pub changed_row : List (Option Value) → Row → Row
changed_row given r = (r.0, changed_values given r.1)

-- what is made of a row that is chosen is found; of another nothing is
pub push_chosen : (f : Row → Row) (conds : List Cond) (found : List Row) (r x : Row) (left rows all : List Row) → rows ≡ r ∷ left → is_chosen conds r.0 ≡ true → x ≡ f r
    → found ++ map f (chosen conds rows) ≡ all → (found ++ x ∷ []) ++ map f (chosen conds left) ≡ all
push_chosen f conds found r x left rows all is here made e =
    let same : chosen conds rows ≡ r ∷ chosen conds left = rw (is, here) refl in
    let kept : found ++ map f (r ∷ chosen conds left) ≡ all = rw same at e in
    rw (append_assoc, made) kept

pub skip_chosen : (f : Row → Row) (conds : List Cond) (found : List Row) (r : Row) (left rows all : List Row) → rows ≡ r ∷ left → is_chosen conds r.0 ≡ false
    → found ++ map f (chosen conds rows) ≡ all → found ++ map f (chosen conds left) ≡ all
skip_chosen f conds found r left rows all is other e =
    let same : chosen conds rows ≡ chosen conds left = rw (is, other) refl in
    rw same at e

pub all_chosen : (f : Row → Row) (conds : List Cond) (found rows all : List Row) → rows ≡ [] → found ++ map f (chosen conds rows) ≡ all → found ≡ all
all_chosen f conds found rows all is e = sym (append-nil found) ∙ (rw is at e)

set_other : {K X : Type 0} (test : K → Bool) (x : K × X) (xs : List (K × X)) (w : X) (b : Bool) → test x.0 ≡ b → lookup test (x ∷ xs) ≡ None
    → (lookup test xs ≡ None → set_value test xs w ≡ xs) → set_value test (x ∷ xs) w ≡ x ∷ xs
set_other test x xs w true here e rest = absurd (none-some x.1 (sym (rw here at e)))
set_other test x xs w false other e rest = rw other (ap (λ ys. x ∷ ys) (rest (rw other at e)))

-- a row that is not there is not written
pub set_none : {K X : Type 0} (test : K → Bool) (es : List (K × X)) (w : X) → lookup test es ≡ None → set_value test es w ≡ es
set_none test [] w e = refl
set_none test (x ∷ xs) w e = set_other test x xs w (test x.0) refl e (λ f. set_none test xs w f)
