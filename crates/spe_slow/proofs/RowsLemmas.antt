-- The values of rows that are written.
use Rattle.std.proofs.Common.{◌≡◌, ℕ, zero, suc, ◌+◌, List, [], ◌∷◌, length, map, refl, ap, ◌∙◌, Bor}
use Rattle.std.specs.Prelude.{ℤ, Option, if◌then◌else◌}
use Rattle.std.specs.List.{range_with_len, enumerate_from, zip}
use Rattle.std.specs.Option.{unwrap_or, option_copied}
use Rattle.spe_model.specs.declared.value.Value.{Value}
use Rattle.spe_model.specs.declared.value.Value.TheVariants.{Null, Int}
use Rattle.spe_model.specs.declared.naming.Named.TheVariants as named
use Rattle.spe_model.specs.declared.table.TableDef.{TableDef}
use Rattle.spe_model.specs.declared.statement.Statement.{Statement}
use Rattle.spe_model.specs.Alias.{is_alias}
use Rattle.spe_model.specs.Assigned.{assignments, given_to}
use Rattle.spe_slow.specs.Rows.{new_values, changed_values}

-- the value of a new row in the column of a place
abbrev pub new_value : TableDef → Statement → ℤ → ℕ → Value
new_value table s rowid place = if is_alias table.alias place then Int rowid else unwrap_or (given_to (named.Column place) (assignments table s)) Null

alias_over : (alias : Option ℕ) (v : Value) (g : ℕ → Option Value) (a n : ℕ)
    → map (λ (x : ℕ × Value). if is_alias alias x.0 then v else x.1) (enumerate_from a (map (λ value. unwrap_or value Null) (map g (range_with_len a n))))
    ≡ map (λ place. if is_alias alias place then v else unwrap_or (g place) Null) (range_with_len a n)
alias_over alias v g a zero = refl
alias_over alias v g a (suc n) = ap (λ xs. (if is_alias alias a then v else unwrap_or (g a) Null) ∷ xs) (alias_over alias v g (a + 1) n)

pub new_values_by_place : (table : TableDef) (s : Statement) (rowid : ℤ) → new_values table s rowid ≡ map (new_value table s rowid) (range_with_len 0 (length table.columns))
new_values_by_place table s rowid = alias_over table.alias (Int rowid) (λ place. given_to (named.Column place) (assignments table s)) 0 (length table.columns)

-- what is given, or else what was there
abbrev pub changed_value : Bor (Option (Bor Value)) × Bor Value → Value
changed_value x = unwrap_or (option_copied x.0.now) x.1.now

-- both of a pair, read
abbrev pub read_pair : Bor (Option (Bor Value)) × Bor Value → Option (Bor Value) × Value
read_pair x = (x.0.now, x.1.now)

copied_left : (given : List (Option (Bor Value))) (old : List Value) → zip (map option_copied given) old ≡ map (λ (x : Option (Bor Value) × Value). (option_copied x.0, x.1)) (zip given old)
copied_left [] old = refl
copied_left (g ∷ gs) [] = refl
copied_left (g ∷ gs) (o ∷ os) = ap (λ xs. (option_copied g, o) ∷ xs) (copied_left gs os)

changed_each : (ys : List (Bor (Option (Bor Value)) × Bor Value))
    → map changed_value ys ≡ map (λ (x : Option Value × Value). unwrap_or x.0 x.1) (map (λ (x : Option (Bor Value) × Value). (option_copied x.0, x.1)) (map read_pair ys))
changed_each [] = refl
changed_each (y ∷ ys) = ap (λ xs. changed_value y ∷ xs) (changed_each ys)

pub changed_all : (given : List (Option (Bor Value))) (old : List Value) (ys : List (Bor (Option (Bor Value)) × Bor Value)) → map read_pair ys ≡ zip given old
    → map changed_value ys ≡ changed_values (map option_copied given) old
changed_all given old ys e = changed_each ys ∙ rw (e, copied_left given old) refl
