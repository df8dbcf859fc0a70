-- Digits and the numbers that they write.
use Rattle.std.proofs.Common.{◌≡◌, ℕ, ◌<◌, ◌^◌, List, true, Result, Err, rules, arith}
use Rattle.std.specs.Prelude.{Option, None}
use Rattle.std.specs.Char.{is_ascii_digit}
use Rattle.std.specs.List.{list_all}
use Rattle.std.specs.Str.Parse.{digits_value, ParsesUnsigned}
use Rattle.std.proofs.lemmas.Bool.Decides.{nat_tests}
use Rattle.std.proofs.lemmas.Str.Parse.{IsNumeralModel, numerals_by_value, parse_digits}
use Rattle.spe_lex.specs.Lexed.{AreDigits}
use Rattle.spe_parse.specs.Number.{fitting}

own : IsNumeralModel (λ ds. list_all is_ascii_digit ds ≡ true) (digits_value 10)
own = numerals_by_value _ (search rules)

too_large : (n : ℕ) → ¬ (n < 2 ^ 64) → (let nothing : Option ℕ = None in nothing ≡ fitting n)
too_large n over = grind (arith, nat_tests, over)

abbrev unread : {E : Type 0} → E → Result ℕ E
unread e = Err e

-- digits that are not read write a number that does not fit
pub not_fitting : {E : Type 0} (digits : List ℕ) (e : E) → AreDigits digits → ParsesUnsigned 64 10 digits (unread e)
    → (let nothing : Option ℕ = None in nothing ≡ fitting (digits_value 10 digits))
not_fitting digits e are parsed = too_large (digits_value 10 digits) (λ fits. parse_digits own 64 digits (unread e) parsed are.all (are.some, fits))
