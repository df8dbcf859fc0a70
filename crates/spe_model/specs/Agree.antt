-- Names agree without regard to ASCII case.
use Rattle.std.specs.Prelude.{ℕ, Bool, List}
use Rattle.std.specs.Str.{str_eq_ignore_ascii_case}

abbrev pub agree : List ℕ → List ℕ → Bool
agree a b = str_eq_ignore_ascii_case a b
