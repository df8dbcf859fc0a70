-- The rowids that conditions choose, as those between two.
use Rattle.std.specs.Prelude.{◌≡◌, ℤ, pos, negsuc, ◌≤◌, Bool, false, ◌&&◌, List, Option, Some, None, int_le, int_lt}
use Rattle.spe_model.specs.declared.statement.Cond.{Cond}
use Rattle.spe_model.specs.Conditions.{meets, is_chosen}
use Rattle.spe_exec.specs.declared.bounds.Span.{Span}

-- a rowid has 64 bits with a sign
abbrev pub IsRowid : ℤ → Type 0
IsRowid (pos n) = n ≤ 9223372036854775807
IsRowid (negsuc n) = n ≤ 9223372036854775807

abbrev pub is_within : Option Span → ℤ → Bool
is_within None n = false
is_within (Some span) n = int_le span.low n && int_le n span.high

-- numbers are from the larger of two on exactly where they are from both on
abbrev pub IsLarger : ℤ → ℤ → ℤ → Type 0
IsLarger a b larger = (n : ℤ) → int_le larger n ≡ (int_le a n && int_le b n)

-- rowids are above a number exactly where they are from the next on
abbrev pub IsNext : ℤ → Option ℤ → Type 0
IsNext number None = (n : ℤ) → IsRowid n → int_lt number n ≡ false
IsNext number (Some next) = (n : ℤ) → int_le next n ≡ int_lt number n

-- a rowid is within exactly where it was within before and stands so to a number
abbrev pub KeepsFrom : Span → ℤ → Span → Type 0
KeepsFrom before number after = (n : ℤ) → is_within (Some after) n ≡ (is_within (Some before) n && int_le number n)

abbrev pub KeepsUpTo : Span → ℤ → Span → Type 0
KeepsUpTo before number after = (n : ℤ) → is_within (Some after) n ≡ (is_within (Some before) n && int_le n number)

abbrev pub KeepsAbove : Span → ℤ → Option Span → Type 0
KeepsAbove before number after = (n : ℤ) → IsRowid n → is_within after n ≡ (is_within (Some before) n && int_lt number n)

abbrev pub KeepsBelow : Span → ℤ → Option Span → Type 0
KeepsBelow before number after = (n : ℤ) → IsRowid n → is_within after n ≡ (is_within (Some before) n && int_lt n number)

-- a rowid is within exactly where it was within before and meets the condition
abbrev pub Narrows : Span → Cond → Option Span → Type 0
Narrows before c after = (n : ℤ) → IsRowid n → is_within after n ≡ (is_within (Some before) n && meets n c)

-- a rowid is within exactly where it meets all conditions
abbrev pub Bounds : List Cond → Option Span → Type 0
Bounds conds span = (n : ℤ) → IsRowid n → is_within span n ≡ is_chosen conds n

-- in a loop over the conditions: a rowid that is within and meets those that are left meets all
abbrev pub HasNarrowed : (conds left : List Cond) → Span → Type 0
HasNarrowed conds left span = (n : ℤ) → IsRowid n → (is_within (Some span) n && is_chosen left n) ≡ is_chosen conds n
