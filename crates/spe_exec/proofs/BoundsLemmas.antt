-- What conditions leave of a span.
use Rattle.std.proofs.Common.{◌≡◌, ℕ, zero, suc, ℤ, pos, negsuc, ◌+◌, ◌<◌, ◌≤◌, Bool, true, false, ◌&&◌, List, [], ◌∷◌, length, Option, Some, None, refl, sym, ap, ◌∙◌, arith, int_le, int_lt, nat_le, nat_lt, ◌==◌, ◌+ℤ◌}
use Rattle.std.specs.Ordering.{int_eq}
use Rattle.std.proofs.lemmas.Bool.Decides.{nat_tests}
use Rattle.spe_model.specs.declared.statement.Cond.{Cond}
use Rattle.spe_model.specs.Conditions.{meets, is_chosen}
use Rattle.spe_exec.specs.declared.bounds.Span.{Span}
use Rattle.spe_exec.specs.Bounds.{is_within, KeepsFrom, KeepsUpTo, KeepsAbove, Narrows, Bounds, IsLarger, IsNext, HasNarrowed}
use Rattle.spe_model.specs.declared.statement.Op.TheVariants.{Equal, Greater, GreaterEqual}

nat_both : (a b : ℕ) → (a == b) ≡ (nat_le b a && nat_le a b)
nat_both a b = grind (arith, nat_tests)

nat_both_back : (a b : ℕ) → (a == b) ≡ (nat_le a b && nat_le b a)
nat_both_back a b = grind (arith, nat_tests)

-- equal numbers are at most each other
pub int_both : (a b : ℤ) → int_eq a b ≡ (int_le b a && int_le a b)
int_both (pos a) (pos b) = grind (arith, nat_tests)
int_both (pos a) (negsuc b) = refl
int_both (negsuc a) (pos b) = refl
int_both (negsuc a) (negsuc b) = grind (arith, nat_tests)

and_turn : (a b c : Bool) → ((a && b) && c) ≡ (b && (a && c))
and_turn true true c = refl
and_turn true false c = refl
and_turn false true c = refl
and_turn false false c = refl

pub and_swap : (a b : Bool) → (a && b) ≡ (b && a)
and_swap true true = refl
and_swap true false = refl
and_swap false true = refl
and_swap false false = refl

pub and_join : (a b c : Bool) → ((a && b) && c) ≡ (a && (b && c))
and_join true b c = refl
and_join false b c = refl

-- one more condition
pub narrowed_more : (conds left rest : List Cond) (c : Cond) (before after : Span) → left ≡ c ∷ rest → HasNarrowed conds left before → Narrows before c (Some after)
    → HasNarrowed conds rest after
narrowed_more conds left rest c before after l has step n r =
    rw (step n r) (and_join (is_within (Some before) n) (meets n c) (is_chosen rest n) ∙ rw l at (has n r))

pub narrowed_none : (conds left rest : List Cond) (c : Cond) (before : Span) → left ≡ c ∷ rest → HasNarrowed conds left before → Narrows before c None → Bounds conds None
narrowed_none conds left rest c before l has step n r =
    let h : (is_within (Some before) n && (meets n c && is_chosen rest n)) ≡ is_chosen conds n = rw l at (has n r) in
    ap (λ b. b && is_chosen rest n) (step n r) ∙ and_join (is_within (Some before) n) (meets n c) (is_chosen rest n) ∙ h

and_true : (b : Bool) → (b && true) ≡ b
and_true true = refl
and_true false = refl

pub narrowed_end : (conds left : List Cond) (span : Span) → length left < 1 → HasNarrowed conds left span → Bounds conds (Some span)
narrowed_end conds [] span none has n r = sym (and_true (is_within (Some span) n)) ∙ has n r
narrowed_end conds (c ∷ cs) span none has n r = absurd (omega arith)

none_within : (low high n : ℤ) → int_le low high ≡ false → (int_le low n && int_le n high) ≡ false
none_within (pos a) (pos b) (pos n) e = grind (arith, nat_tests)
none_within (pos a) (pos b) (negsuc n) e = refl
none_within (pos a) (negsuc b) (pos n) e = grind (arith, nat_tests)
none_within (pos a) (negsuc b) (negsuc n) e = refl
none_within (negsuc a) (pos b) n e = absurd cc
none_within (negsuc a) (negsuc b) (pos n) e = refl
none_within (negsuc a) (negsuc b) (negsuc n) e = grind (arith, nat_tests)

pub narrowed_empty : (conds left : List Cond) (span : Span) → int_le span.low span.high ≡ false → length left < 1 → HasNarrowed conds left span → Bounds conds None
narrowed_empty conds left span empty none has n r = sym (none_within span.low span.high n empty) ∙ narrowed_end conds left span none has n r

-- all rowids
pub narrowed_start : (conds : List Cond) (span : Span) → span.low ≡ negsuc 9223372036854775807 → span.high ≡ pos 9223372036854775807 → HasNarrowed conds conds span
narrowed_start conds span l h (pos n) r = rw (l, h) (ap (λ b. b && is_chosen conds (pos n)) (yes n r))
  where
    yes : (n : ℕ) → n ≤ 9223372036854775807 → nat_le n 9223372036854775807 ≡ true
    yes n r = grind arith
narrowed_start conds span l h (negsuc n) r = rw (l, h) (ap (λ b. (b && true) && is_chosen conds (negsuc n)) (yes n r))
  where
    yes : (n : ℕ) → n ≤ 9223372036854775807 → nat_le n 9223372036854775807 ≡ true
    yes n r = grind arith

and_mid : (a b c : Bool) → ((a && b) && c) ≡ ((a && c) && b)
and_mid true true c = sym (and_true c)
and_mid true false true = refl
and_mid true false false = refl
and_mid false b c = refl

pub from_larger : (before after : Span) (number a b c : ℤ) → a ≡ before.low → b ≡ number → after.low ≡ c → IsLarger a b c → after.high ≡ before.high → KeepsFrom before number after
from_larger before after number a b c e f g larger same n =
    let h : int_le after.low n ≡ (int_le before.low n && int_le number n) = rw (g, ← e, ← f) (larger n) in
    ap (λ b. b && int_le n after.high) h ∙ (rw same (and_mid (int_le before.low n) (int_le number n) (int_le n before.high)))

pub above_some : (before after : Span) (number raw next more : ℤ) (o : Option ℤ) → raw ≡ number → more ≡ next → o ≡ Some next → IsNext raw o → KeepsFrom before more after → KeepsAbove before number (Some after)
above_some before after number raw next more o e f g above from n r =
    let a : int_le next n ≡ int_lt number n = rw (← e) (rw g at above n) in
    from n ∙ ap (λ b. is_within (Some before) n && b) (rw f a)

and_false : (a : Bool) → false ≡ (a && false)
and_false true = refl
and_false false = refl

pub above_none : (before : Span) (number raw : ℤ) (o : Option ℤ) → raw ≡ number → o ≡ None → IsNext raw o → KeepsAbove before number None
above_none before number raw o e f none n r =
    let h : int_lt number n ≡ false = rw (← e) ((rw f at none) n r) in
    rw h (and_false (is_within (Some before) n))

pub narrow_equal : (before mid after : Span) (c : Cond) (a b : ℤ) → c.op ≡ Equal → a ≡ c.number → b ≡ c.number → KeepsFrom before a mid → KeepsUpTo mid b after → Narrows before c (Some after)
narrow_equal before mid after c a b e f g low high n r =
    let h : is_within (Some after) n ≡ (is_within (Some mid) n && int_le n c.number) = rw (← g) (high n) in
    let l : is_within (Some mid) n ≡ (is_within (Some before) n && int_le c.number n) = rw (← f) (low n) in
    let m : meets n c ≡ (int_le c.number n && int_le n c.number) = rw e (int_both n c.number) in
    h ∙ ap (λ x. x && int_le n c.number) l ∙ and_join (is_within (Some before) n) (int_le c.number n) (int_le n c.number) ∙ ap (λ x. is_within (Some before) n && x) (sym m)

pub narrow_from : (before after : Span) (c : Cond) (a : ℤ) → c.op ≡ GreaterEqual → a ≡ c.number → KeepsFrom before a after → Narrows before c (Some after)
narrow_from before after c a e f from n r = from n ∙ rw (e, f) refl

pub narrow_above : (before : Span) (after : Option Span) (c : Cond) (a : ℤ) → c.op ≡ Greater → a ≡ c.number → KeepsAbove before a after → Narrows before c after
narrow_above before after c a e f above n r = above n r ∙ rw (e, f) refl

pub larger_first : (a b : ℤ) → int_lt a b ≡ false → IsLarger a b a
larger_first (pos a) (pos b) e (pos n) = grind (arith, nat_tests)
larger_first (pos a) (pos b) e (negsuc n) = refl
larger_first (pos a) (negsuc b) e (pos n) = grind (arith, nat_tests)
larger_first (pos a) (negsuc b) e (negsuc n) = refl
larger_first (negsuc a) (pos b) e n = absurd cc
larger_first (negsuc a) (negsuc b) e (pos n) = refl
larger_first (negsuc a) (negsuc b) e (negsuc n) = grind (arith, nat_tests)

pub larger_second : (a b : ℤ) → int_lt a b ≡ true → IsLarger a b b
larger_second (pos a) (pos b) e (pos n) = grind (arith, nat_tests)
larger_second (pos a) (pos b) e (negsuc n) = refl
larger_second (pos a) (negsuc b) e n = absurd cc
larger_second (negsuc a) (pos b) e (pos n) = refl
larger_second (negsuc a) (pos b) e (negsuc n) = grind (arith, nat_tests)
larger_second (negsuc a) (negsuc b) e (pos n) = refl
larger_second (negsuc a) (negsuc b) e (negsuc n) = grind (arith, nat_tests)

back : (a : ℕ) → negsuc (suc a) +ℤ pos 1 ≡ negsuc a
back a = grind arith

pub next_some : (a b : ℤ) → b ≡ a +ℤ pos 1 → IsNext a (Some b)
next_some (pos a) b e (pos n) = rw e (go a n)
  where
    go : (a n : ℕ) → nat_le (a + 1) n ≡ nat_lt a n
    go a n = grind (arith, nat_tests)
next_some (pos a) b e (negsuc n) = rw e refl
next_some (negsuc zero) b e (pos n) = rw e (grind (arith, nat_tests))
next_some (negsuc zero) b e (negsuc n) = rw e (grind (arith, nat_tests))
next_some (negsuc (suc a)) b e (pos n) = rw (e ∙ back a) refl
next_some (negsuc (suc a)) b e (negsuc n) = rw (e ∙ back a) (go a n)
  where
    go : (a n : ℕ) → nat_le n a ≡ nat_lt n (suc a)
    go a n = grind (arith, nat_tests)

pub next_none : (a : ℤ) → a ≡ pos 9223372036854775807 → IsNext a None
next_none a e (pos n) r = rw e (go n r)
  where
    go : (n : ℕ) → n ≤ 9223372036854775807 → nat_lt 9223372036854775807 n ≡ false
    go n r = grind arith
next_none a e (negsuc n) r = rw e refl
