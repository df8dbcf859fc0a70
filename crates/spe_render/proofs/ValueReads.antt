-- The text of values tells them.
use Rattle.std.proofs.Common.{◌≡◌, ◌≢◌, ℕ, zero, suc, ◌<◌, ◌/◌, ◌%◌, ◌==◌, nat_lt, Bool, true, false, not, ◌&&◌, if◌then◌else◌, ◌⊎◌, inl, inr, List, [], ◌∷◌, ◌++◌, get_or, length, ap, arith, refl, subst, sym, ◌∙◌, decimal, codes, ℤ, pos, negsuc, w64}
use Rattle.std.specs.Prelude.{FitsSigned}
use Rattle.std.specs.Fmt.{signed_decimal}
use Rattle.std.specs.List.{AllByRecursion}
use Rattle.std.specs.Char.{digit_value}
use Rattle.std.specs.Result.{result_unwrap_or}
use Rattle.std.proofs.lemmas.Bool.{eqb-true, eqb-false, lt-ltb, true≢false}
use Rattle.std.proofs.lemmas.List.{append_assoc, append_cancel_left}
use Rattle.std.proofs.lemmas.Fmt.{decimal_nonempty}
use Rattle.hex.specs.Hex.{IsBytes, decode_pairs, encode_lower, encode_with, lower_digits}
use Rattle.hex.proofs.HexLemmas.{IsDigits-lower_digits, decode_pairs-encode_with}
use Rattle.spe_model.specs.declared.value.Value.{Value}
use Rattle.spe_model.specs.declared.value.Value.TheVariants.{Null, Int, Text, Blob, Real8}
use Rattle.spe_render.specs.Law.{ValueFits}
use Rattle.spe_render.specs.Values.{barred, barred_value, joined, quoted, quoted_byte, value_text}
use Rattle.spe_render.proofs.ReadLemmas.{Few, IsDigit, NoDigit, Reads, decimal_digits, head, list_reads, number_reads, span}

-- ---- numbers with a sign

first_digit : (ds x : List ℕ) → 0 < length ds → AllByRecursion IsDigit ds → IsDigit (head (ds ++ x))
first_digit [] x some all = absurd (omega arith)
first_digit (d ∷ ds) x some all = all.0

decimal_first : (n : ℕ) (x : List ℕ) → Few n → IsDigit (head (decimal n ++ x))
decimal_first n x few = first_digit (decimal n) x (decimal_nonempty n few) (decimal_digits n few)

no_minus : (n : ℕ) (x z : List ℕ) → Few n → decimal n ++ x ≡ 45 ∷ z → ⊥
no_minus n x z few e = let d = subst IsDigit (ap head e) (decimal_first n x few) in absurd (omega (arith, d))

abbrev pub FitsSixtyFour : ℤ → Type 0
FitsSixtyFour z = FitsSigned w64 z

pub signed_reads : Reads FitsSixtyFour signed_decimal NoDigit
signed_reads (pos m) (pos n) x y fa fb nx ny e = let r = number_reads m n x y (omega (arith, fa)) (omega (arith, fb)) nx ny e in (ap pos r.0, r.1)
signed_reads (pos m) (negsuc n) x y fa fb nx ny e = absurd (no_minus m x (decimal (suc n) ++ y) (omega (arith, fa)) e)
signed_reads (negsuc m) (pos n) x y fa fb nx ny e = absurd (no_minus n y (decimal (suc m) ++ x) (omega (arith, fb)) (sym e))
signed_reads (negsuc m) (negsuc n) x y fa fb nx ny e =
    let r = number_reads (suc m) (suc n) x y (omega (arith, fa)) (omega (arith, fb)) nx ny (append_cancel_left (45 ∷ []) (decimal (suc m) ++ x) (decimal (suc n) ++ y) e) in
    let same : m ≡ n = omega (arith, r.0) in
    (ap negsuc same, r.1)

-- ---- bytes in hexadecimal, and a quote

abbrev pub NotQuote : ℕ → Type 0
NotQuote b = b ≢ 39

abbrev free : List ℕ → Bool
free [] = true
free (d ∷ ds) = not (d == 39) && free ds

and_second : (a b : Bool) → (a && b) ≡ true → b ≡ true
and_second true b e = e
and_second false b e = absurd (true≢false (sym e))

free_at : (l : List ℕ) → free l ≡ true → (i : ℕ) → NotQuote (get_or l i 0)
free_at [] f i e = absurd (omega (arith, e))
free_at (d ∷ ds) f zero e = absurd (grind (arith, e, f))
free_at (d ∷ ds) f (suc i) e = free_at ds (and_second (not (d == 39)) (free ds) f) i e

hex_free : (b : List ℕ) → AllByRecursion NotQuote (encode_lower b)
unfolding encode_with
hex_free [] = tt
hex_free (b ∷ bs) = (free_at lower_digits refl (b / 16), (free_at lower_digits refl (b % 16), hex_free bs))

pub hex_injective : (a b : List ℕ) → IsBytes a → IsBytes b → encode_lower a ≡ encode_lower b → a ≡ b
hex_injective a b fa fb e =
    let da = decode_pairs-encode_with lower_digits IsDigits-lower_digits 0 a fa in
    let db = decode_pairs-encode_with lower_digits IsDigits-lower_digits 0 b fb in
    ap (λ r. result_unwrap_or r []) (sym da ∙ ap (decode_pairs 0) e ∙ db)

-- hexadecimal digits and a quote
pub hex_reads : (a b x y : List ℕ) → IsBytes a → IsBytes b → (encode_lower a ++ 39 ∷ []) ++ x ≡ (encode_lower b ++ 39 ∷ []) ++ y → (a ≡ b) × (x ≡ y)
hex_reads a b x y fa fb e =
    let r = span NotQuote (encode_lower a) (encode_lower b) (39 ∷ x) (39 ∷ y) (hex_free a) (hex_free b) (λ n. n refl) (λ n. n refl)
    (sym (append_assoc (encode_lower a) (39 ∷ []) x) ∙ e ∙ append_assoc (encode_lower b) (39 ∷ []) y) in
    (hex_injective a b fa fb r.0, append_cancel_left (39 ∷ []) x y r.1)

-- ---- texts, each quote doubled, and a quote

abbrev tail : List ℕ → List ℕ
tail [] = []
tail (d ∷ ds) = ds

byte_is : (b : ℕ) (z : List ℕ) (v : Bool) → (b == 39) ≡ v → quoted_byte b ++ z ≡ (if v then 39 ∷ 39 ∷ z else b ∷ z)
byte_is b z true e = rw e refl
byte_is b z false e = rw e refl

-- the end of a text against a byte of it
ends_not : (b : ℕ) (z x : List ℕ) (v : Bool) → (b == 39) ≡ v → NotQuote (head x) → 39 ∷ x ≡ quoted_byte b ++ z → ⊥
ends_not b z x true e n is = n (ap head (ap tail (is ∙ byte_is b z true e)))
ends_not b z x false e n is = eqb-false b 39 e (sym (ap head (is ∙ byte_is b z false e)))

bytes_same : (b c : ℕ) (z w : List ℕ) (v u : Bool) → (b == 39) ≡ v → (c == 39) ≡ u → quoted_byte b ++ z ≡ quoted_byte c ++ w → (b ≡ c) × (z ≡ w)
bytes_same b c z w true true e f is = (eqb-true b 39 e ∙ sym (eqb-true c 39 f), ap tail (ap tail (sym (byte_is b z true e) ∙ is ∙ byte_is c w true f)))
bytes_same b c z w true false e f is = absurd (eqb-false c 39 f (sym (ap head (sym (byte_is b z true e) ∙ is ∙ byte_is c w false f))))
bytes_same b c z w false true e f is = absurd (eqb-false b 39 e (ap head (sym (byte_is b z false e) ∙ is ∙ byte_is c w true f)))
bytes_same b c z w false false e f is =
    let both = sym (byte_is b z false e) ∙ is ∙ byte_is c w false f in
    (ap head both, ap tail both)

text_reads : (t u x y : List ℕ) → NotQuote (head x) → NotQuote (head y) → quoted t ++ 39 ∷ x ≡ quoted u ++ 39 ∷ y → (t ≡ u) × (x ≡ y)
text_reads [] [] x y nx ny e = (refl, ap tail e)
text_reads [] (b ∷ bs) x y nx ny e = absurd (ends_not b (quoted bs ++ 39 ∷ y) x (b == 39) refl nx (e ∙ append_assoc (quoted_byte b) (quoted bs) (39 ∷ y)))
text_reads (b ∷ bs) [] x y nx ny e = absurd (ends_not b (quoted bs ++ 39 ∷ x) y (b == 39) refl ny (sym e ∙ append_assoc (quoted_byte b) (quoted bs) (39 ∷ x)))
text_reads (b ∷ bs) (c ∷ cs) x y nx ny e =
    let first = bytes_same b c (quoted bs ++ 39 ∷ x) (quoted cs ++ 39 ∷ y) (b == 39) (c == 39) refl refl
    (sym (append_assoc (quoted_byte b) (quoted bs) (39 ∷ x)) ∙ e ∙ append_assoc (quoted_byte c) (quoted cs) (39 ∷ y)) in
    let rest = text_reads bs cs x y nx ny first.1 in
    (ap (λ z. z ∷ bs) first.0 ∙ ap (λ l. c ∷ l) rest.0, rest.1)

pub quoted_reads : (t u x y : List ℕ) → NotQuote (head x) → NotQuote (head y) → (quoted t ++ 39 ∷ []) ++ x ≡ (quoted u ++ 39 ∷ []) ++ y → (t ≡ u) × (x ≡ y)
quoted_reads t u x y nx ny e = text_reads t u x y nx ny (sym (append_assoc (quoted t) (39 ∷ []) x) ∙ e ∙ append_assoc (quoted u) (39 ∷ []) y)

-- ---- values

-- a bar or a line feed comes behind a value
abbrev pub Behind : List ℕ → Type 0
Behind x = (head x ≡ 124) ⊎ (head x ≡ 10)

no_digit : (x : List ℕ) → Behind x → NoDigit x
no_digit x (inl e) d = let k = subst IsDigit e d in absurd (omega (arith, k))
no_digit x (inr e) d = let k = subst IsDigit e d in absurd (omega (arith, k))

no_quote : (x : List ℕ) → Behind x → NotQuote (head x)
no_quote x (inl e) q = absurd (omega (arith, e, q))
no_quote x (inr e) q = absurd (omega (arith, e, q))

-- the kind of a value, by the first byte of its text
abbrev kind_at : ℕ → ℕ
kind_at c = if nat_lt (digit_value c) 10 then 4 else (if c == 45 then 4 else (if c == 78 then 0 else (if c == 39 then 1 else (if c == 120 then 2 else 3))))

abbrev kind : Value → ℕ
kind Null = 0
kind (Int n) = 4
kind (Text t) = 1
kind (Blob b) = 2
kind (Real8 r) = 3

kind_digit : (c : ℕ) → IsDigit c → kind_at c ≡ 4
kind_digit c d = rw (lt-ltb (digit_value c) 10 d) refl

kind_is : (v : Value) (x : List ℕ) → ValueFits v → kind_at (head (value_text v ++ x)) ≡ kind v
kind_is Null x f = refl
kind_is (Int (pos n)) x f = kind_digit (head (decimal n ++ x)) (decimal_first n x (omega (arith, f)))
kind_is (Int (negsuc n)) x f = refl
kind_is (Text t) x f = refl
kind_is (Blob b) x f = refl
kind_is (Real8 r) x f = refl

same_kind : (a b : Value) (x y : List ℕ) → ValueFits a → ValueFits b → value_text a ++ x ≡ value_text b ++ y → kind a ≡ kind b
same_kind a b x y fa fb e = sym (kind_is a x fa) ∙ ap (λ l. kind_at (head l)) e ∙ kind_is b y fb

pub value_reads : Reads ValueFits value_text Behind
value_reads a b x y fa fb ex ey e = by_kind a b fa fb (same_kind a b x y fa fb e) e
  where
    by_kind : (a b : Value) → ValueFits a → ValueFits b → kind a ≡ kind b → value_text a ++ x ≡ value_text b ++ y → (a ≡ b) × (x ≡ y)
    by_kind Null Null fa fb k e = (refl, append_cancel_left (codes "NULL") x y e)
    by_kind (Int m) (Int n) fa fb k e = let r = signed_reads m n x y fa fb (no_digit x ex) (no_digit y ey) e in (ap Int r.0, r.1)
    by_kind (Text t) (Text u) fa fb k e =
        let r = quoted_reads t u x y (no_quote x ex) (no_quote y ey) (append_cancel_left (39 ∷ []) ((quoted t ++ 39 ∷ []) ++ x) ((quoted u ++ 39 ∷ []) ++ y) e) in
        (ap Text r.0, r.1)
    by_kind (Blob b) (Blob c) fa fb k e =
        let r = hex_reads b c x y fa fb (append_cancel_left (codes "x'") ((encode_lower b ++ 39 ∷ []) ++ x) ((encode_lower c ++ 39 ∷ []) ++ y) e) in
        (ap Blob r.0, r.1)
    by_kind (Real8 b) (Real8 c) fa fb k e =
        let r = hex_reads b c x y fa fb (append_cancel_left (codes "r'") ((encode_lower b ++ 39 ∷ []) ++ x) ((encode_lower c ++ 39 ∷ []) ++ y) e) in
        (ap Real8 r.0, r.1)
    by_kind Null (Int n) fa fb k e = absurd (omega (arith, k))
    by_kind Null (Text u) fa fb k e = absurd (omega (arith, k))
    by_kind Null (Blob c) fa fb k e = absurd (omega (arith, k))
    by_kind Null (Real8 s) fa fb k e = absurd (omega (arith, k))
    by_kind (Int m) Null fa fb k e = absurd (omega (arith, k))
    by_kind (Int m) (Text u) fa fb k e = absurd (omega (arith, k))
    by_kind (Int m) (Blob c) fa fb k e = absurd (omega (arith, k))
    by_kind (Int m) (Real8 s) fa fb k e = absurd (omega (arith, k))
    by_kind (Text t) Null fa fb k e = absurd (omega (arith, k))
    by_kind (Text t) (Int n) fa fb k e = absurd (omega (arith, k))
    by_kind (Text t) (Blob c) fa fb k e = absurd (omega (arith, k))
    by_kind (Text t) (Real8 s) fa fb k e = absurd (omega (arith, k))
    by_kind (Blob b) Null fa fb k e = absurd (omega (arith, k))
    by_kind (Blob b) (Int n) fa fb k e = absurd (omega (arith, k))
    by_kind (Blob b) (Text u) fa fb k e = absurd (omega (arith, k))
    by_kind (Blob b) (Real8 s) fa fb k e = absurd (omega (arith, k))
    by_kind (Real8 r) Null fa fb k e = absurd (omega (arith, k))
    by_kind (Real8 r) (Int n) fa fb k e = absurd (omega (arith, k))
    by_kind (Real8 r) (Text u) fa fb k e = absurd (omega (arith, k))
    by_kind (Real8 r) (Blob c) fa fb k e = absurd (omega (arith, k))

-- ---- the values of a row

-- a line feed comes behind the values of a row
abbrev pub AtLine : List ℕ → Type 0
AtLine x = head x ≡ 10

behind_barred : (vs : List Value) (x : List ℕ) → AtLine x → Behind (barred vs ++ x)
behind_barred [] x e = inr e
behind_barred (v ∷ vs) x e = inl refl

barred_reads_value : Reads ValueFits barred_value Behind
barred_reads_value a b x y fa fb ex ey e = value_reads a b x y fa fb ex ey (append_cancel_left (124 ∷ []) (value_text a ++ x) (value_text b ++ y) e)

bar_first : (v : Value) (z x : List ℕ) → ValueFits v → AtLine x → barred_value v ++ z ≡ x → ⊥
bar_first v z x f ex e = let c : 124 ≡ 10 = ap head e ∙ ex in absurd (omega (arith, c))

pub barred_reads : Reads (AllByRecursion ValueFits) barred AtLine
barred_reads =
    list_reads ValueFits AtLine Behind (λ n. barred) (λ n. barred_value) (λ n. refl) (λ n v vs. refl) (λ n. barred_reads_value) (λ n. behind_barred) (λ n. bar_first) 0

value_not_line : (v : Value) (z x : List ℕ) → ValueFits v → AtLine x → value_text v ++ z ≡ x → ⊥
value_not_line v z x f ex e = none v f (sym (kind_is v z f) ∙ ap kind_at (ap head e ∙ ex)) e
  where
    none : (v : Value) → ValueFits v → kind v ≡ 3 → value_text v ++ z ≡ x → ⊥
    none Null f k e = absurd (omega (arith, k))
    none (Int n) f k e = absurd (omega (arith, k))
    none (Text t) f k e = absurd (omega (arith, k))
    none (Blob b) f k e = absurd (omega (arith, k))
    none (Real8 r) f k e = let c : 114 ≡ 10 = ap head e ∙ ex in absurd (omega (arith, c))

pub joined_reads : Reads (AllByRecursion ValueFits) joined AtLine
joined_reads [] [] x y fa fb ex ey e = (refl, e)
joined_reads [] (v ∷ vs) x y fa fb ex ey e = absurd (value_not_line v (barred vs ++ y) x fb.0 ex (sym (append_assoc (value_text v) (barred vs) y) ∙ sym e))
joined_reads (v ∷ vs) [] x y fa fb ex ey e = absurd (value_not_line v (barred vs ++ x) y fa.0 ey (sym (append_assoc (value_text v) (barred vs) x) ∙ e))
joined_reads (v ∷ vs) (w ∷ ws) x y fa fb ex ey e =
    let first = value_reads v w (barred vs ++ x) (barred ws ++ y) fa.0 fb.0 (behind_barred vs x ex) (behind_barred ws y ey)
    (sym (append_assoc (value_text v) (barred vs) x) ∙ e ∙ append_assoc (value_text w) (barred ws) y) in
    let rest = barred_reads vs ws x y fa.1 fb.1 ex ey first.1 in
    (ap (λ z. z ∷ vs) first.0 ∙ ap (λ l. w ∷ l) rest.0, rest.1)
