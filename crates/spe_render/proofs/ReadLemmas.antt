-- Texts that are read from the front in one way alone, whatever follows.
use Rattle.std.proofs.Common.{◌≡◌, ℕ, ◌+◌, ◌^◌, ◌<◌, List, [], ◌∷◌, ◌++◌, get_or, ap, refl, subst, sym, ◌∙◌, decimal}
use Rattle.std.proofs.lemmas.List.{append_assoc}
use Rattle.std.proofs.lemmas.Fmt.{decimal_injective, decimal_is_IsNumeral}
use Rattle.std.specs.Char.{digit_value}
use Rattle.std.specs.List.{AllByRecursion}
use Rattle.std.specs.Str.Parse.{AllDigits}

-- the first byte, or 0
abbrev pub head : List ℕ → ℕ
head x = get_or x 0 0

-- a text, and what follows it, tell what it is the text of
abbrev pub Reads : {A : Type 0} → (A → Type 0) → (A → List ℕ) → (List ℕ → Type 0) → Type 0
Reads {A} Fits text Ends = (a b : A) (x y : List ℕ) → Fits a → Fits b → Ends x → Ends y → text a ++ x ≡ text b ++ y → (a ≡ b) × (x ≡ y)

abbrev tail : List ℕ → List ℕ
tail [] = []
tail (d ∷ ds) = ds

-- bytes of a kind, behind which comes none of it
pub span : (P : ℕ → Type 0) (a b x y : List ℕ) → AllByRecursion P a → AllByRecursion P b → (P (head x) → ⊥) → (P (head y) → ⊥) → a ++ x ≡ b ++ y
    → (a ≡ b) × (x ≡ y)
span P [] [] x y pa pb nx ny e = (refl, e)
span P [] (d ∷ ds) x y pa pb nx ny e = absurd (nx (subst P (sym (ap head e)) pb.0))
span P (d ∷ ds) [] x y pa pb nx ny e = absurd (ny (subst P (ap head e) pa.0))
span P (d ∷ ds) (f ∷ fs) x y pa pb nx ny e =
    let rest = span P ds fs x y pa.1 pb.1 nx ny (ap tail e) in
    (ap (λ z. z ∷ ds) (ap head e) ∙ ap (λ l. f ∷ l) rest.0, rest.1)

-- ---- numbers

abbrev pub IsDigit : ℕ → Type 0
IsDigit c = digit_value c < 10

all_digits : (ds : List ℕ) → AllDigits 10 ds → AllByRecursion IsDigit ds
all_digits [] a = tt
all_digits (d ∷ ds) a = (a.0, all_digits ds a.1)

pub decimal_digits : (n : ℕ) → n < 2 ^ 64 → AllByRecursion IsDigit (decimal n)
decimal_digits n few = all_digits (decimal n) (decimal_is_IsNumeral n few).0.1

abbrev pub Few : ℕ → Type 0
Few n = n < 2 ^ 64

abbrev pub NoDigit : List ℕ → Type 0
NoDigit x = IsDigit (head x) → ⊥

pub number_reads : Reads Few decimal NoDigit
number_reads m n x y fm fn nx ny e =
    let both = span IsDigit (decimal m) (decimal n) x y (decimal_digits m fm) (decimal_digits n fn) nx ny e in
    (decimal_injective m n fm fn both.0, both.1)

-- ---- lists, whose parts may be numbered

module _ {A : Type 0} (Fits : A → Type 0) (Ends Inner : List ℕ → Type 0) (f : ℕ → List A → List ℕ) (part : ℕ → A → List ℕ)
    (none : (n : ℕ) → f n [] ≡ []) (more : (n : ℕ) (a : A) (rest : List A) → f n (a ∷ rest) ≡ part n a ++ f (n + 1) rest) (reads : (n : ℕ) → Reads Fits (part n) Inner)
    (inner : (n : ℕ) (rest : List A) (x : List ℕ) → Ends x → Inner (f n rest ++ x)) (apart : (n : ℕ) (a : A) (z x : List ℕ) → Fits a → Ends x → part n a ++ z ≡ x → ⊥)
  where
    pub list_reads : (n : ℕ) → Reads (AllByRecursion Fits) (f n) Ends
    list_reads n [] [] x y fa fb ex ey e = (refl, ap (λ l. l ++ x) (sym (none n)) ∙ e ∙ ap (λ l. l ++ y) (none n))
    list_reads n [] (b ∷ bs) x y fa fb ex ey e =
        absurd (apart n b (f (n + 1) bs ++ y) x fb.0 ex (sym (append_assoc (part n b) (f (n + 1) bs) y) ∙ ap (λ l. l ++ y) (sym (more n b bs)) ∙ sym e ∙ ap (λ l. l ++ x) (none n)))
    list_reads n (a ∷ rs) [] x y fa fb ex ey e =
        absurd (apart n a (f (n + 1) rs ++ x) y fa.0 ey (sym (append_assoc (part n a) (f (n + 1) rs) x) ∙ ap (λ l. l ++ x) (sym (more n a rs)) ∙ e ∙ ap (λ l. l ++ y) (none n)))
    list_reads n (a ∷ rs) (b ∷ bs) x y fa fb ex ey e =
        let first = reads n a b (f (n + 1) rs ++ x) (f (n + 1) bs ++ y) fa.0 fb.0 (inner (n + 1) rs x ex) (inner (n + 1) bs y ey)
        (sym (append_assoc (part n a) (f (n + 1) rs) x) ∙ ap (λ l. l ++ x) (sym (more n a rs)) ∙ e ∙ ap (λ l. l ++ y) (more n b bs) ∙ append_assoc (part n b) (f (n + 1) bs) y) in
        let rest = list_reads (n + 1) rs bs x y fa.1 fb.1 ex ey first.1 in
        (ap (λ z. z ∷ rs) first.0 ∙ ap (λ l. b ∷ l) rest.0, rest.1)
