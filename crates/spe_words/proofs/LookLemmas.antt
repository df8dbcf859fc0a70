-- What words look like.
use Rattle.std.proofs.Common.{◌≡◌, ◌∙◌, ◌&&◌, ◌||◌, ◌==◌, ◌⊎◌, ℕ, Bool, cond, codes, true, false, zero, suc, refl, sym, ap, ap₂, subst, [], ◌∷◌, ◌++◌, Option, Some, None, arith, inl, inr, true≢false, append_assoc}
use Rattle.std.specs.Prelude.{option_and_then}
use Rattle.std.specs.Str.{bytes_eq}
use Rattle.std.proofs.lemmas.Bool.{eqb-true}
use Rattle.std.proofs.lemmas.Option.{none-some}
use Rattle.clap.specs.Lexer.{has_byte, long_of, long_of_rest, name_and_value, short_of, short_of_rest, strip_byte}
use Rattle.clap.proofs.CutLemmas.{Lacks}
use Rattle.clap.proofs.LexerLemmas.{name_and_value-at, name_and_value-without}
use Rattle.clap.proofs.SimpleLemmas.{is_false}
use Rattle.clap.proofs.WalkLemmas.{both}
use Rattle.spe_words.specs.Found.{is_name}
use Rattle.spe_words.specs.Line.{Text, begins_with_dash}
use Rattle.spe_words.proofs.ReaderLemmas.{dashes}

-- neither an option nor `--`
pub record LooksPlain (word : Text) : Type 0 where
  pub no_end : bytes_eq word dashes ≡ false
  pub no_long : long_of word ≡ None
  pub no_short : short_of word ≡ None

pub plain_look : (word : Text) → begins_with_dash word ≡ false → LooksPlain word
plain_look [] e = record { no_end = refl; no_long = refl; no_short = refl }
plain_look (b ∷ bs) e = record {
  no_end = ap (λ t. t && bytes_eq bs (45 ∷ [])) e;
  no_long = ap (λ t. option_and_then long_of_rest (option_and_then (strip_byte 45) (cond t (Some bs) None))) e;
  no_short = ap (λ t. option_and_then short_of_rest (cond t (Some bs) None)) e;
}

pub dash_look : LooksPlain (codes "-")
dash_look = record { no_end = refl; no_long = refl; no_short = refl }

pub looks_plain : (word : Text) → (begins_with_dash word ≡ false) ⊎ (word ≡ codes "-") → LooksPlain word
looks_plain word (inl e) = plain_look word e
looks_plain word (inr e) = subst LooksPlain (sym e) dash_look

-- ---- options

Lacks-nil : Lacks 61 []
Lacks-nil i lt = absurd (omega arith)

Lacks-cons : (x : ℕ) (xs : Text) → (x == 61) ≡ false → Lacks 61 xs → Lacks 61 (x ∷ xs)
Lacks-cons x xs e lacks zero lt is = true≢false (sym (ap (λ n. n == 61) is) ∙ e)
Lacks-cons x xs e lacks (suc i) lt is = lacks i (omega arith) is

pub lacks : (xs : Text) → has_byte 61 xs ≡ false → Lacks 61 xs
lacks [] e = Lacks-nil
lacks (x ∷ xs) e = go (x == 61) refl e (lacks xs)
  where
    go : (t : Bool) → (x == 61) ≡ t → (t || has_byte 61 xs) ≡ false → (has_byte 61 xs ≡ false → Lacks 61 xs) → Lacks 61 (x ∷ xs)
    go true is e rest = absurd (true≢false e)
    go false is e rest = Lacks-cons x xs is (rest e)

-- a text, at its first `=`
cut : (text : Text) → ((xs ys : Text) × Lacks 61 xs × (text ≡ xs ++ 61 ∷ ys)) ⊎ Lacks 61 text
cut [] = inr Lacks-nil
cut (x ∷ xs) = go (x == 61) refl (cut xs)
  where
    go : (t : Bool) → (x == 61) ≡ t → ((ys zs : Text) × Lacks 61 ys × (xs ≡ ys ++ 61 ∷ zs)) ⊎ Lacks 61 xs
        → ((ys zs : Text) × Lacks 61 ys × (x ∷ xs ≡ ys ++ 61 ∷ zs)) ⊎ Lacks 61 (x ∷ xs)
    go true is rest = inl ([], xs, Lacks-nil, ap (λ n. n ∷ xs) (eqb-true x 61 is))
    go false is (inl c) = inl (x ∷ c.0, c.1, Lacks-cons x c.0 is c.2, ap (λ l. x ∷ l) c.3)
    go false is (inr l) = inr (Lacks-cons x xs is l)

no_equals : (name : Text) → is_name name ≡ true → has_byte 61 name ≡ false
no_equals name is = is_false _ (both _ _ (both _ _ is).1).0

-- the word that a name, and a value where there is one, spell
abbrev pub spelled : Text → Option Text → Text
spelled name None = codes "--" ++ name
spelled name (Some v) = codes "--" ++ name ++ codes "=" ++ v

long_some : (text : Text) (name : Text) (v : Option Text) → long_of_rest text ≡ Some (name, v) → name_and_value text ≡ (name, v)
long_some [] name v e = absurd (none-some _ e)
long_some (x ∷ xs) name v e = ap (λ (o : Option (Text × Option Text)). Rattle.std.specs.Option.unwrap_or o (name, v)) e

text_spelled : (text name : Text) (v : Option Text) → name_and_value text ≡ (name, v) → 45 ∷ 45 ∷ text ≡ spelled name v
text_spelled text name v e = go (cut text)
  where
    go : ((xs ys : Text) × Lacks 61 xs × (text ≡ xs ++ 61 ∷ ys)) ⊎ Lacks 61 text → 45 ∷ 45 ∷ text ≡ spelled name v
    go (inl c) =
        let is : ◌≡◌ {A = Text × Option Text} (c.0, Some c.1) (name, v) = sym (name_and_value-at c.0 c.1 c.2) ∙ ap name_and_value (sym c.3) ∙ e in
        subst (λ (p : Text × Option Text). 45 ∷ 45 ∷ text ≡ spelled p.0 p.1) is (ap (λ l. 45 ∷ 45 ∷ l) (c.3 ∙ sym (append_assoc c.0 (61 ∷ []) c.1)))
    go (inr l) =
        let is : ◌≡◌ {A = Text × Option Text} (text, None) (name, v) = sym (name_and_value-without text l) ∙ e in
        subst (λ (p : Text × Option Text). 45 ∷ 45 ∷ text ≡ spelled p.0 p.1) is refl

-- a word that looks like an option spells it
pub long_spelled : (word name : Text) (v : Option Text) → long_of word ≡ Some (name, v) → word ≡ spelled name v
long_spelled [] name v e = absurd (none-some _ e)
long_spelled (a ∷ bs) name v e = first (a == 45) refl bs e
  where
    second : (t : Bool) (b : ℕ) → (b == 45) ≡ t → (cs : Text) → a ≡ 45 → option_and_then long_of_rest (cond t (Some cs) None) ≡ Some (name, v) → a ∷ b ∷ cs ≡ spelled name v
    second false b is cs first_is e = absurd (none-some _ e)
    second true b is cs first_is e = ap₂ (λ m n. m ∷ n ∷ cs) first_is (eqb-true b 45 is) ∙ text_spelled cs name v (long_some cs name v e)

    first : (t : Bool) → (a == 45) ≡ t → (bs : Text) → option_and_then long_of_rest (option_and_then (strip_byte 45) (cond t (Some bs) None)) ≡ Some (name, v) → a ∷ bs ≡ spelled name v
    first false is bs e = absurd (none-some _ e)
    first true is [] e = absurd (none-some _ e)
    first true is (b ∷ cs) e = second (b == 45) b refl cs (eqb-true a 45 is) e

-- a spelled option looks like it
pub spelled_look : (name : Text) (v : Option Text) → is_name name ≡ true → (bytes_eq (spelled name v) dashes ≡ false) × (long_of (spelled name v) ≡ Some (name, v))
spelled_look [] v is = absurd (true≢false (sym is))
spelled_look (n ∷ ns) None is = (refl, ap Some (name_and_value-without (n ∷ ns) (lacks (n ∷ ns) (no_equals (n ∷ ns) is))))
spelled_look (n ∷ ns) (Some v) is = (
  refl,
  ap Some (ap name_and_value (append_assoc (n ∷ ns) (61 ∷ []) v) ∙ name_and_value-at (n ∷ ns) v (lacks (n ∷ ns) (no_equals (n ∷ ns) is))),
)

-- a word that does not look like an option, a bundle of flags or `--` is plain
pub plain_from : (word : Text) → LooksPlain word → (begins_with_dash word ≡ false) ⊎ (word ≡ codes "-")
plain_from [] look = inl refl
plain_from (b ∷ bs) look = first (b == 45) refl bs look.no_end look.no_long look.no_short
  where
    third : (xs : Text) → bytes_eq xs [] ≡ false → long_of_rest xs ≡ None → ⊥
    third [] ends long = true≢false ends
    third (y ∷ ys) ends long = none-some _ (sym long)

    second : (t : Bool) (xs : Text) → (t && bytes_eq xs []) ≡ false → option_and_then long_of_rest (cond t (Some xs) None) ≡ None
        → (x : ℕ) → cond t None (Some (x ∷ xs)) ≡ None → ⊥
    second false xs ends long x short = none-some _ (sym short)
    second true xs ends long x short = third xs ends long

    first : (t : Bool) → (b == 45) ≡ t → (bs : Text) → (t && bytes_eq bs (45 ∷ [])) ≡ false → option_and_then long_of_rest (option_and_then (strip_byte 45) (cond t (Some bs) None)) ≡ None
        → option_and_then short_of_rest (cond t (Some bs) None) ≡ None → ((b == 45) ≡ false) ⊎ (b ∷ bs ≡ 45 ∷ [])
    first false is bs ends long short = inl is
    first true is [] ends long short = inr (ap (λ n. n ∷ []) (eqb-true b 45 is))
    first true is (x ∷ xs) ends long short = absurd (second (x == 45) xs ends long x short)
