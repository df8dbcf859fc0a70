-- A text in UTF-8 whose doubled quotes are undone is in UTF-8.
use Rattle.std.proofs.Common.{◌≡◌, ◌≢◌, ℕ, suc, ◌<◌, List, [], ◌∷◌, ◌++◌, length, get_or, Bool, true, false, refl, sym, ◌∙◌, ap, arith, inl, inr, append-nil, if◌then◌else◌}
use Rattle.std.specs.Prelude.{◌&&◌}
use Rattle.std.specs.Char.{encode_utf8}
use Rattle.std.specs.Str.{IsUtf8, all_scalars, encode_utf8_all}
use Rattle.std.proofs.lemmas.Bool.{cases_eq}
use Rattle.std.proofs.lemmas.Bool.Decides.{nat_tests}
use Rattle.std.proofs.lemmas.Str.{encode_ascii, inside_one, length-encode, len_utf8_bounds}
use Rattle.spe_model.specs.Token.{undoubled}

undoubled_other : (q b : ℕ) (xs : List ℕ) → b ≢ q → undoubled q (b ∷ xs) ≡ b ∷ undoubled q xs
undoubled_other q b [] ne = refl
undoubled_other q b (c ∷ xs) ne = grind (arith, nat_tests)

undoubled_single : (q b : ℕ) (xs : List ℕ) → (0 < length xs → get_or xs 0 0 ≢ q) → undoubled q (b ∷ xs) ≡ b ∷ undoubled q xs
undoubled_single q b [] ne = refl
undoubled_single q b (c ∷ xs) ne = let other : c ≢ q = ne (omega arith) in grind (arith, nat_tests)

undoubled_pair : (q b c : ℕ) (xs : List ℕ) → b ≡ q → c ≡ q → undoubled q (b ∷ c ∷ xs) ≡ b ∷ undoubled q xs
undoubled_pair q b c xs e f = grind (arith, nat_tests)

undoubled_through : (q : ℕ) (ys xs : List ℕ) → ((k : ℕ) → k < length ys → get_or ys k 0 ≢ q) → undoubled q (ys ++ xs) ≡ ys ++ undoubled q xs
undoubled_through q [] xs none = refl
undoubled_through q (y ∷ ys) xs none =
    undoubled_other q y (ys ++ xs) (none 0 (omega arith)) ∙ ap (λ (t : List ℕ). y ∷ t) (undoubled_through q ys xs (λ k l. none (suc k) (omega arith)))

-- a character other than an ASCII quote has no byte of the quote
no_quote_in : (q c : ℕ) → q < 128 → c ≢ q → (k : ℕ) → k < length (encode_utf8 c) → get_or (encode_utf8 c) k 0 ≢ q
no_quote_in q c small ne k l =
    λ (e : get_or (encode_utf8 c) k 0 ≡ q). ne (inside_one c [] (encode_utf8 c) k (sym (append-nil (encode_utf8 c))) l (omega arith) ∙ e)

no_quote_at : (q d : ℕ) (bs : List ℕ) → q < 128 → d ≢ q → get_or (encode_utf8 d ++ bs) 0 0 ≢ q
no_quote_at q d bs small ne =
    λ (e : get_or (encode_utf8 d ++ bs) 0 0 ≡ q).
    let some : 0 < length (encode_utf8 d) = omega (arith, length-encode d, len_utf8_bounds d) in
    ne (inside_one d bs (encode_utf8 d ++ bs) 0 refl some (omega arith) ∙ e)

encodes_quote : (q c : ℕ) (cs : List ℕ) → q < 128 → c ≡ q → encode_utf8_all (c ∷ cs) ≡ c ∷ encode_utf8_all cs
encodes_quote q c cs small e = let one : encode_utf8 c ≡ c ∷ [] = encode_ascii c (omega arith) in rw one refl

encodes_undoubled : (q : ℕ) → q < 128 → (cs : List ℕ) → undoubled q (encode_utf8_all cs) ≡ encode_utf8_all (undoubled q cs)
encodes_undoubled q small [] = refl
encodes_undoubled q small (c ∷ []) =
    elim (cases_eq c q) [
      | inl e ↦ rw (encodes_quote q c [] small e) refl
      | inr ne ↦ undoubled_through q (encode_utf8 c) [] (no_quote_in q c small ne)
    ]
encodes_undoubled q small (c ∷ d ∷ cs) =
    elim (cases_eq c q) [
      | inl e ↦ elim (cases_eq d q) [
        | inl f ↦
            ap (undoubled q) (encodes_quote q c (d ∷ cs) small e ∙ ap (λ (t : List ℕ). c ∷ t) (encodes_quote q d cs small f))
            ∙ (undoubled_pair q c d (encode_utf8_all cs) e f
            ∙ (ap (λ (t : List ℕ). c ∷ t) (encodes_undoubled q small cs)
            ∙ sym (ap encode_utf8_all (undoubled_pair q c d cs e f) ∙ encodes_quote q c (undoubled q cs) small e)))
        | inr ne ↦
            ap (undoubled q) (encodes_quote q c (d ∷ cs) small e)
            ∙ (undoubled_single q c (encode_utf8_all (d ∷ cs)) (λ _. no_quote_at q d (encode_utf8_all cs) small ne)
            ∙ (ap (λ (t : List ℕ). c ∷ t) (encodes_undoubled q small (d ∷ cs))
            ∙ sym (ap encode_utf8_all (undoubled_single q c (d ∷ cs) (λ _. ne)) ∙ encodes_quote q c (undoubled q (d ∷ cs)) small e)))
      ]
      | inr ne ↦
          undoubled_through q (encode_utf8 c) (encode_utf8_all (d ∷ cs)) (no_quote_in q c small ne)
          ∙ (ap (λ (t : List ℕ). encode_utf8 c ++ t) (encodes_undoubled q small (d ∷ cs)) ∙ sym (ap encode_utf8_all (undoubled_other q c (d ∷ cs) ne)))
    ]

pub and_both : (a b : Bool) → (a && b) ≡ true → (a ≡ true) × (b ≡ true)
and_both true true e = (refl, refl)
and_both true false e = absurd cc
and_both false b e = absurd cc

and_split : (a b : Bool) → (a && b) ≡ true → ((a && true) ≡ true) × (b ≡ true)
and_split true true e = (refl, refl)
and_split true false e = absurd cc
and_split false b e = absurd cc

scalars_split : (c : ℕ) (cs : List ℕ) → all_scalars (c ∷ cs) ≡ true → (all_scalars (c ∷ []) ≡ true) × (all_scalars cs ≡ true)
scalars_split c cs all = and_split _ _ all

and_join : (a b : Bool) → (a && true) ≡ true → b ≡ true → (a && b) ≡ true
and_join true true e f = refl
and_join true false e f = absurd cc
and_join false b e f = absurd cc

scalars_cons : (c : ℕ) (cs : List ℕ) → all_scalars (c ∷ []) ≡ true → all_scalars cs ≡ true → all_scalars (c ∷ cs) ≡ true
scalars_cons c cs one all = and_join _ _ one all

scalars_either : (t : Bool) (xs ys : List ℕ) → all_scalars xs ≡ true → all_scalars ys ≡ true → all_scalars (if t then xs else ys) ≡ true
scalars_either true xs ys x y = x
scalars_either false xs ys x y = y

scalars_undoubled : (q : ℕ) (cs : List ℕ) → all_scalars cs ≡ true → all_scalars (undoubled q cs) ≡ true
scalars_undoubled q [] all = refl
scalars_undoubled q (c ∷ []) all = all
scalars_undoubled q (c ∷ d ∷ cs) all =
    let first = scalars_split c (d ∷ cs) all in
    let second = scalars_split d cs first.1 in
    scalars_either _ (c ∷ undoubled q cs) (c ∷ undoubled q (d ∷ cs)) (scalars_cons c (undoubled q cs) first.0 (scalars_undoubled q cs second.1))
    (scalars_cons c (undoubled q (d ∷ cs)) first.0 (scalars_undoubled q (d ∷ cs) first.1))

pub IsUtf8-undoubled : (q : ℕ) (bs : List ℕ) → q < 128 → IsUtf8 bs → IsUtf8 (undoubled q bs)
IsUtf8-undoubled q bs small text = (undoubled q text.0, (scalars_undoubled q text.0 text.1.0, sym (encodes_undoubled q small text.0) ∙ ap (undoubled q) text.1.1))
