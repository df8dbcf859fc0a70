-- Pairs of hexadecimal digits are decoded.
use Rattle.std.proofs.Common.{◌≡◌, ℕ, ◌+◌, ◌-◌, ◌%◌, ◌⊎◌, List, [], ◌∷◌, length, take, drop, Some, Result, Ok, Err, true, refl, sym, ◌∙◌, ap, arith, inl, inr}
use Rattle.std.specs.Char.{is_ascii_hexdigit, digit_value}
use Rattle.std.specs.List.{list_all}
use Rattle.std.proofs.lemmas.Bool.Decides.{nat_tests}
use Rattle.hex.specs.declared.error.FromHexError.{FromHexError}
use Rattle.hex.specs.declared.error.FromHexError.TheVariants.{OutOfMemory}
use Rattle.hex.specs.Hex.{hex_digit_value, decode_pairs, decode_of}
use Rattle.hex.proofs.HexLemmas.{decode_of-even}
use Rattle.spe_model.specs.Token.{hex_pairs}
use Rattle.spe_lex.specs.Lexed.{AreHexPairs}
use Rattle.spe_lex.proofs.QuoteLemmas.{rest_is}
use Rattle.spe_lex.proofs.UnquotedLemmas.{and_both}

abbrev Decoding : Type 0
Decoding = Result (List ℕ) FromHexError

abbrev decoded : List ℕ → Decoding
decoded bytes = Ok bytes

digit_is : (c : ℕ) → is_ascii_hexdigit c ≡ true → hex_digit_value c ≡ Some (digit_value c)
digit_is c e = grind (arith, nat_tests)

pairs_decoded : (i : ℕ) (s : List ℕ) → length s % 2 ≡ 0 → list_all is_ascii_hexdigit s ≡ true → decode_pairs i s ≡ decoded (hex_pairs s)
unfolding decode_pairs
pairs_decoded i [] even all = refl
pairs_decoded i (a ∷ []) even all = absurd (omega arith)
pairs_decoded i (a ∷ b ∷ s) even all =
    let first = and_both (is_ascii_hexdigit a) (list_all is_ascii_hexdigit (b ∷ s)) all in
    let second = and_both (is_ascii_hexdigit b) (list_all is_ascii_hexdigit s) first.1 in
    rw (digit_is a first.0, digit_is b second.0, pairs_decoded (i + 2) s (omega arith) second.1) refl

pub digits_decoded : (s : List ℕ) → AreHexPairs s → decode_of s ≡ decoded (hex_pairs s)
digits_decoded s pairs = decode_of-even s pairs.pairs ∙ pairs_decoded 0 s pairs.pairs pairs.all

abbrev bytes_in : Decoding → List ℕ
bytes_in (Ok bytes) = bytes
bytes_in (Err fault) = []

pub decoded_is : (s bytes : List ℕ) → AreHexPairs s → decode_of s ≡ decoded bytes → bytes ≡ hex_pairs s
decoded_is s bytes pairs e = ap bytes_in (sym e ∙ digits_decoded s pairs)

abbrev refused : FromHexError → Decoding
refused fault = Err fault

pub decoded_unless : (s : List ℕ) (fault : FromHexError) → AreHexPairs s → (fault ≡ OutOfMemory) ⊎ (decode_of s ≡ refused fault) → fault ≡ OutOfMemory
decoded_unless s fault pairs (inl e) = e
decoded_unless s fault pairs (inr e) = let both : decoded (hex_pairs s) ≡ refused fault = sym (digits_decoded s pairs) ∙ e in absurd cc

pub tail_is : (xs : List ℕ) → take (length xs - 1) (drop 1 xs) ≡ drop 1 xs
tail_is [] = refl
tail_is (x ∷ xs) = rest_is x xs
