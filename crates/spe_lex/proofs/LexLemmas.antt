-- Tokens, one after the other.
use Rattle.std.proofs.Common.{◌≡◌, ℕ, zero, suc, ◌+◌, ◌-◌, ◌<◌, ◌≤◌, List, [], ◌∷◌, ◌++◌, length, take, drop, map, Option, Some, None, Result, Ok, Err, refl, sym, ◌∙◌, ap, subst, arith, append_assoc, append-nil, length-take}
use Rattle.spe_model.specs.declared.token.TokenKind.{TokenKind}
use Rattle.spe_model.specs.declared.token.Token.{Token}
use Rattle.spe_model.specs.declared.token.SqlFault.{SqlFault}
use Rattle.spe_model.specs.Token.{Lexeme, Piece, piece_of, map_ok, behind, lexemes_from, lexemes_of, token_of, AreSpans}
use Rattle.spe_lex.specs.Piece.{piece_at}
use Rattle.spe_lex.specs.Front.{Front, led_by, front_behind, front_from, front_of, whole}
use Rattle.spe_lex.proofs.PieceLemmas.{IsPiece, Holds, pieces}

abbrev pub Lexing : Type 0
Lexing = Result (List Lexeme) SqlFault

abbrev pub all_read : List Lexeme → Lexing
all_read xs = Ok xs

-- what is read, behind what was read before
abbrev pub ahead : List Lexeme → Front → Front
ahead xs front = (xs ++ front.0, front.1)

-- a turn of the loop over tokens
pub token_led : (found : List Lexeme) (x : Lexeme) (before after all : Front) → before ≡ led_by x after → ahead found before ≡ all → ahead (found ++ (x ∷ [])) after ≡ all
token_led found x before after all e same =
    ap (λ (xs : List Lexeme). (xs, after.1)) (append_assoc found (x ∷ []) after.0) ∙ (ap (ahead found) (sym e) ∙ same)

-- its end
pub tokens_end : (found : List Lexeme) (fault : Option ℕ) (before all : Front) → before ≡ ([], fault) → ahead found before ≡ all → (found, fault) ≡ all
tokens_end found fault before all e same = ap (λ (xs : List Lexeme). (xs, fault)) (sym (append-nil found)) ∙ (ap (ahead found) (sym e) ∙ same)

passed_all : (n at : ℕ) (text : List ℕ) → front_from at n text ≡ front_from (at + n) 0 (drop n text)
passed_all zero at text = let e : at + 0 ≡ at = omega arith in rw e refl
passed_all (suc n) at [] = refl
passed_all (suc n) at (b ∷ rest) =
    let e : at + suc n ≡ at + 1 + n = omega arith in
    rw e (passed_all n (at + 1) rest)

drop_by : (b : ℕ) (rest : List ℕ) (n m : ℕ) → n ≡ suc m → drop n (b ∷ rest) ≡ drop m rest
drop_by b rest n m e = rw e refl

drop_one : (b : ℕ) (rest : List ℕ) (n : ℕ) → 0 < n → drop n (b ∷ rest) ≡ drop (n - 1) rest
drop_one b rest n some = drop_by b rest n (n - 1) (omega arith)

next_from : (at n b : ℕ) (rest : List ℕ) → 0 < n → front_from (at + 1) (n - 1) rest ≡ front_from (at + n) 0 (drop n (b ∷ rest))
next_from at n b rest some =
    let e : at + 1 + (n - 1) ≡ at + n = omega arith in
    passed_all (n - 1) (at + 1) rest ∙ rw (e, drop_one b rest n some) refl

abbrev pub a_piece : Option TokenKind → ℕ → Option Piece
a_piece kind n = Some (kind, n)

-- a gap at the front
pub gap_at : (at n : ℕ) (left : List ℕ) → piece_at left ≡ a_piece None n → 0 < n → front_from at 0 left ≡ front_from (at + n) 0 (drop n left)
gap_at at n [] e some = absurd cc
gap_at at n (b ∷ rest) e some = ap (λ (o : Option Piece). front_behind at (b ∷ rest) o (λ m. front_from (at + 1) m rest)) e ∙ next_from at n b rest some

-- a token at the front
pub token_at : (at n : ℕ) (kind : TokenKind) (left : List ℕ) → piece_at left ≡ a_piece (Some kind) n → 0 < n
    → front_from at 0 left ≡ led_by (record { kind = kind; at = at; text = take n left }) (front_from (at + n) 0 (drop n left))
token_at at n kind [] e some = absurd cc
token_at at n kind (b ∷ rest) e some =
    ap (λ (o : Option Piece). front_behind at (b ∷ rest) o (λ m. front_from (at + 1) m rest)) e
    ∙ ap (led_by (record { kind = kind; at = at; text = take n (b ∷ rest) })) (next_from at n b rest some)

abbrev no_piece : Option Piece
no_piece = None

abbrev no_token : Option ℕ → Front
no_token fault = ([], fault)

-- a fault at the front
pub fault_at : (at : ℕ) (left : List ℕ) → 0 < length left → piece_at left ≡ no_piece → front_from at 0 left ≡ no_token (Some at)
fault_at at [] some e = absurd (omega arith)
fault_at at (b ∷ rest) some e = ap (λ (o : Option Piece). front_behind at (b ∷ rest) o (λ m. front_from (at + 1) m rest)) e

-- the end of a text
pub end_at : (at : ℕ) (left : List ℕ) → length left ≡ 0 → front_from at 0 left ≡ no_token None
end_at at [] e = refl
end_at at (b ∷ rest) e = absurd (omega arith)

whole_led : (x : Lexeme) (front : Front) → map_ok (λ xs. x ∷ xs) (whole front) ≡ whole (led_by x front)
whole_led x (xs, None) = refl
whole_led x (xs, Some at) = refl

whole_behind : (at : ℕ) (text : List ℕ) (o : Option Piece) (others : ℕ → Lexing) (fronts : ℕ → Front) → ((n : ℕ) → others n ≡ whole (fronts n))
    → behind at text o others ≡ whole (front_behind at text o fronts)
whole_behind at text None others fronts same = refl
whole_behind at text (Some (None, n)) others fronts same = same (n - 1)
whole_behind at text (Some (Some kind, n)) others fronts same =
    ap (map_ok (λ xs. record { kind = kind; at = at; text = take n text } ∷ xs)) (same (n - 1))
    ∙ whole_led (record { kind = kind; at = at; text = take n text }) (fronts (n - 1))

whole_from : (text : List ℕ) (at passed : ℕ) → lexemes_from at passed text ≡ whole (front_from at passed text)
whole_from [] at passed = refl
whole_from (b ∷ rest) at zero =
    whole_behind at (b ∷ rest) (piece_of b rest) (λ n. lexemes_from (at + 1) n rest) (λ n. front_from (at + 1) n rest) (λ n. whole_from rest (at + 1) n)
whole_from (b ∷ rest) at (suc passed) = whole_from rest (at + 1) passed

-- the tokens of a text are those up to its end
pub lexemes_of-front : (text : List ℕ) → lexemes_of text ≡ whole (front_of text)
lexemes_of-front text = whole_from text 0 0

-- what is known of the piece at the front
pub front_piece : (left : List ℕ) (kind : Option TokenKind) (n : ℕ) → piece_at left ≡ a_piece kind n → IsPiece left kind n
front_piece [] kind n e = absurd cc
front_piece (b ∷ rest) kind n e = subst (Holds b rest) e (pieces b rest)

-- tokens that begin later
sooner : (low later high : ℕ) (ts : List Token) → low ≤ later → AreSpans later high ts → AreSpans low high ts
sooner low later high [] l spans = omega arith
sooner low later high (t ∷ ts) l spans = (omega (arith, spans.0), spans.1, spans.2)

abbrev Spans : ℕ → ℕ → List ℕ → Lexing → Type 0
Spans low at text (Ok xs) = AreSpans low (at + length text) (map token_of xs)
Spans low at text (Err fault) = Unit {0}

spans_sooner : (low later at : ℕ) (text : List ℕ) (reading : Lexing) → low ≤ later → Spans later at text reading → Spans low at text reading
spans_sooner low later at text (Ok xs) l spans = sooner low later (at + length text) (map token_of xs) l spans
spans_sooner low later at text (Err fault) l spans = tt

spans_shift : (low at : ℕ) (b : ℕ) (rest : List ℕ) (reading : Lexing) → Spans low (at + 1) rest reading → Spans low at (b ∷ rest) reading
spans_shift low at b rest (Ok xs) spans =
    let e : at + 1 + length rest ≡ at + length (b ∷ rest) = omega arith in
    subst (λ (high : ℕ). AreSpans low high (map token_of xs)) e spans
spans_shift low at b rest (Err fault) spans = tt

spans_token : (at n : ℕ) (kind : TokenKind) (text : List ℕ) (reading : Lexing) → 0 < n → n ≤ length text → Spans (at + n) at text reading
    → Spans at at text (map_ok (λ xs. record { kind = kind; at = at; text = take n text } ∷ xs) reading)
spans_token at n kind text (Ok xs) some within spans =
    let len : length (take n text) ≡ n = omega (arith, length-take n text) in
    (omega arith, omega (arith, len), rw len spans)
spans_token at n kind text (Err fault) some within spans = tt

spans_behind : (at : ℕ) (b : ℕ) (rest : List ℕ) (o : Option Piece) (others : ℕ → Lexing) → Holds b rest o
    → ((n : ℕ) → n ≤ length rest → Spans (at + 1 + n) (at + 1) rest (others n)) → Spans at at (b ∷ rest) (behind at (b ∷ rest) o others)
spans_behind at b rest None others holds each = tt
spans_behind at b rest (Some (None, n)) others holds each =
    spans_sooner at (at + 1 + (n - 1)) at (b ∷ rest) (others (n - 1)) (omega arith)
    (spans_shift (at + 1 + (n - 1)) at b rest (others (n - 1)) (each (n - 1) (omega (arith, holds.ends.within))))
spans_behind at b rest (Some (Some kind, n)) others holds each =
    spans_token at n kind (b ∷ rest) (others (n - 1)) holds.ends.some holds.ends.within
    (spans_sooner (at + n) (at + 1 + (n - 1)) at (b ∷ rest) (others (n - 1)) (omega (arith, holds.ends.some))
    (spans_shift (at + 1 + (n - 1)) at b rest (others (n - 1)) (each (n - 1) (omega (arith, holds.ends.within)))))

spans_from : (text : List ℕ) (at passed : ℕ) → passed ≤ length text → Spans (at + passed) at text (lexemes_from at passed text)
spans_from [] at passed l = omega arith
spans_from (b ∷ rest) at zero l =
    let e : at ≡ at + 0 = omega arith in
    subst (λ (low : ℕ). Spans low at (b ∷ rest) (lexemes_from at 0 (b ∷ rest))) e
    (spans_behind at b rest (piece_of b rest) (λ n. lexemes_from (at + 1) n rest) (pieces b rest) (λ n m. spans_from rest (at + 1) n m))
spans_from (b ∷ rest) at (suc passed) l =
    let e : at + 1 + passed ≡ at + suc passed = omega arith in
    subst (λ (low : ℕ). Spans low at (b ∷ rest) (lexemes_from (at + 1) passed rest)) e
    (spans_shift (at + 1 + passed) at b rest (lexemes_from (at + 1) passed rest) (spans_from rest (at + 1) passed (omega arith)))

-- the tokens of a text are spans of it
pub spans_of : (text : List ℕ) (xs : List Lexeme) → lexemes_of text ≡ all_read xs → AreSpans 0 (length text) (map token_of xs)
spans_of text xs e =
    let whole : 0 + length text ≡ length text = omega arith in
    subst (λ (high : ℕ). AreSpans 0 high (map token_of xs)) whole (subst (Spans 0 0 text) e (spans_from text 0 0 (omega arith)))
