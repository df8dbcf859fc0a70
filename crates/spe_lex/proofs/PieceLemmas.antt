-- How far a piece goes, and what the text of a token is.
use Rattle.std.proofs.Common.{◌≡◌, ℕ, zero, suc, ◌+◌, ◌-◌, ◌<◌, ◌≤◌, ◌⊎◌, List, [], ◌∷◌, length, take, drop, get_or, Option, Some, None, Bool, true, false, refl, sym, ◌∙◌, ap, subst, arith, inl, inr, if◌then◌else◌, length-take}
use Rattle.std.specs.Prelude.{◌==◌, ◌&&◌, ◌||◌, cond, IfSome}
use Rattle.std.specs.Char.{is_ascii_whitespace, is_ascii_digit, is_ascii_hexdigit}
use Rattle.std.specs.List.{prefix_len, list_all}
use Rattle.std.specs.Str.{IsUtf8, IsCharBoundary, byte}
use Rattle.std.proofs.lemmas.Bool.{cases_lt, cases_eq}
use Rattle.std.proofs.lemmas.Bool.Decides.{nat_tests}
use Rattle.std.proofs.lemmas.Grind.{get_or_tail}
use Rattle.std.proofs.lemmas.List.Sums.{prefix_len-le-length, prefix_len_stops, prefix_len_passes}
use Rattle.std.proofs.lemmas.List.Folds.{length-prefix_len}
use Rattle.std.proofs.lemmas.Str.{IsUtf8-take, IsUtf8-drop, IsCharBoundary-end, IsCharBoundary-before_ascii, IsCharBoundary-after_ascii}
use Rattle.spe_model.specs.declared.token.TokenKind.{TokenKind}
use Rattle.spe_model.specs.declared.token.TokenKind.TheVariants.{Word, QuotedName, Str, Blob, Number, Fraction, Sign}
use Rattle.spe_model.specs.Token.{begins_with, begins_word, continues_word, continues_fraction, begins_fraction, is_not_line_feed, is_sign, is_quote, through_comment, before_quote, before_bracket, before_blob_end, further, gap, token, quoted, quoted_name, blob, number, sign, quotation, piece_of, inner, unquoted, undoubled, Piece}
use Rattle.spe_lex.specs.Lexed.{AreHexPairs, AreDigits, IsSound}
use Rattle.spe_lex.proofs.QuoteLemmas.{not_quote, two_quotes, lone_quote}
use Rattle.spe_lex.proofs.UnquotedLemmas.{and_both, IsUtf8-undoubled}

-- a place at which a text may be cut: its end, or one before or behind an ASCII byte
pub record Ends (text : List ℕ) (n : ℕ) : Type 0 where
  pub some : 0 < n
  pub within : n ≤ length text
  pub how : (n ≡ length text) ⊎ (((n < length text) × (get_or text n 0 < 128)) ⊎ (get_or text (n - 1) 0 < 128))

pub boundary : (text : List ℕ) (n : ℕ) → Ends text n → IsUtf8 text → IsCharBoundary text n
boundary text n ends u =
    elim ends.how [
      | inl e ↦ subst (λ (m : ℕ). IsCharBoundary text m) (sym e) (IsCharBoundary-end text)
      | inr other ↦ elim other [
        | inl b ↦ IsCharBoundary-before_ascii text n b.0 b.1
        | inr a ↦ subst (λ (m : ℕ). IsCharBoundary text m) (last_one n ends.some) (IsCharBoundary-after_ascii text (n - 1) u (omega arith) a)
      ]
    ]
  where
    last_one : (n : ℕ) → 0 < n → n - 1 + 1 ≡ n
    last_one n some = omega arith

tail_at : (b : ℕ) (rest : List ℕ) (m : ℕ) → get_or (b ∷ rest) (1 + m) 0 ≡ get_or rest m 0
tail_at b rest m = let e : 1 + m ≡ suc m = omega arith in rw e refl

-- a run ends before the first byte that fails
run_ends : (p : ℕ → Bool) → ((x : ℕ) → p x ≡ false → x < 128) → (b : ℕ) (rest : List ℕ) → Ends (b ∷ rest) (1 + prefix_len p rest)
run_ends p small b rest =
    let most = prefix_len-le-length p rest in record {
      some = omega arith;
      within = omega arith;
      how = elim (cases_lt (prefix_len p rest) (length rest)) [
        | inl l ↦ inr (inl (omega arith, rw (tail_at b rest (prefix_len p rest)) (small _ (prefix_len_stops p rest 0 l))))
        | inr g ↦ inl (omega arith)
      ];
    }

-- a run ends behind its last byte
run_behind : (p : ℕ → Bool) → ((x : ℕ) → p x ≡ true → x < 128) → (text : List ℕ) → 0 < prefix_len p text → Ends text (prefix_len p text)
run_behind p small text some = record {
  some = some;
  within = prefix_len-le-length p text;
  how = inr (inr (small _ (prefix_len_passes p text (prefix_len p text - 1) 0 (omega arith))));
}

-- a comment ends behind its slash
abbrev ClosesComment : List ℕ → ℕ → Type 0
ClosesComment r n = (n ≤ length r) × ((n ≡ length r) ⊎ ((0 < n) × (get_or r (n - 1) 0 < 128)))

closes_more : (b : ℕ) (r : List ℕ) (n : ℕ) → ClosesComment r n → ClosesComment (b ∷ r) (1 + n)
closes_more b r n closes =
    let e : 1 + n - 1 ≡ n = omega arith in (
      omega arith,
      elim closes.1 [
        | inl e ↦ inl (omega arith)
        | inr l ↦ inr (omega arith, rw (e, get_or_tail b r n 0 l.0) l.1)
      ],
    )

closes_either : (t : Bool) (b c : ℕ) (r : List ℕ) (n : ℕ) → (t ≡ true → c < 128) → ClosesComment (c ∷ r) n → ClosesComment (b ∷ c ∷ r) (if t then 2 else 1 + n)
closes_either true b c r n small closes = (omega arith, inr (omega arith, small refl))
closes_either false b c r n small closes = closes_more b (c ∷ r) n closes

slash_small : (t : Bool) (c : ℕ) → (t && (c == byte "/")) ≡ true → c < 128
slash_small t c e = let slash : (c == byte "/") ≡ true = (and_both t (c == byte "/") e).1 in grind (arith, nat_tests)

comment_closes : (r : List ℕ) → ClosesComment r (through_comment r)
comment_closes [] = (omega arith, inl refl)
comment_closes (b ∷ []) = (omega arith, inl refl)
comment_closes (b ∷ c ∷ r) = closes_either _ b c r (through_comment (c ∷ r)) (slash_small _ c) (comment_closes (c ∷ r))

comment_ends : (b c : ℕ) (r : List ℕ) → Ends (b ∷ c ∷ r) (2 + through_comment r)
comment_ends b c r =
    let closes = comment_closes r in
    let e : 2 + through_comment r - 1 ≡ 1 + through_comment r = omega arith in record {
      some = omega arith;
      within = omega arith;
      how = elim closes.1 [
        | inl f ↦ inl (omega arith)
        | inr l ↦ inr (inr (rw (e, tail_at b (c ∷ r) (through_comment r), get_or_tail c r (through_comment r) 0 l.0) l.1))
      ];
    }

-- where a quote stands that closes
abbrev StandsAt : ℕ → List ℕ → ℕ → Type 0
StandsAt q bs n = (n < length bs) × (get_or bs n 0 ≡ q)

further_some : (n : ℕ) (more : Option ℕ) (P : ℕ → Type 0) → IfSome more (λ m. P (n + m)) → IfSome (further n more) P
further_some n None P h = tt
further_some n (Some m) P h = h

some_map : (more : Option ℕ) (P Q : ℕ → Type 0) → ((m : ℕ) → P m → Q m) → IfSome more P → IfSome more Q
some_map None P Q f h = tt
some_map (Some m) P Q f h = f m h

one_more : (q b : ℕ) (bs : List ℕ) (m : ℕ) → StandsAt q bs m → StandsAt q (b ∷ bs) (1 + m)
one_more q b bs m at = (omega arith, tail_at b bs m ∙ at.1)

two_more : (q b c : ℕ) (bs : List ℕ) (m : ℕ) → StandsAt q bs m → StandsAt q (b ∷ c ∷ bs) (2 + m)
two_more q b c bs m at =
    let e : 2 + m ≡ 1 + (1 + m) = omega arith in
    rw e (one_more q b (c ∷ bs) (1 + m) (one_more q c bs m at))

quote_at : (q : ℕ) (bs : List ℕ) → IfSome (before_quote q bs) (StandsAt q bs)
quote_at q [] = tt
quote_at q (b ∷ []) =
    elim (cases_eq b q) [
      | inl e ↦ rw (lone_quote q b [] e (λ l. absurd (omega arith))) (omega arith, e)
      | inr ne ↦ rw (not_quote q b [] ne) tt
    ]
quote_at q (b ∷ c ∷ bs) =
    elim (cases_eq b q) [
      | inl e ↦ elim (cases_eq c q) [
        | inl f ↦ rw (two_quotes q b c bs e f) (further_some 2 (before_quote q bs) (StandsAt q (b ∷ c ∷ bs)) (some_map (before_quote q bs) (StandsAt q bs) _ (two_more q b c bs) (quote_at q bs)))
        | inr ne ↦ rw (lone_quote q b (c ∷ bs) e (λ _. ne)) (omega arith, e)
      ]
      | inr ne ↦ rw (not_quote q b (c ∷ bs) ne) (further_some 1 (before_quote q (c ∷ bs)) (StandsAt q (b ∷ c ∷ bs)) (some_map (before_quote q (c ∷ bs)) (StandsAt q (c ∷ bs)) _ (one_more q b (c ∷ bs)) (quote_at q (c ∷ bs))))
    ]

bracket_either : (t : Bool) (b : ℕ) (bs : List ℕ) → (t ≡ true → b ≡ byte "]") → IfSome (before_bracket bs) (StandsAt (byte "]") bs)
    → IfSome (if t then Some 0 else further 1 (before_bracket bs)) (StandsAt (byte "]") (b ∷ bs))
bracket_either true b bs e h = (omega arith, e refl)
bracket_either false b bs e h = further_some 1 (before_bracket bs) (StandsAt (byte "]") (b ∷ bs)) (some_map (before_bracket bs) (StandsAt (byte "]") bs) _ (one_more (byte "]") b bs) h)

is_byte : (b c : ℕ) → (b == c) ≡ true → b ≡ c
is_byte b c e = grind (arith, nat_tests)

bracket_at : (bs : List ℕ) → IfSome (before_bracket bs) (StandsAt (byte "]") bs)
bracket_at [] = tt
bracket_at (b ∷ bs) = bracket_either (b == byte "]") b bs (is_byte b (byte "]")) (bracket_at bs)

begins_at : (q n : ℕ) (xs : List ℕ) → begins_with q (drop n xs) ≡ true → StandsAt q xs n
begins_at q zero [] e = absurd cc
begins_at q zero (x ∷ xs) e = (omega arith, is_byte x q e)
begins_at q (suc n) [] e = absurd cc
begins_at q (suc n) (x ∷ xs) e = let at = begins_at q n xs e in (omega arith, at.1)

passes_cond : (p : ℕ → Bool) (x : ℕ) (xs : List ℕ) (t : Bool) → p x ≡ t → list_all p (take (prefix_len p xs) xs) ≡ true
    → list_all p (take (cond t (1 + prefix_len p xs) 0) (x ∷ xs)) ≡ true
passes_cond p x xs true e all = let m : 1 + prefix_len p xs ≡ suc (prefix_len p xs) = omega arith in rw m (rw (e, all) refl)
passes_cond p x xs false e all = refl

run_passes : (p : ℕ → Bool) (xs : List ℕ) → list_all p (take (prefix_len p xs) xs) ≡ true
run_passes p [] = refl
run_passes p (x ∷ xs) = passes_cond p x xs (p x) refl (run_passes p xs)

blob_either : (t : Bool) (n : ℕ) (P : ℕ → Type 0) → (t ≡ true → P n) → IfSome (if t then Some n else None) P
blob_either true n P h = h refl
blob_either false n P h = tt

blob_at : (r : List ℕ) → IfSome (before_blob_end r) (λ n. StandsAt (byte "'") r n × AreHexPairs (take n r))
unfolding before_blob_end
blob_at r =
    blob_either _ (prefix_len is_ascii_hexdigit r) (λ n. StandsAt (byte "'") r n × AreHexPairs (take n r))
    (λ e.
    let both = and_both _ _ e in (
      begins_at (byte "'") (prefix_len is_ascii_hexdigit r) r both.1,
      record {
        pairs = rw (length-prefix_len is_ascii_hexdigit r) (is_byte _ 0 both.0);
        all = run_passes is_ascii_hexdigit r;
      },
    ))

-- a piece of some text
pub record IsPiece (text : List ℕ) (kind : Option TokenKind) (n : ℕ) : Type 0 where
  pub ends : Ends text n
  pub sound : IsUtf8 text → IfSome kind (λ k. IsSound k (take n text))

abbrev pub Holds : (b : ℕ) (rest : List ℕ) → Option Piece → Type 0
Holds b rest o = IfSome o (λ p. IsPiece (b ∷ rest) p.0 p.1)

choose : (b : ℕ) (rest : List ℕ) (t : Bool) (x y : Option Piece) → (t ≡ true → Holds b rest x) → (t ≡ false → Holds b rest y) → Holds b rest (if t then x else y)
choose b rest true x y f g = f refl
choose b rest false x y f g = g refl

gap_piece : (b : ℕ) (rest : List ℕ) (n : ℕ) → Ends (b ∷ rest) n → Holds b rest (gap n)
gap_piece b rest n ends = record { ends = ends; sound = λ u. tt }

one_ends : (b : ℕ) (rest : List ℕ) → b < 128 → Ends (b ∷ rest) 1
one_ends b rest small = record { some = omega arith; within = omega arith; how = inr (inr small) }

two_ends : (b c : ℕ) (rest : List ℕ) → c < 128 → Ends (b ∷ c ∷ rest) 2
two_ends b c rest small = record { some = omega arith; within = omega arith; how = inr (inr small) }

not_bracket : (b : ℕ) → is_quote b ≡ false → (b == byte "[") ≡ false
not_bracket b e = grind (arith, nat_tests)

neither : (t s : Bool) (x y z : List ℕ) → t ≡ false → s ≡ false → (if t then x else (if s then y else z)) ≡ z
neither true s x y z e f = absurd cc
neither false true x y z e f = absurd cc
neither false false x y z e f = refl

unquoted_plain : (b : ℕ) (rest : List ℕ) (n : ℕ) → is_quote b ≡ false → 0 < n → unquoted (take n (b ∷ rest)) ≡ take n (b ∷ rest)
unfolding unquoted
unquoted_plain b rest n e some = let m : n ≡ suc (n - 1) = omega arith in of_suc n (n - 1) m
  where
    of_suc : (n m : ℕ) → n ≡ suc m → unquoted (take n (b ∷ rest)) ≡ take n (b ∷ rest)
    of_suc n m f = rw f (neither (b == byte "[") (is_quote b) _ _ _ (not_bracket b e) e)

-- a token that has no quotes
plain_piece : (kind : TokenKind) (b : ℕ) (rest : List ℕ) (n : ℕ) → (kind ≡ Blob → ⊥) → (kind ≡ Number → AreDigits (take n (b ∷ rest))) → is_quote b ≡ false → Ends (b ∷ rest) n → Holds b rest (token kind n)
plain_piece kind b rest n other decimal e ends = record {
  ends = ends;
  sound = λ u. record {
    meant = rw (unquoted_plain b rest n e ends.some) (IsUtf8-take (b ∷ rest) n u (boundary (b ∷ rest) n ends u));
    digits = λ f. absurd (other f);
    decimal = decimal;
  };
}

take_shorter : (m : ℕ) (xs : List ℕ) → take m (take (suc m) xs) ≡ take m xs
take_shorter zero xs = refl
take_shorter (suc m) [] = refl
take_shorter (suc m) (x ∷ xs) = ap (λ (t : List ℕ). x ∷ t) (take_shorter m xs)

inner_is : (b : ℕ) (rest : List ℕ) (m : ℕ) → m < length rest → inner (take (m + 2) (b ∷ rest)) ≡ take m rest
inner_is b rest m l =
    let e : m + 2 ≡ suc (suc m) = omega arith in
    let len : length (b ∷ take (suc m) rest) - 2 ≡ m = omega (arith, length-take (suc m) rest) in
    rw e (rw len (take_shorter m rest))

rest_text : (b : ℕ) (rest : List ℕ) → b < 128 → IsUtf8 (b ∷ rest) → IsUtf8 rest
rest_text b rest small u = IsUtf8-drop (b ∷ rest) 1 u (IsCharBoundary-after_ascii (b ∷ rest) 0 u (omega arith) small)

quote_small : (b : ℕ) → is_quote b ≡ true → b < 128
quote_small b e = grind (arith, nat_tests)

unquoted_either : (t s : Bool) (b : ℕ) (text : List ℕ) → s ≡ true → b < 128 → IsUtf8 (inner text)
    → IsUtf8 (if t then inner text else (if s then undoubled b (inner text) else text))
unquoted_either true s b text e small u = u
unquoted_either false true b text e small u = IsUtf8-undoubled b (inner text) small u
unquoted_either false false b text e small u = absurd cc

unquoted_text : (b : ℕ) (rest : List ℕ) (n : ℕ) → 0 < n → is_quote b ≡ true → IsUtf8 (inner (take n (b ∷ rest))) → IsUtf8 (unquoted (take n (b ∷ rest)))
unfolding unquoted
unquoted_text b rest n some e u = let m : n ≡ suc (n - 1) = omega arith in of_suc n (n - 1) m u
  where
    of_suc : (n m : ℕ) → n ≡ suc m → IsUtf8 (inner (take n (b ∷ rest))) → IsUtf8 (unquoted (take n (b ∷ rest)))
    of_suc n m f u = rw f (unquoted_either (b == byte "[") (is_quote b) b (b ∷ take m rest) e (quote_small b e) (rw f at u))

-- a token between two quotes
quoted_piece : (kind : TokenKind) (b : ℕ) (rest : List ℕ) (m q : ℕ) → (kind ≡ Blob → ⊥) → (kind ≡ Number → ⊥) → is_quote b ≡ true → q < 128 → StandsAt q rest m → Holds b rest (token kind (m + 2))
quoted_piece kind b rest m q other plain e small at =
    let last : m + 2 - 1 ≡ 1 + m = omega arith in
    let close : get_or rest m 0 < 128 = omega (arith, at.1) in record {
      ends = record { some = omega arith; within = omega (arith, at.0); how = inr (inr (rw (last, tail_at b rest m) close)) };
      sound = λ u. record {
        meant =
            unquoted_text b rest (m + 2) (omega arith) e
            (rw (inner_is b rest m at.0) (IsUtf8-take rest m (rest_text b rest (quote_small b e) u) (IsCharBoundary-before_ascii rest m at.0 close)));
        digits = λ f. absurd (other f);
        decimal = λ f. absurd (plain f);
      };
    }

-- a blob
blob_piece : (b c : ℕ) (r : List ℕ) (m : ℕ) → is_quote b ≡ false → StandsAt (byte "'") r m → AreHexPairs (take m r) → Holds b (c ∷ r) (token Blob (m + 3))
blob_piece b c r m e at pairs =
    let last : m + 3 - 1 ≡ 1 + (1 + m) = omega arith in
    let more : m + 3 ≡ suc (m + 2) = omega arith in
    let ends : Ends (b ∷ c ∷ r) (m + 3) = record {
      some = omega arith;
      within = omega (arith, at.0);
      how = inr (inr (rw (last, tail_at b (c ∷ r) (1 + m), tail_at c r m) (omega (arith, at.1))));
    } in record {
      ends = ends;
      sound = λ u. record {
        meant = rw (unquoted_plain b (c ∷ r) (m + 3) e ends.some) (IsUtf8-take (b ∷ c ∷ r) (m + 3) u (boundary (b ∷ c ∷ r) (m + 3) ends u));
        digits = λ f. rw (more, inner_is c r m at.0) pairs;
        decimal = λ f. absurd cc;
      };
    }

continues_word_small : (x : ℕ) → continues_word x ≡ false → x < 128
continues_word_small x e = grind (arith, nat_tests)

continues_fraction_small : (x : ℕ) → continues_fraction x ≡ false → x < 128
continues_fraction_small x e = grind (arith, nat_tests)

line_feed_small : (x : ℕ) → is_not_line_feed x ≡ false → x < 128
line_feed_small x e = grind (arith, nat_tests)

digit_small : (x : ℕ) → is_ascii_digit x ≡ true → x < 128
digit_small x e = grind (arith, nat_tests)

blank_small : (x : ℕ) → is_ascii_whitespace x ≡ true → x < 128
blank_small x e = grind (arith, nat_tests)

letter_plain : (b : ℕ) → ((b == byte "x") || (b == byte "X")) ≡ true → is_quote b ≡ false
letter_plain b e = grind (arith, nat_tests)

word_plain : (b : ℕ) → begins_word b ≡ true → is_quote b ≡ false
word_plain b e = grind (arith, nat_tests)

digit_plain : (b : ℕ) → is_ascii_digit b ≡ true → is_quote b ≡ false
digit_plain b e = grind (arith, nat_tests)

digit_continues : (b : ℕ) → is_ascii_digit b ≡ true → continues_fraction b ≡ true
digit_continues b e = grind (arith, nat_tests)

equals_small : (c : ℕ) → (c == byte "=") ≡ true → c < 128
equals_small c e = grind (arith, nat_tests)

sign_small : (b : ℕ) → is_sign b ≡ true → b < 128
sign_small b e = grind (arith, nat_tests)

run_from : (p : ℕ → Bool) (b : ℕ) (rest : List ℕ) → p b ≡ true → prefix_len p (b ∷ rest) ≡ 1 + prefix_len p rest
run_from p b rest e = rw e refl

comment_piece : (t : Bool) (b : ℕ) (rest : List ℕ) → (t && begins_with (byte "*") rest) ≡ true → Holds b rest (gap (2 + through_comment (drop 1 rest)))
comment_piece t b [] e = absurd (no_and t (and_both t false e).1)
  where
    no_and : (t : Bool) → false ≡ true → ⊥
    no_and t f = cc
comment_piece t b (c ∷ r) e = gap_piece b (c ∷ r) (2 + through_comment r) (comment_ends b c r)

blob_some : (b c : ℕ) (r : List ℕ) (o : Option ℕ) → is_quote b ≡ false → IfSome o (λ n. StandsAt (byte "'") r n × AreHexPairs (take n r)) → Holds b (c ∷ r) (blob o)
blob_some b c r None e h = tt
blob_some b c r (Some m) e h = blob_piece b c r m e h.0 h.1

blob_holds : (b : ℕ) (rest : List ℕ) → (((b == byte "x") || (b == byte "X")) && begins_with (byte "'") rest) ≡ true → Holds b rest (blob (before_blob_end (drop 1 rest)))
blob_holds b [] e = absurd (none (and_both _ false e).1)
  where
    none : false ≡ true → ⊥
    none f = cc
blob_holds b (c ∷ r) e = blob_some b c r (before_blob_end r) (letter_plain b (and_both _ (begins_with (byte "'") (c ∷ r)) e).0) (blob_at r)

word_holds : (b : ℕ) (rest : List ℕ) → begins_word b ≡ true → Holds b rest (token Word (1 + prefix_len continues_word rest))
word_holds b rest e = plain_piece Word b rest (1 + prefix_len continues_word rest) (λ f. cc) (λ f. absurd cc) (word_plain b e) (run_ends continues_word continues_word_small b rest)

digits_run : (b : ℕ) (rest : List ℕ) → is_ascii_digit b ≡ true → AreDigits (take (prefix_len is_ascii_digit (b ∷ rest)) (b ∷ rest))
digits_run b rest e = record {
  some = rw (length-prefix_len is_ascii_digit (b ∷ rest)) (omega (arith, run_from is_ascii_digit b rest e));
  all = run_passes is_ascii_digit (b ∷ rest);
}

number_holds : (b : ℕ) (rest : List ℕ) → is_ascii_digit b ≡ true → Holds b rest (number (b ∷ rest))
unfolding number
number_holds b rest e =
    choose b rest (begins_fraction (drop (prefix_len is_ascii_digit (b ∷ rest)) (b ∷ rest))) (token Fraction (prefix_len continues_fraction (b ∷ rest)))
    (token Number (prefix_len is_ascii_digit (b ∷ rest)))
    (λ f. plain_piece Fraction b rest _ (λ f. cc) (λ f. absurd cc) (digit_plain b e)
    (subst (Ends (b ∷ rest)) (sym (run_from continues_fraction b rest (digit_continues b e))) (run_ends continues_fraction continues_fraction_small b rest)))
    (λ f. plain_piece Number b rest _ (λ f. cc) (λ f. digits_run b rest e) (digit_plain b e)
    (run_behind is_ascii_digit digit_small (b ∷ rest) (omega (arith, run_from is_ascii_digit b rest e))))

quoted_holds : (b : ℕ) (rest : List ℕ) (q : ℕ) (o : Option ℕ) → is_quote b ≡ true → q < 128 → IfSome o (StandsAt q rest) → Holds b rest (quoted Str o)
quoted_holds b rest q None e small h = tt
quoted_holds b rest q (Some m) e small h = quoted_piece Str b rest m q (λ f. cc) (λ f. cc) e small h

quoted_name_holds : (b : ℕ) (rest : List ℕ) (q : ℕ) (o : Option ℕ) → is_quote b ≡ true → q < 128 → IfSome o (StandsAt q rest) → Holds b rest (quoted_name o)
quoted_name_holds b rest q None e small h = tt
quoted_name_holds b rest q (Some m) e small h =
    choose b rest (m == 0) None (token QuotedName (m + 2)) (λ f. tt) (λ f. quoted_piece QuotedName b rest m q (λ f. cc) (λ f. cc) e small h)

quotation_holds : (b : ℕ) (rest : List ℕ) → is_quote b ≡ true → Holds b rest (quotation b rest)
unfolding quotation
quotation_holds b rest e =
    choose b rest (b == byte "'") (quoted Str (before_quote b rest)) _ (λ f. quoted_holds b rest b (before_quote b rest) e (quote_small b e) (quote_at b rest))
    (λ f. choose b rest (b == byte "[") (quoted_name (before_bracket rest)) (quoted_name (before_quote b rest))
    (λ f. quoted_name_holds b rest (byte "]") (before_bracket rest) e (omega arith) (bracket_at rest))
    (λ f. quoted_name_holds b rest b (before_quote b rest) e (quote_small b e) (quote_at b rest)))

compared : (t : Bool) (b : ℕ) (rest : List ℕ) → is_quote b ≡ false → (t && begins_with (byte "=") rest) ≡ true → Holds b rest (token Sign 2)
compared t b [] e f = absurd (none (and_both t false f).1)
  where
    none : false ≡ true → ⊥
    none g = cc
compared t b (c ∷ r) e f = plain_piece Sign b (c ∷ r) 2 (λ g. cc) (λ g. absurd cc) e (two_ends b c r (equals_small c (and_both t (c == byte "=") f).1))

sign_holds : (b : ℕ) (rest : List ℕ) → is_quote b ≡ false → Holds b rest (sign b rest)
unfolding sign
sign_holds b rest e =
    choose b rest (((b == byte "<") || (b == byte ">")) && begins_with (byte "=") rest) (token Sign 2) _ (compared _ b rest e)
    (λ f. choose b rest (is_sign b) (token Sign 1) None (λ g. plain_piece Sign b rest 1 (λ h. cc) (λ h. absurd cc) e (one_ends b rest (sign_small b g))) (λ g. tt))

pub pieces : (b : ℕ) (rest : List ℕ) → Holds b rest (piece_of b rest)
unfolding piece_of
pieces b rest =
    choose b rest (is_ascii_whitespace b) (gap 1) _ (λ e. gap_piece b rest 1 (one_ends b rest (blank_small b e)))
    (λ e. choose b rest ((b == byte "-") && begins_with (byte "-") rest) (gap (1 + prefix_len is_not_line_feed rest)) _
    (λ f. gap_piece b rest _ (run_ends is_not_line_feed line_feed_small b rest))
    (λ f. choose b rest ((b == byte "/") && begins_with (byte "*") rest) (gap (2 + through_comment (drop 1 rest))) _ (comment_piece (b == byte "/") b rest)
    (λ g. choose b rest (((b == byte "x") || (b == byte "X")) && begins_with (byte "'") rest) (blob (before_blob_end (drop 1 rest))) _ (blob_holds b rest)
    (λ h. choose b rest (begins_word b) (token Word (1 + prefix_len continues_word rest)) _ (word_holds b rest)
    (λ i. choose b rest (is_ascii_digit b) (number (b ∷ rest)) _ (number_holds b rest)
    (λ j. choose b rest (is_quote b) (quotation b rest) (sign b rest) (quotation_holds b rest) (sign_holds b rest)))))))
