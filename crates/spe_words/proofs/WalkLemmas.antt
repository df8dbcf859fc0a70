-- What `clap` makes of the words of a line is what the reader makes of them.
use Rattle.std.proofs.Common.{◌≡◌, ◌≢◌, ◌∙◌, ℕ, Bool, cond, true, false, refl, sym, ap, ap₂, subst, List, [], ◌∷◌, ◌++◌, length, Option, Some, None, true≢false, drop, arith, rules as std_rules, ◌==◌}
use Rattle.std.specs.List.{fold}
use Rattle.std.specs.Prelude.{encode_utf8, option_and_then, slice_get}
use Rattle.std.specs.Str.{encode_utf8_all}
use Rattle.std.proofs.lemmas.Str.{encodes-IsAscii, encodes-chars}
use Rattle.std.proofs.lemmas.Option.{none-some}
use Rattle.std.proofs.lemmas.Bool.{eqb-true}
use Rattle.std.specs.Option.{option_map_or, unwrap_or}
use Rattle.std.specs.Str.{IsUtf8, bytes_eq, chars}
use Rattle.clap.specs.Lexer.{long_of, short_of, short_of_rest}
use Rattle.clap.specs.Kinds.{Kinds, or_else}
use Rattle.clap.specs.Faults.{bundle_fault, bundle_step_fault, flag_word_fault, flags_fault, long_fault, other_fault, settle_fault, short_fault, step_fault, walk_fault, word_fault}
use Rattle.clap.specs.Walk.{Held, Row, Rule, Step, Waiting, Walk, after_flag, after_step, arg_by_long, arg_by_short, idle, long_met, long_or_other, plain_word, settled, short_or_plain, subcommand_met, subcommand_or_other, trailing, walked, word_met}
use Rattle.clap.specs.Walk.{option as waits_for, positional as waits_for_more}
use Rattle.clap.specs.Simple.{Shape}
use Rattle.spe_words.specs.Line.{Text}
use Rattle.spe_words.proofs.ReaderLemmas.{dashes}
use Rattle.spe_words.proofs.RowsLemmas.{Entry, values_at, values_in}
use Rattle.spe_words.proofs.SyntaxLemmas.{built_shape, by_short, rules}

-- what is held
abbrev pub hold : List Row → Option (Text × List Text) → Held
hold rows pending = record { rows = rows; pending = pending; skip = 0 }

-- the walk before a word
abbrev pub at : Held → Waiting → Bool → Walk
at h waiting past = record { held = h; waiting = waiting; position = 1; is_trailing = past; stopped = None }

-- no kinds are some kinds
pub some≢none : {X : Type 0} (x : X) (xs : List X) → x ∷ xs ≢ []
some≢none x xs e = true≢false (ap (λ l. Rattle.std.specs.List.list_any (λ _. true) l) e)

pub first_fails : (a b : Kinds) → a ≢ [] → or_else a b ≢ []
first_fails [] b fails e = fails refl
first_fails (k ∷ ks) b fails e = some≢none k ks e

pub second_fails : (a b : Kinds) → b ≢ [] → or_else a b ≢ []
second_fails [] b fails e = fails e
second_fails (k ∷ ks) b fails e = some≢none k ks e

pub or_else-assoc : (a b c : Kinds) → or_else (or_else a b) c ≡ or_else a (or_else b c)
or_else-assoc [] b c = refl
or_else-assoc (k ∷ ks) b c = refl

-- the kinds of error are none and the rows have the entries more, or there are such kinds
abbrev pub Comes : Option (List Entry) → Kinds → List Row → List Row → Type 0
Comes None kinds before after = kinds ≢ []
Comes (Some entries) kinds before after =
    (kinds ≡ []) × ((id : Text) → values_at id after ≡ values_at id before ++ values_in id entries)

-- ---- a bundle of flags

some_is : {X : Type 0} {a b : X} → Some a ≡ Some b → a ≡ b
some_is {X} {a} {b} e = ap (λ o. unwrap_or o a) e

flags_of : (word flags : Text) → short_of word ≡ Some flags → (x : ℕ) × (xs : Text) × (word ≡ 45 ∷ x ∷ xs) × (flags ≡ x ∷ xs)
flags_of [] flags e = absurd (none-some _ e)
flags_of (b ∷ bs) flags e = go (b == 45) refl bs e
  where
    inner : (c : Bool) (x : ℕ) (xs : Text) → b ≡ 45 → cond c None (Some (x ∷ xs)) ≡ Some flags → (y : ℕ) × (ys : Text) × (b ∷ x ∷ xs ≡ 45 ∷ y ∷ ys) × (flags ≡ y ∷ ys)
    inner true x xs is e = absurd (none-some _ e)
    inner false x xs is e = (x, xs, ap (λ n. n ∷ x ∷ xs) is, sym (some_is e))

    go : (c : Bool) → (b == 45) ≡ c → (bs : Text) → option_and_then short_of_rest (cond c (Some bs) None) ≡ Some flags
        → (x : ℕ) × (xs : Text) × (b ∷ bs ≡ 45 ∷ x ∷ xs) × (flags ≡ x ∷ xs)
    go false is bs e = absurd (none-some _ e)
    go true is [] e = absurd (none-some _ e)
    go true is (x ∷ xs) e = inner (x == 45) x xs (eqb-true b 45 is) e

first_flag : (x : ℕ) (xs : Text) → IsUtf8 (45 ∷ x ∷ xs) → (c : ℕ) × (slice_get (chars (x ∷ xs)) 0 ≡ Some c)
unfolding chars
first_flag x xs utf8 = go (chars (x ∷ xs)) refl
  where
    go : (cs : List ℕ) → chars (x ∷ xs) ≡ cs → (c : ℕ) × (slice_get cs 0 ≡ Some c)
    go [] is =
        let all : 45 ∷ [] ≡ 45 ∷ x ∷ xs = sym (encodes-IsAscii (45 ∷ []) (search std_rules)) ∙ ap (λ cs. encode_utf8_all (45 ∷ cs)) (sym is) ∙ encodes-chars (45 ∷ x ∷ xs) utf8 in
        absurd (omega (arith, ap length all))
    go (c ∷ cs) is = (c, refl)

bundle_fails : (c : List Rule) → ((x : ℕ) → arg_by_short c x ≡ None) → (h : Held) (x : ℕ) (xs : Text) (first : ℕ) → slice_get (chars (x ∷ xs)) 0 ≡ Some first
    → flags_fault c false (length (x ∷ xs)) (x ∷ xs) 0 h ≢ []
unfolding flags_fault
bundle_fails c short h x xs first is e =
    some≢none _ _ (sym (
    ap (λ o. bundle_step_fault c false o (x ∷ xs) 0 h (flags_fault c false (length xs))) is
    ∙ ap (λ o. short_fault c false o (drop (length (encode_utf8 first)) (x ∷ xs)) h (flags_fault c false (length xs) (drop (length (encode_utf8 first)) (x ∷ xs)) 0)) (short first)
    ) ∙ e)

module _ (command : Text) (names : List Text) where
  abbrev pub shape : Shape
  shape = built_shape command names

  -- the kinds of error of a walk over the words, and the rows after it
  abbrev pub kinds : Walk → List Text → Kinds
  kinds w words = or_else (walk_fault shape [] w words) (settle_fault (rules names) false (fold (walked (rules names) []) w words).held)

  abbrev pub rows : Walk → List Text → List Row
  rows w words = (settled (rules names) (fold (walked (rules names) []) w words).held).rows

  -- one word
  turn : (h : Held) (waiting : Waiting) (past : Bool) (word : Text) (rest : List Text) (met : Held × Step)
      → word_met (rules names) [] past waiting 1 word h ≡ met
      → (kinds (at h waiting past) (word ∷ rest)
      ≡ or_else (word_fault shape [] past waiting word h) (or_else (step_fault shape 1 met.0 met.1)
      (kinds (after_step (rules names) word (at h waiting past) met.0 met.1) rest)))
      × (rows (at h waiting past) (word ∷ rest) ≡ rows (after_step (rules names) word (at h waiting past) met.0 met.1) rest)
  unfolding walk_fault walked
  turn h waiting past word rest met is =
      let w = at h waiting past in
      let after : Held × Step → Walk = λ m. after_step (rules names) word w m.0 m.1 in
      let f = word_fault shape [] past waiting word h in (
        ap (λ (m : Held × Step). or_else (or_else (or_else f (step_fault shape 1 m.0 m.1)) (walk_fault shape [] (after m) rest))
            (settle_fault (rules names) false (fold (walked (rules names) []) (after m) rest).held)) is
            ∙ or_else-assoc (or_else f (step_fault shape 1 met.0 met.1)) _ _ ∙ or_else-assoc f (step_fault shape 1 met.0 met.1) _,
        ap (λ (m : Held × Step). rows (after m) rest) is,
      )

  module _ (h : Held) (waiting : Waiting) (past : Bool) (word : Text) (rest : List Text) where
    -- the word passes, and leads to another walk
    pub goes_on : (met : Held × Step) (w : Walk) (o : Option (List Entry)) (before : List Row) → word_met (rules names) [] past waiting 1 word h ≡ met
        → word_fault shape [] past waiting word h ≡ [] → step_fault shape 1 met.0 met.1 ≡ [] → after_step (rules names) word (at h waiting past) met.0 met.1 ≡ w
        → Comes o (kinds w rest) before (rows w rest) → Comes o (kinds (at h waiting past) (word ∷ rest)) before (rows (at h waiting past) (word ∷ rest))
    goes_on met w o before is passes steps leads comes =
        let t = turn h waiting past word rest met is in
        let k : kinds (at h waiting past) (word ∷ rest) ≡ kinds w rest = t.0 ∙ ap₂ (λ x y. or_else x (or_else y (kinds (after_step (rules names) word (at h waiting past) met.0 met.1) rest))) passes steps
        ∙ ap (λ v. kinds v rest) leads in
        let r : rows (at h waiting past) (word ∷ rest) ≡ rows w rest = t.1 ∙ ap (λ v. rows v rest) leads in
        subst (λ (p : Kinds × List Row). Comes o p.0 before p.1) (sym (λ i. (k i, r i))) comes

    -- the word fails
    pub fails : word_fault shape [] past waiting word h ≢ [] → kinds (at h waiting past) (word ∷ rest) ≢ []
    fails bad e = first_fails _ _ bad (sym (turn h waiting past word rest _ refl).0 ∙ e)

    pub step_fails : (met : Held × Step) → word_met (rules names) [] past waiting 1 word h ≡ met → step_fault shape 1 met.0 met.1 ≢ []
        → kinds (at h waiting past) (word ∷ rest) ≢ []
    step_fails met is bad e = second_fails (word_fault shape [] past waiting word h) _ (first_fails _ _ bad) (sym (turn h waiting past word rest met is).0 ∙ e)

  -- ---- a word before `--`

  no_subcommand : (waiting : Waiting) (word : Text) → subcommand_met [] waiting word ≡ None
  no_subcommand idle word = refl
  no_subcommand (waits_for id) word = refl
  no_subcommand waits_for_more word = refl

  met_is : (h : Held) (waiting : Waiting) (word : Text) → word_met (rules names) [] false waiting 1 word h
      ≡ cond (bytes_eq word dashes) (h, trailing 1) (long_or_other (rules names) waiting word (long_of word) h)
  met_is h waiting word = ap (λ o. subcommand_or_other (rules names) o waiting 1 word h) (no_subcommand waiting word)

  fault_is : (h : Held) (waiting : Waiting) (word : Text) → word_fault shape [] false waiting word h
      ≡ cond (bytes_eq word dashes) [] (flag_word_fault (rules names) false (long_of word) word h)
  fault_is h waiting word = ap (λ o. other_fault shape o word h) (no_subcommand waiting word)

  -- a word of one kind
  module _ (h : Held) (waiting : Waiting) (word : Text) where
    pub dashes_met : bytes_eq word dashes ≡ true
        → (word_met (rules names) [] false waiting 1 word h ≡ (h, trailing 1)) × (word_fault shape [] false waiting word h ≡ [])
    dashes_met d = (
      met_is h waiting word ∙ ap (λ b. cond b (h, trailing 1) (long_or_other (rules names) waiting word (long_of word) h)) d,
      fault_is h waiting word ∙ ap (λ b. cond b [] (flag_word_fault (rules names) false (long_of word) word h)) d,
    )

    other_met : (long : Option (Text × Option Text)) → bytes_eq word dashes ≡ false → long_of word ≡ long
        → (word_met (rules names) [] false waiting 1 word h ≡ long_or_other (rules names) waiting word long h)
        × (word_fault shape [] false waiting word h ≡ flag_word_fault (rules names) false long word h)
    other_met long d l = (
      met_is h waiting word ∙ ap₂ (λ b o. cond b (h, trailing 1) (long_or_other (rules names) waiting word o h)) d l,
      fault_is h waiting word ∙ ap₂ (λ b o. cond b [] (flag_word_fault (rules names) false o word h)) d l,
    )

    pub long_met_as : (name : Text) (v : Option Text) (found : Option Rule) → bytes_eq word dashes ≡ false → long_of word ≡ Some (name, v) → arg_by_long (rules names) name ≡ found
        → (word_met (rules names) [] false waiting 1 word h
        ≡ after_flag (rules names) waiting word (long_met (rules names) found v h).0 (long_met (rules names) found v h).1)
        × (word_fault shape [] false waiting word h ≡ long_fault (rules names) false found v h)
    long_met_as name v found d l is =
        let o = other_met (Some (name, v)) d l in (
          o.0 ∙ ap (λ f. after_flag (rules names) waiting word (long_met (rules names) f v h).0 (long_met (rules names) f v h).1) is,
          o.1 ∙ ap (λ f. long_fault (rules names) false f v h) is,
        )

    pub plain_met : bytes_eq word dashes ≡ false → long_of word ≡ None → short_of word ≡ None
        → (word_met (rules names) [] false waiting 1 word h ≡ plain_word (rules names) waiting word h) × (word_fault shape [] false waiting word h ≡ [])
    plain_met d l s =
        let o = other_met None d l in
        (o.0 ∙ ap (λ f. short_or_plain (rules names) waiting word f h) s, o.1 ∙ ap (λ f. option_map_or (λ flags. bundle_fault (rules names) false flags h) f []) s)

  -- a bundle of flags has a first flag, which no argument has
  pub short_fails : (rows : List Row) (pending : Option (Text × List Text)) (waiting : Waiting) (word flags : Text) → bytes_eq word dashes ≡ false → long_of word ≡ None
      → short_of word ≡ Some flags → IsUtf8 word → word_fault shape [] false waiting word (hold rows pending) ≢ []
  short_fails rows pending waiting word flags d l s utf8 e =
      let o = other_met (hold rows pending) waiting word None d l in
      let f = flags_of word flags s in
      let first = first_flag f.0 f.1 (subst IsUtf8 f.2 utf8) in
      bundle_fails (rules names) (by_short names) (hold rows pending) f.0 f.1 first.0 first.1
      (sym (o.1 ∙ ap (λ g. option_map_or (λ t. bundle_fault (rules names) false t (hold rows pending)) g []) (s ∙ ap Some f.3)) ∙ e)
