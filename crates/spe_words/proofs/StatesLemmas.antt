-- The walk over all words of a line, from each state between two words.
use Rattle.std.proofs.Common.{◌≡◌, ◌≢◌, ◌∙◌, ◌&&◌, ◌||◌, Bool, cond, true, false, refl, sym, ap, subst, List, [], ◌∷◌, ◌++◌, nat_lt, map, Option, Some, None, append-nil, append_assoc}
use Rattle.std.specs.List.{filter}
use Rattle.std.specs.Str.{IsUtf8, bytes_eq}
use Rattle.clap.specs.Lexer.{long_of, short_of}
use Rattle.clap.specs.Kinds.{Kinds, or_else}
use Rattle.clap.specs.Faults.{long_fault, use_fault, positional_fault, settle_fault, walk_fault, word_fault}
use Rattle.std.specs.Option.{option_map_or}
use Rattle.clap.specs.Walk.{Held, arg_by_id, Row, Waiting, idle, is_pending, next, plain_word, positional_held, pushed, settled, settled_rows, trailing, used, value, word_met}
use Rattle.clap.specs.Walk.{option as waits_for, option_word as value_met, used_by_id, positional as waits_for_more}
use Rattle.spe_words.specs.Line.{Text, is_among}
use Rattle.spe_words.specs.Found.{are_names}
use Rattle.spe_words.proofs.ReaderLemmas.{dashes, read, then, value_read, with_attached, word_read, words_id}
use Rattle.spe_words.proofs.RowsLemmas.{Entry, itself, values_at, values_at-with_value, values_in}
use Rattle.spe_words.proofs.SyntaxLemmas.{by_id, by_long, option, positional, rules}
use Rattle.spe_words.proofs.WalkLemmas.{Comes, at, dashes_met, fails, first_fails, goes_on, hold, kinds, long_met_as, plain_met, rows, shape, short_fails, some≢none, step_fails}

-- the words are texts
abbrev pub AreTexts : List Text → Type 0
AreTexts [] = Unit {0}
AreTexts (word ∷ rest) = IsUtf8 word × AreTexts rest

-- an entry more
entry_first : (id v x : Text) (entries : List Entry) → cond (bytes_eq id x) (v ∷ []) [] ++ values_in x entries ≡ values_in x ((id, v) ∷ entries)
entry_first id v x entries = go (bytes_eq id x)
  where
    go : (b : Bool) → cond b (v ∷ []) [] ++ values_in x entries ≡ map (λ (e : Entry). e.1) (cond b ((id, v) ∷ filter (λ e. bytes_eq e.0 x) entries) (filter (λ e. bytes_eq e.0 x) entries))
    go true = refl
    go false = refl

comes_more : (id v : Text) (o : Option (List Entry)) (k : Kinds) (before then_before after : List Row)
    → ((x : Text) → values_at x then_before ≡ values_at x before ++ cond (bytes_eq id x) (v ∷ []) []) → Comes o k then_before after → Comes (then id v o) k before after
comes_more id v None k before then_before after step comes = comes
comes_more id v (Some entries) k before then_before after step comes = (
  comes.0,
  λ x. comes.1 x ∙ ap (λ (l : List Text). l ++ values_in x entries) (step x) ∙ append_assoc (values_at x before) (cond (bytes_eq id x) (v ∷ []) []) (values_in x entries)
      ∙ ap (λ (l : List Text). values_at x before ++ l) (entry_first id v x entries),
)

and_false : (b : Bool) → (b && false) ≡ false
and_false true = refl
and_false false = refl

module _ (command : Text) (names : List Text) where
  abbrev IsSettled : List Row → Option (Text × List Text) → List Row → Type 0
  IsSettled before pending after = (settle_fault (rules names) false (hold before pending) ≡ []) × (settled_rows (rules names) pending before ≡ after)

  abbrev ks : Held → Waiting → Bool → List Text → Kinds
  ks h waiting past words = kinds command names (at h waiting past) words

  abbrev rs : Held → Waiting → Bool → List Text → List Row
  rs h waiting past words = rows command names (at h waiting past) words

  -- a value of the positional, or of an option
  one_more : (v : Text) (before : List Row) (x : Text) → values_at x (used positional (v ∷ []) before) ≡ values_at x before ++ cond (bytes_eq words_id x) (v ∷ []) []
  one_more v before x = values_at-with_value words_id v _ refl refl x before

  option_more : (name v : Text) (before : List Row) (x : Text) → values_at x (used (option name) (v ∷ []) before) ≡ values_at x before ++ cond (bytes_eq name x) (v ∷ []) []
  option_more name v before x = values_at-with_value name v _ refl refl x before

  -- ---- positionals

  settles_first : (h : Held) → positional_fault (rules names) false positional h ≡ settle_fault (rules names) false h
  settles_first h = ap (λ b. cond b [] (settle_fault (rules names) false h)) (and_false _)

  held_next : (before : List Row) (pending : Option (Text × List Text)) (word : Text)
      → positional_held (rules names) positional word (hold before pending) ≡ hold (settled_rows (rules names) pending before) (Some (words_id, word ∷ []))
  held_next before pending word =
      ap (λ b. pushed words_id word (cond b (hold before pending) (settled (rules names) (hold before pending)))) (and_false (is_pending positional pending))

  -- after a positional
  settled_next : (before after : List Row) (pending : Option (Text × List Text)) (word : Text) → IsSettled before pending after
      → IsSettled (settled_rows (rules names) pending before) (Some (words_id, word ∷ [])) (used positional (word ∷ []) after)
  settled_next before after pending word is = (refl, ap (used positional (word ∷ [])) is.1)

  -- a positional
  positional_word : (before after : List Row) (pending : Option (Text × List Text)) (waiting : Waiting) (past : Bool) (word : Text) (rest : List Text) (o : Option (List Entry))
      → IsSettled before pending after → word_met (rules names) [] past waiting 1 word (hold before pending) ≡ (hold before pending, value)
      → word_fault (shape command names) [] past waiting word (hold before pending) ≡ []
      → Comes o (ks (hold (settled_rows (rules names) pending before) (Some (words_id, word ∷ []))) waits_for_more (past || false) rest)
      (used positional (word ∷ []) after)
      (rs (hold (settled_rows (rules names) pending before) (Some (words_id, word ∷ []))) waits_for_more (past || false) rest)
      → Comes (then words_id word o) (ks (hold before pending) waiting past (word ∷ rest)) after (rs (hold before pending) waiting past (word ∷ rest))
  positional_word before after pending waiting past word rest o is met passes comes =
      goes_on command names (hold before pending) waiting past word rest (hold before pending, value) _ (then words_id word o) after met passes
      (settles_first (hold before pending) ∙ is.0) (ap (λ h. at h waits_for_more (past || false)) (held_next before pending word))
      (comes_more words_id word o _ after (used positional (word ∷ []) after) _ (one_more word after) comes)

  -- ---- after `--`

  abbrev all_words : List Text → Option (List Entry)
  all_words words = Some (map (λ v. (words_id, v)) words)

  at_end : (before after : List Row) (pending : Option (Text × List Text)) (waiting : Waiting) (past : Bool) → IsSettled before pending after
      → Comes (Some []) (ks (hold before pending) waiting past []) after (rs (hold before pending) waiting past [])
  unfolding walk_fault
  at_end before after pending waiting past is = (is.0, λ x. ap (values_at x) is.1 ∙ sym (append-nil (values_at x after)))

  after_dashes : (words : List Text) (before after : List Row) (pending : Option (Text × List Text)) (waiting : Waiting) → IsSettled before pending after
      → Comes (all_words words) (ks (hold before pending) waiting true words) after (rs (hold before pending) waiting true words)
  after_dashes [] before after pending waiting is = at_end before after pending waiting true is
  after_dashes (word ∷ rest) before after pending waiting is =
      positional_word before after pending waiting true word rest (all_words rest) is refl refl
      (after_dashes rest _ (used positional (word ∷ []) after) _ waits_for_more (settled_next before after pending word is))

  -- an option without its value
  never_settles : (words : List Text) (h : Held) (waiting : Waiting) → settle_fault (rules names) false h ≢ [] → ks h waiting true words ≢ []
  unfolding walk_fault
  never_settles [] h waiting bad = bad
  never_settles (word ∷ rest) h waiting bad =
      step_fails command names h waiting true word rest (h, value) refl (λ e. bad (sym (settles_first h) ∙ e))

  -- ---- before `--`, where nothing waits for a value

  abbrev IsFree : Waiting → Type 0
  IsFree waiting = (word : Text) (h : Held) → plain_word (rules names) waiting word h ≡ (h, value)

  -- what the words are in each state
  abbrev Reads : Option Text → List Text → Type 0
  Reads None words = (before after : List Row) (pending : Option (Text × List Text)) (waiting : Waiting) → IsFree waiting → IsSettled before pending after
      → Comes (read names None words) (ks (hold before pending) waiting false words) after (rs (hold before pending) waiting false words)
  Reads (Some name) words = (before : List Row) → is_among names name ≡ true
      → Comes (read names (Some name) words) (ks (hold before (Some (name, []))) (waits_for name) false words) before (rs (hold before (Some (name, []))) (waits_for name) false words)

  module _ (word : Text) (rest : List Text) (utf8 : IsUtf8 word) (then_none : Reads None rest) (then_some : (name : Text) → Reads (Some name) rest) (before after : List Row)
      (pending : Option (Text × List Text)) (waiting : Waiting) (free : IsFree waiting) (is : IsSettled before pending after) where
    abbrev h : Held
    h = hold before pending

    -- the word is read as o
    abbrev AreReadAs : Option (List Entry) → Type 0
    AreReadAs o = Comes o (ks h waiting false (word ∷ rest)) after (rs h waiting false (word ∷ rest))

    option_word : (name : Text) (v : Option Text) → bytes_eq word dashes ≡ false → long_of word ≡ Some (name, v) → is_among names name ≡ true
        → AreReadAs (with_attached name v (read names None rest) (λ n. read names (Some n) rest))
    option_word name (Some v) d l among =
        let m = long_met_as command names h waiting word name (Some v) (Some (option name)) d l (by_long names name ∙ ap (λ b. cond b (Some (option name)) None) among) in
        goes_on command names h waiting false word rest (hold (used (option name) (v ∷ []) (settled_rows (rules names) pending before)) None, next idle) _ (then name v (read names None rest)) after
        m.0 (m.1 ∙ ap (λ k. or_else k []) is.0) refl refl
        (comes_more name v (read names None rest) _ after (used (option name) (v ∷ []) after) _ (option_more name v after)
        (then_none (used (option name) (v ∷ []) (settled_rows (rules names) pending before)) (used (option name) (v ∷ []) after) None idle (λ _ _. refl)
        (refl, ap (used (option name) (v ∷ [])) is.1)))
    option_word name None d l among =
        let m = long_met_as command names h waiting word name None (Some (option name)) d l (by_long names name ∙ ap (λ b. cond b (Some (option name)) None) among) in
        goes_on command names h waiting false word rest (hold (settled_rows (rules names) pending before) (Some (name, [])), next (waits_for name)) _ (read names (Some name) rest) after
        m.0 (m.1 ∙ is.0) refl refl
        (subst (λ (b : List Row). Comes (read names (Some name) rest) (ks (hold (settled_rows (rules names) pending before) (Some (name, []))) (waits_for name) false rest) b
        (rs (hold (settled_rows (rules names) pending before) (Some (name, []))) (waits_for name) false rest)) is.1
        (then_some name (settled_rows (rules names) pending before) among))

    free_word : (d : Bool) → bytes_eq word dashes ≡ d → (long : Option (Text × Option Text)) → long_of word ≡ long → (flags : Option Text) → short_of word ≡ flags
        → AreReadAs (cond d (all_words rest) (word_read names word long flags (read names None rest) (λ n. read names (Some n) rest)))
    free_word true d long l flags s =
        let m = dashes_met command names h waiting word d in
        goes_on command names h waiting false word rest (h, trailing 1) (at h waiting true) (all_words rest) after m.0 m.1 refl refl (after_dashes rest before after pending waiting is)
    free_word false d (Some p) l flags s = go (is_among names p.0) refl
      where
        go : (b : Bool) → is_among names p.0 ≡ b → AreReadAs (cond b (with_attached p.0 p.1 (read names None rest) (λ n. read names (Some n) rest)) None)
        go true among = option_word p.0 p.1 d l among
        go false among =
            let m = long_met_as command names h waiting word p.0 p.1 None d l (by_long names p.0 ∙ ap (λ b. cond b (Some (option p.0)) None) among) in
            fails command names h waiting false word rest (λ e. some≢none _ _ (sym m.1 ∙ e))
    free_word false d None l (Some flags) s = fails command names h waiting false word rest (short_fails command names before pending waiting word flags d l s utf8)
    free_word false d None l None s =
        let m = plain_met command names h waiting word d l s in
        positional_word before after pending waiting false word rest (read names None rest) is (m.0 ∙ free word h) m.1
        (then_none _ (used positional (word ∷ []) after) _ waits_for_more (λ _ _. refl) (settled_next before after pending word is))

  -- ---- where an option waits for its value

  module _ (are : are_names names ≡ true) (name : Text) (among : is_among names name ≡ true) (before : List Row) where
    abbrev waiting_held : Held
    waiting_held = hold before (Some (name, []))

    found : arg_by_id (rules names) name ≡ Some (option name)
    found = by_id names name are among

    no_value : settle_fault (rules names) false waiting_held ≢ []
    no_value e = some≢none _ _ (sym (ap (λ o. option_map_or (λ a. use_fault false a [] before) o []) found) ∙ e)

    module _ (word : Text) (rest : List Text) (utf8 : IsUtf8 word) (then_none : Reads None rest) where
      abbrev IsReadAs : Option (List Entry) → Type 0
      IsReadAs o = Comes o (ks waiting_held (waits_for name) false (word ∷ rest)) before (rs waiting_held (waits_for name) false (word ∷ rest))

      long_fails : (p : Text × Option Text) → bytes_eq word dashes ≡ false → long_of word ≡ Some p → IsReadAs None
      long_fails p d l = go (is_among names p.0) refl
        where
          known : (v : Option Text) → long_fault (rules names) false (Some (option p.0)) v waiting_held ≢ []
          known (Some v) = first_fails _ _ no_value
          known None = no_value

          go : (b : Bool) → is_among names p.0 ≡ b → IsReadAs None
          go true is =
              let m = long_met_as command names waiting_held (waits_for name) word p.0 p.1 (Some (option p.0)) d l (by_long names p.0 ∙ ap (λ b. cond b (Some (option p.0)) None) is) in
              fails command names waiting_held (waits_for name) false word rest (λ e. known p.1 (sym m.1 ∙ e))
          go false is =
              let m = long_met_as command names waiting_held (waits_for name) word p.0 p.1 None d l (by_long names p.0 ∙ ap (λ b. cond b (Some (option p.0)) None) is) in
              fails command names waiting_held (waits_for name) false word rest (λ e. some≢none _ _ (sym m.1 ∙ e))

      waited_word : (d : Bool) → bytes_eq word dashes ≡ d → (long : Option (Text × Option Text)) → long_of word ≡ long → (flags : Option Text) → short_of word ≡ flags
          → IsReadAs (value_read name word d long flags (read names None rest))
      waited_word true d long l flags s =
          let m = dashes_met command names waiting_held (waits_for name) word d in
          goes_on command names waiting_held (waits_for name) false word rest (waiting_held, trailing 1) (at waiting_held (waits_for name) true) None before m.0 m.1 refl refl
          (never_settles rest waiting_held (waits_for name) no_value)
      waited_word false d (Some p) l flags s = long_fails p d l
      waited_word false d None l (Some flags) s =
          fails command names waiting_held (waits_for name) false word rest (short_fails command names before (Some (name, [])) (waits_for name) word flags d l s utf8)
      waited_word false d None l None s =
          let m = plain_met command names waiting_held (waits_for name) word d l s in
          goes_on command names waiting_held (waits_for name) false word rest (hold before (Some (name, word ∷ [])), next idle) _ (then name word (read names None rest)) before
          (
          m.0 ∙ ap (λ f. let p = value_met f name word waiting_held in (p.0, next p.1)) found
          ∙ ap (λ b. (hold before (Some (name, word ∷ [])), next (cond (nat_lt (cond b 1 0) 1) (waits_for name) idle))) (itself name)
          ) m.1 refl refl
          (comes_more name word (read names None rest) _ before (used (option name) (word ∷ []) before) _ (option_more name word before)
          (then_none before (used (option name) (word ∷ []) before) (Some (name, word ∷ [])) idle (λ _ _. refl)
          (ap (λ o. option_map_or (λ a. use_fault false a (word ∷ []) before) o []) found, ap (λ o. used_by_id o (word ∷ []) before) found)))

  -- ---- all words

  no_words : (are : are_names names ≡ true) (state : Option Text) → Reads state []
  unfolding walk_fault read
  no_words are None = λ before after pending waiting free is. at_end before after pending waiting false is
  no_words are (Some name) = λ before among. no_value are name among before

  one_word : (are : are_names names ≡ true) (state : Option Text) (word : Text) (rest : List Text) → IsUtf8 word → Reads None rest → ((name : Text) → Reads (Some name) rest)
      → Reads state (word ∷ rest)
  unfolding read
  one_word are None word rest utf8 then_none then_some =
      λ before after pending waiting free is.
      free_word word rest utf8 then_none then_some before after pending waiting free is (bytes_eq word dashes) refl (long_of word) refl (short_of word) refl
  one_word are (Some name) word rest utf8 then_none then_some =
      λ before among.
      waited_word are name among before word rest utf8 then_none (bytes_eq word dashes) refl (long_of word) refl (short_of word) refl

  pub are_read : are_names names ≡ true → (state : Option Text) (words : List Text) → AreTexts words → Reads state words
  are_read are state [] texts = no_words are state
  are_read are state (word ∷ rest) texts =
      one_word are state word rest texts.0 (are_read are None rest texts.1) (λ name. are_read are (Some name) rest texts.1)
