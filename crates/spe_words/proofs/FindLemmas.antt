-- What `clap` answers on the words of a line.
use Rattle.std.proofs.Common.{◌≡◌, ◌≢◌, ◌∙◌, ◌&&◌, ◌||◌, Bool, cond, not, true, false, suc, refl, sym, ap, ap₂, subst, arith, List, [], ◌∷◌, drop, Option, Some, None, Ok, Err, inl, inr, All}
use Rattle.std.specs.List.{fold, list_any}
use Rattle.std.specs.Option.{unwrap_or}
use Rattle.std.specs.Str.{IsUtf8}
use Rattle.clap.specs.Kinds.{FailsBy, HasKind, IsAmong, Kinds, check_kinds, or_else}
use Rattle.clap.specs.Faults.{built_fault, check_fault, default_fault, defaults_fault, given_default_fault, fault_of, is_simple_and_free, level_fault, settle_fault, walk_fault}
use Rattle.clap.specs.Matches.{found_of}
use Rattle.clap.specs.Simple.{App, HasMatchesOf, Shape, argument_words, matches_of, names_of}
use Rattle.clap.specs.Takes.{is_given}
use Rattle.clap.specs.Values.{kind_of}
use Rattle.clap.specs.Walk.{Row, Rule, default_rows, finished, has_row, idle, is_empty, reading_by, nothing_held, rows_after, rows_of, settled, walk, walk_from, with_default}
use Rattle.clap.specs.declared.error.Error.{Error}
use Rattle.clap.specs.declared.error.kind.ErrorKind.TheVariants.{OutOfMemory}
use Rattle.clap.specs.declared.parser.matches.ArgMatches.{ArgMatches}
use Rattle.clap.proofs.FaultLemmas.{leaf_fault}
use Rattle.clap.proofs.WalkLemmas.{both, raw_values-rows}
use Rattle.spe_words.specs.Found.{ShowsLines, are_names, found_values}
use Rattle.spe_words.specs.Line.{Line, Spells, Text}
use Rattle.spe_words.specs.Syntax.{syntax_of}
use Rattle.spe_words.proofs.LineLemmas.{finds_read, unread}
use Rattle.spe_words.proofs.ReaderLemmas.{read}
use Rattle.spe_words.proofs.RowsLemmas.{Entry, values_at}
use Rattle.spe_words.proofs.StatesLemmas.{AreTexts, are_read}
use Rattle.spe_words.proofs.SyntaxLemmas.{built_is, built_shape, is_understood, option, options, positional, rules, syntax_is}
use Rattle.spe_words.proofs.WalkLemmas.{Comes}

-- ---- no argument has a default, and none is required

without_default : (rows : List Row) (a : Rule) → a.defaults ≡ [] → with_default rows a ≡ rows
without_default rows a none = ap (λ ds. cond (has_row a.id rows) rows (default_rows a.id (reading_by a) ds rows)) none ∙ go (has_row a.id rows)
  where
    go : (b : Bool) → cond b rows rows ≡ rows
    go true = refl
    go false = refl

no_default_fault : (rows : List Row) (a : Rule) → a.defaults ≡ [] → default_fault rows a ≡ []
no_default_fault rows a none = ap (λ ds. cond (has_row a.id rows || is_empty ds) [] (given_default_fault a ds)) none ∙ go (has_row a.id rows)
  where
    go : (b : Bool) → cond (b || true) [] (given_default_fault a []) ≡ []
    go true = refl
    go false = refl

or_else-nil : (k : Kinds) → or_else k [] ≡ k
or_else-nil [] = refl
or_else-nil (x ∷ xs) = refl

same_rows : (names : List Text) (rows : List Row) → fold with_default rows (options names) ≡ rows
same_rows [] rows = refl
same_rows (name ∷ names) rows = ap (λ rs. fold with_default rs (options names)) (without_default rows (option name) refl) ∙ same_rows names rows

finished_rows : (names : List Text) (rows : List Row) → fold with_default rows (rules names) ≡ rows
finished_rows names rows = ap (λ rs. fold with_default rs (options names)) (without_default rows positional refl) ∙ same_rows names rows

no_option_fault : (names : List Text) (rows : List Row) → defaults_fault rows (options names) ≡ []
unfolding defaults_fault
no_option_fault [] rows = refl
no_option_fault (name ∷ names) rows =
    ap (λ k. or_else k (defaults_fault (with_default rows (option name)) (options names))) (no_default_fault rows (option name) refl)
    ∙ no_option_fault names (with_default rows (option name))

no_defaults_fault : (names : List Text) (rows : List Row) → defaults_fault rows (rules names) ≡ []
unfolding defaults_fault
no_defaults_fault names rows =
    ap (λ k. or_else k (defaults_fault (with_default rows positional) (options names))) (no_default_fault rows positional refl)
    ∙ no_option_fault names (with_default rows positional)

none_wanted : (names : List Text) (rows : List Row) → list_any (λ a. a.required && not (is_given a.id rows)) (options names) ≡ false
none_wanted [] rows = refl
none_wanted (name ∷ names) rows = none_wanted names rows

passes_check : (command : Text) (names : List Text) (rows : List Row) → check_fault (built_shape command names) rows false ≡ []
passes_check command names rows = ap (λ b. check_kinds false false b) (none_wanted names rows)

module _ (command : Text) (names : List Text) where
  abbrev shape : Shape
  shape = built_shape command names

  abbrev app : App
  app = syntax_of command names

  -- the parse is its walk
  level_is : (words : List Text)
      → level_fault shape [] nothing_held words false [] ≡ or_else (walk_fault shape [] (walk_from nothing_held) words) (settle_fault (rules names) false (walk (rules names) [] nothing_held words).held)
  level_is words =
      let end = (walk (rules names) [] nothing_held words).held in
      ap₂ (λ d c. or_else (walk_fault shape [] (walk_from nothing_held) words) (or_else [] (or_else (settle_fault (rules names) false end) (or_else d c))))
      (no_defaults_fault names (settled (rules names) end).rows) (passes_check command names (finished (rules names) end))
      ∙ ap (or_else (walk_fault shape [] (walk_from nothing_held) words)) (or_else-nil (settle_fault (rules names) false end))

  words_are : (words : List Text) → argument_words app words ≡ drop 1 words
  words_are words = ap (λ a. argument_words a words) (syntax_is command names)

  fault_is : (words : List Text) → fault_of app words
      ≡ or_else (walk_fault shape [] (walk_from nothing_held) (drop 1 words)) (settle_fault (rules names) false (walk (rules names) [] nothing_held (drop 1 words)).held)
  fault_is words =
      ap₂ (λ a ws. built_fault a nothing_held ws) (built_is command names) (words_are words)
      ∙ leaf_fault (record { top = shape; subs = [] }) nothing_held (drop 1 words) refl ∙ level_is (drop 1 words)

  matches_are : (words : List Text) → matches_of app words ≡ (settled (rules names) (walk (rules names) [] nothing_held (drop 1 words)).held).rows
  matches_are words =
      ap₂ (λ (a : App) (ws : List Text). rows_after a.top.rules (names_of a) ws) (built_is command names) (words_are words)
      ∙ finished_rows names (settled (rules names) (walk (rules names) [] nothing_held (drop 1 words)).held).rows

  -- the parse is what the reader reads
  parse_reads : (words : List Text) → are_names names ≡ true → AreTexts (drop 1 words) → Comes (read names None (drop 1 words)) (fault_of app words) [] (matches_of app words)
  parse_reads words are texts =
      subst (λ (p : Kinds × List Row). Comes (read names None (drop 1 words)) p.0 [] p.1) (sym (λ i. (fault_is words i, matches_are words i)))
      (are_read command names are None (drop 1 words) texts [] [] None idle (λ _ _. refl) (refl, refl))

texts_from : (words : List Text) → All IsUtf8 words → AreTexts words
texts_from [] all = tt
texts_from (word ∷ words) all = (all 0 word (omega arith), texts_from words (λ k d lt. all (suc k) d (omega arith)))

texts_after : (words : List Text) → AreTexts words → AreTexts (drop 1 words)
texts_after [] all = tt
texts_after (word ∷ words) all = all.1

found_at : (m : ArgMatches) (id : Text) → found_values m id ≡ values_at id (rows_of (found_of m))
found_at m id = ap (λ o. unwrap_or o []) (raw_values-rows (found_of m) id)

module _ (app : App) (command : Text) (names words : List Text) (is : app ≡ syntax_of command names) (are : are_names names ≡ true) (texts : All IsUtf8 words) where
  comes : Comes (read names None (drop 1 words)) (fault_of app words) [] (matches_of app words)
  comes = subst (λ a. Comes (read names None (drop 1 words)) (fault_of a words) [] (matches_of a words)) (sym is)
      (parse_reads command names words are (texts_after words (texts_from words texts)))

  understood : is_simple_and_free app ≡ true
  understood = ap is_simple_and_free is ∙ is_understood command names

  pub finds : (m : ArgMatches) → (is_simple_and_free app ≡ true → FailsBy {T = ArgMatches} (fault_of app words) (Ok m)) → HasMatchesOf app words m → ShowsLines names (drop 1 words) m
  finds m fails matches = go (read names None (drop 1 words)) refl comes
    where
      go : (o : Option (List Entry)) → read names None (drop 1 words) ≡ o → Comes o (fault_of app words) [] (matches_of app words) → ShowsLines names (drop 1 words) m
      go None e c = absurd (c (fails understood))
      go (Some entries) e c =
          finds_read names are (drop 1 words) m entries e (λ id. found_at m id ∙ ap (values_at id) (matches (both _ _ understood).0).0 ∙ c.1 id)

  pub finds_none : (e : Error) → (is_simple_and_free app ≡ true → FailsBy {T = ArgMatches} (fault_of app words) (Err e)) → kind_of e ≢ OutOfMemory
      → (line : Line) → ¬ Spells names (drop 1 words) line
  finds_none e fails other = go (read names None (drop 1 words)) refl comes
    where
      none : HasKind (fault_of app words) e → fault_of app words ≡ [] → ⊥
      none (inl k) is = other k
      none (inr k) is = subst (IsAmong (kind_of e)) is k

      go : (o : Option (List Entry)) → read names None (drop 1 words) ≡ o → Comes o (fault_of app words) [] (matches_of app words) → (line : Line) → ¬ Spells names (drop 1 words) line
      go None r c = unread names are (drop 1 words) r
      go (Some entries) r c = absurd (none (fails understood) c.0)
