-- What building makes of a command line's syntax.
use Rattle.std.proofs.Common.{◌≡◌, ◌∙◌, ◌&&◌, ◌||◌, ◌+◌, ℕ, Bool, cond, true, false, not, refl, sym, ap, ap₂, codes, List, [], ◌∷◌, ◌++◌, map, Some, None, is_some, append_assoc, append-nil, true≢false, add-zero, subst, ◌<◌, ◌-◌, length, take, drop, arith}
use Rattle.std.specs.Borrow.{Bor}
use Rattle.std.proofs.lemmas.List.{take_all}
use Rattle.std.specs.List.{count_by, find, fold, list_all, list_any, slice_index_or}
use Rattle.std.specs.Str.{bytes_eq}
use Rattle.clap.specs.Walk.{texts, Rule, arg_by_id, arg_by_long, arg_by_short, is_early_multiple}
use Rattle.clap.specs.Simple.{App, Shape, built, filled, filled_from, is_buildable, is_ready, is_ready_leaf, is_simple, new_app, new_shape, with_index, with_rule}
use Rattle.clap.specs.Faults.{is_free_app, is_simple_and_free}
use Rattle.clap.proofs.WalkLemmas.{both}
use Rattle.std.proofs.lemmas.Bool.{false_from_ne_true}
use Rattle.std.proofs.lemmas.Slice.Eq.{bytes_eq-Decides}
use Rattle.spe_words.specs.Line.{Text, is_among}
use Rattle.spe_words.specs.Found.{are_names, is_name}
use Rattle.spe_words.specs.Syntax.{option_rule, positional_rule, syntax_of, with_options, without_flags}
use Rattle.spe_words.proofs.RowsLemmas.{same}

-- the arguments as built
abbrev pub positional : Rule
positional = with_index 1 (filled positional_rule)

abbrev pub option : Text → Rule
option name = with_index 2 (filled (option_rule name))

abbrev pub options : List Text → List Rule
options names = map option names

abbrev pub rules : List Text → List Rule
rules names = positional ∷ options names

-- the command before it is built, and after it
abbrev plain_shape : Text → List Text → Shape
plain_shape command names = record (new_shape command) {
  rules = positional_rule ∷ map option_rule names;
  disable_help_flag = true;
  disable_version_flag = true;
}

abbrev pub built_shape : Text → List Text → Shape
built_shape command names = record (new_shape command) {
  rules = rules names;
  disable_help_flag = true;
  disable_version_flag = true;
  disable_help_subcommand = true;
  is_built = true;
}

abbrev with_all : App → List Rule → App
with_all app more = record app { top = record app.top { rules = app.top.rules ++ more } }

options_added : (app : App) (names : List Text) → with_options app names ≡ with_all app (map option_rule names)
options_added app [] = ap (λ rs. record app { top = record app.top { rules = rs } }) (sym (append-nil app.top.rules))
options_added app (name ∷ names) = options_added (with_rule app (option_rule name)) names
    ∙ ap (λ rs. record app { top = record app.top { rules = rs } }) (append_assoc app.top.rules (option_rule name ∷ []) (map option_rule names))

pub syntax_is : (command : Text) (names : List Text) → ◌≡◌ {A = App} (syntax_of command names) (record { top = plain_shape command names; subs = [] })
syntax_is command names = options_added (with_rule (without_flags (new_app command)) positional_rule) names

options_filled : (names : List Text) → filled_from 2 (map option_rule names) ≡ options names
options_filled [] = refl
options_filled (name ∷ names) = ap (λ rs. option name ∷ rs) (options_filled names)

pub built_is : (command : Text) (names : List Text) → ◌≡◌ {A = App} (built (syntax_of command names)) (record { top = built_shape command names; subs = [] })
built_is command names = ap built (syntax_is command names)
    ∙ ap (λ (rs : List Rule). let a : App = record { top = record (built_shape command names) { rules = positional ∷ rs }; subs = [] } in a) (options_filled names)

-- ---- the command is one of which `clap` says what it reads

module _ (p : Rule → Bool) where
  each_option : ((name : Text) → p (option name) ≡ true) → (names : List Text) → list_all p (options names) ≡ true
  each_option h [] = refl
  each_option h (name ∷ names) = rw (h name) (each_option h names)

  each_given : ((name : Text) → p (option_rule name) ≡ true) → (names : List Text) → list_all p (map option_rule names) ≡ true
  each_given h [] = refl
  each_given h (name ∷ names) = rw (h name) (each_given h names)

  no_option : ((name : Text) → p (option name) ≡ false) → (names : List Text) → list_any p (options names) ≡ false
  no_option h [] = refl
  no_option h (name ∷ names) = rw (h name) (no_option h names)

  count_none : ((name : Text) → p (option name) ≡ false) → (n : ℕ) (names : List Text) → fold (λ a x. a + cond (p x) 1 0) n (options names) ≡ n
  count_none h n [] = refl
  count_none h n (name ∷ names) =
      let none : n + cond (p (option name)) 1 0 ≡ n = ap (λ b. n + cond b 1 0) (h name) ∙ add-zero n in
      ap (λ k. fold (λ a x. a + cond (p x) 1 0) k (options names)) none ∙ count_none h n names

  find_none : ((name : Text) → p (option name) ≡ false) → (names : List Text) → find p (options names) ≡ None
  find_none h [] = refl
  find_none h (name ∷ names) = rw (h name) (find_none h names)

abbrev is_indexed : Rule → Bool
is_indexed a = is_some a.index

only_last : (names : List Text) → list_any (is_early_multiple (count_by is_indexed (rules names))) (rules names) ≡ false
only_last names = ap (λ n. list_any (is_early_multiple n) (rules names)) (count_none is_indexed (λ _. refl) 1 names) ∙ no_option (is_early_multiple 1) (λ _. refl) names

both_true : (a b : Bool) → a ≡ true → b ≡ true → (a && b) ≡ true
both_true a b e f = ap₂ (λ x y. x && y) e f

can_be_built : (command : Text) (names : List Text) → is_buildable (syntax_of command names) ≡ true
can_be_built command names = ap is_buildable (syntax_is command names) ∙ both_true _ true (each_given (λ a. a.is_simple) (λ _. refl) names) refl

ready : (command : Text) (names : List Text) → is_ready (built_shape command names) ≡ true
ready command names = both_true _ _ (each_option (λ a. a.is_simple) (λ _. refl) names) (ap not (only_last names))

simple : (command : Text) (names : List Text) → is_simple (syntax_of command names) ≡ true
simple command names = both_true _ _ (can_be_built command names)
    (ap (λ (a : App). is_ready a.top && list_all is_ready_leaf a.subs) (built_is command names) ∙ both_true _ true (ready command names) refl)

pub is_understood : (command : Text) (names : List Text) → is_simple_and_free (syntax_of command names) ≡ true
is_understood command names = both_true _ _ (simple command names)
    (ap is_free_app (built_is command names) ∙ both_true _ true (each_option (λ a. a.is_free) (λ _. refl) names) refl)

-- ---- the arguments by name

pub by_short : (names : List Text) (c : ℕ) → arg_by_short (rules names) c ≡ None
by_short names c = find_none _ (λ _. refl) names

by_long_option : (names : List Text) (name : Text) → arg_by_long (options names) name ≡ cond (is_among names name) (Some (option name)) None
by_long_option [] name = refl
by_long_option (n ∷ names) name = go (bytes_eq n name) refl (by_long_option names name)
  where
    go : (b : Bool) → bytes_eq n name ≡ b → arg_by_long (options names) name ≡ cond (is_among names name) (Some (option name)) None
        → cond (b || false) (Some (option n)) (arg_by_long (options names) name) ≡ cond (b || is_among names name) (Some (option name)) None
    go true e rest = ap (λ t. Some (option t)) (same n name e)
    go false e rest = rest

pub by_long : (names : List Text) (name : Text) → arg_by_long (rules names) name ≡ cond (is_among names name) (Some (option name)) None
by_long names name = by_long_option names name

by_id_option : (names : List Text) (name : Text) → is_among names name ≡ true → arg_by_id (options names) name ≡ Some (option name)
by_id_option [] name e = absurd (true≢false (sym e))
by_id_option (n ∷ names) name e = go (bytes_eq n name) refl (by_id_option names name) e
  where
    go : (b : Bool) → bytes_eq n name ≡ b → (is_among names name ≡ true → arg_by_id (options names) name ≡ Some (option name))
        → (b || is_among names name) ≡ true → cond b (Some (option n)) (arg_by_id (options names) name) ≡ Some (option name)
    go true is rest e = ap (λ t. Some (option t)) (same n name is)
    go false is rest e = rest e

-- a name of an option is one that an option may have
pub name_is : (names : List Text) (name : Text) → are_names names ≡ true → is_among names name ≡ true → is_name name ≡ true
name_is [] name are e = absurd (true≢false (sym e))
name_is (n ∷ names) name are e = go (bytes_eq n name) refl (name_is names name (both _ _ are).1) e
  where
    go : (b : Bool) → bytes_eq n name ≡ b → (is_among names name ≡ true → is_name name ≡ true) → (b || is_among names name) ≡ true → is_name name ≡ true
    go true is rest e = subst (λ t. is_name t ≡ true) (same n name is) (both _ _ are).0
    go false is rest e = rest e

-- it is not the positionals' id
pub no_id : (name : Text) → is_name name ≡ true → bytes_eq (codes "words") name ≡ false
no_id name is =
    let differs = both _ _ (both _ _ is).1 in
    false_from_ne_true (bytes_eq (codes "words") name) (λ t. true≢false (sym differs.1 ∙ ap not ((bytes_eq-Decides name (codes "words")).1 (sym (same (codes "words") name t)))))

pub by_id : (names : List Text) (name : Text) → are_names names ≡ true → is_among names name ≡ true → arg_by_id (rules names) name ≡ Some (option name)
by_id names name are among = rw (no_id name (name_is names name are among)) (by_id_option names name among)

-- one more option, as the loop over them adds it
pub options_turn : (app next all : App) (left : List (Bor Text)) (name : Bor Text) → with_options app (texts left) ≡ all → 0 < length left
    → next ≡ with_rule app (option_rule (slice_index_or left 0 name).now) → with_options next (texts (take (length left - 1) (drop 1 left))) ≡ all
options_turn app next all [] name is lt e = absurd (omega arith)
options_turn app next all (x ∷ xs) name is lt e = ap₂ (λ a (ys : List (Bor Text)). with_options a (texts ys)) e (take_all (length (x ∷ xs) - 1) xs (omega arith)) ∙ is
