-- The values that a line's entries have.
use Rattle.std.proofs.Common.{◌≡◌, ◌∙◌, Bool, cond, true, false, suc, refl, sym, ap, ap₂, subst, List, [], ◌∷◌, ◌++◌, map, Option, Some, None, arith, append-nil, All}
use Rattle.std.specs.List.{filter, filter_map}
use Rattle.std.specs.Option.{unwrap_or}
use Rattle.std.specs.Str.{bytes_eq}
use Rattle.std.proofs.lemmas.List.{map-append}
use Rattle.std.proofs.lemmas.List.Elements.{filter-append}
use Rattle.std.proofs.lemmas.Option.{none-some}
use Rattle.clap.proofs.SimpleLemmas.{is_false}
use Rattle.clap.proofs.WalkLemmas.{both}
use Rattle.clap.specs.declared.parser.matches.ArgMatches.{ArgMatches}
use Rattle.spe_words.specs.Found.{ShowsLines, are_names, found_values}
use Rattle.spe_words.specs.Line.{Line, Part, Spells, Text, apart, begins_with_dash, is_among, joined, line_of, option_in, positional, positional_in, values_of}
use Rattle.spe_words.proofs.GrammarLemmas.{AreParts, HasPlain, all_parts, are_parts, entries_of, entry_of, reads_parts, sound}
use Rattle.spe_words.proofs.ReaderLemmas.{read, words_id}
use Rattle.spe_words.proofs.RowsLemmas.{Entry, itself, values_in}
use Rattle.spe_words.proofs.SyntaxLemmas.{name_is, no_id}

values_in-append : (id : Text) (xs ys : List Entry) → values_in id (xs ++ ys) ≡ values_in id xs ++ values_in id ys
values_in-append id xs ys = ap (map (λ (e : Entry). e.1)) (filter-append (λ (e : Entry). bytes_eq e.0 id) xs ys) ∙ map-append (λ (e : Entry). e.1) _ _

-- an entry of another id
passed_over : (id other v : Text) (entries : List Entry) → bytes_eq other id ≡ false → values_in id ((other, v) ∷ entries) ≡ values_in id entries
passed_over id other v entries e = ap (λ b. map (λ (x : Entry). x.1) (cond b ((other, v) ∷ filter (λ x. bytes_eq x.0 id) entries) (filter (λ x. bytes_eq x.0 id) entries))) e

-- an entry of the id
taken : (id v : Text) (entries : List Entry) → values_in id ((id, v) ∷ entries) ≡ v ∷ values_in id entries
taken id v entries = ap (λ b. map (λ (x : Entry). x.1) (cond b ((id, v) ∷ filter (λ x. bytes_eq x.0 id) entries) (filter (λ x. bytes_eq x.0 id) entries))) (itself id)

last_values : (words : List Text) → values_in words_id (map (λ v. (words_id, v)) words) ≡ words
last_values [] = refl
last_values (word ∷ words) = ap (λ l. word ∷ l) (last_values words)

module _ (names : List Text) (are : are_names names ≡ true) where
  not_words : (name : Text) → is_among names name ≡ true → bytes_eq name words_id ≡ false
  not_words name among = is_false _ (both _ _ (both _ _ (name_is names name are among)).1).1

  words_not : (name : Text) → is_among names name ≡ true → bytes_eq words_id name ≡ false
  words_not name among = no_id name (name_is names name are among)

  positionals_found : (parts : List Part) → AreParts names parts → values_in words_id (map entry_of parts) ≡ filter_map positional_in parts
  positionals_found [] all = refl
  positionals_found (positional word ∷ parts) all = ap (λ l. word ∷ l) (positionals_found parts all.1)
  positionals_found (joined name v ∷ parts) all = passed_over words_id name v (map entry_of parts) (not_words name all.0.0) ∙ positionals_found parts all.1
  positionals_found (apart name v ∷ parts) all = passed_over words_id name v (map entry_of parts) (not_words name all.0.0) ∙ positionals_found parts all.1

  module _ (name : Text) (among : is_among names name ≡ true) where
    one_option : (n v : Text) (entries options : List Entry) → values_in name entries ≡ values_in name options → values_in name ((n, v) ∷ entries) ≡ values_in name ((n, v) ∷ options)
    one_option n v entries options e = go (bytes_eq n name)
      where
        go : (b : Bool) → map (λ (x : Entry). x.1) (cond b ((n, v) ∷ filter (λ x. bytes_eq x.0 name) entries) (filter (λ x. bytes_eq x.0 name) entries))
            ≡ map (λ (x : Entry). x.1) (cond b ((n, v) ∷ filter (λ x. bytes_eq x.0 name) options) (filter (λ x. bytes_eq x.0 name) options))
        go true = ap (λ l. v ∷ l) e
        go false = e

    options_found : (parts : List Part) → values_in name (map entry_of parts) ≡ values_in name (filter_map option_in parts)
    options_found [] = refl
    options_found (positional word ∷ parts) = passed_over name words_id word (map entry_of parts) (words_not name among) ∙ options_found parts
    options_found (joined n v ∷ parts) = one_option n v (map entry_of parts) (filter_map option_in parts) (options_found parts)
    options_found (apart n v ∷ parts) = one_option n v (map entry_of parts) (filter_map option_in parts) (options_found parts)

    none_last : (words : List Text) → values_in name (map (λ v. (words_id, v)) words) ≡ []
    none_last [] = refl
    none_last (word ∷ words) = passed_over name words_id word (map (λ v. (words_id, v)) words) (words_not name among) ∙ none_last words

  positionals_are : (parts : List Part) (last : Option (List Text)) → AreParts names parts → values_in words_id (entries_of parts last) ≡ (line_of parts last).positionals
  positionals_are parts last all = values_in-append words_id (map entry_of parts) _ ∙ ap₂ (λ (x y : List Text). x ++ y) (positionals_found parts all) (last_values (unwrap_or last []))

  options_are : (parts : List Part) (last : Option (List Text)) (name : Text) → is_among names name ≡ true → values_in name (entries_of parts last) ≡ values_of name (line_of parts last)
  options_are parts last name among =
      values_in-append name (map entry_of parts) _ ∙ ap₂ (λ (x y : List Text). x ++ y) (options_found name among parts) (none_last name among (unwrap_or last [])) ∙ append-nil _

  -- ---- what is read

  plain_entries : (entries : List Entry) → ((name : Text) → is_among names name ≡ true → All (λ v. begins_with_dash v ≡ false) (values_in name entries)) → HasPlain names are entries
  plain_entries [] plain = tt
  plain_entries (entry ∷ entries) plain = (
    λ among. (subst (λ l. All (λ v. begins_with_dash v ≡ false) l) (taken entry.0 entry.1 entries) (plain entry.0 among)) 0 entry.1 (omega arith),
    plain_entries entries (λ name among. go name (bytes_eq entry.0 name) (plain name among)),
  )
    where
      go : (name : Text) (b : Bool)
          → All (λ v. begins_with_dash v ≡ false) (map (λ (x : Entry). x.1) (cond b (entry ∷ filter (λ x. bytes_eq x.0 name) entries) (filter (λ x. bytes_eq x.0 name) entries)))
          → All (λ v. begins_with_dash v ≡ false) (values_in name entries)
      go name true all = λ k d lt. all (suc k) d (omega arith)
      go name false all = all

  module _ (words : List Text) where
    -- no line is spelled where nothing is read
    pub unread : read names None words ≡ None → (line : Line) → ¬ Spells names words line
    unread none line s = none-some _ (sym none ∙ ap (read names None) s.spelled ∙ reads_parts names are s.parts s.last (are_parts names s.parts s.are_parts))

    -- what is read of a line
    entries_are : (entries : List Entry) → read names None words ≡ Some entries → (line : Line) (s : Spells names words line) → entries ≡ entries_of s.parts s.last
    entries_are entries is line s =
        ap (λ o. unwrap_or o entries) (sym is ∙ ap (read names None) s.spelled ∙ reads_parts names are s.parts s.last (are_parts names s.parts s.are_parts))

    pub finds_read : (m : ArgMatches) (entries : List Entry) → read names None words ≡ Some entries → ((id : Text) → found_values m id ≡ values_in id entries) → ShowsLines names words m
    finds_read m entries is found = record {
      each = λ line s.
          let e = entries_are entries is line s in (
            found words_id ∙ ap (values_in words_id) e ∙ positionals_are s.parts s.last (are_parts names s.parts s.are_parts) ∙ ap (λ (l : Line). l.positionals) (sym s.read),
            λ name among. found name ∙ ap (values_in name) e ∙ options_are s.parts s.last name among ∙ ap (values_of name) (sym s.read),
          );
      one = λ plain.
          let h = sound names are None words entries is (plain_entries entries (λ name among. subst (λ l. All (λ v. begins_with_dash v ≡ false) l) (found name) (plain name among))) in
          (line_of h.parts h.last, record { parts = h.parts; last = h.last; are_parts = all_parts names h.parts h.are_parts; spelled = h.spelled; read = refl });
    }
