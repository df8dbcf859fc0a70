-- The reader reads just the lines that words spell.
use Rattle.std.proofs.Common.{◌≡◌, ◌∙◌, Bool, cond, true, false, zero, suc, refl, sym, ap, subst, List, [], ◌∷◌, ◌++◌, map, Option, Some, None, arith, append_assoc, All}
use Rattle.std.specs.List.{flat_map}
use Rattle.std.specs.Option.{unwrap_or}
use Rattle.std.specs.Str.{bytes_eq}
use Rattle.std.proofs.lemmas.Option.{none-some}
use Rattle.clap.specs.Lexer.{long_of, short_of}
use Rattle.spe_words.specs.Found.{are_names}
use Rattle.spe_words.specs.Line.{IsPart, Part, Text, apart, begins_with_dash, is_among, joined, last_words, positional, words_of}
use Rattle.spe_words.proofs.LookLemmas.{LooksPlain, long_spelled, looks_plain, plain_from, plain_look, spelled, spelled_look}
use Rattle.spe_words.proofs.ReaderLemmas.{dashes, read, then, value_read, with_attached, word_read, words_id}
use Rattle.spe_words.proofs.RowsLemmas.{Entry, same}
use Rattle.spe_words.proofs.SyntaxLemmas.{name_is}

abbrev pub entry_of : Part → Entry
entry_of (positional word) = (words_id, word)
entry_of (joined name v) = (name, v)
entry_of (apart name v) = (name, v)

abbrev last_entries : Option (List Text) → List Entry
last_entries last = map (λ v. (words_id, v)) (unwrap_or last [])

abbrev pub entries_of : List Part → Option (List Text) → List Entry
entries_of parts last = map entry_of parts ++ last_entries last

abbrev pub AreParts : List Text → List Part → Type 0
AreParts names [] = Unit {0}
AreParts names (part ∷ parts) = IsPart names part × AreParts names parts

pub are_parts : (names : List Text) (parts : List Part) → All (IsPart names) parts → AreParts names parts
are_parts names [] all = tt
are_parts names (part ∷ parts) all = (all 0 part (omega arith), are_parts names parts (λ k d lt. all (suc k) d (omega arith)))

pub all_parts : (names : List Text) (parts : List Part) → AreParts names parts → All (IsPart names) parts
all_parts names [] are k d lt = absurd (omega arith)
all_parts names (part ∷ parts) are zero d lt = are.0
all_parts names (part ∷ parts) are (suc k) d lt = all_parts names parts are.1 k d (omega arith)

module _ (names : List Text) (are : are_names names ≡ true) where
  -- ---- a line that words spell is read

  read_plain : (word : Text) (rest : List Text) → LooksPlain word → read names None (word ∷ rest) ≡ then words_id word (read names None rest)
  unfolding read
  read_plain word rest look = rw (look.no_end, look.no_long, look.no_short) refl

  read_value : (name v : Text) (rest : List Text) → LooksPlain v → read names (Some name) (v ∷ rest) ≡ then name v (read names None rest)
  unfolding read
  read_value name v rest look = rw (look.no_end, look.no_long, look.no_short) refl

  read_option : (name : Text) (v : Option Text) (rest : List Text) → is_among names name ≡ true
      → read names None (spelled name v ∷ rest) ≡ with_attached name v (read names None rest) (λ n. read names (Some n) rest)
  unfolding read
  read_option name v rest among =
      let look = spelled_look name v (name_is names name are among) in
      let after = read names None rest in
      let waits : Text → Option (List Entry) = λ n. read names (Some n) rest in
      ap (λ b. cond b (Some (map (λ w. (words_id, w)) rest)) (word_read names (spelled name v) (long_of (spelled name v)) (short_of (spelled name v)) after waits)) look.0
      ∙ ap (λ o. word_read names (spelled name v) o (short_of (spelled name v)) after waits) look.1 ∙ ap (λ b. cond b (with_attached name v after waits) None) among

  read_part : (part : Part) (rest : List Text) → IsPart names part → read names None (words_of part ++ rest) ≡ then (entry_of part).0 (entry_of part).1 (read names None rest)
  read_part (positional word) rest is = read_plain word rest (looks_plain word is)
  read_part (joined name v) rest is = read_option name (Some v) rest is.0
  read_part (apart name v) rest is = read_option name None (v ∷ rest) is.0 ∙ read_value name v rest (plain_look v is.1)

  pub reads_parts : (parts : List Part) (last : Option (List Text)) → AreParts names parts → read names None (flat_map words_of parts ++ last_words last) ≡ Some (entries_of parts last)
  unfolding read
  reads_parts [] None all = refl
  reads_parts [] (Some words) all = refl
  reads_parts (part ∷ parts) last all =
      ap (read names None) (append_assoc (words_of part) (flat_map words_of parts) (last_words last)) ∙ read_part part (flat_map words_of parts ++ last_words last) all.0
      ∙ ap (then (entry_of part).0 (entry_of part).1) (reads_parts parts last all.1)

  -- ---- what is read is a line that the words spell

  -- no value of an option begins with `-`
  abbrev pub HasPlain : List Entry → Type 0
  HasPlain [] = Unit {0}
  HasPlain (entry ∷ entries) = (is_among names entry.0 ≡ true → begins_with_dash entry.1 ≡ false) × HasPlain entries

  pub record IsSpelled (words : List Text) (entries : List Entry) : Type 0 where
    pub parts : List Part
    pub last : Option (List Text)
    pub are_parts : AreParts names parts
    pub spelled : words ≡ flat_map words_of parts ++ last_words last
    pub read : entries ≡ entries_of parts last

  abbrev Holds : Option Text → List Text → List Entry → Type 0
  Holds None words entries = IsSpelled words entries
  Holds (Some name) words entries =
      (v : Text) × (rest : List Text) × (others : List Entry) × (words ≡ v ∷ rest) × (entries ≡ (name, v) ∷ others) × IsSpelled rest others × (begins_with_dash v ≡ false)

  -- one more entry, and the entries after it
  then_some : (id v : Text) (o : Option (List Entry)) (entries : List Entry) → then id v o ≡ Some entries → (others : List Entry) × (o ≡ Some others) × (entries ≡ (id, v) ∷ others)
  then_some id v None entries e = absurd (none-some _ e)
  then_some id v (Some others) entries e = (others, refl, ap (λ o. unwrap_or o entries) (sym e))

  one_more : (part : Part) (words : List Text) (entries : List Entry) → IsPart names part → IsSpelled words entries → IsSpelled (words_of part ++ words) (entry_of part ∷ entries)
  one_more part words entries is h = record {
    parts = part ∷ h.parts;
    last = h.last;
    are_parts = (is, h.are_parts);
    spelled = ap (λ l. words_of part ++ l) h.spelled ∙ sym (append_assoc (words_of part) (flat_map words_of h.parts) (last_words h.last));
    read = ap (λ l. entry_of part ∷ l) h.read;
  }

  abbrev Sound : Option Text → List Text → Type 0
  Sound None words = (entries : List Entry) → read names None words ≡ Some entries → HasPlain entries → IsSpelled words entries
  Sound (Some name) words =
      (entries : List Entry) → is_among names name ≡ true → read names (Some name) words ≡ Some entries → HasPlain entries → Holds (Some name) words entries

  -- the same of equal words and entries
  moved : (words others : List Text) (entries more : List Entry) → words ≡ others → entries ≡ more → IsSpelled others more → IsSpelled words entries
  moved words others entries more w e h = subst (λ (p : List Text × List Entry). IsSpelled p.0 p.1) (sym (λ i. (w i, e i))) h

  module _ (word : Text) (rest : List Text) (then_none : Sound None rest) (then_waits : (name : Text) → Sound (Some name) rest) (entries : List Entry) (plain : HasPlain entries) where
    attached_sound : (name : Text) (v : Option Text) → long_of word ≡ Some (name, v) → is_among names name ≡ true
        → with_attached name v (read names None rest) (λ n. read names (Some n) rest) ≡ Some entries → IsSpelled (word ∷ rest) entries
    attached_sound name (Some v) l among e =
        let t = then_some name v (read names None rest) entries e in
        let p : HasPlain ((name, v) ∷ t.0) = subst HasPlain t.2 plain in
        moved _ _ _ _ (ap (λ w. w ∷ rest) (long_spelled word name (Some v) l)) t.2 (one_more (joined name v) rest t.0 (among, p.0 among) (then_none t.0 t.1 p.1))
    attached_sound name None l among e =
        let h = then_waits name entries among e plain in
        moved _ _ _ _ ((λ i. long_spelled word name None l i ∷ h.3 i)) h.4 (one_more (apart name h.0) h.1 h.2 (among, h.6) h.5)

    free_sound : (d : Bool) → bytes_eq word dashes ≡ d → (long : Option (Text × Option Text)) → long_of word ≡ long → (flags : Option Text) → short_of word ≡ flags
        → cond d (Some (map (λ w. (words_id, w)) rest)) (word_read names word long flags (read names None rest) (λ n. read names (Some n) rest)) ≡ Some entries
        → IsSpelled (word ∷ rest) entries
    free_sound true d long l flags s e = record {
      parts = [];
      last = Some rest;
      are_parts = tt;
      spelled = ap (λ w. w ∷ rest) (same word dashes d);
      read = sym (ap (λ o. unwrap_or o entries) e);
    }
    free_sound false d (Some p) l flags s e = go (is_among names p.0) refl e
      where
        go : (b : Bool) → is_among names p.0 ≡ b → cond b (with_attached p.0 p.1 (read names None rest) (λ n. read names (Some n) rest)) None ≡ Some entries
            → IsSpelled (word ∷ rest) entries
        go true among e = attached_sound p.0 p.1 l among e
        go false among e = absurd (none-some _ e)
    free_sound false d None l (Some flags) s e = absurd (none-some _ e)
    free_sound false d None l None s e =
        let t = then_some words_id word (read names None rest) entries e in
        let p : HasPlain ((words_id, word) ∷ t.0) = subst HasPlain t.2 plain in
        moved _ _ _ _ refl t.2 (one_more (positional word) rest t.0 (plain_from word (record { no_end = d; no_long = l; no_short = s })) (then_none t.0 t.1 p.1))

    waited_sound : (name : Text) → is_among names name ≡ true → (d : Bool) → bytes_eq word dashes ≡ d → (long : Option (Text × Option Text)) → long_of word ≡ long
        → (flags : Option Text) → short_of word ≡ flags → value_read name word d long flags (read names None rest) ≡ Some entries → Holds (Some name) (word ∷ rest) entries
    waited_sound name among true d long l flags s e = absurd (none-some _ e)
    waited_sound name among false d (Some p) l flags s e = absurd (none-some _ e)
    waited_sound name among false d None l (Some flags) s e = absurd (none-some _ e)
    waited_sound name among false d None l None s e =
        let t = then_some name word (read names None rest) entries e in
        let p : HasPlain ((name, word) ∷ t.0) = subst HasPlain t.2 plain in
        (word, rest, t.0, refl, t.2, then_none t.0 t.1 p.1, p.0 among)

  no_words : (state : Option Text) → Sound state []
  unfolding read
  no_words None = λ entries e plain. record { parts = []; last = None; are_parts = tt; spelled = refl; read = sym (ap (λ o. unwrap_or o entries) e) }
  no_words (Some name) = λ entries among e plain. absurd (none-some _ e)

  one_word : (state : Option Text) (word : Text) (rest : List Text) → Sound None rest → ((name : Text) → Sound (Some name) rest) → Sound state (word ∷ rest)
  unfolding read
  one_word None word rest then_none then_waits =
      λ entries e plain.
      free_sound word rest then_none then_waits entries plain (bytes_eq word dashes) refl (long_of word) refl (short_of word) refl e
  one_word (Some name) word rest then_none then_waits =
      λ entries among e plain.
      waited_sound word rest then_none then_waits entries plain name among (bytes_eq word dashes) refl (long_of word) refl (short_of word) refl e

  pub sound : (state : Option Text) (words : List Text) → Sound state words
  sound state [] = no_words state
  sound state (word ∷ rest) = one_word state word rest (sound None rest) (λ name. sound (Some name) rest)
