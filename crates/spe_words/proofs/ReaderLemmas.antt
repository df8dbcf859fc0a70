-- What the words of a line are to a reader, word after word: ids with values.
use Rattle.std.proofs.Common.{Bool, cond, codes, true, false, List, [], ◌∷◌, map, Option, Some, None, option_map}
use Rattle.std.specs.Str.{bytes_eq}
use Rattle.clap.specs.Lexer.{long_of, short_of}
use Rattle.spe_words.specs.Line.{Text, is_among}
use Rattle.spe_words.proofs.RowsLemmas.{Entry}

abbrev pub words_id : Text
words_id = codes "words"

abbrev pub dashes : Text
dashes = 45 ∷ 45 ∷ []

-- an entry, and what follows it
abbrev pub then : Text → Text → Option (List Entry) → Option (List Entry)
then id value = option_map (λ entries. (id, value) ∷ entries)

abbrev pub with_attached : Text → Option Text → Option (List Entry) → (Text → Option (List Entry)) → Option (List Entry)
with_attached name (Some value) after waits = then name value after
with_attached name None after waits = waits name

-- a word that is not `--`, by what it looks like
abbrev pub word_read : List Text → Text → Option (Text × Option Text) → Option Text → Option (List Entry) → (Text → Option (List Entry)) → Option (List Entry)
word_read names word (Some p) flags after waits = cond (is_among names p.0) (with_attached p.0 p.1 after waits) None
word_read names word None (Some flags) after waits = None
word_read names word None None after waits = then words_id word after

-- the value of an option
abbrev pub value_read : Text → Text → Bool → Option (Text × Option Text) → Option Text → Option (List Entry) → Option (List Entry)
value_read name word true long flags after = None
value_read name word false (Some p) flags after = None
value_read name word false None (Some flags) after = None
value_read name word false None None after = then name word after

-- words after an option that waits for its value, or after none
unfoldable pub read : List Text → Option Text → List Text → Option (List Entry)
read names None [] = Some []
read names (Some name) [] = None
read names None (word ∷ rest) =
    cond (bytes_eq word dashes) (Some (map (λ value. (words_id, value)) rest))
    (word_read names word (long_of word) (short_of word) (read names None rest) (λ name. read names (Some name) rest))
read names (Some name) (word ∷ rest) = value_read name word (bytes_eq word dashes) (long_of word) (short_of word) (read names None rest)
