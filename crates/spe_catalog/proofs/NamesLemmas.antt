-- Sets of names.
use Rattle.std.proofs.Common.{◌≡◌, ℕ, List, [], ◌∷◌, Bool, true, false, ◌||◌, cond, map, string_bytes, refl, sym, ◌∙◌}
use Rattle.std.specs.List.{list_any}
use Rattle.std.specs.Str.{bytes_eq, str_to_ascii_lowercase}
use Rattle.std.specs.Ordering.{nat_cmp, is_eq}
use Rattle.std.specs.Cmp.Lexicographic.{slice_cmp}
use Rattle.std.specs.BTreeSet.{BTreeSet, contains_text, contains_by, UpdatesBy}
use Rattle.std.specs.Char.{to_ascii_lowercase}
use Rattle.std.specs.String.{string_cmp}
use Rattle.std.specs.declared.string.String.{String}
use Rattle.std.proofs.lemmas.Map.Text.{is_eq-slice_cmp, btree_set_updates_text}
use Rattle.spe_model.specs.Agree.{agree}
use Rattle.spe_catalog.specs.Names.{has_name}

-- a look-up in the set finds what the list of its names has
has_text : {Y : Type 0} (keys : List (String Y)) (bytes : List ℕ)
    → list_any (bytes_eq bytes) (map string_bytes keys) ≡ list_any (λ k. is_eq (slice_cmp nat_cmp bytes (string_bytes k))) keys
has_text [] bytes = refl
has_text (k ∷ ks) bytes = rw (is_eq-slice_cmp bytes (string_bytes k), has_text ks bytes) refl

pub has_is : {Y : Type 0} (s : BTreeSet (String Y)) (name : List ℕ) → has_name (map string_bytes s.keys) name ≡ contains_text s (str_to_ascii_lowercase name)
has_is s name = has_text s.keys (str_to_ascii_lowercase name)

or_is : (a b : Bool) → cond a true b ≡ (a || b)
or_is true b = refl
or_is false b = refl

-- what the list has once a name is added
pub has_more : {Y : Type 0} (name : List ℕ) (s n : BTreeSet (String Y)) (folded : String Y) → string_bytes folded ≡ str_to_ascii_lowercase name
    → UpdatesBy string_cmp (λ k. slice_cmp nat_cmp (string_bytes folded) (string_bytes k)) s n true → (other : List ℕ)
    → has_name (map string_bytes n.keys) other ≡ (agree name other || has_name (map string_bytes s.keys) other)
has_more name s n folded e u other =
    has_is n other ∙ btree_set_updates_text (string_bytes folded) s n true u (str_to_ascii_lowercase other)
    ∙ rw (has_is s other, e) (or_is (agree name other) (contains_text s (str_to_ascii_lowercase other)))

abbrev finds : {Y : Type 0} → List ℕ → BTreeSet (String Y) → Bool
finds bytes s = contains_by (λ k. slice_cmp nat_cmp bytes (string_bytes k)) s

pub found_is : {Y : Type 0} (s : BTreeSet (String Y)) (name bytes text : List ℕ) (names : List (List ℕ)) → bytes ≡ text → text ≡ map to_ascii_lowercase name
    → map string_bytes s.keys ≡ names → finds bytes s ≡ has_name names name
found_is s name bytes text names b t n = rw (b, t) (sym (has_is s name) ∙ rw n refl)
