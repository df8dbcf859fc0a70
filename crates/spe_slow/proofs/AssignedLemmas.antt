-- What a statement gives, by the numbers of its values.
use Rattle.std.proofs.Common.{◌≡◌, ℕ, zero, suc, ◌+◌, ◌<◌, ◌≤◌, Bool, true, false, length, map, List, [], ◌∷◌, drop, refl, sym, ap, ◌∙◌, arith, Option, Some, None}
use Rattle.std.specs.Prelude.{slice_get}
use Rattle.std.specs.List.{zip}
use Rattle.std.specs.Option.{option_map_or}
use Rattle.std.proofs.lemmas.List.{length-map}
use Rattle.std.proofs.lemmas.List.FromFn.{length-range_with_len, get_or-map-range_with_len}
use Rattle.std.proofs.lemmas.Option.{slice_get-get_or, slice_get_past}
use Rattle.spe_model.specs.declared.value.Value.{Value}
use Rattle.spe_model.specs.declared.naming.Named.{Named}
use Rattle.spe_model.specs.declared.naming.Named.TheVariants as named
use Rattle.spe_model.specs.declared.table.TableDef.{TableDef}
use Rattle.spe_model.specs.Naming.{column_at, is_same}
use Rattle.spe_model.specs.Assigned.{places, given_to}

pub length_places : (table : TableDef) → length (map (column_at table) (places table)) ≡ length table.columns
length_places table = length-map (places table) (column_at table) ∙ length-range_with_len 0 (length table.columns)

pub place_within : (table : TableDef) (i : ℕ) → i < length table.columns → slice_get (map (column_at table) (places table)) i ≡ Some (column_at table i)
place_within table i within =
    slice_get-get_or (map (column_at table) (places table)) i named.Nothing (rw (length_places table) within)
    ∙ ap (λ (x : Named). Some x) (get_or-map-range_with_len (column_at table) 0 (length table.columns) i i named.Nothing within (omega arith))

pub place_past : (table : TableDef) (i : ℕ) → length table.columns ≤ i → slice_get (map (column_at table) (places table)) i ≡ None
place_past table i past = slice_get_past (map (column_at table) (places table)) i (rw (length_places table) past)

-- whether a target is the one that is sought
abbrev pub hits : Named → List Named → ℕ → Bool
hits target targets i = option_map_or (λ t. is_same t target) (slice_get targets i) false

-- what is given by the values from the i-th on
abbrev pub given_from : Named → List Named → List Value → ℕ → Option Value
given_from target targets values i = given_to target (drop i (zip targets values))

-- the i-th value is given to another
given_skip_suc : (target : Named) (targets : List Named) (values : List Value) (i : ℕ) → hits target targets i ≡ false
    → given_from target targets values i ≡ given_from target targets values (suc i)
given_skip_suc target [] values zero h = refl
given_skip_suc target [] values (suc i) h = refl
given_skip_suc target (t ∷ ts) [] zero h = refl
given_skip_suc target (t ∷ ts) [] (suc i) h = refl
given_skip_suc target (t ∷ ts) (v ∷ vs) zero h = rw h refl
given_skip_suc target (t ∷ ts) (v ∷ vs) (suc i) h = given_skip_suc target ts vs i h

pub given_skip : (target : Named) (targets : List Named) (values : List Value) (i : ℕ) (all : Option Value) → hits target targets i ≡ false
    → given_from target targets values i ≡ all → given_from target targets values (i + 1) ≡ all
given_skip target targets values i all h e =
    let next : i + 1 ≡ suc i = omega arith in
    rw next (sym (given_skip_suc target targets values i h) ∙ e)

-- the i-th value is given to it
pub given_hit : (target : Named) (targets : List Named) (values : List Value) (i : ℕ) → hits target targets i ≡ true
    → given_from target targets values i ≡ slice_get values i
given_hit target [] values i h = absurd cc
given_hit target (t ∷ ts) [] zero h = refl
given_hit target (t ∷ ts) [] (suc i) h = refl
given_hit target (t ∷ ts) (v ∷ vs) zero h = rw h refl
given_hit target (t ∷ ts) (v ∷ vs) (suc i) h = given_hit target ts vs i h

-- there are no more values
pub given_end : (target : Named) (targets : List Named) (values : List Value) (i : ℕ) → length values ≤ i → given_from target targets values i ≡ None
given_end target [] values zero h = refl
given_end target [] values (suc i) h = refl
given_end target (t ∷ ts) [] zero h = refl
given_end target (t ∷ ts) [] (suc i) h = refl
given_end target (t ∷ ts) (v ∷ vs) zero h = absurd (omega arith)
given_end target (t ∷ ts) (v ∷ vs) (suc i) h = given_end target ts vs i (omega arith)
