-- The fields of a row, one after the other.
use Rattle.std.proofs.Common.{◌≡◌, ℕ, ◌+◌, ◌-◌, ◌≤◌, min, List, [], ◌∷◌, ◌++◌, length, take, drop, get_or, map, refl, sym, ap, ◌∙◌, arith, append_assoc, append-nil}
use Rattle.std.proofs.Math.Seq.{take-length}
use Rattle.std.proofs.lemmas.List.Sums.{sum_by-cons}
use Rattle.std.specs.List.{enumerate_from, flat_map}
use Rattle.std.specs.Prelude.{Option, if◌then◌else◌, sum_by}
use Rattle.spe_model.specs.declared.value.Value.{Value}
use Rattle.spe_model.specs.declared.value.Value.TheVariants.{Null}
use Rattle.spe_model.specs.Alias.{is_alias}
use Rattle.spe_model.specs.Length.{serial_type}
use Rattle.spe_record.specs.Written.{field_at, IsSpelled, AreSpelled, IsSound, AreSound}

-- the fields of the values that stand from a place on
abbrev pub fields_from : (alias : Option ℕ) (place : ℕ) → List Value → List Value
fields_from alias place values = map (λ (x : ℕ × Value). if is_alias alias x.0 then Null else x.1) (enumerate_from place values)

rest_is : (v : Value) (vs : List Value) → take (length (v ∷ vs) - 1) (drop 1 (v ∷ vs)) ≡ vs
rest_is v vs = let few : length (v ∷ vs) - 1 ≡ length vs = omega arith in rw few (take-length vs)

pub fields_step : (alias : Option ℕ) (place : ℕ) (v : Value) (left : List Value) → 1 ≤ length left → v ≡ get_or left 0 v
    → fields_from alias place left ≡ field_at alias place v ∷ fields_from alias (place + 1) (take (length left - 1) (drop 1 left))
fields_step alias place v [] some is = absurd (omega arith)
fields_step alias place v (w ∷ ws) some is = rw (rest_is w ws, is) refl

pub rest_length : (v : Value) (place : ℕ) (left : List Value) → 1 ≤ length left → place + 1 + length (take (length left - 1) (drop 1 left)) ≡ place + length left
rest_length v place [] some = absurd (omega arith)
rest_length v place (w ∷ ws) some = rw (rest_is w ws) (omega arith)

add_cut : (sum add new rest m total : ℕ) → new ≡ min (sum + add) m → min (sum + (add + rest)) m ≡ total → min (new + rest) m ≡ total
add_cut sum add new rest m total is e = omega arith

-- the length of a field is added
pub sum_step : (f : Value → ℕ) (alias : Option ℕ) (place sum add new m total : ℕ) (v : Value) (left : List Value) → 1 ≤ length left → v ≡ get_or left 0 v
    → add ≡ f (field_at alias place v) → new ≡ min (sum + add) m → min (sum + sum_by f (fields_from alias place left)) m ≡ total
    → min (new + sum_by f (fields_from alias (place + 1) (take (length left - 1) (drop 1 left)))) m ≡ total
sum_step f alias place sum add new m total v left some is added cut e =
    let rest = fields_from alias (place + 1) (take (length left - 1) (drop 1 left)) in
    let more : sum_by f (fields_from alias place left) ≡ add + sum_by f rest =
    ap (sum_by f) (fields_step alias place v left some is) ∙ sum_by-cons f (field_at alias place v) rest ∙ ap (λ (n : ℕ). n + sum_by f rest) (sym added) in
    add_cut sum add new (sum_by f rest) m total cut (rw more at e)

pub sum_end : (f : Value → ℕ) (alias : Option ℕ) (place sum m total : ℕ) (left : List Value) → length left ≡ 0 → sum ≤ m
    → min (sum + sum_by f (fields_from alias place left)) m ≡ total → sum ≡ total
sum_end f alias place sum m total (w ∷ ws) none fits e = absurd (omega arith)
sum_end f alias place sum m total [] none fits e = omega arith

-- the bytes of a field are written
pub bytes_step : (f : Value → List ℕ) (alias : Option ℕ) (place : ℕ) (out new whole : List ℕ) (v : Value) (left : List Value) → 1 ≤ length left → v ≡ get_or left 0 v
    → new ≡ out ++ f (field_at alias place v) → out ++ flat_map f (fields_from alias place left) ≡ whole
    → new ++ flat_map f (fields_from alias (place + 1) (take (length left - 1) (drop 1 left))) ≡ whole
bytes_step f alias place out new whole v left some is written e =
    let rest = fields_from alias (place + 1) (take (length left - 1) (drop 1 left)) in
    ap (λ (xs : List ℕ). xs ++ flat_map f rest) written ∙ append_assoc out (f (field_at alias place v)) (flat_map f rest)
    ∙ ap (λ (vs : List Value). out ++ flat_map f vs) (sym (fields_step alias place v left some is)) ∙ e

pub bytes_end : (f : Value → List ℕ) (alias : Option ℕ) (place : ℕ) (out whole : List ℕ) (left : List Value) → length left ≡ 0
    → out ++ flat_map f (fields_from alias place left) ≡ whole → out ≡ whole
bytes_end f alias place out whole (w ∷ ws) none e = absurd (omega arith)
bytes_end f alias place out whole [] none e = sym (append-nil out) ∙ e

pub spelled_step : (P : Type 0) (alias : Option ℕ) (place : ℕ) (v : Value) (left : List Value) → 1 ≤ length left → v ≡ get_or left 0 v
    → IsSpelled (serial_type (field_at alias place v)) → (AreSpelled (fields_from alias place left) → P)
    → AreSpelled (fields_from alias (place + 1) (take (length left - 1) (drop 1 left))) → P
spelled_step P alias place v left some is one all rest = all (rw (fields_step alias place v left some is) (one, rest))

pub spelled_end : (P : Type 0) (alias : Option ℕ) (place : ℕ) (left : List Value) → length left ≡ 0 → (AreSpelled (fields_from alias place left) → P) → P
spelled_end P alias place (w ∷ ws) none all = absurd (omega arith)
spelled_end P alias place [] none all = all tt

pub sound_step : (P : Type 0) (alias : Option ℕ) (place : ℕ) (v : Value) (left : List Value) → 1 ≤ length left → v ≡ get_or left 0 v
    → IsSound (field_at alias place v) → (AreSound (fields_from alias place left) → P)
    → AreSound (fields_from alias (place + 1) (take (length left - 1) (drop 1 left))) → P
sound_step P alias place v left some is one all rest = all (rw (fields_step alias place v left some is) (one, rest))

pub sound_end : (P : Type 0) (alias : Option ℕ) (place : ℕ) (left : List Value) → length left ≡ 0 → (AreSound (fields_from alias place left) → P) → P
sound_end P alias place (w ∷ ws) none all = absurd (omega arith)
sound_end P alias place [] none all = all tt
