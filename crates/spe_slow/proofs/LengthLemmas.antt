-- How long records are: sums over the fields that are left, cut at the largest number.
use Rattle.std.proofs.Common.{◌≡◌, ℕ, ◌+◌, ◌<◌, ◌≤◌, min, Bool, List, length, drop, get_or, map, refl, sym, ap, ◌∙◌, arith, inl, inr}
use Rattle.std.specs.Prelude.{Option, if◌then◌else◌, sum_by}
use Rattle.std.specs.List.{enumerate_from}
use Rattle.std.proofs.lemmas.Bool.{cases_lt}
use Rattle.std.proofs.lemmas.List.{at_drop_more, at_drop_all}
use Rattle.std.proofs.lemmas.List.Sums.{sum_by-cons}
use Rattle.spe_model.specs.declared.value.Value.{Value}
use Rattle.spe_model.specs.declared.value.Value.TheVariants.{Null}
use Rattle.spe_model.specs.Alias.{is_alias}
use Rattle.spe_model.specs.Length.{type_length, body_length, header_length, record_length}

-- the field at a place
abbrev field : Option ℕ → ℕ → Value → Value
field alias place value = if is_alias alias place then Null else value

-- the sum over the fields of values that stand from a place on
abbrev pub left : (Value → ℕ) → Option ℕ → ℕ → List Value → ℕ
left f alias place values = sum_by f (map (λ (x : ℕ × Value). if is_alias alias x.0 then Null else x.1) (enumerate_from place values))

left_more : (f : Value → ℕ) (alias : Option ℕ) (values : List Value) (i : ℕ) (v : Value) → i < length values → v ≡ get_or values i v
    → left f alias i (drop i values) ≡ f (field alias i v) + left f alias (i + 1) (drop (i + 1) values)
left_more f alias values i v within is =
    at_drop_more (left f alias i) values i v within
    ∙ sum_by-cons f (field alias i (get_or values i v)) (map (λ (x : ℕ × Value). if is_alias alias x.0 then Null else x.1) (enumerate_from (i + 1) (drop (i + 1) values)))
    ∙ ap (λ (x : Value). f (field alias i x) + left f alias (i + 1) (drop (i + 1) values)) (sym is)

left_none : (f : Value → ℕ) (alias : Option ℕ) (values : List Value) (i : ℕ) → length values ≤ i → left f alias i (drop i values) ≡ 0
left_none f alias values i past = at_drop_all (left f alias i) values i past

add_cut : (sum add new rest m total : ℕ) → new ≡ min (sum + add) m → min (sum + (add + rest)) m ≡ total → min (new + rest) m ≡ total
add_cut sum add new rest m total is e = omega arith

-- a field is added, whose length is `add`
pub add_field : (f : Value → ℕ) (alias : Option ℕ) (values : List Value) (i : ℕ) (v : Value) (b : Bool) (sum add new m total : ℕ)
    → i < length values → v ≡ get_or values i v → is_alias alias i ≡ b → f (if b then Null else v) ≡ add
    → new ≡ min (sum + add) m → min (sum + left f alias i (drop i values)) m ≡ total
    → min (new + left f alias (i + 1) (drop (i + 1) values)) m ≡ total
add_field f alias values i v b sum add new m total within is here long added e =
    let one : f (field alias i v) ≡ add = ap (λ (c : Bool). f (if c then Null else v)) here ∙ long in
    add_cut sum add new (left f alias (i + 1) (drop (i + 1) values)) m total added
    (ap (λ (x : ℕ). min (sum + x) m) (sym (left_more f alias values i v within is ∙ ap (λ (x : ℕ). x + left f alias (i + 1) (drop (i + 1) values)) one)) ∙ e)

pub type_length-Null : type_length Null ≡ 1
unfolding type_length
type_length-Null = refl

pub body_length-Null : body_length Null ≡ 0
unfolding body_length
body_length-Null = refl

-- all fields were added
pub whole_sum : (f : Value → ℕ) (alias : Option ℕ) (values : List Value) (i sum m total : ℕ) → length values ≤ i → sum ≤ m
    → min (sum + left f alias i (drop i values)) m ≡ total → sum ≡ total
whole_sum f alias values i sum m total past fits e =
    let none = left_none f alias values i past in
    omega arith

header_least : (types : ℕ) → types ≤ header_length types
unfolding header_length
header_least types = omega arith

header_cut : (types m : ℕ) → min (header_length (min types m)) m ≡ min (header_length types) m
header_cut types m =
    elim (cases_lt types m) [
      | inl less ↦ let same : min types m ≡ types = omega arith in ap (λ (x : ℕ). min (header_length x) m) same
      | inr more ↦
          let cut : min types m ≡ m = omega arith in
          let low = header_least types in
          let own = header_least m in
          ap (λ (x : ℕ). min (header_length x) m) cut ∙ omega arith
    ]

-- the header and the fields, each cut, and what they are together
pub record_cut : (alias : Option ℕ) (values : List Value) (types bodies header result m : ℕ)
    → types ≡ min (left type_length alias 0 values) m → bodies ≡ min (left body_length alias 0 values) m
    → header ≡ min (header_length types) m → result ≡ min (header + bodies) m
    → result ≡ min (record_length alias values) m
unfolding record_length
record_cut alias values types bodies header result m t b h r =
    let whole : min (header_length types) m ≡ min (header_length (left type_length alias 0 values)) m =
    ap (λ (x : ℕ). min (header_length x) m) t ∙ header_cut (left type_length alias 0 values) m in
    omega arith
