-- Names, one after the other, in sets.
use Rattle.std.proofs.Common.{◌≡◌, ℕ, ◌-◌, ◌≤◌, List, [], ◌∷◌, length, take, drop, get_or, Bool, true, false, not, ◌&&◌, ◌||◌, refl, sym, ap, ◌∙◌, arith}
use Rattle.std.proofs.lemmas.List.{take_all}
use Rattle.spe_model.specs.declared.table.Column.{Column}
use Rattle.std.specs.List.{list_any}
use Rattle.spe_model.specs.Agree.{agree}
use Rattle.spe_model.specs.Definition.{are_distinct, names_of}

-- a set has none of the names at first
pub none_had : (has : List ℕ → Bool) (names : List (List ℕ)) → ((name : List ℕ) → has name ≡ false) → list_any has names ≡ false
none_had has [] h = refl
none_had has (n ∷ ns) h = rw (h n, none_had has ns h) refl

or_joins : (a b c d : Bool) → ((a || b) || (c || d)) ≡ ((a || c) || (b || d))
or_joins true b c d = refl
or_joins false true true d = refl
or_joins false true false d = refl
or_joins false false c d = refl

-- what a set has once a name is added
pub any_more : (has more : List ℕ → Bool) (name : List ℕ) (names : List (List ℕ)) → ((other : List ℕ) → more other ≡ (agree name other || has other))
    → list_any more names ≡ (list_any (agree name) names || list_any has names)
any_more has more name [] h = refl
any_more has more name (n ∷ ns) h = rw (h n, any_more has more name ns h) (or_joins (agree name n) (has n) (list_any (agree name) ns) (list_any has ns))

abbrev apart : (List ℕ → Bool) → List (List ℕ) → Bool
apart has names = not (list_any has names) && are_distinct names

flips : (a b c : Bool) → (not b && (not a && c)) ≡ (not (a || b) && c)
flips true true c = refl
flips true false c = refl
flips false b c = refl

-- a name that the set has not is added
pub apart_next : (has more : List ℕ → Bool) (name : List ℕ) (names : List (List ℕ)) → has name ≡ false
    → ((other : List ℕ) → more other ≡ (agree name other || has other)) → apart has (name ∷ names) ≡ apart more names
apart_next has more name names n h =
    rw (n, any_more has more name names h) (flips (list_any (agree name) names) (list_any has names) (are_distinct names))

pub apart_ends : (has : List ℕ → Bool) (name : List ℕ) (names : List (List ℕ)) → has name ≡ true → apart has (name ∷ names) ≡ false
apart_ends has name names h = rw h refl

pub apart_first : (has : List ℕ → Bool) (names : List (List ℕ)) → ((name : List ℕ) → has name ≡ false) → are_distinct names ≡ apart has names
apart_first has names h = rw (none_had has names h) refl

-- a turn over the columns
pub apart_turn : (columns left : List Column) (has more : List ℕ → Bool) (first : Column) (name : List ℕ) (added : Bool) (n : ℕ) → 1 ≤ length left → first ≡ get_or left 0 first
    → n ≡ length left - 1 → name ≡ first.name → added ≡ not (has name) → added ≡ true → ((other : List ℕ) → more other ≡ (agree name other || has other))
    → are_distinct (names_of columns) ≡ apart has (names_of left) → are_distinct (names_of columns) ≡ apart more (names_of (take n (drop 1 left)))
apart_turn columns [] has more first name added n some f e t a b m i = absurd (omega arith)
apart_turn columns (c ∷ cs) has more first name added n some f e t a b m i =
    let all : length cs ≤ n = omega arith in
    let same : name ≡ c.name = t ∙ ap (λ (x : Column). x.name) f in
    let new : has c.name ≡ false = rw (← same) (not_true (has name) (sym a ∙ b)) in
    rw (take_all n cs all)
    (i ∙ apart_next has more c.name (names_of cs) new (λ other. rw (← same) (m other)))
  where
    not_true : (x : Bool) → not x ≡ true → x ≡ false
    not_true true h = absurd cc
    not_true false h = refl
