-- The order of a page's cells, one cell after the other; and where each ends at or before the begin of the one before
-- it, no two share a byte.
use Rattle.std.proofs.Common.{◌≡◌, ℕ, ◌+◌, ◌*◌, ◌≤◌, List, [], ◌∷◌, length, drop, Bool, true, false, refl, sym, ◌∙◌, ap, arith, Option, Some, None, Ok}
use Rattle.std.proofs.Math.Bool.{and_assoc}
use Rattle.std.specs.Option.{option_map}
use Rattle.std.specs.Prelude.{◌<◌, ◌&&◌, nat_le, int_lt, max, min, slice_index}
use Rattle.std.specs.List.{list_any}
use Rattle.std.proofs.lemmas.Bool.{ltb-true, leb-true, le-leb, false_from_ne_true}
use Rattle.spe_model.specs.declared.page.Cell.{Cell}
use Rattle.spe_model.specs.declared.page.Kind.{Kind}
use Rattle.spe_model.specs.Cell.{◌>>=◌}
use Rattle.spe_model.specs.Page.{above, apart, numbers, placed_at, placed_all, share}
use Rattle.spe_format.specs.declared.order.Order.{Order}
use Rattle.spe_format.specs.declared.order.Place.{Place}
use Rattle.spe_format.specs.Layout.{layout_of}
use Rattle.spe_format.specs.Order.{below, descends, least_of, order_of, seen_after, seen_behind, trail_of}

and_parts : (a b : Bool) → (a && b) ≡ true → (a ≡ true) × (b ≡ true)
and_parts true b e = (refl, e)
and_parts false b e = absurd cc

pub and_right : (a b : Bool) → (a && b) ≡ true → b ≡ true
and_right true b e = e
and_right false b e = absurd cc

abbrev joined : ℕ → Option (Cell × ℕ) → Option (List Cell × List (ℕ × ℕ)) → Option (List Cell × List (ℕ × ℕ))
joined o found rest = do
  first ← found
  others ← rest
  Some (first.0 ∷ others.0, (o, first.1) ∷ others.1)

joined_turn : (found : Option (Cell × ℕ)) (rest : Option (List Cell × List (ℕ × ℕ))) (o : ℕ) (order : Order) (last next : Place)
    → option_map (trail_of o) found ≡ Some next
    → option_map (seen_behind order last) (joined o found rest) ≡ option_map (seen_behind (seen_after order last next) (least_of last next)) rest
joined_turn None rest o order last next e = absurd cc
joined_turn (Some x) None o order last next e = refl
joined_turn (Some x) (Some y) o order last next e =
    let same : trail_of o x ≡ next = cc in
    rw (← same, and_assoc (order.falls) (nat_le x.1 last.begin) (below (min last.begin o) y.1), and_assoc (order.rises) (int_lt last.key x.0.key) (above x.0.key y.0)) refl

-- one cell more
pub turn : (kind : Kind) (n : ℕ) (page : List ℕ) (o : ℕ) (os : List ℕ) (order : Order) (last next : Place) (whole : Option Order)
    → option_map (trail_of o) (placed_at kind n page o) ≡ Some next
    → option_map (seen_behind order last) (placed_all kind n page (o ∷ os)) ≡ whole
    → option_map (seen_behind (seen_after order last next) (least_of last next)) (placed_all kind n page os) ≡ whole
turn kind n page o os order last next whole e w =
    sym (joined_turn (placed_at kind n page o) (placed_all kind n page os) o order last next e) ∙ w

-- the first number of an array, and the others
pub split_two : (xs : List ℕ) → 2 ≤ length xs → numbers xs ≡ (slice_index xs 0 * 256 + (slice_index xs 1 * 1 + 0)) ∷ numbers (drop 2 xs)
split_two [] l = absurd (omega arith)
split_two (a ∷ []) l = absurd (omega arith)
split_two (a ∷ b ∷ rest) l = let same : a * 256 + b ≡ a * 256 + (b * 1 + 0) = omega arith in ap (λ (o : ℕ). o ∷ numbers rest) same

none_above : (bound : ℕ) (s : ℕ × ℕ) (ss : List (ℕ × ℕ)) → bound ≤ s.0 → below bound ss ≡ true → list_any (share s) ss ≡ false
none_above bound s [] low e = refl
none_above bound s (t ∷ ts) low e =
    let parts = and_parts (nat_le t.1 bound) (below (min bound t.0) ts) e in
    let before : t.1 ≤ bound = leb-true _ _ parts.0 in
    let none : share s t ≡ false = false_from_ne_true (share s t) (λ (h : share s t ≡ true). absurd (let l : max s.0 t.0 < min s.1 t.1 = ltb-true (max s.0 t.0) (min s.1 t.1) h in omega arith)) in
    rw none (none_above (min bound t.0) s ts (omega arith) parts.1)

-- runs below a lower place are below a higher one
below_more : (low high : ℕ) (ss : List (ℕ × ℕ)) → low ≤ high → below low ss ≡ true → below high ss ≡ true
below_more low high [] l e = refl
below_more low high (s ∷ ss) l e =
    let parts = and_parts (nat_le s.1 low) (below (min low s.0) ss) e in
    let before : s.1 ≤ low = leb-true _ _ parts.0 in
    let yes : nat_le s.1 high ≡ true = le-leb s.1 high (omega arith) in
    rw yes (below_more (min low s.0) (min high s.0) ss (omega arith) parts.1)

-- runs that end each at or before the begin of each one before it share no byte
pub descending_is_apart : (ss : List (ℕ × ℕ)) → descends ss ≡ true → apart ss ≡ true
descending_is_apart [] e = refl
descending_is_apart (s ∷ []) e = refl
descending_is_apart (s ∷ t ∷ ts) e =
    let parts = and_parts (nat_le t.1 s.0) (below (min s.0 t.0) ts) e in
    let rest : apart (t ∷ ts) ≡ true = descending_is_apart (t ∷ ts) (below_more (min s.0 t.0) t.0 ts (omega arith) parts.1) in
    let none : list_any (share s) (t ∷ ts) ≡ false = none_above s.0 s (t ∷ ts) (omega arith) e in
    rw (none, rest) refl

-- cells in order share no byte
pub falls_layout : (found : Option (List Cell × List (ℕ × ℕ))) (order : Order) → Some order ≡ option_map order_of found → order.falls ≡ true
    → layout_of found ≡ Ok tt
falls_layout None order e f = absurd cc
falls_layout (Some x) order e f =
    let same : order ≡ order_of x = cc in
    let falls : descends x.1 ≡ true = ap (λ (o : Order). o.falls) (sym same) ∙ f in
    rw (descending_is_apart x.1 falls) refl
