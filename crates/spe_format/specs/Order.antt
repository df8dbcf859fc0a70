-- The order of a page's cells: where each ends at or before the begin of each one before it, and whose keys rise.
use Rattle.std.specs.Prelude.{ℕ, Bool, true, ◌&&◌, List, [], ◌∷◌, min, nat_le, int_lt}
use Rattle.spe_model.specs.declared.page.Cell.{Cell}
use Rattle.spe_model.specs.Page.{above, ascends}
use Rattle.spe_format.specs.declared.order.Order.{Order}
use Rattle.spe_format.specs.declared.order.Place.{Place}

-- each run ends at or before a place, and at or before the begin of each run before it
abbrev pub below : ℕ → List (ℕ × ℕ) → Bool
below bound [] = true
below bound (s ∷ ss) = nat_le s.1 bound && below (min bound s.0) ss

-- each run ends at or before the begin of each run before it
abbrev pub descends : List (ℕ × ℕ) → Bool
descends [] = true
descends (s ∷ ss) = below s.0 ss

-- the order of cells, and of where they lie
abbrev pub order_of : List Cell × List (ℕ × ℕ) → Order
order_of found = record { falls = descends found.1; rises = ascends found.0 }

-- where a cell that was found at an offset lies, and its key
abbrev pub trail_of : ℕ → Cell × ℕ → Place
trail_of offset found = record { begin = offset; end = found.1; key = found.0.key }

-- the last of some cells with the least begin of them
abbrev pub least_of : Place → Place → Place
least_of last next = record { begin = min last.begin next.begin; end = next.end; key = next.key }

abbrev pub seen_after : Order → Place → Place → Order
seen_after order last next = record {
  falls = order.falls && nat_le next.end last.begin;
  rises = order.rises && int_lt last.key next.key;
}

-- the order of cells behind a last one, before which that order was
abbrev pub seen_behind : Order → Place → List Cell × List (ℕ × ℕ) → Order
seen_behind order last found = record {
  falls = order.falls && below last.begin found.1;
  rises = order.rises && above last.key found.0;
}
