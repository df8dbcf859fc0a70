-- How the cells of a page lie: no two may share a byte. The bytes that the cells take are marked one cell after the
-- other.
use Rattle.std.specs.Prelude.{ℕ, ◌-◌, Bool, true, not, ◌&&◌, List, [], ◌∷◌, ◌++◌, take, drop, replicate, slice_range, Option, Some, None, Result, Ok, Err, nat_le, if◌then◌else◌}
use Rattle.std.specs.List.{list_any}
use Rattle.spe_model.specs.declared.page.Cell.{Cell}
use Rattle.spe_model.specs.declared.page.PageFault.{PageFault}
use Rattle.spe_model.specs.declared.page.PageFault.TheVariants.{CellOut, Overlap}
use Rattle.spe_model.specs.Page.{apart}

-- a run of the first `size` bytes, from its start up to its end
abbrev pub is_span : ℕ → ℕ × ℕ → Bool
is_span size span = nat_le span.0 span.1 && nat_le span.1 size

-- whether a byte of the run is marked
abbrev pub is_taken : List Bool → ℕ × ℕ → Bool
is_taken marks span = list_any (λ b. b) (slice_range marks span.0 span.1)

-- the marks with those of the run
abbrev pub with_taken : List Bool → ℕ × ℕ → List Bool
with_taken marks span = take span.0 marks ++ (replicate (span.1 - span.0) true ++ drop span.1 marks)

-- whether each run in turn finds its bytes without a mark
abbrev pub are_free : List Bool → List (ℕ × ℕ) → Bool
are_free marks [] = true
are_free marks (s ∷ ss) = not (is_taken marks s) && are_free (with_taken marks s) ss

-- whether the cells lie well, by the cells at the offsets of a page
abbrev pub layout_of : Option (List Cell × List (ℕ × ℕ)) → Result (Unit {0}) PageFault
layout_of None = Err CellOut
layout_of (Some found) = if not (apart found.1) then Err Overlap else Ok tt
