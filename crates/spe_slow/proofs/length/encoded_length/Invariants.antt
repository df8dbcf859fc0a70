use Rattle.std.proofs.Common.{◌≡◌, ◌+◌, ◌≤◌, min, drop}
use Rattle.spe_model.specs.Length.{type_length, body_length}
use Rattle.spe_slow.proofs.LengthLemmas.{left}
use Rattle.spe_slow.proofs.length.encoded_length.Given as goal

abbrev pub invariant-loop-place : goal.invariant-loop-place
invariant-loop-place l = record {
  types : min (l.types + left type_length l.alias l.place (drop l.place l.values)) 18446744073709551615 ≡ min (left type_length l.alias 0 l.values) 18446744073709551615;
  bodies : min (l.bodies + left body_length l.alias l.place (drop l.place l.values)) 18446744073709551615 ≡ min (left body_length l.alias 0 l.values) 18446744073709551615;
  types_fit : l.types ≤ 18446744073709551615;
  bodies_fit : l.bodies ≤ 18446744073709551615;
}
