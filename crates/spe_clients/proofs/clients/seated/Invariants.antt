use Rattle.std.proofs.Common.{◌≡◌, ◌+◌, ◌≤◌, ◌++◌, vec_len}
use Rattle.std.specs.Prelude.{vec_capacity}
use Rattle.spe_clients.specs.Place.{scripts_of}
use Rattle.spe_clients.proofs.clients.seated.Given as goal

abbrev pub invariant-loop-client : goal.invariant-loop-client
invariant-loop-client l = record {
  scripts : l.waiting.items ++ scripts_of l.places.items ≡ l.fn.clients.items;
  count : vec_len l.waiting + vec_len l.places ≡ vec_len l.fn.clients;
  room : vec_len l.waiting + vec_len l.places ≤ vec_capacity l.places;
}

abbrev pub decreases-loop-client : goal.decreases-loop-client
decreases-loop-client l = vec_len l.waiting
