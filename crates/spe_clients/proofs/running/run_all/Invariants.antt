use Rattle.std.proofs.Common.{◌≡◌, ◌+◌, ◌<◌, ◌≤◌, ◌^◌, vec_len}
use Rattle.std.specs.Prelude.{vec_capacity}
use Rattle.spe_session.specs.Transaction.{IsResting}
use Rattle.spe_clients.specs.Place.{scripts_of}
use Rattle.spe_clients.specs.SoFar.{HaveRun}
use Rattle.spe_clients.proofs.running.run_all.Given as goal

abbrev pub invariant-loop-place : goal.invariant-loop-place
invariant-loop-place g l = record {
  have : HaveRun g.N.Opening.opened l.fn.store l.store l.fn.clients (scripts_of l.places.items) l.transcripts.items;
  number : l.client ≡ vec_len l.transcripts;
  rests : IsResting l.store;
  room : vec_len l.places + vec_len l.transcripts ≤ vec_capacity l.transcripts;
  few : vec_len l.places + vec_len l.transcripts < 2 ^ 32;
}

abbrev pub decreases-loop-place : goal.decreases-loop-place
decreases-loop-place g l = vec_len l.places
