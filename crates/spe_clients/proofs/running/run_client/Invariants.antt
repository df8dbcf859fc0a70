use Rattle.std.proofs.Common.{◌≡◌, ◌+◌, ◌<◌, ◌≤◌, ◌^◌, length, vec_len}
use Rattle.std.specs.Prelude.{All, reverse, vec_capacity}
use Rattle.spe_store.specs.Event.{entries_in}
use Rattle.spe_session.specs.Transaction.{IsResting}
use Rattle.spe_clients.specs.Place.{script_of}
use Rattle.spe_clients.specs.Script.{MayRun}
use Rattle.spe_clients.specs.SoFar.{HasRun}
use Rattle.spe_clients.proofs.running.run_client.Given as goal

abbrev pub invariant-loop-body : goal.invariant-loop-body
invariant-loop-body g l = record {
  has : HasRun g.N.Opening.opened l.fn.store l.store l.client (script_of l.fn.place) (reverse l.left.items) l.answers.items;
  number : l.tx ≡ vec_len l.answers;
  told : l.session.told ≡ length (entries_in l.store.events);
  rests : IsResting l.store;
  runnable : All MayRun l.left.items;
  room : vec_len l.left + vec_len l.answers ≤ vec_capacity l.answers;
  few : vec_len l.left + vec_len l.answers < 2 ^ 32;
}

abbrev pub decreases-loop-body : goal.decreases-loop-body
decreases-loop-body g l = vec_len l.left
