use Rattle.std.proofs.Common.{◌≡◌, ◌++◌, reverse, true, vec_len}
use Rattle.std.specs.List.{list_all}
use Rattle.spe_serve.specs.Asked.{are_carried_out}
use Rattle.spe_serve.proofs.scripts.clients_of.Given as goal

abbrev pub invariant-loop-body : goal.invariant-loop-body
invariant-loop-body l = record {
  carried : are_carried_out l.left.items ≡ true;
  made : l.clients.items ++ reverse l.left.items ≡ l.fn.bodies.items;
}

abbrev pub decreases-loop-body : goal.decreases-loop-body
decreases-loop-body l = vec_len l.left
