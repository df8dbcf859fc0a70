use Rattle.std.proofs.Common.{◌≤◌, ◌-◌}
use Rattle.spe_model.specs.Content.{Content}
use Rattle.spe_recover.specs.Heads.{HaveLengths}
use Rattle.spe_recover.proofs.ClearLemmas.{IsLooked}
use Rattle.spe_recover.proofs.clear.any_length.Given as goal

abbrev pub invariant-loop-id : goal.invariant-loop-id
invariant-loop-id l = record {
  few : l.id ≤ 16;
  looked : (content : Content) → HaveLengths l.heads content → IsLooked l.id content;
}

abbrev pub decreases-loop-id : goal.decreases-loop-id
decreases-loop-id l = 16 - l.id
