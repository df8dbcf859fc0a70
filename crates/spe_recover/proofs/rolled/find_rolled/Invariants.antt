use Rattle.std.proofs.Common.{ℕ, ◌≤◌, ◌-◌}
use Rattle.spe_model.specs.Content.{Content}
use Rattle.spe_recover.specs.Heads.{AreHeads}
use Rattle.spe_recover.proofs.RolledLemmas.{AreRolled}
use Rattle.spe_recover.proofs.rolled.find_rolled.Given as goal

abbrev pub invariant-loop-id : goal.invariant-loop-id
invariant-loop-id l = record {
  few : l.id ≤ 16;
  rolled : (content : Content) (page_size : ℕ) → AreHeads content page_size l.heads → AreRolled page_size l.id l.rolled content;
}

abbrev pub decreases-loop-id : goal.decreases-loop-id
decreases-loop-id l = 16 - l.id
