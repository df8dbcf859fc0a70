use Rattle.std.proofs.Common.{ℕ, ◌≤◌, ◌-◌}
use Rattle.spe_model.specs.Content.{Content}
use Rattle.spe_recover.specs.Heads.{AreHeads}
use Rattle.spe_recover.proofs.HeadLemmas.{IsSearched}
use Rattle.spe_recover.proofs.heads.find_other.Given as goal

abbrev pub invariant-loop-id : goal.invariant-loop-id
invariant-loop-id l = record {
  few : l.id ≤ 16;
  searched : (content : Content) (page_size : ℕ) → AreHeads content page_size l.heads → IsSearched page_size l.id content;
}

abbrev pub decreases-loop-id : goal.decreases-loop-id
decreases-loop-id l = 16 - l.id
