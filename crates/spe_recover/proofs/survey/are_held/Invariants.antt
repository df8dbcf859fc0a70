use Rattle.std.proofs.Common.{ℕ, ◌≤◌, ◌<◌, true}
use Rattle.spe_recover.specs.Survey.{IsHeld}
use Rattle.spe_recover.proofs.survey.are_held.Given as goal

abbrev pub invariant-loop-left : goal.invariant-loop-left
invariant-loop-left l = record {
  within : l.left ≤ l.count;
  held : (p : ℕ) → l.left < p → p ≤ l.count → IsHeld l.seen p true;
}

abbrev pub decreases-loop-left : goal.decreases-loop-left
decreases-loop-left l = l.left
