use Rattle.std.proofs.Common.{◌≡◌, ℕ, ◌+◌, length}
use Rattle.std.specs.Option.{option_map}
use Rattle.spe_store.specs.Work.{free_place}
use Rattle.spe_store.proofs.pool.free_id.Given as goal

abbrev pub invariant-loop-left : goal.invariant-loop-left
invariant-loop-left l = (l.id + length l.left ≡ length l.works) × (free_place l.works ≡ option_map (λ (n : ℕ). l.id + n) (free_place l.left))

abbrev pub decreases-loop-left : goal.decreases-loop-left
decreases-loop-left l = length l.left
