use Rattle.std.proofs.Common.{◌≡◌, ◌≤◌, ◌-◌, length, replicate, None}
use Rattle.spe_stored.proofs.files.Files.alone.Given as goal

abbrev pub invariant-loop-alloc : goal.invariant-loop-alloc
invariant-loop-alloc l = (l.list.items ≡ replicate (length l.list.items) None) × (length l.list.items ≤ 17)

abbrev pub decreases-loop-alloc : goal.decreases-loop-alloc
decreases-loop-alloc l = 17 - length l.list.items
