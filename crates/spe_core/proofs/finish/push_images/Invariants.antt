use Rattle.std.proofs.Common.{◌≡◌, ◌+◌, ◌≤◌, ◌++◌, length, vec_capacity}
use Rattle.spe_core.specs.Changed.{images_of}
use Rattle.spe_core.proofs.finish.push_images.Given as goal

abbrev pub invariant-loop-page : goal.invariant-loop-page
invariant-loop-page l = record {
  items : l.images.items ++ images_of l.stamp l.journalled ≡ l.fn.images.items ++ images_of l.stamp l.fn.journalled;
  room : length l.images.items + length l.journalled ≤ vec_capacity l.images;
}

abbrev pub decreases-loop-page : goal.decreases-loop-page
decreases-loop-page l = length l.journalled
