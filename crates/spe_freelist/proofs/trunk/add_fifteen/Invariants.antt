use Rattle.std.proofs.Common.{◌≡◌, ◌+◌, ◌-◌, drop, length, map}
use Rattle.spe_model.specs.Journal.{numbers_from}
use Rattle.spe_freelist.specs.Trunk.{leaves_at}
use Rattle.spe_freelist.proofs.trunk.add_fifteen.Given as goal

abbrev pub invariant-loop-index : goal.invariant-loop-index
invariant-loop-index l = record {
  leaves : leaves_at l.page l.index ≡ map (λ i. l.first + 15 - i) (numbers_from 0 l.index);
  reserved : drop l.usable l.page ≡ drop l.usable l.initial.page;
  len : length l.page ≡ length l.initial.page;
}
