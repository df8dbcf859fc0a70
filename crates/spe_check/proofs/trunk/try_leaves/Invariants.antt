use Rattle.std.proofs.Common.{◌≡◌, map}
use Rattle.spe_model.specs.Walk.{Names}
use Rattle.spe_check.specs.MetPages.{has_met}
use Rattle.spe_check.specs.Trunks.{leaves_in}
use Rattle.spe_check.specs.Tries.{Leads}
use Rattle.spe_check.proofs.TrunkLemmas.{leaves_from}
use Rattle.spe_check.proofs.trunk.try_leaves.Given as goal

abbrev pub invariant-loop-index : goal.invariant-loop-index
invariant-loop-index l = record {
  pages : l.met.pages ≡ l.fn.met.pages;
  led : Leads l.fn.met.pages (has_met l.fn.met) (map (Names l.trunk) (leaves_in l.bytes l.count)) (has_met l.met) (leaves_from l.trunk l.bytes l.index l.count);
}
