use Rattle.spe_check.specs.MetPages.{has_met}
use Rattle.spe_check.specs.declared.trunk.Trunk.{Trunk}
use Rattle.std.proofs.Common.{◌∙◌, map, ap}
use Rattle.std.specs.Prelude.{nat_le, ◌/◌, ◌-◌}
use Rattle.spe_model.specs.Walk.{Names}
use Rattle.spe_check.specs.Trunks.{leaves_in}
use Rattle.spe_check.proofs.TriesLemmas.{halts_same, the_err}
use Rattle.spe_check.proofs.TrunkLemmas.{room_halt, room_then}
use Rattle.spe_check.proofs.trunk.trunk_in.Goals as goal

pub returns-in-Err-clause-tried : goal.returns-in-Err-clause-tried
returns-in-Err-clause-tried c = (
  room_halt c.args.met.now.pages (has_met c.args.met.now) c.args.trunk c.args.usable c.args.bytes.now c.has_room.result c.in-Err.halt
      (c.has_room.ensures ∙ ap (λ n. nat_le n (c.args.usable / 4 - 2)) c.u32_of-leaves.ensures) (c.in-Err.ensures.tried c.args.met.now.pages (has_met c.args.met.now)),
  tt,
)

pub returns-in-Err-try_leaves-clause-tried : goal.returns-in-Err-try_leaves-clause-tried
returns-in-Err-try_leaves-clause-tried c = (
  room_then c.args.met.now.pages (has_met c.args.met.now) (has_met c.try_leaves.new.met) c.args.trunk c.args.usable c.u32_of-leaves.result c.args.bytes.now c.has_room.result (the_err Trunk c.in-Err-try_leaves.halt)
      c.has_room.ensures c.u32_of-leaves.ensures (c.in-Ok.ensures.tried c.args.met.now.pages (has_met c.args.met.now))
      (halts_same (Unit {0}) Trunk c.args.met.now.pages (has_met c.args.met.now) (has_met c.try_leaves.new.met) (map (Names c.args.trunk) (leaves_in c.args.bytes.now c.u32_of-leaves.result)) c.in-Err-try_leaves.halt c.in-Err-try_leaves.ensures.tried),
  tt,
)
