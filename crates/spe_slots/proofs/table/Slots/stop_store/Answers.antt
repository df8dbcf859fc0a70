use Rattle.std.proofs.Common.{◌∙◌, arith, sym, ap, None}
use Rattle.spe_slotrule.specs.Views.{store_part, store_view}
use Rattle.spe_slotrule.specs.Tells.{stopping}
use Rattle.spe_slots.specs.Seats.{SeatedStore}
use Rattle.spe_slots.proofs.Own.{store_table}
use Rattle.spe_slots.proofs.StoreMoves.{stops_at}
use Rattle.spe_slots.proofs.table.Slots.stop_store.Goals as goal

pub load-requires : goal.load-requires
load-requires g c =
    let t = c.self.invariant in
    let s = c.store.inside.seat in
    let is = ap (λ (v : SeatedStore g.row.E.Denot). v.part) c.store.view_is in (
      store_table _ _ _ _ c.store.view_is c.self.view_is c.requires.table,
      omega (arith, t.1),
      stops_at c.self.inside.table.shared.key _ s.id c.args.op s.me g.W.Makes.after (store_part s.me.0) c.store.invariant.0 (c.requires.made ∙ ap (λ (x : _). store_view (stopping c.args.op None x)) (sym is)) (ap (λ (x : _). x.stop) is ∙ c.requires.runs),
    )
