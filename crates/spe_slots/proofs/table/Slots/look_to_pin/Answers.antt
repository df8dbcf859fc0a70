use Rattle.spe_slots.proofs.Own.{store_table, in_words}
use Rattle.spe_slots.proofs.StoreMoves.{store_looks_at}
use Rattle.spe_slots.proofs.table.Slots.look_to_pin.Goals as goal

pub load-requires : goal.load-requires
load-requires g c =
    let s = c.store.inside in
    let t = c.self.invariant in (
      store_table _ _ _ _ c.store.view_is c.self.view_is c.requires.table,
      in_words _ _ _ _ c.self.view_is c.requires.word t.1,
      store_looks_at c.self.inside.table.shared.key _ s.seat.id c.args.k s.seat.me c.store.invariant.0,
    )
