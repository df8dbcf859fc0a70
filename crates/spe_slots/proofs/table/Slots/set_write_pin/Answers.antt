use Rattle.spe_slots.proofs.Own.{store_table, in_count, in_words}
use Rattle.spe_slots.proofs.StoreMoves.{pins_write_at}
use Rattle.spe_slots.proofs.table.Slots.set_write_pin.Goals as goal

pub compare_exchange-requires : goal.compare_exchange-requires
compare_exchange-requires g c =
    let s = c.store.inside in
    let t = c.self.invariant in (
      store_table _ _ _ _ c.store.view_is c.self.view_is c.requires.table,
      in_words _ _ _ _ c.self.view_is c.requires.word t.1,
      pins_write_at c.self.inside.table.shared.key _ s.seat.id c.args.k s.seat.me c.store.invariant.0 g.W.OfId.id c.args.id c.args.word c.with_write_pin-new.result
          c.requires.id.0 (in_count _ _ _ _ c.self.view_is c.requires.word t.2) c.requires.id.1 c.requires.held c.with_write_pin-new.ensures,
    )
