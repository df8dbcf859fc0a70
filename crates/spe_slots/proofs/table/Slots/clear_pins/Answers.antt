use Rattle.std.proofs.Common.{◌∙◌, bit_and, subst, sym, ap}
use Rattle.spe_slotrule.specs.Word.{ClearsPins}
use Rattle.spe_slotrule.specs.Rule.{is_pinned}
use Rattle.spe_slots.specs.Seats.{SeatedStore}
use Rattle.spe_slots.proofs.Own.{store_table, in_count, in_words}
use Rattle.spe_slots.proofs.StoreMoves.{unpins_at}
use Rattle.spe_slots.proofs.table.Slots.clear_pins.Goals as goal

pub fetch_and-requires : goal.fetch_and-requires
fetch_and-requires g c =
    let s = c.store.inside in
    let t = c.self.invariant in
    let own = c.requires.own ∙ ap (λ (v : SeatedStore g.row.E.Denot). is_pinned c.args.id c.args.k v.part.write_pins) (sym c.store.view_is) in (
      store_table _ _ _ _ c.store.view_is c.self.view_is c.requires.table,
      in_words _ _ _ _ c.self.view_is c.requires.word t.1,
      unpins_at c.self.inside.table.shared.key _ s.seat.id c.args.k s.seat.me c.store.invariant.0 g.W.OfId.id c.args.id c.unpinned-mask.result
          c.requires.id.0 (in_count _ _ _ _ c.self.view_is c.requires.word t.2) c.requires.id.1
          (λ word. subst (λ b. ClearsPins c.args.id b word (bit_and word c.unpinned-mask.result)) own (c.unpinned-mask.ensures word)),
    )
