use Rattle.std.proofs.Common.{◌≡◌, ◌∙◌, ◌<◌, length, arith, sym, ap, subst}
use Rattle.spe_slotrule.specs.declared.parts.IdPart.{IdPart}
use Rattle.spe_slotrule.specs.declared.parts.StorePart.{StorePart}
use Rattle.spe_slotrule.specs.Views.{store_part, id_part}
use Rattle.spe_slotrule.specs.Known.{IdFits}
use Rattle.spe_slotrule.specs.May.{IdTold, IsStill}
use Rattle.spe_slots.specs.Seats.{SeatedStore, SeatedId}
use Rattle.spe_slots.proofs.Own.{store_table, small}
use Rattle.spe_slots.proofs.Passes.{pass_joined, tells_id_at, told_id_at, recorded}
use Rattle.spe_slots.proofs.table.Slots.tell_pass.Goals as goal

pub load-requires : goal.load-requires
load-requires g c =
    let t = c.self.invariant in
    let a = c.store.inside.seat.me in
    let b = c.seat.inside.seat.me in
    let w = c.take_in.ensures in
    let s = ap (λ (v : SeatedStore g.row.E.Denot). v.part) c.store.view_is in
    let p = ap (λ (v : SeatedId). v.part) c.seat.view_is in
    let below = subst (λ (x : IdPart). x.id < 16) p (small b c.seat.inside.id c.seat.invariant) in (
      w.seat.0 ∙ store_table _ _ _ _ c.store.view_is c.self.view_is c.requires.table.0,
      omega (arith, t.1),
      tells_id_at c.self.inside.table.shared.key _ c.take_in.new.seat.id c.take_in.new.seat.me g.W.Makes.after (store_part a.0) (id_part b.0)
          (pass_joined a b c.take_in.new.seat.me c.seat.inside.id c.store.invariant.0 c.seat.invariant w.seat.1) c.requires.made
          (subst (λ (x : StorePart g.row.E.Denot × IdPart). IdTold x.0 (store_part g.W.Makes.after) x.1 (id_part g.W.Makes.after)) (λ i. (sym s i, sym p i)) (c.requires.told below))
          (subst (λ (x : StorePart g.row.E.Denot). IsStill x (store_part g.W.Makes.after)) (sym s) c.requires.still),
    )

pub returns-clause-fits : goal.returns-clause-fits
returns-clause-fits g c =
    let a = c.store.inside.seat.me in
    let b = c.seat.inside.seat.me in
    let s = ap (λ (v : SeatedStore g.row.E.Denot). v.part) c.store.view_is in
    let p = ap (λ (v : SeatedId). v.part) c.seat.view_is in
    subst (λ (x : StorePart g.row.E.Denot × IdPart). IdFits x.0 x.1.id x.1) (λ i. (s i, p i))
    (told_id_at c.self.inside.table.shared.table_id.slots c.load.result c.take_in.new.seat.me c.load.new.seat.me g.W.Makes.after (store_part a.0) (id_part b.0)
    (pass_joined a b c.take_in.new.seat.me c.seat.inside.id c.store.invariant.0 c.seat.invariant c.take_in.ensures.seat.1) c.load.ensures.2 (small b c.seat.inside.id c.seat.invariant)).0

pub returns-clause-recorded : goal.returns-clause-recorded
returns-clause-recorded g c =
    let a = c.store.inside.seat.me in
    let b = c.seat.inside.seat.me in
    let s = ap (λ (v : SeatedStore g.row.E.Denot). v.part) c.store.view_is in
    let p = ap (λ (v : SeatedId). v.part) c.seat.view_is in
    let below = subst (λ (x : IdPart). x.id < 16) p (small b c.seat.inside.id c.seat.invariant) in
    recorded c.args.store.now.part (store_part g.W.Makes.after) c.args.seat.now.part (id_part g.W.Makes.after) (c.requires.told below)
    (subst (λ (x : StorePart g.row.E.Denot × IdPart). IdFits x.0 x.1.id x.1 × (length x.0.records ≡ 16)) (λ i. (s i, p i))
    (told_id_at c.self.inside.table.shared.table_id.slots c.load.result c.take_in.new.seat.me c.load.new.seat.me g.W.Makes.after (store_part a.0) (id_part b.0)
    (pass_joined a b c.take_in.new.seat.me c.seat.inside.id c.store.invariant.0 c.seat.invariant c.take_in.ensures.seat.1) c.load.ensures.2 (small b c.seat.inside.id c.seat.invariant)))
