use Rattle.std.proofs.Common.{◌∙◌, ◌<◌, ◌+◌, ◌^◌, length, arith, sym, ap, subst, refl}
use Rattle.spe_slotrule.specs.declared.parts.SessionPart.{SessionPart}
use Rattle.spe_slotrule.specs.declared.parts.StorePart.{StorePart}
use Rattle.spe_slotrule.specs.Views.{store_part, session_part}
use Rattle.spe_slotrule.specs.Known.{SessionFits}
use Rattle.spe_slotrule.specs.Tells.{store_session, longer, committing}
use Rattle.spe_slots.specs.Seats.{SeatedStore, SeatedSession}
use Rattle.spe_slots.specs.Told.{entry}
use Rattle.spe_slots.proofs.Own.{store_table}
use Rattle.spe_slots.proofs.Joint.{joined, commits_at, told_session_at}
use Rattle.spe_slots.proofs.table.Slots.add.Goals as goal

pub fetch_add-found-requires : goal.fetch_add-found-requires
fetch_add-found-requires g c =
    let t = c.self.invariant in
    let a = c.store.inside.seat.me in
    let b = c.session.inside.seat.me in
    let w = c.take_in.ensures in
    let s = ap (λ (v : SeatedStore g.row.E.Denot). v.part) c.store.view_is in
    let p = ap (λ (v : SeatedSession g.row.E.Denot). v.part) c.session.view_is in
    let e = entry c.args.log.now c.args.ops (store_part a.0) (session_part b.0) in (
      w.seat.0 ∙ store_table _ _ _ _ c.store.view_is c.self.view_is c.requires.table.0,
      omega (arith, t.1),
      commits_at c.self.inside.table.shared.key _ c.take_in.new.seat.id c.take_in.new.seat.me g.W.Makes.after e (store_part a.0) (session_part b.0)
          (joined a b c.take_in.new.seat.me c.store.invariant.0 c.session.invariant.0 w.seat.1)
          (c.requires.made ∙ (λ i. store_session (longer (entry c.args.log.now c.args.ops (sym s i) (sym p i)) (sym s i)) (committing (entry c.args.log.now c.args.ops (sym s i) (sym p i)) (sym s i) (sym p i)))) refl
          (subst (λ (x : StorePart g.row.E.Denot). length x.commits + 1 < 2 ^ 64) (sym s) c.requires.room),
    )

pub returns-clause-fits : goal.returns-clause-fits
returns-clause-fits g c =
    let a = c.store.inside.seat.me in
    let b = c.session.inside.seat.me in
    let s = ap (λ (v : SeatedStore g.row.E.Denot). v.part) c.store.view_is in
    let p = ap (λ (v : SeatedSession g.row.E.Denot). v.part) c.session.view_is in
    subst (λ (x : StorePart g.row.E.Denot × SessionPart g.row.E.Denot). SessionFits x.0 x.1.number x.1) (λ i. (s i, p i))
    (told_session_at c.self.inside.table.shared.table_id.slots 0 1 c.fetch_add-found.result c.take_in.new.seat.me c.fetch_add-found.new.seat.me g.W.Makes.after (store_part a.0) (session_part b.0)
    (joined a b c.take_in.new.seat.me c.store.invariant.0 c.session.invariant.0 c.take_in.ensures.seat.1) c.fetch_add-found.ensures.2).2
