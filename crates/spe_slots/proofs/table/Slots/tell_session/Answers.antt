use Rattle.std.proofs.Common.{◌≡◌, ◌∙◌, arith, sym, ap, subst}
use Rattle.spe_slotrule.specs.declared.parts.StorePart.{StorePart}
use Rattle.spe_slotrule.specs.Views.{store_part, session_part}
use Rattle.spe_slotrule.specs.Known.{SessionFits, IdsAreOutOnce}
use Rattle.spe_slotrule.specs.May.{SessionTold, IsStill}
use Rattle.spe_slots.specs.Seats.{SeatedStore}
use Rattle.spe_slots.proofs.Own.{store_table}
use Rattle.spe_slots.proofs.Joint.{joined, tells_session_at, told_session_at, out_once_at}
use Rattle.spe_slots.proofs.table.Slots.tell_session.Goals as goal

pub load-found-requires : goal.load-found-requires
load-found-requires g c =
    let t = c.self.invariant in
    let own = c.store.inside.seat.me in
    let w = c.take_in.ensures in
    let is : store_part own.0 ≡ c.args.store.now.part = ap (λ (v : SeatedStore g.row.E.Denot). v.part) c.store.view_is in (
      w.seat.0 ∙ store_table _ _ _ _ c.store.view_is c.self.view_is c.requires.table.0,
      omega (arith, t.1),
      tells_session_at c.self.inside.table.shared.key _ c.take_in.new.seat.id c.take_in.new.seat.me g.W.Makes.after (store_part own.0) (session_part c.args.session.now.me.0)
          (joined own c.args.session.now.me c.take_in.new.seat.me c.store.invariant.0 c.requires.session w.seat.1) c.requires.made
          (subst (λ (s : StorePart g.row.E.Denot). SessionTold s (store_part g.W.Makes.after) (session_part c.args.session.now.me.0) (session_part g.W.Makes.after)) (sym is) c.requires.told)
          (subst (λ (s : StorePart g.row.E.Denot). IsStill s (store_part g.W.Makes.after)) (sym is) c.requires.still),
    )

pub returns-clause-fits : goal.returns-clause-fits
returns-clause-fits g c =
    let own = c.store.inside.seat.me in
    let p = session_part c.args.session.now.me.0 in
    let is : store_part own.0 ≡ c.args.store.now.part = ap (λ (v : SeatedStore g.row.E.Denot). v.part) c.store.view_is in
    subst (λ (s : StorePart g.row.E.Denot). SessionFits s p.number p) is
    (told_session_at c.self.inside.table.shared.table_id.slots 0 0 c.load-found.result c.take_in.new.seat.me c.load-found.new.seat.me g.W.Makes.after (store_part own.0) p
    (joined own c.args.session.now.me c.take_in.new.seat.me c.store.invariant.0 c.requires.session c.take_in.ensures.seat.1) c.load-found.ensures.2).2

pub returns-clause-out : goal.returns-clause-out
returns-clause-out g c =
    let own = c.store.inside.seat.me in
    let p = session_part c.args.session.now.me.0 in
    let is : store_part own.0 ≡ c.args.store.now.part = ap (λ (v : SeatedStore g.row.E.Denot). v.part) c.store.view_is in
    c.requires.told.out (subst (λ (s : StorePart g.row.E.Denot). IdsAreOutOnce s.out) is
    (out_once_at c.self.inside.table.shared.table_id.slots 0 0 c.load-found.result c.take_in.new.seat.me c.load-found.new.seat.me g.W.Makes.after (store_part own.0) p
    (joined own c.args.session.now.me c.take_in.new.seat.me c.store.invariant.0 c.requires.session c.take_in.ensures.seat.1) c.load-found.ensures.2))
