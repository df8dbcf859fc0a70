use Rattle.std.proofs.Common.{sym, subst}
use Rattle.spe_slotrule.specs.declared.parts.StorePart.{StorePart}
use Rattle.spe_slotrule.specs.Known.{IdsAreOutOnce}
use Rattle.spe_slotrule.specs.Views.{session_part}
use Rattle.spe_slotrule.proofs.Telling.{may_take_home, home_still}
use Rattle.spe_slots.proofs.table.Slots.take_home.Goals as goal

pub tell_session-requires-clause-told : goal.tell_session-requires-clause-told
tell_session-requires-clause-told g c = may_take_home c.args.store.now.part (session_part c.session.inside.seat.me.0)

pub tell_session-requires-clause-still : goal.tell_session-requires-clause-still
tell_session-requires-clause-still g c = let p = session_part c.session.inside.seat.me.0 in home_still c.args.store.now.part p.number p.out

pub returns-clause-once : goal.returns-clause-once
returns-clause-once g c = subst (λ (s : StorePart g.row.E.Denot). IdsAreOutOnce s.out) (sym c.tell_session.ensures.store) c.tell_session.ensures.out
