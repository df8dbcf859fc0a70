use Rattle.std.proofs.Common.{◌∙◌, ap, sym, subst}
use Rattle.spe_slotrule.specs.declared.parts.StorePart.{StorePart}
use Rattle.spe_slotrule.specs.Views.{session_part}
use Rattle.spe_slotrule.specs.Known.{IdsAreOutOnce}
use Rattle.spe_slotrule.proofs.Telling.{may_give_out}
use Rattle.spe_slots.specs.Seats.{SeatedSession}
use Rattle.spe_slots.proofs.table.Slots.hand_out.Goals as goal

pub tell_session-requires-clause-told : goal.tell_session-requires-clause-told
tell_session-requires-clause-told g c =
    may_give_out c.args.id c.args.store.now.part (session_part c.session.inside.seat.me.0) c.requires.free (ap (λ (v : SeatedSession g.row.E.Denot). v.part.out) c.session.view_is ∙ c.requires.none_out)

pub returns-clause-once : goal.returns-clause-once
returns-clause-once g c = subst (λ (s : StorePart g.row.E.Denot). IdsAreOutOnce s.out) (sym c.tell_session.ensures.store) c.tell_session.ensures.out
