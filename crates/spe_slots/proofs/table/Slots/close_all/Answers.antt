use Rattle.std.proofs.Common.{◌≡◌, ◌∙◌, sym, subst, Some}
use Rattle.std.proofs.lemmas.List.Elements.{All-pop}
use Rattle.spe_slotrule.specs.Tells.{IsClosed}
use Rattle.spe_slots.specs.Seats.{SeatedSession}
use Rattle.spe_slots.proofs.Closes.{popped, popped_count, all_popped}
use Rattle.spe_slots.proofs.table.Slots.close_all.Goals as goal

pub loop-session-preserved : goal.loop-session-preserved
loop-session-preserved g c =
    let i = c.loop-session.invariant in
    let e = c.in-Some.ensures in
    let t = c.take_session.ensures in record {
      store = t.table ∙ i.store;
      taken = popped _ _ _ _ _ e.items t.store ∙ i.taken;
      seated = (All-pop (λ (s : SeatedSession g.row.E.Denot). s.table ≡ c.args.self.table) _ _ (Some c.in-Some.session) e.items i.seated).0;
      count = popped_count _ _ _ _ _ _ e.items t.store i.count;
    }

pub returns-clause-taken : goal.returns-clause-taken
returns-clause-taken g c =
    let i = c.loop-session.invariant in
    let e = c.in_default.ensures in
    subst IsClosed (all_popped _ _ _ (sym c.loop-session.left.ok.0 ∙ e.cases.0) i.taken) c.see_all.ensures
