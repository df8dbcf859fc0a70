use Rattle.std.proofs.Common.{◌≡◌, ◌∙◌, ap, refl, sym, Some, None}
use Rattle.spe_core.specs.Changed.{ended}
use Rattle.spe_core.specs.Lives.{updated_in}
use Rattle.spe_core.specs.State.{live_in}
use Rattle.spe_core.proofs.LivesLemmas.{absent_is, live_is, written_is}
use Rattle.spe_core.proofs.lives.Lives.end.Goals as goal

pub returns-in_default-clause-ended : goal.returns-in_default-clause-ended
returns-in_default-clause-ended c =
    ap (λ m. m.entries) c.get_mut.follows.holds-at-none ∙ absent_is c.args.id ended c.self.inside.map.entries (sym c.in_default.ensures.value)
    ∙ ap (updated_in c.args.id ended) c.self.view_is

pub returns-in_default-clause-left : goal.returns-in_default-clause-left
returns-in_default-clause-left c =
    let none : live_in c.args.id c.args.self.now ≡ None =
    ap (live_in c.args.id) (sym c.self.view_is) ∙ sym (live_is c.args.id c.self.inside.map.entries) ∙ sym c.in_default.ensures.value in
    rw none refl

pub returns-clause-ended : goal.returns-clause-ended
returns-clause-ended c =
    let set = c.get_mut.follows.holds c.end.new.self in
    written_is c.args.id ended c.self.inside.map.entries _ c.in-Some.t.now c.end.new.self c.self.invariant (sym c.in-Some.ensures.value) set.0 c.end.ensures.ended
    ∙ ap (updated_in c.args.id ended) c.self.view_is

pub returns-clause-left : goal.returns-clause-left
returns-clause-left c =
    let at : live_in c.args.id c.args.self.now ≡ Some c.in-Some.t.now =
    ap (live_in c.args.id) (sym c.self.view_is) ∙ sym (live_is c.args.id c.self.inside.map.entries) ∙ sym c.in-Some.ensures.value in
    rw at (ap Some c.end.ensures.journalled)
