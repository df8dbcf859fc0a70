use Rattle.std.proofs.Common.{◌∙◌, ap, sym}
use Rattle.spe_core.specs.Changed.{released}
use Rattle.spe_core.specs.Lives.{updated_in}
use Rattle.spe_core.proofs.LivesLemmas.{absent_is, written_is}
use Rattle.spe_core.proofs.lives.Lives.release.Goals as goal

pub returns-in_default : goal.returns-in_default
returns-in_default c =
    let f = released c.args.lock in
    ap (λ m. m.entries) c.get_mut.follows.holds-at-none ∙ absent_is c.args.id f c.self.inside.map.entries (sym c.in_default.ensures.value)
    ∙ ap (updated_in c.args.id f) c.self.view_is

pub returns : goal.returns
returns c =
    let f = released c.args.lock in
    let set = c.get_mut.follows.holds c.release.new.self in
    written_is c.args.id f c.self.inside.map.entries _ c.in-Some.t.now c.release.new.self c.self.invariant (sym c.in-Some.ensures.value) set.0 c.release.ensures
    ∙ ap (updated_in c.args.id f) c.self.view_is
