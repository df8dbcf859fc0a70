use Rattle.std.proofs.Common.{◌∙◌, ap, sym, Some}
use Rattle.spe_core.specs.Changed.{undone}
use Rattle.spe_core.specs.Lives.{updated_in}
use Rattle.spe_core.proofs.LivesLemmas.{absent_is, written_is}
use Rattle.spe_core.proofs.lives.Lives.undo.Goals as goal

pub returns-in_default : goal.returns-in_default
returns-in_default c = λ bytes.
    let f = undone (Some (c.args.page, bytes)) in
    ap (λ m. m.entries) c.get_mut.follows.holds-at-none ∙ absent_is c.args.id f c.self.inside.map.entries (sym c.in_default.ensures.value)
    ∙ ap (updated_in c.args.id f) c.self.view_is

pub returns : goal.returns
returns c = λ bytes.
    let f = undone (Some (c.args.page, bytes)) in
    let set = c.get_mut.follows.holds c.undo.new.self in
    written_is c.args.id f c.self.inside.map.entries _ c.in-Some.t.now c.undo.new.self c.self.invariant (sym c.in-Some.ensures.value) set.0 c.undo.ensures
    ∙ ap (updated_in c.args.id f) c.self.view_is
