use Rattle.std.proofs.Common.{◌≡◌, ◌∙◌, ap, sym, refl, Some, None, cond}
use Rattle.spe_core.specs.Lives.{updated_in}
use Rattle.spe_core.specs.State.{Live, live_in}
use Rattle.spe_core.proofs.LivesLemmas.{live_is, same_is, both_is}
use Rattle.spe_core.proofs.lives.Lives.has_read.Goals as goal
use Rattle.spe_core.specs.Changed.{with_read, with_seen}

pub returns-in-None-clause-stays : goal.returns-in-None-clause-stays
returns-in-None-clause-stays c = λ yes bytes.
    let none : live_in c.args.id c.args.self.now ≡ None =
    ap (live_in c.args.id) (sym c.self.view_is) ∙ sym (live_is c.args.id c.self.inside.map.entries) ∙ sym c.in-None.ensures.value in
    rw none refl

pub returns-in-Some-clause-stays : goal.returns-in-Some-clause-stays
returns-in-Some-clause-stays c = λ yes bytes.
    let f = with_read c.args.page bytes in
    let t : Live = c.in-Some.t.now in
    let at : live_in c.args.id c.self.inside.map.entries ≡ Some t = sym (live_is c.args.id c.self.inside.map.entries) ∙ sym c.in-Some.ensures.value in
    let same : f t ≡ t = ap (λ b. cond b t (with_seen c.args.page bytes t)) (sym c.has_read.ensures ∙ yes) in
    ap (updated_in c.args.id f) (sym c.self.view_is) ∙ same_is c.args.id f c.self.inside.map.entries t c.self.invariant at same ∙ c.self.view_is

pub returns-in-Some-clause-notes : goal.returns-in-Some-clause-notes
returns-in-Some-clause-notes c = λ no_ bytes.
    let f = with_read c.args.page bytes in
    let g = with_seen c.args.page bytes in
    let t : Live = c.in-Some.t.now in
    let at : live_in c.args.id c.self.inside.map.entries ≡ Some t = sym (live_is c.args.id c.self.inside.map.entries) ∙ sym c.in-Some.ensures.value in
    let same : f t ≡ g t = ap (λ b. cond b t (g t)) (sym c.has_read.ensures ∙ no_) in
    ap (updated_in c.args.id f) (sym c.self.view_is) ∙ both_is c.args.id f g c.self.inside.map.entries t at same ∙ ap (updated_in c.args.id g) c.self.view_is
