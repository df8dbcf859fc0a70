use Rattle.std.proofs.Common.{◌∙◌, [], ◌∷◌, refl}
use Rattle.spe_write.proofs.LinkLemmas.{not_first}
use Rattle.spe_write.proofs.link.lay_link.Goals as goal

pub returns-in-Err-clause-spares : goal.returns-in-Err-clause-spares
returns-in-Err-clause-spares g c = λ pages agrees ready held.
    let s = c.args.space.now in
    let page = c.in_ok-page.page in
    let take = c.in_ok-page.ensures.shifts pages (c.lay_page.ensures.kept.earlier pages agrees) ready held in
    c.shifts_law.ensures.spares s c.take_page.new.space c.lay_page.new.space pages [] (page ∷ []) 1 0 take
    (c.lay_page.ensures.spares pages agrees take.ready (take.held held) (λ first. absurd (not_first page (take.front refl) first)))

pub returns-in-Err-clause-likely : goal.returns-in-Err-clause-likely
returns-in-Err-clause-likely g c = λ pages agrees ready held writable.
    let page = c.in_ok-page.page in
    let take = c.in_ok-page.ensures.shifts pages (c.in-Err.ensures.kept.earlier pages agrees) ready held in
    c.in-Err.ensures.likely pages agrees take.ready (take.held held) (c.in_ok-page.ensures.kept.sealed ∙ writable) (λ first. not_first page (take.front refl) first)

pub returns-in-Ok-clause-shifts : goal.returns-in-Ok-clause-shifts
returns-in-Ok-clause-shifts g c = λ pages agrees ready held.
    let s = c.args.space.now in
    let page = c.in_ok-page.page in
    let take = c.in_ok-page.ensures.shifts pages (c.lay_page.ensures.kept.earlier pages agrees) ready held in
    c.shifts_law.ensures.both s c.take_page.new.space c.lay_page.new.space pages [] (page ∷ []) (page ∷ []) 1 0 take
    (c.in-Ok.ensures.shifts pages agrees take.ready (take.held held) (λ first. absurd (not_first page (take.front refl) first)))

pub returns-in-Ok-clause-spares : goal.returns-in-Ok-clause-spares
returns-in-Ok-clause-spares g c = λ pages agrees ready held. (returns-in-Ok-clause-shifts g c pages agrees ready held).spares
