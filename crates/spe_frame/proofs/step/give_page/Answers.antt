use Rattle.spe_frame.proofs.StepLemmas.{first_stays, free_shifts, free_spares, may_free}
use Rattle.spe_frame.proofs.step.give_page.Goals as goal

pub returns-in-Err-clause-spares : goal.returns-in-Err-clause-spares
returns-in-Err-clause-spares g c = λ pages agrees ready held low.
    let free = c.in-Err.ensures in
    let s = c.args.space.now in
    free_spares g.S.Pages s c.free.new.self pages c.args.page low free.kept (g.met.S.Pages.placed s pages ready.stands) (free.seen pages agrees ready.stands) (free.laid pages agrees ready.stands)

pub returns-in-Err-clause-likely : goal.returns-in-Err-clause-likely
returns-in-Err-clause-likely g c = λ pages agrees ready held writable low.
    c.in-Err.ensures.sure writable pages agrees ready.stands (may_free g.S.Pages c.args.space.now pages c.args.page low held)

pub returns-clause-spares : goal.returns-clause-spares
returns-clause-spares g c = λ pages agrees ready held low.
    let free = c.in-Ok.ensures in
    let s = c.args.space.now in
    free_spares g.S.Pages s c.free.new.self pages c.args.page low free.kept (g.met.S.Pages.placed s pages ready.stands) (free.seen pages agrees ready.stands) (free.laid pages agrees ready.stands)

pub returns-clause-shifts : goal.returns-clause-shifts
returns-clause-shifts g c = λ pages agrees ready held low.
    let free = c.in-Ok.ensures in
    let s = c.args.space.now in
    let may = may_free g.S.Pages s pages c.args.page low held in
    let front = first_stays g.S.Pages s c.free.new.self pages c.args.page low (g.met.S.Pages.placed s pages ready.stands) (free.laid pages agrees ready.stands) in
    free_shifts g.S.Pages s c.free.new.self pages c.args.page low ready held front (free.ok pages agrees ready.stands may) (free.stands pages agrees ready.stands may)
    (returns-clause-spares g c pages agrees ready held low)
