use Rattle.spe_frame.proofs.StepLemmas.{get_likely, get_shifts}
use Rattle.spe_frame.proofs.step.see_page.Goals as goal

pub returns-clause-shifts : goal.returns-clause-shifts
returns-clause-shifts g c = λ pages agrees ready held.
    let get = c.get.ensures in
    get_shifts g.S.Pages c.args.space.now c.get.new.self pages c.args.page get.only
    (record { earlier = get.earlier; laid = get.laid; free = get.free; stands = get.stands; told = get.told; size = get.size; used = get.used; limit = get.limit; sealed = get.sealed; count = get.count })
    (get.stands pages agrees ready.stands) ready

pub returns-clause-likely : goal.returns-clause-likely
returns-clause-likely g c = λ pages agrees ready held.
    get_likely g.S.Pages c.args.space.now c.get.new.self pages c.args.page _ c.get.ensures.laid held c.get.ensures.fault
