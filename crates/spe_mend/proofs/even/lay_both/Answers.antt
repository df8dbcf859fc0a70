use Rattle.spe_delete.proofs.MergeLemmas.{MergeLaws, first_held, second_held}
use Rattle.spe_mend.proofs.EvenLemmas.{both_laid, second_ready}
use Rattle.spe_mend.proofs.even.lay_both.Goals as goal

pub returns-in-Ok-lay_lower-clause-laid : goal.returns-in-Ok-lay_lower-clause-laid
returns-in-Ok-lay_lower-clause-laid g c = λ pages agrees ready held later later_second.
    let s = c.args.space.now in
    let a = c.lay_lower.new.space in
    let b = c.see_page.new.space in
    let e = c.lay_lower-2.new.space in
    let first = c.args.first in
    let second = c.args.second in
    let laws : MergeLaws g.S.Pages = record {
      both = c.shifts_law.ensures.both;
      beside = c.shifts_law.ensures.beside;
      alike = c.shifts_law.ensures.alike;
      spares = c.shifts_law.ensures.spares;
      spares_beside = c.shifts_law.ensures.spares_beside;
      spares_alike = c.shifts_law.ensures.spares_alike;
      apart = c.shifts_law.ensures.apart;
    } in
    let agrees_b = c.in-Ok-lay_lower.ensures.kept.earlier pages agrees in
    let agrees_a = c.in-Ok-see_page.ensures.reads.earlier pages agrees_b in
    let laid = c.in-Ok.ensures.shifts pages agrees_a ready (first_held g.S.Pages laws s a pages first second held) later in
    let seen = c.in-Ok-see_page.ensures.shifts pages agrees_b laid.ready (second_held g.S.Pages laws s a pages first second held laid) in
    let put = c.in-Ok-lay_lower.ensures.shifts pages agrees seen.ready (second_ready g.S.Pages laws s a pages first second held laid b seen) later_second in
    both_laid g.S.Pages laws s a pages first second held laid b seen e put c.args.low.now c.args.high.now later (c.in-Ok.ensures.node later) (c.in-Ok-lay_lower.ensures.node later_second)
