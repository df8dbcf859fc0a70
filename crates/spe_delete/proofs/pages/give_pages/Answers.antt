use Rattle.std.proofs.Common.{◌∙◌}
use Rattle.spe_delete.proofs.PagesLemmas.{first_off, freed_fails, freed_more, keeps_then, next_is}
use Rattle.spe_delete.proofs.pages.give_pages.Goals as goal

pub returns-in-Err-clause-spares : goal.returns-in-Err-clause-spares
returns-in-Err-clause-spares g c = λ pages agrees ready held later.
    let s = c.args.space.now in
    let a = c.frees.space in
    let left = c.frees.left.now in
    let off = first_off left 0 c.in-len1-up.len_at_least in
    let next = next_is g.S.Pages c.shifts_law.ensures.apart s a pages c.args.list.now left _ _ off held later
    (c.frees.invariant.freed pages (c.in-Err.ensures.kept.earlier pages agrees) ready held later) in
    freed_fails g.S.Pages c.shifts_law.ensures.spares c.shifts_law.ensures.spares_beside s a c.give_page.new.space pages c.args.list.now _ _ next
    (c.in-Err.ensures.spares pages agrees next.shifts.ready next.held next.low)

pub returns-in-Err-clause-likely : goal.returns-in-Err-clause-likely
returns-in-Err-clause-likely g c = λ pages agrees ready held unsealed later.
    let s = c.args.space.now in
    let a = c.frees.space in
    let left = c.frees.left.now in
    let off = first_off left 0 c.in-len1-up.len_at_least in
    let next = next_is g.S.Pages c.shifts_law.ensures.apart s a pages c.args.list.now left _ _ off held later
    (c.frees.invariant.freed pages (c.in-Err.ensures.kept.earlier pages agrees) ready held later) in
    c.in-Err.ensures.likely pages agrees next.shifts.ready next.held (c.frees.invariant.kept.sealed ∙ unsealed) next.low

pub frees-preserved : goal.frees-preserved
frees-preserved g c =
    let s = c.args.space.now in
    let a = c.frees.space in
    let left = c.frees.left.now in
    let off = first_off left 0 c.in-len1-up.len_at_least in
    record {
      kept = keeps_then g.S.Pages s a c.give_page.new.space c.frees.invariant.kept c.in-Ok.ensures.kept;
      refusal = c.in-Ok.ensures.refusal ∙ c.frees.invariant.refusal;
      freed = λ pages agrees ready held later.
          let next = next_is g.S.Pages c.shifts_law.ensures.apart s a pages c.args.list.now left _ _ off held later
          (c.frees.invariant.freed pages (c.in-Ok.ensures.kept.earlier pages agrees) ready held later) in
          freed_more g.S.Pages c.shifts_law.ensures.both c.shifts_law.ensures.beside s a c.give_page.new.space pages c.args.list.now _ _ next
          (c.in-Ok.ensures.shifts pages agrees next.shifts.ready next.held next.low);
    }
