use Rattle.std.proofs.Common.{arith}
use Rattle.spe_delete.proofs.RootLemmas.{RootLaws, child_held, child_still, lowers, root_held}
use Rattle.spe_delete.proofs.root.lower_root.Goals as goal

pub returns-in-Ok-give_page-clause-lowered : goal.returns-in-Ok-give_page-clause-lowered
returns-in-Ok-give_page-clause-lowered g c = λ pages agrees ready held other low.
    let s = c.args.space.now in
    let a = c.see_page.new.space in
    let b = c.lay_page.new.space in
    let root = c.args.root in
    let child = c.args.child in
    let laws : RootLaws g.S.Pages = record {
      idle = c.shifts_law.ensures.idle;
      both = c.shifts_law.ensures.both;
      beside = c.shifts_law.ensures.beside;
      alike = c.shifts_law.ensures.alike;
      spares = c.shifts_law.ensures.spares;
      spares_beside = c.shifts_law.ensures.spares_beside;
      spares_alike = c.shifts_law.ensures.spares_alike;
      apart = c.shifts_law.ensures.apart;
    } in
    let agrees_b = c.in-Ok-give_page.ensures.kept.earlier pages agrees in
    let agrees_a = c.in-Ok-lay_page.ensures.kept.earlier pages agrees_b in
    let seen = c.in-Ok.ensures.shifts pages agrees_a ready (child_held g.S.Pages laws s a pages root child held) in
    let laid = c.in-Ok-lay_page.ensures.shifts pages agrees_b seen.ready (root_held g.S.Pages laws s a pages root child held seen) (λ first. absurd (other first)) in
    let freed = c.in-Ok-give_page.ensures.shifts pages agrees laid.ready (child_still g.S.Pages laws s a pages root child held seen b laid) low in
    lowers g.S.Pages laws s a pages root child held seen b laid c.give_page.new.space
    (let wide = c.usable-usable.ensures.range in let value = c.usable-usable.ensures.value in omega (arith, wide.0, value)) ready c.see_page.new.buf (c.in-Ok.ensures.bytes pages agrees_a)
    c.in-Ok-lay_page.ensures.put other low freed
