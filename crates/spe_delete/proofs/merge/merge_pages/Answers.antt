use Rattle.spe_delete.proofs.MergeLemmas.{MergeLaws, first_held, merges, second_held}
use Rattle.spe_delete.proofs.merge.merge_pages.Goals as goal

pub returns-in-Ok-give_page-clause-merged : goal.returns-in-Ok-give_page-clause-merged
returns-in-Ok-give_page-clause-merged g c = λ fit pages agrees ready held later low.
    let s = c.args.space.now in
    let a = c.lay_node.new.space in
    let laws : MergeLaws g.S.Pages = record {
      both = c.shifts_law.ensures.both;
      beside = c.shifts_law.ensures.beside;
      alike = c.shifts_law.ensures.alike;
      spares = c.shifts_law.ensures.spares;
      spares_beside = c.shifts_law.ensures.spares_beside;
      spares_alike = c.shifts_law.ensures.spares_alike;
      apart = c.shifts_law.ensures.apart;
    } in
    let agrees_a = c.in-Ok-give_page.ensures.kept.earlier pages agrees in
    let laid = c.in-Ok.ensures.shifts pages agrees_a ready (first_held g.S.Pages laws s a pages c.args.first c.args.second held) in
    merges g.S.Pages laws s a pages c.args.first c.args.second held laid c.give_page.new.space c.args.cells.now later (c.in-Ok.ensures.node c.if-not-fit.false)
    (c.in-Ok-give_page.ensures.shifts pages agrees laid.ready (second_held g.S.Pages laws s a pages c.args.first c.args.second held laid) low)
