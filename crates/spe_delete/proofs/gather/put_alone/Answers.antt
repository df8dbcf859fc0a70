use Rattle.std.proofs.Common.{◌∙◌, arith}
use Rattle.spe_delete.proofs.GatherLemmas.{GatherLaws, gathers, give_fails, lay_fails, others_held, others_later, root_held, root_later}
use Rattle.spe_delete.proofs.gather.put_alone.Goals as goal

pub returns-in-Ok-give_pages-clause-gathered : goal.returns-in-Ok-give_pages-clause-gathered
returns-in-Ok-give_pages-clause-gathered g c = λ pages agrees ready held later.
    let s = c.args.space.now in
    let a = c.lay_lower.new.space in
    let laws : GatherLaws g.S.Pages = record {
      idle = c.shifts_law.ensures.idle;
      both = c.shifts_law.ensures.both;
      beside = c.shifts_law.ensures.beside;
      alike = c.shifts_law.ensures.alike;
      spares = c.shifts_law.ensures.spares;
      spares_beside = c.shifts_law.ensures.spares_beside;
      spares_alike = c.shifts_law.ensures.spares_alike;
      apart = c.shifts_law.ensures.apart;
      stay = c.row_law.ensures.stay;
      gathered = c.join_law.ensures.gathered;
    } in
    let agrees_a = c.in-Ok-give_pages.ensures.kept.earlier pages agrees in
    let other = root_later g.S.Pages laws s a pages c.args.root c.args.others.now held later in
    let laid = c.in-Ok.ensures.shifts pages agrees_a ready (root_held g.S.Pages laws s a pages c.args.root c.args.others.now held later) other in
    gathers g.S.Pages laws s a pages c.args.root c.args.others.now held later laid c.give_pages.new.space ready
    (omega (arith, c.usable-usable.ensures.range.0, c.usable-usable.ensures.value)) c.args.cells.now (c.in-Ok.ensures.node other)
    (c.in-Ok-give_pages.ensures.freed pages agrees laid.ready (others_held g.S.Pages laws s a pages c.args.root c.args.others.now held later laid)
    (others_later g.S.Pages laws s a pages c.args.root c.args.others.now held later laid))

pub returns-in-Ok-give_pages-clause-spares : goal.returns-in-Ok-give_pages-clause-spares
returns-in-Ok-give_pages-clause-spares g c = λ pages agrees ready held later.
    (returns-in-Ok-give_pages-clause-gathered g c pages agrees ready held later).shifts.spares

pub returns-in-Err-clause-spares : goal.returns-in-Err-clause-spares
returns-in-Err-clause-spares g c = λ pages agrees ready held later.
    let s = c.args.space.now in
    let a = c.lay_lower.new.space in
    let laws : GatherLaws g.S.Pages = record {
      idle = c.shifts_law.ensures.idle;
      both = c.shifts_law.ensures.both;
      beside = c.shifts_law.ensures.beside;
      alike = c.shifts_law.ensures.alike;
      spares = c.shifts_law.ensures.spares;
      spares_beside = c.shifts_law.ensures.spares_beside;
      spares_alike = c.shifts_law.ensures.spares_alike;
      apart = c.shifts_law.ensures.apart;
      stay = c.row_law.ensures.stay;
      gathered = c.join_law.ensures.gathered;
    } in
    lay_fails g.S.Pages laws s a pages c.args.root c.args.others.now held later
    (c.in-Err.ensures.spares pages agrees ready (root_held g.S.Pages laws s a pages c.args.root c.args.others.now held later)
    (root_later g.S.Pages laws s a pages c.args.root c.args.others.now held later))

pub returns-in-Err-give_pages-clause-spares : goal.returns-in-Err-give_pages-clause-spares
returns-in-Err-give_pages-clause-spares g c = λ pages agrees ready held later.
    let s = c.args.space.now in
    let a = c.lay_lower.new.space in
    let laws : GatherLaws g.S.Pages = record {
      idle = c.shifts_law.ensures.idle;
      both = c.shifts_law.ensures.both;
      beside = c.shifts_law.ensures.beside;
      alike = c.shifts_law.ensures.alike;
      spares = c.shifts_law.ensures.spares;
      spares_beside = c.shifts_law.ensures.spares_beside;
      spares_alike = c.shifts_law.ensures.spares_alike;
      apart = c.shifts_law.ensures.apart;
      stay = c.row_law.ensures.stay;
      gathered = c.join_law.ensures.gathered;
    } in
    let agrees_a = c.in-Err-give_pages.ensures.kept.earlier pages agrees in
    let laid = c.in-Ok.ensures.shifts pages agrees_a ready (root_held g.S.Pages laws s a pages c.args.root c.args.others.now held later) (root_later g.S.Pages laws s a pages c.args.root c.args.others.now held later) in
    give_fails g.S.Pages laws s a pages c.args.root c.args.others.now held later laid c.give_pages.new.space
    (c.in-Err-give_pages.ensures.spares pages agrees laid.ready (others_held g.S.Pages laws s a pages c.args.root c.args.others.now held later laid) (others_later g.S.Pages laws s a pages c.args.root c.args.others.now held later laid))

pub returns-in-Err-give_pages-clause-likely : goal.returns-in-Err-give_pages-clause-likely
returns-in-Err-give_pages-clause-likely g c = λ pages agrees ready held unsealed later.
    let s = c.args.space.now in
    let a = c.lay_lower.new.space in
    let laws : GatherLaws g.S.Pages = record {
      idle = c.shifts_law.ensures.idle;
      both = c.shifts_law.ensures.both;
      beside = c.shifts_law.ensures.beside;
      alike = c.shifts_law.ensures.alike;
      spares = c.shifts_law.ensures.spares;
      spares_beside = c.shifts_law.ensures.spares_beside;
      spares_alike = c.shifts_law.ensures.spares_alike;
      apart = c.shifts_law.ensures.apart;
      stay = c.row_law.ensures.stay;
      gathered = c.join_law.ensures.gathered;
    } in
    let agrees_a = c.in-Err-give_pages.ensures.kept.earlier pages agrees in
    let laid = c.in-Ok.ensures.shifts pages agrees_a ready (root_held g.S.Pages laws s a pages c.args.root c.args.others.now held later) (root_later g.S.Pages laws s a pages c.args.root c.args.others.now held later) in
    c.in-Err-give_pages.ensures.likely pages agrees laid.ready (others_held g.S.Pages laws s a pages c.args.root c.args.others.now held later laid) (c.in-Ok.ensures.kept.sealed ∙ unsealed) (others_later g.S.Pages laws s a pages c.args.root c.args.others.now held later laid)

pub returns-in-Err-clause-likely : goal.returns-in-Err-clause-likely
returns-in-Err-clause-likely g c = λ pages agrees ready held unsealed later.
    let s = c.args.space.now in
    let a = c.lay_lower.new.space in
    let laws : GatherLaws g.S.Pages = record {
      idle = c.shifts_law.ensures.idle;
      both = c.shifts_law.ensures.both;
      beside = c.shifts_law.ensures.beside;
      alike = c.shifts_law.ensures.alike;
      spares = c.shifts_law.ensures.spares;
      spares_beside = c.shifts_law.ensures.spares_beside;
      spares_alike = c.shifts_law.ensures.spares_alike;
      apart = c.shifts_law.ensures.apart;
      stay = c.row_law.ensures.stay;
      gathered = c.join_law.ensures.gathered;
    } in
    c.in-Err.ensures.likely pages agrees ready (root_held g.S.Pages laws s a pages c.args.root c.args.others.now held later) unsealed (root_later g.S.Pages laws s a pages c.args.root c.args.others.now held later)
