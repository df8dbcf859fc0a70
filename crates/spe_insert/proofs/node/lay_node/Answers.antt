use Rattle.std.proofs.Common.{◌≤◌, [], ◌∷◌, length, arith}
use Rattle.spe_space.specs.Calls.{sight}
use Rattle.spe_frame.specs.Held.{HasHead}
use Rattle.spe_insert.proofs.NodeLemmas.{head_same, head_written}
use Rattle.spe_insert.proofs.node.lay_node.Goals as goal

pub returns-in-Ok-lay_page-clause-shifts : goal.returns-in-Ok-lay_page-clause-shifts
returns-in-Ok-lay_page-clause-shifts g c = λ pages agrees ready held.
    let s = c.args.space.now in
    let seen = c.see_head.new.space in
    let new = c.lay_page.new.space in
    let page = c.args.page in
    let agreed = c.in-Ok-lay_page.ensures.kept.earlier pages agrees in
    let see = c.in-Ok.ensures.shifts pages agreed ready held in
    let long : 100 ≤ length c.see_head.new.buf = omega (arith, c.requires.size, c.see_head.auto.buf, (g.met.S.Pages.bounded s).0) in
    let head : HasHead page (sight g.S.Pages seen pages 1) c.put_page.new.page =
    head_written page c.header_of.result c.usable-usable.result c.args.cells.now c.see_head.new.buf c.put_page.new.page (sight g.S.Pages seen pages 1) c.header_of.ensures.value long
    (head_same g.S.Pages s seen pages page c.see_head.new.buf c.in-Ok.ensures.reads.laid (c.in-Ok.ensures.head pages agreed)) c.put_page.ensures.bytes in
    c.shifts_law.ensures.both s seen new pages (page ∷ []) (page ∷ []) (page ∷ []) 0 0 see (c.in-Ok-lay_page.ensures.shifts pages agrees see.ready (see.held held) head)

pub returns-in-Ok-lay_page-clause-spares : goal.returns-in-Ok-lay_page-clause-spares
returns-in-Ok-lay_page-clause-spares g c = λ pages agrees ready held. (returns-in-Ok-lay_page-clause-shifts g c pages agrees ready held).spares

pub returns-in-Err-lay_page-clause-spares : goal.returns-in-Err-lay_page-clause-spares
returns-in-Err-lay_page-clause-spares g c = λ pages agrees ready held.
    let s = c.args.space.now in
    let seen = c.see_head.new.space in
    let new = c.lay_page.new.space in
    let page = c.args.page in
    let agreed = c.in-Err-lay_page.ensures.kept.earlier pages agrees in
    let see = c.in-Ok.ensures.shifts pages agreed ready held in
    let long : 100 ≤ length c.see_head.new.buf = omega (arith, c.requires.size, c.see_head.auto.buf, (g.met.S.Pages.bounded s).0) in
    let head : HasHead page (sight g.S.Pages seen pages 1) c.put_page.new.page =
    head_written page c.header_of.result c.usable-usable.result c.args.cells.now c.see_head.new.buf c.put_page.new.page (sight g.S.Pages seen pages 1) c.header_of.ensures.value long
    (head_same g.S.Pages s seen pages page c.see_head.new.buf c.in-Ok.ensures.reads.laid (c.in-Ok.ensures.head pages agreed)) c.put_page.ensures.bytes in
    c.shifts_law.ensures.spares s seen new pages (page ∷ []) (page ∷ []) 0 0 see (c.in-Err-lay_page.ensures.spares pages agrees see.ready (see.held held) head)
