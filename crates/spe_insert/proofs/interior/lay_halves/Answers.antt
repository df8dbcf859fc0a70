use Rattle.std.proofs.Common.{refl}
use Rattle.spe_insert.proofs.LeafLemmas.{IsTurn, parts_fail, two_laid}
use Rattle.spe_insert.proofs.NodeLemmas.{not_first}
use Rattle.spe_insert.proofs.interior.lay_halves.Goals as goal

pub returns-in-Ok-lay_lower-clause-laid : goal.returns-in-Ok-lay_lower-clause-laid
returns-in-Ok-lay_lower-clause-laid g c = λ pages agrees ready held other.
    let s = c.args.space.now in
    let a = c.lay_lower.new.space in
    let b = c.take_page.new.space in
    let e = c.lay_lower-2.new.space in
    let page = c.args.page in
    let next = c.in-Ok-take_page.next in
    let agrees_b = c.in-Ok-lay_lower.ensures.kept.earlier pages agrees in
    let first = c.in-Ok.ensures.shifts pages (c.in-Ok-take_page.ensures.kept.earlier pages agrees_b) ready held other in
    let take = c.in-Ok-take_page.ensures.shifts pages agrees_b first.ready (c.shifts_law.ensures.none a pages) in
    let later = not_first next (take.front refl) in
    let turn : IsTurn g.S.Pages s a b pages page next c.args.low.now = record { other = other; held = held; lays = c.in-Ok.ensures.node other; first = first; then_ = take } in
    two_laid g.S.Pages c.shifts_law.ensures.both c.shifts_law.ensures.beside c.shifts_law.ensures.alike s a b e pages page next c.args.low.now c.args.high.now turn
    (c.in-Ok-lay_lower.ensures.node later) (c.in-Ok-lay_lower.ensures.shifts pages agrees take.ready (take.held (c.shifts_law.ensures.none a pages)) later)

pub returns-in-Ok-lay_lower-clause-spares : goal.returns-in-Ok-lay_lower-clause-spares
returns-in-Ok-lay_lower-clause-spares g c = λ pages agrees ready held other. (returns-in-Ok-lay_lower-clause-laid g c pages agrees ready held other).shifts.spares

pub returns-in-Err-lay_lower-clause-spares : goal.returns-in-Err-lay_lower-clause-spares
returns-in-Err-lay_lower-clause-spares g c = λ pages agrees ready held other.
    let s = c.args.space.now in
    let a = c.lay_lower.new.space in
    let b = c.take_page.new.space in
    let e = c.lay_lower-2.new.space in
    let page = c.args.page in
    let next = c.in-Ok-take_page.next in
    let agrees_b = c.in-Err-lay_lower.ensures.kept.earlier pages agrees in
    let first = c.in-Ok.ensures.shifts pages (c.in-Ok-take_page.ensures.kept.earlier pages agrees_b) ready held other in
    let take = c.in-Ok-take_page.ensures.shifts pages agrees_b first.ready (c.shifts_law.ensures.none a pages) in
    let later = not_first next (take.front refl) in
    let turn : IsTurn g.S.Pages s a b pages page next c.args.low.now = record { other = other; held = held; lays = c.in-Ok.ensures.node other; first = first; then_ = take } in
    parts_fail g.S.Pages c.shifts_law.ensures.both c.shifts_law.ensures.beside c.shifts_law.ensures.spares c.shifts_law.ensures.spares_beside s a b e pages page next 0 c.args.low.now turn
    (c.in-Err-lay_lower.ensures.spares pages agrees take.ready (take.held (c.shifts_law.ensures.none a pages)) later)
