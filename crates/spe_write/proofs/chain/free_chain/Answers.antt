use Rattle.std.proofs.Common.{◌≡◌, ◌∙◌, ◌-◌, ℕ, length, min, sym, ap, subst, arith}
use Rattle.spe_model.specs.Chain.{IsAmiss, next_page}
use Rattle.spe_space.specs.Calls.{sight}
use Rattle.spe_write.specs.Chain.{IsLeft, pages_of_chain}
use Rattle.spe_write.proofs.LinkLemmas.{keeps_both, written_back}
use Rattle.spe_write.proofs.FreeLemmas.{ahead, left_fails, left_more, left_none}
use Rattle.spe_write.proofs.chain.free_chain.Goals as goal

pub returns-in-Err-clause-spares : goal.returns-in-Err-clause-spares
returns-in-Err-clause-spares g c = λ pages agrees whole.
    let s = c.args.space.now in
    let now = c.links.space in
    let all = pages_of_chain (g.S.Pages.used s) (sight g.S.Pages s pages) c.args.bytes c.args.first in
    let is = ahead g.S.Pages c.shifts_law.ensures.apart s now pages all c.links.left c.links.page c.links-test.true whole.held whole.later
    (c.links.invariant.left pages (c.in-Err.ensures.kept.earlier pages agrees) whole) in
    left_fails g.S.Pages c.shifts_law.ensures.spares c.shifts_law.ensures.spares_beside s now c.free_link.new.space pages all c.links.left c.links.page is
    (c.in-Err.ensures.spares pages agrees is.shifts.ready is.one is.low)

pub returns-in-Err-clause-likely : goal.returns-in-Err-clause-likely
returns-in-Err-clause-likely g c = λ pages agrees whole writable.
    let s = c.args.space.now in
    let now = c.links.space in
    let all = pages_of_chain (g.S.Pages.used s) (sight g.S.Pages s pages) c.args.bytes c.args.first in
    let is = ahead g.S.Pages c.shifts_law.ensures.apart s now pages all c.links.left c.links.page c.links-test.true whole.held whole.later
    (c.links.invariant.left pages (c.in-Err.ensures.kept.earlier pages agrees) whole) in
    let size = c.min-left.ensures ∙ ap (min c.links.left) c.from-room.ensures ∙ ap (λ (u : ℕ). min c.links.left (u - 4)) c.usable.ensures.value in
    let e : c.links.left - c.min-left.result ≡ c.links.left - (g.S.Pages.used s - 4) = omega (arith, size) in
    c.in-Err.ensures.likely pages agrees is.shifts.ready is.one (c.links.invariant.kept.sealed ∙ writable) is.low
    (subst (λ (n : ℕ). IsAmiss n (next_page (sight g.S.Pages now pages) c.links.page) → ⊥) (sym e) is.well)

pub links-preserved : goal.links-preserved
links-preserved g c =
    let whole_buf : length c.as_mut_slice.result.now ≡ length c.links.buf.items = ap length c.as_mut_slice.ensures.value in
    let s = c.args.space.now in
    let now = c.links.space in
    let new = c.free_link.new.space in
    let size = c.min-left.ensures ∙ ap (min c.links.left) c.from-room.ensures ∙ ap (λ (u : ℕ). min c.links.left (u - 4)) c.usable.ensures.value in
    let e : c.links.left - c.min-left.result ≡ c.links.left - (g.S.Pages.used s - 4) = omega (arith, size) in
    record {
      kept = keeps_both g.S.Pages s now new c.links.invariant.kept c.in-Ok.ensures.kept;
      refusal = c.in-Ok.ensures.refusal ∙ c.links.invariant.refusal;
      buf = written_back c.links.buf.len c.free_link.new.buf c.links.buf.items (omega (arith, c.free_link.auto.buf, whole_buf)) (omega (arith, c.as_mut_slice.ensures.len, whole_buf)) ∙ c.links.invariant.buf;
      left = λ pages agrees whole.
          let all = pages_of_chain (g.S.Pages.used s) (sight g.S.Pages s pages) c.args.bytes c.args.first in
          let is = ahead g.S.Pages c.shifts_law.ensures.apart s now pages all c.links.left c.links.page c.links-test.true whole.held whole.later
          (c.links.invariant.left pages (c.in-Ok.ensures.kept.earlier pages agrees) whole) in
          subst (λ (n : ℕ). IsLeft g.S.Pages s new pages all n c.in-Ok.next) (sym e)
          (left_more g.S.Pages c.shifts_law.ensures.both c.shifts_law.ensures.beside c.forest_law.ensures.chain s now new pages all c.links.left c.links.page c.in-Ok.next is
          (c.in-Ok.ensures.given pages agrees is.shifts.ready is.one is.low));
    }

pub returns-clause-freed : goal.returns-clause-freed
returns-clause-freed g c = λ pages agrees whole.
    let s = c.args.space.now in
    left_none g.S.Pages s c.links.space pages (pages_of_chain (g.S.Pages.used s) (sight g.S.Pages s pages) c.args.bytes c.args.first) c.links.left c.links.page c.links-test.false
    (c.links.invariant.left pages agrees whole)
