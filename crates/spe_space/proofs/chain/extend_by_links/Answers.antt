use Rattle.std.proofs.Common.{◌-◌, ◌∙◌, ap, min, arith}
use Rattle.spe_space.specs.Calls.{reads_both}
use Rattle.spe_space.specs.Found.{numbered_where}
use Rattle.spe_space.proofs.ChainLemmas.{has_rest_more, has_place_more, adds_more, misses_link, rest_amiss, rest_end}
use Rattle.spe_space.proofs.chain.extend_by_links.Goals as goal

pub returns-then-is_amiss-clause-found : goal.returns-then-is_amiss-clause-found
returns-then-is_amiss-clause-found g c =
    rest_amiss g.S.Pages c.args.space.now c.take_link.new.space c.args.first c.args.bytes c.args.out.now.items _ _ _
    (has_rest_more g.S.Pages c.args.space.now c.links.space c.take_link.new.space c.args.first c.args.bytes c.args.out.now.items c.links.out.items c.take_link.new.out.items
    c.links.left c.links.page c.in-Ok.next c.min-here.result c.links-test.true c.links.invariant.kept c.in-Ok.ensures.kept
    (c.min-here.ensures ∙ ap (min c.links.left) c.from.ensures ∙ ap (λ u. min c.links.left (u - 4)) c.usable-usable.ensures.value) c.in-Ok.ensures.given c.links.invariant.rest)
    (c.is_amiss.ensures.amiss c.if-is_amiss.true)

pub links-preserved : goal.links-preserved
links-preserved g c =
    let space = c.args.space.now in
    let size = c.min-here.ensures ∙ ap (min c.links.left) c.from.ensures ∙ ap (λ u. min c.links.left (u - 4)) c.usable-usable.ensures.value in
    record {
      kept = reads_both g.S.Pages space c.links.space c.take_link.new.space c.links.invariant.kept c.in-Ok.ensures.kept;
      refusal = c.in-Ok.ensures.refusal ∙ c.links.invariant.refusal;
      buf = omega (arith, c.take_link.auto.buf, c.links.invariant.buf);
      rest = has_rest_more g.S.Pages space c.links.space c.take_link.new.space c.args.first c.args.bytes c.args.out.now.items c.links.out.items c.take_link.new.out.items
          c.links.left c.links.page c.in-Ok.next c.min-here.result c.links-test.true c.links.invariant.kept c.in-Ok.ensures.kept size c.in-Ok.ensures.given c.links.invariant.rest;
      place = has_place_more g.S.Pages space c.links.space c.take_link.new.space c.args.first c.args.bytes c.links.out.items c.take_link.new.out.items
          c.links.left c.links.page c.in-Ok.next c.min-here.result c.links.invariant.kept c.in-Ok.ensures.kept size c.in-Ok.ensures.given c.links.invariant.place;
      numbered = λ first. numbered_where (c.links.left - c.min-here.result) c.in-Ok.next (c.is_amiss.ensures.well c.if-is_amiss.false);
      adds = adds_more g.S.Pages space c.links.space c.take_link.new.space c.args.first c.args.bytes c.links.left c.links.page c.links-test.true c.in-Ok.ensures.kept
          c.in-Ok.ensures.only c.links.invariant.place c.links.invariant.adds;
    }

pub returns-clause-found : goal.returns-clause-found
returns-clause-found g c = λ pages agrees chain. rest_end _ _ _ _ _ _ c.links-test.false (c.links.invariant.rest pages agrees chain)

pub returns-in-Err-clause-page_out : goal.returns-in-Err-clause-page_out
returns-in-Err-clause-page_out g c = λ first.
    misses_link g.S.Pages c.args.space.now c.links.space c.take_link.new.space c.args.first c.args.bytes c.links.left c.links.page c.in-Err.fault
    c.links-test.true (c.links.invariant.numbered first) c.in-Err.ensures.kept c.links.invariant.place c.in-Err.ensures.page_out
