use Rattle.std.proofs.Common.{◌∙◌, arith}
use Rattle.spe_check.proofs.ChainLemmas.{along_next, along_halt, along_end}
use Rattle.spe_check.proofs.ShownLemmas.{shows_before, walked_both, broken_refuses_last}
use Rattle.spe_check.proofs.chain.try_chain.Goals as goal

pub returns-in-Err-clause-tried : goal.returns-in-Err-clause-tried
returns-in-Err-clause-tried g c = λ usable pages shows.
    let now = shows_before g.S.Pages c.links.space c.try_link.new.space usable pages c.in-Err.ensures.walked.reads shows in
    let size = now.used ∙ c.links.invariant.walked.reads.used in (
      along_halt usable pages c.args.walk.now.met c.links.walk.met c.try_link.new.walk.met c.args.holder c.args.first c.args.bytes c.args.wanted c.args.walk.now.payload.items c.links.walk.payload.items
          c.links.at c.links.page c.links.left c.in-Err.halt (omega (arith, size, c.usable-usable.ensures.value, c.usable-usable.ensures.range.0)) c.links-test.true c.links.invariant.walked.pages
          (c.links.invariant.along usable pages now) (c.in-Err.ensures.tried usable pages shows).0,
      tt,
    )

pub links-preserved : goal.links-preserved
links-preserved g c = record {
  walked = walked_both g.S.Pages c.args.space.now c.links.space c.try_link.new.space c.args.walk.now.met c.links.walk.met c.try_link.new.walk.met c.links.invariant.walked c.in-Ok.ensures.walked;
  refusal = c.in-Ok.ensures.refusal ∙ c.links.invariant.refusal;
  along = λ usable pages shows.
      let now = shows_before g.S.Pages c.links.space c.try_link.new.space usable pages c.in-Ok.ensures.walked.reads shows in
      let size = now.used ∙ c.links.invariant.walked.reads.used in
      let tried = c.in-Ok.ensures.tried usable pages shows in
      along_next usable pages c.args.walk.now.met c.links.walk.met c.try_link.new.walk.met c.args.holder c.args.first c.args.bytes c.args.wanted c.args.walk.now.payload.items c.links.walk.payload.items c.try_link.new.walk.payload.items
      c.links.at c.links.page c.links.left c.min-here.result c.in-Ok.next (omega (arith, size, c.usable-usable.ensures.value, c.usable-usable.ensures.range.0)) c.links-test.true
      (omega (arith, c.min-here.ensures, c.from.ensures, c.usable-usable.ensures.value, size)) c.links.invariant.walked.pages (c.links.invariant.along usable pages now) tried.0 tried.1.0 tried.1.1;
}

pub returns-clause-tried : goal.returns-clause-tried
returns-clause-tried g c = λ usable pages shows.
    let size = shows.used ∙ c.links.invariant.walked.reads.used in
    along_end usable pages c.args.walk.now.met c.links.walk.met c.args.holder c.args.first c.args.bytes c.args.wanted c.args.walk.now.payload.items c.links.walk.payload.items
    c.links.at c.links.page c.links.left _ (omega (arith, size, c.usable-usable.ensures.value, c.usable-usable.ensures.range.0)) c.links-test.false c.links.invariant.walked.pages
    (c.links.invariant.along usable pages shows) (c.try_none.ensures.tried _ _)

pub returns-clause-refusal : goal.returns-clause-refusal
returns-clause-refusal g c = broken_refuses_last g.S.Pages c.args.space.now c.links.space _ c.links.invariant.refusal c.try_none.ensures.broken
