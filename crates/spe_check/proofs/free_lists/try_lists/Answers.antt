use Rattle.std.proofs.Common.{◌≤◌, ◌∙◌, ℕ, arith, subst}
use Rattle.spe_check.proofs.FreeLemmas.{among_all, among_break, among_more}
use Rattle.spe_check.proofs.ShownLemmas.{shows_before, walked_both}
use Rattle.spe_check.specs.FreeLists.{TriesPages}
use Rattle.spe_check.proofs.TriesLemmas.{the_ok, the_err}
use Rattle.spe_model.specs.Verdict.{list_marks}
use Rattle.spe_model.specs.Walk.{walk_trunks}
use Rattle.spe_check.proofs.free_lists.try_lists.Goals as goal

pub returns-in-Err-clause-tried : goal.returns-in-Err-clause-tried
returns-in-Err-clause-tried g c = λ usable pages shows.
    let now = shows_before g.S.Pages c.loop-index.space c.try_list.new.space usable pages c.in-Err.ensures.walked.reads shows in
    let T : ℕ → Type 0 = λ n. TriesPages c.loop-index.met c.try_list.new.met (list_marks usable c.loop-index.met.pages pages c.args.node n) (walk_trunks pages c.loop-index.met.pages n) (the_err ℕ c.in-Err.halt) in
    among_break usable pages c.args.met.now c.loop-index.met c.try_list.new.met c.args.node c.loop-index.index c.args.count c.loop-index.free c.args.names.now c.in-Err.halt
    c.loop-index-test.true c.loop-index.invariant.walked.pages (c.loop-index.invariant.among usable pages now) (subst T c.u32_of-first.ensures (c.in-Err.ensures.tried usable pages shows))

pub loop-index-preserved : goal.loop-index-preserved
loop-index-preserved g c = record {
  walked = walked_both g.S.Pages c.args.space.now c.loop-index.space c.try_list.new.space c.args.met.now c.loop-index.met c.try_list.new.met c.loop-index.invariant.walked c.in-Ok.ensures.walked;
  refusal = c.in-Ok.ensures.refusal ∙ c.loop-index.invariant.refusal;
  buf = omega (arith, c.try_list.auto.buf, c.loop-index.invariant.buf);
  few = omega (arith, c.in-Ok.ensures.few, c.loop-index.invariant.few);
  among = λ usable pages shows.
      let now = shows_before g.S.Pages c.loop-index.space c.try_list.new.space usable pages c.in-Ok.ensures.walked.reads shows in
      let T : ℕ → Type 0 = λ n. TriesPages c.loop-index.met c.try_list.new.met (list_marks usable c.loop-index.met.pages pages c.args.node n) (walk_trunks pages c.loop-index.met.pages n) (the_ok ℕ c.in-Ok.more) in
      among_more usable pages c.args.met.now c.loop-index.met c.try_list.new.met c.args.node c.loop-index.index c.args.count c.loop-index.free c.in-Ok.more c.args.names.now
      c.loop-index-test.true c.loop-index.invariant.walked.pages (c.loop-index.invariant.among usable pages now) (subst T c.u32_of-first.ensures (c.in-Ok.ensures.tried usable pages shows));
}

pub returns-clause-tried : goal.returns-clause-tried
returns-clause-tried g c = λ usable pages shows.
    let over : c.args.count ≤ c.loop-index.index = omega (arith, c.loop-index-test.false) in
    among_all usable pages c.args.met.now c.loop-index.met c.args.node c.loop-index.index c.args.count c.loop-index.free c.args.names.now over (c.loop-index.invariant.among usable pages shows)
