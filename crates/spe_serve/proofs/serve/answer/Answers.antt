use Rattle.spe_serve.proofs.EndingLemmas.{ends_by, made_at}
use Rattle.spe_serve.proofs.RunEndingLemmas.{short_prints}
use Rattle.spe_serve.proofs.serve.answer.Goals as goal

pub returns-clause-ends : goal.returns-clause-ends
returns-clause-ends g c =
    ends_by g.W.Sink _ _ c.args.words.now _ _ _ _ c.carry_out-outcome.result.0 _ c.carry_out-outcome.ensures.outcome c.carry_out-outcome.ensures.made
    c.put_outcome-status.ensures

pub returns-clause-made : goal.returns-clause-made
returns-clause-made g c = λ k asked. made_at g.W.Sink _ _ k _ _ c.carry_out-outcome.result.0 _ c.put_outcome-status.ensures (c.carry_out-outcome.ensures.made k asked)

pub returns-clause-short : goal.returns-clause-short
returns-clause-short g c = λ e.
    let short = c.carry_out-outcome.ensures.short e in
    (short_prints g.W.Sink _ _ c.carry_out-outcome.result.0 _ short.0 c.put_outcome-status.ensures, short.1)
