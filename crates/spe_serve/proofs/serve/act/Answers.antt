use Rattle.std.proofs.Common.{subst}
use Rattle.std.specs.Prelude.{ℕ, List}
use Rattle.spe_serve.specs.RunEnding.{EndsRun}
use Rattle.spe_serve.proofs.EndingLemmas.{ends_fault, ends_on_failure, ends_refused, ends_unasked}
use Rattle.spe_serve.proofs.RunEndingLemmas.{asks_some, few_names, names_are, never_one, run_on_failure, serves_no_other, serves_some, short_run_for}
use Rattle.spe_serve.proofs.serve.act.Goals as goal

pub serve-requires-clause-few : goal.serve-requires-clause-few
serve-requires-clause-few g c = few_names c.args.words.now c.args.asked.now _ c.requires.read (rw c.in-Some.is at c.serving.ensures)

pub returns-in-Some-clause-run : goal.returns-in-Some-clause-run
returns-in-Some-clause-run g c = λ db names workers retries slots asks.
    subst (λ (ns : List (List ℕ)). EndsRun g.D.Disk g.C.Scripts g.W.Sink c.args.disk c.serve.result.1 c.args.scripts.now c.serve.new.scripts c.args.out.now c.serve.new.out ns c.serve.result.0.order c.serve.result.0.status)
    (names_are c.args.words.now c.args.asked.now _ c.requires.read (rw c.in-Some.is at c.serving.ensures) db names workers retries slots asks) c.serve.ensures

pub returns-in-Some-clause-other : goal.returns-in-Some-clause-other
returns-in-Some-clause-other g c = λ none. absurd (serves_some c.args.words.now c.args.asked.now _ c.requires.read (rw c.in-Some.is at c.serving.ensures) none)

pub returns-in-Some-clause-made : goal.returns-in-Some-clause-made
returns-in-Some-clause-made g c = λ k asks none. absurd (serves_no_other c.args.words.now c.args.asked.now _ c.requires.read (rw c.in-Some.is at c.serving.ensures) k asks none)

pub returns-in-Some-clause-unasked : goal.returns-in-Some-clause-unasked
returns-in-Some-clause-unasked g c = λ e. absurd (never_one g.D.Disk g.C.Scripts g.W.Sink c.args.disk _ _ _ _ _ _ _ _ c.serve.ensures e)

pub returns-in-Some-clause-refused : goal.returns-in-Some-clause-refused
returns-in-Some-clause-refused g c = λ none. absurd (asks_some c.args.words.now c.args.asked.now _ c.requires.read (rw c.in-Some.is at c.serving.ensures) none)

pub returns-in-Some-clause-sink : goal.returns-in-Some-clause-sink
returns-in-Some-clause-sink g c = run_on_failure g.W.Sink _ _ c.serve.ensures.run _ c.serve.ensures.prints

pub returns-in-Some-clause-untouched : goal.returns-in-Some-clause-untouched
returns-in-Some-clause-untouched g c = λ none. absurd (asks_some c.args.words.now c.args.asked.now _ c.requires.read (rw c.in-Some.is at c.serving.ensures) none)

pub returns-in-None-clause-run : goal.returns-in-None-clause-run
returns-in-None-clause-run g c =
    short_run_for g.D.Disk g.C.Scripts g.W.Sink c.args.disk _ _ _ _ c.args.words.now c.args.asked.now _ _ c.requires.read (rw c.in-None.is at c.serving.ensures) c.answer.ensures.order c.answer.ensures.short

pub returns-in-None-clause-other : goal.returns-in-None-clause-other
returns-in-None-clause-other g c = λ none. record { ends = c.answer.ensures.ends; order_is = c.answer.ensures.order; leaves = c.answer.ensures.leaves }

pub returns-in-None-clause-made : goal.returns-in-None-clause-made
returns-in-None-clause-made g c = λ k asks none. c.answer.ensures.made k asks

pub returns-in-None-clause-unasked : goal.returns-in-None-clause-unasked
returns-in-None-clause-unasked g c = ends_unasked g.W.Sink _ _ c.args.words.now _ _ _ _ c.answer.ensures.ends

pub returns-in-None-clause-refused : goal.returns-in-None-clause-refused
returns-in-None-clause-refused g c = ends_refused g.W.Sink _ _ c.args.words.now _ _ _ _ c.answer.ensures.ends

pub returns-in-None-clause-sink : goal.returns-in-None-clause-sink
returns-in-None-clause-sink g c = ends_on_failure g.W.Sink _ _ c.args.words.now _ _ _ _ c.answer.ensures.ends

pub answer-requires-clause-none : goal.answer-requires-clause-none
answer-requires-clause-none g c = rw c.in-None.is at c.serving.ensures
