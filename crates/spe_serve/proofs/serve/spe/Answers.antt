use Rattle.spe_serve.proofs.EndingLemmas.{ends_fault}
use Rattle.spe_serve.proofs.RunEndingLemmas.{built_serves_none}
use Rattle.spe_serve.proofs.StayLemmas.{answers_stay}
use Rattle.spe_serve.proofs.serve.spe.Goals as goal

pub returns-clause-ends : goal.returns-clause-ends
returns-clause-ends g c = λ none. (c.act.ensures.other none).ends

pub returns-clause-order : goal.returns-clause-order
returns-clause-order g c = λ none. (c.act.ensures.other none).order_is

pub returns-clause-fault : goal.returns-clause-fault
returns-clause-fault g c = λ none. ends_fault g.W.Sink _ _ c.args.words _ _ _ _ (c.act.ensures.other none).ends

pub returns-clause-part : goal.returns-clause-part
returns-clause-part g c = λ k asked none. (c.act.ensures.made k asked none).part

pub returns-clause-made : goal.returns-clause-made
returns-clause-made g c = λ fault memory k asked none. (c.act.ensures.made k asked none).whole fault memory

pub returns-clause-settled : goal.returns-clause-settled
returns-clause-settled g c = λ fault memory k asked built. (c.act.ensures.made k asked (built_serves_none k built)).settled fault memory built

pub returns-clause-leaves : goal.returns-clause-leaves
returns-clause-leaves g c = λ none. (c.act.ensures.other none).leaves

pub returns-clause-crash : goal.returns-clause-crash
returns-clause-crash g c = λ none. answers_stay c.args.words _ _ c.recovered_pages.ensures.headed c.legal_law.ensures.complete c.verdict_law.ensures.one (c.act.ensures.other none).leaves

pub act-requires-clause-read : goal.act-requires-clause-read
act-requires-clause-read g c = record { command = c.read_words-asked.ensures.command; no_other = c.read_words-asked.ensures.no_other; none = c.read_words-asked.ensures.none }
