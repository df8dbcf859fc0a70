use Rattle.spe_words.proofs.CommandLemmas.{any_none}
use Rattle.spe_words.proofs.settings.read_settings.Goals as goal

pub returns-in_err-workers-clause-none : goal.returns-in_err-workers-clause-none
returns-in_err-workers-clause-none c = any_none c.from_residual.result (λ threads _ _ s. c.in_err-workers.ensures.none threads s.workers)

pub returns-in_err-retries-clause-none : goal.returns-in_err-retries-clause-none
returns-in_err-retries-clause-none c = any_none c.from_residual-in_err-retries.result (λ _ tries _ s. c.in_err-retries.ensures.none tries s.retries)

pub returns-in_err-slots-clause-none : goal.returns-in_err-slots-clause-none
returns-in_err-slots-clause-none c = any_none c.from_residual-in_err-slots.result (λ _ _ locks s. c.in_err-slots.ensures.none locks s.slots)
