use Rattle.std.proofs.Common.{arith, sym, ◌∙◌, subst, Result, List, ℕ}
use Rattle.spe_model.specs.declared.recovery.RecoverFault.{RecoverFault}
use Rattle.spe_recover.specs.Survey.{Surveys}
use Rattle.spe_recover.proofs.FrontLemmas.{laid_size}
use Rattle.spe_recover.proofs.SurveyLemmas.{hot_shared, hot_single, front_laid}
use Rattle.spe_recover.proofs.survey.survey_hot.Goals as goal

pub returns-in-Some-clause-surveys : goal.returns-in-Some-clause-surveys
returns-in-Some-clause-surveys c = λ content paged sized scanned is. hot_shared content c.args.page_size c.args.seen.now _ paged scanned c.in-Some.is

pub survey_with-requires-clause-paged : goal.survey_with-requires-clause-paged
survey_with-requires-clause-paged c = c.requires.paged ∙ sym (laid_size c.args.front.now c.lay_rest.new.front _ (omega arith) (omega arith) c.lay_rest.ensures)

pub returns-clause-surveys : goal.returns-clause-surveys
returns-clause-surveys c = λ content paged sized scanned is.
    subst (λ (outcome : Result (List (List ℕ)) RecoverFault). Surveys content c.survey_with.result outcome)
    (sym (hot_single content c.args.page_size c.args.seen.now paged scanned c.in_default.is))
    (c.survey_with.ensures.surveys content paged sized scanned
    (front_laid content c.args.page_size c.args.seen.now c.args.front.now _ paged (omega arith) (omega arith) scanned is c.lay_rest.ensures))
