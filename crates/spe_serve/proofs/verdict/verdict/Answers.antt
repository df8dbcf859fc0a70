use Rattle.std.proofs.Common.{◌≡◌, ◌∙◌, Result, Ok, sym, ap}
use Rattle.std.proofs.lemmas.Bool.{false≢true}
use Rattle.spe_model.specs.declared.header.Header.{Header}
use Rattle.spe_model.specs.declared.header.HeaderFault.{HeaderFault}
use Rattle.spe_model.specs.declared.verdict.Verdict.{Verdict}
use Rattle.spe_model.specs.Verdict.{verdict_of}
use Rattle.spe_space.specs.Calls.{sight}
use Rattle.spe_serve.proofs.VerdictLemmas.{fault_same, front_named}
use Rattle.spe_serve.proofs.verdict.verdict.Goals as goal

abbrev found : Header → Result Header HeaderFault
found header = Ok header

pub returns-in-Err-clause-verdict : goal.returns-in-Err-clause-verdict
returns-in-Err-clause-verdict g c = λ pages agrees front.
    fault_same Header Verdict (λ found. found ≡ front.header)
    (λ found. found ≡ verdict_of (g.S.Pages.used c.args.space.now) c.args.pages (sight g.S.Pages c.args.space.now pages)) c.in-Err.fault
    (c.in-Err.ensures.front pages agrees front.header front.legal)

pub returns-then-not-names_front-clause-verdict : goal.returns-then-not-names_front-clause-verdict
returns-then-not-names_front-clause-verdict g c = λ pages agrees front.
    let named = front_named c.in-Ok.header _ _ _ _ _ front (c.in-Ok.ensures.front pages agrees front.header front.legal)
    (c.page_size-size.ensures.value ∙ c.in-Ok.ensures.kept.size) (c.usable-used.ensures.value ∙ c.in-Ok.ensures.kept.used) in
    absurd (false≢true (sym c.if-not-names_front.true ∙ (c.names_front.ensures ∙ named)))

pub returns-in-Ok-check-clause-verdict : goal.returns-in-Ok-check-clause-verdict
returns-in-Ok-check-clause-verdict g c = λ pages agrees front.
    let earlier = c.in-Ok-check.ensures.kept.earlier pages agrees in
    let read : c.in-Ok.header ≡ front.header = c.in-Ok.ensures.front pages earlier front.header front.legal in
    rw (c.in-Ok.ensures.kept.laid, c.in-Ok.ensures.kept.used) at (c.in-Ok-check.ensures.verdict pages agrees)
    (front.legal ∙ ap found (sym read))
