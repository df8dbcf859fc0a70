use Rattle.std.proofs.Common.{◌≡◌, ◌<◌, ◌∙◌, ℕ, List, [], sym, ap, arith, inl, inr, true, false}
use Rattle.std.proofs.lemmas.Bool.{cases_lt}
use Rattle.spe_store.specs.Call.{is_free}
use Rattle.spe_store.specs.Event.{Event}
use Rattle.spe_cases_session.proofs.tests.begin.begun.Goals as goal

first_id : (events : List Event) (id : ℕ) → events ≡ [] → ((i : ℕ) → i < id → is_free events i ≡ false) → id ≡ 0
first_id events id none lowest = elim (cases_lt 0 id) [
  | inl some ↦ absurd (let both : true ≡ false = sym (ap (λ (es : List Event). is_free es 0) none) ∙ lowest 0 some in cc)
  | inr zero_only ↦ omega (arith, zero_only)
]

pub over_pass-requires-clause-id : goal.over_pass-requires-clause-id
over_pass-requires-clause-id c = first_id _ c.in-Ok.pass.id c.in_ok-store.ensures.events c.in-Ok.ensures.begun.lowest
