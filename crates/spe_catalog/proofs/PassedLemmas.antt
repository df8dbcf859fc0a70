-- A fault that is handed on.
use Rattle.std.proofs.Common.{◌≡◌, Result, Ok, Err, sym, subst}
use Rattle.std.specs.Prelude.{IsErrAnd}

abbrev failed : {X E : Type 0} → E → Result X E
failed e = Err e

-- what holds of the fault holds of the answer that has it
pub handed_on : {X E : Type 0} (P : Result X E → Type 0) (result : Result X E) (fault : E) → IsErrAnd result (λ e. e ≡ fault) → P (failed fault) → P result
handed_on P (Ok x) fault is holds = absurd is
handed_on P (Err e) fault is holds = subst (λ f. P (failed f)) (sym is) holds
