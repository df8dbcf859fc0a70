-- Texts put together.
use Rattle.std.proofs.Common.{◌≡◌, ℕ, List, ◌++◌, ap, sym, ◌∙◌, append_assoc, Result, Ok, Err}
use Rattle.std.specs.Prelude.{OnOk}

pub appended : {X E : Type 0} (result : Result X E) (old mid new words tail text : List ℕ) → mid ≡ old ++ words → text ≡ words ++ tail
    → OnOk result (new ≡ mid ++ tail) → OnOk result (new ≡ old ++ text)
appended (Ok x) old mid new words tail text first is put =
    put ∙ ap (λ (front : List ℕ). front ++ tail) first ∙ append_assoc old words tail ∙ ap (λ (more : List ℕ). old ++ more) (sym is)
appended (Err e) old mid new words tail text first is put = tt
