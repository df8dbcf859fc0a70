-- What all that was put leaves, once it was saved and written.
use Rattle.std.proofs.Common.{◌≡◌, ◌<◌, ◌≤◌, ◌+◌, ◌∙◌, ℕ, List, true, false, Option, Some, None, Result, Ok, Err, OnOk, OnErr, sym, ap, subst, arith, ⊎_elim}
use Rattle.std.specs.Prelude.{is_none, is_some}
use Rattle.std.specs.Borrow.{Bor}
use Rattle.std.proofs.lemmas.Bool.{cases_lt}
use Rattle.spe_store.specs.Event.{Event, written_in}
use Rattle.spe_store.specs.Store.{Store}
use Rattle.spe_session.specs.Alone.{IsAlone}
use Rattle.spe_session.specs.Ending.{FailsEnd}
use Rattle.spe_session.specs.Pages.{AreUpTo, IsFirstFrom, are_numbered, laid_in}
use Rattle.spe_session.specs.Working.{Carries, IsWrittenTo, Writes}
use Rattle.spe_session.proofs.FrontLemmas.{first_put}
use Rattle.spe_session.proofs.PageLemmas.{laid_above, laid_none}
use Rattle.spe_session.proofs.WorkingLemmas.{carries_both, fails_stopped}

-- where nothing was put, nothing is laid
pub none_laid : (first : Option (ℕ × Bor (List ℕ))) (count pages size : ℕ) (dirty : List (ℕ × List ℕ)) → IsFirstFrom 0 dirty first → is_none first ≡ true → AreUpTo pages dirty → are_numbered count pages dirty ≡ true
    → (p : ℕ) → laid_in count pages size dirty p ≡ None
none_laid (Some f) count pages size dirty none is placed numbered p = absurd cc
none_laid None count pages size dirty none is placed numbered p = ⊎_elim
    (λ (above : count < p). laid_above count pages size p dirty placed (few above))
    (λ (low : p ≤ count). laid_none count pages size dirty p (none p (omega arith)) low)
    (cases_lt count p)
  where
    few : count < p → pages < p
    few above = ⊎_elim
        (λ (more : count < pages). absurd (let both : false ≡ true = sym (ap is_some (none 1 (omega arith))) ∙ first_put count pages dirty numbered more in cc))
        (λ (same : pages ≤ count). omega (arith, above, same))
        (cases_lt count pages)

pub written_laid : {X E : Type 0} (result : Result X E) (count count' pages size size' : ℕ) (dirty : List (ℕ × List ℕ)) (es : List Event) (id id' : ℕ) → AreUpTo pages dirty → count' ≡ count → size' ≡ size → id' ≡ id
    → OnOk result (IsWrittenTo (pages + 1) (laid_in count' pages size' dirty) (written_in es id')) → OnOk result ((p : ℕ) → written_in es id p ≡ laid_in count pages size dirty p)
written_laid (Err e) count count' pages size size' dirty es id id' placed same_count same_size same_id w = tt
written_laid (Ok x) count count' pages size size' dirty es id id' placed same_count same_size same_id w = λ p.
    ap (λ (n : ℕ). written_in es n p) (sym same_id)
    ∙ ⊎_elim
    (λ (low : p < pages + 1). w.done p low)
    (λ (above : pages + 1 ≤ p). w.left p above ∙ sym (laid_above count' pages size' p dirty placed (omega (arith, above))))
    (cases_lt p (pages + 1))
    ∙ ap (λ (n : ℕ). laid_in n pages size' dirty p) same_count ∙ ap (λ (n : ℕ). laid_in count pages n dirty p) same_size

pub carries_written : {X E : Type 0} (result : Result X E) (id id' : ℕ) (a b c : List Event) → id' ≡ id → Carries id a b → Writes id' b c → OnOk result (Carries id a c)
carries_written (Err e) id id' a b c same first second = tt
carries_written (Ok x) id id' a b c same first second = carries_both id a b c first (subst (λ (n : ℕ). Carries n b c) same second.carries)

pub fails_written : {X E : Type 0} (result : Result X E) (id id' : ℕ) (old mid new : Store) → id' ≡ id → Carries id old.events mid.events → Writes id' mid.events new.events → new.page_size ≡ old.page_size → IsAlone old.events id
    → OnErr result (is_some new.desk.stopped ≡ true) → OnErr result (FailsEnd id old new)
fails_written (Ok x) id id' old mid new same first second sized alone stops = tt
fails_written (Err e) id id' old mid new same first second sized alone stops =
    fails_stopped id old new (carries_both id old.events mid.events new.events first (subst (λ (n : ℕ). Carries n mid.events new.events) same second.carries)) sized stops alone
