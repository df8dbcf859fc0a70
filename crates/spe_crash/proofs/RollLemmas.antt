-- Traces that keep the recovered pages at each step.
use Rattle.std.proofs.Common.{◌≡◌, ℕ, List, [], ◌∷◌, ◌++◌, length, ◌∙◌, ⊎_elim}
use Rattle.spe_model.specs.declared.file.FileNo.TheVariants.{Database, Journal}
use Rattle.spe_model.specs.Content.{Content}
use Rattle.spe_model.specs.Covered.{Covered, IsCovered, Recovers}
use Rattle.spe_model.specs.Trace.{IsCut, IsTorn, Operation, after, made_by}
use Rattle.spe_model.specs.Trace.Operation.{Write, Cut}
use Rattle.spe_crash.proofs.TraceLemmas.{front_short, safe_shorter}
use Rattle.spe_crash.proofs.WriteLemmas.{safe_keeps}

-- the operation writes no journal
abbrev pub IsNoSave : Operation → Type 0
IsNoSave (Write Database at bytes) = Unit {0}
IsNoSave (Write (Journal id) at bytes) = ⊥
IsNoSave (Cut file size) = Unit {0}

-- these are the recovered pages before, between and after the operations, each of which is covered
abbrev pub Rolls : List (List ℕ) → Content → List Operation → Type 0
Rolls pages content [] = Recovers content pages
Rolls pages content (o ∷ os) = Recovers content pages × IsCovered content o × IsNoSave o × Rolls pages (made_by o content) os

pub rolls_first : (pages : List (List ℕ)) (content : Content) (ops : List Operation) → Rolls pages content ops → Recovers content pages
rolls_first pages content [] rolls = rolls
rolls_first pages content (o ∷ os) rolls = rolls.0

pub Rolls-append : (pages : List (List ℕ)) (content : Content) (xs ys : List Operation) → Rolls pages content xs → Rolls pages (after content xs) ys → Rolls pages content (xs ++ ys)
Rolls-append pages content [] ys a b = b
Rolls-append pages content (x ∷ xs) ys a b = (a.0, a.1, a.2, Rolls-append pages (made_by x content) xs ys a.3 b)

torn_recovers : (pages : List (List ℕ)) (content : Content) (o c : Operation) → Recovers content pages → IsCovered content o → IsNoSave o → IsTorn o c → Recovers (made_by c content) pages
torn_recovers pages content (Write Database at bytes) (Write Database place front) recovers covered none torn =
    safe_keeps content place front
    (rw (← torn.1) (safe_shorter content at (length bytes) (length front) (front_short bytes front torn.2.0 torn.2.1) covered))
    ∙ recovers
torn_recovers pages content (Write Database at bytes) (Write (Journal id) place front) recovers covered none torn = absurd (let no_file = torn.0 in cc)
torn_recovers pages content (Write (Journal id) at bytes) c recovers covered none torn = absurd none
torn_recovers pages content (Write Database at bytes) (Cut other size) recovers covered none torn = absurd torn
torn_recovers pages content (Cut file size) c recovers covered none torn = absurd torn

-- a stop among them leaves the pages, too
pub rolls_cut : (pages : List (List ℕ)) (content : Content) (ops cut : List Operation) → Rolls pages content ops → IsCut ops cut → Recovers (after content cut) pages
rolls_cut pages content ops [] rolls cut = rolls_first pages content ops rolls
rolls_cut pages content [] (c ∷ cs) rolls cut = absurd cut
rolls_cut pages content (o ∷ os) (c ∷ cs) rolls cut = ⊎_elim
    (λ (whole : (c ≡ o) × IsCut os cs). rw whole.0 (rolls_cut pages (made_by o content) os cs rolls.3 whole.1))
    (λ (torn : IsTorn o c × (cs ≡ [])). rw torn.1 (torn_recovers pages content o c rolls.0 rolls.1 rolls.2 torn.0))
    cut

pub rolls_covered : (pages : List (List ℕ)) (content : Content) (ops : List Operation) → Rolls pages content ops → Covered content ops
rolls_covered pages content [] rolls = tt
rolls_covered pages content (o ∷ os) rolls = (rolls.1, rolls_covered pages (made_by o content) os rolls.3)
