-- Operations one after the other, of which the last turns the recovered pages into new ones.
use Rattle.std.proofs.Common.{◌≡◌, ℕ, List, [], ◌∷◌, refl, sym, ap, subst, ◌∙◌, inl, inr}
use Rattle.spe_model.specs.Content.{Content}
use Rattle.spe_model.specs.Covered.{Recovers}
use Rattle.spe_model.specs.Rollback.{cut_of}
use Rattle.spe_model.specs.Trace.{IsCut, Operation, after, made_by}
use Rattle.spe_transactions.specs.Made.{Makes}
use Rattle.spe_transactions.specs.Work.{Works}
use Rattle.spe_rewrite.specs.Idle.{AreIdle}
use Rattle.spe_rewrite.specs.Turns.{IsBeforeOrAfter, Turns}

-- one operation more before them, which leaves the pages
pub turns_next : (size : ℕ) (content : Content) (o : Operation) (os : List Operation) (before new : List (List ℕ)) (journalled written : Works)
    → Recovers content before → Makes content o before before journalled written → Turns size (made_by o content) os before new → Turns size content (o ∷ os) before new
turns_next size content o os before new journalled written recovers m t = record { covered = (m.covered, t.covered); stops = stops; ends = t.ends }
  where
    same : (c : Operation) (cs : List Operation) → c ≡ o → cs ≡ os → c ∷ cs ≡ o ∷ os
    same c cs first rest = ap (λ (x : Operation). x ∷ cs) first ∙ ap (λ (xs : List Operation). o ∷ xs) rest

    whole : (c : Operation) (cs : List Operation) → c ≡ o → IsBeforeOrAfter (made_by o content) os cs before new → IsBeforeOrAfter content (o ∷ os) (c ∷ cs) before new
    whole c cs is (inl old) = inl (subst (λ (x : Operation). Recovers (after (made_by x content) cs) before) (sym is) old)
    whole c cs is (inr all) = inr (same c cs is all.0, subst (λ (x : Operation). Recovers (after (made_by x content) cs) new) (sym is) all.1)

    stops : (cut : List Operation) → IsCut (o ∷ os) cut → IsBeforeOrAfter content (o ∷ os) cut before new
    stops [] cut = inl recovers
    stops (c ∷ cs) (inl made) = whole c cs made.0 (t.stops cs made.1)
    stops (c ∷ cs) (inr torn) = inl (subst (λ (rest : List Operation). Recovers (after (made_by c content) rest) before) (sym torn.1) (m.torn c torn.0))

-- the last of them is the cut of the journal, which turns the pages
pub turns_last : (size : ℕ) (content : Content) (before new : List (List ℕ)) (journalled written : Works)
    → Recovers content before → Makes content (cut_of 0) before new journalled written → AreIdle size (made_by (cut_of 0) content) new → Turns size content (cut_of 0 ∷ []) before new
turns_last size content before new journalled written recovers m idle = record { covered = (m.covered, tt); stops = stops; ends = idle }
  where
    whole : (c : Operation) (cs : List Operation) → c ≡ cut_of 0 → cs ≡ [] → IsBeforeOrAfter content (cut_of 0 ∷ []) (c ∷ cs) before new
    whole c cs is none =
        let all : c ∷ cs ≡ cut_of 0 ∷ [] = ap (λ (x : Operation). x ∷ cs) is ∙ ap (λ (xs : List Operation). cut_of 0 ∷ xs) none in
        inr (all, subst (λ (xs : List Operation). Recovers (after content xs) new) (sym all) idle.recovers)

    nothing : (cs : List Operation) → IsCut [] cs → cs ≡ []
    nothing [] cut = refl
    nothing (c ∷ cs) cut = absurd cut

    stops : (cut : List Operation) → IsCut (cut_of 0 ∷ []) cut → IsBeforeOrAfter content (cut_of 0 ∷ []) cut before new
    stops [] cut = inl recovers
    stops (c ∷ cs) (inl made) = whole c cs made.0 (nothing cs made.1)
    stops (c ∷ cs) (inr torn) = absurd torn.0

-- no operations, where the new pages are those before
pub turns_none : (size : ℕ) (content : Content) (before new : List (List ℕ)) → new ≡ before → AreIdle size content before → Turns size content [] before new
turns_none size content before new same idle = record { covered = tt; stops = stops; ends = subst (AreIdle size content) (sym same) idle }
  where
    stops : (cut : List Operation) → IsCut [] cut → IsBeforeOrAfter content [] cut before new
    stops [] cut = inl idle.recovers
    stops (c ∷ cs) cut = absurd cut
