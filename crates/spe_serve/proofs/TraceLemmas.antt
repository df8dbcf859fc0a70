-- Operations that are made after others.
use Rattle.std.proofs.Common.{◌≡◌, List, [], ◌∷◌, ◌++◌, refl, sym, ap, subst, ◌∙◌, inl, inr, ⊎_elim, Option, Some, None, append_assoc}
use Rattle.std.specs.Prelude.{◌⊎◌}
use Rattle.std.proofs.lemmas.List.{append-nil}
use Rattle.spe_model.specs.Content.{Content}
use Rattle.spe_model.specs.Covered.{Covered}
use Rattle.spe_model.specs.Trace.{Operation, History, IsCut, IsTorn, after, made_by, present}
use Rattle.spe_disk.specs.Told.{Adds}

pub after_both : (content : Content) (xs ys : List Operation) → after content (xs ++ ys) ≡ after (after content xs) ys
after_both content [] ys = refl
after_both content (o ∷ os) ys = after_both (made_by o content) os ys

-- what a stop leaves of those after, with all those before
pub cut_behind : (xs ys cut : List Operation) → IsCut ys cut → IsCut (xs ++ ys) (xs ++ cut)
cut_behind [] ys cut is = is
cut_behind (o ∷ os) ys cut is = inl (refl, cut_behind os ys cut is)

-- what a stop leaves of those before
pub cut_front : (xs ys cut : List Operation) → IsCut xs cut → IsCut (xs ++ ys) cut
cut_front xs ys [] is = tt
cut_front [] ys (c ∷ cs) is = absurd is
cut_front (o ∷ os) ys (c ∷ cs) is = ⊎_elim
    (λ (whole : (c ≡ o) × IsCut os cs). inl (whole.0, cut_front os ys cs whole.1))
    (λ (torn : IsTorn o c × (cs ≡ [])). inr torn)
    is

pub cut_all : (xs : List Operation) → IsCut xs xs
cut_all [] = tt
cut_all (o ∷ os) = inl (refl, cut_all os)

-- a stop is within those before, or behind them
abbrev pub Behind : (xs ys cut : List Operation) → Type 0
Behind xs ys cut = (rest : List Operation) × (cut ≡ xs ++ rest) × IsCut ys rest

pub cut_either : (xs ys cut : List Operation) → IsCut (xs ++ ys) cut → IsCut xs cut ⊎ Behind xs ys cut
cut_either xs ys [] is = inl tt
cut_either [] ys (c ∷ cs) is = inr (c ∷ cs, refl, is)
cut_either (o ∷ os) ys (c ∷ cs) is = ⊎_elim
    (λ (whole : (c ≡ o) × IsCut (os ++ ys) cs). ⊎_elim
    (λ (front : IsCut os cs). inl (inl (whole.0, front)))
    (λ (behind : Behind os ys cs). inr (behind.0, one_more behind.0 whole.0 behind.1, behind.2))
    (cut_either os ys cs whole.1))
    (λ (torn : IsTorn o c × (cs ≡ [])). inl (inr torn))
    is
  where
    one_more : (rest : List Operation) → c ≡ o → cs ≡ os ++ rest → c ∷ cs ≡ (o ∷ os) ++ rest
    one_more rest first others = cc

pub covered_both : (content : Content) (xs ys : List Operation) → Covered content xs → Covered (after content xs) ys → Covered content (xs ++ ys)
covered_both content [] ys front behind = behind
covered_both content (o ∷ os) ys front behind = (front.0, covered_both (made_by o content) os ys front.1 behind)

-- a history with more operations
abbrev pub more : History → List Operation → History
more h ops = record { first = h.first; trace = h.trace ++ ops }

pub present_more : (h : History) (ops : List Operation) → present (more h ops) ≡ after (present h) ops
present_more h ops = after_both h.first h.trace ops

pub adds_nothing : (told : Option History) → Adds told told []
adds_nothing None = refl
adds_nothing (Some h) = ap (λ (trace : List Operation). Some (record { first = h.first; trace = trace })) (sym (append-nil h.trace))

pub adds_both : (old mid new : Option History) (xs ys : List Operation) → Adds old mid xs → Adds mid new ys → Adds old new (xs ++ ys)
adds_both None mid new xs ys first second = subst (λ (m : Option History). Adds m new ys) first second
adds_both (Some h) mid new xs ys first second =
    subst (λ (m : Option History). Adds m new ys) first second
    ∙ ap (λ (trace : List Operation). Some (record { first = h.first; trace = trace })) (append_assoc h.trace xs ys)
