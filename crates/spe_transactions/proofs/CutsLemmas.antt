-- What a stop leaves of a trace, and of a trace with one operation more.
use Rattle.std.proofs.Common.{◌≡◌, ℕ, zero, suc, ◌+◌, ◌<◌, ◌≤◌, List, [], ◌∷◌, ◌++◌, length, take, refl, sym, ap, ◌∙◌, arith, subst, Some, ⊎_elim, inl, inr}
use Rattle.std.specs.Prelude.{slice_get}
use Rattle.std.proofs.lemmas.Bool.{cases_lt}
use Rattle.std.proofs.lemmas.List.{length-append, take-append-le, take_all}
use Rattle.spe_model.specs.Trace.{IsCut, IsTorn, Operation}
use Rattle.spe_transactions.specs.Kept.{IsTornNext, Stops}

get_front : {X : Type 0} (xs ys : List X) (n : ℕ) → n < length xs → slice_get (xs ++ ys) n ≡ slice_get xs n
get_front [] ys n low = absurd (omega arith)
get_front (x ∷ xs) ys zero low = refl
get_front (x ∷ xs) ys (suc n) low = get_front xs ys n (omega arith)

get_last : {X : Type 0} (xs : List X) (y : X) → slice_get (xs ++ y ∷ []) (length xs) ≡ Some y
get_last [] y = refl
get_last (x ∷ xs) y = get_last xs y

-- a cut of a trace with one operation more is a cut of the trace, all of it with that operation torn, or the whole
pub data Ends (trace : List Operation) (o : Operation) (whole : ℕ) (cut : List Operation) : Type 0 where
  Before : Stops trace whole cut → Ends trace o whole cut
  InLast : (part : Operation) → IsTorn o part → whole ≡ length trace → cut ≡ trace ++ part ∷ [] → Ends trace o whole cut
  Whole : whole ≡ length trace + 1 → cut ≡ trace ++ o ∷ [] → Ends trace o whole cut

whole_last : (trace : List Operation) (o : Operation) → take (length trace + 1) (trace ++ o ∷ []) ≡ trace ++ o ∷ []
whole_last trace o = take_all (length trace + 1) (trace ++ o ∷ []) (omega (arith, length-append trace (o ∷ [])))

none_behind : (trace : List Operation) (n : ℕ) (next : Operation) → slice_get trace n ≡ Some next → n < length trace
none_behind [] n next there = absurd cc
none_behind (o ∷ os) zero next there = omega arith
none_behind (o ∷ os) (suc n) next there = let rest = none_behind os n next there in omega arith

pub ends : (trace : List Operation) (o : Operation) (whole : ℕ) (cut : List Operation) → Stops (trace ++ o ∷ []) whole cut → Ends trace o whole cut
ends trace o whole cut s = ⊎_elim
    (λ (low : whole < length trace + 1).
    let front : take whole (trace ++ o ∷ []) ≡ take whole trace = take-append-le whole trace (o ∷ []) (omega arith) in
    ⊎_elim
    (λ (is : cut ≡ take whole (trace ++ o ∷ [])). Before (record { within = omega arith; left = inl (is ∙ front) }))
    (λ (t : (part : Operation) × IsTornNext (trace ++ o ∷ []) whole part × (cut ≡ take whole (trace ++ o ∷ []) ++ part ∷ [])).
    let is : cut ≡ take whole trace ++ t.0 ∷ [] = t.2 ∙ ap (λ (os : List Operation). os ++ t.0 ∷ []) front in
    ⊎_elim
    (λ (inside : whole < length trace).
    Before (record { within = omega arith; left = inr (t.0, record { next = t.1.next; there = sym (get_front trace (o ∷ []) whole inside) ∙ t.1.there; torn = t.1.torn }, is) }))
    (λ (last : length trace ≤ whole).
    let at : whole ≡ length trace = omega arith in
    let both : Some t.1.next ≡ Some o = sym t.1.there ∙ ap (slice_get (trace ++ o ∷ [])) at ∙ get_last trace o in
    let next : t.1.next ≡ o = cc in
    InLast t.0 (subst (λ (x : Operation). IsTorn x t.0) next t.1.torn) at (is ∙ ap (λ (os : List Operation). os ++ t.0 ∷ []) (ap (λ (n : ℕ). take n trace) at ∙ take_all (length trace) trace (omega arith))))
    (cases_lt whole (length trace)))
    s.left)
    (λ (high : length trace + 1 ≤ whole).
    let at : whole ≡ length trace + 1 = omega (arith, s.within, length-append trace (o ∷ [])) in
    ⊎_elim
    (λ (is : cut ≡ take whole (trace ++ o ∷ [])). Whole at (is ∙ ap (λ (n : ℕ). take n (trace ++ o ∷ [])) at ∙ whole_last trace o))
    (λ (t : (part : Operation) × IsTornNext (trace ++ o ∷ []) whole part × (cut ≡ take whole (trace ++ o ∷ []) ++ part ∷ [])).
    absurd (let inside : whole < length (trace ++ o ∷ []) = none_behind (trace ++ o ∷ []) whole t.1.next t.1.there in omega (arith, length-append trace (o ∷ []))))
    s.left)
    (cases_lt whole (length trace + 1))

pub cuts_stop : (trace cut : List Operation) → IsCut trace cut → (whole : ℕ) × Stops trace whole cut
cuts_stop trace [] is = (0, record { within = omega arith; left = inl refl })
cuts_stop [] (c ∷ cs) is = absurd is
cuts_stop (o ∷ os) (c ∷ cs) is = ⊎_elim
    (λ (same : (c ≡ o) × IsCut os cs). next o os c cs same.0 (cuts_stop os cs same.1))
    (λ (torn : IsTorn o c × (cs ≡ [])). (0, record { within = omega arith; left = inr (c, record { next = o; there = refl; torn = torn.0 }, ap (λ (rest : List Operation). c ∷ rest) torn.1) }))
    is
  where
    next : (o : Operation) (os : List Operation) (c : Operation) (cs : List Operation) → c ≡ o → (whole : ℕ) × Stops os whole cs → (whole : ℕ) × Stops (o ∷ os) whole (c ∷ cs)
    next o os c cs same s = (
      suc s.0,
      record {
        within = let low = s.1.within in omega arith;
        left = ⊎_elim
            (λ (is : cs ≡ take s.0 os). inl (ap (λ (x : Operation). x ∷ cs) same ∙ ap (λ (rest : List Operation). o ∷ rest) is))
            (λ (t : (part : Operation) × IsTornNext os s.0 part × (cs ≡ take s.0 os ++ part ∷ [])).
            inr (t.0, record { next = t.1.next; there = t.1.there; torn = t.1.torn }, ap (λ (x : Operation). x ∷ cs) same ∙ ap (λ (rest : List Operation). o ∷ rest) t.2))
            s.1.left;
      },
    )

-- what a stop leaves by its numbers is a cut
pub stop_cut : (trace : List Operation) (whole : ℕ) (cut : List Operation) → Stops trace whole cut → IsCut trace cut
stop_cut trace zero cut s = ⊎_elim
    (λ (is : cut ≡ []). rw is (none trace))
    (λ (t : (part : Operation) × IsTornNext trace 0 part × (cut ≡ part ∷ [])). rw t.2 (torn trace t.0 t.1))
    s.left
  where
    none : (os : List Operation) → IsCut os []
    none os = tt

    torn : (os : List Operation) (part : Operation) → IsTornNext os 0 part → IsCut os (part ∷ [])
    torn [] part t = absurd (let no_op = t.there in cc)
    torn (o ∷ os) part t = let there = t.there in let same : t.next ≡ o = cc in inr (subst (λ (x : Operation). IsTorn x part) same t.torn, refl)
stop_cut [] (suc n) cut s = absurd (let low = s.within in omega arith)
stop_cut (o ∷ os) (suc n) cut s = ⊎_elim
    (λ (is : cut ≡ o ∷ take n os). rw is (inl (refl, stop_cut os n (take n os) (record { within = let low = s.within in omega arith; left = inl refl }))))
    (λ (t : (part : Operation) × IsTornNext (o ∷ os) (suc n) part × (cut ≡ o ∷ take n os ++ part ∷ [])).
    rw t.2 (inl (refl, stop_cut os n (take n os ++ t.0 ∷ []) (record { within = let low = s.within in omega arith; left = inr (t.0, record { next = t.1.next; there = t.1.there; torn = t.1.torn }, refl) }))))
    s.left

none_left : (cs : List Operation) → IsCut [] cs → cs ≡ []
none_left [] is = refl
none_left (c ∷ cs) is = absurd is

-- a cut of one operation is nothing, or all of it, or some first bytes
pub one_cut : (o : Operation) (left : List Operation) (P : List Operation → Type 0) → P [] → P (o ∷ []) → ((part : Operation) → IsTorn o part → P (part ∷ [])) → IsCut (o ∷ []) left → P left
one_cut o [] P none whole torn is = none
one_cut o (c ∷ cs) P none whole torn is = ⊎_elim
    (λ (same : (c ≡ o) × IsCut [] cs).
    let all : c ∷ cs ≡ o ∷ [] = ap (λ (x : Operation). x ∷ cs) same.0 ∙ ap (λ (rest : List Operation). o ∷ rest) (none_left cs same.1) in
    subst P (sym all) whole)
    (λ (t : IsTorn o c × (cs ≡ [])). subst P (sym (ap (λ (rest : List Operation). c ∷ rest) t.1)) (torn c t.0))
    is
