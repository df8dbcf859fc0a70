-- Traces one after the other, and what a stop leaves of a covered one.
use Rattle.std.proofs.Common.{◌≡◌, ℕ, ◌≤◌, List, [], ◌∷◌, ◌++◌, length, refl, arith, ap, ◌∙◌, ⊎_elim, inl, length-append}
use Rattle.spe_model.specs.declared.file.FileNo.TheVariants.{Database, Journal}
use Rattle.spe_model.specs.Content.{Content}
use Rattle.spe_model.specs.Covered.{Covered, IsCovered, IsSafe}
use Rattle.spe_model.specs.Recovery.{recovered}
use Rattle.spe_model.specs.Trace.{IsCut, IsTorn, Operation, after, made_by}
use Rattle.spe_model.specs.Trace.Operation.{Write, Cut}
use Rattle.spe_crash.proofs.WriteLemmas.{safe_keeps}

pub after-append : (content : Content) (xs ys : List Operation) → after content (xs ++ ys) ≡ after (after content xs) ys
after-append content [] ys = refl
after-append content (x ∷ xs) ys = after-append (made_by x content) xs ys

covered_rest : (content : Content) (xs ys : List Operation) → Covered content (xs ++ ys) → Covered (after content xs) ys
covered_rest content [] ys covered = covered
covered_rest content (x ∷ xs) ys covered = covered_rest (made_by x content) xs ys covered.1

-- fewer bytes from the same place on are as safe
pub safe_shorter : (content : Content) (at size less : ℕ) → less ≤ size → IsSafe content at size → IsSafe content at less
safe_shorter content at size less below s = record {
  pages = s.pages;
  recovers = s.recovers;
  page = s.page;
  within = record { numbered = s.within.numbered; from = s.within.from; to = omega (arith, s.within.to) };
  safe = s.safe;
}

pub torn_keeps : (content : Content) (trace : List Operation) (at : ℕ) (bytes other : List ℕ) → Covered content (trace ++ Write Database at bytes ∷ []) → length other ≤ length bytes
    → recovered (after content (trace ++ Write Database at other ∷ [])) ≡ recovered (after content trace)
torn_keeps content trace at bytes other covered short =
    let now = after content trace in
    let last = covered_rest content trace (Write Database at bytes ∷ []) covered in
    ap recovered (after-append content trace (Write Database at other ∷ []))
    ∙ safe_keeps now at other (safe_shorter now at (length bytes) (length other) short last.0)

pub front_short : (bytes front rest : List ℕ) → bytes ≡ front ++ rest → length front ≤ length bytes
front_short bytes front rest is = omega (arith, ap length is, length-append front rest)

pub torn_covered : (content : Content) (o c : Operation) → IsCovered content o → IsTorn o c → IsCovered content c
torn_covered content (Write Database at bytes) (Write Database place front) covered torn =
    rw (← torn.1) (safe_shorter content at (length bytes) (length front) (front_short bytes front torn.2.0 torn.2.1) covered)
torn_covered content (Write Database at bytes) (Write (Journal id) place front) covered torn = absurd (let no_file = torn.0 in cc)
torn_covered content (Write (Journal id) at bytes) (Write Database place front) covered torn = absurd (let no_file = torn.0 in cc)
torn_covered content (Write (Journal id) at bytes) (Write (Journal other) place front) covered torn = let same : id ≡ other = let e = torn.0 in cc in rw (← torn.1, ← same) covered
torn_covered content (Write file at bytes) (Cut other size) covered torn = absurd torn
torn_covered content (Cut file size) c covered torn = absurd torn

pub cut_whole : (trace : List Operation) → IsCut trace trace
cut_whole [] = tt
cut_whole (o ∷ os) = inl (refl, cut_whole os)

pub cut_covered : (content : Content) (trace cut : List Operation) → Covered content trace → IsCut trace cut → Covered content cut
cut_covered content trace [] covered cut = tt
cut_covered content [] (c ∷ cs) covered cut = absurd cut
cut_covered content (o ∷ os) (c ∷ cs) covered cut = ⊎_elim
    (λ (whole : (c ≡ o) × IsCut os cs). rw whole.0 (covered.0, cut_covered (made_by o content) os cs covered.1 whole.1))
    (λ (torn : IsTorn o c × (cs ≡ [])). (torn_covered content o c covered.0 torn.0, rw torn.1 tt))
    cut
