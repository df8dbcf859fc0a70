-- A recovery goes on, stops, and ends.
use Rattle.std.proofs.Common.{◌≡◌, ℕ, List, [], ◌∷◌, ◌++◌, length, take, drop, refl, sym, ap, ◌∙◌, subst, inl, inr}
use Rattle.std.proofs.lemmas.List.{append-nil, append_assoc, take-append-drop}
use Rattle.spe_model.specs.Content.{Content}
use Rattle.spe_model.specs.Covered.{Recovers}
use Rattle.spe_model.specs.Recovery.{journal_of}
use Rattle.spe_model.specs.Rollback.{rule_of}
use Rattle.spe_model.specs.Trace.{IsCut, IsTorn, Operation, after, made_by}
use Rattle.spe_model.specs.Trace.Operation.{Write, Cut}
use Rattle.spe_crash.proofs.RollLemmas.{rolls_cut}
use Rattle.spe_crash.proofs.RollbackLemmas.{rolled_back}
use Rattle.spe_crash.proofs.TraceLemmas.{after-append, cut_whole}
use Rattle.spe_core.specs.Changed.{first_only, torn_first}
use Rattle.spe_transactions.proofs.OpeningLemmas.{opening_works}
use Rattle.spe_core.specs.Sound.{AreServed, IsRecovering}
use Rattle.spe_core.specs.State.{Live}
use Rattle.spe_core.proofs.SoundState.{nobody_served}

cut_front : (xs ys : List Operation) → IsCut (xs ++ ys) xs
cut_front [] ys = tt
cut_front (x ∷ xs) ys = inl (refl, cut_front xs ys)

cut_torn : (xs ys : List Operation) (o torn : Operation) → IsTorn o torn → IsCut (xs ++ o ∷ ys) (xs ++ torn ∷ [])
cut_torn [] ys o torn is = inr (is, refl)
cut_torn (x ∷ xs) ys o torn is = inl (refl, cut_torn xs ys o torn is)

-- what a cut of a recovery leaves
cut_recovers : (first : Content) (pages : List (List ℕ)) (cut : List Operation) → Recovers first pages → IsCut (rule_of first (length pages)) cut → Recovers (after first cut) pages
cut_recovers first pages cut recovers is = rolls_cut pages first (rule_of first (length pages)) cut (rolled_back first pages recovers).rolls is

module _ (live : List (ℕ × Live)) (content : Content) (pages : List (List ℕ)) (o : Operation) (left : List Operation) (r : IsRecovering live content pages (o ∷ left)) where
  -- one operation more is made
  pub op_recovers : Recovers (made_by o content) pages
  op_recovers =
      let cut : IsCut (rule_of r.first (length pages)) (r.made ++ o ∷ []) =
      rw (r.rule ∙ sym (append_assoc r.made (o ∷ []) left)) (cut_front (r.made ++ o ∷ []) left) in
      let is : after r.first (r.made ++ o ∷ []) ≡ made_by o content = after-append r.first r.made (o ∷ []) ∙ ap (made_by o) (sym r.now) in
      subst (λ (c : Content). Recovers c pages) is (cut_recovers r.first pages (r.made ++ o ∷ []) r.recovers cut)

  pub op_made : IsRecovering live (made_by o content) pages left
  op_made = record {
    nobody = r.nobody;
    first = r.first;
    made = r.made ++ o ∷ [];
    recovers = r.recovers;
    rule = r.rule ∙ sym (append_assoc r.made (o ∷ []) left);
    now = ap (made_by o) r.now ∙ sym (after-append r.first r.made (o ∷ []));
  }

  torn_made : (torn : Operation) → IsTorn o torn → Recovers (made_by torn content) pages
  torn_made torn is_torn =
      let cut : IsCut (rule_of r.first (length pages)) (r.made ++ torn ∷ []) = rw r.rule (cut_torn r.made left o torn is_torn) in
      let is : after r.first (r.made ++ torn ∷ []) ≡ made_by torn content = after-append r.first r.made (torn ∷ []) ∙ ap (made_by torn) (sym r.now) in
      subst (λ (c : Content). Recovers c pages) is (cut_recovers r.first pages (r.made ++ torn ∷ []) r.recovers cut)

-- some first bytes of the next operation are made, where it is a write
pub op_torn : (live : List (ℕ × Live)) (content : Content) (pages : List (List ℕ)) (left : List Operation) (n : ℕ) → Recovers content pages → IsRecovering live content pages left
    → Recovers (after content (torn_first (first_only left) n)) pages
op_torn live content pages [] n recovers r = recovers
op_torn live content pages (Write file at bytes ∷ os) n recovers r =
    torn_made live content pages (Write file at bytes) os r (Write file at (take n bytes)) (refl, refl, (drop n bytes, sym (take-append-drop n bytes)))
op_torn live content pages (Cut file size ∷ os) n recovers r = recovers

-- after all operations the files are served, with no transaction
pub ends_served : (slots : ℕ) (live : List (ℕ × Live)) (content : Content) (pages : List (List ℕ)) → length content ≡ 17 → IsRecovering live content pages [] → AreServed slots live content pages
ends_served slots live content pages files r =
    let all : rule_of r.first (length pages) ≡ r.made = r.rule ∙ append-nil r.made in
    let is : after r.first (rule_of r.first (length pages)) ≡ content = ap (after r.first) all ∙ sym r.now in
    let back = rolled_back r.first pages r.recovers in
    let recovers : Recovers content pages =
    subst (λ (c : Content). Recovers c pages) is (cut_recovers r.first pages (rule_of r.first (length pages)) r.recovers (cut_whole (rule_of r.first (length pages)))) in
    nobody_served slots live content pages r.nobody
    (opening_works content pages files recovers (λ id low. ap (λ (c : Content). journal_of c id) (sym is) ∙ back.empty id low))
