-- Operations that are made in stages, and what a stop leaves of them.
use Rattle.std.proofs.Common.{◌≡◌, ◌∙◌, ℕ, ◌+◌, List, [], ◌∷◌, ◌++◌, refl, sym, ap, subst, arith, true, false, ⊎_elim}
use Rattle.std.specs.Prelude.{nat_le}
use Rattle.std.proofs.lemmas.Bool.{cases_Bool, leb-true}
use Rattle.spe_model.specs.Content.{Content}
use Rattle.spe_model.specs.Covered.{Covered, Recovers}
use Rattle.spe_model.specs.Paging.{Paging}
use Rattle.spe_model.specs.Standing.{IsOneOf}
use Rattle.spe_model.specs.Trace.{IsCut, Operation, after}
use Rattle.spe_crash.proofs.TraceLemmas.{after-append}
use Rattle.spe_rewrite.specs.declared.change.Change.{Change}
use Rattle.spe_rewrite.specs.Changes.{Ascend}
use Rattle.spe_rewrite.specs.Rewrite.{endings, heading, old_changes, rewrite_of, saving, savings}
use Rattle.spe_rewrite.specs.Turns.{IsFront}
use Rattle.spe_convert.proofs.CutLemmas.{covered_both, cut_behind, cut_longer, cut_parts}

-- what was made of some operations is a beginning of them, and P holds wherever a stop cuts it
pub record Staged (content : Content) (ops made : List Operation) (P : Content → Type 0) : Type 0 where
  pub front : IsCut ops made
  pub covered : Covered content made
  pub stops : (cut : List Operation) → IsCut made cut → P (after content cut)

-- others are to follow
pub staged_short : (content : Content) (xs ys made : List Operation) (P : Content → Type 0) → Staged content xs made P → Staged content (xs ++ ys) made P
staged_short content xs ys made P s = record { front = cut_longer xs ys made s.front; covered = s.covered; stops = s.stops }

-- others followed
pub staged_on : (content next : Content) (xs ys made : List Operation) (P : Content → Type 0) → next ≡ after content xs → Staged content xs xs P → Staged next ys made P
    → Staged content (xs ++ ys) (xs ++ made) P
staged_on content next xs ys made P is first rest = record {
  front = cut_behind xs ys made rest.front;
  covered = covered_both content xs made first.covered (subst (λ (c : Content). Covered c made) is rest.covered);
  stops = λ cut within.
      ⊎_elim
      (λ (short : IsCut xs cut). first.stops cut short)
      (λ (long : (others : List Operation) × (cut ≡ xs ++ others) × IsCut made others).
      let there : after next long.0 ≡ after content cut = ap (λ (c : Content). after c long.0) is ∙ sym (after-append content xs long.0) ∙ ap (after content) (sym long.1) in
      subst P there (rest.stops long.0 long.2))
      (cut_parts xs made cut within);
}

-- a rewriting is a stage
pub staged_front : (content : Content) (ops made : List Operation) (pages new : List (List ℕ)) (P : Content → Type 0)
    → ((now : Content) → Recovers now pages → P now) → ((now : Content) → Recovers now new → P now)
    → IsFront content ops made pages new → Staged content ops made P
staged_front content ops made pages new P before later f = record {
  front = f.front;
  covered = f.covered;
  stops = λ cut within.
      ⊎_elim
      (λ (same : Recovers (after content cut) pages). before (after content cut) same)
      (λ (both : (cut ≡ ops) × Recovers (after content cut) new). later (after content cut) both.1)
      (f.stops cut within);
}

savings_same : (old other : Paging) (size nonce n count low : ℕ) (cs : List Change) → Ascend low cs → ((p : ℕ) → IsOneOf count p → old p ≡ other p)
    → savings old size nonce n (old_changes count cs) ≡ savings other size nonce n (old_changes count cs)
savings_same old other size nonce n count low [] up same = refl
savings_same old other size nonce n count low (c ∷ cs) up same = ⊎_elim
    (λ (e : nat_le c.page count ≡ true).
    let rest = savings_same old other size nonce (n + 1) count c.page cs up.1 same in
    let one : saving old size nonce n c ≡ saving other size nonce n c = rw (same c.page (let a = up.0 in omega (arith, a), leb-true c.page count e)) refl in
    rw (e, one, rest) refl)
    (λ (e : nat_le c.page count ≡ false).
    let rest = savings_same old other size nonce n count c.page cs up.1 same in
    rw (e, rest) refl)
    (cases_Bool (nat_le c.page count))

-- only the pages that there are are saved
pub rewrite_same : (old other : Paging) (size count nonce : ℕ) (cs : List Change) → Ascend 0 cs → ((p : ℕ) → IsOneOf count p → old p ≡ other p)
    → rewrite_of old size count nonce cs ≡ rewrite_of other size count nonce cs
rewrite_same old other size count nonce [] up same = refl
rewrite_same old other size count nonce (c ∷ cs) up same =
    ap (λ (ops : List Operation). heading size count nonce ∷ (ops ++ endings size (c ∷ cs))) (savings_same old other size nonce 0 count 0 (c ∷ cs) up same)
