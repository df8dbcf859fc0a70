-- What transactions list, with one page more or less.
use Rattle.std.proofs.Common.{◌≡◌, ◌≢◌, ℕ, List, [], refl, sym, ap, ◌∙◌, Bool, true, false, Some, None, ⊎_elim, inl, inr}
use Rattle.std.specs.Prelude.{◌⊎◌, ◌==◌, ◌&&◌, is_some}
use Rattle.std.proofs.lemmas.Bool.{cases_eq, eq-eqb, ne_eqb}
use Rattle.spe_model.specs.Paging.{PageMap}
use Rattle.spe_transactions.specs.Work.{Works, Journals, IsJournal, has_page, with_page, without_id, without_page}

second_false : (a : Bool) → (a && false) ≡ false
second_false true = refl
second_false false = refl

pub with_at : (id p : ℕ) (bytes : List ℕ) (works : Works) → with_page id p bytes works id p ≡ Some bytes
with_at id p bytes works = rw (eq-eqb id id refl, eq-eqb p p refl) refl

pub with_other_id : (id p : ℕ) (bytes : List ℕ) (works : Works) (i q : ℕ) → i ≢ id → with_page id p bytes works i q ≡ works i q
with_other_id id p bytes works i q other = rw (ne_eqb i id other) refl

pub with_other_page : (id p : ℕ) (bytes : List ℕ) (works : Works) (i q : ℕ) → q ≢ p → with_page id p bytes works i q ≡ works i q
with_other_page id p bytes works i q other = rw (ne_eqb q p other, second_false (i == id)) refl

pub without_at : (id p : ℕ) (works : Works) → without_page id p works id p ≡ None
without_at id p works = rw (eq-eqb id id refl, eq-eqb p p refl) refl

pub without_other_id : (id p : ℕ) (works : Works) (i q : ℕ) → i ≢ id → without_page id p works i q ≡ works i q
without_other_id id p works i q other = rw (ne_eqb i id other) refl

pub without_other_page : (id p : ℕ) (works : Works) (i q : ℕ) → q ≢ p → without_page id p works i q ≡ works i q
without_other_page id p works i q other = rw (ne_eqb q p other, second_false (i == id)) refl

pub dropped_own : (id : ℕ) (works : Works) (q : ℕ) → without_id id works id q ≡ None
dropped_own id works q = rw (eq-eqb id id refl) refl

pub dropped_other : (id : ℕ) (works : Works) (i q : ℕ) → i ≢ id → without_id id works i q ≡ works i q
dropped_other id works i q other = rw (ne_eqb i id other) refl

-- what another transaction has it still has
pub still_has : (id : ℕ) (works : Works) (i q : ℕ) → has_page (without_id id works) i q ≡ true → (i ≢ id) × (has_page works i q ≡ true)
still_has id works i q has = ⊎_elim
    (λ (own : i ≡ id). absurd (let impossible : false ≡ true = sym (ap is_some (dropped_own id works q)) ∙ ap (λ (n : ℕ). has_page (without_id id works) n q) (sym own) ∙ has in cc))
    (λ (other : i ≢ id). (other, ap is_some (sym (dropped_other id works i q other)) ∙ has))
    (cases_eq i id)

pub still_gives : (id : ℕ) (works : Works) (i q : ℕ) (bytes : List ℕ) → without_id id works i q ≡ Some bytes → (i ≢ id) × (works i q ≡ Some bytes)
still_gives id works i q bytes found = ⊎_elim
    (λ (own : i ≡ id). absurd (let impossible : None ≡ Some bytes = sym (dropped_own id works q) ∙ ap (λ (n : ℕ). without_id id works n q) (sym own) ∙ found in cc))
    (λ (other : i ≢ id). (other, sym (dropped_other id works i q other) ∙ found))
    (cases_eq i id)

-- a page of the list with one page more is that page, or was there
pub had_before : (id p : ℕ) (bytes : List ℕ) (works : Works) (i q : ℕ) → has_page (with_page id p bytes works) i q ≡ true → ((i ≡ id) × (q ≡ p)) ⊎ (has_page works i q ≡ true)
had_before id p bytes works i q has = ⊎_elim
    (λ (own : i ≡ id).
    ⊎_elim
    (λ (here : q ≡ p). inl (own, here))
    (λ (other : q ≢ p). inr (ap is_some (sym (with_other_page id p bytes works i q other)) ∙ has))
    (cases_eq q p))
    (λ (other : i ≢ id). inr (ap is_some (sym (with_other_id id p bytes works i q other)) ∙ has))
    (cases_eq i id)

pub gave_before : (id p : ℕ) (bytes : List ℕ) (works : Works) (i q : ℕ) (found : List ℕ) → with_page id p bytes works i q ≡ Some found
    → ((i ≡ id) × (q ≡ p) × (bytes ≡ found)) ⊎ (((i ≡ id) → q ≢ p) × (works i q ≡ Some found))
gave_before id p bytes works i q found is = ⊎_elim
    (λ (own : i ≡ id).
    ⊎_elim
    (λ (here : q ≡ p).
    let both : Some bytes ≡ Some found = sym (with_at id p bytes works) ∙ ap (λ (n : ℕ). with_page id p bytes works n p) (sym own) ∙ ap (with_page id p bytes works i) (sym here) ∙ is in
    let same : bytes ≡ found = cc in
    inl (own, here, same))
    (λ (other : q ≢ p). inr (λ x. other, sym (with_other_page id p bytes works i q other) ∙ is))
    (cases_eq q p))
    (λ (other : i ≢ id). inr (λ x. absurd (other x), sym (with_other_id id p bytes works i q other) ∙ is))
    (cases_eq i id)

pub now_has : (id p : ℕ) (bytes : List ℕ) (works : Works) (i q : ℕ) → has_page works i q ≡ true → has_page (with_page id p bytes works) i q ≡ true
now_has id p bytes works i q has = ⊎_elim
    (λ (own : i ≡ id).
    ⊎_elim
    (λ (here : q ≡ p). rw (own, here) (ap is_some (with_at id p bytes works)))
    (λ (other : q ≢ p). ap is_some (with_other_page id p bytes works i q other) ∙ has)
    (cases_eq q p))
    (λ (other : i ≢ id). ap is_some (with_other_id id p bytes works i q other) ∙ has)
    (cases_eq i id)

-- a journal saves pages, whatever their bytes were
pub journals_same : (page_size : ℕ) (journal : List ℕ) (a b : PageMap) → ((q : ℕ) → is_some (b q) ≡ is_some (a q)) → Journals page_size journal a → Journals page_size journal b
journals_same page_size journal a b same journals = ⊎_elim
    (λ (bare : (journal ≡ []) × ((p : ℕ) → is_some (a p) ≡ false)). inl (bare.0, λ p. same p ∙ bare.1 p))
    (λ (j : IsJournal page_size journal a). inr (record { saved = j.saved; written = j.written; whole = j.whole; holds = λ p. j.holds p ∙ sym (same p) }))
    journals
