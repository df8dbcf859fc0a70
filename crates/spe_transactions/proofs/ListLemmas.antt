-- What a transaction lists: a page journalled again, and the least page to undo.
use Rattle.std.proofs.Common.{◌≡◌, ◌≢◌, ℕ, zero, suc, ◌+◌, ◌<◌, ◌≤◌, List, length, refl, sym, ap, ◌∙◌, arith, Bool, true, false, Option, Some, None, ⊎_elim, inl, inr}
use Rattle.std.specs.Prelude.{◌⊎◌, is_some}
use Rattle.std.proofs.Math.Path.{fun_ext}
use Rattle.std.proofs.lemmas.Bool.{cases_eq, cases_lt}
use Rattle.spe_transactions.specs.Steps.{AgainWorks, IsLeastChanged, LeastWorks}
use Rattle.spe_transactions.specs.Work.{Works, has_page, with_page}
use Rattle.spe_transactions.proofs.WorkLemmas.{journalled_at}
use Rattle.spe_transactions.proofs.WorksLemmas.{with_at, with_other_id, with_other_page}

with_same : (id p : ℕ) (old : List ℕ) (works : Works) → works id p ≡ Some old → with_page id p old works ≡ works
with_same id p old works found = fun_ext (λ i. fun_ext (λ q.
    ⊎_elim
    (λ (own : i ≡ id).
    ⊎_elim
    (λ (here : q ≡ p). rw (own, here) (with_at id p old works ∙ sym found))
    (λ (other : q ≢ p). with_other_page id p old works i q other)
    (cases_eq q p))
    (λ (other : i ≢ id). with_other_id id p old works i q other)
    (cases_eq i id)))

pub again_works : AgainWorks
again_works content pages journalled written a id p old found = (a.before id p old found, with_same id p old journalled found)

-- nothing is to undo below page n
abbrev IsUndoneBelow : (journalled written : Works) → (id n : ℕ) → Type 0
IsUndoneBelow journalled written id n = (q : ℕ) → q < n → has_page journalled id q ≡ true → has_page written id q ≡ false

module _ (journalled written : Works) (id : ℕ) where
  undone_to : (n : ℕ) → IsUndoneBelow journalled written id n → (has_page journalled id n ≡ true → has_page written id n ≡ false) → IsUndoneBelow journalled written id (suc n)
  undone_to n below here q low has = ⊎_elim
      (λ (less : q < n). below q less has)
      (λ (most : n ≤ q).
      let same : q ≡ n = omega arith in
      ap (has_page written id) same ∙ here (sym (ap (has_page journalled id) same) ∙ has))
      (cases_lt q n)

  least_below : (n : ℕ) → IsUndoneBelow journalled written id n ⊎ ((p : ℕ) × IsLeastChanged journalled written id p)
  least_below zero = inl (λ q low has. absurd (omega arith))
  least_below (suc n) = ⊎_elim
      (λ (below : IsUndoneBelow journalled written id n). here below (journalled id n) refl (has_page written id n) refl)
      (λ (least : (p : ℕ) × IsLeastChanged journalled written id p). inr least)
      (least_below n)
    where
      here : IsUndoneBelow journalled written id n → (found : Option (List ℕ)) → journalled id n ≡ found → (wrote : Bool) → has_page written id n ≡ wrote
          → IsUndoneBelow journalled written id (suc n) ⊎ ((p : ℕ) × IsLeastChanged journalled written id p)
      here below None e wrote w = inl (undone_to n below (λ has. absurd (let both : true ≡ false = sym has ∙ ap is_some e in cc)))
      here below (Some old) e false w = inl (undone_to n below (λ has. w))
      here below (Some old) e true w = inr (n, record { changed = record { old = old; journalled_as = e; is_written = w }; least = below })

pub least_works : LeastWorks
least_works content pages journalled written a id = ⊎_elim
    (λ (none : IsUndoneBelow journalled written id (length pages + 1)).
    inl (λ p has. none p (let within = (journalled_at content pages journalled written a id p has).2.high in omega arith) has))
    (λ (least : (p : ℕ) × IsLeastChanged journalled written id p). inr least)
    (least_below journalled written id (length pages + 1))
