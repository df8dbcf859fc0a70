-- What the transactions of a core part, as one of them changes.
use Rattle.std.proofs.Common.{◌≡◌, ◌≢◌, ℕ, List, refl, sym, ap, ◌∙◌, arith, Bool, true, false, cond, Option, Some, None, ⊎_elim}
use Rattle.std.specs.Ordering.{nat_cmp}
use Rattle.std.specs.BTreeMap.{insert_entry}
use Rattle.std.proofs.Math.Path.{fun_ext}
use Rattle.std.proofs.lemmas.Bool.{cases_eq}
use Rattle.spe_transactions.specs.Work.{Works, no_works, with_page, without_id, without_page}
use Rattle.spe_transactions.proofs.WorksLemmas.{dropped_other, dropped_own, with_at, with_other_id, with_other_page, without_at, without_other_id, without_other_page}
use Rattle.spe_core.specs.Changed.{ended}
use Rattle.spe_stored.specs.Sheets.{Sheets, sheet_at, with_sheet, without_sheet}
use Rattle.spe_core.specs.Sound.{IsGoing, listed, works_in}
use Rattle.spe_core.specs.State.{Live, is_ended, live_in}
use Rattle.spe_core.proofs.SoundSheets.{live_other, live_same, with_other, with_same, without_other, without_same}

abbrev put : ℕ → Live → List (ℕ × Live) → List (ℕ × Live)
put id u live = insert_entry nat_cmp live id u

going_lists : (part : Live → Sheets) (t : Live) (p : ℕ) → is_ended t ≡ false → listed part (Some t) p ≡ sheet_at p (part t)
going_lists part t p going = rw going refl

-- what a transaction lists that has not ended
pub going_has : (part : Live → Sheets) (live : List (ℕ × Live)) (id : ℕ) (t : Live) (p : ℕ) → IsGoing live id t → works_in part live id p ≡ sheet_at p (part t)
going_has part live id t p g = ap (λ (o : Option Live). listed part o p) g.its ∙ going_lists part t p g.going

module _ (part : Live → Sheets) (live : List (ℕ × Live)) (id : ℕ) (u : Live) where
  own_now : (p : ℕ) → works_in part (put id u live) id p ≡ listed part (Some u) p
  own_now p = ap (λ (o : Option Live). listed part o p) (live_same id u live)

  other_now : (i p : ℕ) → i ≢ id → works_in part (put id u live) i p ≡ works_in part live i p
  other_now i p other = ap (λ (o : Option Live). listed part o p) (live_other id i u live other)

  pub works_are : (works : Works) → ((p : ℕ) → listed part (Some u) p ≡ works id p) → ((i p : ℕ) → i ≢ id → works_in part live i p ≡ works i p) → works_in part (put id u live) ≡ works
  works_are works own others = fun_ext (λ i. fun_ext (λ p.
      ⊎_elim
      (λ (here : i ≡ id). rw here (own_now p ∙ own p))
      (λ (other : i ≢ id). other_now i p other ∙ others i p other)
      (cases_eq i id)))

  -- nothing more or less is listed
  pub works_same : (t : Live) → IsGoing live id t → is_ended u ≡ false → part u ≡ part t → works_in part (put id u live) ≡ works_in part live
  works_same t g going same =
      works_are (works_in part live)
      (λ p. going_lists part u p going ∙ ap (sheet_at p) same ∙ sym (going_has part live id t p g))
      (λ i p other. refl)

  -- one page more is listed
  pub works_with : (t : Live) (page : ℕ) (bytes : List ℕ) → IsGoing live id t → is_ended u ≡ false → part u ≡ with_sheet page bytes (part t) → works_in part (put id u live) ≡ with_page id page bytes (works_in part live)
  works_with t page bytes g going more =
      works_are (with_page id page bytes (works_in part live))
      (λ p.
      going_lists part u p going ∙ ap (sheet_at p) more
      ∙ ⊎_elim
      (λ (here : p ≡ page). rw here (with_same page bytes (part t) ∙ sym (with_at id page bytes (works_in part live))))
      (λ (other : p ≢ page).
      with_other page p bytes (part t) other ∙ sym (going_has part live id t p g) ∙ sym (with_other_page id page bytes (works_in part live) id p other))
      (cases_eq p page))
      (λ i p other. sym (with_other_id id page bytes (works_in part live) i p other))

  -- one page less
  pub works_without : (t : Live) (page : ℕ) → IsGoing live id t → is_ended u ≡ false → part u ≡ without_sheet page (part t) → works_in part (put id u live) ≡ without_page id page (works_in part live)
  works_without t page g going less =
      works_are (without_page id page (works_in part live))
      (λ p.
      going_lists part u p going ∙ ap (sheet_at p) less
      ∙ ⊎_elim
      (λ (here : p ≡ page). rw here (without_same page (part t) ∙ sym (without_at id page (works_in part live))))
      (λ (other : p ≢ page).
      without_other page p (part t) other ∙ sym (going_has part live id t p g) ∙ sym (without_other_page id page (works_in part live) id p other))
      (cases_eq p page))
      (λ i p other. sym (without_other_id id page (works_in part live) i p other))

-- a transaction that has ended lists nothing
pub works_ended : (part : Live → Sheets) (live : List (ℕ × Live)) (id : ℕ) (t : Live) → works_in part (put id (ended t) live) ≡ without_id id (works_in part live)
works_ended part live id t =
    works_are part live id (ended t) (without_id id (works_in part live))
    (λ p. sym (dropped_own id (works_in part live) p))
    (λ i p other. sym (dropped_other id (works_in part live) i p other))

-- where each has ended, nothing is listed
pub works_none : (part : Live → Sheets) (live : List (ℕ × Live)) → ((id : ℕ) (t : Live) → live_in id live ≡ Some t → is_ended t ≡ true) → works_in part live ≡ no_works
works_none part live all = fun_ext (λ id. fun_ext (λ p. by_found id p (live_in id live) refl))
  where
    by_found : (id p : ℕ) (found : Option Live) → live_in id live ≡ found → listed part found p ≡ None
    by_found id p None e = refl
    by_found id p (Some t) e = rw (all id t e) refl
