-- What is left to undo of a transaction.
use Rattle.std.proofs.Common.{◌≡◌, ℕ, ◌<◌, List, [], ◌∷◌, length, refl, sym, ap, ◌∙◌, arith, Bool, true, false, Option, Some, None, ⊎_elim}
use Rattle.std.specs.Prelude.{◌==◌, ◌&&◌, slice_get, if◌then◌else◌}
use Rattle.std.proofs.lemmas.Bool.{cases_Bool, ne_eqb}
use Rattle.spe_transactions.specs.Work.{has_page, no_works}
use Rattle.spe_store.specs.declared.work.Work.{Work}
use Rattle.spe_store.specs.Desk.{Desk}
use Rattle.spe_store.specs.Event.{Event, journalled_in, written_in}
use Rattle.spe_store.specs.Event.Event.{Undone}
use Rattle.spe_store.specs.Opened.{Opened}
use Rattle.spe_store.specs.Pass.{OthersStay}
use Rattle.spe_store.specs.Saved.{AreJust, changed_at, saved_at}
use Rattle.spe_store.specs.Store.{IsListed, IsStored, Order, Store}
use Rattle.spe_store.specs.Work.{HasUndone}
use Rattle.spe_store.proofs.HeldLemmas.{listed}
use Rattle.spe_store.proofs.ListLemmas.{get_set}
use Rattle.spe_store.proofs.PutLemmas.{lists_undone}
use Rattle.spe_store.proofs.SavedLemmas.{absent_changed}
use Rattle.spe_store.proofs.SaveLemmas.{none_given}

-- what is not listed is not so
unlisted : (is : ℕ → Bool) (pages : List ℕ) → AreJust is pages → length pages ≡ 0 → (p : ℕ) → is p ≡ false
unlisted is [] just none p = by_test (is p) (just p)
  where
    by_test : (b : Bool) → ◌≡◌ {A = ℕ} 0 (if b then 1 else 0) → b ≡ false
    by_test false e = refl
    by_test true e = absurd (omega (arith, e))
unlisted is (q ∷ qs) just none p = absurd (omega (arith, none))

module _ (page_size : ℕ) (events : List Event) (id : ℕ) (w : Work) (lists : IsListed page_size events id w) where
  pub changed_is : (p : ℕ) → changed_at p w.saved ≡ (has_page (journalled_in events) id p && has_page (written_in events) id p)
  changed_is p = ⊎_elim
      (λ (own : has_page (journalled_in events) id p ≡ true). lists.changed p own ∙ sym (ap (λ (b : Bool). b && has_page (written_in events) id p) own))
      (λ (lacks : has_page (journalled_in events) id p ≡ false).
      absent_changed p w.saved (lists.saved p ∙ none_given (journalled_in events id p) lacks) ∙ sym (ap (λ (b : Bool). b && has_page (written_in events) id p) lacks))
      (cases_Bool (has_page (journalled_in events) id p))

  pub none_undone : ((p : ℕ) → changed_at p w.saved ≡ false) → (p : ℕ) → has_page (journalled_in events) id p ≡ true → has_page (written_in events) id p ≡ false
  none_undone none p own = sym (lists.changed p own) ∙ none p

  pub left_is : AreJust (λ (p : ℕ). changed_at p w.saved) w.saved.changed → AreJust (λ (p : ℕ). has_page (journalled_in events) id p && has_page (written_in events) id p) w.saved.changed
  left_is just p = just p ∙ ap (λ (b : Bool). if b then 1 else 0) (changed_is p)

  pub none_left : ((p : ℕ) → changed_at p w.saved ≡ false) → AreJust (λ (p : ℕ). has_page (journalled_in events) id p && has_page (written_in events) id p) []
  none_left none p = sym (ap (λ (b : Bool). if b then 1 else 0) (sym (changed_is p) ∙ none p))

  -- where none is listed none is left
  pub over_is : AreJust (λ (p : ℕ). changed_at p w.saved) w.saved.changed → length w.saved.changed ≡ 0 → (p : ℕ) → has_page (journalled_in events) id p ≡ true → has_page (written_in events) id p ≡ false
  over_is just none = none_undone (λ p. unlisted (λ (q : ℕ). changed_at q w.saved) w.saved.changed just none p)

-- the others stay as one page is undone
pub undone_others : (events : List Event) (id page : ℕ) → OthersStay (Undone id page ∷ events) events id
undone_others events id page i other = record {
  begun = refl;
  lives = refl;
  journalled = refl;
  written = ap {B = ℕ → Option (List ℕ)} (λ (b : Bool) (q : ℕ). if b && (q == page) then no_works 0 q else written_in events i q) (ne_eqb i id other);
  seen = refl;
}

-- what the store holds of a transaction of which one page was undone
pub undone_listed : (opened : Opened) (s : Store) (works : List Work) (order : Order) (i : IsStored opened s works order) (id : ℕ) (low : id < 16) (w : Work) (found : slice_get works id ≡ Some w) (page : ℕ) (bytes : List ℕ)
    (desk : Desk) → saved_at page w.saved ≡ Some bytes → s.desk.stopped ≡ None → (x : Work) → HasUndone page w x → IsListed s.page_size (Undone id page ∷ s.events) id x
undone_listed opened s works order i id low w found page bytes desk saved going x has =
    lists_undone opened s works order i id low w found page bytes desk saved x has (listed opened s works order i going) id x (get_set works id x (omega (arith, i.all, low)))
