-- The locks of transactions, as one of them changes.
use Rattle.std.proofs.Common.{◌≡◌, ◌≢◌, ℕ, ◌%◌, List, [], ◌∷◌, refl, sym, ap, ◌∙◌, subst, Bool, true, false, Option, Some, None, ⊎_elim, inl, inr}
use Rattle.std.specs.Prelude.{◌⊎◌, ◌&&◌, ◌||◌, ◌==◌, not, is_some}
use Rattle.std.specs.Ordering.{nat_cmp}
use Rattle.std.specs.BTreeMap.{insert_entry}
use Rattle.std.proofs.lemmas.Bool.{and_parts, cases_Bool, cases_eq, eqb-true, ne_eqb, or_cases, or_left, or_parts, or_right}
use Rattle.spe_stored.specs.Sheets.{Sheets, has_sheet, sheet_at, with_sheet, without_sheet}
use Rattle.spe_core.specs.Changed.{fresh, reading_under, released, writing_under}
use Rattle.spe_core.specs.Enabled.{another_has, holds}
use Rattle.spe_core.specs.Locks.{Locks, has_lock, with_lock, without_lock}
use Rattle.spe_core.specs.Sound.{AreLocked, IsGoing, IsUnder}
use Rattle.spe_core.specs.State.{Live, is_ended, live_in}
use Rattle.spe_core.proofs.LocksLemmas.{with_old, with_one, without_one}
use Rattle.spe_core.proofs.SoundSheets.{live_other, live_same, with_other, without_other, without_same}

-- no other has what a test of another finds nowhere
pub none_else : (id : ℕ) (test : Live → Bool) (live : List (ℕ × Live)) (j : ℕ) (x : Live) → another_has id test live ≡ false → j ≢ id → live_in j live ≡ Some x → test x ≡ false
none_else id test [] j x lacks other its = absurd cc
none_else id test (e ∷ es) j x lacks other its =
    let parts = or_parts (not (e.0 == id) && test e.1) (another_has id test es) lacks in
    ⊎_elim
    (λ (here : (e.0 == j) ≡ true).
    let is : Some e.1 ≡ Some x = rw here at its in
    let same : e.1 ≡ x = cc in
    ap test (sym same) ∙ by_test (e.0 == id) (test e.1) (own here) parts.0)
    (λ (not_here : (e.0 == j) ≡ false). none_else id test es j x parts.1 other (rw not_here at its))
    (cases_Bool (e.0 == j))
  where
    own : (e.0 == j) ≡ true → (e.0 == id) ≡ false
    own here = ne_eqb e.0 id (λ same. other (sym (eqb-true e.0 j here) ∙ same))

    by_test : (a b : Bool) → a ≡ false → (not a && b) ≡ false → b ≡ false
    by_test true b no_a none = absurd cc
    by_test false b no_a none = none

-- a transaction that may be put among others: it has the locks of its pages as long as it goes on, and no lock of it is one
-- of another where either of them is its writer
pub record FitsLocks (slots : ℕ) (live : List (ℕ × Live)) (id : ℕ) (u : Live) : Type 0 where
  pub under : is_ended u ≡ false → IsUnder slots u
  pub writes : (lock j : ℕ) (x : Live) → j ≢ id → live_in j live ≡ Some x → has_lock lock u.writes ≡ true → holds lock x ≡ true → ⊥
  pub holding : (lock j : ℕ) (x : Live) → j ≢ id → live_in j live ≡ Some x → has_lock lock x.writes ≡ true → holds lock u ≡ true → ⊥

module _ (slots : ℕ) (live : List (ℕ × Live)) (id : ℕ) (u : Live) (a : AreLocked slots live) where
  own_is : (i : ℕ) (x : Live) → i ≡ id → live_in i (insert_entry nat_cmp live id u) ≡ Some x → u ≡ x
  own_is i x here its =
      let both : Some u ≡ Some x = sym (live_same id u live) ∙ ap (λ (n : ℕ). live_in n (insert_entry nat_cmp live id u)) (sym here) ∙ its in
      cc

  old_is : (i : ℕ) (x : Live) → i ≢ id → live_in i (insert_entry nat_cmp live id u) ≡ Some x → live_in i live ≡ Some x
  old_is i x other its = sym (live_other id i u live other) ∙ its

  pub locked_put : FitsLocks slots live id u → AreLocked slots (insert_entry nat_cmp live id u)
  locked_put f = record {
    under = λ i x g.
        ⊎_elim
        (λ (here : i ≡ id).
        let same : u ≡ x = own_is i x here g.its in
        subst (IsUnder slots) same (f.under (ap is_ended same ∙ g.going)))
        (λ (other : i ≢ id). a.under i x (record { its = old_is i x other g.its; going = g.going }))
        (cases_eq i id);
    alone = λ lock i j x y at_i at_j writes held.
        ⊎_elim
        (λ (i_here : i ≡ id).
        ⊎_elim
        (λ (j_here : j ≡ id). i_here ∙ sym j_here)
        (λ (j_other : j ≢ id).
        absurd (f.writes lock j y j_other (old_is j y j_other at_j) (ap (λ (t : Live). has_lock lock t.writes) (own_is i x i_here at_i) ∙ writes) held))
        (cases_eq j id))
        (λ (i_other : i ≢ id).
        ⊎_elim
        (λ (j_here : j ≡ id).
        absurd (f.holding lock i x i_other (old_is i x i_other at_i) writes (ap (holds lock) (own_is j y j_here at_j) ∙ held)))
        (λ (j_other : j ≢ id). a.alone lock i j x y (old_is i x i_other at_i) (old_is j y j_other at_j) writes held)
        (cases_eq j id))
        (cases_eq i id);
  }

  -- a transaction that holds no more than before
  pub fits_less : (t : Live) → live_in id live ≡ Some t → (is_ended u ≡ false → IsUnder slots u)
      → ((lock : ℕ) → has_lock lock u.writes ≡ true → has_lock lock t.writes ≡ true) → ((lock : ℕ) → holds lock u ≡ true → holds lock t ≡ true) → FitsLocks slots live id u
  fits_less t at under fewer less = record {
    under = under;
    writes = λ lock j x other its w h. other (sym (a.alone lock id j t x at its (fewer lock w) h));
    holding = λ lock j x other its w h. other (a.alone lock j id x t its at w (less lock h));
  }

-- where no transaction is live, no lock is held
pub locked_none : (slots : ℕ) (live : List (ℕ × Live)) → live ≡ [] → AreLocked slots live
locked_none slots live nobody = record {
  under = λ id t g. absurd (none id t g.its);
  alone = λ lock i j t u at_i at_j w h. absurd (none i t at_i);
}
  where
    none : (id : ℕ) (t : Live) → live_in id live ≡ Some t → ⊥
    none id t its = let both : None ≡ Some t = ap (live_in id) (sym nobody) ∙ its in cc

-- a transaction that begins holds none
pub fits_fresh : (slots : ℕ) (live : List (ℕ × Live)) (id : ℕ) → FitsLocks slots live id fresh
fits_fresh slots live id = record {
  under = λ going. record { seen = λ p has. absurd cc; journalled = λ p has. absurd cc; written = λ p has. absurd cc };
  writes = λ lock j x other its w h. absurd cc;
  holding = λ lock j x other its w h. absurd cc;
}

pub held_by : (lock : ℕ) (x : Live) → has_lock lock x.writes ≡ true → holds lock x ≡ true
held_by lock x w = or_right (has_lock lock x.reads) (has_lock lock x.writes) w

module _ (slots : ℕ) (live : List (ℕ × Live)) (id lock : ℕ) (t : Live) (a : AreLocked slots live) (its : live_in id live ≡ Some t) (going : is_ended t ≡ false) where
  now_under : IsUnder slots t
  now_under = a.under id t (record { its = its; going = going })

  -- a reader more, where no other writes under the lock
  pub fits_reading : another_has id (λ x. has_lock lock x.writes) live ≡ false → FitsLocks slots live id (reading_under lock t)
  fits_reading nobody = record {
    under = λ goes. record { seen = λ p has. more (p % slots) (now_under.seen p has); journalled = now_under.journalled; written = now_under.written };
    writes = λ k j x other at w h. other (sym (a.alone k id j t x its at w h));
    holding = λ k j x other at w h.
        ⊎_elim
        (λ (read : has_lock k (with_lock lock t.reads) ≡ true).
        ⊎_elim
        (λ (own : lock ≡ k).
        let none : has_lock lock x.writes ≡ false = none_else id (λ y. has_lock lock y.writes) live j x nobody other at in
        let some : has_lock lock x.writes ≡ true = ap (λ (n : ℕ). has_lock n x.writes) own ∙ w in
        absurd cc)
        (λ (before : has_lock k t.reads ≡ true). other (a.alone k j id x t at its w (or_left (has_lock k t.reads) (has_lock k t.writes) before)))
        (with_one k lock t.reads read))
        (λ (write : has_lock k t.writes ≡ true). other (a.alone k j id x t at its w (held_by k t write)))
        (or_cases (has_lock k (with_lock lock t.reads)) (has_lock k t.writes) h);
  }
    where
      more : (k : ℕ) → holds k t ≡ true → holds k (reading_under lock t) ≡ true
      more k h = ⊎_elim
          (λ (read : has_lock k t.reads ≡ true). or_left (has_lock k (with_lock lock t.reads)) (has_lock k t.writes) (with_old k lock t.reads read))
          (λ (write : has_lock k t.writes ≡ true). or_right (has_lock k (with_lock lock t.reads)) (has_lock k t.writes) write)
          (or_cases (has_lock k t.reads) (has_lock k t.writes) h)

  -- the writer, where no other holds the lock
  pub fits_writing : another_has id (holds lock) live ≡ false → FitsLocks slots live id (writing_under lock t)
  fits_writing nobody = record {
    under = λ goes. record {
      seen = λ p has. more (p % slots) (now_under.seen p has);
      journalled = λ p has. with_old (p % slots) lock t.writes (now_under.journalled p has);
      written = λ p has. with_old (p % slots) lock t.writes (now_under.written p has);
    };
    writes = λ k j x other at w h.
        ⊎_elim
        (λ (own : lock ≡ k). taken k j x other at own h)
        (λ (before : has_lock k t.writes ≡ true). other (sym (a.alone k id j t x its at before h)))
        (with_one k lock t.writes w);
    holding = λ k j x other at w h.
        ⊎_elim
        (λ (read : has_lock k t.reads ≡ true). other (a.alone k j id x t at its w (or_left (has_lock k t.reads) (has_lock k t.writes) read)))
        (λ (write : has_lock k (with_lock lock t.writes) ≡ true).
        ⊎_elim
        (λ (own : lock ≡ k). taken k j x other at own (held_by k x w))
        (λ (before : has_lock k t.writes ≡ true). other (a.alone k j id x t at its w (held_by k t before)))
        (with_one k lock t.writes write))
        (or_cases (has_lock k t.reads) (has_lock k (with_lock lock t.writes)) h);
  }
    where
      taken : (k j : ℕ) (x : Live) → j ≢ id → live_in j live ≡ Some x → lock ≡ k → holds k x ≡ true → ⊥
      taken k j x other at own h =
          let none : holds lock x ≡ false = none_else id (holds lock) live j x nobody other at in
          let some : holds lock x ≡ true = ap (λ (n : ℕ). holds n x) own ∙ h in
          absurd cc

      more : (k : ℕ) → holds k t ≡ true → holds k (writing_under lock t) ≡ true
      more k h = ⊎_elim
          (λ (read : has_lock k t.reads ≡ true). or_left (has_lock k t.reads) (has_lock k (with_lock lock t.writes)) read)
          (λ (write : has_lock k t.writes ≡ true). or_right (has_lock k t.reads) (has_lock k (with_lock lock t.writes)) (with_old k lock t.writes write))
          (or_cases (has_lock k t.reads) (has_lock k t.writes) h)

-- a lock is given back by one that has ended
pub fits_released : (slots : ℕ) (live : List (ℕ × Live)) (id lock : ℕ) (t : Live) → AreLocked slots live → live_in id live ≡ Some t → is_ended t ≡ true → FitsLocks slots live id (released lock t)
fits_released slots live id lock t a its over =
    fits_less slots live id (released lock t) a t its
    (λ going. absurd (let both : true ≡ false = sym over ∙ going in cc))
    (λ k w. without_one k lock t.writes w)
    (λ k h.
    ⊎_elim
    (λ (read : has_lock k (without_lock lock t.reads) ≡ true). or_left (has_lock k t.reads) (has_lock k t.writes) (without_one k lock t.reads read))
    (λ (write : has_lock k (without_lock lock t.writes) ≡ true). or_right (has_lock k t.reads) (has_lock k t.writes) (without_one k lock t.writes write))
    (or_cases (has_lock k (without_lock lock t.reads)) (has_lock k (without_lock lock t.writes)) h))

-- a page that is put in is listed, and the others are as before
pub with_sheets : (p page : ℕ) (bytes : List ℕ) (sheets : Sheets) → has_sheet p (with_sheet page bytes sheets) ≡ true → (p ≡ page) ⊎ (has_sheet p sheets ≡ true)
with_sheets p page bytes sheets has = ⊎_elim
    (λ (here : p ≡ page). inl here)
    (λ (other : p ≢ page). inr (sym (ap is_some (with_other page p bytes sheets other)) ∙ has))
    (cases_eq p page)

pub without_sheets : (p page : ℕ) (sheets : Sheets) → has_sheet p (without_sheet page sheets) ≡ true → has_sheet p sheets ≡ true
without_sheets p page sheets has = ⊎_elim
    (λ (here : p ≡ page). absurd (let both : true ≡ false = sym has ∙ ap (λ (n : ℕ). has_sheet n (without_sheet page sheets)) here ∙ ap is_some (without_same page sheets) in cc))
    (λ (other : p ≢ page). sym (ap is_some (without_other page p sheets other)) ∙ has)
    (cases_eq p page)

-- each page of a list that one joined is under its lock, where that one is
pub all_under : (P : ℕ → Type 0) (page : ℕ) (bytes : List ℕ) (sheets : Sheets) → P page → ((p : ℕ) → has_sheet p sheets ≡ true → P p) → (p : ℕ) → has_sheet p (with_sheet page bytes sheets) ≡ true → P p
all_under P page bytes sheets own others p has = ⊎_elim
    (λ (here : p ≡ page). subst P (sym here) own)
    (λ (before : has_sheet p sheets ≡ true). others p before)
    (with_sheets p page bytes sheets has)
