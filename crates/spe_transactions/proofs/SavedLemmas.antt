-- The journals of several transactions, of which no two save one page.
use Rattle.std.proofs.Common.{◌≡◌, ◌≢◌, ℕ, zero, suc, ◌+◌, ◌<◌, ◌≤◌, ◌^◌, List, [], refl, sym, ap, ◌∙◌, arith, Bool, true, false, Option, Some, None, ⊎_elim}
use Rattle.std.specs.Prelude.{◌==◌, ◌&&◌, not, is_some}
use Rattle.std.specs.List.{find, list_any}
use Rattle.std.specs.Option.{option_or}
use Rattle.std.proofs.lemmas.Bool.{and_right, cases_Bool, cases_eq, eq-eqb, false_from_ne_true}
use Rattle.std.proofs.lemmas.List.Folds.{find-append}
use Rattle.spe_model.specs.Content.{Content}
use Rattle.spe_model.specs.Covered.{is_held}
use Rattle.spe_model.specs.Journal.{Saved, has_head, head_page_size, hot_records, numbers_from}
use Rattle.spe_model.specs.Recovery.{all_hot, file_page_size, has_other_size, hot_of, is_of, journal_of, other_size, shared_page}
use Rattle.spe_journal.specs.Written.{IsWritten}
use Rattle.spe_journal.proofs.HotLemmas.{short_head, short_hot, written_head, written_hot}
use Rattle.spe_crash.proofs.HotLemmas.{AreApart, find_any, find_none, holds, records_in, shared_none}
use Rattle.spe_transactions.specs.Work.{IsJournal, Journals, Works, has_page}

pub record AreSaved (content : Content) (journalled : Works) : Type 0 where
  pub fits : file_page_size content < 2 ^ 32
  pub journals : (id : ℕ) → id < 16 → Journals (file_page_size content) (journal_of content id) (journalled id)
  pub numbered : (id p : ℕ) → has_page journalled id p ≡ true → id < 16
  pub apart : (p i j : ℕ) → has_page journalled i p ≡ true → has_page journalled j p ≡ true → i ≡ j

-- what a journal says of another page size
abbrev pub is_other : ℕ → List ℕ → Bool
is_other page_size journal = has_head journal && not (head_page_size journal == page_size)

pub bare_other : (page_size : ℕ) → is_other page_size [] ≡ false
bare_other page_size = let none : has_head [] ≡ false = short_head [] (omega arith) in rw none refl

pub bare_hot : (page_size : ℕ) → hot_records page_size [] ≡ []
bare_hot page_size = short_hot page_size [] (omega arith)

pub written_own : (page_size : ℕ) (saved : List Saved) (journal : List ℕ) → page_size < 2 ^ 32 → IsWritten page_size saved journal → is_other page_size journal ≡ false
written_own page_size saved journal fits w =
    let same : (head_page_size journal == page_size) ≡ true = eq-eqb (head_page_size journal) page_size (written_head page_size saved journal fits w) in
    and_right (has_head journal) (not (head_page_size journal == page_size)) (rw same refl)

pub find_nowhere : (test : ℕ → Bool) (n count : ℕ) → ((i : ℕ) → n ≤ i → i < n + count → test i ≡ false) → find test (numbers_from n count) ≡ None
find_nowhere test n zero none = refl
find_nowhere test n (suc count) none = rw (none n (omega arith) (omega arith)) (find_nowhere test (n + 1) count (λ i low high. none i (omega arith) (omega arith)))

pub find_no : (p : ℕ) (saved : List Saved) → list_any (is_of p) saved ≡ false → find (is_of p) saved ≡ None
find_no p saved lacks = by_found (find (is_of p) saved) (find_any p saved ∙ lacks)
  where
    by_found : (found : Option Saved) → is_some found ≡ false → found ≡ None
    by_found None e = refl
    by_found (Some s) e = absurd cc

-- The first record of a page over all journals is that of the one journal that may hold it.
pub find_holder : (hot : ℕ → List Saved) (p id n count : ℕ) → ((i : ℕ) → n ≤ i → i < n + count → i ≢ id → holds hot p i ≡ false) → n ≤ id → id < n + count
    → find (is_of p) (records_in hot n count) ≡ find (is_of p) (hot id)
find_holder hot p id n zero lack low high = absurd (omega arith)
find_holder hot p id n (suc count) lack low high =
    let rest = records_in hot (n + 1) count in
    ⊎_elim
    (λ (here : n ≡ id).
    let none : find (is_of p) rest ≡ None = find_none hot p (n + 1) count (λ i from to. lack i (omega arith) (omega arith) (λ same. omega arith)) in
    find-append (is_of p) (hot n) rest ∙ rw none (last (find (is_of p) (hot n))) ∙ ap (λ (i : ℕ). find (is_of p) (hot i)) here)
    (λ (other : n ≢ id).
    find-append (is_of p) (hot n) rest
    ∙ rw (find_no p (hot n) (lack n (omega arith) (omega arith) other))
    (find_holder hot p id (n + 1) count (λ i from to. lack i (omega arith) (omega arith)) (omega arith) (omega arith)))
    (cases_eq n id)
  where
    last : (found : Option Saved) → option_or found None ≡ found
    last None = refl
    last (Some s) = refl

-- a page that is among the records is in a journal
pub record IsHolder (hot : ℕ → List Saved) (p n count : ℕ) : Type 0 where
  pub id : ℕ
  pub low : n ≤ id
  pub high : id < n + count
  pub has : holds hot p id ≡ true

pub some_holder : (hot : ℕ → List Saved) (p n count : ℕ) → is_some (find (is_of p) (records_in hot n count)) ≡ true → IsHolder hot p n count
some_holder hot p n zero held = absurd cc
some_holder hot p n (suc count) held = ⊎_elim
    (λ (here : holds hot p n ≡ true). record { id = n; low = omega arith; high = omega arith; has = here })
    (λ (lacks : holds hot p n ≡ false).
    let more : is_some (find (is_of p) (records_in hot (n + 1) count)) ≡ true =
    rw (find_no p (hot n) lacks) at (ap is_some (sym (find-append (is_of p) (hot n) (records_in hot (n + 1) count))) ∙ held) in
    let rest = some_holder hot p (n + 1) count more in
    record { id = rest.id; low = omega (arith, rest.low); high = omega (arith, rest.high); has = rest.has })
    (cases_Bool (holds hot p n))

module _ (content : Content) (journalled : Works) (a : AreSaved content journalled) where
  -- a journal holds just what its transaction journalled
  pub saved_holds : (p id : ℕ) → id < 16 → holds (hot_of content) p id ≡ has_page journalled id p
  saved_holds p id low = ⊎_elim
      (λ (bare : (journal_of content id ≡ []) × ((q : ℕ) → is_some (journalled id q) ≡ false)).
      let none : hot_of content id ≡ [] = ap (hot_records (file_page_size content)) bare.0 ∙ bare_hot (file_page_size content) in
      ap (list_any (is_of p)) none ∙ sym (bare.1 p))
      (λ (j : IsJournal (file_page_size content) (journal_of content id) (journalled id)).
      ap (list_any (is_of p)) (written_hot (file_page_size content) j.saved (journal_of content id) a.fits j.written) ∙ j.holds p)
      (a.journals id low)

  pub saved_other : other_size content ≡ None
  saved_other = find_nowhere (has_other_size content) 0 16 (λ i low high.
      ⊎_elim
      (λ (bare : (journal_of content i ≡ []) × ((q : ℕ) → is_some (journalled i q) ≡ false)). ap (is_other (file_page_size content)) bare.0 ∙ bare_other (file_page_size content))
      (λ (j : IsJournal (file_page_size content) (journal_of content i) (journalled i)). written_own (file_page_size content) j.saved (journal_of content i) a.fits j.written)
      (a.journals i (omega arith)))

  pub saved_apart : AreApart (hot_of content) 0 16
  saved_apart p i j low high from to has_i has_j = a.apart p i j (sym (saved_holds p i (omega arith)) ∙ has_i) (sym (saved_holds p j (omega arith)) ∙ has_j)

  pub saved_shared : shared_page content ≡ None
  saved_shared = shared_none (hot_of content) 0 16 saved_apart

  -- the first record of a page that a transaction journalled is its own
  pub found_own : (p id : ℕ) → has_page journalled id p ≡ true → find (is_of p) (all_hot content) ≡ find (is_of p) (hot_of content id)
  found_own p id has =
      let low : id < 16 = a.numbered id p has in
      find_holder (hot_of content) p id 0 16
      (λ i from to other. saved_holds p i (omega arith) ∙ false_from_ne_true (has_page journalled i p) (λ also. other (a.apart p i id also has)))
      (omega arith) (omega arith)

  pub found_none : (p : ℕ) → ((i : ℕ) → has_page journalled i p ≡ false) → find (is_of p) (all_hot content) ≡ None
  found_none p none = find_none (hot_of content) p 0 16 (λ i low high. saved_holds p i (omega arith) ∙ none i)

  pub own_held : (p id : ℕ) → has_page journalled id p ≡ true → is_held content p ≡ true
  own_held p id has = ap is_some (found_own p id has) ∙ find_any p (hot_of content id) ∙ saved_holds p id (a.numbered id p has) ∙ has

  -- a page that is held was journalled
  pub holder_of : (p : ℕ) → is_held content p ≡ true → (id : ℕ) × (has_page journalled id p ≡ true)
  holder_of p held =
      let h = some_holder (hot_of content) p 0 16 held in
      (h.id, sym (saved_holds p h.id (omega (arith, h.high))) ∙ h.has)
