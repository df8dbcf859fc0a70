-- What one operation of a transaction makes of the files of a core.
use Rattle.std.proofs.Common.{◌≡◌, ◌≢◌, ℕ, ◌%◌, ◌^◌, ◌<◌, ◌≤◌, List, [], ◌∷◌, length, take, refl, sym, ap, ◌∙◌, arith, Bool, true, false, Option, Some, None, ⊎_elim, inl, inr}
use Rattle.std.specs.Prelude.{◌&&◌, ◌||◌, ◌==◌, not, nat_le, nat_lt, is_some}
use Rattle.std.specs.Option.{option_map_or}
use Rattle.std.specs.Str.{bytes_eq}
use Rattle.std.specs.Cmp.Lexicographic.{bytes_decides}
use Rattle.std.proofs.lemmas.Bool.{and_parts, cases_eq, eqb-true, eq-eqb, false_from_ne_true, leb-true, ltb-false, ltb-true, not-true, or_cases}
use Rattle.std.proofs.lemmas.List.{nil_from_length}
use Rattle.spe_model.specs.declared.file.FileNo.TheVariants.{Database}
use Rattle.spe_model.specs.Big.{u32_at}
use Rattle.spe_model.specs.Content.{Content, bytes_of}
use Rattle.spe_model.specs.Covered.{Recovers}
use Rattle.spe_model.specs.Recovery.{file_page, file_page_size, journal_of}
use Rattle.spe_model.specs.Rollback.{has_length}
use Rattle.spe_crash.proofs.PagesLemmas.{opened, some_pages}
use Rattle.spe_transactions.specs.Made.{Makes}
use Rattle.spe_transactions.specs.Pages.{IsAdded}
use Rattle.spe_transactions.specs.Work.{MayWrite, Works, has_page, with_page, without_page}
use Rattle.spe_transactions.proofs.JournalLemmas.{head_works, record_works}
use Rattle.spe_transactions.proofs.PageWorkLemmas.{put_works, undo_works}
use Rattle.spe_core.specs.Changed.{head_write, page_write, record_write, undo_of}
use Rattle.spe_core.specs.Enabled.{count_of, has_changed, holds, is_changed, is_page, is_page_for, is_writable, lock_of, may_journal, may_write, page_size_of, wanted_count, writes_page}
use Rattle.spe_core.specs.Laid.{ok_or_none, pages_of}
use Rattle.spe_core.specs.Locks.{has_lock}
use Rattle.spe_stored.specs.Sheets.{Sheets, has_sheet, sheet_at}
use Rattle.spe_core.specs.Sound.{IsSound, IsUnder, journalled_of, listed, now_laid, works_in, written_of}
use Rattle.spe_core.specs.State.{Live, State, is_ended, live_in}
use Rattle.spe_core.proofs.SoundLocks.{held_by}
use Rattle.spe_core.proofs.SoundSheets.{found_first, found_some, sheet_first}
use Rattle.spe_core.proofs.SoundState.{IsAtWork}
use Rattle.spe_core.proofs.SoundWorks.{going_has}

pub pages_of_is : (content : Content) (pages : List (List ℕ)) → Recovers content pages → pages_of content ≡ pages
unfolding pages_of
pages_of_is content pages recovers = ap ok_or_none recovers

pub count_is : (s : State) → IsSound s → count_of s ≡ length (now_laid s)
count_is s sound = ap length (pages_of_is s.content (now_laid s) sound.recovers)

-- a page that is counted
pub counted_page : (s : State) (page : ℕ) → IsSound s → is_page s page ≡ true → (1 ≤ page) × (page ≤ length (now_laid s))
counted_page s page sound is =
    let parts = and_parts (nat_le 1 page) (nat_le page (count_of s)) is in
    let high : page ≤ count_of s = leb-true page (count_of s) parts.1 in
    (leb-true 1 page parts.0, omega (arith, count_is s sound))

pub bare_journal : (content : Content) (id : ℕ) → has_length content id ≡ false → journal_of content id ≡ []
bare_journal content id none = nil_from_length (journal_of content id) (let few : length (journal_of content id) ≤ 0 = ltb-false 0 (length (journal_of content id)) none in omega arith)

module _ (s : State) (id : ℕ) (t : Live) (sound : IsSound s) (w : IsAtWork s id t) where
  abbrev pages : List (List ℕ)
  pages = now_laid s

  abbrev journalled : Works
  journalled = works_in journalled_of s.live

  abbrev written : Works
  written = works_in written_of s.live

  low : id < 16
  low = w.all.numbered id t w.goes

  -- a page that the transaction does not part, though it holds its lock, none lists
  pub none_lists : (part : Live → Sheets) (page : ℕ) → ((x : Live) → IsUnder s.slots x → has_sheet page (part x) ≡ true → has_lock (lock_of s page) x.writes ≡ true)
      → holds (lock_of s page) t ≡ true → has_sheet page (part t) ≡ false → (i : ℕ) → has_page (works_in part s.live) i page ≡ false
  none_lists part page locks held lacks i = ⊎_elim
      (λ (own : i ≡ id). ap (λ (n : ℕ). has_page (works_in part s.live) n page) own ∙ ap is_some (going_has part s.live id t page w.goes) ∙ lacks)
      (λ (other : i ≢ id). by_found other (live_in i s.live) refl)
      (cases_eq i id)
    where
      by_phase : i ≢ id → (x : Live) → live_in i s.live ≡ Some x → (over : Bool) → is_ended x ≡ over → is_some (listed part (Some x) page) ≡ false
      by_phase other x e true over = rw over refl
      by_phase other x e false going =
          rw going
          (false_from_ne_true (has_sheet page (part x)) (λ has.
          let under : IsUnder s.slots x = w.all.locked.under i x (record { its = e; going = going }) in
          other (w.all.locked.alone (lock_of s page) i id x t e w.goes.its (locks x under has) held)))

      by_found : i ≢ id → (found : Option Live) → live_in i s.live ≡ found → is_some (listed part found page) ≡ false
      by_found other None e = refl
      by_found other (Some x) e = by_phase other x e (is_ended x) refl

  -- so it is with pages that were journalled, and with those that were written
  pub none_journalled : (page : ℕ) → holds (lock_of s page) t ≡ true → has_sheet page t.journalled ≡ false → (i : ℕ) → has_page journalled i page ≡ false
  none_journalled page held lacks = none_lists journalled_of page (λ x under has. under.journalled page has) held lacks

  pub none_written : (page : ℕ) → holds (lock_of s page) t ≡ true → has_sheet page t.written ≡ false → (i : ℕ) → has_page written i page ≡ false
  none_written page held lacks = none_lists written_of page (λ x under has. under.written page has) held lacks

  pub own_has : (part : Live → Sheets) (page : ℕ) → has_sheet page (part t) ≡ true → has_page (works_in part s.live) id page ≡ true
  own_has part page has = ap is_some (going_has part s.live id t page w.goes) ∙ has

  -- the head of a journal
  pub head_makes : not (has_length s.content id) ≡ true → Makes s.content (head_write s id) pages pages journalled written
  head_makes none =
      head_works s.content pages journalled written w.all.work id low (s.made % 2 ^ 32) (count_of s) (omega arith)
      (bare_journal s.content id (not-true (has_length s.content id) none))

  -- a record
  pub record_makes : (page : ℕ) → may_journal s id page t ≡ true
      → Makes s.content (record_write s id page) pages pages (with_page id page (file_page s.content page) journalled) written
  record_makes page may =
      let all = and_parts (writes_page s page t) (has_length s.content id && is_page s page && not (has_sheet page t.journalled)) may in
      let one = and_parts (has_length s.content id && is_page s page) (not (has_sheet page t.journalled)) all.1 in
      let two = and_parts (has_length s.content id) (is_page s page) one.0 in
      let counted = counted_page s page sound two.1 in
      record_works s.content pages journalled written w.all.work id low page
      (λ none. let some : 0 < length (journal_of s.content id) = ltb-true 0 (length (journal_of s.content id)) two.0 in omega (arith, ap length none))
      counted.0 counted.1 (none_journalled page (held_by (lock_of s page) t all.0) (not-true (has_sheet page t.journalled) one.1))

  -- where a page is added, page 1 was written, and so journalled
  first_journalled : (page : ℕ) → page ≤ wanted_count t → length pages < page → is_some (journalled id 1) ≡ true
  first_journalled page wanted above = ⊎_elim
      (λ (own : has_page journalled id 1 ≡ true). own)
      (λ (added : IsAdded pages (journalled id) 1). added.first)
      (w.all.work.placed id 1 (own_has written_of 1 (let some : 1 ≤ wanted_count t = omega arith in by_found (sheet_at 1 t.written) some)))
    where
      by_found : (found : Option (List ℕ)) → 1 ≤ option_map_or (λ (bytes : List ℕ). u32_at bytes 28) found 0 → is_some found ≡ true
      by_found None some = absurd (let none : 1 ≤ 0 = some in omega arith)
      by_found (Some bytes) some = refl

  writable : (page : ℕ) → is_writable s page t ≡ true → MayWrite pages (journalled id) page
  writable page may = ⊎_elim
      (λ (has : has_sheet page t.journalled ≡ true). inl (own_has journalled_of page has))
      (λ (above : (nat_lt (count_of s) page && nat_le page (wanted_count t)) ≡ true).
      let parts = and_parts (nat_lt (count_of s) page) (nat_le page (wanted_count t)) above in
      let past : count_of s < page = ltb-true (count_of s) page parts.0 in
      let more : length pages < page = omega (arith, count_is s sound) in
      inr (record { above = more; counted = sound.counted; first = first_journalled page (leb-true page (wanted_count t) parts.1) more }))
      (or_cases (has_sheet page t.journalled) (nat_lt (count_of s) page && nat_le page (wanted_count t)) may)

  -- the bytes of one page
  page_front : (page : ℕ) (bytes : List ℕ) → is_page_for s page bytes ≡ true → (length bytes ≡ file_page_size s.content) × (page ≡ 1 → take 24 bytes ≡ take 24 (bytes_of s.content Database))
  unfolding is_page_for
  page_front page bytes is =
      let same = bytes_eq (take 24 bytes) (take 24 (bytes_of s.content Database)) in
      let parts = and_parts (length bytes == page_size_of s) (not (page == 1) || same) is in (
        eqb-true (length bytes) (page_size_of s) parts.0,
        λ first. (bytes_decides (take 24 bytes) (take 24 (bytes_of s.content Database))).0 (second (page == 1) same (eq-eqb page 1 first) parts.1),
      )
    where
      second : (a b : Bool) → a ≡ true → (not a || b) ≡ true → b ≡ true
      second true b is_a e = e
      second false b is_a e = absurd cc

  -- a page
  pub put_makes : (page : ℕ) (bytes : List ℕ) → may_write s page bytes t ≡ true
      → Makes s.content (page_write s page bytes) pages pages journalled (with_page id page bytes written)
  put_makes page bytes may =
      let all = and_parts (writes_page s page t) (is_page_for s page bytes && is_writable s page t) may in
      let parts = and_parts (is_page_for s page bytes) (is_writable s page t) all.1 in
      let is = page_front page bytes parts.0 in
      put_works s.content pages journalled written w.all.work id page bytes is.0 is.1 (writable page parts.1)

  -- the page that is undone next
  pub undo_makes : has_changed t ≡ true
      → (sheet : ℕ × List ℕ) × (undo_of t ≡ Some sheet) × Makes s.content (page_write s sheet.0 sheet.1) pages pages journalled (without_page id sheet.0 written)
  undo_makes changed =
      let found = found_some (is_changed t) t.journalled changed in
      let sheet = found.0 in
      let own : journalled id sheet.0 ≡ Some sheet.1 =
      going_has journalled_of s.live id t sheet.0 w.goes ∙ sheet_first sheet.0 t.journalled ∙ found_first (λ q. has_sheet q t.written) sheet t.journalled found.1 in
      (sheet, found.1, undo_works s.content pages journalled written w.all.work id sheet.0 sheet.1 own)
