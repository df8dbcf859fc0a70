-- Each event of a live transaction keeps a core sound, but for those that end it.
use Rattle.std.proofs.Common.{◌≡◌, ◌≢◌, ℕ, ◌<◌, ◌≤◌, List, [], ◌∷◌, length, refl, sym, ap, ◌∙◌, subst, Bool, true, false, cond, Option, Some, None, ⊎_elim}
use Rattle.std.specs.Prelude.{◌&&◌, ◌||◌, not, is_some, nat_lt}
use Rattle.std.specs.Option.{option_map_or}
use Rattle.std.specs.Ordering.{nat_cmp}
use Rattle.std.specs.BTreeMap.{insert_entry}
use Rattle.std.proofs.lemmas.Bool.{and_parts, cases_eq, not-true, or_cases}
use Rattle.spe_model.specs.Recovery.{file_page}
use Rattle.spe_model.specs.Rollback.{has_length}
use Rattle.spe_model.specs.Settled.{page_in}
use Rattle.spe_model.specs.Trace.{Operation, made_by}
use Rattle.spe_transactions.specs.Made.{Makes}
use Rattle.spe_transactions.specs.Pages.{page_at}
use Rattle.spe_transactions.specs.Work.{AtWork, Works, with_page, without_page}
use Rattle.spe_transactions.proofs.PageLemmas.{page_there}
use Rattle.spe_stored.specs.Sheets.{Sheets, has_sheet, sheet_at, with_sheet}
use Rattle.spe_core.specs.Changed.{fresh, head_write, page_write, reading_under, record_write, released, undo_of_live, undo_writes, undone, update_live, updated, with_journalled, with_live, with_made, with_read, with_written, writing_under}
use Rattle.spe_core.specs.Enabled.{another_has, has_changed, holds, holds_none, is_free, is_page, is_page_for, is_serving, is_writable, lock_of, may_journal, may_read, may_read_under, may_write, may_write_under, where_going, where_live, where_working, writes_page}
use Rattle.spe_core.specs.Locks.{has_lock}
use Rattle.spe_core.specs.Serial.{NobodyWrote}
use Rattle.spe_core.specs.Sound.{AreServed, IsSound, IsUnder, journalled_of, listed, now_laid, works_in, written_of}
use Rattle.spe_core.specs.State.{Live, State, is_ended, live_in, live_of}
use Rattle.spe_core.proofs.SoundLocks.{FitsLocks, all_under, fits_fresh, fits_less, fits_reading, fits_released, fits_writing, without_sheets}
use Rattle.spe_core.proofs.SoundSheets.{with_other, with_same}
use Rattle.spe_core.proofs.SoundState.{HasSeen, IsAtWork, changed_served, found_live, going_with, goes_on, served, serving, sound_like, working_with}
use Rattle.spe_core.proofs.SoundSteps.{counted_page, head_makes, none_written, put_makes, record_makes, undo_makes}
use Rattle.spe_core.proofs.SoundWorks.{works_are, works_same, works_with, works_without}

-- the file has each page that no transaction wrote
pub nobody_wrote : (s : State) → IsSound s → is_serving s ≡ true → (p : ℕ) → NobodyWrote s p → (bytes : List ℕ) → page_at (now_laid s) p ≡ Some bytes → file_page s.content p ≡ bytes
nobody_wrote s sound is_served p nobody bytes found =
    let a : AreServed s.slots s.live s.content (now_laid s) = served s.mode s.slots s.live s.content (now_laid s) is_served sound.doing in
    a.work.kept p bytes found (λ id. by_found id (live_in id s.live) refl)
  where
    by_phase : (id : ℕ) (x : Live) → live_in id s.live ≡ Some x → (over : Bool) → is_ended x ≡ over → is_some (listed written_of (Some x) p) ≡ false
    by_phase id x e true over = rw over refl
    by_phase id x e false going = rw going (nobody id x e going)

    by_found : (id : ℕ) (o : Option Live) → live_in id s.live ≡ o → is_some (listed written_of o p) ≡ false
    by_found id None e = refl
    by_found id (Some x) e = by_phase id x e (is_ended x) refl

-- a transaction lists what that of its id did
abbrev ListsSame : List (ℕ × Live) → ℕ → Live → (Live → Sheets) → Type 0
ListsSame live id u part = (p : ℕ) → listed part (Some u) p ≡ works_in part live id p

same_works : (part : Live → Sheets) (live : List (ℕ × Live)) (id : ℕ) (u : Live) → ListsSame live id u part → works_in part (insert_entry nat_cmp live id u) ≡ works_in part live
same_works part live id u own = works_are part live id u (works_in part live) own (λ i p other. refl)

-- a transaction of the same lists, which holds other locks
record IsRelocked (s : State) (id : ℕ) (u : Live) : Type 0 where
  low : is_ended u ≡ false → id < 16
  seen : is_ended u ≡ false → HasSeen (now_laid s) u
  fits : FitsLocks s.slots s.live id u
  journalled : ListsSame s.live id u journalled_of
  written : ListsSame s.live id u written_of

relocked : (s : State) (id : ℕ) (u : Live) → IsSound s → is_serving s ≡ true → IsRelocked s id u → IsSound (with_live s id u)
relocked s id u sound is_served r =
    let a : AreServed s.slots s.live s.content (now_laid s) = served s.mode s.slots s.live s.content (now_laid s) is_served sound.doing in
    let work : AtWork s.content (now_laid s) (works_in journalled_of (insert_entry nat_cmp s.live id u)) (works_in written_of (insert_entry nat_cmp s.live id u)) =
    subst (λ (works : Works). AtWork s.content (now_laid s) works (works_in written_of (insert_entry nat_cmp s.live id u))) (sym (same_works journalled_of s.live id u r.journalled))
    (subst (AtWork s.content (now_laid s) (works_in journalled_of s.live)) (sym (same_works written_of s.live id u r.written)) a.work) in
    sound_like s (with_live s id u) refl refl refl sound sound.files sound.recovers
    (serving s.mode s.slots (insert_entry nat_cmp s.live id u) s.content (now_laid s) is_served
    (changed_served s id u s.content (now_laid s) a
    (record { low = r.low; seen = r.seen; others = λ j x other goes. a.seen j x goes; fits = r.fits; work = work })))

-- an id that is free lists nothing
free_lists : (part : Live → Sheets) (p : ℕ) (o : Option Live) → option_map_or (λ t. is_ended t && holds_none t) o true ≡ true → None ≡ listed part o p
free_lists part p None free = refl
free_lists part p (Some t) free = let parts = and_parts (is_ended t) (holds_none t) free in rw parts.0 refl

pub sound_begin : (s : State) (id : ℕ) → IsSound s → is_serving s ≡ true → id < 16 → is_free s id ≡ true → IsSound (with_live s id fresh)
sound_begin s id sound is_served low free =
    relocked s id fresh sound is_served (record {
      low = λ going. low;
      seen = λ going p bytes found. absurd cc;
      fits = fits_fresh s.slots s.live id;
      journalled = λ p. free_lists journalled_of p (live_of s id) free;
      written = λ p. free_lists written_of p (live_of s id) free;
    })

-- a transaction that works is given a lock
given : (s : State) (id : ℕ) (t u : Live) → IsSound s → IsAtWork s id t → u ≡ record t { reads = u.reads; writes = u.writes } → FitsLocks s.slots s.live id u → IsSound (with_live s id u)
given s id t u sound w is fits =
    relocked s id u sound w.serves (record {
      low = λ going. w.all.numbered id t w.goes;
      seen = λ going p bytes found. w.all.seen id t w.goes p bytes (ap (λ (x : Live). sheet_at p x.seen) (sym is) ∙ found);
      fits = fits;
      journalled = λ p. ap (λ (x : Live). listed journalled_of (Some x) p) is ∙ ap (λ (o : Option Live). listed journalled_of o p) (sym w.goes.its);
      written = λ p. ap (λ (x : Live). listed written_of (Some x) p) is ∙ ap (λ (o : Option Live). listed written_of o p) (sym w.goes.its);
    })

pub sound_grant_read : (s : State) (id lock : ℕ) → IsSound s → where_working s id (λ t. may_read_under s id lock) ≡ true → IsSound (update_live s id (reading_under lock))
sound_grant_read s id lock sound may =
    let g = working_with s id (λ t. may_read_under s id lock) sound may in
    let parts = and_parts (nat_lt lock s.slots) (not (another_has id (λ t. has_lock lock t.writes) s.live)) g.passes in
    let nobody : another_has id (λ t. has_lock lock t.writes) s.live ≡ false = not-true (another_has id (λ t. has_lock lock t.writes) s.live) parts.1 in
    subst (λ (o : Option Live). IsSound (updated s id (reading_under lock) o)) (sym g.its)
    (given s id g.t (reading_under lock g.t) sound g.work refl (fits_reading s.slots s.live id lock g.t g.work.all.locked g.its g.work.goes.going nobody))

pub sound_grant_write : (s : State) (id lock : ℕ) → IsSound s → where_working s id (λ t. may_write_under s id lock) ≡ true → IsSound (update_live s id (writing_under lock))
sound_grant_write s id lock sound may =
    let g = working_with s id (λ t. may_write_under s id lock) sound may in
    let parts = and_parts (nat_lt lock s.slots) (not (another_has id (holds lock) s.live)) g.passes in
    let nobody : another_has id (holds lock) s.live ≡ false = not-true (another_has id (holds lock) s.live) parts.1 in
    subst (λ (o : Option Live). IsSound (updated s id (writing_under lock) o)) (sym g.its)
    (given s id g.t (writing_under lock g.t) sound g.work refl (fits_writing s.slots s.live id lock g.t g.work.all.locked g.its g.work.goes.going nobody))

-- a transaction that has ended gives a lock back
pub sound_release : (s : State) (id lock : ℕ) → IsSound s → (is_serving s && where_live s id (λ t. is_ended t && holds lock t)) ≡ true → IsSound (update_live s id (released lock))
sound_release s id lock sound may =
    let parts = and_parts (is_serving s) (where_live s id (λ t. is_ended t && holds lock t)) may in
    let found = found_live (λ t. is_ended t && holds lock t) (live_of s id) parts.1 in
    let t : Live = found.0 in
    let over : is_ended t ≡ true = (and_parts (is_ended t) (holds lock t) found.2).0 in
    let a : AreServed s.slots s.live s.content (now_laid s) = served s.mode s.slots s.live s.content (now_laid s) parts.0 sound.doing in
    subst (λ (o : Option Live). IsSound (updated s id (released lock) o)) (sym found.1)
    (relocked s id (released lock t) sound parts.0 (record {
      low = λ going. absurd (let both : true ≡ false = sym over ∙ going in cc);
      seen = λ going. absurd (let both : true ≡ false = sym over ∙ going in cc);
      fits = fits_released s.slots s.live id lock t a.locked found.1 over;
      journalled = λ p. ap (λ (o : Option Live). listed journalled_of o p) (sym found.1);
      written = λ p. ap (λ (o : Option Live). listed written_of o p) (sym found.1);
    }))

-- an operation that leaves the pages, and what the transaction lists then
made_sound : (s : State) (id : ℕ) (t u : Live) (o : Operation) (journalled written : Works) → IsSound s → IsAtWork s id t → HasSeen (now_laid s) u → FitsLocks s.slots s.live id u
    → works_in journalled_of (insert_entry nat_cmp s.live id u) ≡ journalled → works_in written_of (insert_entry nat_cmp s.live id u) ≡ written
    → Makes s.content o (now_laid s) (now_laid s) journalled written → IsSound (with_made (with_live s id u) (o ∷ []))
made_sound s id t u o journalled written sound w seen fits j n m =
    sound_like s (with_made (with_live s id u) (o ∷ [])) refl refl refl sound m.made.files m.made.recovers
    (goes_on s id t u (made_by o s.content) (now_laid s) w seen (λ j x other goes. w.all.seen j x goes) fits journalled written j n m.made)

-- the pages change that a transaction lists, and no lock
fits_pages : (s : State) (id : ℕ) (t u : Live) → IsAtWork s id t → u.reads ≡ t.reads → u.writes ≡ t.writes → (IsUnder s.slots t → IsUnder s.slots u) → FitsLocks s.slots s.live id u
fits_pages s id t u w reads writes under =
    fits_less s.slots s.live id u w.all.locked t w.goes.its (λ going. under (w.all.locked.under id t w.goes))
    (λ lock has. ap (has_lock lock) (sym writes) ∙ has)
    (λ lock held. sym (ap (λ (b : Bool). b || has_lock lock u.writes) (ap (has_lock lock) reads) ∙ ap (λ (b : Bool). has_lock lock t.reads || b) (ap (has_lock lock) writes)) ∙ held)

-- a page is read that the transaction neither wrote nor read
read_seen : (s : State) (id page : ℕ) (t : Live) → IsSound s → IsAtWork s id t → holds (lock_of s page) t ≡ true → 1 ≤ page → page ≤ length (now_laid s) → has_sheet page t.written ≡ false
    → HasSeen (now_laid s) (record t { seen = with_sheet page (file_page s.content page) t.seen })
read_seen s id page t sound w held low high lacks p bytes found = ⊎_elim
    (λ (here : p ≡ page).
    let both : Some (file_page s.content page) ≡ Some bytes = sym (with_same page (file_page s.content page) t.seen) ∙ ap (λ (n : ℕ). sheet_at n (with_sheet page (file_page s.content page) t.seen)) (sym here) ∙ found in
    let is : file_page s.content page ≡ bytes = cc in
    let there : page_at (now_laid s) page ≡ Some (page_in (now_laid s) page) = page_there (now_laid s) page low high in
    let own : file_page s.content page ≡ page_in (now_laid s) page = w.all.work.kept page (page_in (now_laid s) page) there (none_written s id t sound w page held lacks) in
    ap (page_at (now_laid s)) here ∙ there ∙ ap (λ (b : List ℕ). Some b) (sym own ∙ is))
    (λ (other : p ≢ page). w.all.seen id t w.goes p bytes (sym (with_other page p (file_page s.content page) t.seen other) ∙ found))
    (cases_eq p page)

-- what a reading leaves of a transaction
record IsRead (s : State) (t u : Live) : Type 0 where
  over : is_ended u ≡ is_ended t
  journalled : u.journalled ≡ t.journalled
  written : u.written ≡ t.written
  reads : u.reads ≡ t.reads
  writes : u.writes ≡ t.writes
  under : IsUnder s.slots t → IsUnder s.slots u
  seen : HasSeen (now_laid s) u

read_made : (s : State) (id page : ℕ) (t : Live) → IsSound s → IsAtWork s id t → holds (lock_of s page) t ≡ true → ((has_sheet page t.written ≡ false) → (1 ≤ page) × (page ≤ length (now_laid s)))
    → IsRead s t (with_read page (file_page s.content page) t)
read_made s id page t sound w held counted = by_tests (has_sheet page t.written) (has_sheet page t.seen) refl
  where
    same : IsRead s t t
    same = record { over = refl; journalled = refl; written = refl; reads = refl; writes = refl; under = λ under. under; seen = w.all.seen id t w.goes }

    by_tests : (wrote read : Bool) → has_sheet page t.written ≡ wrote → IsRead s t (cond (wrote || read) t (record t { seen = with_sheet page (file_page s.content page) t.seen }))
    by_tests true read e = same
    by_tests false true e = same
    by_tests false false e = record {
      over = refl;
      journalled = refl;
      written = refl;
      reads = refl;
      writes = refl;
      under = λ under. record {
        seen = all_under (λ p. holds (lock_of s p) t ≡ true) page (file_page s.content page) t.seen held under.seen;
        journalled = under.journalled;
        written = under.written;
      };
      seen = read_seen s id page t sound w held (counted e).0 (counted e).1 e;
    }

pub sound_read : (s : State) (id page : ℕ) → IsSound s → where_working s id (may_read s page) ≡ true → IsSound (update_live s id (with_read page (file_page s.content page)))
sound_read s id page sound may =
    let g = working_with s id (may_read s page) sound may in
    let parts = and_parts (holds (lock_of s page) g.t) (is_page s page || has_sheet page g.t.written) g.passes in
    let u = with_read page (file_page s.content page) g.t in
    let r : IsRead s g.t u =
    read_made s id page g.t sound g.work parts.0
    (λ lacks.
    ⊎_elim
    (λ (is : is_page s page ≡ true). counted_page s page sound is)
    (λ (has : has_sheet page g.t.written ≡ true). absurd (let impossible : true ≡ false = sym has ∙ lacks in cc))
    (or_cases (is_page s page) (has_sheet page g.t.written) parts.1)) in
    let going : is_ended u ≡ false = r.over ∙ g.work.goes.going in
    subst (λ (o : Option Live). IsSound (updated s id (with_read page (file_page s.content page)) o)) (sym g.its)
    (sound_like s (with_live s id u) refl refl refl sound sound.files sound.recovers
    (goes_on s id g.t u s.content (now_laid s) g.work r.seen (λ j x other goes. g.work.all.seen j x goes) (fits_pages s id g.t u g.work r.reads r.writes r.under)
    (works_in journalled_of s.live) (works_in written_of s.live)
    (works_same journalled_of s.live id u g.t g.work.goes going r.journalled) (works_same written_of s.live id u g.t g.work.goes going r.written) g.work.all.work))

pub sound_open_journal : (s : State) (id : ℕ) → IsSound s → where_working s id (λ t. not (has_length s.content id)) ≡ true → IsSound (with_made s (head_write s id ∷ []))
sound_open_journal s id sound may =
    let g = working_with s id (λ t. not (has_length s.content id)) sound may in
    let m = head_makes s id g.t sound g.work g.passes in
    let a = g.work.all in
    sound_like s (with_made s (head_write s id ∷ [])) refl refl refl sound m.made.files m.made.recovers
    (serving s.mode s.slots s.live (made_by (head_write s id) s.content) (now_laid s) g.work.serves (record { work = m.made; numbered = a.numbered; seen = a.seen; locked = a.locked }))

pub sound_journal : (s : State) (id page : ℕ) → IsSound s → where_working s id (may_journal s id page) ≡ true
    → IsSound (with_made (update_live s id (with_journalled page (file_page s.content page))) (record_write s id page ∷ []))
sound_journal s id page sound may =
    let g = working_with s id (may_journal s id page) sound may in
    let own : writes_page s page g.t ≡ true = (and_parts (writes_page s page g.t) (has_length s.content id && is_page s page && not (has_sheet page g.t.journalled)) g.passes).0 in
    let bytes = file_page s.content page in
    let u = with_journalled page bytes g.t in
    let fits : FitsLocks s.slots s.live id u =
    fits_pages s id g.t u g.work refl refl
    (λ under. record { seen = under.seen; journalled = all_under (λ p. has_lock (lock_of s p) g.t.writes ≡ true) page bytes g.t.journalled own under.journalled; written = under.written }) in
    subst (λ (o : Option Live). IsSound (with_made (updated s id (with_journalled page bytes) o) (record_write s id page ∷ []))) (sym g.its)
    (made_sound s id g.t u (record_write s id page) (with_page id page bytes (works_in journalled_of s.live)) (works_in written_of s.live) sound g.work (g.work.all.seen id g.t g.work.goes) fits
    (works_with journalled_of s.live id u g.t page bytes g.work.goes g.work.goes.going refl) (works_same written_of s.live id u g.t g.work.goes g.work.goes.going refl)
    (record_makes s id g.t sound g.work page g.passes))

pub sound_write_bytes : (s : State) (id page : ℕ) (bytes : List ℕ) → IsSound s → where_working s id (may_write s page bytes) ≡ true
    → IsSound (with_made (update_live s id (with_written page bytes)) (page_write s page bytes ∷ []))
sound_write_bytes s id page bytes sound may =
    let g = working_with s id (may_write s page bytes) sound may in
    let own : writes_page s page g.t ≡ true = (and_parts (writes_page s page g.t) (is_page_for s page bytes && is_writable s page g.t) g.passes).0 in
    let u = with_written page bytes g.t in
    let fits : FitsLocks s.slots s.live id u =
    fits_pages s id g.t u g.work refl refl
    (λ under. record { seen = under.seen; journalled = under.journalled; written = all_under (λ p. has_lock (lock_of s p) g.t.writes ≡ true) page bytes g.t.written own under.written }) in
    subst (λ (o : Option Live). IsSound (with_made (updated s id (with_written page bytes) o) (page_write s page bytes ∷ []))) (sym g.its)
    (made_sound s id g.t u (page_write s page bytes) (works_in journalled_of s.live) (with_page id page bytes (works_in written_of s.live)) sound g.work (g.work.all.seen id g.t g.work.goes) fits
    (works_same journalled_of s.live id u g.t g.work.goes g.work.goes.going refl) (works_with written_of s.live id u g.t page bytes g.work.goes g.work.goes.going refl)
    (put_makes s id g.t sound g.work page bytes g.passes))

pub sound_undo_bytes : (s : State) (id : ℕ) → IsSound s → where_going s id has_changed ≡ true
    → IsSound (with_made (update_live s id (undone (undo_of_live (live_of s id)))) (undo_writes s (undo_of_live (live_of s id))))
sound_undo_bytes s id sound may =
    let g = going_with s id has_changed sound may in
    let undo = undo_makes s id g.t sound g.work g.passes in
    let sheet = undo.0 in
    let u = undone (Some sheet) g.t in
    let fits : FitsLocks s.slots s.live id u =
    fits_pages s id g.t u g.work refl refl
    (λ under. record { seen = under.seen; journalled = under.journalled; written = λ p has. under.written p (without_sheets p sheet.0 g.t.written has) }) in
    let made : IsSound (with_made (with_live s id u) (undo_writes s (Some sheet))) =
    made_sound s id g.t u (page_write s sheet.0 sheet.1) (works_in journalled_of s.live) (without_page id sheet.0 (works_in written_of s.live)) sound g.work (g.work.all.seen id g.t g.work.goes) fits
    (works_same journalled_of s.live id u g.t g.work.goes refl refl) (works_without written_of s.live id u g.t sheet.0 g.work.goes refl refl)
    undo.2 in
    subst (λ (o : Option Live). IsSound (with_made (updated s id (undone (undo_of_live o)) o) (undo_writes s (undo_of_live o)))) (sym g.its)
    (subst (λ (o : Option (ℕ × List ℕ)). IsSound (with_made (with_live s id (undone o g.t)) (undo_writes s o))) (sym undo.1) made)
