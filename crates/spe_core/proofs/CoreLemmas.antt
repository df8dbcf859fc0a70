-- What a sound state says of its files, and of the number of their pages.
use Rattle.std.proofs.Common.{◌≡◌, ℕ, List, [], ◌∷◌, ◌++◌, length, refl, sym, ap, subst, ◌∙◌, true, Option, Some, None, unwrap_or}
use Rattle.std.specs.Option.{option_map_or}
use Rattle.spe_model.specs.Recovery.{file_page}
use Rattle.spe_model.specs.Paging.{lay}
use Rattle.spe_model.specs.Settled.{page_in}
use Rattle.spe_crash.proofs.NumbersLemmas.{pages_to-length}
use Rattle.spe_transactions.specs.Pages.{named_count}
use Rattle.spe_crash.proofs.FrontLemmas.{readable}
use Rattle.spe_crash.proofs.PagesLemmas.{opened as parts_of}
use Rattle.spe_core.specs.declared.event.Event.{Event, out-Event}
use Rattle.spe_core.specs.declared.event.Event.TheOpen.{Event-F}
use Rattle.spe_core.specs.declared.parts.Parts.{Parts}
use Rattle.spe_core.specs.Becomes.{Becomes, count_by}
use Rattle.spe_core.specs.Changed.{changed, changed_at, committed, cuts_of, ended, reading_under, released, undone, undo_of_live, update_live, with_commit, with_journalled, with_made, with_read, with_written, writing_under}
use Rattle.spe_core.specs.Changing.{AreOf, IsHeld, count_next, count_next_at}
use Rattle.spe_core.specs.Enabled.{count_of, enabled}
use Rattle.spe_core.specs.Laid.{laid}
use Rattle.spe_core.specs.Opened.{Opened}
use Rattle.spe_core.specs.Parts.{IsPaged, IsReady, state_of}
use Rattle.spe_core.specs.Serial.{IsSerial, after_events, next}
use Rattle.spe_stored.specs.Sheets.{sheet_at, pages_at}
use Rattle.spe_core.specs.Sound.{IsSound, now_laid}
use Rattle.spe_core.proofs.SoundSteps.{count_is}
use Rattle.spe_core.specs.State.{Committed, Live, State, live_of}
use Rattle.spe_core.proofs.Sound.{sound_after, sound_next, sound_serial}
use Rattle.spe_core.proofs.SoundCommit.{named_now}
use Rattle.spe_core.proofs.SoundLaid.{laid_next, laid_same}
use Rattle.spe_core.proofs.StepLemmas.{update_is}

-- the file of a sound state names a page size
paged_of : (s : State) → IsSound s → IsPaged s.content
paged_of s sound =
    let r = readable s.content (parts_of s.content (now_laid s) sound.recovers).front in
    record { front = r.long; low = r.low; high = r.high }

-- a state with the same commits has as many pages
count_same : (s other : State) → IsSound s → IsSound other → other.opening ≡ s.opening → other.commits ≡ s.commits → count_of s ≡ count_of other
count_same s other sound later opening commits =
    let same : now_laid other ≡ now_laid s = laid_same s other opening commits (length other.commits) ∙ ap (λ (cs : List Committed). laid s (length cs)) commits in
    count_is s sound ∙ ap length (sym same) ∙ sym (count_is other later)

-- the page 1 that a commit leaves names how many there are
named_over : (first : List ℕ) (o : Option (List ℕ)) → option_map_or named_count o (named_count first) ≡ named_count (unwrap_or o first)
named_over first None = refl
named_over first (Some page) = refl

count_more : (s other : State) (t : Live) → IsSound s → IsSound other → other.opening ≡ s.opening → other.commits ≡ s.commits ++ record { seen = t.seen; written = t.written } ∷ []
    → count_by (count_of s) t ≡ count_of other
count_more s other t sound later opening commits =
    let first = page_in (now_laid s) 1 in
    let next = lay (pages_at t.written) (page_in (now_laid s)) in
    let before : count_of s ≡ named_count first = count_is s sound ∙ sym (named_now s t sound) in
    let after : count_of other ≡ named_count (next 1) =
    count_is other later ∙ ap length (laid_next s other (record { seen = t.seen; written = t.written }) opening commits) ∙ pages_to-length next (named_count (next 1)) in
    ap (λ (n : ℕ). option_map_or named_count (sheet_at 1 t.written) n) before ∙ named_over first (sheet_at 1 t.written) ∙ sym after

-- a transaction that is changed leaves the commits
opening_stays : (s : State) (id : ℕ) (f : Live → Live) → (update_live s id f).opening ≡ s.opening
opening_stays s id f = ap (λ (x : State). x.opening) (update_is s id f)

commits_stay : (s : State) (id : ℕ) (f : Live → Live) → (update_live s id f).commits ≡ s.commits
commits_stay s id f = ap (λ (x : State). x.commits) (update_is s id f)

-- the number of pages after an event
count_at_commit : (s : State) (id : ℕ) (o : Option Live) → IsSound s → live_of s id ≡ o → IsSound (with_made (update_live (committed s o) id ended) (cuts_of s.content id))
    → option_map_or (count_by (count_of s)) o (count_of s) ≡ count_of (with_made (update_live (committed s o) id ended) (cuts_of s.content id))
count_at_commit s id None sound at later = count_same s _ sound later (opening_stays s id ended) (commits_stay s id ended)
count_at_commit s id (Some t) sound at later =
    count_more s _ t sound later (opening_stays (with_commit s t) id ended) (commits_stay (with_commit s t) id ended)

count_at : (s : State) (o : Opened) → IsSound s → IsSound (changed_at s o) → count_next_at s o ≡ count_of (changed_at s o)
count_at s (Event-F.Begin id) sound later = count_same s _ sound later refl refl
count_at s (Event-F.GrantRead id lock) sound later = let f = reading_under lock in count_same s _ sound later (opening_stays s id f) (commits_stay s id f)
count_at s (Event-F.GrantWrite id lock) sound later = let f = writing_under lock in count_same s _ sound later (opening_stays s id f) (commits_stay s id f)
count_at s (Event-F.Read id page) sound later =
    let f = with_read page (file_page s.content page) in count_same s _ sound later (opening_stays s id f) (commits_stay s id f)
count_at s (Event-F.OpenJournal id) sound later = count_same s _ sound later refl refl
count_at s (Event-F.Journal id page) sound later =
    let f = with_journalled page (file_page s.content page) in count_same s _ sound later (opening_stays s id f) (commits_stay s id f)
count_at s (Event-F.WriteBytes id page bytes) sound later =
    let f = with_written page bytes in count_same s _ sound later (opening_stays s id f) (commits_stay s id f)
count_at s (Event-F.CommitCut id) sound later = count_at_commit s id (live_of s id) sound refl later
count_at s (Event-F.UndoBytes id) sound later =
    let f = undone (undo_of_live (live_of s id)) in count_same s _ sound later (opening_stays s id f) (commits_stay s id f)
count_at s (Event-F.RollCut id) sound later = count_same s _ sound later (opening_stays s id ended) (commits_stay s id ended)
count_at s (Event-F.Release id lock) sound later = let f = released lock in count_same s _ sound later (opening_stays s id f) (commits_stay s id f)
count_at s (Event-F.Stop after bytes) sound later = count_same s _ sound later refl refl
count_at s Event-F.RecoverOp sound later = count_same s _ sound later refl refl
count_at s _ sound later = refl

-- what the invariant of a core says
pub ready_of : (parts : Parts) → IsHeld parts → IsReady parts
ready_of parts held = record { paged = paged_of (state_of parts) held.sound; slots = held.sound.slots; count = held.count }

pub changed_sound : (s : State) (e : Event) → enabled s e ≡ true → IsSound s → IsSound (changed s e)
changed_sound s e may sound = let same : next s e ≡ changed s e = rw may refl in subst IsSound same (sound_next s e sound)

pub counted_next : (parts : Parts) (e : Event) → IsHeld parts → enabled (state_of parts) e ≡ true → count_next (state_of parts) e ≡ count_of (changed (state_of parts) e)
counted_next parts e held may = let s = state_of parts in count_at s (out-Event e) held.sound (changed_sound s e may held.sound)

pub serial_after : (parts : Parts) → IsHeld parts → (es : List Event) → IsSerial (after_events (state_of parts) es)
serial_after parts held es = sound_serial (after_events (state_of parts) es) (sound_after (state_of parts) es held.sound)

-- the parts of the next state
pub held_next : (old new : Parts) (e : Event) → IsHeld old → enabled (state_of old) e ≡ true → AreOf new (changed (state_of old) e) → IsHeld new
held_next old new e held may of = record {
  sound = subst IsSound (sym of.state) (changed_sound (state_of old) e may held.sound);
  count = of.pages ∙ ap count_of (sym of.state);
}

pub held_same : (old new : Parts) → IsHeld old → Becomes old new (state_of old) → IsHeld new
held_same old new held same = record {
  sound = subst IsSound (sym same.state) held.sound;
  count = same.pages ∙ held.count ∙ ap count_of (sym same.state);
}
