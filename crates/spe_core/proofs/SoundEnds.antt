-- A transaction that commits, or ends with nothing written, keeps a core sound.
use Rattle.std.proofs.Common.{◌≡◌, ◌≢◌, ℕ, zero, suc, ◌<◌, List, [], ◌∷◌, ◌++◌, length, refl, sym, ap, ◌∙◌, arith, subst, true, false, Option, Some, ⊎_elim, inl, inr}
use Rattle.std.specs.Prelude.{◌⊎◌, not, is_some, slice_get}
use Rattle.std.specs.Ordering.{nat_cmp}
use Rattle.std.specs.BTreeMap.{insert_entry}
use Rattle.std.proofs.Math.Path.{fun_ext}
use Rattle.std.proofs.lemmas.Bool.{cases_Bool, false_from_ne_true, not-true}
use Rattle.spe_model.specs.Content.{Content}
use Rattle.spe_model.specs.Covered.{Recovers}
use Rattle.spe_model.specs.Header.{is_size_valid}
use Rattle.spe_model.specs.Paging.{PageMap}
use Rattle.spe_model.specs.Recovery.{file_page_size, journal_of}
use Rattle.spe_model.specs.Rollback.{has_length}
use Rattle.spe_model.specs.Settled.{header_in}
use Rattle.spe_model.specs.Trace.{after}
use Rattle.spe_transactions.specs.Pages.{MayCommit, laid_pages, page_at}
use Rattle.spe_transactions.specs.Steps.{EndsBare, IsUndone}
use Rattle.spe_transactions.specs.Work.{AtWork, Works, has_page, without_id}
use Rattle.spe_transactions.proofs.CutWorkLemmas.{bare_ends, commit_leaves, commit_works, drop_works}
use Rattle.spe_core.specs.Changed.{committed, cuts_of, ended, update_live, updated, with_commit, with_live, with_made}
use Rattle.spe_core.specs.Enabled.{has_changed, holds, lock_of, may_commit, where_going, where_working}
use Rattle.spe_core.specs.Laid.{laid}
use Rattle.spe_core.specs.Serial.{ReadFrom}
use Rattle.spe_stored.specs.Sheets.{has_sheet, pages_at}
use Rattle.spe_core.specs.Sound.{IsDoing, IsGoing, IsSound, journalled_of, now_laid, works_in, written_of}
use Rattle.spe_core.specs.State.{Committed, Live, State, live_of}
use Rattle.spe_core.proofs.SoundCommit.{can_commit, next_counted}
use Rattle.spe_core.proofs.SoundLaid.{laid_before, laid_next}
use Rattle.spe_core.proofs.SoundLocks.{FitsLocks, fits_less}
use Rattle.spe_core.proofs.SoundSheets.{none_passes, sheet_first}
use Rattle.spe_core.proofs.SoundState.{HasSeen, IsAtWork, going_with, goes_on, sound_like, working_with}
use Rattle.spe_core.proofs.SoundSteps.{bare_journal}
use Rattle.spe_core.proofs.SoundWorks.{going_has, works_ended}

-- what the files of a core are at, after a transaction has ended
abbrev EndedWork : State → ℕ → List (List ℕ) → Type 0
EndedWork s id pages = AtWork (after s.content (cuts_of s.content id)) pages (without_id id (works_in journalled_of s.live)) (without_id id (works_in written_of s.live))

-- its journal is cut, where it has bytes
cut_ends : (s : State) (id : ℕ) (pages : List (List ℕ)) → (has_length s.content id ≡ true → EndedWork s id pages)
    → (has_length s.content id ≡ false → EndedWork s id pages) → EndedWork s id pages
cut_ends s id pages cut bare = ⊎_elim cut bare (cases_Bool (has_length s.content id))

module _ (s : State) (id : ℕ) (t : Live) (w : IsAtWork s id t) where
  abbrev journalled : Works
  journalled = works_in journalled_of s.live

  abbrev written : Works
  written = works_in written_of s.live

  low : id < 16
  low = w.all.numbered id t w.goes

  bare : has_length s.content id ≡ false → EndsBare s.content (now_laid s) journalled written id
  bare none = bare_ends s.content (now_laid s) journalled written w.all.work id low (bare_journal s.content id none)

  -- where no journalled page is written
  undone_lists : has_changed t ≡ false → IsUndone journalled written id
  undone_lists none p has =
      let listed : has_sheet p t.journalled ≡ true = ap is_some (sym (going_has journalled_of s.live id t p w.goes)) ∙ has in
      ap is_some (going_has written_of s.live id t p w.goes)
      ∙ none_passes (λ q. has_sheet q t.written) p t.journalled none (ap is_some (sym (sheet_first p t.journalled)) ∙ listed)

  pub roll_ends : has_changed t ≡ false → EndedWork s id (now_laid s)
  roll_ends none = cut_ends s id (now_laid s)
      (λ some. rw some (drop_works s.content (now_laid s) journalled written w.all.work id low (undone_lists none)).made)
      (λ no_some. rw no_some (bare no_some).work)

  wrote_is : written id ≡ pages_at t.written
  wrote_is = fun_ext (λ p. going_has written_of s.live id t p w.goes)

  pub commit_ends : MayCommit (now_laid s) (pages_at t.written) (file_page_size s.content) → EndedWork s id (laid_pages (now_laid s) (pages_at t.written))
  commit_ends may =
      let own : MayCommit (now_laid s) (written id) (file_page_size s.content) = subst (λ (m : PageMap). MayCommit (now_laid s) m (file_page_size s.content)) (sym wrote_is) may in
      subst (λ (m : PageMap). EndedWork s id (laid_pages (now_laid s) m)) wrote_is
      (cut_ends s id (laid_pages (now_laid s) (written id))
      (λ some. rw some (commit_works s.content (now_laid s) journalled written w.all.work id low own).made)
      (λ no_some. rw no_some (rw ((bare no_some).laid own) (bare no_some).work)))

  -- the pages that another transaction has read stay, as it holds their locks
  pub others_read : MayCommit (now_laid s) (pages_at t.written) (file_page_size s.content) → (j : ℕ) (x : Live) → j ≢ id → IsGoing s.live j x → HasSeen (laid_pages (now_laid s) (pages_at t.written)) x
  others_read may j x other goes p bytes found =
      let own : MayCommit (now_laid s) (written id) (file_page_size s.content) = subst (λ (m : PageMap). MayCommit (now_laid s) m (file_page_size s.content)) (sym wrote_is) may in
      let held : holds (lock_of s p) x ≡ true = (w.all.locked.under j x goes).seen p (ap is_some found) in
      let lacks : has_sheet p t.written ≡ false =
      false_from_ne_true (has_sheet p t.written) (λ has. other (sym (w.all.locked.alone (lock_of s p) id j t x w.goes.its goes.its ((w.all.locked.under id t w.goes).written p has) held))) in
      let stays : page_at (laid_pages (now_laid s) (written id)) p ≡ Some bytes =
      commit_leaves s.content (now_laid s) journalled written w.all.work id p bytes own (w.all.seen j x goes p bytes found) (ap is_some (going_has written_of s.live id t p w.goes) ∙ lacks) in
      subst (λ (m : PageMap). page_at (laid_pages (now_laid s) m) p ≡ Some bytes) wrote_is stays

  -- the locks stay when it has ended
  pub fits_ended : FitsLocks s.slots s.live id (ended t)
  fits_ended = fits_less s.slots s.live id (ended t) w.all.locked t w.goes.its (λ going. absurd cc) (λ lock has. has) (λ lock held. held)

pub sound_roll_cut : (s : State) (id : ℕ) → IsSound s → where_going s id (λ t. not (has_changed t)) ≡ true → IsSound (with_made (update_live s id ended) (cuts_of s.content id))
sound_roll_cut s id sound may =
    let g = going_with s id (λ t. not (has_changed t)) sound may in
    let now = after s.content (cuts_of s.content id) in
    let work : EndedWork s id (now_laid s) = roll_ends s id g.t g.work (not-true (has_changed g.t) g.passes) in
    subst (λ (o : Option Live). IsSound (with_made (updated s id ended o) (cuts_of s.content id))) (sym g.its)
    (sound_like s (with_made (with_live s id (ended g.t)) (cuts_of s.content id)) refl refl refl sound work.files work.recovers
    (goes_on s id g.t (ended g.t) now (now_laid s) g.work (λ p bytes found. absurd cc) (λ j x other goes. g.work.all.seen j x goes) (fits_ended s id g.t g.work) (without_id id (works_in journalled_of s.live)) (without_id id (works_in written_of s.live))
    (works_ended journalled_of s.live id g.t) (works_ended written_of s.live id g.t) work))

get_last : (cs : List Committed) (c x : Committed) (n : ℕ) → slice_get (cs ++ c ∷ []) n ≡ Some x → ((n < length cs) × (slice_get cs n ≡ Some x)) ⊎ ((n ≡ length cs) × (c ≡ x))
get_last [] c x zero found = inr (refl, let same : c ≡ x = cc in same)
get_last [] c x (suc n) found = absurd cc
get_last (y ∷ ys) c x zero found = inl (omega arith, found)
get_last (y ∷ ys) c x (suc n) found = ⊎_elim
    (λ (before : (n < length ys) × (slice_get ys n ≡ Some x)). inl (omega (arith, before.0), before.1))
    (λ (last : (n ≡ length ys) × (c ≡ x)). inr (ap suc last.0, last.1))
    (get_last ys c x n found)

-- what a transaction leaves when it has committed
abbrev commit_of : Live → Committed
commit_of t = record { seen = t.seen; written = t.written }

sound_committed : (s : State) (id : ℕ) (t : Live) → IsSound s → IsAtWork s id t → may_commit s t ≡ true → IsSound (with_made (with_live (with_commit s t) id (ended t)) (cuts_of s.content id))
sound_committed s id t sound w may =
    let other = with_made (with_live (with_commit s t) id (ended t)) (cuts_of s.content id) in
    let now = after s.content (cuts_of s.content id) in
    let m : MayCommit (now_laid s) (pages_at t.written) (file_page_size s.content) = can_commit s t sound may in
    let new = laid_pages (now_laid s) (pages_at t.written) in
    let is : now_laid other ≡ new = laid_next s other (commit_of t) refl refl in
    let work : EndedWork s id new = commit_ends s id t w m in
    record {
      reads = λ n c found.
          ⊎_elim
          (λ (before : (n < length s.commits) × (slice_get s.commits n ≡ Some c)).
          subst (λ (pages : List (List ℕ)). ReadFrom pages c) (sym (laid_before s other (commit_of t) n refl refl (omega (arith, before.0)))) (sound.reads n c before.1))
          (λ (last : (n ≡ length s.commits) × (commit_of t ≡ c)).
          let same : laid other n ≡ now_laid s = laid_before s other (commit_of t) n refl refl (omega (arith, last.0)) ∙ ap (laid s) last.0 in
          subst (λ (pages : List (List ℕ)). ReadFrom pages c) (sym same) (subst (ReadFrom (now_laid s)) last.1 (w.all.seen id t w.goes)))
          (get_last s.commits (commit_of t) c n found);
      files = work.files;
      recovers = subst (Recovers now) (sym is) work.recovers;
      counted = subst (λ (pages : List (List ℕ)). is_size_valid (header_in pages) ≡ true) (sym is) (next_counted s t sound m);
      slots = sound.slots;
      doing =
          subst (IsDoing s.mode s.slots (insert_entry nat_cmp s.live id (ended t)) now) (sym is)
          (goes_on s id t (ended t) now new w (λ p bytes found. absurd cc) (λ j x other goes. others_read s id t w m j x other goes) (fits_ended s id t w) (without_id id (works_in journalled_of s.live)) (without_id id (works_in written_of s.live))
          (works_ended journalled_of s.live id t) (works_ended written_of s.live id t) work);
    }

pub sound_commit_cut : (s : State) (id : ℕ) → IsSound s → where_working s id (may_commit s) ≡ true → IsSound (with_made (update_live (committed s (live_of s id)) id ended) (cuts_of s.content id))
sound_commit_cut s id sound may =
    let g = working_with s id (may_commit s) sound may in
    subst (λ (o : Option Live). IsSound (with_made (update_live (committed s o) id ended) (cuts_of s.content id))) (sym g.its)
    (subst (λ (o : Option Live). IsSound (with_made (updated (with_commit s g.t) id ended o) (cuts_of s.content id))) (sym g.its)
    (sound_committed s id g.t sound g.work g.passes))
