-- A stop, wherever it tears the write that was to come next, keeps a core sound; and so does each operation of a recovery.
use Rattle.std.proofs.Common.{◌≡◌, ℕ, List, [], ◌∷◌, length, take, refl, sym, ap, ◌∙◌, arith, subst, true, Option, Some, None}
use Rattle.std.specs.Prelude.{◌&&◌, not}
use Rattle.std.proofs.lemmas.Bool.{and_parts, not-true}
use Rattle.spe_model.specs.Content.{Content}
use Rattle.spe_model.specs.Covered.{Recovers}
use Rattle.spe_model.specs.Recovery.{file_page}
use Rattle.spe_model.specs.Rollback.{rule_of, has_length}
use Rattle.spe_model.specs.Trace.{Operation, after}
use Rattle.spe_core.specs.declared.event.Event.{Event, out-Event}
use Rattle.spe_core.specs.declared.event.Event.TheOpen.{Event-F}
use Rattle.spe_core.specs.Opened.{Opened}
use Rattle.spe_core.specs.Changed.{head_write, operations_of, page_write, record_write, recovery_left, recovery_op, stopped, torn_first, torn_of, undo_of_live, undo_writes, with_made}
use Rattle.spe_core.specs.Enabled.{has_changed, is_step_enabled, is_stop_enabled, makes_write, may_journal, may_write, serves}
use Rattle.spe_core.specs.Sound.{IsDoing, IsSound, journalled_of, now_laid, works_in, written_of}
use Rattle.spe_core.specs.State.{Live, Mode, Serving, Recovering, State}
use Rattle.spe_transactions.specs.Work.{with_page, without_page}
use Rattle.spe_transactions.proofs.FilesLemmas.{files_stay, files_stay_after}
use Rattle.spe_core.proofs.SoundRecovery.{ends_served, op_made, op_recovers, op_torn}
use Rattle.spe_core.proofs.SoundState.{going_with, sound_like, torn_leaves, working_with}
use Rattle.spe_core.proofs.SoundSteps.{head_makes, pages_of_is, put_makes, record_makes, undo_makes}

recovery_torn : (slots : ℕ) (live : List (ℕ × Live)) (content : Content) (pages : List (List ℕ)) (mode : Mode) (n : ℕ) → Recovers content pages → IsDoing mode slots live content pages
    → Recovers (after content (torn_first (recovery_op mode) n)) pages
recovery_torn slots live content pages Serving n recovers doing = recovers
recovery_torn slots live content pages (Recovering left) n recovers doing = op_torn live content pages left n recovers doing

-- some first bytes of the write of an event are made
event_torn : (s : State) (o : Opened) (n : ℕ) → IsSound s → makes_write s o ≡ true → is_step_enabled s o ≡ true → Recovers (after s.content (torn_first (operations_of s o) n)) (now_laid s)
event_torn s (Event-F.OpenJournal id) n sound writes may =
    let g = working_with s id (λ t. not (has_length s.content id)) sound may in
    torn_leaves s.content (head_write s id) (now_laid s) (works_in journalled_of s.live) (works_in written_of s.live) n sound.recovers (head_makes s id g.t sound g.work g.passes)
event_torn s (Event-F.Journal id page) n sound writes may =
    let g = working_with s id (may_journal s id page) sound may in
    torn_leaves s.content (record_write s id page) (now_laid s) (with_page id page (file_page s.content page) (works_in journalled_of s.live)) (works_in written_of s.live) n sound.recovers
    (record_makes s id g.t sound g.work page g.passes)
event_torn s (Event-F.WriteBytes id page bytes) n sound writes may =
    let g = working_with s id (may_write s page bytes) sound may in
    torn_leaves s.content (page_write s page bytes) (now_laid s) (works_in journalled_of s.live) (with_page id page bytes (works_in written_of s.live)) n sound.recovers
    (put_makes s id g.t sound g.work page bytes g.passes)
event_torn s (Event-F.UndoBytes id) n sound writes may =
    let g = going_with s id has_changed sound may in
    let undo = undo_makes s id g.t sound g.work g.passes in
    let sheet = undo.0 in
    subst (λ (o : Option Live). Recovers (after s.content (torn_first (undo_writes s (undo_of_live o)) n)) (now_laid s)) (sym g.its)
    (subst (λ (o : Option (ℕ × List ℕ)). Recovers (after s.content (torn_first (undo_writes s o) n)) (now_laid s)) (sym undo.1)
    (torn_leaves s.content (page_write s sheet.0 sheet.1) (now_laid s) (works_in journalled_of s.live) (without_page id sheet.0 (works_in written_of s.live)) n sound.recovers undo.2))
event_torn s Event-F.RecoverOp n sound writes may = recovery_torn s.slots s.live s.content (now_laid s) s.mode n sound.recovers sound.doing
event_torn s _ n sound writes may = absurd cc

stop_torn : (s : State) (next : Option Event) (n : ℕ) → IsSound s → is_stop_enabled s next ≡ true → Recovers (after s.content (torn_of s next n)) (now_laid s)
stop_torn s None n sound may = sound.recovers
stop_torn s (Some e) n sound may =
    let parts = and_parts (makes_write s (out-Event e)) (is_step_enabled s (out-Event e)) may in
    event_torn s (out-Event e) n sound parts.0 parts.1

pub sound_stop : (s : State) (next : Option Event) (n : ℕ) → IsSound s → is_stop_enabled s next ≡ true → IsSound (stopped (record s { content = after s.content (torn_of s next n) }))
sound_stop s next n sound may =
    let now = after s.content (torn_of s next n) in
    let recovers : Recovers now (now_laid s) = stop_torn s next n sound may in
    sound_like s (stopped (record s { content = now })) refl refl refl sound (files_stay_after s.content (torn_of s next n) ∙ sound.files) recovers
    (record {
      nobody = refl;
      first = now;
      made = [];
      recovers = recovers;
      rule = ap (λ (pages : List (List ℕ)). rule_of now (length pages)) (sym (pages_of_is now (now_laid s) recovers));
      now = refl;
    })

-- an operation of a recovery is made
recovered : (s : State) (mode : Mode) → s.mode ≡ mode → not (serves mode) ≡ true → IsSound s → IsDoing mode s.slots s.live s.content (now_laid s) → IsSound (with_made (record s { mode = recovery_left mode }) (recovery_op mode))
recovered s Serving is may sound doing = absurd cc
recovered s (Recovering []) is may sound doing =
    sound_like s (with_made (record s { mode = Serving }) []) refl refl refl sound sound.files sound.recovers
    (ends_served s.slots s.live s.content (now_laid s) sound.files doing)
recovered s (Recovering (o ∷ left)) is may sound doing =
    sound_like s (with_made (record s { mode = Recovering left }) (o ∷ [])) refl refl refl sound (files_stay o s.content ∙ sound.files)
    (op_recovers s.live s.content (now_laid s) o left doing)
    (op_made s.live s.content (now_laid s) o left doing)

pub sound_recover_op : (s : State) → IsSound s → not (serves s.mode) ≡ true → IsSound (with_made (record s { mode = recovery_left s.mode }) (recovery_op s.mode))
sound_recover_op s sound may = recovered s s.mode refl may sound sound.doing
