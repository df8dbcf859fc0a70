-- A core is sound after any events, and a sound core is serial.
use Rattle.std.proofs.Common.{◌≡◌, ℕ, zero, suc, ◌+◌, ◌<◌, ◌≤◌, List, [], ◌∷◌, length, refl, sym, ap, subst, ◌∙◌, arith, Bool, true, false, ⊎_elim}
use Rattle.std.specs.Prelude.{◌&&◌, ◌||◌, ◌==◌, not, nat_lt, filter}
use Rattle.std.specs.List.{list_all}
use Rattle.std.proofs.lemmas.Bool.{and_parts, cases_Bool, eqb-true, false_from_ne_true, lt-ltb, ltb-true}
use Rattle.std.proofs.lemmas.List.{nil_from_length}
use Rattle.spe_model.specs.Content.{Content}
use Rattle.spe_model.specs.Covered.{Recovers}
use Rattle.spe_model.specs.Journal.{numbers_from}
use Rattle.spe_model.specs.Recovery.{holders, hot_of}
use Rattle.spe_crash.proofs.HotLemmas.{apart_from, holds as is_held}
use Rattle.spe_crash.proofs.PagesLemmas.{opened as parts_of}
use Rattle.spe_core.specs.declared.event.Event.{Event, out-Event}
use Rattle.spe_core.specs.declared.event.Event.TheOpen.{Event-F}
use Rattle.spe_core.specs.Opened.{Opened}
use Rattle.spe_core.specs.Changed.{changed_at}
use Rattle.spe_core.specs.Enabled.{another_has, enabled, enabled_at, holds, holds_none, is_free, is_serving, may_read_under, may_write_under, where_working}
use Rattle.spe_core.specs.Locks.{has_lock}
use Rattle.spe_core.specs.Opening.{IsOpening, opened}
use Rattle.spe_core.specs.Serial.{IsGranted, IsSerial, after_events, next, others_gone}
use Rattle.spe_core.specs.Sound.{IsSound, now_laid, written_of}
use Rattle.spe_core.specs.State.{Live, State, is_ended}
use Rattle.spe_core.proofs.SoundEnds.{sound_commit_cut, sound_roll_cut}
use Rattle.spe_core.proofs.SoundEvents.{nobody_wrote, sound_begin, sound_grant_read, sound_grant_write, sound_journal, sound_open_journal, sound_read, sound_release, sound_undo_bytes, sound_write_bytes}
use Rattle.spe_core.proofs.SoundLaid.{laid_after}
use Rattle.spe_core.proofs.SoundOpened.{opened_sound}
use Rattle.spe_core.proofs.SoundState.{IsAtWork, locked_now, unended}
use Rattle.spe_core.proofs.SoundWorks.{going_has}
use Rattle.spe_core.proofs.SoundStops.{sound_recover_op, sound_stop}

pub sound_opened : (bytes : List ℕ) (slots : ℕ) → IsOpening bytes → 1 ≤ slots → IsSound (opened bytes slots)
sound_opened bytes slots o some = opened_sound bytes o slots some

-- an event that is enabled
sound_changed : (s : State) (o : Opened) → IsSound s → enabled_at s o ≡ true → IsSound (changed_at s o)
sound_changed s (Event-F.Begin id) sound may =
    let one = and_parts (is_serving s && nat_lt id 16) (is_free s id) may in
    let two = and_parts (is_serving s) (nat_lt id 16) one.0 in
    sound_begin s id sound two.0 (ltb-true id 16 two.1) one.1
sound_changed s (Event-F.GrantRead id lock) sound may = sound_grant_read s id lock sound may
sound_changed s (Event-F.GrantWrite id lock) sound may = sound_grant_write s id lock sound may
sound_changed s (Event-F.Read id page) sound may = sound_read s id page sound may
sound_changed s (Event-F.OpenJournal id) sound may = sound_open_journal s id sound may
sound_changed s (Event-F.Journal id page) sound may = sound_journal s id page sound may
sound_changed s (Event-F.WriteBytes id page bytes) sound may = sound_write_bytes s id page bytes sound may
sound_changed s (Event-F.CommitCut id) sound may = sound_commit_cut s id sound may
sound_changed s (Event-F.UndoBytes id) sound may = sound_undo_bytes s id sound may
sound_changed s (Event-F.RollCut id) sound may = sound_roll_cut s id sound may
sound_changed s (Event-F.Release id lock) sound may = sound_release s id lock sound may
sound_changed s (Event-F.Stop after bytes) sound may = sound_stop s after bytes sound may
sound_changed s Event-F.RecoverOp sound may = sound_recover_op s sound may
sound_changed s _ sound may = sound

pub sound_next : (s : State) (e : Event) → IsSound s → IsSound (next s e)
sound_next s e sound = ⊎_elim
    (λ (may : enabled s e ≡ true). rw may (sound_changed s (out-Event e) sound may))
    (λ (may_not : enabled s e ≡ false). rw may_not sound)
    (cases_Bool (enabled s e))

pub sound_after : (s : State) (es : List Event) → IsSound s → IsSound (after_events s es)
sound_after s [] sound = sound
sound_after s (e ∷ es) sound = sound_after (next s e) es (sound_next s e sound)

-- at most one of some numbers passes a test that no two pass
pass_few : (test : ℕ → Bool) (n count : ℕ) → ((i j : ℕ) → n ≤ i → i < n + count → n ≤ j → j < n + count → test i ≡ true → test j ≡ true → i ≡ j) → length (filter test (numbers_from n count)) ≤ 1
pass_few test n zero one = omega arith
pass_few test n (suc count) one = ⊎_elim
    (λ (here : test n ≡ true).
    let none : filter test (numbers_from (n + 1) count) ≡ [] =
    pass_none (n + 1) count (λ i low high. false_from_ne_true (test i) (λ is. let same : n ≡ i = one n i (omega arith) (omega arith) (omega arith) (omega arith) here is in absurd (omega arith))) in
    rw (here, none) (omega arith))
    (λ (not_here : test n ≡ false).
    rw not_here (pass_few test (n + 1) count (λ i j low high from to yes_i yes_j. one i j (omega arith) (omega arith) (omega arith) (omega arith) yes_i yes_j)))
    (cases_Bool (test n))
  where
    pass_none : (m left : ℕ) → ((i : ℕ) → m ≤ i → i < m + left → test i ≡ false) → filter test (numbers_from m left) ≡ []
    pass_none m zero none = refl
    pass_none m (suc left) none = rw (none m (omega arith) (omega arith)) (pass_none (m + 1) left (λ i low high. none i (omega arith) (omega arith)))

-- no page is in two hot journals of files from which pages are recovered
held_once : (content : Content) (pages : List (List ℕ)) → Recovers content pages → (p : ℕ) → length (holders content p) ≤ 1
held_once content pages recovers p =
    pass_few (is_held (hot_of content) p) 0 16 (apart_from (hot_of content) 0 16 (parts_of content pages recovers).apart p)

-- where each other transaction has ended and holds no lock, none is in the way
none_hold : (id : ℕ) (test : Live → Bool) (live : List (ℕ × Live)) → ((t : Live) → holds_none t ≡ true → test t ≡ false) → list_all (λ (t : ℕ × Live). (t.0 == id) || (is_ended t.1 && holds_none t.1)) live ≡ true
    → another_has id test live ≡ false
none_hold id test [] none gone = refl
none_hold id test (t ∷ ts) none gone =
    let parts = and_parts ((t.0 == id) || (is_ended t.1 && holds_none t.1)) (list_all (λ x. (x.0 == id) || (is_ended x.1 && holds_none x.1)) ts) gone in
    rw (none_hold id test ts none parts.1) (by_test (t.0 == id) (is_ended t.1) (holds_none t.1) parts.0)
  where
    by_test : (own over : Bool) (h : Bool) → (own || (over && holds_none t.1)) ≡ true → ((not own && test t.1) || false) ≡ false
    by_test true over h is = refl
    by_test false true h is = rw (none t.1 is) refl
    by_test false false h is = absurd cc

no_locks : (lock : ℕ) (t : Live) → holds_none t ≡ true → (has_lock lock t.reads ≡ false) × (has_lock lock t.writes ≡ false)
no_locks lock t none =
    let parts = and_parts (length t.reads == 0) (length t.writes == 0) none in
    (ap (has_lock lock) (nil_from_length t.reads (eqb-true (length t.reads) 0 parts.0)), ap (has_lock lock) (nil_from_length t.writes (eqb-true (length t.writes) 0 parts.1)))

grants : (s : State) (id lock : ℕ) → where_working s id (λ t. true) ≡ true → lock < s.slots → others_gone s id ≡ true → IsGranted s id lock
grants s id lock working there gone =
    let low : nat_lt lock s.slots ≡ true = lt-ltb lock s.slots there in
    let no_writer : another_has id (λ t. has_lock lock t.writes) s.live ≡ false = none_hold id (λ t. has_lock lock t.writes) s.live (λ t none. (no_locks lock t none).1) gone in
    let no_holder : another_has id (holds lock) s.live ≡ false =
    none_hold id (holds lock) s.live (λ t none. let parts = no_locks lock t none in rw (parts.0, parts.1) refl) gone in
    let read : may_read_under s id lock ≡ true = rw (low, no_writer) refl in
    let write : may_write_under s id lock ≡ true = rw (low, no_holder) refl in
    record {
      read = subst (λ (b : Bool). where_working s id (λ t. b) ≡ true) (sym read) working;
      write = subst (λ (b : Bool). where_working s id (λ t. b) ≡ true) (sym write) working;
    }

pub sound_serial : (s : State) → IsSound s → IsSerial s
sound_serial s sound = record {
  reads = sound.reads;
  leaves = laid_after s;
  recovered = sound.recovers;
  apart = held_once s.content (now_laid s) sound.recovers;
  working = λ id t its going.
      let work : IsAtWork s id t = unended s id t sound its going in
      record {
        reads = work.all.seen id t work.goes;
        written = λ p bytes found. (work.all.work.in_file id p bytes (going_has written_of s.live id t p work.goes ∙ found)).0;
      };
  unwritten = nobody_wrote s sound;
  alone = λ lock id other t u at_id at_other writes held. (locked_now s sound).alone lock id other t u at_id at_other writes held;
  granted = grants s;
}
