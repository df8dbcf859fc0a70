-- Where an event is enabled.
use Rattle.std.specs.Prelude.{ℕ, ◌+◌, ◌-◌, ◌*◌, ◌%◌, ◌^◌, ◌==◌, ◌&&◌, ◌||◌, not, nat_lt, nat_le, Bool, true, false, List, [], ◌∷◌, length, take, Option, Some, None, Result, Ok, Err}
use Rattle.std.specs.List.{list_all, list_any}
use Rattle.std.specs.Option.{option_map_or}
use Rattle.std.specs.Str.{bytes_eq}
use Rattle.spe_model.specs.declared.header.Header.{Header}
use Rattle.spe_model.specs.declared.header.HeaderFault.{HeaderFault}
use Rattle.spe_model.specs.declared.file.FileNo.TheVariants.{Database}
use Rattle.spe_model.specs.Big.{u32_at}
use Rattle.spe_model.specs.Content.{bytes_of}
use Rattle.spe_model.specs.Header.{header_of, is_size_valid}
use Rattle.spe_model.specs.Journal.{numbers_from}
use Rattle.spe_model.specs.Recovery.{file_page_size}
use Rattle.spe_model.specs.Rollback.{has_length}
use Rattle.spe_model.specs.Trace.{Operation}
use Rattle.spe_model.specs.Trace.Operation.{Write, Cut}
use Rattle.spe_core.specs.declared.event.Event.{Event, out-Event}
use Rattle.spe_core.specs.declared.event.Event.TheOpen.{Event-F}
use Rattle.spe_core.specs.Locks.{has_lock}
use Rattle.spe_core.specs.Opened.{Opened}
use Rattle.spe_stored.specs.Sheets.{Sheets, sheet_at, has_sheet}
use Rattle.spe_core.specs.State.{State, Live, Mode, Serving, Recovering, live_of, is_ended, is_working}
use Rattle.spe_core.specs.Laid.{pages_of}

abbrev pub serves : Mode → Bool
serves Serving = true
serves (Recovering ops) = false

abbrev pub is_serving : State → Bool
is_serving s = serves s.mode

-- the number of recovered pages
abbrev pub count_of : State → ℕ
count_of s = length (pages_of s.content)

abbrev pub page_size_of : State → ℕ
page_size_of s = file_page_size s.content

-- page 1 to the count
abbrev pub is_page : State → ℕ → Bool
is_page s page = nat_le 1 page && nat_le page (count_of s)

-- the live transaction of this id has this
abbrev pub where_live : State → ℕ → (Live → Bool) → Bool
where_live s id test = option_map_or test (live_of s id) false

-- the same of one that is working, while serving
abbrev pub where_working : State → ℕ → (Live → Bool) → Bool
where_working s id test = is_serving s && where_live s id (λ t. is_working t && test t)

-- the same of one that has not ended, while serving
abbrev pub where_going : State → ℕ → (Live → Bool) → Bool
where_going s id test = is_serving s && where_live s id (λ t. not (is_ended t) && test t)

-- the lock of a page
abbrev pub lock_of : State → ℕ → ℕ
lock_of s page = page % s.slots

-- the transaction is a reader of the lock, or its writer
abbrev pub holds : ℕ → Live → Bool
holds lock t = has_lock lock t.reads || has_lock lock t.writes

abbrev pub holds_none : Live → Bool
holds_none t = (length t.reads == 0) && (length t.writes == 0)

-- a transaction of another id has this
abbrev pub another_has : ℕ → (Live → Bool) → List (ℕ × Live) → Bool
another_has id test live = list_any (λ (t : ℕ × Live). not (t.0 == id) && test t.1) live

-- an id is free where its transaction is not live, or has ended and holds no lock
abbrev pub is_free : State → ℕ → Bool
is_free s id = option_map_or (λ t. is_ended t && holds_none t) (live_of s id) true

-- there is such a lock, and no other transaction writes under it
abbrev pub may_read_under : State → (id lock : ℕ) → Bool
may_read_under s id lock = nat_lt lock s.slots && not (another_has id (λ t. has_lock lock t.writes) s.live)

-- there is such a lock, and no other transaction holds it
abbrev pub may_write_under : State → (id lock : ℕ) → Bool
may_write_under s id lock = nat_lt lock s.slots && not (another_has id (holds lock) s.live)

-- the transaction is the writer of the page's lock
abbrev pub writes_page : State → ℕ → Live → Bool
writes_page s page t = has_lock (lock_of s page) t.writes

-- it may read the page: it holds the page's lock, and the page is one that there is, or one that it wrote
abbrev pub may_read : State → ℕ → Live → Bool
may_read s page t = holds (lock_of s page) t && (is_page s page || has_sheet page t.written)

-- it may journal the page: it did not yet
abbrev pub may_journal : State → (id page : ℕ) → Live → Bool
may_journal s id page t = writes_page s page t && (has_length s.content id && is_page s page && not (has_sheet page t.journalled))

-- the size in pages that a transaction wrote into its page 1, and 0 where it wrote none
abbrev pub wanted_count : Live → ℕ
wanted_count t = option_map_or (λ page. u32_at page 28) (sheet_at 1 t.written) 0

-- a page that may be written: it was journalled, or lies above the count and up to the count that page 1 is to name
abbrev pub is_writable : State → ℕ → Live → Bool
is_writable s page t = has_sheet page t.journalled || (nat_lt (count_of s) page && nat_le page (wanted_count t))

-- the bytes are those of one page, and on page 1 begin as the file does
unfoldable pub is_page_for : State → ℕ → List ℕ → Bool
is_page_for s page bytes =
    (length bytes == page_size_of s)
    && (not (page == 1) || bytes_eq (take 24 bytes) (take 24 (bytes_of s.content Database)))

-- each page above the count and up to this one was written
unfoldable pub are_written : (count pages : ℕ) → Sheets → Bool
are_written count pages written = list_all (λ p. has_sheet p written) (numbers_from (count + 1) (pages - count))

unfoldable pub is_next_header : State → Sheets → Result Header HeaderFault → Bool
is_next_header s written (Err fault) = false
is_next_header s written (Ok h) =
    is_size_valid h && nat_le (count_of s) h.pages && nat_le (h.pages * page_size_of s) (2 ^ 30)
    && are_written (count_of s) h.pages written

-- it may write these bytes to the page
abbrev pub may_write : State → ℕ → List ℕ → Live → Bool
may_write s page bytes t = writes_page s page t && (is_page_for s page bytes && is_writable s page t)

-- where page 1 was written, it is one that a database may have next
unfoldable pub may_commit : State → Live → Bool
may_commit s t = option_map_or (λ page. is_next_header s t.written (header_of (take 100 page))) (sheet_at 1 t.written) true

-- a journalled page is written
abbrev pub is_changed : Live → ℕ × List ℕ → Bool
is_changed t sheet = has_sheet sheet.0 t.written

abbrev pub has_changed : Live → Bool
has_changed t = list_any (is_changed t) t.journalled

abbrev pub is_first_write : List Operation → Bool
is_first_write [] = false
is_first_write (Write file at bytes ∷ os) = true
is_first_write (Cut file size ∷ os) = false

abbrev pub recovers_by_write : Mode → Bool
recovers_by_write Serving = false
recovers_by_write (Recovering ops) = is_first_write ops

-- the event makes a write where it is enabled
abbrev pub makes_write : State → Opened → Bool
makes_write s (Event-F.OpenJournal id) = true
makes_write s (Event-F.Journal id page) = true
makes_write s (Event-F.WriteBytes id page bytes) = true
makes_write s (Event-F.UndoBytes id) = true
makes_write s Event-F.RecoverOp = recovers_by_write s.mode
makes_write s _ = false

-- where an event that is no stop is enabled; those of read-only transactions never are yet
abbrev pub is_step_enabled : State → Opened → Bool
is_step_enabled s (Event-F.Begin id) = is_serving s && nat_lt id 16 && is_free s id
is_step_enabled s (Event-F.GrantRead id lock) = where_working s id (λ t. may_read_under s id lock)
is_step_enabled s (Event-F.GrantWrite id lock) = where_working s id (λ t. may_write_under s id lock)
is_step_enabled s (Event-F.Read id page) = where_working s id (may_read s page)
is_step_enabled s (Event-F.OpenJournal id) = where_working s id (λ t. not (has_length s.content id))
is_step_enabled s (Event-F.Journal id page) = where_working s id (may_journal s id page)
is_step_enabled s (Event-F.WriteBytes id page bytes) = where_working s id (may_write s page bytes)
is_step_enabled s (Event-F.CommitCut id) = where_working s id (may_commit s)
is_step_enabled s (Event-F.UndoBytes id) = where_going s id has_changed
is_step_enabled s (Event-F.RollCut id) = where_going s id (λ t. not (has_changed t))
is_step_enabled s (Event-F.Release id lock) = is_serving s && where_live s id (λ t. is_ended t && holds lock t)
is_step_enabled s Event-F.RecoverOp = not (is_serving s)
is_step_enabled s _ = false

-- a stop may come within the write of an event, or between two
abbrev pub is_stop_enabled : State → Option Event → Bool
is_stop_enabled s None = true
is_stop_enabled s (Some next) = makes_write s (out-Event next) && is_step_enabled s (out-Event next)

abbrev pub enabled_at : State → Opened → Bool
enabled_at s (Event-F.Stop next bytes) = is_stop_enabled s next
enabled_at s e = is_step_enabled s e

abbrev pub enabled : State → Event → Bool
enabled s e = enabled_at s (out-Event e)
