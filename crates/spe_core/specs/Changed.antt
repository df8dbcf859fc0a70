-- What an enabled event changes; all else stays.
use Rattle.std.specs.Prelude.{ℕ, ◌+◌, ◌^◌, ◌%◌, ◌||◌, List, [], ◌∷◌, ◌++◌, length, take, map, Option, Some, None, if◌then◌else◌}
use Rattle.std.specs.Ordering.{nat_cmp}
use Rattle.std.specs.BTreeMap.{insert_entry}
use Rattle.std.specs.List.{find}
use Rattle.spe_model.specs.declared.file.FileNo.TheVariants.{Journal}
use Rattle.spe_model.specs.Big.{u32_at}
use Rattle.spe_model.specs.Content.{Content}
use Rattle.spe_model.specs.Journal.{head_bytes, record_bytes}
use Rattle.spe_model.specs.Recovery.{file_page, journal_of}
use Rattle.spe_model.specs.Rollback.{cut_of, has_length, rule_of, write_of}
use Rattle.spe_model.specs.Trace.{Operation, after}
use Rattle.spe_model.specs.Trace.Operation.{Write, Cut}
use Rattle.spe_core.specs.declared.event.Event.{Event, out-Event}
use Rattle.spe_core.specs.declared.event.Event.TheOpen.{Event-F}
use Rattle.spe_core.specs.Locks.{with_lock, without_lock}
use Rattle.spe_core.specs.Opened.{Opened}
use Rattle.spe_stored.specs.Sheets.{Sheets, has_sheet, with_sheet, without_sheet}
use Rattle.spe_core.specs.State.{State, Live, Working, Undoing, Ended, Image, Mode, Serving, Recovering, live_of}
use Rattle.spe_core.specs.Laid.{pages_of}
use Rattle.spe_core.specs.Enabled.{count_of, page_size_of, is_changed}

-- the transaction of an id becomes this
abbrev pub with_live : State → ℕ → Live → State
with_live s id t = record s { live = insert_entry nat_cmp s.live id t }

-- operations are made
abbrev pub with_made : State → List Operation → State
with_made s ops = record s { content = after s.content ops; made = s.made + length ops }

abbrev pub fresh : Live
fresh = record { seen = []; journalled = []; written = []; reads = []; writes = []; phase = Working }

-- the bytes of a page are written, on page 1 all but the first 24
abbrev pub page_write : State → ℕ → List ℕ → Operation
page_write s page bytes = write_of (page_size_of s) (record { page = page; content = bytes })

-- the head of a journal; its nonce is how many operations were made, modulo 2^32
abbrev pub head_write : State → ℕ → Operation
head_write s id = Write (Journal id) 0 (head_bytes (s.made % 2 ^ 32) (count_of s) (page_size_of s))

-- a record of a page as the file has it, at the end of a journal
abbrev pub record_write : State → (id page : ℕ) → Operation
record_write s id page =
    let journal = journal_of s.content id in
    Write (Journal id) (length journal) (record_bytes (u32_at journal 12) page (file_page s.content page))

-- a journal that has bytes is cut to none
abbrev pub cuts_of : Content → ℕ → List Operation
cuts_of content id = if has_length content id then cut_of id ∷ [] else []

-- the least journalled page that is written, with its bytes before
abbrev pub undo_of : Live → Option (ℕ × List ℕ)
undo_of t = find (is_changed t) t.journalled

-- the operations that an event makes
abbrev pub undo_writes : State → Option (ℕ × List ℕ) → List Operation
undo_writes s None = []
undo_writes s (Some sheet) = page_write s sheet.0 sheet.1 ∷ []

abbrev pub first_only : List Operation → List Operation
first_only [] = []
first_only (o ∷ os) = o ∷ []

abbrev pub recovery_op : Mode → List Operation
recovery_op Serving = []
recovery_op (Recovering ops) = first_only ops

-- where no operation is left, the files are served again
abbrev pub recovery_left : Mode → Mode
recovery_left Serving = Serving
recovery_left (Recovering []) = Serving
recovery_left (Recovering (o ∷ os)) = Recovering os

abbrev pub undo_of_live : Option Live → Option (ℕ × List ℕ)
undo_of_live None = None
undo_of_live (Some t) = undo_of t

abbrev pub operations_of : State → Opened → List Operation
operations_of s (Event-F.OpenJournal id) = head_write s id ∷ []
operations_of s (Event-F.Journal id page) = record_write s id page ∷ []
operations_of s (Event-F.WriteBytes id page bytes) = page_write s page bytes ∷ []
operations_of s (Event-F.CommitCut id) = cuts_of s.content id
operations_of s (Event-F.UndoBytes id) = undo_writes s (undo_of_live (live_of s id))
operations_of s (Event-F.RollCut id) = cuts_of s.content id
operations_of s Event-F.RecoverOp = recovery_op s.mode
operations_of s _ = []

-- the first bytes of the first of some operations, where that is a write
abbrev pub torn_first : List Operation → ℕ → List Operation
torn_first [] n = []
torn_first (Write file at bytes ∷ os) n = Write file at (take n bytes) ∷ []
torn_first (Cut file size ∷ os) n = []

abbrev pub torn_of : State → Option Event → ℕ → List Operation
torn_of s None n = []
torn_of s (Some next) n = torn_first (operations_of s (out-Event next)) n

-- with these bytes of a page listed as read, as journalled, or as written
abbrev pub with_seen : ℕ → List ℕ → Live → Live
with_seen page bytes t = record t { seen = with_sheet page bytes t.seen }

-- the same, unless the page was read or written before
abbrev pub with_read : ℕ → List ℕ → Live → Live
with_read page bytes t = if has_sheet page t.written || has_sheet page t.seen then t else with_seen page bytes t

abbrev pub with_journalled : ℕ → List ℕ → Live → Live
with_journalled page bytes t = record t { journalled = with_sheet page bytes t.journalled }

abbrev pub with_written : ℕ → List ℕ → Live → Live
with_written page bytes t = record t { written = with_sheet page bytes t.written }

abbrev pub undone : Option (ℕ × List ℕ) → Live → Live
undone None t = t
undone (Some sheet) t = record t { written = without_sheet sheet.0 t.written; phase = Undoing }

-- a transaction that has ended lists no page any more
abbrev pub ended : Live → Live
ended t = record t { seen = []; journalled = []; written = []; phase = Ended }

-- it is a reader of a lock, or the writer, and holds it no more
abbrev pub reading_under : ℕ → Live → Live
reading_under lock t = record t { reads = with_lock lock t.reads }

abbrev pub writing_under : ℕ → Live → Live
writing_under lock t = record t { writes = with_lock lock t.writes }

abbrev pub released : ℕ → Live → Live
released lock t = record t { reads = without_lock lock t.reads; writes = without_lock lock t.writes }

abbrev pub updated : State → ℕ → (Live → Live) → Option Live → State
updated s id f None = s
updated s id f (Some t) = with_live s id (f t)

-- the transaction of an id, where it is live, becomes what `f` makes of it
abbrev pub update_live : State → ℕ → (Live → Live) → State
update_live s id f = updated s id f (live_of s id)

-- each journalled page as it was before the commit of this number
abbrev pub images_of : ℕ → Sheets → List Image
images_of stamp journalled = map (λ (sheet : ℕ × List ℕ). record { page = sheet.0; stamp = stamp; bytes = sheet.1 }) journalled

abbrev pub with_commit : State → Live → State
with_commit s t = record s {
  commits = s.commits ++ record { seen = t.seen; written = t.written } ∷ [];
  images = s.images ++ images_of (length s.commits + 1) t.journalled;
}

abbrev pub committed : State → Option Live → State
committed s None = s
committed s (Some t) = with_commit s t

-- the process stopped: only the files and the commits stay
abbrev pub stopped : State → State
stopped s = record s {
  live = [];
  readers = [];
  images = [];
  mode = Recovering (rule_of s.content (length (pages_of s.content)));
}

abbrev pub changed_at : State → Opened → State
changed_at s (Event-F.Begin id) = with_live s id fresh
changed_at s (Event-F.GrantRead id lock) = update_live s id (reading_under lock)
changed_at s (Event-F.GrantWrite id lock) = update_live s id (writing_under lock)
changed_at s (Event-F.Read id page) = update_live s id (with_read page (file_page s.content page))
changed_at s (Event-F.OpenJournal id) = with_made s (operations_of s (Event-F.OpenJournal id))
changed_at s (Event-F.Journal id page) =
    with_made (update_live s id (with_journalled page (file_page s.content page))) (operations_of s (Event-F.Journal id page))
changed_at s (Event-F.WriteBytes id page bytes) =
    with_made (update_live s id (with_written page bytes)) (operations_of s (Event-F.WriteBytes id page bytes))
changed_at s (Event-F.CommitCut id) =
    with_made (update_live (committed s (live_of s id)) id ended) (operations_of s (Event-F.CommitCut id))
changed_at s (Event-F.UndoBytes id) =
    with_made (update_live s id (undone (undo_of_live (live_of s id)))) (operations_of s (Event-F.UndoBytes id))
changed_at s (Event-F.RollCut id) = with_made (update_live s id ended) (operations_of s (Event-F.RollCut id))
changed_at s (Event-F.Release id lock) = update_live s id (released lock)
changed_at s (Event-F.Stop next bytes) = stopped (record s { content = after s.content (torn_of s next bytes) })
changed_at s Event-F.RecoverOp = with_made (record s { mode = recovery_left s.mode }) (operations_of s Event-F.RecoverOp)
changed_at s _ = s

abbrev pub changed : State → Event → State
changed s e = changed_at s (out-Event e)
