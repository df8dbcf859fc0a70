-- What becomes of clients that are run over the files of a database, and what the files hold then. All is said of the content at
-- attaching and of all operations since, those of recovery among them.
use Rattle.std.specs.Prelude.{◌≡◌, ◌⊎◌, ◌-◌, ℕ, Bool, true, false, List, [], ◌∷◌, ◌++◌, length, take, Option, Some, None, Result, Ok, Err, codes, is_none, if◌then◌else◌}
use Rattle.std.specs.Fmt.{decimal}
use Rattle.std.specs.List.{list_any}
use Rattle.std.specs.Option.{option_map}
use Rattle.spe_model.specs.declared.commit.Commit.{Commit}
use Rattle.spe_model.specs.declared.file.FileNo.TheVariants as files
use Rattle.spe_model.specs.declared.recovery.Recovered.{Recovered}
use Rattle.spe_model.specs.declared.recovery.RecoverFault.{RecoverFault}
use Rattle.spe_model.specs.declared.recovery.RecoverFault.TheVariants as refusals
use Rattle.spe_model.specs.declared.transaction.Tx.{Tx}
use Rattle.spe_model.specs.declared.transcript.Cause.TheVariants as causes
use Rattle.spe_model.specs.declared.transcript.Outcome.{Outcome}
use Rattle.spe_model.specs.declared.transcript.Outcome.TheVariants as outcomes
use Rattle.spe_model.specs.declared.verdict.Verdict.{Verdict}
use Rattle.spe_model.specs.declared.verdict.Verdict.TheVariants as verdicts
use Rattle.spe_model.specs.Content.{Content, file_of}
use Rattle.spe_model.specs.Covered.{Covered, Recovers}
use Rattle.spe_model.specs.Database.{Database}
use Rattle.spe_model.specs.Faults.{Rose}
use Rattle.spe_model.specs.Paging.{Paging}
use Rattle.spe_model.specs.Recovery.{recovered}
use Rattle.spe_model.specs.Served.{Served, usable_in}
use Rattle.spe_model.specs.Settled.{IsFound, header_in, page_in}
use Rattle.spe_model.specs.Standing.{Whether}
use Rattle.spe_model.specs.Trace.{History, IsCut, Operation, after, present}
use Rattle.spe_model.specs.Verdict.{verdict_of}
use Rattle.spe_disk.specs.Listed.{next_number}
use Rattle.spe_disk.specs.Scripts.{Texts}
use Rattle.spe_transactions.specs.Kept.{Stops}
use Rattle.spe_transactions.specs.Pages.{page_at}
use Rattle.spe_recover.specs.declared.want.Want.TheVariants.{Prepared}
use Rattle.spe_recover.specs.Recovered.{is_wanted}
use Rattle.spe_store.specs.declared.store.OpenWhy.{OpenWhy}
use Rattle.spe_store.specs.declared.store.OpenWhy.TheVariants as opens
use Rattle.spe_store.specs.Call.{CutsAreServed}
use Rattle.spe_store.specs.Opened.{Opened}
use Rattle.spe_store.specs.Store.{IfTold}
use Rattle.spe_session.specs.Transaction.{WhereWasServed}
use Rattle.spe_opening.specs.declared.shared.Shared.{Shared}
use Rattle.spe_opening.specs.Below.{IsBare}
use Rattle.spe_opening.specs.Shared.{opening_of}
use Rattle.spe_clients.specs.Cuts.{CutsAreSerial, ended_within, ops_of}
use Rattle.spe_clients.specs.Ended.{Answer, NumbersRise, StayStopped, all_outcomes}
use Rattle.spe_clients.specs.Plain.{IsPlain}
use Rattle.spe_clients.specs.Serial.{AreOrdered, IsSerial, committed, database_after}
use Rattle.spe_render.specs.Outcomes.{rendered}
use Rattle.spe_render.specs.Values.{line}
use Rattle.spe_serve.specs.declared.failure.Failure.{Failure}
use Rattle.spe_serve.specs.declared.failure.Failure.TheVariants as failures
use Rattle.spe_serve.specs.declared.reply.Reply.{Reply}
use Rattle.spe_serve.specs.declared.reply.Reply.TheVariants as replies
use Rattle.spe_serve.specs.declared.run.Run.{Run}
use Rattle.spe_serve.specs.declared.run.Run.TheVariants as runs
use Rattle.spe_serve.specs.declared.run.Served as served
use Rattle.spe_serve.specs.declared.scripts.Unasked.{Unasked}
use Rattle.spe_serve.specs.declared.scripts.Unasked.TheVariants.{NoScript, BadScript, NotBuilt, Failed, Memory}
use Rattle.spe_serve.specs.Asked.{Gives, IfTexts, asked_of, script_text}
use Rattle.spe_serve.specs.Own.{are_sound}
use Rattle.spe_serve.specs.Reply.{IsPlain as IsReason, status_of, text_of}
use Rattle.spe_serve.specs.Shared.{IsSharedOver}

-- recovered pages are served for a database
abbrev pub AreServedFor : (pages : List (List ℕ)) → Database → Type 0
AreServedFor pages db = Served (length pages) (page_in pages) db

-- the same, whatever is said of pages that there are not
pub record AreServedAs (pages : List (List ℕ)) (db : Database) : Type 0 where
  pub paging : Paging
  pub gives : (p : ℕ) (bytes : List ℕ) → page_at pages p ≡ Some bytes → paging p ≡ bytes
  pub served : Served (length pages) paging db

-- A stop within all that was done leaves pages that are served for the database after those of the transactions that had ended
-- within it. The list `ops` says of each after how many operations it had.
pub record CutServes (h : History) (txs : List Tx) (ops : List ℕ) (db : Database) (cut : List Operation) : Type 0 where
  pub whole : ℕ
  pub stops : Stops h.trace whole cut
  pub pages : List (List ℕ)
  pub recovers : Recovers (after h.first cut) pages
  pub served : AreServedAs pages (database_after db (take (ended_within ops whole) txs))

abbrev pub CutsServe : History → (txs : List Tx) (ops : List ℕ) → Database → Type 0
CutsServe h txs ops db = (cut : List Operation) → IsCut h.trace cut → CutServes h txs ops db cut

-- the same with one transaction more, the last of all: the cut of its journal failed, and was made all the same
pub record CutsServeMore (h : History) (scripts : List (List Tx)) (order : List Commit) (db : Database) : Type 0 where
  pub last : Tx
  pub op : ℕ
  pub cuts : CutsServe h (committed scripts order ++ last ∷ []) (ops_of order ++ op ∷ []) db

-- The transactions were replied to as one serial run on a database, in the order of their commits; and wherever a stop cuts what
-- was done, the recovered pages are those of the database after the commits within it.
pub record IsServedFrom (scripts : List (List Tx)) (s : served.Served) (h : History) (db : Database) : Type 0 where
  pub serial : IsSerial scripts s.order s.transcripts db
  pub plain : IsPlain scripts s.transcripts db
  pub cuts : CutsServe h (committed scripts s.order) (ops_of s.order) db ⊎ CutsServeMore h scripts s.order db

-- so it is for the database for which the recovered pages were served at attaching
abbrev pub IsServedAll : (scripts : List (List Tx)) → served.Served → History → Type 0
IsServedAll scripts s h = (pages : List (List ℕ)) (db : Database) → Recovers h.first pages → AreServedFor pages db → IsServedFrom scripts s h db

-- what is so whatever the files hold: the commits are listed in their order, and numbers never fall
pub record IsOrderly (scripts : List (List Tx)) (s : served.Served) : Type 0 where
  pub ordered : AreOrdered scripts s.order s.transcripts
  pub later : NumbersRise (all_outcomes s.transcripts)
  pub stopped : StayStopped (all_outcomes s.transcripts)

-- each operation may be torn anywhere
abbrev pub AreCovered : History → Type 0
AreCovered h = Covered h.first h.trace

-- wherever a stop cuts what was done, the recovered pages are those at attaching
pub record LeavesAll (h : History) : Type 0 where
  pub covered : AreCovered h
  pub stops : (cut : List Operation) → IsCut h.trace cut → recovered (after h.first cut) ≡ recovered h.first

-- clients are refused for pages that stand: an interior page of a table has no cell, and so they are not served
pub record IsUnserved (usable count : ℕ) (pages : Paging) (reply : Reply) : Type 0 where
  pub page : ℕ
  pub reply_is : reply ≡ replies.Corrupt page
  pub bare : IsBare usable pages page
  pub unserved : (db : Database) → Served count pages db → ⊥

-- the refusal after a verdict: a broken page comes first
abbrev pub IsRefusedAfter : (usable count : ℕ) (pages : Paging) → Verdict → Reply → Type 0
IsRefusedAfter usable count pages (verdicts.Broken page rule) reply = reply ≡ replies.Corrupt page
IsRefusedAfter usable count pages (verdicts.Stands tables rows free) reply = IsUnserved usable count pages reply

-- over recovered pages in server form
abbrev pub IsRefusedOver : (pages : List (List ℕ)) → Reply → Type 0
IsRefusedOver pages reply =
    IsRefusedAfter (usable_in (header_in pages)) (length pages) (page_in pages) (verdict_of (usable_in (header_in pages)) (length pages) (page_in pages)) reply

-- by what recovery comes to
abbrev pub IsRefusedBy : Result (List (List ℕ)) RecoverFault → Reply → Type 0
IsRefusedBy (Err fault) reply = reply ≡ replies.Refused fault
IsRefusedBy (Ok pages) reply = Whether (is_wanted Prepared (header_in pages)) (IsRefusedOver pages reply) (reply ≡ replies.Refused refusals.NotPrepared)

-- by the files at attaching: that there is no database comes first
abbrev pub IsRefusedFor : Content → Reply → Type 0
IsRefusedFor content reply = Whether (is_none (file_of content files.Database)) (reply ≡ replies.NoDatabase) (IsRefusedBy (recovered content) reply)

-- What becomes of clients over files that are told: all are served, or none, and then no recovered page changes.
abbrev pub IsRunOver : (scripts : List (List Tx)) → History → Run → Type 0
IsRunOver scripts h (runs.Unasked why) = LeavesAll h
IsRunOver scripts h (runs.Refused reply) = IsRefusedFor h.first reply × LeavesAll h
IsRunOver scripts h runs.DiskFailed = LeavesAll h
IsRunOver scripts h runs.NoMemory = LeavesAll h
IsRunOver scripts h (runs.Served s) = AreCovered h × IsServedAll scripts s h

-- an answer to words that ask for clients to be served, where the database is refused
abbrev pub IsAboutRun : Reply → Type 0
IsAboutRun replies.NoDatabase = Unit {0}
IsAboutRun (replies.Refused fault) = IsReason fault
IsAboutRun (replies.Corrupt page) = Unit {0}
IsAboutRun reply = ⊥

-- and whatever the files are
abbrev pub IsRunFor : (scripts : List (List Tx)) → Run → Type 0
IsRunFor scripts (runs.Served s) = IsOrderly scripts s
IsRunFor scripts (runs.Refused reply) = IsAboutRun reply
IsRunFor scripts (runs.Unasked why) = ⊥
IsRunFor scripts run = Unit {0}

-- what the files held at attaching stays known as it was
abbrev pub IsOfSame : (old new : Option History) → Type 0
IsOfSame None new = Unit {0}
IsOfSame (Some h) None = ⊥
IsOfSame (Some h) (Some k) = k.first ≡ h.first

-- P of all that was done, where the disk told its files before and tells them now
abbrev pub WhereKnown : (old new : Option History) → (History → Type 0) → Type 0
WhereKnown old new P = IfTold old (λ _. IfTold new P)

-- the files are recovered: since attaching nothing was done but that, and they hold pages in server form
pub record IsRecoveredBy (found : Recovered) (h : History) : Type 0 where
  pub leaves : LeavesAll h
  pub there : is_none (file_of h.first files.Database) ≡ false
  pub pages : List (List ℕ)
  pub recovers : Recovers h.first pages
  pub is : IsFound found (present h) pages
  pub made : found.ops ≡ length h.trace
  pub files : length (present h) ≡ 17
  pub wanted : is_wanted Prepared (header_in pages) ≡ true

-- and these pages break no rule of the check
pub record IsSoundBy (found : Recovered) (h : History) : Type 0 where
  pub by : IsRecoveredBy found h
  pub sound : are_sound by.pages ≡ true

-- and all is read that clients share
pub record IsReadBy (found : Recovered) (shared : Shared) (h : History) : Type 0 where
  pub by : IsSoundBy found h
  pub read : IsSharedOver by.by.pages (Ok shared)

-- What becomes of clients over a store that is opened.
abbrev pub RunsOpened : Opened → (scripts : List (List Tx)) → (told : Option History) → Run → Type 0
RunsOpened opened scripts told (runs.Served s) =
    WhereWasServed opened (IsSerial scripts s.order s.transcripts) × WhereWasServed opened (IsPlain scripts s.transcripts)
    × IfTold told (λ h. CutsAreSerial opened h scripts s.order)
RunsOpened opened scripts told runs.DiskFailed = IfTold told (λ h. CutsAreServed opened h [])
RunsOpened opened scripts told runs.NoMemory = IfTold told (λ h. CutsAreServed opened h [])
RunsOpened opened scripts told run = ⊥

-- a count of the disk's faults has risen where it failed before a client was served
abbrev pub HasRunCause : (reads reads_now ops ops_now : ℕ) → Run → Type 0
HasRunCause reads reads_now ops ops_now runs.DiskFailed = Rose reads reads_now ⊎ Rose ops ops_now
HasRunCause reads reads_now ops ops_now run = Unit {0}

-- what comes of a store that is not opened, of a failure, and of the reason why files are not recovered
abbrev pub unopened_run : OpenWhy → Run
unopened_run opens.Disk = runs.DiskFailed
unopened_run opens.Memory = runs.NoMemory

abbrev pub failed_run : Failure → Run
failed_run failures.Disk = runs.DiskFailed
failed_run failures.Memory = runs.NoMemory

abbrev pub unrecovered_run : RecoverFault → Run
unrecovered_run refusals.Disk = runs.DiskFailed
unrecovered_run refusals.Memory = runs.NoMemory
unrecovered_run fault = runs.Refused (replies.Refused fault)

-- no client is served, as their scripts are such; nothing was done
pub record IsUnasked (texts : Option Texts) (names : List (List ℕ)) (old new : Option History) (why : Unasked) : Type 0 where
  pub same : new ≡ old
  pub why_is : IfTexts texts (λ t. Gives (λ (x : List (List Tx)). x) (Err why) (asked_of t names))

-- the clients have these transactions, where their scripts are told, and were served or refused over the files
pub record IsAsked (texts : Option Texts) (names : List (List ℕ)) (old new : Option History) (run : Run) : Type 0 where
  pub scripts : List (List Tx)
  pub asked : IfTexts texts (λ t. asked_of t names ≡ Ok scripts)
  pub for : IsRunFor scripts run
  pub over : WhereKnown old new (λ h. IsRunOver scripts h run)
  pub first : IsOfSame old new

-- What becomes of clients, by the names of their scripts.
abbrev pub IsRun : (texts : Option Texts) (names : List (List ℕ)) (old new : Option History) → Run → Type 0
IsRun texts names old new (runs.Unasked why) = IsUnasked texts names old new why
IsRun texts names old new run = IsAsked texts names old new run

-- the line for clients that are not served
abbrev pub unasked_text : Unasked → List ℕ
unasked_text (NoScript client) = line (codes "refused no-script " ++ decimal client)
unasked_text (BadScript client at kind) = line (script_text client at kind)
unasked_text NotBuilt = line (codes "refused not-built")
unasked_text Failed = line (codes "fault scripts")
unasked_text Memory = line (codes "memory")

abbrev pub unasked_status : Unasked → ℕ
unasked_status Failed = 3
unasked_status Memory = 4
unasked_status why = 2

-- transactions could not go on, as the disk failed
abbrev pub is_disk_fault : Outcome → Bool
is_disk_fault (outcomes.Fault number (causes.Corrupt page)) = false
is_disk_fault (outcomes.Fault number cause) = true
is_disk_fault outcome = false

abbrev pub is_damage : Outcome → Bool
is_damage (outcomes.Fault number (causes.Corrupt page)) = true
is_damage outcome = false

abbrev pub is_short : Outcome → Bool
is_short (outcomes.Memory number) = true
is_short outcome = false

-- one of the outcomes of all clients is such
abbrev pub has_outcome : (Outcome → Bool) → List (List Answer) → Bool
has_outcome test transcripts = list_any (list_any (λ (a : Answer). test a.0)) transcripts

-- a failure of the disk counts first, then damage, then want of memory
abbrev pub worst : (failed damaged short : Bool) → ℕ
worst failed damaged short = if failed then 3 else (if damaged then 5 else (if short then 4 else 0))

abbrev pub served_status : List (List Answer) → ℕ
served_status transcripts = worst (has_outcome is_disk_fault transcripts) (has_outcome is_damage transcripts) (has_outcome is_short transcripts)

-- what is printed of clients, and the status
abbrev pub run_text : Run → List ℕ
run_text (runs.Unasked why) = unasked_text why
run_text (runs.Refused reply) = text_of reply
run_text runs.DiskFailed = line (codes "fault disk")
run_text runs.NoMemory = line (codes "memory")
run_text (runs.Served s) = rendered s.transcripts

abbrev pub run_status : Run → ℕ
run_status (runs.Unasked why) = unasked_status why
run_status (runs.Refused reply) = status_of reply
run_status runs.DiskFailed = 3
run_status runs.NoMemory = 4
run_status (runs.Served s) = served_status s.transcripts

-- the commits of clients that were served
abbrev pub order_of : Run → List Commit
order_of (runs.Served s) = s.order
order_of run = []

-- the count of faults of the scripts is the next one where they failed, and else stays
abbrev pub CountsRun : (before now : ℕ) → Run → Type 0
CountsRun before now (runs.Unasked Failed) = now ≡ next_number before
CountsRun before now run = now ≡ before

-- the pages of the files at attaching, and what is known of a database whose clients are served
abbrev pub pages_by : Result (List (List ℕ)) RecoverFault → List (List ℕ)
pages_by (Ok pages) = pages
pages_by (Err fault) = []

abbrev pub first_pages : Option History → List (List ℕ)
first_pages None = []
first_pages (Some h) = pages_by (recovered h.first)

abbrev pub opened_with : Recovered → Shared → Option History → (reads faults : ℕ) → Opened
opened_with found shared told reads faults = record {
  read = opening_of (found.page_size - found.reserved) shared;
  found = found;
  first = option_map (λ (h : History). h.first) told;
  pages = first_pages told;
  reads = reads;
  faults = faults;
}
