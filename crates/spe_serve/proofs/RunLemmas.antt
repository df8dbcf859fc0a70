-- Clients that are served over the pages that recovery found.
use Rattle.std.proofs.Common.{◌≡◌, ◌⊎◌, ℕ, zero, suc, ◌+◌, ◌-◌, ◌*◌, ◌<◌, ◌≤◌, ◌^◌, ◌∙◌, Bool, true, false, List, [], ◌∷◌, ◌++◌, length, map, take, Option, Some, None, Result, Ok, Err, refl, sym, ap, subst, arith, inl, inr}
use Rattle.std.specs.Prelude.{◌&&◌, is_none, is_some, nat_le, unwrap_or}
use Rattle.std.specs.Option.{option_map}
use Rattle.spe_model.specs.declared.commit.Commit.{Commit}
use Rattle.spe_model.specs.declared.file.FileNo.TheVariants.{Database}
use Rattle.spe_model.specs.declared.header.Header.{Header}
use Rattle.spe_model.specs.declared.header.HeaderFault.{HeaderFault}
use Rattle.spe_model.specs.declared.recovery.Recovered.{Recovered}
use Rattle.spe_model.specs.declared.recovery.RecoverFault.{RecoverFault}
use Rattle.spe_model.specs.declared.recovery.RecoverFault.TheVariants as refusals
use Rattle.spe_model.specs.declared.transaction.Tx.{Tx}
use Rattle.spe_model.specs.declared.verdict.Verdict.{Verdict}
use Rattle.spe_model.specs.Big.{u32_at}
use Rattle.spe_model.specs.Content.{Content, file_of}
use Rattle.spe_model.specs.Covered.{Covered, Recovers}
use Rattle.spe_model.specs.Database.{Database as Db}
use Rattle.spe_model.specs.Faults.{Rose}
use Rattle.spe_model.specs.FreeList.{first_trunks, is_list_count}
use Rattle.spe_model.specs.Header.{header_of, node_of}
use Rattle.spe_model.specs.Journal.{numbers_from}
use Rattle.spe_model.specs.Paging.{Paging}
use Rattle.spe_model.specs.Recovery.{recovered, recovered_header}
use Rattle.spe_model.specs.Rollback.{rule_of}
use Rattle.spe_model.specs.Served.{IsPrepared, usable_in}
use Rattle.spe_model.specs.Settled.{IsFound, IsWithinLimits, KeepsPages, LeavesPages, header_in, page_in}
use Rattle.spe_model.specs.Standing.{StandsFor}
use Rattle.spe_model.specs.Trace.{History, IsCut, Operation, after, present}
use Rattle.spe_model.specs.Verdict.{verdict_of}
use Rattle.spe_disk.specs.Added.{IfBothTold, IfTold as IfHeld}
use Rattle.spe_disk.specs.Scripts.{Texts}
use Rattle.spe_disk.specs.Told.{Finds, HasPlaces, NothingDone}
use Rattle.spe_crash.specs.Pages.{RecoveredAreHeaded}
use Rattle.spe_transactions.proofs.FilesLemmas.{files_stay_after}
use Rattle.spe_transactions.specs.Pages.{page_at}
use Rattle.spe_recover.specs.declared.want.Want.TheVariants.{Prepared}
use Rattle.spe_recover.specs.Recovered.{HasPages, IsEitherFault, IsRefusal, is_prepared, is_wanted}
use Rattle.spe_recover.specs.Written.{MakesCounted}
use Rattle.spe_convert.specs.Release.{WhereFound}
use Rattle.spe_store.specs.declared.store.OpenWhy.{OpenWhy}
use Rattle.spe_store.specs.declared.store.OpenWhy.TheVariants as opens
use Rattle.spe_store.specs.Call.{CutsAreServed, HasOpened, IsUnopened}
use Rattle.spe_store.specs.Opened.{Opened}
use Rattle.spe_store.specs.Served.{AreServed}
use Rattle.spe_store.specs.Store.{IfTold}
use Rattle.spe_session.specs.Ending.{WasServed}
use Rattle.spe_opening.specs.declared.shared.Shared.{Shared}
use Rattle.spe_verdict.specs.Law.{StandsIsTrue}
use Rattle.spe_clients.specs.Cuts as of_store
use Rattle.spe_clients.specs.Cuts.{ops_of}
use Rattle.spe_clients.specs.Serial.{committed}
use Rattle.spe_serve.specs.declared.failure.Failure.{Failure}
use Rattle.spe_serve.specs.declared.failure.Failure.TheVariants as failures
use Rattle.spe_serve.specs.declared.reply.Reply.{Reply}
use Rattle.spe_serve.specs.declared.reply.Reply.TheVariants as replies
use Rattle.spe_serve.specs.declared.run.Run.{Run}
use Rattle.spe_serve.specs.declared.run.Run.TheVariants as runs
use Rattle.spe_serve.specs.Asked.{IfTexts, asked_of}
use Rattle.spe_serve.specs.Behind.{refusal_in}
use Rattle.spe_serve.specs.Failure.{IsCausedBy}
use Rattle.spe_serve.specs.Own.{StandOver}
use Rattle.spe_serve.specs.Run.{AreCovered, AreServedAs, AreServedFor, CountsRun, CutsServe, CutsServeMore, HasRunCause, IsOfSame, IsReadBy, IsRecoveredBy, IsRefusedAfter, IsRefusedBy, IsRefusedOver, IsRun, IsRunFor, IsRunOver, IsSoundBy, IsUnserved, LeavesAll, RunsOpened, WhereKnown, failed_run, first_pages, opened_with, pages_by, unopened_run, unrecovered_run}
use Rattle.spe_serve.specs.Reply.{IsAboutVerdict}
use Rattle.spe_serve.specs.Shared.{IsSharedOver}
use Rattle.spe_serve.proofs.BehindLemmas.{IsCheckedIn, broken_by, checked_sound}
use Rattle.spe_serve.proofs.FileLemmas.{wanted_false, wanted_true}
use Rattle.spe_serve.proofs.FormLemmas.{sound_in}
use Rattle.spe_serve.proofs.SharedLemmas.{form_of}

one_header : (a b : Header) (r : Result Header HeaderFault) → r ≡ Ok a → r ≡ Ok b → a ≡ b
one_header a b r e f = let both : Ok a ≡ Ok b = sym e ∙ f in cc

one_pages : (a b : List (List ℕ)) (r : Result (List (List ℕ)) RecoverFault) → r ≡ Ok a → r ≡ Ok b → a ≡ b
one_pages a b r e f = let both : Ok a ≡ Ok b = sym e ∙ f in cc

used_in : (found : Recovered) (content : Content) (pages : List (List ℕ)) → IsFound found content pages → usable_in (header_in pages) ≡ found.page_size - found.reserved
used_in found content pages is = rw (is.page_size, is.reserved) refl

page_gives : (pages : List (List ℕ)) (p : ℕ) (bytes : List ℕ) → page_at pages p ≡ Some bytes → page_in pages p ≡ bytes
page_gives pages zero bytes e = absurd cc
page_gives pages (suc n) bytes e = let same : suc n - 1 ≡ n = omega arith in rw same (ap (λ (o : Option (List ℕ)). unwrap_or o []) e)

-- pages that are served stand, whatever header is named
served_stands : (found : Recovered) (content : Content) (pages : List (List ℕ)) (db : Db) → IsFound found content pages → AreServedFor pages db → StandOver pages db
served_stands found content pages db is s =
    let same : s.header ≡ header_in pages = one_header s.header (header_in pages) (header_of (take 100 (page_in pages 1))) s.front.legal is.legal in
    subst (λ (h : Header). StandsFor (usable_in h) (length pages) (page_in pages) db) same s.stands

-- the files at the opening of a store
pub has_opened : (found : Recovered) (shared : Shared) (h : History) (reads faults : ℕ) → IsRecoveredBy found h → HasOpened (opened_with found shared (Some h) reads faults) h
has_opened found shared h reads faults by =
    let same : first_pages (Some h) ≡ by.pages = ap pages_by by.recovers in
    record {
      opening = record {
        files = by.files;
        quiet = by.is.quiet;
        cuts = λ cut part. by.leaves.stops cut part ∙ by.recovers ∙ ap Ok (sym same);
        covered = by.leaves.covered;
      };
      found = subst (λ (ps : List (List ℕ)). IsFound found (present h) ps) (sym same) by.is;
      made = by.made;
    }

pub has_opened_told : (found : Recovered) (shared : Shared) (told : Option History) (reads faults : ℕ) → IfTold told (IsReadBy found shared)
    → IfTold told (HasOpened (opened_with found shared told reads faults))
has_opened_told found shared None reads faults by = tt
has_opened_told found shared (Some h) reads faults by = has_opened found shared h reads faults by.by.by

-- pages that stand are served with what was read of them
served_since : (found : Recovered) (shared : Shared) (h : History) (reads faults : ℕ) (by : IsReadBy found shared h) (db : Db) → StandOver by.by.by.pages db
    → AreServed (opened_with found shared (Some h) reads faults).read by.by.by.pages db
served_since found shared h reads faults by db stands =
    let pages = by.by.by.pages in
    let since = by.read by.by.by.wanted db stands in
    record {
      paging = page_in pages;
      gives = page_gives pages;
      served = rw (used_in found (present h) pages by.by.by.is) at since;
    }

same_pages : (found : Recovered) (h : History) (by : IsRecoveredBy found h) → first_pages (Some h) ≡ by.pages
same_pages found h by = ap pages_by by.recovers

pub was_served : (found : Recovered) (shared : Shared) (told : Option History) (reads faults : ℕ) → StandsIsTrue → IsWithinLimits found → IfTold told (IsReadBy found shared)
    → WasServed (opened_with found shared told reads faults)
was_served found shared None reads faults law limits by = tt
was_served found shared (Some h) reads faults law limits by =
    let sound = sound_in found (present h) by.by.by.pages law limits by.by.by.is by.by.sound in (
      sound.db,
      subst (λ (ps : List (List ℕ)). AreServed (opened_with found shared (Some h) reads faults).read ps sound.db) (sym (same_pages found h by.by.by))
          (served_since found shared h reads faults by sound.db sound.stands),
    )

-- what is said of the store's pages is said of pages that are served
served_as : (opened : Opened) (pages : List (List ℕ)) (db : Db) → AreServed opened.read pages db → AreServedAs pages db
served_as opened pages db s = record { paging = s.paging; gives = s.gives; served = s.served.served }

cuts_serve : (opened : Opened) (h : History) (txs : List Tx) (ops : List ℕ) (db : Db) → AreServed opened.read opened.pages db → of_store.CutsServe opened h txs ops → CutsServe h txs ops db
cuts_serve opened h txs ops db s cuts = λ cut part.
    let c = cuts.each cut part in
    record { whole = c.whole; stops = c.stops; pages = c.pages; recovers = c.recovers; served = served_as opened c.pages _ (c.served db s) }

cuts_either : (opened : Opened) (h : History) (scripts : List (List Tx)) (order : List Commit) (db : Db) → AreServed opened.read opened.pages db
    → of_store.CutsAreSerial opened h scripts order → CutsServe h (committed scripts order) (ops_of order) db ⊎ CutsServeMore h scripts order db
cuts_either opened h scripts order db s (inl cuts) = inl (cuts_serve opened h (committed scripts order) (ops_of order) db s cuts)
cuts_either opened h scripts order db s (inr more) = inr (record {
  last = more.last;
  op = more.op;
  cuts = cuts_serve opened h (committed scripts order ++ more.last ∷ []) (ops_of order ++ more.op ∷ []) db s more.cuts;
})

covered_either : (opened : Opened) (h : History) (scripts : List (List Tx)) (order : List Commit) → of_store.CutsAreSerial opened h scripts order → AreCovered h
covered_either opened h scripts order (inl cuts) = cuts.covered
covered_either opened h scripts order (inr more) = more.cuts.covered

-- where no commit was made, each cut recovers the pages of the opening
leaves_opening : (opened : Opened) (h : History) → recovered h.first ≡ Ok opened.pages → CutsAreServed opened h [] → LeavesAll h
leaves_opening opened h is cuts = record { covered = cuts.covered; stops = λ cut part. (cuts.each cut part).recovers ∙ sym is }

pub run_over : (found : Recovered) (shared : Shared) (told now : Option History) (reads faults : ℕ) (scripts : List (List Tx)) (run : Run) → IfTold told (IsReadBy found shared)
    → IsOfSame told now → RunsOpened (opened_with found shared told reads faults) scripts now run → WhereKnown told now (λ h. IsRunOver scripts h run)
run_over found shared None now reads faults scripts run by same ran = tt
run_over found shared (Some h) None reads faults scripts run by same ran = absurd same
run_over found shared (Some h) (Some k) reads faults scripts run by same ran = go run ran
  where
    opened : Opened
    opened = opened_with found shared (Some h) reads faults

    first : k.first ≡ h.first
    first = same

    recovers : recovered k.first ≡ Ok opened.pages
    recovers = ap recovered first ∙ by.by.by.recovers ∙ ap Ok (sym (same_pages found h by.by.by))

    at_opening : (pages : List (List ℕ)) (db : Db) → Recovers k.first pages → AreServedFor pages db → AreServed opened.read opened.pages db
    at_opening pages db rec s =
        let mine : pages ≡ by.by.by.pages = one_pages pages by.by.by.pages (recovered k.first) rec (ap recovered first ∙ by.by.by.recovers) in
        subst (λ (ps : List (List ℕ)). AreServed opened.read ps db) (sym (same_pages found h by.by.by))
        (served_since found shared h reads faults by db
        (served_stands found (present h) by.by.by.pages db by.by.by.is (subst (λ (ps : List (List ℕ)). AreServedFor ps db) mine s)))

    go : (r : Run) → RunsOpened opened scripts (Some k) r → IsRunOver scripts k r
    go (runs.Unasked why) x = absurd x
    go (runs.Refused reply) x = absurd x
    go runs.DiskFailed cuts = leaves_opening opened k recovers cuts
    go runs.NoMemory cuts = leaves_opening opened k recovers cuts
    go (runs.Served s) (serial, plain, cuts) = (
      covered_either opened k scripts s.order cuts,
      λ pages db rec are. let at = at_opening pages db rec are in
          record { serial = serial db at; plain = plain db at; cuts = cuts_either opened k scripts s.order db at cuts },
    )

-- whatever comes before a client is served, no recovered page changes
leaves_told : (found : Recovered) (told : Option History) → IfTold told (IsRecoveredBy found) → IfTold told LeavesAll
leaves_told found None by = tt
leaves_told found (Some h) by = by.leaves

recovered_told : (found : Recovered) (told : Option History) → IfTold told (IsSoundBy found) → IfTold told (IsRecoveredBy found)
recovered_told found None by = tt
recovered_told found (Some h) by = by.by

sound_told : (found : Recovered) (shared : Shared) (told : Option History) → IfTold told (IsReadBy found shared) → IfTold told (IsSoundBy found)
sound_told found shared None by = tt
sound_told found shared (Some h) by = by.by

pub short_run : (found : Recovered) (shared : Shared) (told : Option History) (scripts : List (List Tx)) → IfTold told (IsReadBy found shared) → IfTold told (λ h. IsRunOver scripts h runs.NoMemory)
short_run found shared told scripts by = leaves_told found told (recovered_told found told (sound_told found shared told by))

unopened_over : (opened : Opened) (scripts : List (List Tx)) (told : Option History) (why : OpenWhy) → IfTold told (λ h. CutsAreServed opened h []) → RunsOpened opened scripts told (unopened_run why)
unopened_over opened scripts told opens.Disk cuts = cuts
unopened_over opened scripts told opens.Memory cuts = cuts

pub unopened_runs : (opened : Opened) (scripts : List (List Tx)) (told : Option History) (why : OpenWhy) (run : Run) → run ≡ unopened_run why → IfTold told (λ h. CutsAreServed opened h [])
    → RunsOpened opened scripts told run
unopened_runs opened scripts told why run is cuts = subst (RunsOpened opened scripts told) (sym is) (unopened_over opened scripts told why cuts)

pub unopened_for : (scripts : List (List Tx)) (why : OpenWhy) (run : Run) → run ≡ unopened_run why → IsRunFor scripts run
unopened_for scripts opens.Disk run is = rw is tt
unopened_for scripts opens.Memory run is = rw is tt

pub unopened_cause : (opened : Opened) (reads reads_now ops ops_now : ℕ) (why : OpenWhy) (run : Run) → run ≡ unopened_run why → ops ≡ opened.faults → opened.found.ops + 16 < 2 ^ 64
    → IsUnopened opened ops_now why → HasRunCause reads reads_now ops ops_now run
unopened_cause opened reads reads_now ops ops_now opens.Memory run is same counted unopened = rw is tt
unopened_cause opened reads reads_now ops ops_now opens.Disk run is same counted (inl rose) = rw (is, same) (inr rose)
unopened_cause opened reads reads_now ops ops_now opens.Disk run is same counted (inr many) = absurd (omega (arith, counted, many))

numbers_some : (n : ℕ) → nat_le 1 n ≡ true → numbers_from 0 n ≡ [] → ⊥
numbers_some zero some none = cc
numbers_some (suc n) some none = cc

no_numbers : {X : Type 0} (f : ℕ → X) (ns : List ℕ) → map f ns ≡ [] → ns ≡ []
no_numbers f [] none = refl
no_numbers f (n ∷ ns) none = absurd cc

counted_low : (n : ℕ) → is_list_count n ≡ true → nat_le 1 n ≡ true
counted_low n is = go (nat_le 1 n) (nat_le n 16) is
  where
    go : (a b : Bool) → (a && b) ≡ true → a ≡ true
    go true b e = refl
    go false b e = absurd cc

-- there is a free list
some_trunks : (pages : Paging) → IsPrepared pages → first_trunks pages (u32_at (pages 1) 32) ≡ [] → ⊥
some_trunks pages prepared none =
    let count = u32_at (pages (u32_at (pages 1) 32)) 0 in
    numbers_some count (counted_low count prepared.1) (no_numbers (λ i. u32_at (pages (u32_at (pages 1) 32)) (4 + 4 * i)) (numbers_from 0 count) none)

pub no_trunks : (found : Recovered) (shared : Shared) (told : Option History) (scripts : List (List Tx)) (run : Run) → StandsIsTrue → IsWithinLimits found → shared.trunks ≡ []
    → IfTold told (IsReadBy found shared) → IfTold told (λ h. IsRunOver scripts h run)
no_trunks found shared None scripts run law limits none by = tt
no_trunks found shared (Some h) scripts run law limits none by =
    let pages = by.by.by.pages in
    let sound = sound_in found (present h) pages law limits by.by.by.is by.by.sound in
    let since = by.read by.by.by.wanted sound.db sound.stands in
    absurd (some_trunks (page_in pages) since.served.prepared (since.trunks ∙ none))

no_node : (h : Header) → is_prepared h ≡ true → node_of h ≡ None → ⊥
no_node h prepared none = let form = form_of h prepared in let some : node_of h ≡ Some h.first_free = rw form.named refl in let both : Some h.first_free ≡ None = sym some ∙ none in cc

pub no_node_told : (found : Recovered) (told : Option History) (scripts : List (List Tx)) (run : Run) → found.node ≡ None → IfTold told (IsSoundBy found) → IfTold told (λ h. IsRunOver scripts h run)
no_node_told found None scripts run none by = tt
no_node_told found (Some h) scripts run none by = absurd (no_node (header_in by.by.pages) by.by.wanted (by.by.is.node ∙ none))

-- clients are refused for recovered pages
refused_over : (found : Recovered) (h : History) (scripts : List (List Tx)) (reply : Reply) (by : IsRecoveredBy found h) → IsRefusedOver by.pages reply → IsRunOver scripts h (runs.Refused reply)
refused_over found h scripts reply by over = (
  rw by.there (subst (λ (r : Result (List (List ℕ)) RecoverFault). IsRefusedBy r reply) (sym by.recovers) (rw by.wanted over)),
  by.leaves,
)

-- for a page that is bare
pub bare_run : (found : Recovered) (told : Option History) (scripts : List (List Tx)) (page : ℕ) → StandsIsTrue → IsWithinLimits found → IfTold told (IsSoundBy found)
    → IfTold told (λ h. (pages : List (List ℕ)) → IsFound found (present h) pages → IsSharedOver pages (Err page)) → IfTold told (λ h. IsRunOver scripts h (runs.Refused (replies.Corrupt page)))
bare_run found None scripts page law limits by read = tt
bare_run found (Some h) scripts page law limits by read =
    let pages = by.by.pages in
    let sound = sound_in found (present h) pages law limits by.by.is by.sound in
    let over = read pages by.by.is by.by.wanted in
    let unserved : IsUnserved (usable_in (header_in pages)) (length pages) (page_in pages) (replies.Corrupt page) = record {
      page = page;
      reply_is = refl;
      bare = (over sound.db sound.stands).0;
      unserved = λ db s. (over db (served_stands found (present h) pages db by.by.is s)).1 s;
    } in
    refused_over found h scripts (replies.Corrupt page) by.by (subst (λ (v : Verdict). IsRefusedAfter (usable_in (header_in pages)) (length pages) (page_in pages) v (replies.Corrupt page)) (sym sound.verdict) unserved)

pub read_told : (found : Recovered) (shared : Shared) (told : Option History) → IfTold told (IsSoundBy found)
    → IfTold told (λ h. (pages : List (List ℕ)) → IsFound found (present h) pages → IsSharedOver pages (Ok shared)) → IfTold told (IsReadBy found shared)
read_told found shared None by read = tt
read_told found shared (Some h) by read = record { by = by; read = read by.by.pages by.by.is }

-- what is said of contents is said of histories
pub by_history : (told : Option History) (found : Recovered) (P : List (List ℕ) → Type 0) → WhereFound told found (λ content pages. P pages)
    → IfTold told (λ h. (pages : List (List ℕ)) → IsFound found (present h) pages → P pages)
by_history None found P where_found = tt
by_history (Some h) found P where_found = where_found

failed_over : (scripts : List (List Tx)) (told : Option History) (failure : Failure) → IfTold told LeavesAll → IfTold told (λ h. IsRunOver scripts h (failed_run failure))
failed_over scripts None failure leaves = tt
failed_over scripts (Some h) failures.Disk leaves = leaves
failed_over scripts (Some h) failures.Memory leaves = leaves

pub failed_run_over : (found : Recovered) (scripts : List (List Tx)) (told : Option History) (failure : Failure) (run : Run) → run ≡ failed_run failure → IfTold told (IsRecoveredBy found)
    → IfTold told (λ h. IsRunOver scripts h run)
failed_run_over found scripts told failure run is by =
    subst (λ (r : Run). IfTold told (λ h. IsRunOver scripts h r)) (sym is) (failed_over scripts told failure (leaves_told found told by))

pub failed_sound_over : (found : Recovered) (scripts : List (List Tx)) (told : Option History) (failure : Failure) (run : Run) → run ≡ failed_run failure → IfTold told (IsSoundBy found)
    → IfTold told (λ h. IsRunOver scripts h run)
failed_sound_over found scripts told failure run is by = failed_run_over found scripts told failure run is (recovered_told found told by)

pub failed_for : (scripts : List (List Tx)) (failure : Failure) (run : Run) → run ≡ failed_run failure → IsRunFor scripts run
failed_for scripts failures.Disk run is = rw is tt
failed_for scripts failures.Memory run is = rw is tt

pub failed_cause : (reads reads_now ops ops_now : ℕ) (failure : Failure) (run : Run) → run ≡ failed_run failure → IsCausedBy reads reads_now failure → HasRunCause reads reads_now ops ops_now run
failed_cause reads reads_now ops ops_now failures.Disk run is rose = rw is (inl rose)
failed_cause reads reads_now ops ops_now failures.Memory run is rose = rw is tt

-- a count that has risen since a later time has risen
rose_since : (before mid now : ℕ) → before ≤ mid → Rose mid now → Rose before now
rose_since before mid now later rose = omega arith

pub later_cause : (reads mid_reads reads_now ops mid_ops ops_now : ℕ) (run : Run) → reads ≤ mid_reads → ops ≤ mid_ops → HasRunCause mid_reads reads_now mid_ops ops_now run
    → HasRunCause reads reads_now ops ops_now run
later_cause reads mid_reads reads_now ops mid_ops ops_now (runs.Unasked why) a b cause = tt
later_cause reads mid_reads reads_now ops mid_ops ops_now (runs.Refused reply) a b cause = tt
later_cause reads mid_reads reads_now ops mid_ops ops_now runs.DiskFailed a b (inl rose) = inl (rose_since reads mid_reads reads_now a rose)
later_cause reads mid_reads reads_now ops mid_ops ops_now runs.DiskFailed a b (inr rose) = inr (rose_since ops mid_ops ops_now b rose)
later_cause reads mid_reads reads_now ops mid_ops ops_now runs.NoMemory a b cause = tt
later_cause reads mid_reads reads_now ops mid_ops ops_now (runs.Served s) a b cause = tt

-- clients are refused by the answer of `check`
pub checked_run : (found : Recovered) (told : Option History) (scripts : List (List Tx)) (reply refusal : Reply) → IsCheckedIn found told reply → refusal_in reply ≡ Some refusal
    → IfTold told (IsRecoveredBy found) → IfTold told (λ h. IsRunOver scripts h (runs.Refused refusal))
checked_run found None scripts reply refusal checked some by = tt
checked_run found (Some h) scripts reply refusal checked some by =
    let pages = by.pages in
    let usable = usable_in (header_in pages) in
    let b = broken_by (length pages) (verdict_of usable (length pages) (page_in pages)) reply refusal (checked pages by.is) some in
    refused_over found h scripts refusal by (subst (λ (v : Verdict). IsRefusedAfter usable (length pages) (page_in pages) v refusal) (sym b.2) b.3)

pub sound_run : (found : Recovered) (told : Option History) (reply : Reply) → IsCheckedIn found told reply → refusal_in reply ≡ None → IfTold told (IsRecoveredBy found) → IfTold told (IsSoundBy found)
sound_run found None reply checked none by = tt
sound_run found (Some h) reply checked none by = record { by = by; sound = checked_sound found (Some h) reply checked none by.pages by.is }

-- what recovery leaves of files to which nothing was done before
leaves_all : (h k : History) → h.trace ≡ [] → KeepsPages h (Some k) → LeavesAll k
leaves_all h k fresh keeps =
    let same : k ≡ record { first = h.first; trace = keeps.made } = let e : Some k ≡ Some (record { first = h.first; trace = h.trace ++ keeps.made }) = keeps.adds in
    some_history k _ e ∙ ap (λ (t : List Operation). record { first = h.first; trace = t ++ keeps.made }) fresh in
    let content : present h ≡ h.first = ap (after h.first) fresh in
    subst LeavesAll (sym same) (record {
      covered = subst (λ (c : Content). Covered c keeps.made) content keeps.covered;
      stops = λ cut part. subst (λ (c : Content). recovered (after c cut) ≡ recovered c) content (keeps.stops cut part);
    })
  where
    some_history : (a b : History) → Some a ≡ Some b → a ≡ b
    some_history a b e = cc

first_same : (h k : History) → KeepsPages h (Some k) → k.first ≡ h.first
first_same h k keeps = let e : Some k ≡ Some (record { first = h.first; trace = h.trace ++ keeps.made }) = keeps.adds in go k _ e
  where
    go : (a b : History) → Some a ≡ Some b → a.first ≡ b.first
    go a b e = cc

pub same_of_leaves : (old new : Option History) → LeavesPages old new → IsOfSame old new
same_of_leaves None new leaves = tt
same_of_leaves (Some h) None leaves = (let none : None ≡ Some (record { first = h.first; trace = h.trace ++ leaves.made }) = leaves.adds in cc)
same_of_leaves (Some h) (Some k) leaves = first_same h k leaves

pub same_both : (old mid new : Option History) → IsOfSame old mid → IsOfSame mid new → IsOfSame old new
same_both None mid new a b = tt
same_both (Some h) None new a b = absurd a
same_both (Some h) (Some k) None a b = b
same_both (Some h) (Some k) (Some j) a b = b ∙ a

pub same_self : (told : Option History) → IsOfSame told told
same_self None = tt
same_self (Some h) = refl

-- what a store says of its disk
pub same_opened : (old new : Option History) (first : Option Content) → option_map (λ (h : History). h.first) old ≡ first → option_map (λ (h : History). h.first) new ≡ first → IsOfSame old new
same_opened None new first a b = tt
same_opened (Some h) None first a b = (let e : None ≡ Some h.first = b ∙ sym a in cc)
same_opened (Some h) (Some k) first a b = let e : Some k.first ≡ Some h.first = b ∙ sym a in cc

pub known_self : (told : Option History) (P : History → Type 0) → IfTold told P → WhereKnown told told P
known_self None P is = tt
known_self (Some h) P is = is

pub known_same : (old new : Option History) (P : History → Type 0) → new ≡ old → IfTold old P → WhereKnown old new P
known_same old new P same is = subst (λ (t : Option History). WhereKnown old t P) (sym same) (known_self old P is)

pub known_later : (old mid new : Option History) (P : History → Type 0) → IsOfSame old mid → WhereKnown mid new P → WhereKnown old new P
known_later None mid new P same is = tt
known_later (Some h) None new P same is = absurd same
known_later (Some h) (Some k) new P same is = is

abbrev pub SettlesIn : Option History → Option History → Recovered → Type 0
SettlesIn old new found = IfBothTold old new (λ content now. (pages : List (List ℕ)) → recovered content ≡ Ok pages → IsFound found now pages)

pub recovered_by : (found : Recovered) (old new : Option History) → RecoveredAreHeaded → NothingDone old → HasPlaces new
    → IfTold old (λ h. is_none (file_of h.first Database) ≡ false)
    → IfHeld old (λ content. HasPages content found.pages) → IfHeld old (λ content. is_wanted Prepared (recovered_header content) ≡ true)
    → SettlesIn old new found → LeavesPages old new → MakesCounted old new (λ content. rule_of content found.pages) found.ops → IfTold new (IsRecoveredBy found)
recovered_by found None None headed fresh places there has wanted settled leaves made = tt
recovered_by found None (Some k) headed fresh places there has wanted settled leaves made = absurd (let e : Some k ≡ None = made in cc)
recovered_by found (Some h) None headed fresh places there has wanted settled leaves made = tt
recovered_by found (Some h) (Some k) headed fresh places there has wanted settled leaves made =
    let content : present h ≡ h.first = ap (after h.first) fresh in
    let first = first_same h k leaves in
    let from : present h ≡ k.first = content ∙ sym first in
    let recovers : recovered k.first ≡ Ok has.pages = ap recovered (sym from) ∙ has.recovers in
    record {
      leaves = leaves_all h k fresh leaves;
      there = ap (λ (c : Content). is_none (file_of c Database)) first ∙ there;
      pages = has.pages;
      recovers = recovers;
      is = settled has.pages has.recovers;
      made = made_all h k found.ops (λ content. rule_of content found.pages) fresh made;
      files = files_stay_after k.first k.trace ∙ places;
      wanted = wanted_true (present h) has.pages Prepared headed has.recovers wanted;
    }
  where
    made_all : (h k : History) (ops : ℕ) (rule : Content → List Operation) → h.trace ≡ [] → MakesCounted (Some h) (Some k) rule ops → ops ≡ length k.trace
    made_all h k ops rule fresh made =
        let e : Some k ≡ Some (record { first = h.first; trace = h.trace ++ rule (present h) }) = made.adds in
        made.count ∙ ap (λ (t : List Operation). length (t ++ rule (present h))) (sym fresh) ∙ go k (record { first = h.first; trace = h.trace ++ rule (present h) }) e
      where
        go : (a b : History) → Some a ≡ Some b → length b.trace ≡ length a.trace
        go a b e = let same : b ≡ a = cc in ap (λ (x : History). length x.trace) same

-- why files are not recovered
refusal_over : (h k : History) (scripts : List (List Tx)) (fault : RecoverFault) → RecoveredAreHeaded → present h ≡ k.first → is_none (file_of k.first Database) ≡ false → IsRefusal Prepared fault (present h)
    → LeavesAll k → IsRunOver scripts k (unrecovered_run fault)
refusal_over h k scripts refusals.Disk headed from there why leaves = leaves
refusal_over h k scripts refusals.Memory headed from there why leaves = leaves
refusal_over h k scripts (refusals.Header fault) headed from there why leaves = (rw (there, sym from, why) refl, leaves)
refusal_over h k scripts (refusals.JournalPage id size) headed from there why leaves = (rw (there, sym from, why) refl, leaves)
refusal_over h k scripts (refusals.Overlap page a b) headed from there why leaves = (rw (there, sym from, why) refl, leaves)
refusal_over h k scripts (refusals.TooLarge pages) headed from there why leaves = (rw (there, sym from, why) refl, leaves)
refusal_over h k scripts (refusals.ShortFile pages bytes) headed from there why leaves = (rw (there, sym from, why) refl, leaves)
refusal_over h k scripts refusals.NotPrepared headed from there why leaves =
    let has = why.pages in (
      rw there (subst (λ (r : Result (List (List ℕ)) RecoverFault). IsRefusedBy r (replies.Refused refusals.NotPrepared)) (sym (ap recovered (sym from) ∙ has.recovers))
          (rw (wanted_false (present h) has.pages Prepared headed has.recovers why.unwanted) refl)),
      leaves,
    )

pub refusal_run : (old new : Option History) (scripts : List (List Tx)) (fault : RecoverFault) (run : Run) → run ≡ unrecovered_run fault → RecoveredAreHeaded → NothingDone old
    → IfTold old (λ h. is_none (file_of h.first Database) ≡ false) → IfHeld old (IsRefusal Prepared fault) → LeavesPages old new → WhereKnown old new (λ h. IsRunOver scripts h run)
refusal_run None new scripts fault run is headed fresh there why leaves = tt
refusal_run (Some h) None scripts fault run is headed fresh there why leaves = tt
refusal_run (Some h) (Some k) scripts fault run is headed fresh there why leaves =
    let content : present h ≡ h.first = ap (after h.first) fresh in
    let first = first_same h k leaves in
    subst (IsRunOver scripts k) (sym is)
    (refusal_over h k scripts fault headed (content ∙ sym first) (ap (λ (c : Content). is_none (file_of c Database)) first ∙ there) why (leaves_all h k fresh leaves))

-- an answer of `check` by which clients are refused
pub about_refusal : (scripts : List (List Tx)) (reply refusal : Reply) → IsAboutVerdict reply → refusal_in reply ≡ Some refusal → IsRunFor scripts (runs.Refused refusal)
about_refusal scripts reply refusal about some = go reply about some
  where
    to : (r : Reply) → Some r ≡ Some refusal → IsRunFor scripts (runs.Refused r) → IsRunFor scripts (runs.Refused refusal)
    to r e is = let same : r ≡ refusal = cc in subst (λ (x : Reply). IsRunFor scripts (runs.Refused x)) same is

    go : (r : Reply) → IsAboutVerdict r → refusal_in r ≡ Some refusal → IsRunFor scripts (runs.Refused refusal)
    go replies.Words about e = absurd about
    go replies.NoDatabase about e = to replies.NoDatabase e tt
    go (replies.Refused fault) about e = to (replies.Refused fault) e about
    go replies.NotBuilt about e = absurd about
    go (replies.Sound pages tables rows free) about e = absurd cc
    go (replies.Damage page rule) about e = to (replies.Corrupt page) e tt
    go (replies.Corrupt page) about e = to (replies.Corrupt page) e tt
    go replies.NoTable about e = absurd about
    go (replies.ClosedTable why) about e = absurd about
    go (replies.Rows rows) about e = absurd about
    go (replies.Released free pages) about e = absurd about
    go (replies.Prepared lists pages) about e = absurd about
    go replies.AlreadyPrepared about e = absurd about
    go (replies.Full pages) about e = absurd about

pub refusal_for : (scripts : List (List Tx)) (fault : RecoverFault) (run : Run) → run ≡ unrecovered_run fault → IsRunFor scripts run
refusal_for scripts refusals.Disk run is = rw is tt
refusal_for scripts refusals.Memory run is = rw is tt
refusal_for scripts (refusals.Header fault) run is = rw is tt
refusal_for scripts (refusals.JournalPage id size) run is = rw is tt
refusal_for scripts (refusals.Overlap page a b) run is = rw is tt
refusal_for scripts (refusals.TooLarge pages) run is = rw is tt
refusal_for scripts (refusals.ShortFile pages bytes) run is = rw is tt
refusal_for scripts refusals.NotPrepared run is = rw is tt

pub refusal_cause : (reads reads_now ops ops_now : ℕ) (fault : RecoverFault) (run : Run) → run ≡ unrecovered_run fault → IsEitherFault reads reads_now ops ops_now fault
    → HasRunCause reads reads_now ops ops_now run
refusal_cause reads reads_now ops ops_now refusals.Disk run is rose = rw is rose
refusal_cause reads reads_now ops ops_now refusals.Memory run is rose = rw is tt
refusal_cause reads reads_now ops ops_now (refusals.Header fault) run is rose = rw is tt
refusal_cause reads reads_now ops ops_now (refusals.JournalPage id size) run is rose = rw is tt
refusal_cause reads reads_now ops ops_now (refusals.Overlap page a b) run is rose = rw is tt
refusal_cause reads reads_now ops ops_now (refusals.TooLarge pages) run is rose = rw is tt
refusal_cause reads reads_now ops ops_now (refusals.ShortFile pages bytes) run is rose = rw is tt
refusal_cause reads reads_now ops ops_now refusals.NotPrepared run is rose = rw is tt

nothing_cut : (h : History) → h.trace ≡ [] → LeavesAll h
nothing_cut h fresh = record {
  covered = rw fresh tt;
  stops = λ cut part. only cut (subst (λ (t : List Operation). IsCut t cut) fresh part);
}
  where
    only : (cut : List Operation) → IsCut [] cut → recovered (after h.first cut) ≡ recovered h.first
    only [] part = refl
    only (o ∷ os) part = absurd part

-- nothing was done before recovery
pub unread_run : (told now : Option History) (scripts : List (List Tx)) → NothingDone told → now ≡ told → WhereKnown told now (λ h. IsRunOver scripts h runs.DiskFailed)
unread_run told now scripts fresh same = known_same told now (λ h. IsRunOver scripts h runs.DiskFailed) same (go told fresh)
  where
    go : (t : Option History) → NothingDone t → IfTold t (λ h. IsRunOver scripts h runs.DiskFailed)
    go None fresh = tt
    go (Some h) fresh = nothing_cut h fresh

pub absent_run : (told now : Option History) (scripts : List (List Tx)) → NothingDone told → now ≡ told → Finds told (Ok false) → WhereKnown told now (λ h. IsRunOver scripts h (runs.Refused replies.NoDatabase))
absent_run told now scripts fresh same found = known_same told now (λ h. IsRunOver scripts h (runs.Refused replies.NoDatabase)) same (go told fresh found)
  where
    none_there : (o : Option (List ℕ)) → false ≡ is_some o → is_none o ≡ true
    none_there None e = refl
    none_there (Some bytes) e = absurd cc

    go : (t : Option History) → NothingDone t → Finds t (Ok false) → IfTold t (λ h. IsRunOver scripts h (runs.Refused replies.NoDatabase))
    go None fresh found = tt
    go (Some h) fresh found =
        let content : present h ≡ h.first = ap (after h.first) fresh in
        (rw (ap (λ (c : Content). is_none (file_of c Database)) (sym content) ∙ none_there (file_of (present h) Database) found) refl, nothing_cut h fresh)

pub is_there : (told : Option History) → NothingDone told → Finds told (Ok true) → IfTold told (λ h. is_none (file_of h.first Database) ≡ false)
is_there None fresh found = tt
is_there (Some h) fresh found = ap (λ (c : Content). is_none (file_of c Database)) (sym (ap (after h.first) fresh)) ∙ some_there (file_of (present h) Database) found
  where
    some_there : (o : Option (List ℕ)) → true ≡ is_some o → is_none o ≡ false
    some_there None e = absurd cc
    some_there (Some bytes) e = refl

pub is_run : (texts : Option Texts) (names : List (List ℕ)) (old new : Option History) (scripts : List (List Tx)) (run : Run) → IfTexts texts (λ t. asked_of t names ≡ Ok scripts) → IsRunFor scripts run
    → WhereKnown old new (λ h. IsRunOver scripts h run) → IsOfSame old new → IsRun texts names old new run
is_run texts names old new scripts (runs.Unasked why) asked for over first = absurd for
is_run texts names old new scripts (runs.Refused reply) asked for over first = record { scripts = scripts; asked = asked; for = for; over = over; first = first }
is_run texts names old new scripts runs.DiskFailed asked for over first = record { scripts = scripts; asked = asked; for = for; over = over; first = first }
is_run texts names old new scripts runs.NoMemory asked for over first = record { scripts = scripts; asked = asked; for = for; over = over; first = first }
is_run texts names old new scripts (runs.Served s) asked for over first = record { scripts = scripts; asked = asked; for = for; over = over; first = first }

pub counts_run : (scripts : List (List Tx)) (before now : ℕ) (run : Run) → IsRunFor scripts run → now ≡ before → CountsRun before now run
counts_run scripts before now (runs.Unasked why) for same = absurd for
counts_run scripts before now (runs.Refused reply) for same = same
counts_run scripts before now runs.DiskFailed for same = same
counts_run scripts before now runs.NoMemory for same = same
counts_run scripts before now (runs.Served s) for same = same

pub empty_trunks : (trunks slice : List ℕ) → slice ≡ trunks → length slice < 1 → trunks ≡ []
empty_trunks trunks slice same few = sym same ∙ none slice few
  where
    none : (xs : List ℕ) → length xs < 1 → xs ≡ []
    none [] less = refl
    none (x ∷ xs) less = absurd (omega (arith, less))
