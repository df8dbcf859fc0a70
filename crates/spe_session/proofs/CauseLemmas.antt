-- Why a transaction ended with a fault, and what is known of a commit whose cut failed.
use Rattle.std.proofs.Common.{◌≡◌, ◌+◌, ◌*◌, ◌/◌, ◌^◌, ◌<◌, ◌≤◌, ◌∙◌, ℕ, List, true, false, Option, Some, None, Result, Ok, Err, OnOk, refl, sym, ap, subst, arith, inl, inr}
use Rattle.std.specs.Prelude.{IfErr, OnErr, is_some}
use Rattle.std.proofs.Math.Nat.{add-mul, lt-div-mul-add, mul-le-mul_right}
use Rattle.spe_model.specs.declared.reply.Reply.{Reply}
use Rattle.spe_model.specs.declared.transaction.Tx.{Tx}
use Rattle.spe_model.specs.declared.transcript.Cause.TheVariants as causes
use Rattle.spe_model.specs.declared.transcript.Outcome.{Outcome}
use Rattle.spe_model.specs.declared.transcript.Outcome.TheVariants.{Fault}
use Rattle.spe_model.specs.Database.{Database}
use Rattle.spe_model.specs.Faults.{Rose}
use Rattle.spe_model.specs.Meaning.{replies_of}
use Rattle.spe_model.specs.Trace.{History}
use Rattle.spe_space.specs.declared.fault.SpaceFault.{SpaceFault}
use Rattle.spe_space.specs.declared.fault.SpaceFault.TheVariants as faults
use Rattle.spe_space.specs.declared.fault.TreeFault.{TreeFault}
use Rattle.spe_space.specs.declared.fault.TreeFault.TheVariants as trees
use Rattle.spe_space.specs.declared.pages.Pages.{Ghosts}
use Rattle.spe_space.specs.Calls.{RefusesTree}
use Rattle.spe_space.specs.Outcome.{refusal_of}
use Rattle.spe_store.specs.declared.log.Log.{Log}
use Rattle.spe_store.specs.declared.stop.BeginFault.{BeginFault}
use Rattle.spe_store.specs.declared.stop.BeginFault.TheVariants as begins
use Rattle.spe_store.specs.Call.{IsUnbegun}
use Rattle.spe_store.specs.Event.{broken_in}
use Rattle.spe_store.specs.Opened.{Opened}
use Rattle.spe_store.specs.Served.{Entry, database_after}
use Rattle.spe_store.specs.Store.{IfTold, Store}
use Rattle.spe_session.specs.declared.fault.EndFailed.{EndFailed}
use Rattle.spe_session.specs.declared.fault.EndFault.{EndFault}
use Rattle.spe_session.specs.declared.fault.EndFault.TheVariants as ends_by
use Rattle.spe_session.specs.Below.{HasNoRoom}
use Rattle.spe_session.specs.Ending.{IsBrokenBy, NamesCut}
use Rattle.spe_session.specs.Transaction.{BreaksAs, IsFilled, IsKept, IsOwnFault, KeepsBroken, ReadsFailed, StopsWhole, WhereWasServed, failed_outcome, outcome_after, outcome_of, unbegun_outcome}
use Rattle.spe_session.specs.Working.{IsFault, IsStop, ReadsFrom}
use Rattle.spe_session.proofs.RunLemmas.{was_any}

pub rose_more : (first old new : ℕ) → old ≤ new → Rose first old → Rose first new
rose_more first old new more rose = omega (arith, more, rose)

rose_since : (first old new : ℕ) → first ≤ old → Rose old new → Rose first new
rose_since first old new low rose = omega (arith, low, rose)

-- a reading failed that was made since
pub read_comes : (first old new : ℕ) → first ≤ old → Rose old new → (fault : SpaceFault) → fault ≡ faults.Read → Rose first new
read_comes first old new low rose fault is = rose_since first old new low rose

pub never_full : (size : ℕ) (fault : SpaceFault) → fault ≡ faults.Read → (number : ℕ) → fault ≡ faults.Full number → HasNoRoom number size
never_full size fault is number full = absurd (let both : faults.Read ≡ faults.Full number = sym is ∙ full in cc)

-- the limit of pages is the highest for which there is room
pub most_pages : (bytes size : ℕ) → 0 < size → bytes < (bytes / size + 1) * size
most_pages bytes size some =
    let less : bytes < bytes / size * size + size = lt-div-mul-add some in
    let more = add-mul (bytes / size) 1 size in
    omega (arith, less, more)

no_room : (limit pages size : ℕ) → 2 ^ 30 < (limit + 1) * size → limit < pages + 16 → HasNoRoom pages size
no_room limit pages size most full =
    let more : (limit + 1) * size ≤ (pages + 16) * size = mul-le-mul_right size (omega (arith, full)) in
    omega (arith, most, more)

pub full_room : (limit pages size : ℕ) → 2 ^ 30 < (limit + 1) * size → limit < pages + 16 → (number : ℕ) → faults.Full pages ≡ faults.Full number → HasNoRoom number size
full_room limit pages size most full number same =
    let is : pages ≡ number = cc in
    subst (λ (n : ℕ). HasNoRoom n size) is (no_room limit pages size most full)

-- a fault of the space is kept
pub kept_of : (kept before : Option SpaceFault) (f : SpaceFault) → kept ≡ refusal_of f before → IsKept kept (trees.Space f)
kept_of kept before (faults.Busy page word) is = is
kept_of kept before faults.Read is = is
kept_of kept before (faults.Stopped op) is = is
kept_of kept before (faults.Full pages) is = is
kept_of kept before (faults.PageOut page pages) is = is
kept_of kept before (faults.Corrupt page) is = is
kept_of kept before faults.Memory is = tt

pub kept_tree : {P X : Type 0} (g : Ghosts P) (old new : P) (result : Result X TreeFault) → RefusesTree g old new result → IfErr result (IsKept (g.refusal new))
kept_tree g old new (Ok x) is = tt
kept_tree g old new (Err (trees.Space f)) is = kept_of (g.refusal new) (g.refusal old) f is
kept_tree g old new (Err (trees.Corrupt page)) is = tt

-- what a fault says of an outcome
pub fault_read : (first now number : ℕ) (kept : Option SpaceFault) (fault : TreeFault) → IsKept kept fault → (kept ≡ Some faults.Read → Rose first now) → ReadsFailed first now (outcome_of number fault)
fault_read first now number kept (trees.Space (faults.Busy page word)) is caused = tt
fault_read first now number kept (trees.Space faults.Read) is caused = caused is
fault_read first now number kept (trees.Space (faults.Stopped op)) is caused = tt
fault_read first now number kept (trees.Space (faults.Full pages)) is caused = tt
fault_read first now number kept (trees.Space (faults.PageOut page pages)) is caused = tt
fault_read first now number kept (trees.Space (faults.Corrupt page)) is caused = tt
fault_read first now number kept (trees.Space faults.Memory) is caused = tt
fault_read first now number kept (trees.Corrupt page) is caused = tt

pub fault_full : (size number : ℕ) (kept : Option SpaceFault) (fault : TreeFault) → IsKept kept fault → ((n : ℕ) → kept ≡ Some (faults.Full n) → HasNoRoom n size) → IsFilled size (outcome_of number fault)
fault_full size number kept (trees.Space (faults.Busy page word)) is caused = tt
fault_full size number kept (trees.Space faults.Read) is caused = tt
fault_full size number kept (trees.Space (faults.Stopped op)) is caused = tt
fault_full size number kept (trees.Space (faults.Full pages)) is caused = caused pages is
fault_full size number kept (trees.Space (faults.PageOut page pages)) is caused = tt
fault_full size number kept (trees.Space (faults.Corrupt page)) is caused = tt
fault_full size number kept (trees.Space faults.Memory) is caused = tt
fault_full size number kept (trees.Corrupt page) is caused = tt

fault_whole : (entries : List Entry) (db : Database) (body : Tx) (replies : List Reply) (number : ℕ) (fault : TreeFault) → IsOwnFault fault → StopsWhole entries db body replies (outcome_of number fault)
fault_whole entries db body replies number (trees.Space (faults.Busy page word)) own = tt
fault_whole entries db body replies number (trees.Space faults.Read) own = tt
fault_whole entries db body replies number (trees.Space (faults.Stopped op)) own = absurd cc
fault_whole entries db body replies number (trees.Space (faults.Full pages)) own = tt
fault_whole entries db body replies number (trees.Space (faults.PageOut page pages)) own = tt
fault_whole entries db body replies number (trees.Space (faults.Corrupt page)) own = tt
fault_whole entries db body replies number (trees.Space faults.Memory) own = tt
fault_whole entries db body replies number (trees.Corrupt page) own = tt

-- what is so is so where it is told
pub told_any : (told : Option History) (A : Type 0) → A → IfTold told (λ _. A)
told_any None A a = tt
told_any (Some h) A a = a

-- a fault of a statement is no stop
pub never_whole : (told : Option History) (entries : List Entry) (Was : Database → Type 0) (body : Tx) (replies : List Reply) (number : ℕ) (fault : TreeFault) (outcome : Outcome)
    → outcome ≡ outcome_of number fault → IsOwnFault fault → IfTold told (λ _. (db : Database) → Was db → StopsWhole entries db body replies outcome)
never_whole told entries Was body replies number fault outcome is own =
    told_any told ((db : Database) → Was db → StopsWhole entries db body replies outcome)
    (λ db was. subst (StopsWhole entries db body replies) (sym is) (fault_whole entries db body replies number fault own))

pub from_earlier : (first old new : ℕ) (why : EndFault) → first ≤ old → ReadsFrom old new why → ReadsFrom first new why
from_earlier first old new ends_by.Read low rose = rose_since first old new low rose
from_earlier first old new (ends_by.Stopped op) low rose = tt
from_earlier first old new ends_by.Memory low rose = tt

stop_reads : (first now : ℕ) (why : EndFault) → IsStop why → ReadsFrom first now why
stop_reads first now ends_by.Read stop = absurd stop
stop_reads first now (ends_by.Stopped op) stop = tt
stop_reads first now ends_by.Memory stop = absurd stop

pub ended_reads : (first now : ℕ) (answer : Result ℕ EndFailed) → IfErr answer (λ (f : EndFailed). IsStop f.why) → IfErr answer (λ (f : EndFailed). ReadsFrom first now f.why)
ended_reads first now (Ok number) stop = tt
ended_reads first now (Err f) stop = stop_reads first now f.why stop

-- where a stop is the one fault, none is a reading that failed
pub never_read : {X : Type 0} (opened : Opened) (s : Store) (first now : ℕ) (result : Result X EndFault) → IfErr result (IsFault opened s) → OnErr result (is_some s.desk.stopped ≡ true) → IfErr result (ReadsFrom first now)
never_read opened s first now (Ok x) fault stops = tt
never_read opened s first now (Err ends_by.Read) fault stops = absurd (let both : false ≡ true = sym (ap is_some fault.0) ∙ stops in cc)
never_read opened s first now (Err (ends_by.Stopped op)) fault stops = tt
never_read opened s first now (Err ends_by.Memory) fault stops = tt

-- the outcome of a transaction that was to commit
pub commit_read : (first now : ℕ) (answer : Result ℕ EndFailed) (outcome : Outcome) → outcome ≡ outcome_after answer → IfErr answer (λ (f : EndFailed). ReadsFrom first now f.why) → ReadsFailed first now outcome
commit_read first now answer outcome is from = subst (ReadsFailed first now) (sym is) (by_answer answer from)
  where
    by_why : (number : ℕ) (why : EndFault) → ReadsFrom first now why → ReadsFailed first now (failed_outcome number why)
    by_why number ends_by.Read rose = rose
    by_why number (ends_by.Stopped op) rose = tt
    by_why number ends_by.Memory rose = tt

    by_answer : (a : Result ℕ EndFailed) → IfErr a (λ (f : EndFailed). ReadsFrom first now f.why) → ReadsFailed first now (outcome_after a)
    by_answer (Ok number) rose = tt
    by_answer (Err f) rose = by_why f.number f.why rose

pub commit_full : (size : ℕ) (answer : Result ℕ EndFailed) (outcome : Outcome) → outcome ≡ outcome_after answer → IsFilled size outcome
commit_full size answer outcome is = subst (IsFilled size) (sym is) (by_answer answer)
  where
    by_why : (number : ℕ) (why : EndFault) → IsFilled size (failed_outcome number why)
    by_why number ends_by.Read = tt
    by_why number (ends_by.Stopped op) = tt
    by_why number ends_by.Memory = tt

    by_answer : (a : Result ℕ EndFailed) → IsFilled size (outcome_after a)
    by_answer (Ok number) = tt
    by_answer (Err f) = by_why f.number f.why

pub commit_whole : (entries : List Entry) (db : Database) (body : Tx) (replies : List Reply) (answer : Result ℕ EndFailed) → replies ≡ replies_of (database_after db entries) body → StopsWhole entries db body replies (outcome_after answer)
commit_whole entries db body replies (Ok number) all = tt
commit_whole entries db body replies (Err f) all = by_why f.why
  where
    by_why : (why : EndFault) → StopsWhole entries db body replies (failed_outcome f.number why)
    by_why ends_by.Read = tt
    by_why (ends_by.Stopped op) = all
    by_why ends_by.Memory = tt

pub commit_breaks : (client tx : ℕ) (body : Tx) (replies : List Reply) (answer : Result ℕ EndFailed) (outcome : Outcome) (broken : Option Entry) (session : ℕ) (log : Log)
    → log ≡ record { client = client; tx = tx; body = body; replies = replies } → outcome ≡ outcome_after answer → OnOk answer (broken ≡ None) → OnErr answer (IsBrokenBy session log broken)
    → IfErr answer (λ (f : EndFailed). NamesCut broken f.why) → BreaksAs client tx body replies outcome broken
commit_breaks client tx body replies answer outcome None session log log_is is none own names = tt
commit_breaks client tx body replies (Ok number) outcome (Some e) session log log_is is none own names = absurd cc
commit_breaks client tx body replies (Err f) outcome (Some e) session log log_is is none own names = (own.0 ∙ log_is, (f.number, is ∙ ap (failed_outcome f.number) names))

pub no_break : (client tx : ℕ) (body : Tx) (replies : List Reply) (outcome : Outcome) (broken : Option Entry) → broken ≡ None → BreaksAs client tx body replies outcome broken
no_break client tx body replies outcome broken none = subst (BreaksAs client tx body replies outcome) (sym none) tt

-- what is known of a commit whose cut failed
pub keeps_broken : (old new : Store) (client tx : ℕ) (body : Tx) (replies : List Reply) (outcome : Outcome) → broken_in old.events ≡ None → BreaksAs client tx body replies outcome (broken_in new.events)
    → KeepsBroken old new client tx body replies outcome
keeps_broken old new client tx body replies outcome none breaks = by_broken (broken_in new.events) refl breaks
  where
    by_broken : (b : Option Entry) → broken_in new.events ≡ b → BreaksAs client tx body replies outcome b → KeepsBroken old new client tx body replies outcome
    by_broken None is a = inl (is ∙ sym none)
    by_broken (Some e) is a = inr (record { entry = e; broken = is; log = a.0; number = a.1.0; named = a.1.1 })

pub unbegun_broken : (old new : Store) (client tx : ℕ) (body : Tx) (replies : List Reply) (outcome : Outcome) (fault : BeginFault) → IsUnbegun old new fault → KeepsBroken old new client tx body replies outcome
unbegun_broken old new client tx body replies outcome (begins.Stopped op) is = inl (ap (λ (s : Store). broken_in s.events) is.1)
unbegun_broken old new client tx body replies outcome begins.Sixteen is = inl (ap (λ (s : Store). broken_in s.events) is.0)
unbegun_broken old new client tx body replies outcome begins.Memory is = inl (ap (λ (s : Store). broken_in s.events) is.0)

pub unbegun_whole : (opened : Opened) (entries : List Entry) (old new : Store) (body : Tx) (replies : List Reply) (number : ℕ) (outcome : Outcome) (fault : BeginFault) → outcome ≡ unbegun_outcome number fault → IsUnbegun old new fault
    → old.desk.stopped ≡ None → WhereWasServed opened (λ db. StopsWhole entries db body replies outcome)
unbegun_whole opened entries old new body replies number outcome fault is un going =
    was_any opened (λ db. StopsWhole entries db body replies outcome) (λ db. subst (StopsWhole entries db body replies) (sym is) (by_fault fault db un))
  where
    by_fault : (f : BeginFault) (db : Database) → IsUnbegun old new f → StopsWhole entries db body replies (unbegun_outcome number f)
    by_fault (begins.Stopped op) db u = absurd (let both : None ≡ Some op = sym going ∙ u.0 in cc)
    by_fault begins.Sixteen db u = tt
    by_fault begins.Memory db u = tt

pub corrupt_whole : (opened : Opened) (entries : List Entry) (body : Tx) (replies : List Reply) (number page : ℕ) (outcome : Outcome) → outcome ≡ Fault number (causes.Corrupt page)
    → WhereWasServed opened (λ db. StopsWhole entries db body replies outcome)
corrupt_whole opened entries body replies number page outcome is =
    was_any opened (λ db. StopsWhole entries db body replies outcome) (λ db. subst (StopsWhole entries db body replies) (sym is) tt)
