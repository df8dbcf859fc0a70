-- What a command answers and makes behind recovery.
use Rattle.std.proofs.Common.{◌≡◌, ℕ, ◌≤◌, List, [], length, take, Bool, true, false, Option, Some, None, Result, Ok, Err, arith, refl, sym, ap, ◌∙◌, subst, inl, inr}
use Rattle.std.specs.Prelude.{IfErr, IfOk, ◌≢◌}
use Rattle.spe_model.specs.declared.recovery.Recovered.{Recovered}
use Rattle.spe_model.specs.declared.verdict.Verdict.{Verdict}
use Rattle.spe_model.specs.declared.verdict.Verdict.TheVariants as verdicts
use Rattle.spe_model.specs.Content.{Content}
use Rattle.spe_model.specs.Database.{Database}
use Rattle.spe_model.specs.Faults.{Rose}
use Rattle.spe_model.specs.FreeList.{names_node}
use Rattle.spe_model.specs.Header.{fields}
use Rattle.spe_model.specs.Paging.{Paging}
use Rattle.spe_model.specs.Served.{usable_in}
use Rattle.spe_model.specs.Settled.{IsFound, IsWithinLimits, header_in, page_in}
use Rattle.spe_model.specs.Standing.{StandsFor, Whether}
use Rattle.spe_model.specs.Trace.{History, present}
use Rattle.spe_model.specs.Verdict.{verdict_of}
use Rattle.spe_disk.specs.Told.{absent_journals, makings}
use Rattle.spe_disk.specs.Added.{AddsSome, Makes}
use Rattle.spe_convert.specs.declared.fault.ConvertFault.{ConvertFault}
use Rattle.spe_convert.specs.declared.fault.ConvertFault.TheVariants as faults
use Rattle.spe_convert.specs.Causes.{HasReleaseCause, IsReleaseFault}
use Rattle.spe_convert.specs.Free.{IsDamage}
use Rattle.spe_convert.specs.Prepare.{IsAllPrepared, making_and_preparing}
use Rattle.spe_convert.specs.Reading.{usable_of}
use Rattle.spe_convert.specs.Release.{AreReleased, IsPart, IsWhole, WhereFound, making_first}
use Rattle.spe_verdict.specs.Law.{StandsIsTrue}
use Rattle.spe_words.specs.declared.command.Command.{Command}
use Rattle.spe_words.specs.declared.command.Command.TheVariants as commands
use Rattle.spe_serve.specs.declared.reply.Reply.{Reply}
use Rattle.spe_serve.specs.declared.reply.Reply.TheVariants as replies
use Rattle.spe_serve.specs.declared.failure.Failure.{Failure}
use Rattle.spe_serve.specs.declared.failure.Failure.TheVariants as failures
use Rattle.spe_serve.specs.Answer.{IsOfFree, IsOfSound, IsOverFound, IsOverPages, is_built, only_reads, reply_of_lists, reply_of_verdict, writes}
use Rattle.spe_serve.specs.Behind.{AreSomeOwn, IsOfReleasing, IsOwnFor, MakesFirst, MakesOwn, refusal_in, released_reply}
use Rattle.spe_serve.specs.Ending.{outcome_of}
use Rattle.spe_serve.specs.Failure.{IsCausedBy, IsCausedByEither}
use Rattle.spe_serve.specs.Own.{StandOver, are_sound, found_in, is_standing}
use Rattle.spe_serve.specs.Reply.{IsAbout, IsAboutRelease, IsAboutVerdict, is_done}
use Rattle.spe_serve.proofs.FormLemmas.{sound_in}
use Rattle.spe_serve.proofs.OutcomeLemmas.{absent_about}
use Rattle.spe_serve.proofs.RefusedLemmas.{refused_built}
use Rattle.spe_serve.proofs.SameLemmas.{same_length}
use Rattle.spe_serve.proofs.StockLemmas.{found_names, moved}
use Rattle.spe_serve.proofs.TraceLemmas.{adds_nothing}

pub stands_in : (found : Recovered) (content : Content) (pages : List (List ℕ)) → StandsIsTrue → IsWithinLimits found → IsFound found content pages → are_sound pages ≡ true
    → (db : Database) × StandOver pages db
stands_in found content pages law limits is sound =
    let s = sound_in found content pages law limits is sound in
    (s.db, s.stands)

-- the same, with the numbers that recovery found
pub found_stands : (found : Recovered) (content : Content) (pages : List (List ℕ)) (db : Database) → IsFound found content pages → StandOver pages db
    → StandsFor (usable_of found) found.pages (page_in pages) db
found_stands found content pages db is stands =
    let size = is.page_size in let rest = is.reserved in
    let used : usable_in (header_in pages) ≡ usable_of found = rw (size, rest) refl in
    subst (λ (n : ℕ). StandsFor (usable_of found) n (page_in pages) db) (sym is.counted)
    (subst (λ (u : ℕ). StandsFor u (length pages) (page_in pages) db) used stands)

sound_over : (usable count : ℕ) (pages : Paging) (v : Verdict) (reply : Reply) → is_standing v ≡ true → IsOfFree usable count pages reply → IsOfSound usable count pages v reply
sound_over usable count pages (verdicts.Stands tables rows free) reply is free_of = free_of
sound_over usable count pages (verdicts.Broken page rule) reply is free_of = absurd cc

released_same : (a b c d : ℕ) → a ≡ c → b ≡ d → replies.Released a b ≡ replies.Released c d
released_same a b c d x y = rw (x, y) refl

free_over : (pages : List (List ℕ)) (free : List ℕ) (count paged : ℕ) (db : Database) (stands : StandsFor (usable_in (header_in pages)) (length pages) (page_in pages) db)
    → AreReleased (found_in 0 pages) pages free → count ≡ length free → paged ≡ length pages
    → IsOfFree (usable_in (header_in pages)) (length pages) (page_in pages) (replies.Released count paged)
free_over pages free count paged db stands those counted is = record {
  db = db;
  stands = stands;
  reply_is = released_same count paged (length stands.listed) (length pages) (counted ∙ same_length free stands.listed (those.all db stands)) is;
}

free_reply : (found : Recovered) (content : Content) (pages : List (List ℕ)) (free : List ℕ) (count : ℕ) → StandsIsTrue → IsWithinLimits found → IsFound found content pages
    → are_sound pages ≡ true → AreReleased found pages free → count ≡ length free
    → IsOfFree (usable_in (header_in pages)) (length pages) (page_in pages) (replies.Released count found.pages)
free_reply found content pages free count law limits is sound released_are counted =
    let names = found_names found content pages is in
    let those = moved found (found_in 0 pages) pages free names.size names.rest names.count released_are in
    let db = stands_in found content pages law limits is sound in
    free_over pages free count found.pages db.0 db.1 those counted is.counted

abbrev pub IsWholeIn : Recovered → (old new : Option History) → Result ℕ ConvertFault → Type 0
IsWholeIn found old new result = IfOk result (λ count. WhereFound old found (λ content pages. IsWhole found pages (making_first found content pages) old new count))

abbrev pub IsDamagedIn : Recovered → (old : Option History) → Result ℕ ConvertFault → Type 0
IsDamagedIn found old result = IfErr result (λ fault. WhereFound old found (λ content pages. IsDamage (usable_of found) found.pages fault (page_in pages)))

abbrev pub AreSoundIn : Recovered → Option History → Type 0
AreSoundIn found old = WhereFound old found (λ content pages. are_sound pages ≡ true)

-- no page is damaged where no rule is broken
pub never_damaged : (found : Recovered) (content : Content) (pages : List (List ℕ)) → StandsIsTrue → IsWithinLimits found → IsFound found content pages → are_sound pages ≡ true
    → ((db : Database) → StandsFor (usable_of found) found.pages (page_in pages) db → ⊥) → ⊥
never_damaged found content pages law limits is sound none =
    let db = stands_in found content pages law limits is sound in
    none db.0 (found_stands found content pages db.0 is db.1)

-- the answer over pages that break no rule
pub sound_reply : (found : Recovered) (old new : Option History) (result : Result ℕ ConvertFault) → StandsIsTrue → IsWithinLimits found → AreSoundIn found old
    → IsWholeIn found old new result → IsDamagedIn found old result
    → IfOk (released_reply found.pages result) (λ reply. WhereFound old found (λ content pages. IsOverFound (commands.Release []) pages reply))
sound_reply found None new (Ok count) law limits sound whole damaged = tt
sound_reply found (Some h) new (Ok count) law limits sound whole damaged = λ pages is.
    let done = whole pages is in
    sound_over (usable_in (header_in pages)) (length pages) (page_in pages) _ (replies.Released count found.pages) (sound pages is)
    (free_reply found (present h) pages done.free count law limits is (sound pages is) done.released_are done.counted_is)
sound_reply found None new (Err (faults.Corrupt page)) law limits sound whole damaged = tt
sound_reply found (Some h) new (Err (faults.Corrupt page)) law limits sound whole damaged = λ pages is.
    absurd (never_damaged found (present h) pages law limits is (sound pages is) (damaged pages is))
sound_reply found old new (Err faults.Disk) law limits sound whole damaged = tt
sound_reply found old new (Err faults.Memory) law limits sound whole damaged = tt
sound_reply found old new (Err faults.Prepared) law limits sound whole damaged = tt
sound_reply found old new (Err (faults.Full pages)) law limits sound whole damaged = tt

pub sound_about : (pages : ℕ) (result : Result ℕ ConvertFault) → IfOk (released_reply pages result) IsAboutRelease
sound_about pages (Ok count) = tt
sound_about pages (Err faults.Disk) = tt
sound_about pages (Err faults.Memory) = tt
sound_about pages (Err faults.Prepared) = tt
sound_about pages (Err (faults.Corrupt page)) = tt
sound_about pages (Err (faults.Full n)) = tt

pub of_releasing : (reads reads_now ops ops_now : ℕ) (result : Result ℕ ConvertFault) → HasReleaseCause reads reads_now ops ops_now result → IfErr result IsOfReleasing
of_releasing reads reads_now ops ops_now result cause = go result cause.failed
  where
    go : (r : Result ℕ ConvertFault) → IfErr r (IsReleaseFault reads reads_now ops ops_now) → IfErr r IsOfReleasing
    go (Ok count) failed = tt
    go (Err faults.Disk) failed = tt
    go (Err faults.Memory) failed = tt
    go (Err faults.Prepared) failed = failed
    go (Err (faults.Corrupt page)) failed = tt
    go (Err (faults.Full n)) failed = failed

pub sound_cause : (reads reads_now ops ops_now pages : ℕ) (result : Result ℕ ConvertFault) → HasReleaseCause reads reads_now ops ops_now result
    → IfErr (released_reply pages result) (IsCausedByEither reads reads_now ops ops_now)
sound_cause reads reads_now ops ops_now pages result cause = go result cause.failed
  where
    go : (r : Result ℕ ConvertFault) → IfErr r (IsReleaseFault reads reads_now ops ops_now) → IfErr (released_reply pages r) (IsCausedByEither reads reads_now ops ops_now)
    go (Ok count) failed = tt
    go (Err faults.Disk) failed = failed
    go (Err faults.Memory) failed = tt
    go (Err faults.Prepared) failed = tt
    go (Err (faults.Corrupt page)) failed = tt
    go (Err (faults.Full n)) failed = tt

abbrev pub IsPartIn : Recovered → (old new : Option History) → Type 0
IsPartIn found old new = WhereFound old found (λ content pages. AddsSome old new (IsPart found content pages (making_first found content pages)))

abbrev pub MakesJournalsIn : (old new : Option History) → Result ℕ ConvertFault → Type 0
MakesJournalsIn old new result = IfErr result (λ fault. fault ≢ faults.Disk → Makes old new (λ content. makings (absent_journals content)))

-- what is made over pages that break no rule
pub sound_own : (db : List ℕ) (found : Recovered) (old new : Option History) (result : Result ℕ ConvertFault) → StandsIsTrue → IsWithinLimits found → AreSoundIn found old
    → IsWholeIn found old new result → IsPartIn found old new → IsDamagedIn found old result → MakesJournalsIn old new result
    → IsOwnFor (commands.Release db) found old new (outcome_of (released_reply found.pages result))
sound_own db found old new result law limits sound whole part damaged first = by_result result whole damaged first
  where
    some : (o : Option History) → AreSoundIn found o → IsPartIn found o new → WhereFound o found (λ content pages. AddsSome o new (AreSomeOwn (commands.Release db) found content pages))
    some None sound part = tt
    some (Some h) sound part = λ pages is. let is_part = part pages is in record { made = is_part.made; adds = is_part.adds; holds = inr (sound pages is, is_part.holds) }

    all : (o : Option History) (count : ℕ) → AreSoundIn found o → IsWholeIn found o new (Ok count) → WhereFound o found (MakesOwn (commands.Release db) found o new)
    all None count sound whole = tt
    all (Some h) count sound whole = λ pages is. rw (sound pages is) (count, whole pages is)

    never : (o : Option History) (page : ℕ) → AreSoundIn found o → IsDamagedIn found o (Err (faults.Corrupt page)) → WhereFound o found (MakesOwn (commands.Release db) found o new)
    never None page sound damaged = tt
    never (Some h) page sound damaged = λ pages is. absurd (never_damaged found (present h) pages law limits is (sound pages is) (damaged pages is))

    by_result : (r : Result ℕ ConvertFault) → IsWholeIn found old new r → IsDamagedIn found old r → MakesJournalsIn old new r
        → IsOwnFor (commands.Release db) found old new (outcome_of (released_reply found.pages r))
    by_result (Ok count) whole damaged first = record { part = some old sound part; whole = all old count sound whole }
    by_result (Err faults.Disk) whole damaged first = record { part = some old sound part; whole = tt }
    by_result (Err faults.Memory) whole damaged first = record { part = some old sound part; whole = inr (first (λ same. cc)) }
    by_result (Err faults.Prepared) whole damaged first = record { part = some old sound part; whole = inr (first (λ same. cc)) }
    by_result (Err (faults.Full pages)) whole damaged first = record { part = some old sound part; whole = inr (first (λ same. cc)) }
    by_result (Err (faults.Corrupt page)) whole damaged first = record { part = some old sound part; whole = never old page sound damaged }

-- nothing was made
none_own : (c : Command) (found : Recovered) (content : Content) (pages : List (List ℕ)) → AreSomeOwn c found content pages []
none_own (commands.Rows db table) found content pages = refl
none_own (commands.Check db) found content pages = refl
none_own (commands.Prepare db lists) found content pages = inl refl
none_own (commands.Release db) found content pages = inl refl
none_own (commands.Run db scripts workers retries slots) found content pages = refl
none_own (commands.Work db seed count) found content pages = refl

nothing_over : (c : Command) (found : Recovered) (told : Option History) → WhereFound told found (λ content pages. AddsSome told told (AreSomeOwn c found content pages))
nothing_over c found None = tt
nothing_over c found (Some h) = λ pages is. record { made = []; adds = adds_nothing (Some h); holds = none_own c found (present h) pages }

none_first : (c : Command) (told : Option History) → MakesFirst c told told
none_first (commands.Rows db table) told = refl
none_first (commands.Check db) told = refl
none_first (commands.Prepare db lists) told = tt
none_first (commands.Release db) told = inl refl
none_first (commands.Run db scripts workers retries slots) told = refl
none_first (commands.Work db seed count) told = refl

-- as a command that reads makes nothing
reads_all : (c : Command) → only_reads c ≡ true → (found : Recovered) (told : Option History) → WhereFound told found (MakesOwn c found told told)
reads_all c reads found None = tt
reads_all (commands.Rows db table) reads found (Some h) = λ pages is. refl
reads_all (commands.Check db) reads found (Some h) = λ pages is. refl
reads_all (commands.Prepare db lists) reads found (Some h) = absurd cc
reads_all (commands.Release db) reads found (Some h) = absurd cc
reads_all (commands.Run db scripts workers retries slots) reads found (Some h) = absurd cc
reads_all (commands.Work db seed count) reads found (Some h) = absurd cc

-- or as there was no answer
pub failed_own : (c : Command) (found : Recovered) (old new : Option History) (failure : Failure) → new ≡ old → IsOwnFor c found old new (outcome_of (Err failure))
failed_own c found old new failure same = subst (λ (n : Option History). IsOwnFor c found old n (outcome_of (Err failure))) (sym same) (by_failure failure)
  where
    by_failure : (f : Failure) → IsOwnFor c found old old (outcome_of (Err f))
    by_failure failures.Disk = record { part = nothing_over c found old; whole = tt }
    by_failure failures.Memory = record { part = nothing_over c found old; whole = none_first c old }

pub reads_own : (c : Command) (found : Recovered) (old new : Option History) (result : Result Reply Failure) → only_reads c ≡ true → new ≡ old
    → IsOwnFor c found old new (outcome_of result)
reads_own c found old new (Ok reply) reads same =
    subst (λ (n : Option History). IsOwnFor c found old n (outcome_of (Ok reply))) (sym same) (record { part = nothing_over c found old; whole = reads_all c reads found old })
reads_own c found old new (Err failure) reads same = failed_own c found old new failure same

-- what `check` answers, and a command that writes refuses by it
abbrev pub IsCheckedIn : Recovered → Option History → Reply → Type 0
IsCheckedIn found old reply = WhereFound old found (λ content pages. IsOverFound (commands.Check []) pages reply)

some_none : (r : Reply) → Some r ≡ None → ⊥
some_none r e = cc

none_some : (r : Reply) → None ≡ Some r → ⊥
none_some r e = cc

sound_by : (count : ℕ) (v : Verdict) (reply : Reply) → reply ≡ reply_of_verdict count v → refusal_in reply ≡ None → is_standing v ≡ true
sound_by count (verdicts.Stands tables rows free) reply is none = refl
sound_by count (verdicts.Broken page rule) reply is none = absurd (some_none (replies.Corrupt page) (sym (ap refusal_in is) ∙ none))

-- the refusal names the broken page
pub broken_by : (count : ℕ) (v : Verdict) (reply refusal : Reply) → reply ≡ reply_of_verdict count v → refusal_in reply ≡ Some refusal
    → (page : ℕ) × (rule : ℕ) × (v ≡ verdicts.Broken page rule) × (refusal ≡ replies.Corrupt page)
broken_by count (verdicts.Stands tables rows free) reply refusal is some = absurd (none_some refusal (sym (ap refusal_in is) ∙ some))
broken_by count (verdicts.Broken page rule) reply refusal is some =
    let both : Some refusal ≡ Some (replies.Corrupt page) = sym some ∙ ap refusal_in is in (page, rule, refl, cc)

refused_by : (c : Command) (usable count : ℕ) (pages : Paging) (page rule : ℕ) → writes c ≡ true → verdict_of usable count pages ≡ verdicts.Broken page rule
    → IsOverPages c usable count pages (replies.Corrupt page)
refused_by (commands.Rows db table) usable count pages page rule writing is = absurd cc
refused_by (commands.Check db) usable count pages page rule writing is = absurd cc
refused_by (commands.Prepare db lists) usable count pages page rule writing is = sym (ap (reply_of_lists lists (fields (take 100 (pages 1))).page_size count (names_node (pages 1))) is)
refused_by (commands.Release db) usable count pages page rule writing is = subst (λ (v : Verdict). IsOfSound usable count pages v (replies.Corrupt page)) (sym is) refl
refused_by (commands.Run db scripts workers retries slots) usable count pages page rule writing is = absurd cc
refused_by (commands.Work db seed count_of) usable count pages page rule writing is = absurd cc

pub checked_sound : (found : Recovered) (old : Option History) (reply : Reply) → IsCheckedIn found old reply → refusal_in reply ≡ None → AreSoundIn found old
checked_sound found None reply checked none = tt
checked_sound found (Some h) reply checked none = λ pages is. sound_by (length pages) _ reply (checked pages is) none

pub checked_refused : (c : Command) (found : Recovered) (old : Option History) (reply refusal : Reply) → writes c ≡ true → IsCheckedIn found old reply → refusal_in reply ≡ Some refusal
    → WhereFound old found (λ content pages. IsOverFound c pages refusal)
checked_refused c found None reply refusal writing checked some = tt
checked_refused c found (Some h) reply refusal writing checked some = λ pages is.
    let usable = usable_in (header_in pages) in
    let b = broken_by (length pages) (verdict_of usable (length pages) (page_in pages)) reply refusal (checked pages is) some in
    subst (IsOverPages c usable (length pages) (page_in pages)) (sym b.3) (refused_by c usable (length pages) (page_in pages) b.0 b.1 writing b.2)

-- nothing was made, as the pages are refused
refused_all : (c : Command) (found : Recovered) (told : Option History) (content : Content) (pages : List (List ℕ)) (page rule : ℕ) → writes c ≡ true
    → verdict_of (usable_in (header_in pages)) (length pages) (page_in pages) ≡ verdicts.Broken page rule → MakesOwn c found told told content pages
refused_all (commands.Rows db table) found told content pages page rule writing is = absurd cc
refused_all (commands.Check db) found told content pages page rule writing is = absurd cc
refused_all (commands.Prepare db lists) found told content pages page rule writing is =
    subst (λ (b : Bool). Whether b ((count : ℕ) × IsAllPrepared found lists pages (making_and_preparing found lists content pages) told told count) (told ≡ told))
    (sym (ap (λ (v : Verdict). is_done (reply_of_lists lists (fields (take 100 (page_in pages 1))).page_size (length pages) (names_node (page_in pages 1)) v)) is)) refl
refused_all (commands.Release db) found told content pages page rule writing is =
    subst (λ (b : Bool). Whether b ((count : ℕ) × IsWhole found pages (making_first found content pages) told told count) (told ≡ told)) (sym (ap is_standing is)) refl
refused_all (commands.Run db scripts workers retries slots) found told content pages page rule writing is = absurd cc
refused_all (commands.Work db seed count) found told content pages page rule writing is = absurd cc

pub refused_own : (c : Command) (found : Recovered) (old new : Option History) (reply refusal : Reply) → writes c ≡ true → new ≡ old → IsCheckedIn found old reply
    → refusal_in reply ≡ Some refusal → IsOwnFor c found old new (outcome_of (Ok refusal))
refused_own c found old new reply refusal writing same checked some =
    subst (λ (n : Option History). IsOwnFor c found old n (outcome_of (Ok refusal))) (sym same) (record { part = nothing_over c found old; whole = whole old checked })
  where
    whole : (o : Option History) → IsCheckedIn found o reply → WhereFound o found (MakesOwn c found o o)
    whole None checked = tt
    whole (Some h) checked = λ pages is.
        let b = broken_by (length pages) (verdict_of (usable_in (header_in pages)) (length pages) (page_in pages)) reply refusal (checked pages is) some in
        refused_all c found (Some h) (present h) pages b.0 b.1 writing b.2

corrupt_about : (c : Command) (page : ℕ) → writes c ≡ true → IsAbout c (replies.Corrupt page)
corrupt_about (commands.Rows db table) page writing = absurd cc
corrupt_about (commands.Check db) page writing = absurd cc
corrupt_about (commands.Prepare db lists) page writing = tt
corrupt_about (commands.Release db) page writing = tt
corrupt_about (commands.Run db scripts workers retries slots) page writing = absurd cc
corrupt_about (commands.Work db seed count) page writing = absurd cc

is_writer : (c : Command) → writes c ≡ true → is_built c ≡ true
is_writer (commands.Rows db table) writing = refl
is_writer (commands.Check db) writing = refl
is_writer (commands.Prepare db lists) writing = refl
is_writer (commands.Release db) writing = refl
is_writer (commands.Run db scripts workers retries slots) writing = absurd cc
is_writer (commands.Work db seed count) writing = absurd cc

pub refused_writing : (c : Command) (reply refusal : Reply) → writes c ≡ true → IsAboutVerdict reply → refusal_in reply ≡ Some refusal → IsAbout c refusal
refused_writing c replies.Words refusal writing about some = absurd about
refused_writing c replies.NoDatabase refusal writing about some = let same : replies.NoDatabase ≡ refusal = cc in subst (IsAbout c) same (absent_about c (is_writer c writing))
refused_writing c (replies.Refused fault) refusal writing about some =
    let same : replies.Refused fault ≡ refusal = cc in subst (IsAbout c) same (refused_built c fault (is_writer c writing) about)
refused_writing c replies.NotBuilt refusal writing about some = absurd about
refused_writing c (replies.Sound pages tables rows free) refusal writing about some = absurd cc
refused_writing c (replies.Damage page rule) refusal writing about some = let same : replies.Corrupt page ≡ refusal = cc in subst (IsAbout c) same (corrupt_about c page writing)
refused_writing c (replies.Corrupt page) refusal writing about some = let same : replies.Corrupt page ≡ refusal = cc in subst (IsAbout c) same (corrupt_about c page writing)
refused_writing c replies.NoTable refusal writing about some = absurd about
refused_writing c (replies.ClosedTable why) refusal writing about some = absurd about
refused_writing c (replies.Rows rows) refusal writing about some = absurd about
refused_writing c (replies.Released free pages) refusal writing about some = absurd about
refused_writing c (replies.Prepared lists pages) refusal writing about some = absurd about
refused_writing c replies.AlreadyPrepared refusal writing about some = absurd about
refused_writing c (replies.Full pages) refusal writing about some = absurd about

-- a failure of the check, by the count of reading calls; and of what comes behind it
pub failed_cause : (reads reads_now ops ops_now : ℕ) (failure : Failure) → IsCausedBy reads reads_now failure → IsCausedByEither reads reads_now ops ops_now failure
failed_cause reads reads_now ops ops_now failures.Disk rose = inl rose
failed_cause reads reads_now ops ops_now failures.Memory rose = tt

rose_after : (before mid now : ℕ) → before ≤ mid → Rose mid now → Rose before now
rose_after before mid now later rose = omega arith

pub cause_after : (reads mid_reads reads_now ops mid_ops ops_now : ℕ) (result : Result Reply Failure) → reads ≤ mid_reads → ops ≤ mid_ops
    → IfErr result (IsCausedByEither mid_reads reads_now mid_ops ops_now) → IfErr result (IsCausedByEither reads reads_now ops ops_now)
cause_after reads mid_reads reads_now ops mid_ops ops_now (Ok reply) later ops_later cause = tt
cause_after reads mid_reads reads_now ops mid_ops ops_now (Err failures.Disk) later ops_later (inl rose) = inl (rose_after reads mid_reads reads_now later rose)
cause_after reads mid_reads reads_now ops mid_ops ops_now (Err failures.Disk) later ops_later (inr rose) = inr (rose_after ops mid_ops ops_now ops_later rose)
cause_after reads mid_reads reads_now ops mid_ops ops_now (Err failures.Memory) later ops_later cause = tt
