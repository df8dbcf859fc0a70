-- What a command does to the files, by what recovery did.
use Rattle.std.proofs.Common.{◌≡◌, ℕ, List, [], ◌++◌, length, refl, sym, ap, subst, ◌∙◌, inl, inr, ⊎_elim, Bool, true, false, Option, Some, None, Result, Ok, Err}
use Rattle.std.proofs.lemmas.List.{append-nil}
use Rattle.spe_model.specs.declared.file.FileNo.TheVariants.{Database}
use Rattle.spe_model.specs.declared.recovery.Recovered.{Recovered}
use Rattle.spe_model.specs.declared.recovery.RecoverFault.{RecoverFault}
use Rattle.spe_model.specs.declared.recovery.RecoverFault.TheVariants as refusals
use Rattle.spe_model.specs.Content.{Content, file_of}
use Rattle.spe_model.specs.Recovery.{recovered, recovered_header}
use Rattle.spe_model.specs.Rollback.{rule_of}
use Rattle.spe_model.specs.Settled.{IsFound, header_in}
use Rattle.spe_model.specs.Standing.{Whether}
use Rattle.spe_model.specs.Trace.{Operation, History, IsCut, present}
use Rattle.spe_crash.specs.Pages.{QuietIsWhole, RecoveredAreHeaded}
use Rattle.spe_disk.specs.Told.{Adds, Finds, absent_journals, makings}
use Rattle.spe_recover.specs.Recovered.{HasPages, IsPlain, IsRefusal, is_wanted, rollback_of, rollback_to}
use Rattle.spe_recover.specs.Written.{MakesCounted}
use Rattle.spe_disk.specs.Added.{AddsSome, IfBothTold, IfTold, MakesCut}
use Rattle.spe_convert.specs.Prepare.{IsAllPrepared, IsPartPrepared, making_and_preparing, prepared}
use Rattle.spe_convert.specs.Release.{IsPart, IsWhole, making_first, released}
use Rattle.spe_words.specs.declared.command.Command.{Command}
use Rattle.spe_words.specs.declared.command.Command.TheVariants as commands
use Rattle.spe_words.specs.Grammar.{AskFor}
use Rattle.spe_serve.specs.declared.outcome.Outcome.{Outcome}
use Rattle.spe_serve.specs.declared.outcome.Outcome.TheVariants as outcomes
use Rattle.spe_serve.specs.declared.reply.Reply.{Reply}
use Rattle.spe_serve.specs.declared.reply.Reply.TheVariants as replies
use Rattle.spe_serve.specs.Answer.{is_built, only_reads, want_of}
use Rattle.spe_serve.specs.Behind.{AreSomeOwn, IsOwnFor, MakesFirst, MakesOwn}
use Rattle.spe_serve.specs.Ending.{outcome_of, refused_for}
use Rattle.spe_serve.specs.Made.{AreAllOf, AreAllWith, AreFreeIn, AreOperationsOf, AreOwnOver, ArePartOf, HoldsLast, IsMadeFor, MakesAll, MakesPart, MakesSome, RollsBackFirst, Settles, has_wanted}
use Rattle.spe_serve.specs.Own.{AreOwn, AreTheFree, are_preparing, are_sound, found_in, preparing_first, releasing_first, rolled_back}
use Rattle.spe_serve.proofs.OutcomeLemmas.{none_bytes}
use Rattle.spe_serve.proofs.CrashLemmas.{absent_refused, is_refused}
use Rattle.spe_serve.proofs.FileLemmas.{wanted_false, wanted_true}
use Rattle.spe_serve.proofs.ServerLemmas as server
use Rattle.spe_serve.proofs.StockLemmas.{found_names, idle_found, making_as, moved, released_as}
use Rattle.spe_serve.proofs.TraceLemmas.{adds_both, adds_nothing, cut_all, cut_behind, cut_front, more, present_more}

-- nothing is recovered of the content
abbrev pub IsUnrecovered : Content → Type 0
IsUnrecovered content = is_refused (recovered content) ≡ true

abbrev no_made : List Operation
no_made = []

abbrev Recovery : Type 0
Recovery = Result (List (List ℕ)) RecoverFault

-- a command that reads has no operations of its own
reads_own : (c : Command) (content : Content) (pages : List (List ℕ)) → only_reads c ≡ true → AreOwn c content pages [] []
reads_own (commands.Rows db table) content pages reads = refl
reads_own (commands.Check db) content pages reads = refl
reads_own (commands.Prepare db lists) content pages reads = absurd cc
reads_own (commands.Release db) content pages reads = absurd cc
reads_own (commands.Run db scripts workers retries slots) content pages reads = absurd cc
reads_own (commands.Work db seed count) content pages reads = absurd cc

reads_free : (c : Command) (pages : List (List ℕ)) (free : List ℕ) → only_reads c ≡ true → AreTheFree c pages free
reads_free (commands.Rows db table) pages free reads = tt
reads_free (commands.Check db) pages free reads = tt
reads_free (commands.Prepare db lists) pages free reads = absurd cc
reads_free (commands.Release db) pages free reads = absurd cc
reads_free (commands.Run db scripts workers retries slots) pages free reads = absurd cc
reads_free (commands.Work db seed count) pages free reads = absurd cc

-- there are operations of its own for each command and any free pages
some_own : (c : Command) (content : Content) (pages : List (List ℕ)) → (own : List Operation) × AreOwn c content pages [] own
some_own (commands.Rows db table) content pages = (no_made, refl)
some_own (commands.Check db) content pages = (no_made, refl)
some_own (commands.Run db scripts workers retries slots) content pages = (no_made, refl)
some_own (commands.Work db seed count) content pages = (no_made, refl)
some_own (commands.Prepare db lists) content pages = go (are_preparing lists pages)
  where
    go : (b : Bool) → (own : List Operation) × Whether b (own ≡ preparing_first lists content pages []) (own ≡ [])
    go true = (preparing_first lists content pages [], refl)
    go false = (no_made, refl)
some_own (commands.Release db) content pages = go (are_sound pages)
  where
    go : (b : Bool) → (own : List Operation) × Whether b (own ≡ releasing_first content pages []) (own ≡ [])
    go true = (releasing_first content pages [], refl)
    go false = (no_made, refl)

some_over : (c : Command) (content : Content) (r : Recovery) → (own : List Operation) × AreOwnOver c content [] r own
some_over c content (Err fault) = (no_made, refl)
some_over c content (Ok pages) = go (is_wanted (want_of c) (header_in pages))
  where
    go : (b : Bool) → (own : List Operation) × Whether b (AreOwn c content pages [] own) (own ≡ [])
    go true = some_own c content pages
    go false = (no_made, refl)

built_operations : (c : Command) (content : Content) (free : List ℕ) (made : List Operation) → is_built c ≡ true → RollsBackFirst c content free made → AreOperationsOf c content free made
built_operations c content free made built rolls = subst (λ (b : Bool). Whether b (RollsBackFirst c content free made) (made ≡ [])) (sym built) rolls

no_operations : (c : Command) (content : Content) (free : List ℕ) → is_built c ≡ false → AreOperationsOf c content free []
no_operations c content free unbuilt = subst (λ (b : Bool). Whether b (RollsBackFirst c content free no_made) (no_made ≡ [])) (sym unbuilt) refl

-- what a stop within recovery leaves is a part of all
part_of : (c : Command) (content : Content) (added : List Operation) → is_built c ≡ true → IsCut (rollback_of content) added → ArePartOf c content added
part_of c content added built cut =
    let own = some_over c content (recovered content) in
    record {
      made = rollback_of content ++ own.0;
      free = [];
      of = built_operations c content [] (rollback_of content ++ own.0) built (record { own = own.0; owned = own.1; both = refl });
      part = cut_front (rollback_of content) own.0 added cut;
    }

some_part : (c : Command) (content : Content) → ArePartOf c content []
some_part c content = go (is_built c) refl
  where
    go : (b : Bool) → is_built c ≡ b → ArePartOf c content []
    go true built = part_of c content [] built tt
    go false unbuilt = record { made = []; free = []; of = no_operations c content [] unbuilt; part = tt }

part_none : (c : Command) (told : Option History) → MakesPart c told told
part_none c None = tt
part_none c (Some h) = record { made = []; adds = adds_nothing (Some h); holds = some_part c (present h) }

part_cut : (c : Command) (old new : Option History) → is_built c ≡ true → MakesCut old new rollback_of → MakesPart c old new
part_cut c None new built cut = tt
part_cut c (Some h) new built cut = record { made = cut.made; adds = cut.adds; holds = part_of c (present h) cut.made built cut.holds }

rule_is : (content : Content) (count : ℕ) → HasPages content count → rollback_of content ≡ rule_of content count
rule_is content count has = ap (rollback_to content) has.recovers ∙ ap (rule_of content) has.counted

ok_same : (p q : List (List ℕ)) (r : Recovery) → r ≡ Ok p → r ≡ Ok q → p ≡ q
ok_same p q r a b = let both : Ok p ≡ Ok q = sym a ∙ b in cc

-- all operations over recovered pages that are such as the command wants
all_of : (c : Command) (content : Content) (pages : List (List ℕ)) (free : List ℕ) (own : List Operation) → is_built c ≡ true → recovered content ≡ Ok pages
    → is_wanted (want_of c) (header_in pages) ≡ true → AreTheFree c pages free → AreOwn c content pages free own → AreAllOf c content (rollback_of content ++ own)
all_of c content pages free own built recovers wanted those owned =
    subst (λ (b : Bool). Whether b (AreAllWith c content (rollback_of content ++ own)) (rollback_of content ++ own ≡ [])) (sym has) (record {
      free = free;
      free_are = subst (λ (r : Recovery). AreFreeIn c r free) (sym recovers) those;
      of = built_operations c content free (rollback_of content ++ own) built (record { own = own; owned = over; both = refl });
    })
  where
    has : has_wanted c (recovered content) ≡ true
    has = ap (has_wanted c) recovers ∙ wanted

    over : AreOwnOver c content free (recovered content) own
    over = subst (λ (r : Recovery). AreOwnOver c content free r own) (sym recovers)
        (subst (λ (b : Bool). Whether b (AreOwn c content pages free own) (own ≡ [])) (sym wanted) owned)

refused_none : (content : Content) (r : Recovery) → recovered content ≡ r → is_refused r ≡ true → rollback_of content ≡ []
refused_none content (Ok pages) is unrecovered = absurd cc
refused_none content (Err fault) is unrecovered = ap (rollback_to content) is

-- none were made, as nothing is recovered
none_with : (c : Command) (content : Content) (fault : RecoverFault) → is_built c ≡ true → IsUnrecovered content → recovered content ≡ Err fault → AreAllWith c content []
none_with c content fault built unrecovered is = record {
  free = [];
  free_are = subst (λ (r : Recovery). AreFreeIn c r []) (sym is) tt;
  of = built_operations c content [] [] built (record {
    own = [];
    owned = subst (λ (r : Recovery). AreOwnOver c content [] r no_made) (sym is) refl;
    both = sym (ap (λ (ops : List Operation). ops ++ no_made) (refused_none content (recovered content) refl unrecovered));
  });
}

none_of : (c : Command) (content : Content) → is_built c ≡ true → IsUnrecovered content → AreAllOf c content []
none_of c content built unrecovered = go (recovered content) refl
  where
    go : (r : Recovery) → recovered content ≡ r → AreAllOf c content []
    go (Ok pages) is = absurd (let refused = sym (ap is_refused is) ∙ unrecovered in cc)
    go (Err fault) is =
        subst (λ (b : Bool). Whether b (AreAllWith c content no_made) (no_made ≡ [])) (sym (ap (has_wanted c) is)) (none_with c content fault built unrecovered is)

-- or as the recovered pages are not such as the command wants
unwanted_of : (c : Command) (content : Content) (pages : List (List ℕ)) → recovered content ≡ Ok pages → is_wanted (want_of c) (header_in pages) ≡ false → AreAllOf c content []
unwanted_of c content pages recovers unwanted =
    subst (λ (b : Bool). Whether b (AreAllWith c content no_made) (no_made ≡ [])) (sym (ap (has_wanted c) recovers ∙ unwanted)) refl

settled_refused : (c : Command) (told : Option History) → IfTold told IsUnrecovered → Settles c told told
settled_refused c None unrecovered = tt
settled_refused c (Some h) unrecovered = λ pages is. absurd (let refused = sym (ap is_refused is) ∙ unrecovered in cc)

-- nothing was done, as there are no recovered pages
pub nothing_for : (c : Command) (told new : Option History) (reply : Reply) → is_built c ≡ true → new ≡ told → IfTold told IsUnrecovered
    → IsMadeFor c told new (outcomes.Answered reply)
nothing_for c told new reply built same unrecovered =
    subst (λ (n : Option History). IsMadeFor c told n (outcomes.Answered reply)) (sym same)
    (record { part = part_none c told; whole = whole told unrecovered; settled = λ is. settled_refused c told unrecovered })
  where
    whole : (told : Option History) → IfTold told IsUnrecovered → MakesAll c told told
    whole None unrecovered = tt
    whole (Some h) unrecovered = record { made = []; adds = adds_nothing (Some h); holds = none_of c (present h) built unrecovered }

unbuilt_wants : (c : Command) (r : Recovery) → is_built c ≡ false → has_wanted c r ≡ true
unbuilt_wants c (Err fault) unbuilt = refl
unbuilt_wants (commands.Rows db table) (Ok pages) unbuilt = absurd cc
unbuilt_wants (commands.Check db) (Ok pages) unbuilt = absurd cc
unbuilt_wants (commands.Prepare db lists) (Ok pages) unbuilt = absurd cc
unbuilt_wants (commands.Release db) (Ok pages) unbuilt = absurd cc
unbuilt_wants (commands.Run db scripts workers retries slots) (Ok pages) unbuilt = refl
unbuilt_wants (commands.Work db seed count) (Ok pages) unbuilt = refl

unbuilt_free : (c : Command) (r : Recovery) → is_built c ≡ false → AreFreeIn c r []
unbuilt_free c (Err fault) unbuilt = tt
unbuilt_free (commands.Rows db table) (Ok pages) unbuilt = absurd cc
unbuilt_free (commands.Check db) (Ok pages) unbuilt = absurd cc
unbuilt_free (commands.Prepare db lists) (Ok pages) unbuilt = absurd cc
unbuilt_free (commands.Release db) (Ok pages) unbuilt = absurd cc
unbuilt_free (commands.Run db scripts workers retries slots) (Ok pages) unbuilt = tt
unbuilt_free (commands.Work db seed count) (Ok pages) unbuilt = tt

unbuilt_of : (c : Command) (content : Content) → is_built c ≡ false → AreAllOf c content []
unbuilt_of c content unbuilt =
    subst (λ (b : Bool). Whether b (AreAllWith c content no_made) (no_made ≡ [])) (sym (unbuilt_wants c (recovered content) unbuilt))
    (record { free = []; free_are = unbuilt_free c (recovered content) unbuilt; of = no_operations c content [] unbuilt })

-- nothing was done, as the command is not built
pub unbuilt_for : (c : Command) (told : Option History) (reply : Reply) → is_built c ≡ false → IsMadeFor c told told (outcomes.Answered reply)
unbuilt_for c told reply unbuilt = record { part = part_none c told; whole = whole told; settled = λ built. absurd (let both = sym built ∙ unbuilt in cc) }
  where
    whole : (told : Option History) → MakesAll c told told
    whole None = tt
    whole (Some h) = record { made = []; adds = adds_nothing (Some h); holds = unbuilt_of c (present h) unbuilt }

disk_failed : (c : Command) (old new : Option History) → MakesPart c old new → IsMadeFor c old new outcomes.DiskFailed
disk_failed c old new part = record { part = part; whole = tt; settled = λ built. tt }

-- where memory ran out none were made
memory_none : (c : Command) (told : Option History) → MakesSome c told told
memory_none (commands.Rows db table) told = inl refl
memory_none (commands.Check db) told = inl refl
memory_none (commands.Prepare db lists) told = part_none (commands.Prepare db lists) told
memory_none (commands.Release db) told = inl refl
memory_none (commands.Run db scripts workers retries slots) told = inl refl
memory_none (commands.Work db seed count) told = inl refl

unmade : (c : Command) (old new : Option History) → new ≡ old → MakesSome c old new
unmade c old new same = subst (MakesSome c old) (sym same) (memory_none c old)

-- all operations are a part of them
all_part : (c : Command) (content : Content) (made : List Operation) → AreAllOf c content made → ArePartOf c content made
all_part c content made all = go (has_wanted c (recovered content)) all
  where
    go : (b : Bool) → Whether b (AreAllWith c content made) (made ≡ []) → ArePartOf c content made
    go true those = record { made = made; free = those.free; of = those.of; part = cut_all made }
    go false none = subst (ArePartOf c content) (sym none) (some_part c content)

part_all : (c : Command) (old new : Option History) → MakesAll c old new → MakesPart c old new
part_all c None new all = tt
part_all c (Some h) new all = record { made = all.made; adds = all.adds; holds = all_part c (present h) all.made all.holds }

-- or all
pub memory_all : (c : Command) (old new : Option History) → MakesAll c old new → MakesSome c old new
memory_all (commands.Rows db table) old new all = inr all
memory_all (commands.Check db) old new all = inr all
memory_all (commands.Prepare db lists) old new all = part_all (commands.Prepare db lists) old new all
memory_all (commands.Release db) old new all = inr (inl all)
memory_all (commands.Run db scripts workers retries slots) old new all = inr all
memory_all (commands.Work db seed count) old new all = inr all

no_memory : (c : Command) (old new : Option History) → MakesPart c old new → MakesSome c old new → IsMadeFor c old new outcomes.NoMemory
no_memory c old new part some = record { part = part; whole = some; settled = λ built. tt }

-- nothing was done, as the disk failed before, or there was no memory
pub never_attached : (c : Command) (told new : Option History) → new ≡ told → IsMadeFor c told new outcomes.DiskFailed
never_attached c told new same = subst (λ (n : Option History). IsMadeFor c told n outcomes.DiskFailed) (sym same) (disk_failed c told told (part_none c told))

pub never_read : (c : Command) (told : Option History) → IsMadeFor c told told outcomes.NoMemory
never_read c told = no_memory c told told (part_none c told) (memory_none c told)

-- there is no file to recover
pub absent_for : (c : Command) (told new : Option History) → is_built c ≡ true → new ≡ told → Finds told (Ok false) → IsMadeFor c told new (outcomes.Answered replies.NoDatabase)
absent_for c told new built same found = nothing_for c told new replies.NoDatabase built same (absent told found)
  where
    absent : (told : Option History) → Finds told (Ok false) → IfTold told IsUnrecovered
    absent None found = tt
    absent (Some h) found = absent_refused (present h) (none_bytes (file_of (present h) Database) found)

-- all facts on the recovered pages at hand, and what recovery did
record Facts (c : Command) (h k : History) (found : Recovered) (pages : List (List ℕ)) : Type 0 where
  built : is_built c ≡ true
  headed : RecoveredAreHeaded
  quiet : QuietIsWhole
  recovers : recovered (present h) ≡ Ok pages
  wanted : is_wanted (want_of c) (header_in pages) ≡ true
  more : Adds (Some h) (Some k) (rollback_of (present h))
  counted : found.ops ≡ length (rollback_of (present h))
  rolled : present k ≡ rolled_back (present h)
  is : IsFound found (present k) pages

-- these operations behind recovery are all of the command
own_all : (c : Command) (h k : History) (found : Recovered) (pages : List (List ℕ)) (new : Option History) (free : List ℕ) (own : List Operation) → Facts c h k found pages
    → AreTheFree c pages free → AreOwn c (present h) pages free own → Adds (Some k) new own → MakesAll c (Some h) new
own_all c h k found pages new free own facts those owned adds = record {
  made = rollback_of (present h) ++ own;
  adds = adds_both (Some h) (Some k) new (rollback_of (present h)) own facts.more adds;
  holds = all_of c (present h) pages free own facts.built facts.recovers facts.wanted those owned;
}

reads_all : (c : Command) (h k : History) (found : Recovered) (pages : List (List ℕ)) → only_reads c ≡ true → Facts c h k found pages → MakesAll c (Some h) (Some k)
reads_all c h k found pages reads facts =
    own_all c h k found pages (Some k) [] [] facts (reads_free c pages [] reads) (reads_own c (present h) pages reads) (adds_nothing (Some k))

making_is : (h k : History) (c : Command) (found : Recovered) (pages : List (List ℕ)) (free : List ℕ) → Facts c h k found pages
    → making_first found (present k) pages free ≡ releasing_first (present h) pages free
making_is h k c found pages free facts =
    making_as found (length (rollback_of (present h))) (present k) pages free (found_names found (present k) pages facts.is) facts.counted
    ∙ ap (λ (content : Content). making_first (found_in (length (rollback_of (present h))) pages) content pages free) facts.rolled

-- `release` made all, or refused
release_all : (db : List ℕ) (h k : History) (found : Recovered) (pages : List (List ℕ)) (new : Option History) → Facts (commands.Release db) h k found pages
    → MakesOwn (commands.Release db) found (Some k) new (present k) pages → MakesAll (commands.Release db) (Some h) new
release_all db h k found pages new facts makes = go (are_sound pages) refl makes
  where
    go : (b : Bool) → are_sound pages ≡ b → Whether b ((count : ℕ) × IsWhole found pages (making_first found (present k) pages) (Some k) new count) (new ≡ Some k)
        → MakesAll (commands.Release db) (Some h) new
    go true sound (count, whole) =
        let names = found_names found (present k) pages facts.is in
        let those = moved found (found_in 0 pages) pages whole.free names.size names.rest names.count whole.released_are in
        own_all (commands.Release db) h k found pages new whole.free (making_first found (present k) pages whole.free) facts
        (rw sound those) (rw sound (making_is h k (commands.Release db) found pages whole.free facts)) whole.made
    go false sound same =
        own_all (commands.Release db) h k found pages new [] [] facts (rw sound tt) (rw sound refl)
        (subst (λ (n : Option History). Adds (Some k) n no_made) (sym same) (adds_nothing (Some k)))

-- the files at last
release_settled : (db : List ℕ) (h k : History) (found : Recovered) (pages : List (List ℕ)) (j : History) → Facts (commands.Release db) h k found pages
    → MakesOwn (commands.Release db) found (Some k) (Some j) (present k) pages → HoldsLast (commands.Release db) pages (present j)
release_settled db h k found pages j facts makes = go (are_sound pages) refl makes
  where
    go : (b : Bool) → are_sound pages ≡ b → Whether b ((count : ℕ) × IsWhole found pages (making_first found (present k) pages) (Some k) (Some j) count) (Some j ≡ Some k)
        → HoldsLast (commands.Release db) pages (present j)
    go true sound (count, whole) =
        let names = found_names found (present k) pages facts.is in
        let those = moved found (found_in 0 pages) pages whole.free names.size names.rest names.count whole.released_are in
        let later = released_as found 0 pages whole.free names in
        record {
          later = released found pages whole.free;
          left = rw sound (record { free = whole.free; released_are = those; later_is = later });
          found = found_in 0 (released found pages whole.free);
          is = idle_found found.page_size (present j) (released found pages whole.free) facts.headed facts.quiet whole.idle;
        }
    go false sound same = record {
      later = pages;
      left = rw sound refl;
      found = found;
      is = let one : j ≡ k = cc in subst (λ (i : History). IsFound found (present i) pages) (sym one) facts.is;
    }

-- `prepare` made all, or refused
preparing_is : (db : List ℕ) (lists : ℕ) (h k : History) (found : Recovered) (pages : List (List ℕ)) (free : List ℕ) → Facts (commands.Prepare db lists) h k found pages
    → making_and_preparing found lists (present k) pages free ≡ preparing_first lists (present h) pages free
preparing_is db lists h k found pages free facts =
    server.making_as found (length (rollback_of (present h))) lists (present k) pages free (found_names found (present k) pages facts.is) facts.counted
    ∙ ap (λ (content : Content). making_and_preparing (found_in (length (rollback_of (present h))) pages) lists content pages free) facts.rolled

prepare_all : (db : List ℕ) (lists : ℕ) (h k : History) (found : Recovered) (pages : List (List ℕ)) (new : Option History) → Facts (commands.Prepare db lists) h k found pages
    → MakesOwn (commands.Prepare db lists) found (Some k) new (present k) pages → MakesAll (commands.Prepare db lists) (Some h) new
prepare_all db lists h k found pages new facts makes = go (are_preparing lists pages) refl makes
  where
    go : (b : Bool) → are_preparing lists pages ≡ b
        → Whether b ((count : ℕ) × IsAllPrepared found lists pages (making_and_preparing found lists (present k) pages) (Some k) new count) (new ≡ Some k)
        → MakesAll (commands.Prepare db lists) (Some h) new
    go true writing (count, whole) =
        own_all (commands.Prepare db lists) h k found pages new whole.free (making_and_preparing found lists (present k) pages whole.free) facts
        (rw writing (server.in_found found lists pages whole.free (found_names found (present k) pages facts.is) whole.prepared_are))
        (rw writing (preparing_is db lists h k found pages whole.free facts)) whole.made
    go false writing same =
        own_all (commands.Prepare db lists) h k found pages new [] [] facts (rw writing tt) (rw writing refl)
        (subst (λ (n : Option History). Adds (Some k) n no_made) (sym same) (adds_nothing (Some k)))

-- the files at last
prepare_settled : (db : List ℕ) (lists : ℕ) (h k : History) (found : Recovered) (pages : List (List ℕ)) (j : History) → Facts (commands.Prepare db lists) h k found pages
    → MakesOwn (commands.Prepare db lists) found (Some k) (Some j) (present k) pages → HoldsLast (commands.Prepare db lists) pages (present j)
prepare_settled db lists h k found pages j facts makes = go (are_preparing lists pages) refl makes
  where
    go : (b : Bool) → are_preparing lists pages ≡ b
        → Whether b ((count : ℕ) × IsAllPrepared found lists pages (making_and_preparing found lists (present k) pages) (Some k) (Some j) count) (Some j ≡ Some k)
        → HoldsLast (commands.Prepare db lists) pages (present j)
    go true writing (count, whole) =
        let names = found_names found (present k) pages facts.is in
        let those = server.in_found found lists pages whole.free names whole.prepared_are in
        let later = server.prepared_as found lists pages whole.free names in
        record {
          later = prepared found lists pages whole.free;
          left = rw writing (record { free = whole.free; prepared_are = those; later_is = later });
          found = found_in 0 (prepared found lists pages whole.free);
          is = idle_found found.page_size (present j) (prepared found lists pages whole.free) facts.headed facts.quiet whole.idle;
        }
    go false writing same = record {
      later = pages;
      left = rw writing refl;
      found = found;
      is = let one : j ≡ k = cc in subst (λ (i : History). IsFound found (present i) pages) (sym one) facts.is;
    }

reads_settled : (c : Command) (pages : List (List ℕ)) (found : Recovered) (now : Content) → only_reads c ≡ true → IsFound found now pages → HoldsLast c pages now
reads_settled (commands.Rows db table) pages found now reads is = record { later = pages; left = refl; found = found; is = is }
reads_settled (commands.Check db) pages found now reads is = record { later = pages; left = refl; found = found; is = is }
reads_settled (commands.Prepare db lists) pages found now reads is = absurd cc
reads_settled (commands.Release db) pages found now reads is = absurd cc
reads_settled (commands.Run db scripts workers retries slots) pages found now reads is = absurd cc
reads_settled (commands.Work db seed count) pages found now reads is = absurd cc

-- what was made behind recovery is all of it
whole_for : (c : Command) (h k : History) (found : Recovered) (pages : List (List ℕ)) (new : Option History) → Facts c h k found pages
    → MakesOwn c found (Some k) new (present k) pages → MakesAll c (Some h) new
whole_for (commands.Rows db table) h k found pages new facts same =
    subst (MakesAll (commands.Rows db table) (Some h)) (sym same) (reads_all (commands.Rows db table) h k found pages refl facts)
whole_for (commands.Check db) h k found pages new facts same =
    subst (MakesAll (commands.Check db) (Some h)) (sym same) (reads_all (commands.Check db) h k found pages refl facts)
whole_for (commands.Release db) h k found pages new facts makes = release_all db h k found pages new facts makes
whole_for (commands.Prepare db lists) h k found pages new facts makes = prepare_all db lists h k found pages new facts makes
whole_for (commands.Run db scripts workers retries slots) h k found pages new facts makes = absurd (let built = facts.built in cc)
whole_for (commands.Work db seed count) h k found pages new facts makes = absurd (let built = facts.built in cc)

held_for : (c : Command) (h k : History) (found : Recovered) (pages : List (List ℕ)) (j : History) → Facts c h k found pages
    → MakesOwn c found (Some k) (Some j) (present k) pages → HoldsLast c pages (present j)
held_for (commands.Rows db table) h k found pages j facts same =
    reads_settled (commands.Rows db table) pages found (present j) refl (let one : j ≡ k = cc in subst (λ (i : History). IsFound found (present i) pages) (sym one) facts.is)
held_for (commands.Check db) h k found pages j facts same =
    reads_settled (commands.Check db) pages found (present j) refl (let one : j ≡ k = cc in subst (λ (i : History). IsFound found (present i) pages) (sym one) facts.is)
held_for (commands.Release db) h k found pages j facts makes = release_settled db h k found pages j facts makes
held_for (commands.Prepare db lists) h k found pages j facts makes = prepare_settled db lists h k found pages j facts makes
held_for (commands.Run db scripts workers retries slots) h k found pages j facts makes = absurd (let built = facts.built in cc)
held_for (commands.Work db seed count) h k found pages j facts makes = absurd (let built = facts.built in cc)

settled_for : (c : Command) (h k : History) (found : Recovered) (pages : List (List ℕ)) (new : Option History) → Facts c h k found pages
    → MakesOwn c found (Some k) new (present k) pages → Settles c (Some h) new
settled_for c h k found pages None facts makes = tt
settled_for c h k found pages (Some j) facts makes = λ others recovers.
    subst (λ (ps : List (List ℕ)). Whether (is_wanted (want_of c) (header_in ps)) (HoldsLast c ps (present j)) (Unit {0}))
    (ok_same pages others (recovered (present h)) facts.recovers recovers)
    (subst (λ (b : Bool). Whether b (HoldsLast c pages (present j)) (Unit {0})) (sym facts.wanted) (held_for c h k found pages j facts makes))

-- some of a command's own operations are a part of all
some_of : (c : Command) (h k : History) (found : Recovered) (pages : List (List ℕ)) (added : List Operation) → Facts c h k found pages
    → AreSomeOwn c found (present k) pages added → ArePartOf c (present h) (rollback_of (present h) ++ added)
some_of c h k found pages added facts some = by_command c facts some
  where
    none_added : (c : Command) → Facts c h k found pages → added ≡ [] → ArePartOf c (present h) (rollback_of (present h) ++ added)
    none_added c facts none =
        part_of c (present h) (rollback_of (present h) ++ added) facts.built
        (subst (IsCut (rollback_of (present h))) (sym (ap (λ (ops : List Operation). rollback_of (present h) ++ ops) none ∙ append-nil (rollback_of (present h))))
        (cut_all (rollback_of (present h))))

    over_own : (c : Command) → Facts c h k found pages → (free : List ℕ) (own : List Operation) → AreOwn c (present h) pages free own
        → AreOwnOver c (present h) free (recovered (present h)) own
    over_own c facts free own owned =
        subst (λ (r : Recovery). AreOwnOver c (present h) free r own) (sym facts.recovers)
        (subst (λ (b : Bool). Whether b (AreOwn c (present h) pages free own) (own ≡ [])) (sym facts.wanted) owned)

    own_begun : (c : Command) → Facts c h k found pages → (free : List ℕ) (own : List Operation) → AreOwn c (present h) pages free own → IsCut own added
        → ArePartOf c (present h) (rollback_of (present h) ++ added)
    own_begun c facts free own owned front = record {
      made = rollback_of (present h) ++ own;
      free = free;
      of = built_operations c (present h) free (rollback_of (present h) ++ own) facts.built (record { own = own; owned = over_own c facts free own owned; both = refl });
      part = cut_behind (rollback_of (present h)) own added front;
    }

    begun : (db : List ℕ) → Facts (commands.Release db) h k found pages → are_sound pages ≡ true → (part : IsPart found (present k) pages (making_first found (present k) pages) added)
        → ArePartOf (commands.Release db) (present h) (rollback_of (present h) ++ added)
    begun db facts sound part =
        own_begun (commands.Release db) facts part.free (making_first found (present k) pages part.free)
        (rw sound (making_is h k (commands.Release db) found pages part.free facts)) part.front

    prepare_begun : (db : List ℕ) (lists : ℕ) → Facts (commands.Prepare db lists) h k found pages → are_preparing lists pages ≡ true
        → (part : IsPartPrepared found lists (present k) pages (making_and_preparing found lists (present k) pages) added)
        → ArePartOf (commands.Prepare db lists) (present h) (rollback_of (present h) ++ added)
    prepare_begun db lists facts writing part =
        own_begun (commands.Prepare db lists) facts part.free (making_and_preparing found lists (present k) pages part.free)
        (rw writing (preparing_is db lists h k found pages part.free facts)) part.front

    by_command : (c : Command) → Facts c h k found pages → AreSomeOwn c found (present k) pages added → ArePartOf c (present h) (rollback_of (present h) ++ added)
    by_command (commands.Rows db table) facts none = none_added (commands.Rows db table) facts none
    by_command (commands.Check db) facts none = none_added (commands.Check db) facts none
    by_command (commands.Prepare db lists) facts some = ⊎_elim
        (λ (none : added ≡ []). none_added (commands.Prepare db lists) facts none)
        (λ (both : (are_preparing lists pages ≡ true) × IsPartPrepared found lists (present k) pages (making_and_preparing found lists (present k) pages) added).
        prepare_begun db lists facts both.0 both.1)
        some
    by_command (commands.Release db) facts some = ⊎_elim
        (λ (none : added ≡ []). none_added (commands.Release db) facts none)
        (λ (both : (are_sound pages ≡ true) × IsPart found (present k) pages (making_first found (present k) pages) added). begun db facts both.0 both.1)
        some
    by_command (commands.Run db scripts workers retries slots) facts none = none_added (commands.Run db scripts workers retries slots) facts none
    by_command (commands.Work db seed count) facts none = none_added (commands.Work db seed count) facts none

part_for : (c : Command) (h k : History) (found : Recovered) (pages : List (List ℕ)) (new : Option History) → Facts c h k found pages
    → AddsSome (Some k) new (AreSomeOwn c found (present k) pages) → MakesPart c (Some h) new
part_for c h k found pages new facts some = record {
  made = rollback_of (present h) ++ some.made;
  adds = adds_both (Some h) (Some k) new (rollback_of (present h)) some.made facts.more some.adds;
  holds = some_of c h k found pages some.made facts some.holds;
}

-- where memory ran out behind recovery
memory_for : (c : Command) (h k : History) (found : Recovered) (pages : List (List ℕ)) (new : Option History) → Facts c h k found pages
    → MakesPart c (Some h) new → MakesFirst c (Some k) new → MakesSome c (Some h) new
memory_for (commands.Rows db table) h k found pages new facts part same = inr (whole_for (commands.Rows db table) h k found pages new facts same)
memory_for (commands.Check db) h k found pages new facts part same = inr (whole_for (commands.Check db) h k found pages new facts same)
memory_for (commands.Release db) h k found pages new facts part (inl same) = inr (inr (record {
  made = rollback_of (present h);
  adds = subst (λ (n : Option History). Adds (Some h) n (rollback_of (present h))) (sym same) facts.more;
  holds = inl refl;
}))
memory_for (commands.Release db) h k found pages new facts part (inr adds) = inr (inr (record {
  made = rollback_of (present h) ++ makings (absent_journals (present k));
  adds = adds_both (Some h) (Some k) new (rollback_of (present h)) (makings (absent_journals (present k))) facts.more adds;
  holds = inr (ap (λ (content : Content). rollback_of (present h) ++ makings (absent_journals content)) facts.rolled);
}))
memory_for (commands.Prepare db lists) h k found pages new facts part makes = part
memory_for (commands.Run db scripts workers retries slots) h k found pages new facts part makes = absurd (let built = facts.built in cc)
memory_for (commands.Work db seed count) h k found pages new facts part makes = absurd (let built = facts.built in cc)

untold_some : (c : Command) (new : Option History) → MakesSome c None new
untold_some (commands.Rows db table) new = inr tt
untold_some (commands.Check db) new = inr tt
untold_some (commands.Prepare db lists) new = tt
untold_some (commands.Release db) new = inr (inl tt)
untold_some (commands.Run db scripts workers retries slots) new = inr tt
untold_some (commands.Work db seed count) new = inr tt

untold_for : (c : Command) (new : Option History) (outcome : Outcome) → IsMadeFor c None new outcome
untold_for c new (outcomes.Answered reply) = record { part = tt; whole = tt; settled = λ built. tt }
untold_for c new outcomes.DiskFailed = record { part = tt; whole = tt; settled = λ built. tt }
untold_for c new outcomes.NoMemory = record { part = tt; whole = untold_some c new; settled = λ built. tt }

-- the files were rolled back, and the command did its own over their pages
pub rolled_for : (c : Command) (old mid new : Option History) (found : Recovered) (outcome : Outcome) → is_built c ≡ true → RecoveredAreHeaded → QuietIsWhole
    → IfTold old (λ content. HasPages content found.pages) → IfTold old (λ content. is_wanted (want_of c) (recovered_header content) ≡ true)
    → MakesCounted old mid (λ content. rule_of content found.pages) found.ops
    → IfBothTold old mid (λ content now. (pages : List (List ℕ)) → recovered content ≡ Ok pages → IsFound found now pages)
    → IsOwnFor c found mid new outcome → IsMadeFor c old new outcome
rolled_for c None mid new found outcome built headed quiet has wanted made settled own = untold_for c new outcome
rolled_for c (Some h) mid new found outcome built headed quiet has wanted made settled own =
    by_outcome outcome (subst (λ (m : Option History). IsOwnFor c found m new outcome) mid_is own)
  where
    rule : List Operation
    rule = rollback_of (present h)

    mid_is : mid ≡ Some (more h (rollback_of (present h)))
    mid_is = made.adds ∙ ap (λ (ops : List Operation). Some (more h ops)) (sym (rule_is (present h) found.pages has))

    there : IsFound found (present (more h (rollback_of (present h)))) has.pages
    there = (subst (λ (m : Option History). IfBothTold (Some h) m (λ content now. (pages : List (List ℕ)) → recovered content ≡ Ok pages → IsFound found now pages)) mid_is settled)
        has.pages has.recovers

    facts : Facts c h (more h (rollback_of (present h))) found has.pages
    facts = record {
      built = built;
      headed = headed;
      quiet = quiet;
      recovers = has.recovers;
      wanted = wanted_true (present h) has.pages (want_of c) headed has.recovers wanted;
      more = refl;
      counted = made.count ∙ ap length (sym (rule_is (present h) found.pages has));
      rolled = present_more h (rollback_of (present h));
      is = there;
    }

    by_outcome : (o : Outcome) → IsOwnFor c found (Some (more h (rollback_of (present h)))) new o → IsMadeFor c (Some h) new o
    by_outcome (outcomes.Answered reply) own = record {
      part = part_for c h (more h (rollback_of (present h))) found has.pages new facts (own.part has.pages there);
      whole = whole_for c h (more h (rollback_of (present h))) found has.pages new facts (own.whole has.pages there);
      settled = λ is. settled_for c h (more h (rollback_of (present h))) found has.pages new facts (own.whole has.pages there);
    }
    by_outcome outcomes.DiskFailed own = disk_failed c (Some h) new (part_for c h (more h (rollback_of (present h))) found has.pages new facts (own.part has.pages there))
    by_outcome outcomes.NoMemory own =
        let part = part_for c h (more h (rollback_of (present h))) found has.pages new facts (own.part has.pages there) in
        no_memory c (Some h) new part (memory_for c h (more h (rollback_of (present h))) found has.pages new facts part own.whole)

refused_with : (told : Option History) (fault : RecoverFault) → IfTold told (λ content. recovered content ≡ Err fault) → IfTold told IsUnrecovered
refused_with None fault is = tt
refused_with (Some h) fault is = ap is_refused is

-- nothing was done, as the recovered pages are not such as the command wants
unwanted_for : (c : Command) (told new : Option History) → is_built c ≡ true → RecoveredAreHeaded → new ≡ told → IfTold told (IsRefusal (want_of c) refusals.NotPrepared)
    → IsMadeFor c told new (outcomes.Answered (replies.Refused refusals.NotPrepared))
unwanted_for c told new built headed same why =
    subst (λ (n : Option History). IsMadeFor c told n (outcomes.Answered (replies.Refused refusals.NotPrepared))) (sym same)
    (record { part = part_none c told; whole = whole told why; settled = λ is. settled told why })
  where
    whole : (told : Option History) → IfTold told (IsRefusal (want_of c) refusals.NotPrepared) → MakesAll c told told
    whole None why = tt
    whole (Some h) why = record {
      made = [];
      adds = adds_nothing (Some h);
      holds = unwanted_of c (present h) why.pages.pages why.pages.recovers
          (wanted_false (present h) why.pages.pages (want_of c) headed why.pages.recovers why.unwanted);
    }

    settled : (told : Option History) → IfTold told (IsRefusal (want_of c) refusals.NotPrepared) → Settles c told told
    settled None why = tt
    settled (Some h) why = λ pages recovers.
        subst (λ (b : Bool). Whether b (HoldsLast c pages (present h)) (Unit {0}))
        (sym (wanted_false (present h) pages (want_of c) headed recovers why.unwanted)) tt

-- recovery refused, or broke off
pub refused_for_all : (c : Command) (old new : Option History) (fault : RecoverFault) → is_built c ≡ true → RecoveredAreHeaded → IfTold old (IsRefusal (want_of c) fault)
    → (IsPlain fault → new ≡ old) → MakesCut old new rollback_of → IsMadeFor c old new (outcome_of (refused_for fault))
refused_for_all c old new refusals.Disk built headed why same cut = disk_failed c old new (part_cut c old new built cut)
refused_for_all c old new refusals.Memory built headed why same cut = no_memory c old new (part_cut c old new built cut) (unmade c old new (same tt))
refused_for_all c old new (refusals.Header fault) built headed why same cut =
    nothing_for c old new (replies.Refused (refusals.Header fault)) built (same tt) (refused_with old (refusals.Header fault) why)
refused_for_all c old new (refusals.JournalPage id size) built headed why same cut =
    nothing_for c old new (replies.Refused (refusals.JournalPage id size)) built (same tt) (refused_with old (refusals.JournalPage id size) why)
refused_for_all c old new (refusals.Overlap page a b) built headed why same cut =
    nothing_for c old new (replies.Refused (refusals.Overlap page a b)) built (same tt) (refused_with old (refusals.Overlap page a b) why)
refused_for_all c old new (refusals.TooLarge pages) built headed why same cut =
    nothing_for c old new (replies.Refused (refusals.TooLarge pages)) built (same tt) (refused_with old (refusals.TooLarge pages) why)
refused_for_all c old new (refusals.ShortFile pages bytes) built headed why same cut =
    nothing_for c old new (replies.Refused (refusals.ShortFile pages bytes)) built (same tt) (refused_with old (refusals.ShortFile pages bytes) why)
refused_for_all c old new refusals.NotPrepared built headed why same cut =
    unwanted_for c old new built headed (same tt) why

-- attaching did nothing
pub attached_for : (c : Command) (told mid new : Option History) (outcome other : Outcome) → mid ≡ told → other ≡ outcome → IsMadeFor c mid new outcome
    → IsMadeFor c told new other
attached_for c told mid new outcome other same is made =
    subst (λ (o : Outcome). IsMadeFor c told new o) (sym is) (subst (λ (t : Option History). IsMadeFor c t new outcome) same made)

-- there is one command that the words ask for
pub asked_for : (words : List (List ℕ)) (command : Command) (old new : Option History) (outcome : Outcome) → ((d : Command) → AskFor words d → d ≡ command)
    → IsMadeFor command old new outcome → (c : Command) → AskFor words c → IsMadeFor c old new outcome
asked_for words command old new outcome only made c asked = subst (λ (k : Command). IsMadeFor k old new outcome) (sym (only c asked)) made
