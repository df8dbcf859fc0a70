-- What a stop leaves of a command's operations.
use Rattle.std.proofs.Common.{◌≡◌, ℕ, List, [], ◌∷◌, ◌++◌, Bool, true, Option, Some, None, Ok, refl, sym, ap, ◌∙◌, subst, inl, inr, ⊎_elim}
use Rattle.std.specs.Prelude.{◌⊎◌}
use Rattle.spe_model.specs.declared.recovery.Recovered.{Recovered}
use Rattle.spe_model.specs.Content.{Content}
use Rattle.spe_model.specs.Covered.{Covered, Recovers}
use Rattle.spe_model.specs.Database.{Database}
use Rattle.spe_model.specs.Recovery.{recovered, recovered_header}
use Rattle.spe_model.specs.Rollback.{rule_of}
use Rattle.spe_model.specs.Settled.{IsFound, IsWithinLimits, KeepsPages, LeavesPages, header_in}
use Rattle.spe_model.specs.Standing.{Whether}
use Rattle.spe_model.specs.Trace.{Operation, History, IsCut, after, present}
use Rattle.spe_crash.specs.Pages.{RecoveredAreHeaded}
use Rattle.spe_disk.specs.Told.{Adds}
use Rattle.spe_recover.specs.Recovered.{HasPages, is_wanted}
use Rattle.spe_recover.specs.Written.{MakesCounted}
use Rattle.spe_disk.specs.Added.{AddsSome, IfBothTold, IfTold, IfTold as IfHeld}
use Rattle.spe_convert.specs.Prepare.{ArePrepared, CountKept, IsPartPrepared, making_and_preparing, prepared, prepared_count, with_count}
use Rattle.spe_convert.specs.Release.{AreFound, AreReleased, IsPart, WhereFound, making_first, released}
use Rattle.spe_verdict.specs.Law.{StandsIsTrue}
use Rattle.spe_words.specs.declared.command.Command.{Command}
use Rattle.spe_words.specs.declared.command.Command.TheVariants as commands
use Rattle.spe_words.specs.Grammar.{AskFor}
use Rattle.spe_serve.specs.declared.outcome.Outcome.{Outcome}
use Rattle.spe_serve.specs.Answer.{want_of}
use Rattle.spe_serve.specs.Behind.{AreSomeOwn, IsOwnFor}
use Rattle.spe_serve.specs.Own.{AreOldOrNew, HasWritten, IsInServerForm, KeepsPagesOf, LeavesPagesFor, LeavesPagesOf, StandForSame, StandOver, are_preparing, are_sound, found_in}
use Rattle.spe_serve.proofs.BehindLemmas.{found_stands, stands_in}
use Rattle.spe_serve.proofs.FileLemmas.{wanted_true}
use Rattle.spe_serve.proofs.FormLemmas.{sound_preparing}
use Rattle.spe_serve.proofs.ServerLemmas.{counted_as, counted_same, in_found, prepared_as}
use Rattle.spe_serve.proofs.StockLemmas.{found_names, moved, released_as, stand_same}
use Rattle.spe_serve.proofs.TraceLemmas.{adds_both, adds_nothing, cut_all, cut_either, after_both, covered_both, more, present_more}

-- the recovered pages are those before
pub old_pages : (c : Command) (content now : Content) → recovered now ≡ recovered content → AreOldOrNew c content now
old_pages (commands.Rows db table) content now same = same
old_pages (commands.Check db) content now same = same
old_pages (commands.Prepare db lists) content now same = inl same
old_pages (commands.Release db) content now same = inl same
old_pages (commands.Run db scripts workers retries slots) content now same = same
old_pages (commands.Work db seed count) content now same = same

-- a command that leaves all recovered pages as before
pub kept_of : (c : Command) (old new : Option History) → LeavesPages old new → LeavesPagesOf c old new
kept_of c None new leaves = tt
kept_of c (Some h) new leaves = record {
  made = leaves.made;
  adds = leaves.adds;
  covered = leaves.covered;
  stops = λ cut is. old_pages c (present h) (after (present h) cut) (leaves.stops cut is);
}

only_none : (content : Content) (cut : List Operation) → IsCut [] cut → recovered (after content cut) ≡ recovered content
only_none content [] part = refl
only_none content (o ∷ os) part = absurd part

keeps_same : (h : History) → KeepsPages h (Some h)
keeps_same h = record { made = []; adds = adds_nothing (Some h); covered = tt; stops = only_none (present h) }

leaves_same : (told new : Option History) → new ≡ told → LeavesPages told new
leaves_same None new same = tt
leaves_same (Some h) new same = subst (KeepsPages h) (sym same) (keeps_same h)

-- nothing was done
pub same_of : (c : Command) (told new : Option History) → new ≡ told → LeavesPagesOf c told new
same_of c told new same = kept_of c told new (leaves_same told new same)

pub unbuilt_leaves : (c : Command) (told : Option History) → LeavesPagesOf c told told
unbuilt_leaves c told = same_of c told told refl

pub same_for : (words : List (List ℕ)) (told new : Option History) → new ≡ told → LeavesPagesFor words told new
same_for words None new same = tt
same_for words (Some h) new same =
    let leaves = subst (KeepsPages h) (sym same) (keeps_same h) in
    record {
      made = leaves.made;
      adds = leaves.adds;
      covered = leaves.covered;
      stops = λ cut is. record {
        asked = λ c asked. old_pages c (present h) (after (present h) cut) (leaves.stops cut is);
        unasked = λ none. leaves.stops cut is;
      };
    }

-- there is one command that the words ask for
pub asked_leaves : (words : List (List ℕ)) (command : Command) (told new : Option History) → AskFor words command → ((d : Command) → AskFor words d → d ≡ command)
    → LeavesPagesOf command told new → LeavesPagesFor words told new
asked_leaves words command None new asked only leaves = tt
asked_leaves words command (Some h) new asked only leaves = record {
  made = leaves.made;
  adds = leaves.adds;
  covered = leaves.covered;
  stops = λ cut is. record {
    asked = λ c its. subst (λ (k : Command). AreOldOrNew k (present h) (after (present h) cut)) (sym (only c its)) (leaves.stops cut is);
    unasked = λ none. absurd (none command asked);
  };
}

pub attached_leaves : (c : Command) (told mid new : Option History) → mid ≡ told → LeavesPagesOf c mid new → LeavesPagesOf c told new
attached_leaves c told mid new same leaves = subst (λ (t : Option History). LeavesPagesOf c t new) same leaves

-- behind recovery, what a stop leaves of the command's own operations
abbrev StopsOwn : Command → (content : Content) → (own : List Operation) → Type 0
StopsOwn c content own = (base : Content) → recovered content ≡ recovered base → (rest : List Operation) → IsCut own rest → AreOldOrNew c base (after content rest)

-- all facts on the recovered pages at hand
record Facts (c : Command) (found : Recovered) (content : Content) (pages : List (List ℕ)) : Type 0 where
  headed : RecoveredAreHeaded
  law : StandsIsTrue
  limits : IsWithinLimits found
  is : IsFound found content pages
  wanted : is_wanted (want_of c) (header_in pages) ≡ true

nothing_stops : (c : Command) (content : Content) (own : List Operation) → own ≡ [] → StopsOwn c content own
nothing_stops c content own none = λ base same rest is.
    old_pages c base (after content rest) (only_none content rest (subst (λ (o : List Operation). IsCut o rest) none is) ∙ same)

written : (db : List ℕ) (found : Recovered) (content base now : Content) (pages : List (List ℕ)) (free : List ℕ) → Facts (commands.Release db) found content pages
    → are_sound pages ≡ true → recovered content ≡ recovered base → AreReleased found pages free → Recovers now (released found pages free)
    → HasWritten (commands.Release db) base now
written db found content base now pages free facts sound same are recovers =
    let names = found_names found content pages facts.is in
    let those = moved found (found_in 0 pages) pages free names.size names.rest names.count are in
    let later = released_as found 0 pages free names in
    let stands = stands_in found content pages facts.law facts.limits facts.is sound in
    record {
      pages = pages;
      recovers = sym same ∙ facts.is.recovers;
      wanted = facts.wanted;
      writing = sound;
      later = released (found_in 0 pages) pages free;
      left = inr (rw sound (record { free = free; released_are = those; later_is = refl }));
      recovers_later = recovers ∙ ap Ok later;
      same = same_for_stock pages free stands.0 stands.1 those;
    }
  where
    same_for_stock : (pages : List (List ℕ)) (free : List ℕ) (db : Database) (stands : StandOver pages db) (are : AreReleased (found_in 0 pages) pages free)
        → StandForSame pages (released (found_in 0 pages) pages free)
    same_for_stock pages free db stands are = stand_same 0 pages (released (found_in 0 pages) pages free) free db stands (are.keep db stands)

release_stops : (db : List ℕ) (found : Recovered) (content : Content) (pages : List (List ℕ)) (own : List Operation) → Facts (commands.Release db) found content pages
    → are_sound pages ≡ true → IsPart found content pages (making_first found content pages) own → StopsOwn (commands.Release db) content own
release_stops db found content pages own facts sound part = λ base same rest is. ⊎_elim
    (λ (old : Recovers (after content rest) pages). inl (old ∙ sym facts.is.recovers ∙ same))
    (λ (new : AreReleased found pages part.free × Recovers (after content rest) (released found pages part.free)).
    inr (written db found content base (after content rest) pages part.free facts sound same new.0 new.1))
    (part.stops rest is)

-- a transaction of `prepare` was made whole
abbrev ServerAt : (lists : ℕ) (pages later : List (List ℕ)) → Bool → Type 0
ServerAt lists pages later b = Whether b (IsInServerForm lists pages later) (later ≡ pages)

prepared_written : (db : List ℕ) (lists : ℕ) (found : Recovered) (content base now : Content) (pages : List (List ℕ)) (free : List ℕ)
    → Facts (commands.Prepare db lists) found content pages → are_sound pages ≡ true → are_preparing lists pages ≡ true → recovered content ≡ recovered base
    → ArePrepared found lists pages free → Recovers now (prepared found lists pages free) → HasWritten (commands.Prepare db lists) base now
prepared_written db lists found content base now pages free facts sound writing same are recovers =
    let names = found_names found content pages facts.is in
    let later = prepared_as found lists pages free names in
    let stands = stands_in found content pages facts.law facts.limits facts.is sound in
    let kept = are.keep stands.0 (found_stands found content pages stands.0 facts.is stands.1) in
    record {
      pages = pages;
      recovers = sym same ∙ facts.is.recovers;
      wanted = facts.wanted;
      writing = writing;
      later = prepared (found_in 0 pages) lists pages free;
      left = inr (subst (ServerAt lists pages (prepared (found_in 0 pages) lists pages free)) (sym writing)
          (record { free = free; prepared_are = in_found found lists pages free names are; later_is = refl }));
      recovers_later = recovers ∙ ap Ok later;
      same = subst (StandForSame pages) later (counted_same found (prepared_count found lists free) pages (prepared found lists pages free) stands.0 stands.1 kept.is);
    }

counted_written : (db : List ℕ) (lists : ℕ) (found : Recovered) (content base now : Content) (pages : List (List ℕ))
    → Facts (commands.Prepare db lists) found content pages → are_sound pages ≡ true → are_preparing lists pages ≡ true → recovered content ≡ recovered base
    → CountKept found pages → Recovers now (with_count found pages) → HasWritten (commands.Prepare db lists) base now
counted_written db lists found content base now pages facts sound writing same kept recovers =
    let names = found_names found content pages facts.is in
    let later = counted_as found pages names in
    let stands = stands_in found content pages facts.law facts.limits facts.is sound in
    record {
      pages = pages;
      recovers = sym same ∙ facts.is.recovers;
      wanted = facts.wanted;
      writing = writing;
      later = with_count (found_in 0 pages) pages;
      left = inl refl;
      recovers_later = recovers ∙ ap Ok later;
      same = subst (StandForSame pages) later
          (counted_same found found.pages pages (with_count found pages) stands.0 stands.1 (kept stands.0 (found_stands found content pages stands.0 facts.is stands.1)));
    }

prepare_stops : (db : List ℕ) (lists : ℕ) (found : Recovered) (content : Content) (pages : List (List ℕ)) (own : List Operation)
    → Facts (commands.Prepare db lists) found content pages → are_preparing lists pages ≡ true
    → IsPartPrepared found lists content pages (making_and_preparing found lists content pages) own → StopsOwn (commands.Prepare db lists) content own
prepare_stops db lists found content pages own facts writing part = λ base same rest is. ⊎_elim
    (λ (old : Recovers (after content rest) pages). inl (old ∙ sym facts.is.recovers ∙ same))
    (λ (new : Recovers (after content rest) (with_count found pages) ⊎ Recovers (after content rest) (prepared found lists pages part.free)). inr (⊎_elim
    (λ (counted : Recovers (after content rest) (with_count found pages)).
    counted_written db lists found content base (after content rest) pages facts (sound_preparing lists pages writing) writing same part.count_kept counted)
    (λ (all : Recovers (after content rest) (prepared found lists pages part.free)).
    prepared_written db lists found content base (after content rest) pages part.free facts (sound_preparing lists pages writing) writing same part.prepared_are all)
    new))
    (part.stops rest is)

own_stops : (c : Command) (found : Recovered) (content : Content) (pages : List (List ℕ)) (own : List Operation) → Facts c found content pages
    → AreSomeOwn c found content pages own → StopsOwn c content own
own_stops (commands.Rows db table) found content pages own facts some = nothing_stops (commands.Rows db table) content own some
own_stops (commands.Check db) found content pages own facts some = nothing_stops (commands.Check db) content own some
own_stops (commands.Prepare db lists) found content pages own facts some = ⊎_elim
    (λ (none : own ≡ []). nothing_stops (commands.Prepare db lists) content own none)
    (λ (both : (are_preparing lists pages ≡ true) × IsPartPrepared found lists content pages (making_and_preparing found lists content pages) own).
    prepare_stops db lists found content pages own facts both.0 both.1)
    some
own_stops (commands.Release db) found content pages own facts some = ⊎_elim
    (λ (none : own ≡ []). nothing_stops (commands.Release db) content own none)
    (λ (both : (are_sound pages ≡ true) × IsPart found content pages (making_first found content pages) own).
    release_stops db found content pages own facts both.0 both.1)
    some
own_stops (commands.Run db scripts workers retries slots) found content pages own facts some = nothing_stops (commands.Run db scripts workers retries slots) content own some
own_stops (commands.Work db seed count) found content pages own facts some = nothing_stops (commands.Work db seed count) content own some

none_covered : (content : Content) (own : List Operation) → own ≡ [] → Covered content own
none_covered content own none = subst (Covered content) (sym none) tt

own_covered : (c : Command) (found : Recovered) (content : Content) (pages : List (List ℕ)) (own : List Operation) → AreSomeOwn c found content pages own → Covered content own
own_covered (commands.Rows db table) found content pages own some = none_covered content own some
own_covered (commands.Check db) found content pages own some = none_covered content own some
own_covered (commands.Prepare db lists) found content pages own some = ⊎_elim
    (λ (none : own ≡ []). none_covered content own none)
    (λ (both : (are_preparing lists pages ≡ true) × IsPartPrepared found lists content pages (making_and_preparing found lists content pages) own). both.1.covered)
    some
own_covered (commands.Release db) found content pages own some = ⊎_elim
    (λ (none : own ≡ []). none_covered content own none)
    (λ (both : (are_sound pages ≡ true) × IsPart found content pages (making_first found content pages) own). both.1.covered)
    some
own_covered (commands.Run db scripts workers retries slots) found content pages own some = none_covered content own some
own_covered (commands.Work db seed count) found content pages own some = none_covered content own some

-- recovery's operations and then these
both_keep : (c : Command) (h : History) (new : Option History) (rolled own : List Operation) → Adds (Some (more h rolled)) new own
    → Covered (present h) rolled → ((cut : List Operation) → IsCut rolled cut → recovered (after (present h) cut) ≡ recovered (present h))
    → Covered (present (more h rolled)) own → StopsOwn c (present (more h rolled)) own → KeepsPagesOf c h new
both_keep c h new rolled own adds covered kept own_are stops = record {
  made = rolled ++ own;
  adds = adds_both (Some h) (Some (more h rolled)) new rolled own refl adds;
  covered = covered_both (present h) rolled own covered (subst (λ (content : Content). Covered content own) (present_more h rolled) own_are);
  stops = λ cut is. ⊎_elim
      (λ (front : IsCut rolled cut). old_pages c (present h) (after (present h) cut) (kept cut front))
      (λ (behind : (rest : List Operation) × (cut ≡ rolled ++ rest) × IsCut own rest). by_rest cut behind.0 behind.1 behind.2)
      (cut_either rolled own cut is);
}
  where
    now_is : recovered (present (more h rolled)) ≡ recovered (present h)
    now_is = ap recovered (present_more h rolled) ∙ kept rolled (cut_all rolled)

    by_rest : (cut rest : List Operation) → cut ≡ rolled ++ rest → IsCut own rest → AreOldOrNew c (present h) (after (present h) cut)
    by_rest cut rest is part =
        subst (AreOldOrNew c (present h))
        (ap (λ (content : Content). after content rest) (present_more h rolled) ∙ sym (after_both (present h) rolled rest) ∙ ap (after (present h)) (sym is))
        (stops (present h) now_is rest part)

pub rolled_leaves : (c : Command) (old mid new : Option History) (found : Recovered) (outcome : Outcome) → RecoveredAreHeaded → StandsIsTrue → IsWithinLimits found
    → IfTold old (λ content. HasPages content found.pages) → IfTold old (λ content. is_wanted (want_of c) (recovered_header content) ≡ true)
    → IfBothTold old mid (λ content now. (pages : List (List ℕ)) → recovered content ≡ Ok pages → IsFound found now pages)
    → LeavesPages old mid → IsOwnFor c found mid new outcome → LeavesPagesOf c old new
rolled_leaves c None mid new found outcome headed law limits has wanted settled leaves own = tt
rolled_leaves c (Some h) mid new found outcome headed law limits has wanted settled leaves own = by_own (part there)
  where
    there : IsFound found (present (more h leaves.made)) has.pages
    there = (subst (λ (m : Option History). IfBothTold (Some h) m (λ content now. (pages : List (List ℕ)) → recovered content ≡ Ok pages → IsFound found now pages)) leaves.adds settled)
        has.pages has.recovers

    part : IsFound found (present (more h leaves.made)) has.pages → AddsSome (Some (more h leaves.made)) new (AreSomeOwn c found (present (more h leaves.made)) has.pages)
    part is = (subst (λ (m : Option History). WhereFound m found (λ content pages. AddsSome m new (AreSomeOwn c found content pages))) leaves.adds own.part) has.pages is

    facts : Facts c found (present (more h leaves.made)) has.pages
    facts = record {
      headed = headed;
      law = law;
      limits = limits;
      is = there;
      wanted = wanted_true (present h) has.pages (want_of c) headed has.recovers wanted;
    }

    by_own : AddsSome (Some (more h leaves.made)) new (AreSomeOwn c found (present (more h leaves.made)) has.pages) → KeepsPagesOf c h new
    by_own some =
        both_keep c h new leaves.made some.made some.adds leaves.covered leaves.stops
        (own_covered c found (present (more h leaves.made)) has.pages some.made some.holds)
        (own_stops c found (present (more h leaves.made)) has.pages some.made facts some.holds)

-- the files are those that were found
pub are_found : (old mid : Option History) (found : Recovered) → IfTold old (λ content. HasPages content found.pages)
    → IfBothTold old mid (λ content now. (pages : List (List ℕ)) → recovered content ≡ Ok pages → IsFound found now pages)
    → MakesCounted old mid (λ content. rule_of content found.pages) found.ops → IfHeld mid (AreFound found)
are_found None mid found has settled made = subst (λ (m : Option History). IfHeld m (AreFound found)) (sym made) tt
are_found (Some h) None found has settled made = tt
are_found (Some h) (Some k) found has settled made = record { pages = has.pages; is = settled has.pages has.recovers }
