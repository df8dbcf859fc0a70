-- The answers over the pages that recovery found in the files.
use Rattle.std.proofs.Common.{◌≡◌, ℕ, ◌-◌, List, take, Bool, true, false, Option, Some, None, Result, Ok, Err, IfErr, IfOk, IfSome, arith, refl, sym, ap, ◌∙◌, subst}
use Rattle.spe_model.specs.declared.header.Header.{Header}
use Rattle.spe_model.specs.declared.recovery.Recovered.{Recovered}
use Rattle.spe_model.specs.declared.recovery.RecoverFault.{RecoverFault}
use Rattle.spe_model.specs.declared.recovery.RecoverFault.TheVariants as refusals
use Rattle.spe_model.specs.Content.{Content}
use Rattle.spe_model.specs.Header.{header_of}
use Rattle.spe_model.specs.Paging.{Paging}
use Rattle.spe_model.specs.Recovery.{recovered, recovered_header}
use Rattle.spe_model.specs.Served.{usable_in}
use Rattle.spe_model.specs.Settled.{IsFound, LeavesPages, header_in, page_in}
use Rattle.spe_model.specs.Trace.{History, present}
use Rattle.spe_space.specs.Calls.{Reads, RefusesTree}
use Rattle.spe_space.specs.Found.{OnMissing}
use Rattle.spe_space.specs.Outcome.{IsInside}
use Rattle.spe_space.specs.declared.pages.Pages.{Ghosts}
use Rattle.spe_space.specs.declared.fault.SpaceFault.TheVariants.{Busy, Read, Stopped, Full, PageOut, Corrupt as Spoilt, Memory}
use Rattle.spe_space.specs.declared.fault.TreeFault.{TreeFault}
use Rattle.spe_space.specs.declared.fault.TreeFault.TheVariants.{Space, Corrupt}
use Rattle.spe_room.specs.Admits.{KeepsOwn}
use Rattle.spe_room.specs.Found.{GivesFound}
use Rattle.spe_room.specs.Held.{held_pages, told_pages}
use Rattle.spe_recover.specs.declared.want.Want.{Want}
use Rattle.spe_recover.specs.Recovered.{HasPages, IsRefusal, IsUnwanted, is_wanted}
use Rattle.spe_convert.specs.Release.{WhereFound}
use Rattle.spe_crash.specs.Pages.{RecoveredAreHeaded}
use Rattle.spe_disk.specs.Added.{IfBothTold, IfTold}
use Rattle.spe_words.specs.declared.command.Command.{Command}
use Rattle.spe_words.specs.declared.command.Command.TheVariants as commands
use Rattle.spe_serve.specs.declared.reply.Reply.{Reply}
use Rattle.spe_serve.specs.declared.reply.Reply.TheVariants as replies
use Rattle.spe_serve.specs.declared.failure.Failure.{Failure}
use Rattle.spe_serve.specs.Answer.{IsOfRecovery, IsOverFound, IsOverPages, IsOverRecovered, IsOverWanted, only_reads, want_of}
use Rattle.spe_serve.specs.Ending.{refused_for}
use Rattle.spe_serve.specs.Space.{AsksInside, HasFront, IsFaultAbout, Undamaged}
use Rattle.spe_serve.specs.Failure.{IsOwn, reply_or_failure}
use Rattle.spe_serve.specs.Reply.{IsAbout}

abbrev used_of : Recovered → ℕ
used_of found = found.page_size - found.reserved

abbrev first_of : Recovered → Content → Paging
first_of found content = page_in (held_pages found.page_size found.pages content)

used_is : (found : Recovered) (content : Content) (pages : List (List ℕ)) → IsFound found content pages → usable_in (header_in pages) ≡ used_of found
used_is found content pages is = rw (is.page_size, is.reserved) refl

found_front : (found : Recovered) (content : Content) (pages : List (List ℕ)) → GivesFound → IsFound found content pages
    → HasFront found.page_size (used_of found) (first_of found content)
found_front found content pages law is = record {
  header = header_in pages;
  legal = ap (λ (ps : List (List ℕ)). header_of (take 100 (page_in ps 1))) (law found content pages is) ∙ is.legal;
  size_is = is.page_size;
  used_is = used_is found content pages is;
}

answered : (found : Recovered) (content : Content) (pages : List (List ℕ)) (c : Command) (reply : Reply) → GivesFound → IsFound found content pages
    → IsOverPages c (used_of found) found.pages (first_of found content) reply → IsOverFound c pages reply
answered found content pages c reply law is over = rw (used_is found content pages is, sym is.counted, sym (law found content pages is)) over

nothing_told : (r : Result Reply Failure) → IfOk r (λ reply. Unit {0})
nothing_told (Ok reply) = tt
nothing_told (Err failure) = tt

-- a page that is asked for and is none of the space's is none of so many
abbrev pub AsksOutside : ℕ → Result Reply TreeFault → Type 0
AsksOutside count result = IfErr result (OnMissing (λ at. IsInside count at → ⊥))

-- the space keeps such a fault, and with it a page that is none of its own
pub asks_outside : {P : Type 0} (g : Ghosts P) (old new : P) (count : ℕ) (result : Result Reply TreeFault) → Reads g old new → g.count old ≡ count → RefusesTree g old new result
    → ((at number : ℕ) → g.refusal new ≡ Some (PageOut at number) → IsInside (g.count new) at → ⊥) → AsksOutside count result
asks_outside g old new count (Ok reply) reads counted kept missing = tt
asks_outside g old new count (Err (Corrupt page)) reads counted kept missing = tt
asks_outside g old new count (Err (Space (PageOut at number))) reads counted kept missing = λ inside. missing at number kept (inside.0, let more = reads.count in omega (arith, inside.1, counted, more))
asks_outside g old new count (Err (Space (Busy page word))) reads counted kept missing = tt
asks_outside g old new count (Err (Space Read)) reads counted kept missing = tt
asks_outside g old new count (Err (Space (Stopped op))) reads counted kept missing = tt
asks_outside g old new count (Err (Space (Full pages))) reads counted kept missing = tt
asks_outside g old new count (Err (Space (Spoilt page))) reads counted kept missing = tt
asks_outside g old new count (Err (Space Memory)) reads counted kept missing = tt

-- a fault that the space gives is one of its own
pub own_fault : {P : Type 0} (g : Ghosts P) (old new : P) (result : Result Reply TreeFault) → Reads g old new → RefusesTree g old new result → KeepsOwn (g.refusal new)
    → IfErr result IsOwn
own_fault g old new (Ok reply) reads kept own = tt
own_fault g old new (Err (Corrupt page)) reads kept own = tt
own_fault g old new (Err (Space (PageOut at number))) reads kept own = own (PageOut at number) kept
own_fault g old new (Err (Space Read)) reads kept own = own Read kept
own_fault g old new (Err (Space Memory)) reads kept own = refl
own_fault g old new (Err (Space (Busy page word))) reads kept own = own (Busy page word) kept
own_fault g old new (Err (Space (Stopped op))) reads kept own = own (Stopped op) kept
own_fault g old new (Err (Space (Full pages))) reads kept own = own (Full pages) kept
own_fault g old new (Err (Space (Spoilt page))) reads kept own = own (Spoilt page) kept

corrupt_about : (c : Command) (count page : ℕ) → only_reads c ≡ true → IsFaultAbout c count (Corrupt page) → IsAbout c (replies.Corrupt page)
corrupt_about (commands.Rows db table) count page built fault = tt
corrupt_about (commands.Check db) count page built fault = fault.0
corrupt_about (commands.Prepare db lists) count page built fault = absurd cc
corrupt_about (commands.Release db) count page built fault = absurd cc
corrupt_about (commands.Run db scripts workers retries slots) count page built fault = absurd cc
corrupt_about (commands.Work db seed count_of) count page built fault = absurd cc

missing_about : (c : Command) (count page number : ℕ) → only_reads c ≡ true → IsFaultAbout c count (Space (PageOut page number)) → (IsInside count page → ⊥)
    → IsAbout c (replies.Corrupt page)
missing_about (commands.Rows db table) count page number built fault outside = tt
missing_about (commands.Check db) count page number built fault outside = absurd (outside fault.1)
missing_about (commands.Prepare db lists) count page number built fault outside = absurd cc
missing_about (commands.Release db) count page number built fault outside = absurd cc
missing_about (commands.Run db scripts workers retries slots) count page number built fault outside = absurd cc
missing_about (commands.Work db seed count_of) count page number built fault outside = absurd cc

-- an answer that the command may have, also where the space refused
pub pages_about : (c : Command) (count : ℕ) (result : Result Reply TreeFault) → only_reads c ≡ true → IfOk result (IsAbout c) → IfErr result (IsFaultAbout c count)
    → AsksOutside count result → IfOk (reply_or_failure result) (IsAbout c)
pages_about c count (Ok reply) built about fault outside = about
pages_about c count (Err (Corrupt page)) built about fault outside = corrupt_about c count page built fault
pages_about c count (Err (Space (PageOut page number))) built about fault outside = missing_about c count page number built fault outside
pages_about c count (Err (Space (Busy page word))) built about fault outside = tt
pages_about c count (Err (Space Read)) built about fault outside = tt
pages_about c count (Err (Space (Stopped op))) built about fault outside = tt
pages_about c count (Err (Space (Full pages))) built about fault outside = tt
pages_about c count (Err (Space (Spoilt page))) built about fault outside = tt
pages_about c count (Err (Space Memory)) built about fault outside = tt

told_answered : (told : Option History) (found : Recovered) (c : Command) (result : Result Reply TreeFault) → GivesFound
    → IfSome (told_pages told found.page_size found.pages)
    (λ pages. HasFront found.page_size (used_of found) pages → Undamaged (IsOverPages c (used_of found) found.pages pages) result)
    → IfSome (told_pages told found.page_size found.pages) (λ pages. HasFront found.page_size (used_of found) pages → AsksInside found.pages result)
    → AsksOutside found.pages result
    → IfOk (reply_or_failure result) (λ reply. WhereFound told found (λ content pages. IsOverFound c pages reply))
told_answered None found c result law over asks out = nothing_told (reply_or_failure result)
told_answered (Some h) found c (Ok reply) law over asks out = λ pages is.
    answered found (present h) pages c reply law is (over (found_front found (present h) pages law is))
told_answered (Some h) found c (Err (Corrupt page)) law over asks out = λ pages is. absurd (over (found_front found (present h) pages law is))
told_answered (Some h) found c (Err (Space (PageOut page number))) law over asks out = λ pages is.
    absurd (out (asks (found_front found (present h) pages law is)))
told_answered (Some h) found c (Err (Space (Busy page word))) law over asks out = tt
told_answered (Some h) found c (Err (Space Read)) law over asks out = tt
told_answered (Some h) found c (Err (Space (Stopped op))) law over asks out = tt
told_answered (Some h) found c (Err (Space (Full pages))) law over asks out = tt
told_answered (Some h) found c (Err (Space (Spoilt page))) law over asks out = tt
told_answered (Some h) found c (Err (Space Memory)) law over asks out = tt

-- what is answered over the pages that the space tells is right over the recovered ones
pub pages_answered : (told : Option History) (found : Recovered) (size used count : ℕ) (c : Command) (result : Result Reply TreeFault) → GivesFound
    → size ≡ found.page_size → used ≡ used_of found → count ≡ found.pages
    → IfSome (told_pages told size count) (λ pages. HasFront size used pages → Undamaged (IsOverPages c used found.pages pages) result)
    → IfSome (told_pages told size count) (λ pages. HasFront size used pages → AsksInside found.pages result)
    → AsksOutside found.pages result
    → IfOk (reply_or_failure result) (λ reply. WhereFound told found (λ content pages. IsOverFound c pages reply))
pages_answered told found size used count c result law size_is used_is count_is over asks out =
    told_answered told found c result law (rw (size_is, used_is, count_is) at over) (rw (size_is, used_is, count_is) at asks) out

-- the recovered pages are such as the command wants
wanted_in : (content : Content) (pages : List (List ℕ)) (want : Want) (wanted : Bool) → RecoveredAreHeaded → recovered content ≡ Ok pages
    → is_wanted want (recovered_header content) ≡ wanted → is_wanted want (header_in pages) ≡ wanted
wanted_in content pages want wanted headed recovers is =
    subst (λ (h : Header). is_wanted want h ≡ wanted) (sym (headed content pages recovers).recovered) is

pub wanted_true : (content : Content) (pages : List (List ℕ)) (want : Want) → RecoveredAreHeaded → recovered content ≡ Ok pages
    → is_wanted want (recovered_header content) ≡ true → is_wanted want (header_in pages) ≡ true
wanted_true content pages want headed recovers is = wanted_in content pages want true headed recovers is

pub wanted_false : (content : Content) (pages : List (List ℕ)) (want : Want) → RecoveredAreHeaded → recovered content ≡ Ok pages
    → is_wanted want (recovered_header content) ≡ false → is_wanted want (header_in pages) ≡ false
wanted_false content pages want headed recovers is = wanted_in content pages want false headed recovers is

over_wanted : (c : Command) (pages : List (List ℕ)) (reply : Reply) (wanted : Bool) → is_wanted (want_of c) (header_in pages) ≡ wanted
    → IsOverWanted c pages wanted reply → IsOverRecovered c pages reply
over_wanted c pages reply wanted is over = subst (λ (b : Bool). IsOverWanted c pages b reply) (sym is) over

recovered_reply : (found : Recovered) (content now : Content) (c : Command) (reply : Reply) → RecoveredAreHeaded → HasPages content found.pages
    → is_wanted (want_of c) (recovered_header content) ≡ true
    → ((pages : List (List ℕ)) → recovered content ≡ Ok pages → IsFound found now pages)
    → ((pages : List (List ℕ)) → IsFound found now pages → IsOverFound c pages reply)
    → IsOfRecovery c (recovered content) reply
recovered_reply found content now c reply headed has wanted settled read =
    subst (λ (r : Result (List (List ℕ)) RecoverFault). IsOfRecovery c r reply) (sym has.recovers)
    (over_wanted c has.pages reply true (wanted_true content has.pages (want_of c) headed has.recovers wanted) (read has.pages (settled has.pages has.recovers)))

-- what is read off the files afterwards is right over what they held before
pub settled_reply : (old new : Option History) (found : Recovered) (c : Command) (result : Result Reply Failure) → RecoveredAreHeaded
    → IfTold old (λ content. HasPages content found.pages)
    → IfTold old (λ content. is_wanted (want_of c) (recovered_header content) ≡ true)
    → IfBothTold old new (λ content now. (pages : List (List ℕ)) → recovered content ≡ Ok pages → IsFound found now pages)
    → LeavesPages old new
    → IfOk result (λ reply. WhereFound new found (λ now pages. IsOverFound c pages reply))
    → IfOk result (λ reply. IfTold old (λ content. IsOfRecovery c (recovered content) reply))
settled_reply old new found c (Err failure) headed has wanted settled leaves read = tt
settled_reply None new found c (Ok reply) headed has wanted settled leaves read = tt
settled_reply (Some h) None found c (Ok reply) headed has wanted settled leaves read = absurd (let none = leaves.adds in cc)
settled_reply (Some h) (Some k) found c (Ok reply) headed has wanted settled leaves read =
    recovered_reply found (present h) (present k) c reply headed has wanted settled read

unwanted_reply : (content : Content) (c : Command) → RecoveredAreHeaded → IsUnwanted (want_of c) content
    → IsOfRecovery c (recovered content) (replies.Refused refusals.NotPrepared)
unwanted_reply content c headed why =
    let has = why.pages in
    subst (λ (r : Result (List (List ℕ)) RecoverFault). IsOfRecovery c r (replies.Refused refusals.NotPrepared)) (sym has.recovers)
    (over_wanted c has.pages (replies.Refused refusals.NotPrepared) false (wanted_false content has.pages (want_of c) headed has.recovers why.unwanted) refl)

-- a reason that the files give is the answer
pub refused_reply : (told : Option History) (fault : RecoverFault) (c : Command) → RecoveredAreHeaded → IfTold told (IsRefusal (want_of c) fault)
    → IfOk (refused_for fault) (λ reply. IfTold told (λ content. IsOfRecovery c (recovered content) reply))
refused_reply told refusals.Disk c headed why = tt
refused_reply told refusals.Memory c headed why = tt
refused_reply None (refusals.Header fault) c headed why = tt
refused_reply None (refusals.JournalPage id size) c headed why = tt
refused_reply None (refusals.Overlap page a b) c headed why = tt
refused_reply None (refusals.TooLarge pages) c headed why = tt
refused_reply None (refusals.ShortFile pages bytes) c headed why = tt
refused_reply None refusals.NotPrepared c headed why = tt
refused_reply (Some h) (refusals.Header fault) c headed why = rw why refl
refused_reply (Some h) (refusals.JournalPage id size) c headed why = rw why refl
refused_reply (Some h) (refusals.Overlap page a b) c headed why = rw why refl
refused_reply (Some h) (refusals.TooLarge pages) c headed why = rw why refl
refused_reply (Some h) (refusals.ShortFile pages bytes) c headed why = rw why refl
refused_reply (Some h) refusals.NotPrepared c headed why = unwanted_reply (present h) c headed why
