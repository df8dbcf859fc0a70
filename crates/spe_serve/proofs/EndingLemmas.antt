-- What the status tells, by the outcome whose text was printed.
use Rattle.std.proofs.Common.{◌≡◌, ◌==◌, ℕ, true, false, arith, List, Option, Result, Ok, Err, IfOk, refl, sym, ap, subst, ◌∙◌, inl, inr}
use Rattle.std.specs.Prelude.{◌≢◌, ◌⊎◌}
use Rattle.std.specs.declared.vec.Vec.{Vec}
use Rattle.std.specs.declared.alloc.Global.{Global}
use Rattle.std.specs.declared.alloc.AllocError.{AllocError}
use Rattle.spe_model.specs.Trace.{History}
use Rattle.spe_disk.specs.declared.sink.Sink.{Ghosts}
use Rattle.spe_words.specs.declared.command.Command.{Command}
use Rattle.spe_words.specs.declared.command.Command.TheVariants as commands
use Rattle.spe_serve.specs.declared.outcome.Outcome.{Outcome}
use Rattle.spe_serve.specs.declared.outcome.Outcome.TheVariants as outcomes
use Rattle.spe_serve.specs.declared.reply.Reply.{Reply}
use Rattle.spe_serve.specs.declared.reply.Reply.TheVariants as replies
use Rattle.spe_serve.specs.Ending.{Ends, EndsOnFailure, EndsRefused, IsOutcome, IsReply, Prints, PrintsAnswer, PrintsMade, PrintsOutcome, SinkFailsOnce, outcome_text}
use Rattle.spe_serve.specs.Made.{IsMadeAt, IsMadeFor, IsMadeOf}
use Rattle.spe_serve.specs.Reply.{AskForNone, IsAbout, status_of, text_of}
use Rattle.spe_serve.proofs.MadeLemmas.{memory_all}

apart : (a b : ℕ) → (a == b) ≡ false → a ≡ b → ⊥
apart a b differ e = let same : (a == b) ≡ true = grind arith in let both = sym same ∙ differ in cc

status_one : (reply : Reply) → status_of reply ≡ 1 → reply ≡ replies.Words
status_one replies.Words is = refl
status_one replies.NoDatabase is = absurd (apart 2 1 refl is)
status_one (replies.Refused fault) is = absurd (apart 2 1 refl is)
status_one replies.NotBuilt is = absurd (apart 2 1 refl is)
status_one (replies.Sound pages tables rows free) is = absurd (apart 0 1 refl is)
status_one (replies.Damage page rule) is = absurd (apart 5 1 refl is)
status_one (replies.Corrupt page) is = absurd (apart 2 1 refl is)
status_one replies.NoTable is = absurd (apart 2 1 refl is)
status_one (replies.ClosedTable why) is = absurd (apart 2 1 refl is)
status_one (replies.Rows rows) is = absurd (apart 0 1 refl is)
status_one (replies.Released free pages) is = absurd (apart 0 1 refl is)
status_one (replies.Prepared lists pages) is = absurd (apart 0 1 refl is)
status_one replies.AlreadyPrepared is = absurd (apart 2 1 refl is)
status_one (replies.Full pages) is = absurd (apart 2 1 refl is)

no_fault : (reply : Reply) → status_of reply ≡ 3 → ⊥
no_fault replies.Words is = apart 1 3 refl is
no_fault replies.NoDatabase is = apart 2 3 refl is
no_fault (replies.Refused fault) is = apart 2 3 refl is
no_fault replies.NotBuilt is = apart 2 3 refl is
no_fault (replies.Sound pages tables rows free) is = apart 0 3 refl is
no_fault (replies.Damage page rule) is = apart 5 3 refl is
no_fault (replies.Corrupt page) is = apart 2 3 refl is
no_fault replies.NoTable is = apart 2 3 refl is
no_fault (replies.ClosedTable why) is = apart 2 3 refl is
no_fault (replies.Rows rows) is = apart 0 3 refl is
no_fault (replies.Released free pages) is = apart 0 3 refl is
no_fault (replies.Prepared lists pages) is = apart 0 3 refl is
no_fault replies.AlreadyPrepared is = apart 2 3 refl is
no_fault (replies.Full pages) is = apart 2 3 refl is

-- no command is answered that there is none
never_words : (c : Command) → IsAbout c replies.Words → ⊥
never_words (commands.Rows db table) about = about
never_words (commands.Check db) about = about
never_words (commands.Prepare db lists) about = about
never_words (commands.Release db) about = about
never_words (commands.Run db scripts workers retries slots) about = cc
never_words (commands.Work db seed count) about = cc

asks_none : (words : List (List ℕ)) (told : Option History) (reply : Reply) → IsReply words told reply → reply ≡ replies.Words → AskForNone words
asks_none words told reply (inl (none, is)) e = none
asks_none words told reply (inr (c, asked, right)) e = absurd (never_words c (subst (IsAbout c) e right.about))

pub ends_unasked : {W : Type 0} (g : Ghosts W) (before now : W) (words : List (List ℕ)) (told : Option History) (rose : Type 0) (IsMade : Outcome → Type 0) (status : ℕ)
    → Ends g before now words told rose IsMade status → status ≡ 1 → AskForNone words
ends_unasked g before now words told rose IsMade status (outcomes.Answered reply, of, made, inl (all, is)) one = asks_none words told reply of (status_one reply (sym is ∙ one))
ends_unasked g before now words told rose IsMade status (outcomes.Answered reply, of, made, inr (within, is)) one = absurd (apart 3 1 refl (sym is ∙ one))
ends_unasked g before now words told rose IsMade status (outcomes.DiskFailed, of, made, inl (all, is)) one = absurd (apart 3 1 refl (sym is ∙ one))
ends_unasked g before now words told rose IsMade status (outcomes.DiskFailed, of, made, inr (within, is)) one = absurd (apart 3 1 refl (sym is ∙ one))
ends_unasked g before now words told rose IsMade status (outcomes.NoMemory, of, made, inl (all, is)) one = absurd (apart 4 1 refl (sym is ∙ one))
ends_unasked g before now words told rose IsMade status (outcomes.NoMemory, of, made, inr (within, is)) one = absurd (apart 3 1 refl (sym is ∙ one))

refused_status : {W : Type 0} (g : Ghosts W) (before now : W) (words : List (List ℕ)) (told : Option History) (reply : Reply) (status : ℕ) → IsReply words told reply
    → status ≡ status_of reply → AskForNone words → EndsRefused g before now status
refused_status g before now words told reply status (inl (none, e)) is asks = inl (is ∙ ap status_of e)
refused_status g before now words told reply status (inr (c, asked, right)) is asks = absurd (asks c asked)

pub ends_refused : {W : Type 0} (g : Ghosts W) (before now : W) (words : List (List ℕ)) (told : Option History) (rose : Type 0) (IsMade : Outcome → Type 0) (status : ℕ)
    → Ends g before now words told rose IsMade status → AskForNone words → EndsRefused g before now status
ends_refused g before now words told rose IsMade status (outcomes.Answered reply, of, made, inl (all, is)) asks = refused_status g before now words told reply status of is asks
ends_refused g before now words told rose IsMade status (outcomes.Answered reply, of, made, inr (within, is)) asks = inr (inr (is, within.count))
ends_refused g before now words told rose IsMade status (outcomes.DiskFailed, of, made, prints) asks = absurd (asks of.0 of.1)
ends_refused g before now words told rose IsMade status (outcomes.NoMemory, of, made, inl (all, is)) asks = inr (inl is)
ends_refused g before now words told rose IsMade status (outcomes.NoMemory, of, made, inr (within, is)) asks = inr (inr (is, within.count))

pub ends_fault : {W : Type 0} (g : Ghosts W) (before now : W) (words : List (List ℕ)) (told : Option History) (rose : Type 0) (IsMade : Outcome → Type 0) (status : ℕ)
    → Ends g before now words told rose IsMade status → status ≡ 3 → rose ⊎ SinkFailsOnce g before now
ends_fault g before now words told rose IsMade status (outcomes.Answered reply, of, made, inl (all, is)) e = absurd (no_fault reply (sym is ∙ e))
ends_fault g before now words told rose IsMade status (outcomes.Answered reply, of, made, inr (within, is)) e = inr within.count
ends_fault g before now words told rose IsMade status (outcomes.DiskFailed, of, made, inl (all, is)) e = inl of.3
ends_fault g before now words told rose IsMade status (outcomes.DiskFailed, of, made, inr (within, is)) e = inr within.count
ends_fault g before now words told rose IsMade status (outcomes.NoMemory, of, made, inl (all, is)) e = absurd (apart 4 3 refl (sym is ∙ e))
ends_fault g before now words told rose IsMade status (outcomes.NoMemory, of, made, inr (within, is)) e = inr within.count

pub ends_on_failure : {W : Type 0} (g : Ghosts W) (before now : W) (words : List (List ℕ)) (told : Option History) (rose : Type 0) (IsMade : Outcome → Type 0) (status : ℕ)
    → Ends g before now words told rose IsMade status → EndsOnFailure g before now status
ends_on_failure g before now words told rose IsMade status (outcome, of, made, inl (all, is)) = inl all.count
ends_on_failure g before now words told rose IsMade status (outcome, of, made, inr (within, is)) = inr (is, within.count)

-- an answer's text was printed, or there was no memory for it
pub answer_made : {W : Type 0} (g : Ghosts W) (before now : W) (made : Result (Vec ℕ Global) AllocError) (reply : Reply) (status : ℕ) → IfOk made (λ v. v.items ≡ text_of reply)
    → PrintsMade g before now made (status_of reply) status → PrintsAnswer g before now reply status
answer_made g before now (Ok text) reply status is prints = inl (subst (λ (t : List ℕ). Prints g before now t (status_of reply) status) is prints)
answer_made g before now (Err e) reply status is prints = inr prints

-- where there was no memory for the text of an answer, all the same was made
lost : (words : List (List ℕ)) (old new : Option History) (reply : Reply) → IsMadeOf words old new (outcomes.Answered reply) → IsMadeOf words old new outcomes.NoMemory
lost words old new reply made = λ c asked. record { part = (made c asked).part; whole = memory_all c old new (made c asked).whole; settled = λ built. tt }

-- the outcome whose text was printed: where there was no memory for it, want of memory
pub ends_by : {W : Type 0} (g : Ghosts W) (before now : W) (words : List (List ℕ)) (told : Option History) (rose : Type 0) (old new : Option History) (outcome : Outcome) (status : ℕ)
    → IsOutcome words told rose outcome → IsMadeOf words old new outcome → PrintsOutcome g before now outcome status
    → Ends g before now words told rose (IsMadeOf words old new) status
ends_by g before now words told rose old new (outcomes.Answered reply) status of made (inl prints) = (outcomes.Answered reply, of, made, prints)
ends_by g before now words told rose old new (outcomes.Answered reply) status of made (inr prints) = (outcomes.NoMemory, tt, lost words old new reply made, prints)
ends_by g before now words told rose old new outcomes.DiskFailed status of made prints = (outcomes.DiskFailed, of, made, prints)
ends_by g before now words told rose old new outcomes.NoMemory status of made prints = (outcomes.NoMemory, of, made, prints)

-- what was made, by the status
status_three : {W : Type 0} (g : Ghosts W) (before now : W) (text : List ℕ) (status : ℕ) → Prints g before now text 3 status → status ≡ 3
status_three g before now text status (inl (all, is)) = is
status_three g before now text status (inr (within, is)) = is

no_answer : {W : Type 0} (g : Ghosts W) (before now : W) (text : List ℕ) (status : ℕ) → Prints g before now text 4 status → status ≢ 3 → status ≢ 4 → ⊥
no_answer g before now text status (inl (all, is)) fault memory = memory is
no_answer g before now text status (inr (within, is)) fault memory = fault is

pub made_at : {W : Type 0} (g : Ghosts W) (before now : W) (c : Command) (old new : Option History) (outcome : Outcome) (status : ℕ)
    → PrintsOutcome g before now outcome status → IsMadeFor c old new outcome → IsMadeAt c old new status
made_at g before now c old new (outcomes.Answered reply) status prints made = record {
  part = made.part;
  whole = λ fault memory. made.whole;
  settled = λ fault memory built. made.settled built;
}
made_at g before now c old new outcomes.DiskFailed status prints made = record {
  part = made.part;
  whole = λ fault memory. absurd (fault (status_three g before now (outcome_text outcomes.DiskFailed) status prints));
  settled = λ fault memory built. absurd (fault (status_three g before now (outcome_text outcomes.DiskFailed) status prints));
}
made_at g before now c old new outcomes.NoMemory status prints made = record {
  part = made.part;
  whole = λ fault memory. absurd (no_answer g before now (outcome_text outcomes.NoMemory) status prints fault memory);
  settled = λ fault memory built. absurd (no_answer g before now (outcome_text outcomes.NoMemory) status prints fault memory);
}
