-- What a command does behind recovery, over the pages that it found.
use Rattle.std.specs.Prelude.{◌≡◌, ◌⊎◌, ℕ, true, List, [], Option, Some, None, Result, Ok, Err}
use Rattle.spe_model.specs.declared.recovery.Recovered.{Recovered}
use Rattle.spe_model.specs.Content.{Content}
use Rattle.spe_model.specs.Standing.{Whether}
use Rattle.spe_model.specs.Trace.{Operation, History}
use Rattle.spe_disk.specs.Told.{absent_journals, makings}
use Rattle.spe_disk.specs.Added.{AddsSome, Makes}
use Rattle.spe_convert.specs.declared.fault.ConvertFault.{ConvertFault}
use Rattle.spe_convert.specs.declared.fault.ConvertFault.TheVariants as faults
use Rattle.spe_convert.specs.Prepare.{IsAllPrepared, IsPartPrepared, making_and_preparing}
use Rattle.spe_convert.specs.Release.{IsPart, IsWhole, WhereFound, making_first}
use Rattle.spe_words.specs.declared.command.Command.{Command}
use Rattle.spe_words.specs.declared.command.Command.TheVariants as commands
use Rattle.spe_serve.specs.declared.reply.Reply.{Reply}
use Rattle.spe_serve.specs.declared.reply.Reply.TheVariants as replies
use Rattle.spe_serve.specs.declared.failure.Failure.{Failure}
use Rattle.spe_serve.specs.declared.failure.Failure.TheVariants as failures
use Rattle.spe_serve.specs.declared.outcome.Outcome.{Outcome}
use Rattle.spe_serve.specs.declared.outcome.Outcome.TheVariants.{Answered, DiskFailed, NoMemory}
use Rattle.spe_serve.specs.Own.{are_preparing, are_sound}

-- what a command that writes refuses by the answer of `check`: nothing where no rule is broken
abbrev pub refusal_in : Reply → Option Reply
refusal_in (replies.Sound pages tables rows free) = None
refusal_in (replies.Damage page rule) = Some (replies.Corrupt page)
refusal_in reply = Some reply

-- the faults of putting free lists in stock form
abbrev pub IsOfReleasing : ConvertFault → Type 0
IsOfReleasing (faults.Full pages) = ⊥
IsOfReleasing faults.Prepared = ⊥
IsOfReleasing fault = Unit {0}

-- what comes of putting them so
abbrev pub released_reply : (pages : ℕ) → Result ℕ ConvertFault → Result Reply Failure
released_reply pages (Ok free) = Ok (replies.Released free pages)
released_reply pages (Err faults.Disk) = Err failures.Disk
released_reply pages (Err (faults.Corrupt page)) = Ok (replies.Corrupt page)
released_reply pages (Err fault) = Err failures.Memory

-- what comes of putting free lists in server form, so many of them
abbrev pub prepared_reply : (lists : ℕ) → Result ℕ ConvertFault → Result Reply Failure
prepared_reply lists (Ok pages) = Ok (replies.Prepared lists pages)
prepared_reply lists (Err faults.Disk) = Err failures.Disk
prepared_reply lists (Err (faults.Full pages)) = Ok (replies.Full pages)
prepared_reply lists (Err faults.Prepared) = Ok replies.AlreadyPrepared
prepared_reply lists (Err (faults.Corrupt page)) = Ok (replies.Corrupt page)
prepared_reply lists (Err faults.Memory) = Err failures.Memory

-- these are a beginning of a command's own operations over pages that were found, or none
abbrev pub AreSomeOwn : Command → Recovered → Content → (pages : List (List ℕ)) → (made : List Operation) → Type 0
AreSomeOwn (commands.Release db) found content pages made =
    (made ≡ []) ⊎ ((are_sound pages ≡ true) × IsPart found content pages (making_first found content pages) made)
AreSomeOwn (commands.Prepare db lists) found content pages made =
    (made ≡ []) ⊎ ((are_preparing lists pages ≡ true) × IsPartPrepared found lists content pages (making_and_preparing found lists content pages) made)
AreSomeOwn _ found content pages made = made ≡ []

-- they were all made
abbrev pub MakesOwn : Command → Recovered → (old new : Option History) → Content → (pages : List (List ℕ)) → Type 0
MakesOwn (commands.Release db) found old new content pages =
    Whether (are_sound pages) ((count : ℕ) × IsWhole found pages (making_first found content pages) old new count) (new ≡ old)
MakesOwn (commands.Prepare db lists) found old new content pages =
    Whether (are_preparing lists pages) ((count : ℕ) × IsAllPrepared found lists pages (making_and_preparing found lists content pages) old new count) (new ≡ old)
MakesOwn _ found old new content pages = new ≡ old

-- those before the command's transaction were made, or none; `prepare` has two transactions, and memory may end between them
abbrev pub MakesFirst : Command → (old new : Option History) → Type 0
MakesFirst (commands.Release db) old new = (new ≡ old) ⊎ Makes old new (λ content. makings (absent_journals content))
MakesFirst (commands.Prepare db lists) old new = Unit {0}
MakesFirst _ old new = new ≡ old

abbrev pub MakesOwnFor : Command → Recovered → (old new : Option History) → Outcome → Type 0
MakesOwnFor c found old new (Answered reply) = WhereFound old found (MakesOwn c found old new)
MakesOwnFor c found old new DiskFailed = Unit {0}
MakesOwnFor c found old new NoMemory = MakesFirst c old new

-- some were made, whatever came of it; where there is an answer, all were
pub record IsOwnFor (c : Command) (found : Recovered) (old new : Option History) (outcome : Outcome) : Type 0 where
  pub part : WhereFound old found (λ content pages. AddsSome old new (AreSomeOwn c found content pages))
  pub whole : MakesOwnFor c found old new outcome
