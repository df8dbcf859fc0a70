-- How a run of the program ends: what it printed, and its status.
use Rattle.std.specs.Prelude.{◌≡◌, ℕ, ◌⊎◌, Bool, true, not, List, Option, Some, None, Result, Ok, Err, codes}
use Rattle.std.specs.declared.vec.Vec.{Vec}
use Rattle.std.specs.declared.alloc.Global.{Global}
use Rattle.std.specs.declared.alloc.AllocError.{AllocError}
use Rattle.spe_model.specs.Content.{Content}
use Rattle.spe_model.specs.Standing.{Whether}
use Rattle.spe_model.specs.Trace.{Operation, History, IsCut, after, present}
use Rattle.spe_disk.specs.declared.disk.Disk.{Ghosts as DiskGhosts}
use Rattle.spe_disk.specs.declared.sink.Sink.{Ghosts as SinkGhosts}
use Rattle.spe_model.specs.Faults.{Rose}
use Rattle.spe_disk.specs.Listed.{next_number}
use Rattle.spe_disk.specs.Told.{Adds}
use Rattle.spe_disk.specs.Sink.{Appends, AppendsFront}
use Rattle.spe_words.specs.declared.command.Command.{Command}
use Rattle.spe_words.specs.declared.command.Command.TheVariants as commands
use Rattle.spe_words.specs.Grammar.{AskFor}
use Rattle.spe_serve.specs.declared.reply.Reply.{Reply}
use Rattle.spe_model.specs.declared.recovery.RecoverFault.{RecoverFault}
use Rattle.spe_model.specs.declared.recovery.RecoverFault.TheVariants as refusals
use Rattle.spe_serve.specs.declared.reply.Reply.TheVariants as replies
use Rattle.spe_serve.specs.declared.failure.Failure.{Failure}
use Rattle.spe_serve.specs.declared.failure.Failure.TheVariants as failures
use Rattle.spe_serve.specs.declared.outcome.Outcome.{Outcome}
use Rattle.spe_serve.specs.declared.outcome.Outcome.TheVariants.{Answered, DiskFailed, NoMemory}
use Rattle.spe_render.specs.Values.{line}
use Rattle.spe_serve.specs.Reply.{AskForNone, IsAbout, is_done, text_of, status_of}
use Rattle.spe_serve.specs.Answer.{IsReplyTo, is_built}

-- an answer that is right over the content at attaching, where it is told
abbrev pub IsRightWhereTold : Option History → Command → Reply → Type 0
IsRightWhereTold None c reply = Unit {0}
IsRightWhereTold (Some h) c reply = IsReplyTo c h.first reply

-- an answer that the command may have, and is right where it can be told
pub record IsRightReply (c : Command) (told : Option History) (reply : Reply) : Type 0 where
  pub about : IsAbout c reply
  pub right : IsRightWhereTold told c reply

-- An outcome of a command is a right answer, or the disk's count of faults has risen over its database, or memory ran out.
abbrev pub IsOutcomeOf : Command → Option History → Type 0 → Outcome → Type 0
IsOutcomeOf c told rose (Answered reply) = IsRightReply c told reply
IsOutcomeOf c told rose DiskFailed = (is_built c ≡ true) × rose
IsOutcomeOf c told rose NoMemory = Unit {0}

-- a right answer to the command that the words ask for, or that they ask for none
abbrev pub IsReply : List (List ℕ) → Option History → Reply → Type 0
IsReply words told reply = (AskForNone words × (reply ≡ replies.Words)) ⊎ ((c : Command) × AskFor words c × IsRightReply c told reply)

-- An outcome of words is such an answer to them, or they ask for a command that the disk failed, or memory ran out.
abbrev pub IsOutcome : List (List ℕ) → Option History → Type 0 → Outcome → Type 0
IsOutcome words told rose (Answered reply) = IsReply words told reply
IsOutcome words told rose DiskFailed = (c : Command) × AskFor words c × (is_built c ≡ true) × rose
IsOutcome words told rose NoMemory = Unit {0}

-- what a search of the disk comes to
abbrev pub outcome_of : Result Reply Failure → Outcome
outcome_of (Ok reply) = Answered reply
outcome_of (Err failures.Disk) = DiskFailed
outcome_of (Err failures.Memory) = NoMemory

-- what recovery's refusal comes to
abbrev pub refused_for : RecoverFault → Result Reply Failure
refused_for refusals.Disk = Err failures.Disk
refused_for refusals.Memory = Err failures.Memory
refused_for fault = Ok (replies.Refused fault)

abbrev pub outcome_text : Outcome → List ℕ
outcome_text (Answered reply) = text_of reply
outcome_text DiskFailed = line (codes "fault disk")
outcome_text NoMemory = line (codes "memory")

abbrev pub outcome_status : Outcome → ℕ
outcome_status (Answered reply) = status_of reply
outcome_status DiskFailed = 3
outcome_status NoMemory = 4

-- the disk failed: its count of reading calls that failed has risen, or that of operations
abbrev pub DiskFails : {D : Type 0} (g : DiskGhosts D) (before now : D) → Type 0
DiskFails g before now = Rose (g.read_faults before) (g.read_faults now) ⊎ Rose (g.op_faults before) (g.op_faults now)

-- the sink took the whole text, and did not fail
pub record TakesAll {W : Type 0} (g : SinkGhosts W) (before now : W) (text : List ℕ) : Type 0 where
  pub taken : Appends (g.taken before) (g.taken now) text
  pub count : g.faults now ≡ g.faults before

-- the sink's count of faults is the next one: of all pieces that were put, one failed
abbrev pub SinkFailsOnce : {W : Type 0} (g : SinkGhosts W) (before now : W) → Type 0
SinkFailsOnce g before now = g.faults now ≡ next_number (g.faults before)

-- the sink took some first bytes of the text, or none, and failed once
pub record FailsWithin {W : Type 0} (g : SinkGhosts W) (before now : W) (text : List ℕ) : Type 0 where
  pub taken : AppendsFront (g.taken before) (g.taken now) text
  pub count : SinkFailsOnce g before now

-- The sink took the whole text, and the status is that of the outcome; or it failed within the text, and the status is 3.
abbrev pub Prints : {W : Type 0} (g : SinkGhosts W) (before now : W) (text : List ℕ) (ending status : ℕ) → Type 0
Prints g before now text ending status = (TakesAll g before now text × (status ≡ ending)) ⊎ (FailsWithin g before now text × (status ≡ 3))

-- a text that was put together was printed, or there was no memory for it
abbrev pub PrintsMade : {W : Type 0} (g : SinkGhosts W) (before now : W) → Result (Vec ℕ Global) AllocError → (ending status : ℕ) → Type 0
PrintsMade g before now (Ok text) ending status = Prints g before now text.items ending status
PrintsMade g before now (Err e) ending status = Prints g before now (outcome_text NoMemory) 4 status

-- an answer was printed, or there was no memory for its text
abbrev pub PrintsAnswer : {W : Type 0} (g : SinkGhosts W) (before now : W) → Reply → (status : ℕ) → Type 0
PrintsAnswer g before now reply status =
    Prints g before now (text_of reply) (status_of reply) status ⊎ Prints g before now (outcome_text NoMemory) 4 status

-- what there is to print of an outcome was printed
abbrev pub PrintsOutcome : {W : Type 0} (g : SinkGhosts W) (before now : W) → Outcome → (status : ℕ) → Type 0
PrintsOutcome g before now (Answered reply) status = PrintsAnswer g before now reply status
PrintsOutcome g before now DiskFailed status = Prints g before now (outcome_text DiskFailed) 3 status
PrintsOutcome g before now NoMemory status = Prints g before now (outcome_text NoMemory) 4 status

-- What was printed is the text of an outcome, what was made goes with it, and the status is its own.
abbrev pub Ends : {W : Type 0} (g : SinkGhosts W) (before now : W) (words : List (List ℕ)) (told : Option History) (rose : Type 0) (IsMade : Outcome → Type 0) (status : ℕ) → Type 0
Ends g before now words told rose IsMade status =
    (outcome : Outcome) × IsOutcome words told rose outcome × IsMade outcome × Prints g before now (outcome_text outcome) (outcome_status outcome) status

-- the status of words that are no command is 1, unless memory ran out or the sink failed
abbrev pub EndsRefused : {W : Type 0} (g : SinkGhosts W) (before now : W) (status : ℕ) → Type 0
EndsRefused g before now status = (status ≡ 1) ⊎ ((status ≡ 4) ⊎ ((status ≡ 3) × SinkFailsOnce g before now))

-- the sink's count of faults stays, or the sink failed once and the status is 3
abbrev pub EndsOnFailure : {W : Type 0} (g : SinkGhosts W) (before now : W) (status : ℕ) → Type 0
EndsOnFailure g before now status = (g.faults now ≡ g.faults before) ⊎ ((status ≡ 3) × SinkFailsOnce g before now)

-- an answer that a crash leaves right: all of those that read, and the refusals of those that write
abbrev pub is_lasting : Command → Reply → Bool
is_lasting (commands.Release db) reply = not (is_done reply)
is_lasting (commands.Prepare db lists) reply = not (is_done reply)
is_lasting _ reply = true

-- a right answer to a command over a content is right over what a crash leaves of these operations
abbrev pub Stays : Command → Content → List Operation → Type 0
Stays c content made =
    (cut : List Operation) → IsCut made cut → (reply : Reply) → Whether (is_lasting c reply) (IsReplyTo c content reply → IsReplyTo c (after content cut) reply) (Unit {0})

-- so it is of the operations that were added, for the command that the words ask for; and whatever it is, the rows of each table
-- stay the same
pub record AnswerStays (words : List (List ℕ)) (h : History) (new : Option History) : Type 0 where
  pub made : List Operation
  pub adds : Adds (Some h) new made
  pub stays : (c : Command) → AskFor words c → Stays c (present h) made
  pub rows : (c : Command) → AskFor words c → (db table : List ℕ) → Stays (commands.Rows db table) (present h) made

-- the same, where the disk tells what was done
abbrev pub AnswersStay : List (List ℕ) → Option History → Option History → Type 0
AnswersStay words None new = Unit {0}
AnswersStay words (Some h) new = AnswerStays words h new
