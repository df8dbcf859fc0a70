-- How a run of the program ends that serves clients.
use Rattle.std.specs.Prelude.{◌≡◌, ◌⊎◌, ℕ, Bool, true, false, List, [], Option, Some, None, Result, Ok, Err, IfOk}
use Rattle.spe_model.specs.declared.commit.Commit.{Commit}
use Rattle.spe_model.specs.Trace.{History}
use Rattle.spe_disk.specs.declared.disk.Disk.{Ghosts as DiskGhosts}
use Rattle.spe_disk.specs.declared.scripts.Scripts.{Ghosts as ScriptGhosts}
use Rattle.spe_disk.specs.declared.sink.Sink.{Ghosts as SinkGhosts}
use Rattle.spe_words.specs.declared.command.Command.{Command}
use Rattle.spe_words.specs.declared.command.Command.TheVariants as commands
use Rattle.spe_words.specs.declared.command.WordsFault.{WordsFault}
use Rattle.spe_words.specs.declared.command.WordsFault.TheVariants.{Words}
use Rattle.spe_words.specs.Grammar.{AskFor}
use Rattle.spe_serve.specs.declared.outcome.Outcome.{Outcome}
use Rattle.spe_serve.specs.declared.outcome.Outcome.TheVariants.{Answered, NoMemory}
use Rattle.spe_serve.specs.declared.reply.Reply.TheVariants as replies
use Rattle.spe_serve.specs.declared.run.Run.{Run}
use Rattle.spe_serve.specs.Ending.{DiskFails, Ends, Prints, outcome_text}
use Rattle.spe_serve.specs.Made.{IsMadeOf}
use Rattle.spe_serve.specs.Own.{LeavesPagesFor}
use Rattle.spe_serve.specs.Reply.{AskForNone}
use Rattle.spe_serve.specs.Run.{CountsRun, HasRunCause, IsRun, order_of, run_status, run_text}

-- a command that serves clients
abbrev pub serves : Command → Bool
serves (commands.Run db scripts workers retries slots) = true
serves c = false

-- the words ask for no such command
abbrev pub ServeNone : List (List ℕ) → Type 0
ServeNone words = (c : Command) → AskFor words c → serves c ≡ false

-- what words were read as: the command that they ask for and no other, or that they ask for none; or memory ran out
pub record IsReadAs (words : List (List ℕ)) (asked : Result Command WordsFault) : Type 0 where
  pub command : IfOk asked (AskFor words)
  pub no_other : IfOk asked (λ c. (d : Command) → AskFor words d → d ≡ c)
  pub none : asked ≡ Err Words → AskForNone words

-- what words come to that were not read as a command
abbrev pub unread_outcome : WordsFault → Outcome
unread_outcome Words = Answered replies.Words
unread_outcome short = NoMemory

-- the database and the scripts of a command that serves clients, where it is one
abbrev pub IsServing : Result Command WordsFault → Option (List ℕ × List (List ℕ)) → Type 0
IsServing asked None = IfOk asked (λ c. serves c ≡ false)
IsServing asked (Some found) = (workers : ℕ) × (retries : ℕ) × (slots : ℕ) × (asked ≡ Ok (commands.Run found.0 found.1 workers retries slots))

-- what became of clients was printed, or there was no memory for its text
abbrev pub PrintsRun : {W : Type 0} (g : SinkGhosts W) (before now : W) → Run → (status : ℕ) → Type 0
PrintsRun g before now run status = Prints g before now (run_text run) (run_status run) status ⊎ Prints g before now (outcome_text NoMemory) 4 status

-- Clients were served, or refused, by the names of their scripts, and what became of them was printed.
pub record EndsRun {D C W : Type 0} (d : DiskGhosts D) (s : ScriptGhosts C) (g : SinkGhosts W) (disk disk_now : D) (scripts scripts_now : C) (out out_now : W) (names : List (List ℕ)) (order : List Commit) (status : ℕ) : Type 0 where
  pub run : Run
  pub is : IsRun (s.texts scripts) names (d.told disk) (d.told disk_now) run
  pub order_is : order ≡ order_of run
  pub prints : PrintsRun g out out_now run status
  pub cause : HasRunCause (d.read_faults disk) (d.read_faults disk_now) (d.op_faults disk) (d.op_faults disk_now) run
  pub counts : CountsRun (s.faults scripts) (s.faults scripts_now) run

-- so it is where the words ask for clients to be served
abbrev pub EndsRunFor : {D C W : Type 0} (d : DiskGhosts D) (s : ScriptGhosts C) (g : SinkGhosts W) (disk disk_now : D) (scripts scripts_now : C) (out out_now : W) (words : List (List ℕ)) (order : List Commit) (status : ℕ) → Type 0
EndsRunFor d s g disk disk_now scripts scripts_now out out_now words order status =
    (db : List ℕ) (names : List (List ℕ)) (workers retries slots : ℕ) → AskFor words (commands.Run db names workers retries slots)
    → EndsRun d s g disk disk_now scripts scripts_now out out_now names order status

-- How a run ends that serves no client: by an outcome of the words, with the operations that go with it.
pub record EndsOther {D W : Type 0} (d : DiskGhosts D) (g : SinkGhosts W) (disk disk_now : D) (out out_now : W) (words : List (List ℕ)) (order : List Commit) (status : ℕ) : Type 0 where
  pub ends : Ends g out out_now words (d.told disk) (DiskFails d disk disk_now) (IsMadeOf words (d.told disk) (d.told disk_now)) status
  pub order_is : order ≡ []
  pub leaves : LeavesPagesFor words (d.told disk) (d.told disk_now)
