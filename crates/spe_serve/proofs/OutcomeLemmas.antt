-- The outcome of a search of the disk.
use Rattle.std.proofs.Common.{◌≡◌, ℕ, ◌≤◌, List, [], ap, refl, arith, subst, true, false, ⊎_elim, inl, inr, Option, Some, None, Result, Ok, Err}
use Rattle.std.specs.Prelude.{◌⊎◌, IfOk, IfErr, is_some, unwrap_or}
use Rattle.spe_model.specs.declared.file.FileNo.TheVariants.{Database}
use Rattle.spe_model.specs.Content.{Content, file_of, bytes_of}
use Rattle.spe_model.specs.Recovery.{recovered}
use Rattle.spe_model.specs.Trace.{History, present, after}
use Rattle.spe_model.specs.Faults.{Rose}
use Rattle.spe_disk.specs.declared.disk.Disk.{Ghosts}
use Rattle.spe_disk.specs.Told.{Finds, NothingDone}
use Rattle.spe_disk.specs.Added.{IfTold}
use Rattle.spe_words.specs.declared.command.Command.{Command}
use Rattle.spe_words.specs.declared.command.Command.TheVariants as commands
use Rattle.spe_words.specs.Grammar.{AskFor}
use Rattle.spe_serve.specs.declared.reply.Reply.{Reply}
use Rattle.spe_serve.specs.declared.reply.Reply.TheVariants as replies
use Rattle.spe_serve.specs.declared.outcome.Outcome.{Outcome}
use Rattle.spe_serve.specs.declared.outcome.Outcome.TheVariants as outcomes
use Rattle.spe_serve.specs.declared.failure.Failure.{Failure}
use Rattle.spe_serve.specs.declared.failure.Failure.TheVariants as failures
use Rattle.spe_serve.specs.Answer.{IsOfRecovery, IsReplyTo, is_built}
use Rattle.spe_serve.specs.Ending.{DiskFails, IsOutcome, IsOutcomeOf, IsRightReply, outcome_of}
use Rattle.spe_serve.specs.Reply.{IsAbout}
use Rattle.spe_serve.specs.Failure.{IsCausedByEither}

rose_later : (before mid now : ℕ) → before ≤ mid → Rose mid now → Rose before now
rose_later before mid now later rose = omega arith

some_bytes : (o : Option (List ℕ)) → true ≡ is_some o → o ≡ Some (unwrap_or o [])
some_bytes None e = absurd cc
some_bytes (Some bytes) e = refl

pub none_bytes : (o : Option (List ℕ)) → false ≡ is_some o → o ≡ None
none_bytes None e = refl
none_bytes (Some bytes) e = absurd cc

-- an outcome of the command that words ask for is one of the words
pub is_asked : (words : List (List ℕ)) (c : Command) (told : Option History) (rose : Type 0) (outcome : Outcome) → AskFor words c
    → IsOutcomeOf c told rose outcome → IsOutcome words told rose outcome
is_asked words c told rose (outcomes.Answered reply) asked is = inr (c, asked, is)
is_asked words c told rose outcomes.DiskFailed asked is = (c, asked, is.0, is.1)
is_asked words c told rose outcomes.NoMemory asked is = is

-- the answer of a command that is built, where there is a file
there_reply : (c : Command) (content : Content) (bytes : List ℕ) (reply : Reply) → is_built c ≡ true → file_of content Database ≡ Some bytes
    → IsOfRecovery c (recovered content) reply → IsReplyTo c content reply
there_reply (commands.Rows db table) content bytes reply built there is = rw there is
there_reply (commands.Check db) content bytes reply built there is = rw there is
there_reply (commands.Prepare db lists) content bytes reply built there is = rw there is
there_reply (commands.Release db) content bytes reply built there is = rw there is
there_reply (commands.Run db scripts workers retries slots) content bytes reply built there is = absurd cc
there_reply (commands.Work db seed count) content bytes reply built there is = absurd cc

-- and where there is none
absent_reply : (c : Command) (content : Content) → is_built c ≡ true → file_of content Database ≡ None → IsReplyTo c content replies.NoDatabase
absent_reply (commands.Rows db table) content built absent = rw absent refl
absent_reply (commands.Check db) content built absent = rw absent refl
absent_reply (commands.Prepare db lists) content built absent = rw absent refl
absent_reply (commands.Release db) content built absent = rw absent refl
absent_reply (commands.Run db scripts workers retries slots) content built absent = absurd cc
absent_reply (commands.Work db seed count) content built absent = absurd cc

pub absent_about : (c : Command) → is_built c ≡ true → IsAbout c replies.NoDatabase
absent_about (commands.Rows db table) built = tt
absent_about (commands.Check db) built = tt
absent_about (commands.Prepare db lists) built = tt
absent_about (commands.Release db) built = tt
absent_about (commands.Run db scripts workers retries slots) built = absurd cc
absent_about (commands.Work db seed count) built = absurd cc

first_is : (h : History) → NothingDone (Some h) → present h ≡ h.first
first_is h fresh = ap (after h.first) fresh

pub no_database : (c : Command) (told : Option History) → is_built c ≡ true → NothingDone told → Finds told (Ok false) → IsRightReply c told replies.NoDatabase
no_database c None built fresh found = record { about = absent_about c built; right = tt }
no_database c (Some h) built fresh found = record {
  about = absent_about c built;
  right = subst (λ (content : Content). IsReplyTo c content replies.NoDatabase) (first_is h fresh)
      (absent_reply c (present h) built (none_bytes (file_of (present h) Database) found));
}

by_counts : (c : Command) (told mid : Option History) (result : Result Reply Failure) (reads mid_reads reads_now ops mid_ops ops_now : ℕ) → is_built c ≡ true
    → NothingDone told → mid ≡ told → Finds told (Ok true)
    → IfOk result (λ reply. IfTold mid (λ content. IsOfRecovery c (recovered content) reply)) → IfOk result (IsAbout c)
    → reads ≤ mid_reads → mid_ops ≡ ops → IfErr result (IsCausedByEither mid_reads reads_now mid_ops ops_now)
    → IsOutcomeOf c told (Rose reads reads_now ⊎ Rose ops ops_now) (outcome_of result)
by_counts c told mid (Err failures.Disk) reads mid_reads reads_now ops mid_ops ops_now built fresh same found ok about later kept err = (
  built,
  ⊎_elim (λ (rose : Rose mid_reads reads_now). inl (rose_later reads mid_reads reads_now later rose))
      (λ (rose : Rose mid_ops ops_now). inr (subst (λ (n : ℕ). Rose n ops_now) kept rose)) err,
)
by_counts c told mid (Err failures.Memory) reads mid_reads reads_now ops mid_ops ops_now built fresh same found ok about later kept err = tt
by_counts c None mid (Ok reply) reads mid_reads reads_now ops mid_ops ops_now built fresh same found ok about later kept err = record { about = about; right = tt }
by_counts c (Some h) mid (Ok reply) reads mid_reads reads_now ops mid_ops ops_now built fresh same found ok about later kept err = record {
  about = about;
  right = subst (λ (content : Content). IsReplyTo c content reply) (first_is h fresh)
      (there_reply c (present h) (bytes_of (present h) Database) reply built (some_bytes (file_of (present h) Database) found) (rw same at ok));
}

pub is_outcome : {D : Type 0} (g : Ghosts D) (before mid now : D) (c : Command) (result : Result Reply Failure) → is_built c ≡ true
    → NothingDone (g.told before) → g.told mid ≡ g.told before → Finds (g.told before) (Ok true)
    → IfOk result (λ reply. IfTold (g.told mid) (λ content. IsOfRecovery c (recovered content) reply)) → IfOk result (IsAbout c)
    → g.read_faults before ≤ g.read_faults mid → g.op_faults mid ≡ g.op_faults before
    → IfErr result (IsCausedByEither (g.read_faults mid) (g.read_faults now) (g.op_faults mid) (g.op_faults now))
    → IsOutcomeOf c (g.told before) (DiskFails g before now) (outcome_of result)
is_outcome g before mid now c result built fresh same found ok about later kept err =
    by_counts c (g.told before) (g.told mid) result (g.read_faults before) (g.read_faults mid) (g.read_faults now) (g.op_faults before) (g.op_faults mid) (g.op_faults now)
    built fresh same found ok about later kept err
