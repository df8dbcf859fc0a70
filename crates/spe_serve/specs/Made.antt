-- What a command does to the files: the operations of recovery's rule, and then its own.
use Rattle.std.specs.Prelude.{◌≡◌, ◌≢◌, ◌⊎◌, ℕ, Bool, true, List, [], ◌++◌, Option, Result, Ok, Err}
use Rattle.spe_model.specs.declared.recovery.Recovered.{Recovered}
use Rattle.spe_model.specs.declared.recovery.RecoverFault.{RecoverFault}
use Rattle.spe_model.specs.Content.{Content}
use Rattle.spe_model.specs.Recovery.{recovered}
use Rattle.spe_model.specs.Settled.{IsFound, header_in}
use Rattle.spe_model.specs.Standing.{Whether}
use Rattle.spe_model.specs.Trace.{Operation, History, IsCut}
use Rattle.spe_disk.specs.Told.{absent_journals, makings}
use Rattle.spe_recover.specs.Recovered.{is_wanted, rollback_of}
use Rattle.spe_disk.specs.Added.{IfBothTold, WhereAdded}
use Rattle.spe_words.specs.declared.command.Command.{Command}
use Rattle.spe_words.specs.declared.command.Command.TheVariants as commands
use Rattle.spe_words.specs.Grammar.{AskFor}
use Rattle.spe_serve.specs.declared.outcome.Outcome.{Outcome}
use Rattle.spe_serve.specs.declared.outcome.Outcome.TheVariants.{Answered, DiskFailed, NoMemory}
use Rattle.spe_serve.specs.Answer.{is_built, want_of}
use Rattle.spe_serve.specs.Own.{AreOwn, AreTheFree, LeavesAtLast, rolled_back}

-- none where there are no recovered pages, or not such as the command wants
abbrev pub AreOwnOver : Command → Content → (free : List ℕ) → Result (List (List ℕ)) RecoverFault → (own : List Operation) → Type 0
AreOwnOver c content free (Ok pages) own = Whether (is_wanted (want_of c) (header_in pages)) (AreOwn c content pages free own) (own ≡ [])
AreOwnOver c content free (Err fault) own = own ≡ []

-- those of recovery's rule, and then the command's own
pub record RollsBackFirst (c : Command) (content : Content) (free : List ℕ) (made : List Operation) : Type 0 where
  pub own : List Operation
  pub owned : AreOwnOver c content free (recovered content) own
  pub both : made ≡ rollback_of content ++ own

-- all operations of a command over a content, where these are the free pages; one that is not built makes none
abbrev pub AreOperationsOf : Command → Content → (free : List ℕ) → (made : List Operation) → Type 0
AreOperationsOf c content free made = Whether (is_built c) (RollsBackFirst c content free made) (made ≡ [])

-- the free pages are those of the recovered pages
abbrev pub AreFreeIn : Command → Result (List (List ℕ)) RecoverFault → (free : List ℕ) → Type 0
AreFreeIn c (Ok pages) free = AreTheFree c pages free
AreFreeIn c (Err fault) free = Unit {0}

-- the recovered pages, where there are any, are such as the command wants
abbrev pub has_wanted : Command → Result (List (List ℕ)) RecoverFault → Bool
has_wanted c (Ok pages) = is_wanted (want_of c) (header_in pages)
has_wanted c (Err fault) = true

-- these are all operations of a command over a content, with the free pages that there are
pub record AreAllWith (c : Command) (content : Content) (made : List Operation) : Type 0 where
  pub free : List ℕ
  pub free_are : AreFreeIn c (recovered content) free
  pub of : AreOperationsOf c content free made

-- the same; where the recovered pages are not such as the command wants there are none, and nothing is rolled back
abbrev pub AreAllOf : Command → Content → (made : List Operation) → Type 0
AreAllOf c content made = Whether (has_wanted c (recovered content)) (AreAllWith c content made) (made ≡ [])

-- Some operations are what a crash within those of a command leaves, with some free pages. Of a command that makes none of its
-- own the free pages play no part.
pub record ArePartOf (c : Command) (content : Content) (added : List Operation) : Type 0 where
  pub made : List Operation
  pub free : List ℕ
  pub of : AreOperationsOf c content free made
  pub part : IsCut made added

-- all operations of a command were added, where the disk tells it
abbrev pub MakesAll : Command → (old new : Option History) → Type 0
MakesAll c old new = WhereAdded old new (AreAllOf c)

-- a part of them was
abbrev pub MakesPart : Command → (old new : Option History) → Type 0
MakesPart c old new = WhereAdded old new (ArePartOf c)

-- the file holds the pages that the command leaves of these, and no journal has bytes
pub record HoldsLast (c : Command) (pages : List (List ℕ)) (now : Content) : Type 0 where
  pub later : List (List ℕ)
  pub left : LeavesAtLast c pages later
  pub found : Recovered
  pub is : IsFound found now later

-- it is so of the recovered pages, where they are such as the command wants
abbrev pub IsSettled : Command → (content now : Content) → Type 0
IsSettled c content now =
    (pages : List (List ℕ)) → recovered content ≡ Ok pages → Whether (is_wanted (want_of c) (header_in pages)) (HoldsLast c pages now) (Unit {0})

-- it is so at last, where the disk tells it
abbrev pub Settles : Command → (old new : Option History) → Type 0
Settles c old new = IfBothTold old new (IsSettled c)

-- recovery's operations were made alone, or with those that make the absent journals
abbrev pub AreBeforeOwn : Content → (made : List Operation) → Type 0
AreBeforeOwn content made = (made ≡ rollback_of content) ⊎ (made ≡ rollback_of content ++ makings (absent_journals (rolled_back content)))

-- Where memory ran out all were made or none, or of `release` those before its transaction. `prepare` has two transactions, and
-- memory may end between them.
abbrev pub MakesSome : Command → (old new : Option History) → Type 0
MakesSome (commands.Release db) old new = (new ≡ old) ⊎ (MakesAll (commands.Release db) old new ⊎ WhereAdded old new AreBeforeOwn)
MakesSome (commands.Prepare db lists) old new = MakesPart (commands.Prepare db lists) old new
MakesSome c old new = (new ≡ old) ⊎ MakesAll c old new

-- what is said where there is an answer
abbrev pub OnAnswer : Outcome → Type 0 → Type 0
OnAnswer (Answered reply) what = what
OnAnswer DiskFailed what = Unit {0}
OnAnswer NoMemory what = Unit {0}

-- all were made where there is an answer
abbrev pub MakesFor : Command → (old new : Option History) → Outcome → Type 0
MakesFor c old new (Answered reply) = MakesAll c old new
MakesFor c old new DiskFailed = Unit {0}
MakesFor c old new NoMemory = MakesSome c old new

-- a part of a command's operations was made, whatever came of it; where there is an answer, all were, and the files are settled then
pub record IsMadeFor (c : Command) (old new : Option History) (outcome : Outcome) : Type 0 where
  pub part : MakesPart c old new
  pub whole : MakesFor c old new outcome
  pub settled : is_built c ≡ true → OnAnswer outcome (Settles c old new)

-- the same of the command that words ask for, where they ask for one
abbrev pub IsMadeOf : (words : List (List ℕ)) (old new : Option History) (outcome : Outcome) → Type 0
IsMadeOf words old new outcome = (c : Command) → AskFor words c → IsMadeFor c old new outcome

-- the same by the status: 3 is a fault, 4 is want of memory, and any other an answer
pub record IsMadeAt (c : Command) (old new : Option History) (status : ℕ) : Type 0 where
  pub part : MakesPart c old new
  pub whole : status ≢ 3 → status ≢ 4 → MakesAll c old new
  pub settled : status ≢ 3 → status ≢ 4 → is_built c ≡ true → Settles c old new
