-- What is known of a disk before recovery makes an operation, or why it is refused.
use Rattle.std.specs.Prelude.{◌≡◌, ℕ, ◌≤◌, List, take, Result, Ok, Err, IfErr}
use Rattle.spe_model.specs.declared.file.FileNo.TheVariants.{Database}
use Rattle.spe_model.specs.declared.recovery.RecoverFault.{RecoverFault}
use Rattle.spe_model.specs.declared.recovery.RecoverFault.TheVariants as refusals
use Rattle.spe_model.specs.Content.{Content, bytes_of}
use Rattle.spe_model.specs.Faults.{Rose}
use Rattle.spe_model.specs.Recovery.{file_page_size}
use Rattle.spe_recover.specs.declared.failure.Failure.{Failure}
use Rattle.spe_recover.specs.declared.failure.Failure.TheVariants.{Disk, Memory}
use Rattle.spe_recover.specs.declared.known.Known.{Known}
use Rattle.spe_recover.specs.Heads.{AreHeads}
use Rattle.spe_recover.specs.Seen.{IsScanned}
use Rattle.spe_recover.specs.Survey.{IsSurvey}

abbrev pub of_failure : Failure → RecoverFault
of_failure Disk = refusals.Disk
of_failure Memory = refusals.Memory

-- the file's page size and its first bytes
pub record IsFront (page_size : ℕ) (front : List ℕ) (content : Content) : Type 0 where
  pub paged : page_size ≡ file_page_size content
  pub first : front ≡ take 100 (bytes_of content Database)

-- the fault is the outcome's, unless the disk failed or memory ran out
abbrev pub IsRefused : RecoverFault → Result (List (List ℕ)) RecoverFault → Type 0
IsRefused refusals.Disk outcome = Unit {0}
IsRefused refusals.Memory outcome = Unit {0}
IsRefused refusals.NotPrepared outcome = ⊥
IsRefused fault outcome = outcome ≡ Err fault

pub record IsKnown (content : Content) (known : Known) (outcome : Result (List (List ℕ)) RecoverFault) : Type 0 where
  pub survey : IsSurvey content known.survey outcome
  pub seen : IsScanned content known.survey.page_size known.seen
  pub heads : AreHeads content known.survey.page_size known.heads

-- what is known is so, or the fault is the outcome's
abbrev pub Tells : Content → Result Known RecoverFault → Result (List (List ℕ)) RecoverFault → Type 0
Tells content (Ok known) outcome = IsKnown content known outcome
Tells content (Err fault) outcome = IsRefused fault outcome

abbrev pub IsFaultOf : ℕ → ℕ → RecoverFault → Type 0
IsFaultOf before now refusals.Disk = Rose before now
IsFaultOf before now _ = Unit {0}

-- a count of faults never falls, and has risen where the disk failed
pub record HasFault {X : Type 0} (before now : ℕ) (result : Result X RecoverFault) : Type 0 where
  pub later : before ≤ now
  pub failed : IfErr result (IsFaultOf before now)
