-- What recovery answers.
use Rattle.std.specs.Prelude.{◌≡◌, ℕ, ◌<◌, ◌≤◌, ◌⊎◌, Bool, true, false, not, ◌&&◌, ◌==◌, List, [], length, map, Option, Some, None, Result, Ok, Err, IfErr, if◌then◌else◌}
use Rattle.std.specs.Int.{bit_at}
use Rattle.spe_model.specs.declared.header.Header.{Header}
use Rattle.spe_model.specs.declared.recovery.RecoverFault.{RecoverFault}
use Rattle.spe_model.specs.declared.recovery.RecoverFault.TheVariants as refusals
use Rattle.spe_model.specs.Content.{Content}
use Rattle.spe_model.specs.Faults.{Rose}
use Rattle.spe_model.specs.Header.{is_size_valid}
use Rattle.spe_model.specs.Journal.{is_hot}
use Rattle.spe_model.specs.Recovery.{file_page, file_page_size, journal_of, pages_to, recovered, recovered_header}
use Rattle.spe_model.specs.Rollback.{rule_of}
use Rattle.spe_model.specs.Trace.{Operation}
use Rattle.spe_recover.specs.declared.want.Want.{Want}
use Rattle.spe_recover.specs.declared.want.Want.TheVariants.{Any, Prepared}

-- there are so many recovered pages
pub record HasPages (content : Content) (count : ℕ) : Type 0 where
  pub pages : List (List ℕ)
  pub recovers : recovered content ≡ Ok pages
  pub counted : length pages ≡ count

-- offset 32 names a page, offset 36 is 0, and the size in pages counts
abbrev pub is_prepared : Header → Bool
is_prepared h = not (h.first_free == 0) && (h.free_count == 0) && is_size_valid h

-- the header is such as is wanted
abbrev pub is_wanted : Want → Header → Bool
is_wanted Any h = true
is_wanted Prepared h = is_prepared h

-- a bit for each hot journal
abbrev pub AreHotBits : Content → ℕ → Type 0
AreHotBits content bits = (id : ℕ) → id < 16 → bit_at bits id ≡ (if is_hot (file_page_size content) (journal_of content id) then 1 else 0)

-- there are recovered pages, and their header is not such as is wanted
pub record IsUnwanted (want : Want) (content : Content) : Type 0 where
  pub count : ℕ
  pub pages : HasPages content count
  pub unwanted : is_wanted want (recovered_header content) ≡ false

-- Why a content is refused: it has no recovered pages, for this reason, or they are not such as are wanted.
abbrev pub IsRefusal : Want → RecoverFault → Content → Type 0
IsRefusal want refusals.Disk content = Unit {0}
IsRefusal want refusals.Memory content = Unit {0}
IsRefusal want refusals.NotPrepared content = IsUnwanted want content
IsRefusal want fault content = recovered content ≡ Err fault

-- any refusal, want of memory too, but for a failure of the disk
abbrev pub IsPlain : RecoverFault → Type 0
IsPlain refusals.Disk = ⊥
IsPlain fault = Unit {0}

abbrev pub IsEitherFault : (reads reads_now ops ops_now : ℕ) → RecoverFault → Type 0
IsEitherFault reads reads_now ops ops_now refusals.Disk = Rose reads reads_now ⊎ Rose ops ops_now
IsEitherFault reads reads_now ops ops_now _ = Unit {0}

-- two counts of faults never fall, and one has risen where the disk failed
pub record HasCauses {X : Type 0} (reads reads_now ops ops_now : ℕ) (result : Result X RecoverFault) : Type 0 where
  pub reads_later : reads ≤ reads_now
  pub ops_later : ops ≤ ops_now
  pub failed : IfErr result (IsEitherFault reads reads_now ops ops_now)

-- no journal has bytes
abbrev pub HasNoJournals : Content → Type 0
HasNoJournals content = (id : ℕ) → id < 16 → journal_of content id ≡ []

-- the recovered pages of one content are the first pages of the other's file
abbrev pub AreInFile : ℕ → (content now : Content) → Type 0
AreInFile count content now = recovered content ≡ Ok (map (file_page now) (pages_to count))

-- the operations of the rule, where there are recovered pages, and else none
abbrev pub rollback_to : Content → Result (List (List ℕ)) RecoverFault → List Operation
rollback_to content (Ok pages) = rule_of content (length pages)
rollback_to content (Err fault) = []

-- the operations that roll a content back
abbrev pub rollback_of : Content → List Operation
rollback_of content = rollback_to content (recovered content)
