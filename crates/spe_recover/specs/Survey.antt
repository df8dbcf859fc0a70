-- What is known once all was read that recovery rests on.
use Rattle.std.specs.Prelude.{◌≡◌, ℕ, ◌*◌, ◌^◌, ◌<◌, ◌≤◌, List, take, map, length, Bool, true, false, is_some, Result, Ok, Err}
use Rattle.std.specs.Ordering.{nat_cmp}
use Rattle.std.specs.BTreeMap.{get}
use Rattle.spe_model.specs.declared.file.FileNo.TheVariants.{Database}
use Rattle.spe_model.specs.declared.recovery.RecoverFault.{RecoverFault}
use Rattle.spe_model.specs.declared.recovery.RecoverFault.TheVariants as refusals
use Rattle.spe_model.specs.Content.{Content, bytes_of}
use Rattle.spe_model.specs.Header.{IsSized, header_of}
use Rattle.spe_model.specs.Recovery.{image_of, pages_to, recovered_hot, recovered_sized, shared_page, other_size, file_page_size}
use Rattle.spe_recover.specs.declared.seen.Seen.{Seen}
use Rattle.spe_recover.specs.declared.survey.Survey.{Survey}

-- the images of the first pages
abbrev pub images_to : Content → ℕ → List (List ℕ)
images_to content count = map (image_of content) (pages_to count)

-- the pages or the refusal, where no head names another page size
unfoldable pub hot_outcome : Content → Result (List (List ℕ)) RecoverFault
hot_outcome content = recovered_hot content (shared_page content)

-- the pages or the refusal, where the page size is known
unfoldable pub sized_outcome : Content → Result (List (List ℕ)) RecoverFault
sized_outcome content = recovered_sized content (other_size content)

abbrev pub IsHeld : Seen → ℕ → Bool → Type 0
IsHeld seen p b = is_some (get nat_cmp seen.holders p) ≡ b

-- Some page above the whole ones is held by no journal.
pub record IsLacking (seen : Seen) (whole count : ℕ) : Type 0 where
  pub page : ℕ
  pub above : whole < page
  pub within : page ≤ count
  pub lacks : IsHeld seen page false

-- each page above the whole ones is held by a journal, or some page is not
abbrev pub AreHeld : Seen → (whole count : ℕ) → Bool → Type 0
AreHeld seen whole count true = (p : ℕ) → whole < p → p ≤ count → IsHeld seen p true
AreHeld seen whole count false = IsLacking seen whole count

-- the number of pages that are all there
abbrev pub Counts : Content → ℕ → Result ℕ RecoverFault → Result (List (List ℕ)) RecoverFault → Type 0
Counts content count (Ok n) outcome = (n ≡ count) × (outcome ≡ Ok (images_to content n))
Counts content count (Err fault) outcome = outcome ≡ Err fault

pub record IsSurvey (content : Content) (found : Survey) (outcome : Result (List (List ℕ)) RecoverFault) : Type 0 where
  pub header : header_of (take 100 (image_of content 1)) ≡ Ok found.header
  pub paged : found.page_size ≡ file_page_size content
  pub size : found.size ≡ length (bytes_of content Database)
  pub pages : outcome ≡ Ok (images_to content found.pages)

abbrev pub Surveys : Content → Result Survey RecoverFault → Result (List (List ℕ)) RecoverFault → Type 0
Surveys content (Ok found) outcome = IsSurvey content found outcome
Surveys content (Err fault) outcome = outcome ≡ Err fault

-- the fault speaks of what the files hold
abbrev pub IsOfFiles : RecoverFault → Type 0
IsOfFiles refusals.Disk = ⊥
IsOfFiles refusals.Memory = ⊥
IsOfFiles refusals.NotPrepared = ⊥
IsOfFiles fault = Unit {0}

-- what is known is within the limits of a file
pub record IsLimited (found : Survey) : Type 0 where
  pub header : IsSized found.header
  pub sized : found.header.page_size ≡ found.page_size
  pub some : 1 ≤ found.pages
  pub few : found.pages * found.page_size ≤ 2 ^ 30
