-- The outcome of recovery, from what was read of a disk.
use Rattle.std.proofs.Common.{◌≡◌, ℕ, ◌≤◌, List, length, take, refl, arith, sym, ap, subst, ◌∙◌, Option, Some, None, Result, Ok, Err, length-take}
use Rattle.std.proofs.lemmas.List.{take_all}
use Rattle.spe_model.specs.declared.file.FileNo.TheVariants.{Database}
use Rattle.spe_model.specs.declared.header.HeaderFault.{HeaderFault}
use Rattle.spe_model.specs.declared.recovery.RecoverFault.{RecoverFault}
use Rattle.spe_model.specs.declared.recovery.RecoverFault.TheVariants as refusals
use Rattle.spe_model.specs.Content.{Content, bytes_of}
use Rattle.spe_model.specs.Header.{front_fault_of, page_size_at, unless}
use Rattle.spe_model.specs.Recovery.{file_page_size, recovered, recovered_front, recovered_sized}
use Rattle.spe_model.specs.Trace.{History, present}
use Rattle.spe_recover.specs.declared.heads.OtherSize.{OtherSize}
use Rattle.spe_recover.specs.declared.known.Known.{Known}
use Rattle.spe_recover.specs.declared.seen.Seen.{Seen}
use Rattle.spe_recover.specs.declared.survey.Survey.{Survey}
use Rattle.spe_recover.specs.declared.heads.JournalHead.{JournalHead}
use Rattle.spe_recover.specs.Heads.{AreHeads, IsOther, other_from}
use Rattle.spe_recover.specs.Seen.{IsScanned}
use Rattle.spe_recover.specs.Survey.{IsOfFiles, Surveys, IsSurvey, hot_outcome, sized_outcome}
use Rattle.spe_recover.specs.Known.{Tells, IsFront, IsKnown, IsRefused}
use Rattle.spe_disk.specs.Added.{IfTold}

abbrev Outcome : Type 0
Outcome = Result (List (List ℕ)) RecoverFault

sized_by : (content : Content) (page_size : ℕ) → page_size ≡ file_page_size content → (found : Option ℕ) → other_from content page_size 0 16 ≡ found
    → sized_outcome content ≡ recovered_sized content found
unfolding sized_outcome other_from
sized_by content page_size paged found is = ap (recovered_sized content) (subst (λ (n : ℕ). other_from content n 0 16 ≡ found) paged is)

hot_by : (content : Content) → recovered_sized content None ≡ hot_outcome content
unfolding hot_outcome
hot_by content = refl

is_refused : (fault : RecoverFault) (outcome : Outcome) → IsOfFiles fault → outcome ≡ Err fault → IsRefused fault outcome
is_refused refusals.Disk outcome plain is = tt
is_refused (refusals.Header f) outcome plain is = is
is_refused (refusals.JournalPage id size) outcome plain is = is
is_refused (refusals.Overlap page a b) outcome plain is = is
is_refused (refusals.TooLarge pages) outcome plain is = is
is_refused (refusals.ShortFile pages bytes) outcome plain is = is
is_refused refusals.NotPrepared outcome plain is = absurd plain
is_refused refusals.Memory outcome plain is = tt

pub refuses_other : (told : Option History) (page_size : ℕ) (front : List ℕ) (other : OtherSize) → IfTold told (IsFront page_size front)
    → IfTold told (λ content. IsOther content page_size (Some other))
    → IfTold told (λ content. sized_outcome content ≡ Err (refusals.JournalPage other.id other.size))
refuses_other None page_size front other base found = tt
refuses_other (Some h) page_size front other base found =
    sized_by (present h) page_size base.paged (Some other.id) found.first ∙ ap (λ (n : ℕ). Err (refusals.JournalPage other.id n)) found.named

-- what the survey says of all contents with what was read
abbrev pub Surveyed : (page_size size : ℕ) → (front : List ℕ) → Seen → Result Survey RecoverFault → Type 0
Surveyed page_size size front seen result =
    (content : Content) → page_size ≡ file_page_size content → size ≡ length (bytes_of content Database)
    → IsScanned content page_size seen → front ≡ take 100 (bytes_of content Database) → Surveys content result (hot_outcome content)

pub survey_ok : (told : Option History) (page_size size : ℕ) (front : List ℕ) (seen : Seen) (heads : List JournalHead) (survey : Survey) → IfTold told (IsFront page_size front)
    → IfTold told (λ content. AreHeads content page_size heads) → IfTold told (λ content. IsOther content page_size None) → IfTold told (λ content. IsScanned content page_size seen)
    → IfTold told (λ content. size ≡ length (bytes_of content Database)) → Surveyed page_size size front seen (Ok survey)
    → IfTold told (λ content. IsKnown content (record { survey = survey; seen = seen; heads = heads }) (sized_outcome content))
survey_ok None page_size size front seen heads survey base known other scanned sized surveyed = tt
survey_ok (Some h) page_size size front seen heads survey base known other scanned sized surveyed =
    let found : IsSurvey (present h) survey (hot_outcome (present h)) = surveyed (present h) base.paged sized scanned base.first in
    let same : hot_outcome (present h) ≡ sized_outcome (present h) = sym (sized_by (present h) page_size base.paged None other ∙ hot_by (present h)) in
    let pages : page_size ≡ survey.page_size = base.paged ∙ sym found.paged in
    record {
      survey = subst (λ (outcome : Outcome). IsSurvey (present h) survey outcome) same found;
      seen = subst (λ (n : ℕ). IsScanned (present h) n seen) pages scanned;
      heads = subst (λ (n : ℕ). AreHeads (present h) n heads) pages known;
    }

pub survey_err : (told : Option History) (page_size size : ℕ) (front : List ℕ) (seen : Seen) (fault : RecoverFault) → IfTold told (IsFront page_size front)
    → IfTold told (λ content. IsOther content page_size None) → IfTold told (λ content. IsScanned content page_size seen)
    → IfTold told (λ content. size ≡ length (bytes_of content Database)) → Surveyed page_size size front seen (Err fault) → IsOfFiles fault
    → IfTold told (λ content. IsRefused fault (sized_outcome content))
survey_err None page_size size front seen fault base other scanned sized surveyed plain = tt
survey_err (Some h) page_size size front seen fault base other scanned sized surveyed plain =
    is_refused fault (sized_outcome (present h)) plain
    (sized_by (present h) page_size base.paged None other ∙ hot_by (present h) ∙ surveyed (present h) base.paged sized scanned base.first)

-- what reading the page size answers, by the fault that keeps it from being known
pub none_by : (found : Option HeaderFault) (x n : ℕ) → Ok n ≡ unless found x → found ≡ None
none_by None x n e = refl
none_by (Some f) x n e = absurd cc

pub some_by : (found : Option HeaderFault) (x : ℕ) (f : HeaderFault) → Err f ≡ unless found x → found ≡ Some f
some_by None x f e = absurd cc
some_by (Some g) x f e = cc

pub size_by : (found : Option HeaderFault) (x n : ℕ) → Ok n ≡ unless found x → n ≡ x
size_by None x n e = cc
size_by (Some f) x n e = absurd cc

front_by : (content : Content) (bytes : List ℕ) (found : Option HeaderFault) → bytes ≡ take 100 (bytes_of content Database) → front_fault_of bytes ≡ found
    → recovered content ≡ recovered_front content found
unfolding recovered
front_by content bytes found is fault = ap (recovered_front content) (subst (λ (b : List ℕ). front_fault_of b ≡ found) is fault)

sized_is : (content : Content) → recovered_front content None ≡ sized_outcome content
unfolding sized_outcome
sized_is content = refl

pub find_sized : (told : Option History) (n : ℕ) (front : List ℕ) (result : Result Known RecoverFault)
    → IfTold told (λ content. take n front ≡ take 100 (bytes_of content Database)) → front_fault_of (take n front) ≡ None
    → IfTold told (λ content. Tells content result (sized_outcome content)) → IfTold told (λ content. Tells content result (recovered content))
find_sized None n front result is none answers = tt
find_sized (Some h) n front result is none answers =
    let same : sized_outcome (present h) ≡ recovered (present h) = sym (front_by (present h) (take n front) None is none ∙ sized_is (present h)) in
    subst (λ (outcome : Outcome). Tells (present h) result outcome) same answers

pub find_refused : (told : Option History) (n : ℕ) (front : List ℕ) (fault : HeaderFault)
    → IfTold told (λ content. take n front ≡ take 100 (bytes_of content Database)) → front_fault_of (take n front) ≡ Some fault
    → IfTold told (λ content. recovered content ≡ Err (refusals.Header fault))
find_refused None n front fault is some = tt
find_refused (Some h) n front fault is some = front_by (present h) (take n front) (Some fault) is some

pub find_front : (told : Option History) (n page_size : ℕ) (front : List ℕ) → length front ≡ 100 → 100 ≤ length (take n front)
    → IfTold told (λ content. take n front ≡ take 100 (bytes_of content Database)) → page_size ≡ page_size_at (take n front)
    → IfTold told (IsFront page_size front)
find_front None n page_size front long whole is paged = tt
find_front (Some h) n page_size front long whole is paged =
    let all : take n front ≡ front = take_all n front (omega (arith, length-take n front)) in
    record { paged = paged ∙ ap page_size_at is; first = sym all ∙ is }
