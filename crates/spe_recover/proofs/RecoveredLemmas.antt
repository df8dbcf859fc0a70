-- What recovery answers.
use Rattle.std.proofs.Common.{◌≡◌, ℕ, zero, suc, ◌+◌, List, [], ◌∷◌, length, map, take, refl, sym, ap, subst, ◌∙◌, Bool, false, Option, Some, None, Ok}
use Rattle.spe_model.specs.declared.header.Header.{Header}
use Rattle.spe_model.specs.declared.header.HeaderFault.{HeaderFault}
use Rattle.spe_model.specs.declared.recovery.RecoverFault.{RecoverFault}
use Rattle.spe_model.specs.declared.recovery.RecoverFault.TheVariants as refusals
use Rattle.spe_model.specs.Content.{Content}
use Rattle.spe_model.specs.Header.{header_of, fields, unless, faults, has_fault, node_of}
use Rattle.spe_model.specs.Journal.{numbers_from}
use Rattle.spe_model.specs.Recovery.{image_of, recovered, file_page_size}
use Rattle.spe_model.specs.Trace.{History, present}
use Rattle.std.specs.List.{find}
use Rattle.spe_recover.specs.declared.known.Known.{Known}
use Rattle.spe_recover.specs.declared.want.Want.{Want}
use Rattle.std.specs.Int.{bit_at}
use Rattle.std.specs.Prelude.{◌<◌, if◌then◌else◌}
use Rattle.spe_model.specs.Journal.{is_hot}
use Rattle.spe_model.specs.Recovery.{journal_of}
use Rattle.spe_recover.specs.declared.heads.JournalHead.{JournalHead}
use Rattle.spe_recover.specs.declared.survey.Survey.{Survey}
use Rattle.spe_recover.specs.declared.failure.Failure.{Failure}
use Rattle.spe_recover.specs.declared.failure.Failure.TheVariants as failures
use Rattle.spe_recover.specs.Heads.{AreHeads}
use Rattle.spe_recover.specs.Restored.{Holders}
use Rattle.spe_recover.specs.Known.{IsKnown, IsRefused, of_failure}
use Rattle.spe_recover.specs.Survey.{images_to}
use Rattle.spe_model.specs.Rollback.{rule_of}
use Rattle.spe_disk.specs.Added.{AddsCut, IfTold, MakesCut}
use Rattle.spe_recover.specs.Written.{IsReady, MakesCounted}
use Rattle.spe_recover.specs.Recovered.{AreHotBits, HasPages, IsPlain, IsRefusal, IsUnwanted, is_wanted, rollback_of, rollback_to}
use Rattle.spe_recover.proofs.CutLemmas.{IsCut-whole}
use Rattle.spe_model.specs.Recovery.{recovered_header}
use Rattle.spe_recover.proofs.SurveyLemmas.{some_of, is_read}

numbers-length : (n count : ℕ) → length (numbers_from n count) ≡ count
numbers-length n zero = refl
numbers-length n (suc count) = ap suc (numbers-length (n + 1) count)

length-images : (f : ℕ → List ℕ) (xs : List ℕ) → length (map f xs) ≡ length xs
length-images f [] = refl
length-images f (x ∷ xs) = ap suc (length-images f xs)

of_ok : (found : Option HeaderFault) (x h : Header) → unless found x ≡ Ok h → x ≡ h
of_ok None x h e = cc
of_ok (Some f) x h e = absurd cc

header_is : (content : Content) (h : Header) → header_of (take 100 (image_of content 1)) ≡ Ok h → recovered_header content ≡ h
unfolding recovered_header
header_is content h e = of_ok (find (has_fault (take 100 (image_of content 1))) faults) (fields (take 100 (image_of content 1))) h e

pages_known : (content : Content) (known : Known) → IsKnown content known (recovered content) → HasPages content known.survey.pages
pages_known content known k = record {
  pages = images_to content known.survey.pages;
  recovers = k.survey.pages;
  counted = length-images (image_of content) (numbers_from 1 known.survey.pages) ∙ numbers-length 1 known.survey.pages;
}

pub found_pages : (told : Option History) (known : Known) (count : ℕ) → count ≡ known.survey.pages → IfTold told (λ content. IsKnown content known (recovered content))
    → IfTold told (λ content. HasPages content count)
found_pages None known count is k = tt
found_pages (Some h) known count is k = rw is (pages_known (present h) known k)

pub found_size : (told : Option History) (known : Known) → IfTold told (λ content. IsKnown content known (recovered content))
    → IfTold told (λ content. known.survey.page_size ≡ file_page_size content)
found_size None known k = tt
found_size (Some h) known k = k.survey.paged

pub found_header : (told : Option History) (known : Known) → IfTold told (λ content. IsKnown content known (recovered content))
    → IfTold told (λ content. known.survey.header ≡ recovered_header content)
found_header None known k = tt
found_header (Some h) known k = sym (header_is (present h) known.survey.header k.survey.header)

pub found_reserved : (told : Option History) (header : Header) (reserved : ℕ) → reserved ≡ header.reserved → IfTold told (λ content. header ≡ recovered_header content)
    → IfTold told (λ content. reserved ≡ (recovered_header content).reserved)
found_reserved None header reserved is same = tt
found_reserved (Some h) header reserved is same = is ∙ ap (λ (x : Header). x.reserved) same

pub found_node : (told : Option History) (header : Header) (node : Option ℕ) → node ≡ node_of header → IfTold told (λ content. header ≡ recovered_header content)
    → IfTold told (λ content. node ≡ node_of (recovered_header content))
found_node None header node is same = tt
found_node (Some h) header node is same = is ∙ ap node_of same

pub found_wanted : (told : Option History) (header : Header) (want : Want) (wanted : Bool) → is_wanted want header ≡ wanted → IfTold told (λ content. header ≡ recovered_header content)
    → IfTold told (λ content. is_wanted want (recovered_header content) ≡ wanted)
found_wanted None header want wanted is same = tt
found_wanted (Some h) header want wanted is same = ap (is_wanted want) (sym same) ∙ is

pub is_unwanted : (told : Option History) (known : Known) (want : Want) → is_wanted want known.survey.header ≡ false
    → IfTold told (λ content. IsKnown content known (recovered content)) → IfTold told (IsUnwanted want)
is_unwanted None known want not_wanted k = tt
is_unwanted (Some h) known want not_wanted k = record {
  count = known.survey.pages;
  pages = pages_known (present h) known k;
  unwanted = ap (is_wanted want) (header_is (present h) known.survey.header k.survey.header) ∙ not_wanted;
}

refusal_of : (want : Want) (fault : RecoverFault) (content : Content) → IsRefused fault (recovered content) → IsRefusal want fault content
refusal_of want refusals.Disk content is = tt
refusal_of want (refusals.Header f) content is = is
refusal_of want (refusals.JournalPage id size) content is = is
refusal_of want (refusals.Overlap page a b) content is = is
refusal_of want (refusals.TooLarge pages) content is = is
refusal_of want (refusals.ShortFile pages bytes) content is = is
refusal_of want refusals.NotPrepared content is = absurd is
refusal_of want refusals.Memory content is = tt

pub is_refusal : (told : Option History) (want : Want) (fault : RecoverFault) → IfTold told (λ content. IsRefused fault (recovered content)) → IfTold told (IsRefusal want fault)
is_refusal None want fault is = tt
is_refusal (Some h) want fault is = refusal_of want fault (present h) is

pub is_ready : (told : Option History) (known : Known) → IfTold told (λ content. IsKnown content known (recovered content)) → IfTold told (IsReady known.survey known.seen.holders)
is_ready None known k = tt
is_ready (Some h) known k = record {
  paged = k.survey.paged;
  size = k.survey.size;
  held = some_of (present h) known.seen (is_read (present h) known.survey.page_size known.seen k.survey.paged k.seen);
}

rollback_is : (content : Content) (known : Known) → IsKnown content known (recovered content) → rule_of content known.survey.pages ≡ rollback_of content
rollback_is content known k =
    let found = pages_known content known k in
    ap (rule_of content) (sym found.counted) ∙ ap (rollback_to content) (sym found.recovers)

pub rolling_stopped : (told new : Option History) (known : Known) → IfTold told (λ content. IsKnown content known (recovered content))
    → MakesCut told new (λ content. rule_of content known.survey.pages) → MakesCut told new rollback_of
rolling_stopped None new known k cut = tt
rolling_stopped (Some h) new known k cut = subst (AddsCut (Some h) new) (rollback_is (present h) known k) cut

pub rolling_done : (told new : Option History) (known : Known) (made : ℕ) → IfTold told (λ content. IsKnown content known (recovered content))
    → MakesCounted told new (λ content. rule_of content known.survey.pages) made → MakesCut told new rollback_of
rolling_done None new known made k makes = tt
rolling_done (Some h) new known made k makes =
    let ops = rule_of (present h) known.survey.pages in
    subst (AddsCut (Some h) new) (rollback_is (present h) known k) (record { made = ops; adds = makes.adds; holds = IsCut-whole ops })

pub found_heads : (told : Option History) (known : Known) → IfTold told (λ content. IsKnown content known (recovered content))
    → IfTold told (λ content. AreHeads content known.survey.page_size known.heads)
found_heads None known k = tt
found_heads (Some h) known k = k.heads

-- the bits of the journals that are rolled back
pub found_rolled : (told : Option History) (page_size rolled : ℕ) (heads : List JournalHead) (survey : Survey) (holders : Holders) → page_size ≡ survey.page_size
    → ((content : Content) (page_size : ℕ) → AreHeads content page_size heads → (id : ℕ) → id < 16 → bit_at rolled id ≡ (if is_hot page_size (journal_of content id) then 1 else 0))
    → IfTold told (λ content. AreHeads content page_size heads) → IfTold told (IsReady survey holders) → IfTold told (λ content. AreHotBits content rolled)
found_rolled None page_size rolled heads survey holders is bits known ready = tt
found_rolled (Some h) page_size rolled heads survey holders is bits known ready =
    let paged : page_size ≡ file_page_size (present h) = is ∙ ready.paged in
    bits (present h) (file_page_size (present h)) (subst (λ (n : ℕ). AreHeads (present h) n heads) paged known)

-- want of memory came before any operation
pub rolling_untouched : (failure : Failure) (fault : RecoverFault) (old new : Option History) → fault ≡ of_failure failure → (failure ≡ failures.Memory → new ≡ old) → IsPlain fault → new ≡ old
rolling_untouched failures.Disk fault old new is same plain = absurd (subst IsPlain is plain)
rolling_untouched failures.Memory fault old new is same plain = same refl
