-- The pages that change in a release, as they are made.
use Rattle.std.proofs.Common.{◌≡◌, ◌≢◌, ◌∙◌, ℕ, ◌≤◌, List, [], ◌∷◌, ◌++◌, length, map, sym, ap, subst, arith, true, Option, Err}
use Rattle.std.proofs.lemmas.List.Elements.{All-cons, All-nil}
use Rattle.spe_model.specs.declared.recovery.Recovered.{Recovered}
use Rattle.spe_model.specs.Database.{Database}
use Rattle.spe_model.specs.Paging.{Paging}
use Rattle.spe_model.specs.Standing.{StandsFor}
use Rattle.spe_model.specs.Trace.{History}
use Rattle.spe_frame.specs.Times.{AreSame}
use Rattle.spe_rewrite.specs.declared.change.Change.{Change}
use Rattle.spe_rewrite.specs.Changes.{AreChanges}
use Rattle.spe_convert.specs.declared.fault.ConvertFault.{ConvertFault}
use Rattle.spe_convert.specs.declared.fault.ConvertFault.TheVariants.{Corrupt, Disk, Full, Memory, Prepared}
use Rattle.spe_convert.specs.Changes.{change_of, front_change, front_page, released_changes}
use Rattle.spe_convert.specs.Dealt.{chained, first_of}
use Rattle.spe_convert.specs.Made.{HaveSize, changed_pages, heads}
use Rattle.spe_convert.specs.Reading.{HasPlainReading, HasReading, IsPlain, IsReading, WhereHeld, are_ascending, usable_of}
use Rattle.spe_convert.specs.Release.{Plans}
use Rattle.spe_convert.specs.Trunk.{room}
use Rattle.spe_convert.proofs.AscendLemmas.{ascend_by, chained_rise}

pub front_made : (count first number : ℕ) (free buf bytes : List ℕ) (pages : Paging) → first ≡ first_of free → number ≡ length free → bytes ≡ front_page count first number buf → buf ≡ pages 1
    → record { page = 1; bytes = bytes } ≡ front_change count free pages
front_made count first number free buf bytes pages first_is number_is is read =
    let whole : bytes ≡ front_page count (first_of free) (length free) (pages 1) =
    is ∙ ap (λ (f : ℕ). front_page count f number buf) first_is ∙ ap (λ (n : ℕ). front_page count (first_of free) n buf) number_is
    ∙ ap (front_page count (first_of free) (length free)) read in
    let made : List ℕ → Change = λ b. record { page = 1; bytes = b } in
    ap made whole

-- page 1 is the first of the changes
start_is : (front : Change) (none start : List Change) → none ≡ [] → start ≡ none ++ front ∷ [] → start ≡ front ∷ []
start_is front none start none_is is = is ∙ ap (λ (cs : List Change). cs ++ front ∷ []) none_is

pub stock_made : (usable count : ℕ) (free : List ℕ) (pages : Paging) (front : Change) (none start after result : List Change) → none ≡ [] → start ≡ none ++ front ∷ []
    → front ≡ front_change count free pages → after ≡ start ++ map (change_of usable pages) (chained (room usable) (length free) free) → result ≡ after
    → result ≡ released_changes usable count free pages
stock_made usable count free pages front none start after result none_is begun front_is after_is result_is =
    let trunks = map (change_of usable pages) (chained (room usable) (length free) free) in
    result_is ∙ after_is ∙ ap (λ (cs : List Change). cs ++ trunks) (start_is front none start none_is begun) ∙ ap (λ (c : Change). c ∷ trunks) front_is

pub stock_are : (size usable count : ℕ) (free : List ℕ) (front : Change) (none start after result : List Change) → none ≡ [] → start ≡ none ++ front ∷ []
    → front.page ≡ 1 → length front.bytes ≡ size → are_ascending 1 count free ≡ true
    → changed_pages after ≡ changed_pages start ++ heads (chained (room usable) (length free) free)
    → (HaveSize size start → HaveSize size after) → result ≡ after → AreChanges size result
stock_are size usable count free front none start after result none_is begun page_is sized ascends numbers keeps result_is =
    let others = heads (chained (room usable) (length free) free) in
    let one = start_is front none start none_is begun in
    let P : Change → Type 0 = λ d. length d.bytes ≡ size in
    let pages_are : changed_pages after ≡ 1 ∷ others =
    numbers ∙ ap (λ (cs : List Change). changed_pages cs ++ others) one ∙ ap (λ (p : ℕ). p ∷ others) page_is in
    subst (AreChanges size) (sym result_is) (record {
      ascending = ascend_by 0 after (1 ∷ others) pages_are (omega arith, chained_rise (room usable) (length free) 1 count free ascends);
      sized = keeps (subst (HaveSize size) (sym one) (All-cons P front [] sized (All-nil P)));
    })

pub plan_made : (told mid : Option History) (found : Recovered) (count : ℕ) (changes : List Change) (free slice again : List ℕ) → slice ≡ free → again ≡ free → mid ≡ told
    → count ≡ length again → are_ascending 1 found.pages free ≡ true
    → WhereHeld mid found (λ pages. changes ≡ released_changes (usable_of found) found.pages slice pages)
    → WhereHeld told found (λ pages. (db : Database) (stands : StandsFor (usable_of found) found.pages pages db) → AreSame free stands.listed)
    → Plans found told count changes
plan_made told mid found count changes free slice again slice_is again_is same count_is ascends made all = record {
  free = free;
  ascending = ascends;
  counted_is = count_is ∙ ap length again_is;
  changes_are =
      subst (λ (t : Option History). WhereHeld t found (λ pages. changes ≡ released_changes (usable_of found) found.pages free pages)) same
      (subst (λ (ns : List ℕ). WhereHeld mid found (λ pages. changes ≡ released_changes (usable_of found) found.pages ns pages)) slice_is made);
  all = all;
}

-- a call that only reads finds no damage
pub plain_other : (before now : ℕ) (fault : ConvertFault) → IsPlain before now fault → (page : ℕ) → fault ≢ Corrupt page
plain_other before now Disk plain page = λ same. absurd cc
plain_other before now Memory plain page = λ same. absurd cc
plain_other before now (Corrupt n) plain page = absurd plain
plain_other before now (Full n) plain page = absurd plain
plain_other before now Prepared plain page = absurd plain

plain_reading : (before mid now : ℕ) (fault : ConvertFault) → before ≤ mid → IsPlain mid now fault → IsReading before now fault
plain_reading before mid now Disk low plain = omega (arith, low, plain)
plain_reading before mid now Memory low plain = tt
plain_reading before mid now (Corrupt n) low plain = tt
plain_reading before mid now (Full n) low plain = plain
plain_reading before mid now Prepared low plain = plain

pub reading_behind : {X T : Type 0} (before mid now : ℕ) (fault : ConvertFault) → before ≤ mid → HasPlainReading {T = X} mid now (Err fault) → HasReading {T = T} before now (Err fault)
reading_behind before mid now fault low cause = record {
  later = omega (arith, low, cause.later);
  failed = plain_reading before mid now fault low cause.failed;
}
