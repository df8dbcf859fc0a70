-- The pages that a call puts.
use Rattle.std.proofs.Common.{◌≡◌, ◌≢◌, ◌⊎◌, ℕ, ◌+◌, ◌<◌, ◌≤◌, ◌∙◌, ap, subst, inl, inr, ⊎_elim, arith, Some, false}
use Rattle.std.specs.Prelude.{Bool, IfErr, IfOk, OnErr, OnOk, Result, Ok, Err}
use Rattle.std.proofs.lemmas.Bool.{cases_lt}
use Rattle.spe_model.specs.FreeList.{leaf_count, next_trunk}
use Rattle.spe_model.specs.Paging.{Agrees, Paging}
use Rattle.spe_space.specs.declared.fault.SpaceFault.{SpaceFault}
use Rattle.spe_space.specs.declared.fault.SpaceFault.TheVariants.{Busy, Read, Stopped, Full, PageOut, Corrupt as Spoilt, Memory}
use Rattle.spe_space.specs.declared.fault.TreeFault.{TreeFault}
use Rattle.spe_space.specs.declared.fault.TreeFault.TheVariants.{Space, Corrupt}
use Rattle.spe_space.specs.declared.pages.Pages.{Ghosts}
use Rattle.spe_space.specs.Calls.{sight}
use Rattle.spe_space.specs.Free.{DifferAt, IsNew}
use Rattle.spe_space.specs.Front.{number_in, recounted}
use Rattle.spe_space.specs.Outcome.{Fits, FitsExtend, FitsGet, FitsPut, IsFull}
use Rattle.spe_space.specs.Space.{FrontStays}
use Rattle.spe_frame.proofs.TimesLemmas.{same_or_not}
use Rattle.spe_freelist.specs.Place.{IsForTaking, Place, WhereListed}
use Rattle.spe_freelist.specs.Steps.{Gave, GivesLeaf, GivesTrunk, GrowsNot, HasNone, LeavesAlone, MissesTrunk, OnFault, OnFullOf, TakesLeaf, TakesNew, TakesNot, TakesTrunk, Took}
use Rattle.spe_freelist.proofs.PlaceLemmas.{first_listed, listed_later}

pub first_low : {P : Type 0} (g : Ghosts P) (s : P) (pages : Paging) (first : ℕ) → Place g s pages first → 2 ≤ first
first_low g s pages first place = let low = (listed_later g s pages first place place.own.first (first_listed g s pages first place)).0 in omega (arith, low, place.first_is)

-- what a taken page changes
record Changes {P : Type 0} (g : Ghosts P) (old new : P) (pages : Paging) (first : ℕ) : Type 0 where
  laid : DifferAt (g.laid old) (g.laid new) (IsForTaking g old pages first)
  front : FrontStays g old new pages

changes_put : {P : Type 0} (g : Ghosts P) (old new : P) (pages : Paging) (first : ℕ) → 2 ≤ first → ((n : ℕ) → n ≢ first → g.laid new n ≡ g.laid old n) → Changes g old new pages first
changes_put g old new pages first low others = record {
  laid = λ n. ⊎_elim (λ (e : n ≡ first). inr (inl e)) (λ (e : n ≢ first). inl (others n e)) (same_or_not n first);
  front = inl (others 1 (λ (e : 1 ≡ first). absurd (omega (arith, e, low))));
}

changes_took : {P : Type 0} (g : Ghosts P) (old new : P) (pages : Paging) (first page : ℕ) → 2 ≤ first → g.stands old pages → Took g old new pages first page → Changes g old new pages first
changes_took g old new pages first page low stands took = ⊎_elim
    (λ (leaf : TakesLeaf g old new pages first page). changes_put g old new pages first low leaf.put.others)
    (λ (more : TakesTrunk g old new pages first page ⊎ TakesNew g old new pages first page). ⊎_elim
    (λ (trunk : TakesTrunk g old new pages first page). changes_put g old new pages first low trunk.put.others)
    (λ (fresh : TakesNew g old new pages first page).
    let grown = fresh.grown in
    let page_is = grown.numbered stands in
    let same : page + 15 ≡ number_in (sight g old pages) + 16 = omega (arith, page_is) in
    record {
      laid = λ n. ⊎_elim (λ (e : n ≡ first). inr (inl e)) (λ (e : n ≢ first). ⊎_elim (λ (one : n ≡ 1). inr (inr (inl one))) (λ (later : n ≢ 1). elim (cases_lt (number_in (sight g old pages)) n) [
        | inl above ↦ inr (inr (inr above))
        | inr under ↦ inl (grown.others n e later (λ (is : IsNew page n). absurd (omega (arith, is.0, under, page_is))))
      ]) (same_or_not n 1)) (same_or_not n first);
      front = inr (grown.front (λ (e : first ≡ 1). absurd (omega (arith, e, low))) ∙ ap (λ (n : ℕ). Some (recounted n (sight g old pages 1))) same);
    })
    more)
    took

changes_alone : {P : Type 0} (g : Ghosts P) (old new : P) (pages : Paging) (first : ℕ) → LeavesAlone g old new pages → Changes g old new pages first
changes_alone g old new pages first alone = record {
  laid = λ n. ⊎_elim (λ (one : n ≡ 1). inr (inr (inl one))) (λ (later : n ≢ 1). elim (cases_lt (number_in (sight g old pages)) n) [
    | inl above ↦ inr (inr (inr above))
    | inr under ↦ inl (alone.others n later under)
  ]) (same_or_not n 1);
  front = alone.front;
}

changes_of : {P : Type 0} (g : Ghosts P) (old new : P) (first : ℕ) (result : Result ℕ TreeFault)
    → IfOk result (λ page. (pages : Paging) → Agrees pages (g.seen new) → Took g old new pages first page)
    → OnErr result ((pages : Paging) → Agrees pages (g.seen new) → g.stands old pages → LeavesAlone g old new pages)
    → WhereListed g old new first (λ pages place. Changes g old new pages first)
changes_of g old new first (Ok page) took alone = λ pages agrees stands place. changes_took g old new pages first page (first_low g old pages first place) stands (took pages agrees)
changes_of g old new first (Err fault) took alone = λ pages agrees stands place. changes_alone g old new pages first (alone pages agrees stands)

pub laid_of : {P : Type 0} (g : Ghosts P) (old new : P) (first : ℕ) (result : Result ℕ TreeFault)
    → IfOk result (λ page. (pages : Paging) → Agrees pages (g.seen new) → Took g old new pages first page)
    → OnErr result ((pages : Paging) → Agrees pages (g.seen new) → g.stands old pages → LeavesAlone g old new pages)
    → WhereListed g old new first (λ pages place. DifferAt (g.laid old) (g.laid new) (IsForTaking g old pages first))
laid_of g old new first result took alone = λ pages agrees stands place. (changes_of g old new first result took alone pages agrees stands place).laid

pub front_of : {P : Type 0} (g : Ghosts P) (old new : P) (first : ℕ) (result : Result ℕ TreeFault)
    → IfOk result (λ page. (pages : Paging) → Agrees pages (g.seen new) → Took g old new pages first page)
    → OnErr result ((pages : Paging) → Agrees pages (g.seen new) → g.stands old pages → LeavesAlone g old new pages)
    → WhereListed g old new first (λ pages place. FrontStays g old new pages)
front_of g old new first result took alone = λ pages agrees stands place. (changes_of g old new first result took alone pages agrees stands place).front

-- the pages that are put when one is given
pub given_laid : {P X : Type 0} (g : Ghosts P) (old new : P) (first page : ℕ) (result : Result X TreeFault)
    → OnOk result ((pages : Paging) → Agrees pages (g.seen new) → Gave g old new pages first page)
    → OnErr result ((n : ℕ) → n ≢ page → g.laid new n ≡ g.laid old n)
    → (pages : Paging) → Agrees pages (g.seen new) → DifferAt (g.laid old) (g.laid new) (λ n. (n ≡ first) ⊎ (n ≡ page))
given_laid g old new first page (Ok x) gave others = λ pages agrees n. ⊎_elim (λ (e : n ≡ first). inr (inl e)) (λ (e : n ≢ first). ⊎_elim (λ (f : n ≡ page). inr (inr f)) (λ (f : n ≢ page). inl (⊎_elim
    (λ (leaf : GivesLeaf g old new pages first page). leaf.put.others n e)
    (λ (trunk : GivesTrunk g old new pages first page). trunk.put.others n e f)
    (gave pages agrees))) (same_or_not n page)) (same_or_not n first)
given_laid g old new first page (Err fault) gave others = λ pages agrees n. ⊎_elim (λ (f : n ≡ page). inr (inr f)) (λ (f : n ≢ page). inl (others n f)) (same_or_not n page)

-- Full comes only where the list has neither a leaf nor a second trunk
full_so : {P : Type 0} (g : Ghosts P) (old new : P) (first : ℕ) (fault : SpaceFault) → TakesNot g old new first fault
    → OnFullOf (λ full. g.sealed old ≡ false → (pages : Paging) → Agrees pages (g.seen new) → HasNone (sight g old pages) first × IsFull (g.count new) (g.limit old) full) fault
full_so g old new first (Busy at word) why = tt
full_so g old new first Read why = tt
full_so g old new first (Stopped op) why = tt
full_so g old new first (PageOut at n) why = tt
full_so g old new first (Spoilt at) why = tt
full_so g old new first Memory why = tt
full_so g old new first (Full full) why = λ writable pages agrees. ⊎_elim
    (λ (e : Full full ≡ Memory). absurd cc)
    (λ (more : MissesTrunk g old new first (Full full)
    ⊎ (Fits (g.sealed old) (g.count new) (FitsPut (g.count new) first) (Full full)
    ⊎ ((pages : Paging) → Agrees pages (g.seen new) → (leaf_count (sight g old pages) first ≡ 0) × (next_trunk (sight g old pages) first ≡ 0) × GrowsNot g old new (Full full)))). ⊎_elim
    (λ (missed : MissesTrunk g old new first (Full full)). absurd (⊎_elim
    (λ (one : FitsGet (g.count new) first (Full full)). one)
    (λ (two : (pages : Paging) → Agrees pages (g.seen new)
    → (0 < next_trunk (sight g old pages) first) × FitsGet (g.count new) (next_trunk (sight g old pages) first) (Full full)). (two pages agrees).1)
    missed))
    (λ (rest : Fits (g.sealed old) (g.count new) (FitsPut (g.count new) first) (Full full)
    ⊎ ((pages : Paging) → Agrees pages (g.seen new) → (leaf_count (sight g old pages) first ≡ 0) × (next_trunk (sight g old pages) first ≡ 0) × GrowsNot g old new (Full full))). ⊎_elim
    (λ (put : Fits (g.sealed old) (g.count new) (FitsPut (g.count new) first) (Full full)).
    absurd (subst (λ (s : Bool). Fits s (g.count new) (FitsPut (g.count new) first) (Full full)) writable put))
    (λ (grown : (pages : Paging) → Agrees pages (g.seen new) → (leaf_count (sight g old pages) first ≡ 0) × (next_trunk (sight g old pages) first ≡ 0) × GrowsNot g old new (Full full)).
    let is = grown pages agrees in
    ((is.0, is.1), subst (λ (s : Bool). Fits s (g.count new) (FitsExtend (g.count new) (g.limit old)) (Full full)) writable is.2.fits))
    rest)
    more)
    why

pub full_of : {P X : Type 0} (g : Ghosts P) (old new : P) (first : ℕ) (result : Result X TreeFault) (Damaged : ℕ → Type 0)
    → IfErr result (OnFault (TakesNot g old new first) Damaged)
    → IfErr result (OnFault (OnFullOf (λ full. g.sealed old ≡ false → (pages : Paging) → Agrees pages (g.seen new) → HasNone (sight g old pages) first × IsFull (g.count new) (g.limit old) full)) (λ at. Unit {0}))
full_of g old new first (Ok x) Damaged why = tt
full_of g old new first (Err (Space fault)) Damaged why = full_so g old new first fault why
full_of g old new first (Err (Corrupt at)) Damaged why = tt
