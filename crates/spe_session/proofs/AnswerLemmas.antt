-- What a pager answers when a page is taken from its list, or given to it.
use Rattle.std.proofs.Common.{◌≡◌, ◌≢◌, ◌⊎◌, ◌+◌, ◌≤◌, ◌∙◌, ℕ, List, Option, None, sym, ap, subst, arith, inl, inr, ⊎_elim, true, false, unwrap_or}
use Rattle.std.specs.Prelude.{Bool, IsTrue, Err}
use Rattle.std.proofs.lemmas.Bool.{cases_lt}
use Rattle.spe_model.specs.Big.{u32_at}
use Rattle.spe_model.specs.Paging.{Agrees, Paging}
use Rattle.spe_space.specs.declared.fault.TreeFault.{TreeFault}
use Rattle.spe_space.specs.declared.fault.TreeFault.TheVariants.{Space, Corrupt}
use Rattle.spe_space.specs.declared.fault.SpaceFault.{SpaceFault}
use Rattle.spe_space.specs.declared.fault.SpaceFault.TheVariants.{Busy, Read, Stopped, Full, PageOut, Corrupt as Spoilt, Memory}
use Rattle.spe_space.specs.declared.pages.Pages.{Ghosts}
use Rattle.spe_space.specs.Calls.{sight}
use Rattle.spe_space.specs.Free.{DifferAt, IsFreed}
use Rattle.spe_space.specs.Front.{list_in, number_in}
use Rattle.spe_space.specs.Outcome.{Fits, FitsFree, FitsGet, FitsPut, IsFull, IsInside, IsSure, OnFull}
use Rattle.spe_space.specs.Space.{Allots, Each, FreeStays, FrontStays, IsForAlloc, IsForFree, IsNext, MayBeFreed, count_after}
use Rattle.spe_frame.specs.Times.{times}
use Rattle.spe_frame.proofs.TimesLemmas.{same_or_not}
use Rattle.spe_freelist.specs.Lists.{freed}
use Rattle.spe_freelist.specs.Place.{IsForTaking, IsLikelyOfTree, IsSureOfTree, LeavesLists, ListsStay, MayBeGiven, TakesPage, WhereListed, trunks_of}
use Rattle.spe_freelist.specs.Steps.{GivesNot, HasNone, IsTrunkOf, OnFullOf, Took}
use Rattle.spe_freelist.proofs.LaidLemmas.{first_low}
use Rattle.spe_session.specs.Lists.{AreInOrder, is_listed, next_in}
use Rattle.spe_session.proofs.OrderLemmas.{listed_free}
use Rattle.spe_session.proofs.FreeLemmas.{counts, freed_counted, has_trunk, one_given}
use Rattle.spe_session.proofs.AllocLemmas.{Spaces, allots, counted_after, first_free, handed, inside_of, is_next, laid_at, none_next, own_started, own_whole, place_of, seen_at, stands_again, stay_free}

-- what the list answers of the pages that it reads and puts, whether a page is taken or not
pub record Changes {P : Type 0} (g : Ghosts P) (first : ℕ) (old new : P) : Type 0 where
  pub laid : WhereListed g old new first (λ pages place. DifferAt (g.laid old) (g.laid new) (IsForTaking g old pages first))
  pub front : WhereListed g old new first (λ pages place. FrontStays g old new pages)
  pub named : WhereListed g old new first (λ pages place. number_in (sight g new pages) ≡ g.count new)
  pub seen : (pages : Paging) → Agrees pages (g.seen new) → DifferAt (g.seen old) (g.seen new) (IsTrunkOf (sight g old pages) first)
  pub earlier : (pages : Paging) → Agrees pages (g.seen new) → Agrees pages (g.seen old)
  pub used : g.used new ≡ g.used old
  pub more : g.count old ≤ g.count new
  pub counted : (pages : Paging) → Agrees pages (g.seen new) → HasNone (sight g old pages) first ⊎ (g.count new ≡ g.count old)
  pub grown : (g.count new ≡ g.count old) ⊎ (g.count new ≡ g.count old + 16)

-- and of the page that is taken
pub record Takes {P : Type 0} (g : Ghosts P) (first : ℕ) (old new : P) (page : ℕ) : Type 0 where
  pub changes : Changes g first old new
  pub put : (pages : Paging) → Agrees pages (g.seen new) → Took g old new pages first page
  pub taken : WhereListed g old new first (λ pages place. TakesPage g old new pages first page place)

module _ {P : Type 0} (g : Ghosts P) (first : ℕ) (spaces : Spaces g first) (old new : P) (c : Changes g first old new) where
  pub laid_each : Each g old new (λ pages. DifferAt (g.laid old) (g.laid new) (IsForAlloc g old pages))
  laid_each pages agrees stood =
      let o = spaces.order old pages stood in
      laid_at g first spaces old new pages o (c.laid pages agrees stood (place_of g first old pages o))

  pub seen_each : Each g old new (λ pages. DifferAt (g.seen old) (g.seen new) (IsForAlloc g old pages))
  seen_each pages agrees stood = seen_at g first spaces old new pages (spaces.order old pages stood) (c.seen pages agrees)

  pub front_each : Each g old new (FrontStays g old new)
  front_each pages agrees stood = c.front pages agrees stood (place_of g first old pages (spaces.order old pages stood))

  pub fail_stands : WhereListed g old new first (λ pages place. ListsStay g old new pages first place) → Each g old new (g.stands new)
  fail_stands stay pages agrees stood =
      let o = spaces.order old pages stood in
      let place = place_of g first old pages o in
      stands_again g first spaces old new pages o (trunks_of g old pages place) (stay pages agrees stood place) c.used (c.named pages agrees stood place)

  pub fail_free : WhereListed g old new first (λ pages place. ListsStay g old new pages first place) → Each g old new (FreeStays g old new)
  fail_free stay pages agrees stood =
      let o = spaces.order old pages stood in
      stay_free g first spaces old new pages o (stay pages agrees stood (place_of g first old pages o))

module _ {P : Type 0} (g : Ghosts P) (first : ℕ) (spaces : Spaces g first) (old new : P) (page : ℕ) (t : Takes g first old new page) where
  pub take_next : (pages : Paging) → Agrees pages (g.seen new) → IsNext (next_in first (sight g old pages)) (g.count old) (g.count new) page
  take_next pages agrees = is_next g old new pages first page (handed g old new pages first page (t.put pages agrees))

  pub take_counted : (pages : Paging) → Agrees pages (g.seen new) → g.count new ≡ count_after (next_in first (sight g old pages)) (g.count old)
  take_counted pages agrees = counted_after g old new pages first page (handed g old new pages first page (t.put pages agrees)) (t.changes.counted pages agrees) t.changes.grown

  pub take_allots : Each g old new (λ pages. Allots g old new (next_in first (sight g old pages)) page pages)
  take_allots pages agrees stood =
      let o = spaces.order old pages stood in
      allots g first spaces old new pages o page stood (handed g old new pages first page (t.put pages agrees)) (t.taken pages agrees stood (place_of g first old pages o))

  pub take_inside : Each g old new (λ pages. IsInside (g.count new) page)
  take_inside pages agrees stood =
      inside_of g first spaces old new pages (spaces.order old pages stood) page (handed g old new pages first page (t.put pages agrees)) t.changes.more

  pub take_stands : Each g old new (g.stands new)
  take_stands pages agrees stood =
      let o = spaces.order old pages stood in
      let place = place_of g first old pages o in
      stands_again g first spaces old new pages o _ (t.taken pages agrees stood place).left t.changes.used (t.changes.named pages agrees stood place)

-- what the list answers when a page is given
pub record Gives {P : Type 0} (g : Ghosts P) (first : ℕ) (old new : P) (page : ℕ) : Type 0 where
  pub laid : (pages : Paging) → Agrees pages (g.seen new) → DifferAt (g.laid old) (g.laid new) (λ n. (n ≡ first) ⊎ (n ≡ page))
  pub only : (n : ℕ) → n ≢ first → g.seen new n ≡ g.seen old n
  pub used : g.used new ≡ g.used old
  pub count : g.count new ≡ g.count old

module _ {P : Type 0} (g : Ghosts P) (first : ℕ) (spaces : Spaces g first) (old new : P) (page : ℕ) (t : Gives g first old new page) where
  pub give_laid : Each g old new (λ pages. DifferAt (g.laid old) (g.laid new) (IsForFree g old page pages))
  give_laid pages agrees stood n =
      let o = spaces.order old pages stood in
      ⊎_elim
      (λ (same : g.laid new n ≡ g.laid old n). inl same)
      (λ (other : (n ≡ first) ⊎ (n ≡ page)). inr (⊎_elim
      (λ (e : n ≡ first). inl (rw (spaces.free old pages) (subst (λ (k : ℕ). IsTrue (is_listed (sight g old pages) k)) (sym e) (first_free g first spaces old new pages o))))
      (λ (e : n ≡ page). inr e)
      other))
      (t.laid pages agrees n)

  pub give_seen : Each g old new (λ pages. DifferAt (g.seen old) (g.seen new) (IsForFree g old page pages))
  give_seen pages agrees stood n =
      let o = spaces.order old pages stood in
      ⊎_elim
      (λ (e : n ≡ first). inr (inl (rw (spaces.free old pages) (subst (λ (k : ℕ). IsTrue (is_listed (sight g old pages) k)) (sym e) (first_free g first spaces old new pages o)))))
      (λ (e : n ≢ first). inl (t.only n e))
      (same_or_not n first)

  -- page 1 stays
  give_named : (pages : Paging) → Agrees pages (g.seen new) → (o : AreInOrder (g.used old) (g.count old) first (sight g old pages)) → 2 ≤ page → number_in (sight g new pages) ≡ g.count new
  give_named pages agrees o low =
      let under = first_low g old pages first (place_of g first old pages o) in
      let same : g.laid new 1 ≡ g.laid old 1 = ⊎_elim
      (λ (is : g.laid new 1 ≡ g.laid old 1). is)
      (λ (other : (1 ≡ first) ⊎ (1 ≡ page)). absurd (⊎_elim
      (λ (e : 1 ≡ first). absurd (omega (arith, e, under)))
      (λ (e : 1 ≡ page). absurd (omega (arith, e, low)))
      other))
      (t.laid pages agrees 1) in
      ap (λ (m : Option (List ℕ)). u32_at (unwrap_or m (pages 1)) 28) same ∙ o.number ∙ sym t.count

  may_be_given : (pages : Paging) (o : AreInOrder (g.used old) (g.count old) first (sight g old pages)) → MayBeFreed g old page pages → MayBeGiven g old pages first page (place_of g first old pages o)
  may_be_given pages o may = record {
    placed = (may.low, may.high);
    unlisted = elim (cases_lt 0 (times page o.listed)) [
      | inl some ↦ absurd (⊎_elim
          (λ (is : is_listed (sight g old pages) page ≡ true). absurd (let both : true ≡ false = sym is ∙ sym (ap (λ (f : ℕ → _). f page) (spaces.free old pages)) ∙ may.taken in cc))
          (λ (is : page ≡ list_in (sight g old pages)). may.unnamed is)
          (listed_free (g.used old) (g.count old) first (sight g old pages) o page some))
      | inr none ↦ omega (arith, none)
    ];
  }

  pub give_freed : WhereListed g old new first (λ pages place. MayBeGiven g old pages first page place
      → LeavesLists g old new pages first place (freed (g.used old) page (trunks_of g old pages place)))
      → Each g old new (λ pages. MayBeFreed g old page pages → IsFreed (g.is_free old pages) (g.is_free new pages) page)
  give_freed leaves pages agrees stood may =
      let o = spaces.order old pages stood in
      let place = place_of g first old pages o in
      let trunks = freed (g.used old) page (trunks_of g old pages place) in
      let left = leaves pages agrees stood place (may_be_given pages o may) in
      rw (spaces.free old pages, spaces.free new pages) (one_given (sight g old pages) (sight g new pages) (trunks_of g old pages place) trunks (counts g old new pages first place trunks left) page
      (freed_counted (g.used old) page (trunks_of g old pages place) (has_trunk (g.used old) (sight g old pages) o.own (own_started g first spaces old new pages o) (own_whole g first spaces old new pages o))))

  pub give_stands : WhereListed g old new first (λ pages place. MayBeGiven g old pages first page place
      → LeavesLists g old new pages first place (freed (g.used old) page (trunks_of g old pages place)))
      → Each g old new (λ pages. MayBeFreed g old page pages → g.stands new pages)
  give_stands leaves pages agrees stood may =
      let o = spaces.order old pages stood in
      let place = place_of g first old pages o in
      stands_again g first spaces old new pages o (freed (g.used old) page (trunks_of g old pages place)) (leaves pages agrees stood place (may_be_given pages o may)) t.used (give_named pages agrees o may.low)

  pub ungiven_free : WhereListed g old new first (λ pages place. MayBeGiven g old pages first page place → ListsStay g old new pages first place)
      → Each g old new (λ pages. MayBeFreed g old page pages → FreeStays g old new pages)
  ungiven_free stay pages agrees stood may =
      let o = spaces.order old pages stood in
      stay_free g first spaces old new pages o (stay pages agrees stood (place_of g first old pages o) (may_be_given pages o may))

  pub ungiven_stands : WhereListed g old new first (λ pages place. MayBeGiven g old pages first page place → ListsStay g old new pages first place)
      → Each g old new (λ pages. MayBeFreed g old page pages → g.stands new pages)
  ungiven_stands stay pages agrees stood may =
      let o = spaces.order old pages stood in
      let place = place_of g first old pages o in
      stands_again g first spaces old new pages o (trunks_of g old pages place) (stay pages agrees stood place (may_be_given pages o may)) t.used (give_named pages agrees o may.low)

  -- a fault that is likely where the page may be given is so where it may be freed
  pub ungiven_likely : (What : Paging → Type 0) → WhereListed g old new first (λ pages place. MayBeGiven g old pages first page place → What pages)
      → Each g old new (λ pages. MayBeFreed g old page pages → What pages)
  ungiven_likely What likely pages agrees stood may =
      let o = spaces.order old pages stood in
      likely pages agrees stood (place_of g first old pages o) (may_be_given pages o may)

-- a fault of the list is a likely one, and so no page is damaged
pub sure_each : {P : Type 0} (X : Type 0) (g : Ghosts P) (first : ℕ) (spaces : Spaces g first) (old new : P) (fault : SpaceFault) (tree : TreeFault) → tree ≡ Space fault
    → WhereListed g old new first (λ pages place. g.sealed old ≡ false → IsLikelyOfTree {X = X} g new pages (Err tree))
    → g.sealed old ≡ false → Each g old new (λ pages. IsSure (number_in (sight g new pages)) fault)
sure_each X g first spaces old new fault tree is likely writable pages agrees stood =
    subst (IsSureOfTree (number_in (sight g new pages))) is (likely pages agrees stood (place_of g first old pages (spaces.order old pages stood)) writable)

pub never_each : {P : Type 0} (X : Type 0) (g : Ghosts P) (first : ℕ) (spaces : Spaces g first) (old new : P) (page : ℕ) (tree : TreeFault) → tree ≡ Corrupt page
    → WhereListed g old new first (λ pages place. g.sealed old ≡ false → IsLikelyOfTree {X = X} g new pages (Err tree))
    → g.sealed old ≡ false → Each g old new (λ pages. ⊥)
never_each X g first spaces old new page tree is likely writable pages agrees stood =
    subst (IsSureOfTree (number_in (sight g new pages))) is (likely pages agrees stood (place_of g first old pages (spaces.order old pages stood)) writable)

-- Full comes only where the list has no page left
pub full_none : {P : Type 0} (g : Ghosts P) (first : ℕ) (old new : P) (fault : SpaceFault) → g.sealed old ≡ false
    → OnFullOf (λ full. g.sealed old ≡ false → (pages : Paging) → Agrees pages (g.seen new) → HasNone (sight g old pages) first × IsFull (g.count new) (g.limit old) full) fault
    → OnFull ((pages : Paging) → Agrees pages (g.seen new) → next_in first (sight g old pages) ≡ None) fault
full_none g first old new (Busy at word) writable why = tt
full_none g first old new Read writable why = tt
full_none g first old new (Stopped op) writable why = tt
full_none g first old new (Full full) writable why = λ pages agrees. none_next first (sight g old pages) (why writable pages agrees).0
full_none g first old new (PageOut at n) writable why = tt
full_none g first old new (Spoilt at) writable why = tt
full_none g first old new Memory writable why = tt

-- why a page is not given
pub free_fits : {P : Type 0} (g : Ghosts P) (old new : P) (first page : ℕ) (fault : SpaceFault) → g.sealed old ≡ false → IsInside (g.count new) page
    → GivesNot g old new first page fault → Fits (g.sealed old) (g.count new) (FitsFree (g.count new) page) fault
free_fits g old new first page fault writable inside why = subst (λ (s : Bool). Fits s (g.count new) (FitsFree (g.count new) page) fault) (sym writable) (⊎_elim
    (λ (e : fault ≡ Memory). subst (FitsFree (g.count new) page) (sym e) inside)
    (λ (more : FitsGet (g.count new) first fault ⊎ (Fits (g.sealed old) (g.count new) (FitsPut (g.count new) page) fault ⊎ Fits (g.sealed old) (g.count new) (FitsPut (g.count new) first) fault)). ⊎_elim
    (λ (is : FitsGet (g.count new) first fault). got fault is)
    (λ (puts : Fits (g.sealed old) (g.count new) (FitsPut (g.count new) page) fault ⊎ Fits (g.sealed old) (g.count new) (FitsPut (g.count new) first) fault). ⊎_elim
    (λ (is : Fits (g.sealed old) (g.count new) (FitsPut (g.count new) page) fault). put page fault (subst (λ (s : Bool). Fits s (g.count new) (FitsPut (g.count new) page) fault) writable is))
    (λ (is : Fits (g.sealed old) (g.count new) (FitsPut (g.count new) first) fault). put first fault (subst (λ (s : Bool). Fits s (g.count new) (FitsPut (g.count new) first) fault) writable is))
    puts)
    more)
    why)
  where
    got : (f : SpaceFault) → FitsGet (g.count new) first f → FitsFree (g.count new) page f
    got (Busy at word) is = inside
    got Read is = inside
    got (Stopped op) is = inside
    got (Full n) is = absurd is
    got (PageOut at n) is = (is.1, inr inside)
    got (Spoilt at) is = inside
    got Memory is = inside

    put : (which : ℕ) (f : SpaceFault) → FitsPut (g.count new) which f → FitsFree (g.count new) page f
    put which (Busy at word) is = inside
    put which Read is = inside
    put which (Stopped op) is = inside
    put which (Full n) is = absurd is
    put which (PageOut at n) is = (is.1, inr inside)
    put which (Spoilt at) is = inside
    put which Memory is = inside
