-- A page of a pager is handed out: what the answer of the list says of the space.
use Rattle.std.proofs.Common.{◌≡◌, ◌≢◌, ◌⊎◌, ◌+◌, ◌*◌, ◌<◌, ◌≤◌, ◌∙◌, ℕ, zero, suc, List, Option, Some, None, refl, sym, ap, subst, arith, inl, inr, ⊎_elim, false}
use Rattle.std.specs.Prelude.{◌==◌, Bool, IsTrue}
use Rattle.std.proofs.lemmas.Bool.{eq-eqb}
use Rattle.spe_model.specs.Big.{u32_at}
use Rattle.spe_model.specs.FreeList.{AreTrunks, leaf_count, next_trunk}
use Rattle.spe_model.specs.Paging.{Agrees, Paging}
use Rattle.spe_space.specs.declared.fault.SpaceFault.{SpaceFault}
use Rattle.spe_space.specs.declared.fault.SpaceFault.TheVariants.{Busy, Read, Stopped, Full, PageOut, Corrupt, Memory}
use Rattle.spe_space.specs.declared.pages.Pages.{Ghosts}
use Rattle.spe_space.specs.Calls.{sight}
use Rattle.spe_space.specs.Free.{DifferAt, IsSame}
use Rattle.spe_space.specs.Front.{number_in}
use Rattle.spe_space.specs.Outcome.{Fits, FitsAlloc, FitsExtend, FitsGet, FitsPut, IsInside}
use Rattle.spe_space.specs.Space.{Allots, FreeStays, IsForAlloc, IsNext, count_after}
use Rattle.spe_frame.specs.Times.{one_if, times}
use Rattle.spe_freelist.specs.Lists.{Trunk, next_free, pages_of, taken}
use Rattle.spe_freelist.specs.Place.{IsForTaking, LeavesLists, ListsStay, Place, TakesPage, trunks_of}
use Rattle.spe_freelist.specs.Steps.{GrowsNot, HasNone, IsTrunkOf, MissesTrunk, TakesLeaf, TakesNew, TakesNot, TakesTrunk, Took}
use Rattle.spe_freelist.specs.Trunk.{fifteen}
use Rattle.spe_freelist.proofs.CaseLemmas.{whole_of}
use Rattle.spe_freelist.proofs.LaidLemmas.{first_low}
use Rattle.spe_freelist.proofs.RelistLemmas.{begins}
use Rattle.spe_session.specs.Lists.{AreInOrder, is_listed, next_in, next_or}
use Rattle.spe_session.proofs.FreeLemmas.{Counts, counts, grown_counted, has_trunk, next_is, none_changed, one_taken, order_again, owns, owns_trunks, sixteen_grown, taken_counted}

-- what a pager says of its pages: those of its lists are free, and its pages stand where the lists are in order
pub record Spaces {P : Type 0} (g : Ghosts P) (first : ℕ) : Type 0 where
  pub free : (s : P) (pages : Paging) → g.is_free s pages ≡ is_listed (sight g s pages)
  pub order : (s : P) (pages : Paging) → g.stands s pages → AreInOrder (g.used s) (g.count s) first (sight g s pages)
  pub stands : (s : P) (pages : Paging) → AreInOrder (g.used s) (g.count s) first (sight g s pages) → g.stands s pages

abbrev pub place_of : {P : Type 0} (g : Ghosts P) (first : ℕ) (s : P) (pages : Paging) → AreInOrder (g.used s) (g.count s) first (sight g s pages) → Place g s pages first
place_of g first s pages o = record { before = o.before; own = o.own; after = o.after; listed = o.listed; first_is = o.first_is; lists = o.lists }

next_leaf : (leaf leaves next : ℕ) → 0 < leaves → next_or leaf leaves next ≡ Some leaf
next_leaf leaf zero next some = absurd (omega (arith, some))
next_leaf leaf (suc n) next some = refl

next_behind : (leaf leaves next : ℕ) → leaves ≡ 0 → 0 < next → next_or leaf leaves next ≡ Some next
next_behind leaf (suc n) next none some = absurd (omega (arith, none))
next_behind leaf zero zero none some = absurd (omega (arith, some))
next_behind leaf zero (suc n) none some = refl

next_none : (leaf leaves next : ℕ) → leaves ≡ 0 → next ≡ 0 → next_or leaf leaves next ≡ None
next_none leaf (suc n) next none last = absurd (omega (arith, none))
next_none leaf zero (suc n) none last = absurd (omega (arith, last))
next_none leaf zero zero none last = refl

pub none_next : (first : ℕ) (pages : Paging) → HasNone pages first → next_in first pages ≡ None
unfolding next_in
none_next first pages has = next_none (u32_at (pages first) (4 + 4 * leaf_count pages first)) (leaf_count pages first) (next_trunk pages first) has.0 has.1

-- a page of the list, or a new one
pub record Listed {P : Type 0} (g : Ghosts P) (old new : P) (pages : Paging) (first page : ℕ) : Type 0 where
  pub next : next_in first (sight g old pages) ≡ Some page
  pub others : (n : ℕ) → n ≢ first → g.laid new n ≡ g.laid old n

pub record Added {P : Type 0} (g : Ghosts P) (old new : P) (pages : Paging) (first page : ℕ) : Type 0 where
  pub next : next_in first (sight g old pages) ≡ None
  pub took : TakesNew g old new pages first page

abbrev pub Handed : {P : Type 0} (g : Ghosts P) (old new : P) → Paging → (first page : ℕ) → Type 0
Handed g old new pages first page = Listed g old new pages first page ⊎ Added g old new pages first page

pub handed : {P : Type 0} (g : Ghosts P) (old new : P) (pages : Paging) (first page : ℕ) → Took g old new pages first page → Handed g old new pages first page
unfolding next_in
handed g old new pages first page took = ⊎_elim
    (λ (leaf : TakesLeaf g old new pages first page). inl (record {
      next = next_leaf (u32_at (a first) (4 + 4 * leaf_count a first)) (leaf_count a first) (next_trunk a first) leaf.some ∙ ap (λ (n : ℕ). Some n) (sym leaf.page_is);
      others = leaf.put.others;
    }))
    (λ (more : TakesTrunk g old new pages first page ⊎ TakesNew g old new pages first page). ⊎_elim
    (λ (trunk : TakesTrunk g old new pages first page). inl (record {
      next = next_behind (u32_at (a first) (4 + 4 * leaf_count a first)) (leaf_count a first) (next_trunk a first) trunk.none (omega (arith, trunk.some, trunk.page_is)) ∙ ap (λ (n : ℕ). Some n) (sym trunk.page_is);
      others = trunk.put.others;
    }))
    (λ (fresh : TakesNew g old new pages first page). inr (record { next = next_none (u32_at (a first) (4 + 4 * leaf_count a first)) (leaf_count a first) (next_trunk a first) fresh.none fresh.last; took = fresh }))
    more)
    took
  where
    a : Paging
    a = sight g old pages

pub is_next : {P : Type 0} (g : Ghosts P) (old new : P) (pages : Paging) (first page : ℕ) → Handed g old new pages first page
    → IsNext (next_in first (sight g old pages)) (g.count old) (g.count new) page
is_next g old new pages first page is = ⊎_elim
    (λ (listed : Listed g old new pages first page). subst (λ (o : Option ℕ). IsNext o (g.count old) (g.count new) page) (sym listed.next) refl)
    (λ (added : Added g old new pages first page). subst (λ (o : Option ℕ). IsNext o (g.count old) (g.count new) page) (sym added.next) (added.took.grown.above, added.took.grown.counted))
    is

pub counted_after : {P : Type 0} (g : Ghosts P) (old new : P) (pages : Paging) (first page : ℕ) → Handed g old new pages first page
    → HasNone (sight g old pages) first ⊎ (g.count new ≡ g.count old)
    → (g.count new ≡ g.count old) ⊎ (g.count new ≡ g.count old + 16)
    → g.count new ≡ count_after (next_in first (sight g old pages)) (g.count old)
counted_after g old new pages first page is kept grown = ⊎_elim
    (λ (listed : Listed g old new pages first page). subst (λ (o : Option ℕ). g.count new ≡ count_after o (g.count old)) (sym listed.next) (⊎_elim
    (λ (none : HasNone (sight g old pages) first). absurd (let both : None ≡ Some page = sym (none_next first (sight g old pages) none) ∙ listed.next in cc))
    (λ (same : g.count new ≡ g.count old). same)
    kept))
    (λ (added : Added g old new pages first page). subst (λ (o : Option ℕ). g.count new ≡ count_after o (g.count old)) (sym added.next) (⊎_elim
    (λ (same : g.count new ≡ g.count old). absurd (omega (arith, same, added.took.grown.above, added.took.grown.counted)))
    (λ (more : g.count new ≡ g.count old + 16). more)
    grown))
    is

module _ {P : Type 0} (g : Ghosts P) (first : ℕ) (spaces : Spaces g first) (old new : P) (pages : Paging) (o : AreInOrder (g.used old) (g.count old) first (sight g old pages)) where
  abbrev pub a : Paging
  a = sight g old pages

  abbrev pub place : Place g old pages first
  place = place_of g first old pages o

  pub same_free : IsSame (is_listed a) (is_listed (sight g new pages)) → FreeStays g old new pages
  same_free same = rw (spaces.free old pages, spaces.free new pages) same

  pub own_whole : AreTrunks (g.used old) a o.own.trunks o.own.first
  own_whole = (whole_of (g.used old) a o.before o.own o.after o.listed o.lists).0

  pub own_started : o.own.first ≢ 0
  own_started = (whole_of (g.used old) a o.before o.own o.after o.listed o.lists).1

  -- the page that is taken next from the list is free
  pub next_free_is : next_in first a ≡ next_free (trunks_of g old pages place)
  next_free_is = ap (λ (f : ℕ). next_in f a) (sym o.first_is) ∙ next_is (g.used old) a o.own own_started own_whole

  pub stay_free : ListsStay g old new pages first place → FreeStays g old new pages
  stay_free stay = same_free (none_changed a (sight g new pages) (trunks_of g old pages place) (trunks_of g old pages place) (counts g old new pages first place (trunks_of g old pages place) stay) (λ n. refl))

  pub stands_again : (trunks : List Trunk) → LeavesLists g old new pages first place trunks → g.used new ≡ g.used old → number_in (sight g new pages) ≡ g.count new → g.stands new pages
  stands_again trunks left used number =
      spaces.stands new pages (subst (λ (u : ℕ). AreInOrder u (g.count new) first (sight g new pages)) (sym used) (order_again g old new pages first place trunks left (g.count new) number))

  -- the first trunk, and the page that is taken next, are free
  pub first_free : IsTrue (is_listed a first)
  first_free = subst (λ (f : ℕ). IsTrue (is_listed a f)) o.first_is
      (owns (g.used old) a o.before o.own o.after o.listed o.lists o.own.first (begins (g.used old) a o.own own_started own_whole))

  pub next_listed : (page : ℕ) → next_in first a ≡ Some page → IsTrue (is_listed a page)
  next_listed page next =
      let counted = taken_counted 0 page (trunks_of g old pages place) (sym next_free_is ∙ next) page in
      let one : one_if (page == page) ≡ 1 = ap one_if (eq-eqb page page refl) in
      owns_trunks (g.used old) a o.before o.own o.after o.listed o.lists page (omega (arith, counted, one))

  -- a page of the list, or a new one, is handed out
  pub allots : (page : ℕ) → g.stands old pages → Handed g old new pages first page → TakesPage g old new pages first page place
      → Allots g old new (next_in first a) page pages
  allots page stood is takes = ⊎_elim listed added is
    where
      all : (n : ℕ) → Counts a (sight g new pages) (trunks_of g old pages place) (taken (number_in a) (trunks_of g old pages place)) n
      all = counts g old new pages first place (taken (number_in a) (trunks_of g old pages place)) takes.left

      not_one : 1 ≢ first
      not_one = λ (e : 1 ≡ first). absurd (let low = first_low g old pages first place in omega (arith, e, low))

      listed : Listed g old new pages first page → Allots g old new (next_in first a) page pages
      listed l = subst (λ (n : Option ℕ). Allots g old new n page pages) (sym l.next) (record {
        free = rw (spaces.free old pages, spaces.free new pages) (one_taken a (sight g new pages) (trunks_of g old pages place) (taken (number_in a) (trunks_of g old pages place)) all page
            (taken_counted (number_in a) page (trunks_of g old pages place) (sym next_free_is ∙ l.next)));
        front = l.others 1 not_one;
      })

      added : Added g old new pages first page → Allots g old new (next_in first a) page pages
      added n =
          let grown = n.took.grown in
          let above = grown.numbered stood in
          let more : (k : ℕ) → times k (pages_of (taken (number_in a) (trunks_of g old pages place))) ≡ times k (pages_of (trunks_of g old pages place)) + times k (fifteen page) =
          λ k. grown_counted (number_in a) (trunks_of g old pages place) (sym next_free_is ∙ n.next) (has_trunk (g.used old) a o.own own_started own_whole) k
          ∙ ap (λ (p : ℕ). times k (pages_of (trunks_of g old pages place)) + times k (fifteen p)) (sym above) in
          subst (λ (m : Option ℕ). Allots g old new m page pages) (sym n.next) (record {
            above = above;
            free = rw (spaces.free old pages, spaces.free new pages) (sixteen_grown a (sight g new pages) (trunks_of g old pages place) (taken (number_in a) (trunks_of g old pages place)) all page more
                (λ k free. let later = o.later k free in omega (arith, later.1, above)));
            front = grown.front (λ (e : first ≡ 1). not_one (sym e));
          })

  pub inside_of : (page : ℕ) → Handed g old new pages first page → g.count old ≤ g.count new → IsInside (g.count new) page
  inside_of page is more = ⊎_elim
      (λ (l : Listed g old new pages first page). let later = o.later page (next_listed page l.next) in (omega (arith, later.0), omega (arith, later.1, o.number, more)))
      (λ (n : Added g old new pages first page). (omega (arith, n.took.grown.above), omega (arith, n.took.grown.counted)))
      is

  free_page : (n : ℕ) → IsTrue (is_listed a n) → IsTrue (g.is_free old pages n)
  free_page n is = rw (spaces.free old pages) is

  pub laid_at : DifferAt (g.laid old) (g.laid new) (IsForTaking g old pages first) → DifferAt (g.laid old) (g.laid new) (IsForAlloc g old pages)
  laid_at differ n = ⊎_elim
      (λ (same : g.laid new n ≡ g.laid old n). inl same)
      (λ (other : IsForTaking g old pages first n). inr (⊎_elim
      (λ (e : n ≡ first). inl (free_page n (subst (λ (k : ℕ). IsTrue (is_listed a k)) (sym e) first_free)))
      (λ (more : (n ≡ 1) ⊎ (number_in a < n)). inr more)
      other))
      (differ n)

  pub seen_at : DifferAt (g.seen old) (g.seen new) (IsTrunkOf a first) → DifferAt (g.seen old) (g.seen new) (IsForAlloc g old pages)
  unfolding next_in
  seen_at differ n = ⊎_elim
      (λ (same : g.seen new n ≡ g.seen old n). inl same)
      (λ (other : IsTrunkOf a first n). inr (⊎_elim
      (λ (e : n ≡ first). inl (free_page n (subst (λ (k : ℕ). IsTrue (is_listed a k)) (sym e) first_free)))
      (λ (more : ((leaf_count a first ≡ 0) × (n ≡ next_trunk a first) × (0 < n)) ⊎ ((leaf_count a first ≡ 0) × (next_trunk a first ≡ 0) × (n ≡ 1))). ⊎_elim
      (λ (behind : (leaf_count a first ≡ 0) × (n ≡ next_trunk a first) × (0 < n)). inl (free_page n (next_listed n
      (next_behind (u32_at (a first) (4 + 4 * leaf_count a first)) (leaf_count a first) (next_trunk a first) behind.0 (omega (arith, behind.1, behind.2)) ∙ ap (λ (k : ℕ). Some k) (sym behind.1)))))
      (λ (front : (leaf_count a first ≡ 0) × (next_trunk a first ≡ 0) × (n ≡ 1)). inr (inl front.2))
      more)
      other))
      (differ n)

-- why no page is handed out
pub alloc_fits : {P : Type 0} (g : Ghosts P) (old new : P) (first : ℕ) (pages : Paging) (fault : SpaceFault) → Agrees pages (g.seen new) → g.sealed old ≡ false
    → TakesNot g old new first fault → Fits (g.sealed old) (g.count new) (FitsAlloc (g.count new) (g.limit old)) fault
alloc_fits g old new first pages fault agrees writable why = subst (λ (s : Bool). Fits s (g.count new) (FitsAlloc (g.count new) (g.limit old)) fault) (sym writable)
    (⊎_elim
    (λ (e : fault ≡ Memory). subst (FitsAlloc (g.count new) (g.limit old)) (sym e) tt)
    (λ (more : MissesTrunk g old new first fault ⊎ (Fits (g.sealed old) (g.count new) (FitsPut (g.count new) first) fault
    ⊎ ((pages : Paging) → Agrees pages (g.seen new) → (leaf_count (sight g old pages) first ≡ 0) × (next_trunk (sight g old pages) first ≡ 0) × GrowsNot g old new fault))). ⊎_elim
    (λ (missed : MissesTrunk g old new first fault). ⊎_elim
    (λ (one : FitsGet (g.count new) first fault). got first fault one)
    (λ (two : (pages : Paging) → Agrees pages (g.seen new) → (0 < next_trunk (sight g old pages) first) × FitsGet (g.count new) (next_trunk (sight g old pages) first) fault).
    got (next_trunk (sight g old pages) first) fault (two pages agrees).1)
    missed)
    (λ (rest : Fits (g.sealed old) (g.count new) (FitsPut (g.count new) first) fault
    ⊎ ((pages : Paging) → Agrees pages (g.seen new) → (leaf_count (sight g old pages) first ≡ 0) × (next_trunk (sight g old pages) first ≡ 0) × GrowsNot g old new fault)). ⊎_elim
    (λ (is : Fits (g.sealed old) (g.count new) (FitsPut (g.count new) first) fault). put fault (subst (λ (s : Bool). Fits s (g.count new) (FitsPut (g.count new) first) fault) writable is))
    (λ (is : (pages : Paging) → Agrees pages (g.seen new) → (leaf_count (sight g old pages) first ≡ 0) × (next_trunk (sight g old pages) first ≡ 0) × GrowsNot g old new fault).
    grown fault (subst (λ (s : Bool). Fits s (g.count new) (FitsExtend (g.count new) (g.limit old)) fault) writable (is pages agrees).2.fits))
    rest)
    more)
    why)
  where
    got : (page : ℕ) (f : SpaceFault) → FitsGet (g.count new) page f → FitsAlloc (g.count new) (g.limit old) f
    got page (Busy at word) is = tt
    got page Read is = tt
    got page (Stopped op) is = tt
    got page (Full n) is = absurd is
    got page (PageOut at n) is = is.1
    got page (Corrupt at) is = tt
    got page Memory is = tt

    put : (f : SpaceFault) → FitsPut (g.count new) first f → FitsAlloc (g.count new) (g.limit old) f
    put (Busy at word) is = tt
    put Read is = tt
    put (Stopped op) is = tt
    put (Full n) is = absurd is
    put (PageOut at n) is = is.1
    put (Corrupt at) is = tt
    put Memory is = tt

    grown : (f : SpaceFault) → FitsExtend (g.count new) (g.limit old) f → FitsAlloc (g.count new) (g.limit old) f
    grown (Busy at word) is = tt
    grown Read is = tt
    grown (Stopped op) is = tt
    grown (Full n) is = is
    grown (PageOut at n) is = absurd is
    grown (Corrupt at) is = tt
    grown Memory is = tt
