-- What can not fail over lists that stand.
use Rattle.std.proofs.Common.{◌≡◌, ◌≢◌, ◌⊎◌, ℕ, zero, suc, ◌+◌, ◌-◌, ◌*◌, ◌^◌, ◌<◌, ◌≤◌, ◌∙◌, List, [], ◌∷◌, ◌++◌, length, drop, take, refl, sym, ap, subst, inl, inr, ⊎_elim, arith, Bool, false, Option, Some, None}
use Rattle.std.specs.Prelude.{◌==◌, ◌||◌, unwrap_or, IfErr, IsErr, IsOk, OnErr, Result, Ok, Err, nat_lt, not, slice_index}
use Rattle.std.specs.List.{find}
use Rattle.std.proofs.lemmas.Bool.{le-ltb}
use Rattle.std.proofs.lemmas.List.{get_or-take, length-take-le, take-take}
use Rattle.std.proofs.lemmas.Slice.{between_is}
use Rattle.byteorder.specs.Endian.{big_number}
use Rattle.byteorder.specs.Numbers.{big_from-take}
use Rattle.spe_model.specs.declared.header.Header.{Header}
use Rattle.spe_model.specs.declared.header.HeaderFault.{HeaderFault}
use Rattle.spe_model.specs.declared.header.HeaderFault.TheVariants.{Short, NotADatabase, Wal, BadPageSize, AutoVacuum, Encoding, Reserved, SchemaFormat}
use Rattle.spe_model.specs.Big.{u16_at, u32_at}
use Rattle.spe_model.specs.FreeList.{AreTrunks, leaf_count, leaves_of, next_trunk, trunk_pages}
use Rattle.spe_model.specs.Header.{faults, fields, has_fault, header_of, is_database, is_page_size, is_wal, page_size_at, page_size_of, unless}
use Rattle.spe_model.specs.Paging.{Agrees, Paging}
use Rattle.spe_model.specs.Standing.{FreeChain}
use Rattle.spe_space.specs.declared.fault.SpaceFault.{SpaceFault}
use Rattle.spe_space.specs.declared.fault.SpaceFault.TheVariants.{Busy, Read, Stopped, Full, PageOut, Corrupt as Spoilt, Memory}
use Rattle.spe_space.specs.declared.fault.TreeFault.{TreeFault}
use Rattle.spe_space.specs.declared.fault.TreeFault.TheVariants.{Space, Corrupt}
use Rattle.spe_space.specs.declared.pages.Pages.{Ghosts}
use Rattle.spe_space.specs.Calls.{sight}
use Rattle.spe_space.specs.Free.{IsLaterPage}
use Rattle.spe_space.specs.Front.{number_in, recounted}
use Rattle.spe_space.specs.Outcome.{Fits, FitsExtend, FitsGet, FitsPut, IsSure}
use Rattle.spe_space.proofs.FrontLemmas.{length-recounted, number_recounted, u32_at-take}
use Rattle.spe_frame.specs.Times.{times}
use Rattle.spe_frame.proofs.HeadLemmas.{recounted_keeps}
use Rattle.spe_frame.proofs.HeaderLemmas.{header_stays}
use Rattle.spe_frame.proofs.TimesLemmas.{here, holds_from_all, times-append}
use Rattle.spe_freelist.specs.Place.{AreLists, IsLikelyOfTree, MayBeGiven, WhereListed}
use Rattle.spe_freelist.specs.Steps.{GivesNot, GrowsNot, IsDamaged, LeavesAlone, MissesTrunk, OnFault, TakesNot}
use Rattle.spe_freelist.specs.Trunk.{leaves_at, most_leaves}
use Rattle.spe_freelist.proofs.CaseLemmas.{long_front, ok_is, whole_of}
use Rattle.spe_freelist.proofs.RelistLemmas.{own_within}
use Rattle.spe_freelist.proofs.TrunkLemmas.{map_more}

-- the first trunk of a list that stands
pub record Head (usable : ℕ) (pages : Paging) (first : ℕ) : Type 0 where
  pub placed : IsLaterPage (number_in pages) first
  pub room : leaf_count pages first ≤ most_leaves usable
  pub leaf : 0 < leaf_count pages first → 2 ≤ u32_at (pages first) (4 + 4 * leaf_count pages first)
  pub next : 0 < next_trunk pages first → IsLaterPage (number_in pages) (next_trunk pages first)
  pub next_room : 0 < next_trunk pages first → leaf_count pages (next_trunk pages first) ≤ most_leaves usable

pub head_of : (usable : ℕ) (pages : Paging) (before : List FreeChain) (own : FreeChain) (after : List FreeChain) (listed : List ℕ)
    → AreLists usable pages (before ++ own ∷ after) listed → Head usable pages own.first
head_of usable pages before own after listed = go own.trunks own.first
  where
    behind : (k t : ℕ) → AreTrunks usable pages k t → 0 < t → (1 ≤ times t (trunk_pages pages k t)) × (leaf_count pages t ≤ most_leaves usable)
    behind zero t are some = absurd (omega (arith, are, some))
    behind (suc j) t are some = ((let at = here t t (leaves_of pages t ++ trunk_pages pages j (next_trunk pages t)) refl in omega (arith, at)), are.1)

    go : (trunks first : ℕ) → AreLists usable pages (before ++ record { trunks = trunks; first = first } ∷ after) listed → Head usable pages first
    go zero first lists = let whole = whole_of usable pages before (record { trunks = zero; first = first }) after listed lists in absurd (whole.1 whole.0)
    go (suc k) first lists =
        let own : FreeChain = record { trunks = suc k; first = first } in
        let whole : AreTrunks usable pages (suc k) first = (whole_of usable pages before own after listed lists).0 in
        let within = own_within usable pages before own after listed lists in
        let holds = holds_from_all (IsLaterPage (number_in pages)) listed lists.within in
        let t = next_trunk pages first in
        let m = leaf_count pages first - 1 in
        let split : (n : ℕ) → times n (leaves_of pages first ++ trunk_pages pages k t) ≡ times n (leaves_of pages first) + times n (trunk_pages pages k t) =
        λ n. times-append n (leaves_of pages first) (trunk_pages pages k t) in
        let all : (n : ℕ) → times n (leaves_of pages first) + times n (trunk_pages pages k t) ≤ times n listed = λ n. omega (arith, within n, split n) in
        record {
          placed = holds first (let at = here first first (leaves_of pages first ++ trunk_pages pages k t) refl in omega (arith, at, within first));
          room = whole.1;
          leaf = λ some.
              let last = u32_at (pages first) (4 + 4 * leaf_count pages first) in
              let one : leaf_count pages first ≡ m + 1 = omega (arith, some) in
              let at : 8 + 4 * m ≡ 4 + 4 * leaf_count pages first = omega (arith, some) in
              let leaves_are : leaves_of pages first ≡ leaves_at (pages first) m ++ last ∷ [] =
              ap (leaves_at (pages first)) one ∙ map_more (λ (i : ℕ). u32_at (pages first) (8 + 4 * i)) m
              ∙ ap (λ (n : ℕ). leaves_at (pages first) m ++ n ∷ []) (ap (u32_at (pages first)) at) in
              let has = ap (times last) leaves_are ∙ times-append last (leaves_at (pages first) m) (last ∷ []) in
              let mine = here last last [] refl in
              (holds last (omega (arith, all last, has, mine))).0;
          next = λ some. holds t (omega (arith, all t, (behind k t whole.2 some).0));
          next_room = λ some. (behind k t whole.2 some).1;
        }

-- no page of the list that a page is taken from is damaged
pub not_damaged : (usable : ℕ) (pages : Paging) (first at : ℕ) → Head usable pages first → IsDamaged usable pages first at → ⊥
not_damaged usable pages first at head damaged = ⊎_elim
    (λ (here : (at ≡ first) × ((most_leaves usable < leaf_count pages first) ⊎ ((0 < leaf_count pages first) × (u32_at (pages first) (4 + 4 * leaf_count pages first) ≡ 0)))). ⊎_elim
    (λ (many : most_leaves usable < leaf_count pages first). absurd (omega (arith, many, head.room)))
    (λ (none : (0 < leaf_count pages first) × (u32_at (pages first) (4 + 4 * leaf_count pages first) ≡ 0)). absurd (omega (arith, none.1, head.leaf none.0)))
    here.1)
    (λ (next : (leaf_count pages first ≡ 0) × (at ≡ next_trunk pages first) × (0 < at) × (most_leaves usable < leaf_count pages at)).
    let some : 0 < next_trunk pages first = omega (arith, next.1, next.2) in
    let many : most_leaves usable < leaf_count pages (next_trunk pages first) = subst (λ (n : ℕ). most_leaves usable < leaf_count pages n) next.1 next.3 in
    absurd (omega (arith, many, head.next_room some)))
    damaged

-- a header in a hundred bytes is one in all
byte_front : (xs : List ℕ) (i : ℕ) → i < 100 → slice_index xs i ≡ slice_index (take 100 xs) i
byte_front xs i low = sym (get_or-take 100 xs i 0 low)

number_front : (xs : List ℕ) (k : ℕ) → k + 4 ≤ 100 → u32_at xs k ≡ u32_at (take 100 xs) k
number_front xs k low = sym (u32_at-take 100 k xs low)

size_front : (xs : List ℕ) → page_size_at xs ≡ page_size_at (take 100 xs)
unfolding page_size_at u16_at
size_front xs = ap page_size_of (sym (ap (big_number 2) (sym (between_is xs 16 100)) ∙ big_from-take 0 2 84 (drop 16 xs) (omega arith)))

database_front : (xs : List ℕ) → is_database xs ≡ is_database (take 100 xs)
unfolding is_database
database_front xs =
    rw (
      sym (take-take 16 100 xs (omega arith)),
      byte_front xs 18 (omega arith),
      byte_front xs 19 (omega arith),
      byte_front xs 21 (omega arith),
      byte_front xs 22 (omega arith),
      byte_front xs 23 (omega arith),
    ) refl

wal_front : (xs : List ℕ) → is_wal xs ≡ is_wal (take 100 xs)
unfolding is_wal
wal_front xs = rw (byte_front xs 18 (omega arith), byte_front xs 19 (omega arith)) refl

fault_front : (xs : List ℕ) → 100 ≤ length xs → (fault : HeaderFault) → has_fault xs fault ≡ has_fault (take 100 xs) fault
fault_front xs long Short = le-ltb (length xs) 100 long ∙ sym (le-ltb (length (take 100 xs)) 100 (omega (arith, length-take-le 100 xs long)))
fault_front xs long NotADatabase = ap not (database_front xs)
fault_front xs long Wal = wal_front xs
fault_front xs long BadPageSize = ap (λ (n : ℕ). not (is_page_size n)) (size_front xs)
fault_front xs long AutoVacuum = ap (λ (n : ℕ). not (n == 0)) (number_front xs 52 (omega arith))
fault_front xs long Encoding = ap (λ (n : ℕ). nat_lt 1 n) (number_front xs 56 (omega arith))
fault_front xs long Reserved = rw (size_front xs, byte_front xs 20 (omega arith)) refl
fault_front xs long SchemaFormat = ap (λ (n : ℕ). not ((n == 0) || (n == 4))) (number_front xs 44 (omega arith))

find_alike : {X : Type 0} (f g : X → Bool) → ((x : X) → f x ≡ g x) → (xs : List X) → find f xs ≡ find g xs
find_alike f g same [] = refl
find_alike f g same (x ∷ xs) = rw (same x, find_alike f g same xs) refl

legal_whole : (xs : List ℕ) → 100 ≤ length xs → IsOk (header_of (take 100 xs)) → IsOk (header_of xs)
legal_whole xs long legal = go (find (has_fault xs) faults) (find (has_fault (take 100 xs)) faults) (fields xs) (fields (take 100 xs))
    (find_alike (has_fault xs) (has_fault (take 100 xs)) (fault_front xs long) faults) legal
  where
    go : (f g : Option HeaderFault) (h k : Header) → f ≡ g → IsOk (unless g k) → IsOk (unless f h)
    go None g h k same legal = refl
    go (Some e) None h k same legal = absurd cc
    go (Some e) (Some d) h k same legal = absurd cc

-- a header in all bytes is one in the first hundred
pub legal_front : (xs : List ℕ) → 100 ≤ length xs → IsOk (header_of xs) → IsOk (header_of (take 100 xs))
legal_front xs long legal = go (find (has_fault xs) faults) (find (has_fault (take 100 xs)) faults) (fields xs) (fields (take 100 xs))
    (find_alike (has_fault xs) (has_fault (take 100 xs)) (fault_front xs long) faults) legal
  where
    go : (f g : Option HeaderFault) (h k : Header) → f ≡ g → IsOk (unless f h) → IsOk (unless g k)
    go None None h k same legal = refl
    go None (Some d) h k same legal = absurd cc
    go (Some e) g h k same legal = absurd cc

-- page 1 is legal again when it names more pages
pub grows_legal : (count : ℕ) (front : List ℕ) → IsOk (header_of (take 100 front)) → IsErr (header_of (recounted count front)) → ⊥
grows_legal count front legal fails =
    let long = long_front front legal in
    let len = length-recounted count front (omega (arith, long)) in
    let was = ok_is (header_of (take 100 front)) legal in
    let header = header_stays front (recounted count front) was.0 was.1 long (omega (arith, len, long)) (recounted_keeps count front long).0 in
    not_both (header_of (recounted count front)) (legal_whole (recounted count front) (omega (arith, len, long)) (subst IsOk (sym header.legal) refl)) fails
  where
    not_both : {T E : Type 0} (r : Result T E) → IsOk r → IsErr r → ⊥
    not_both (Ok x) ok err = absurd cc
    not_both (Err e) ok err = absurd cc

-- why a fault is one of the likely ones
pub sure_of : (number count first next : ℕ) (Grown : SpaceFault → Type 0) → IsLaterPage number first → (0 < next → IsLaterPage number next)
    → ((at n : ℕ) → Grown (PageOut at n) → ⊥) → ((at : ℕ) → Grown (Spoilt at) → ⊥) → (fault : SpaceFault)
    → (fault ≡ Memory) ⊎ ((FitsGet count first fault ⊎ ((0 < next) × FitsGet count next fault)) ⊎ (FitsPut count first fault ⊎ Grown fault))
    → IsSure number fault
sure_of number count first next Grown head behind no_out no_spoilt (Busy at word) why = tt
sure_of number count first next Grown head behind no_out no_spoilt Read why = tt
sure_of number count first next Grown head behind no_out no_spoilt (Stopped op) why = tt
sure_of number count first next Grown head behind no_out no_spoilt (Full n) why = tt
sure_of number count first next Grown head behind no_out no_spoilt Memory why = tt
sure_of number count first next Grown head behind no_out no_spoilt (PageOut at n) why = ⊎_elim
    (λ (e : PageOut at n ≡ Memory). absurd cc)
    (λ (more : (FitsGet count first (PageOut at n) ⊎ ((0 < next) × FitsGet count next (PageOut at n))) ⊎ (FitsPut count first (PageOut at n) ⊎ Grown (PageOut at n))). ⊎_elim
    (λ (got : FitsGet count first (PageOut at n) ⊎ ((0 < next) × FitsGet count next (PageOut at n))). ⊎_elim
    (λ (one : FitsGet count first (PageOut at n)). (omega (arith, one.0, head.0), omega (arith, one.0, head.1)))
    (λ (two : (0 < next) × FitsGet count next (PageOut at n)). let is = behind two.0 in let same : at ≡ next = two.1.0 in (omega (arith, same, is.0), omega (arith, same, is.1)))
    got)
    (λ (put : FitsPut count first (PageOut at n) ⊎ Grown (PageOut at n)). ⊎_elim
    (λ (one : FitsPut count first (PageOut at n)). (omega (arith, one.0, head.0), omega (arith, one.0, head.1)))
    (λ (grown : Grown (PageOut at n)). absurd (no_out at n grown))
    put)
    more)
    why
sure_of number count first next Grown head behind no_out no_spoilt (Spoilt at) why = ⊎_elim
    (λ (e : Spoilt at ≡ Memory). absurd cc)
    (λ (more : (FitsGet count first (Spoilt at) ⊎ ((0 < next) × FitsGet count next (Spoilt at))) ⊎ (FitsPut count first (Spoilt at) ⊎ Grown (Spoilt at))). ⊎_elim
    (λ (got : FitsGet count first (Spoilt at) ⊎ ((0 < next) × FitsGet count next (Spoilt at))). ⊎_elim
    (λ (one : FitsGet count first (Spoilt at)). one)
    (λ (two : (0 < next) × FitsGet count next (Spoilt at)). two.1)
    got)
    (λ (put : FitsPut count first (Spoilt at) ⊎ Grown (Spoilt at)). ⊎_elim
    (λ (one : FitsPut count first (Spoilt at)). absurd (omega (arith, one.1, head.0)))
    (λ (grown : Grown (Spoilt at)). no_spoilt at grown)
    put)
    more)
    why

-- a call that fails names no fewer pages
number_more : {P : Type 0} (g : Ghosts P) (old new : P) (pages : Paging) → 100 ≤ length (sight g old pages 1) → g.count new < 2 ^ 32 → LeavesAlone g old new pages
    → number_in (sight g old pages) ≤ number_in (sight g new pages)
number_more g old new pages long small alone = ⊎_elim same
    (λ (fits : number_in (sight g old pages) + 16 ≤ g.count new). ⊎_elim same
    (λ (more : g.laid new 1 ≡ Some (recounted (number_in (sight g old pages) + 16) (sight g old pages 1))).
    let is = ap (λ (o : Option (List ℕ)). u32_at (unwrap_or o (pages 1)) 28) more ∙ number_recounted (number_in (sight g old pages) + 16) (sight g old pages 1) (omega (arith, long)) (omega (arith, fits, small)) in
    omega (arith, is))
    alone.front)
    alone.counted
  where
    same : g.laid new 1 ≡ g.laid old 1 → number_in (sight g old pages) ≤ number_in (sight g new pages)
    same e = let is = ap (λ (o : Option (List ℕ)). u32_at (unwrap_or o (pages 1)) 28) e in omega (arith, is)

pub likely_take : {P : Type 0} (g : Ghosts P) (old new : P) (first : ℕ) (result : Result ℕ TreeFault) → g.count new < 2 ^ 32
    → IfErr result (OnFault (TakesNot g old new first) (λ at. (pages : Paging) → Agrees pages (g.seen new) → IsDamaged (g.used old) (sight g old pages) first at))
    → OnErr result ((pages : Paging) → Agrees pages (g.seen new) → g.stands old pages → LeavesAlone g old new pages)
    → WhereListed g old new first (λ pages place. g.sealed old ≡ false → IsLikelyOfTree g new pages result)
likely_take g old new first (Ok page) small why alone = λ pages agrees stands place writable. tt
likely_take g old new first (Err (Corrupt at)) small why alone = λ pages agrees stands place writable.
    not_damaged (g.used old) (sight g old pages) first at
    (subst (Head (g.used old) (sight g old pages)) place.first_is (head_of (g.used old) (sight g old pages) place.before place.own place.after place.listed place.lists)) (why pages agrees)
likely_take g old new first (Err (Space fault)) small why alone = λ pages agrees stands place writable.
    let a = sight g old pages in
    let b = sight g new pages in
    let head = subst (Head (g.used old) a) place.first_is (head_of (g.used old) a place.before place.own place.after place.listed place.lists) in
    let more = number_more g old new pages (long_front (a 1) place.lists.legal) small (alone pages agrees stands) in
    sure_of (number_in b) (g.count new) first (next_trunk a first) (GrowsNot g old new) (head.placed.0, omega (arith, head.placed.1, more))
    (λ some. (let is = head.next some in (is.0, omega (arith, is.1, more))))
    (λ at n is. subst (λ (s : Bool). Fits s (g.count new) (FitsExtend (g.count new) (g.limit old)) (PageOut at n)) writable is.fits)
    (λ at is. grows_legal (g.count new + 16) (a 1) place.lists.legal (is.corrupt.1 pages agrees))
    fault (sort pages agrees writable why)
  where
    sort : (pages : Paging) → Agrees pages (g.seen new) → g.sealed old ≡ false → TakesNot g old new first fault
        → (fault ≡ Memory) ⊎ ((FitsGet (g.count new) first fault ⊎ ((0 < next_trunk (sight g old pages) first) × FitsGet (g.count new) (next_trunk (sight g old pages) first) fault))
        ⊎ (FitsPut (g.count new) first fault ⊎ GrowsNot g old new fault))
    sort pages agrees writable why = ⊎_elim
        (λ (memory : fault ≡ Memory). inl memory)
        (λ (more : MissesTrunk g old new first fault
        ⊎ (Fits (g.sealed old) (g.count new) (FitsPut (g.count new) first) fault
        ⊎ ((pages : Paging) → Agrees pages (g.seen new) → (leaf_count (sight g old pages) first ≡ 0) × (next_trunk (sight g old pages) first ≡ 0) × GrowsNot g old new fault))). ⊎_elim
        (λ (missed : MissesTrunk g old new first fault). ⊎_elim
        (λ (one : FitsGet (g.count new) first fault). inr (inl (inl one)))
        (λ (two : (pages : Paging) → Agrees pages (g.seen new)
        → (0 < next_trunk (sight g old pages) first) × FitsGet (g.count new) (next_trunk (sight g old pages) first) fault). inr (inl (inr (two pages agrees))))
        missed)
        (λ (rest : Fits (g.sealed old) (g.count new) (FitsPut (g.count new) first) fault
        ⊎ ((pages : Paging) → Agrees pages (g.seen new) → (leaf_count (sight g old pages) first ≡ 0) × (next_trunk (sight g old pages) first ≡ 0) × GrowsNot g old new fault)). ⊎_elim
        (λ (put : Fits (g.sealed old) (g.count new) (FitsPut (g.count new) first) fault).
        inr (inr (inl (subst (λ (s : Bool). Fits s (g.count new) (FitsPut (g.count new) first) fault) writable put))))
        (λ (grown : (pages : Paging) → Agrees pages (g.seen new) → (leaf_count (sight g old pages) first ≡ 0) × (next_trunk (sight g old pages) first ≡ 0) × GrowsNot g old new fault).
        inr (inr (inr (grown pages agrees).2)))
        rest)
        more)
        why

-- why a fault of a page that is given is one of the likely ones
sure_give : (number count first page : ℕ) → IsLaterPage number first → IsLaterPage number page → (fault : SpaceFault)
    → (fault ≡ Memory) ⊎ (FitsGet count first fault ⊎ (FitsPut count page fault ⊎ FitsPut count first fault)) → IsSure number fault
sure_give number count first page head mine (Busy at word) why = tt
sure_give number count first page head mine Read why = tt
sure_give number count first page head mine (Stopped op) why = tt
sure_give number count first page head mine (Full n) why = tt
sure_give number count first page head mine Memory why = tt
sure_give number count first page head mine (PageOut at n) why = ⊎_elim
    (λ (e : PageOut at n ≡ Memory). absurd cc)
    (λ (more : FitsGet count first (PageOut at n) ⊎ (FitsPut count page (PageOut at n) ⊎ FitsPut count first (PageOut at n))). ⊎_elim
    (λ (one : FitsGet count first (PageOut at n)). (omega (arith, one.0, head.0), omega (arith, one.0, head.1)))
    (λ (put : FitsPut count page (PageOut at n) ⊎ FitsPut count first (PageOut at n)). ⊎_elim
    (λ (one : FitsPut count page (PageOut at n)). (omega (arith, one.0, mine.0), omega (arith, one.0, mine.1)))
    (λ (one : FitsPut count first (PageOut at n)). (omega (arith, one.0, head.0), omega (arith, one.0, head.1)))
    put)
    more)
    why
sure_give number count first page head mine (Spoilt at) why = ⊎_elim
    (λ (e : Spoilt at ≡ Memory). absurd cc)
    (λ (more : FitsGet count first (Spoilt at) ⊎ (FitsPut count page (Spoilt at) ⊎ FitsPut count first (Spoilt at))). ⊎_elim
    (λ (one : FitsGet count first (Spoilt at)). one)
    (λ (put : FitsPut count page (Spoilt at) ⊎ FitsPut count first (Spoilt at)). ⊎_elim
    (λ (one : FitsPut count page (Spoilt at)). absurd (omega (arith, one.1, mine.0)))
    (λ (one : FitsPut count first (Spoilt at)). absurd (omega (arith, one.1, head.0)))
    put)
    more)
    why

pub likely_give : {P X : Type 0} (g : Ghosts P) (old new : P) (first page : ℕ) (result : Result X TreeFault)
    → IfErr result (OnFault (GivesNot g old new first page) (λ at. (at ≡ first) × ((pages : Paging) → Agrees pages (g.seen new) → most_leaves (g.used old) < leaf_count (sight g old pages) first)))
    → OnErr result ((n : ℕ) → n ≢ page → g.laid new n ≡ g.laid old n)
    → WhereListed g old new first (λ pages place. g.sealed old ≡ false → MayBeGiven g old pages first page place → IsLikelyOfTree g new pages result)
likely_give g old new first page (Ok x) why others = λ pages agrees stands place writable may. tt
likely_give g old new first page (Err (Corrupt at)) why others = λ pages agrees stands place writable may.
    let head = subst (Head (g.used old) (sight g old pages)) place.first_is (head_of (g.used old) (sight g old pages) place.before place.own place.after place.listed place.lists) in
    absurd (omega (arith, why.1 pages agrees, head.room))
likely_give g old new first page (Err (Space fault)) why others = λ pages agrees stands place writable may.
    let a = sight g old pages in
    let head = subst (Head (g.used old) a) place.first_is (head_of (g.used old) a place.before place.own place.after place.listed place.lists) in
    let same = ap (λ (o : Option (List ℕ)). u32_at (unwrap_or o (pages 1)) 28) (others 1 (λ (e : 1 ≡ page). absurd (omega (arith, e, may.placed.0)))) in
    let open_put : (n : ℕ) → Fits (g.sealed old) (g.count new) (FitsPut (g.count new) n) fault → FitsPut (g.count new) n fault =
    λ n put. subst (λ (s : Bool). Fits s (g.count new) (FitsPut (g.count new) n) fault) writable put in
    sure_give (number_in (sight g new pages)) (g.count new) first page (head.placed.0, omega (arith, head.placed.1, same)) (may.placed.0, omega (arith, may.placed.1, same)) fault
    (⊎_elim
    (λ (memory : fault ≡ Memory). inl memory)
    (λ (more : FitsGet (g.count new) first fault ⊎ (Fits (g.sealed old) (g.count new) (FitsPut (g.count new) page) fault ⊎ Fits (g.sealed old) (g.count new) (FitsPut (g.count new) first) fault)). ⊎_elim
    (λ (one : FitsGet (g.count new) first fault). inr (inl one))
    (λ (put : Fits (g.sealed old) (g.count new) (FitsPut (g.count new) page) fault ⊎ Fits (g.sealed old) (g.count new) (FitsPut (g.count new) first) fault). ⊎_elim
    (λ (one : Fits (g.sealed old) (g.count new) (FitsPut (g.count new) page) fault). inr (inr (inl (open_put page one))))
    (λ (one : Fits (g.sealed old) (g.count new) (FitsPut (g.count new) first) fault). inr (inr (inr (open_put first one))))
    put)
    more)
    why)
