-- What single calls of a space change.
use Rattle.std.proofs.Common.{◌≡◌, ◌≢◌, ◌⊎◌, ℕ, ◌+◌, ◌^◌, ◌<◌, ◌≤◌, ◌∙◌, inl, inr, List, [], ◌∷◌, take, drop, length, refl, sym, ap, subst, arith, Bool, true, false, Option, Some, None, unwrap_or, ⊎_elim}
use Rattle.std.specs.Prelude.{IsTrue, IsSome, IfErr, Result, Ok, Err}
use Rattle.std.proofs.lemmas.Bool.{cases_lt}
use Rattle.std.proofs.lemmas.List.{length-take}
use Rattle.spe_model.specs.Big.{u32_at}
use Rattle.spe_model.specs.Paging.{PageMap, Paging, lay}
use Rattle.spe_space.specs.declared.pages.Pages.{Ghosts}
use Rattle.spe_space.specs.Calls.{Keeps, Reads, sight}
use Rattle.spe_space.specs.Free.{DifferAt, IsApart, IsFreed, IsLaterPage, IsSame, MayFree}
use Rattle.spe_space.specs.Front.{list_in, number_in, recounted}
use Rattle.spe_space.specs.declared.fault.SpaceFault.{SpaceFault}
use Rattle.spe_space.specs.declared.fault.SpaceFault.TheVariants.{Busy, Read, Stopped, Full, PageOut, Corrupt as Spoilt, Memory}
use Rattle.spe_space.specs.Outcome.{Fits, FitsGet, FitsPut, IsInside, IsSure}
use Rattle.spe_space.specs.Space.{Allots, FrontStays, HandsOut, HandsOutNew, IsForAlloc, IsForFree, IsNext}
use Rattle.spe_space.proofs.FrontLemmas.{counters_recounted, number_alike, number_recounted, u32_at-take}
use Rattle.spe_frame.specs.Times.{AreSingle, HoldsOf, Lacks, times}
use Rattle.spe_frame.specs.Laws.{ReadsShift}
use Rattle.spe_frame.specs.Held.{AreHeld, HasHead, IsAtHand, IsCounted, IsLikely, IsOthers, IsReady, IsUsed, KeepsBody, KeepsHead, KeepsSizes, Puts, Shifts, Spares}
use Rattle.spe_frame.proofs.HeadLemmas.{head_alike, recounted_keeps, take_alike}
use Rattle.spe_frame.proofs.HeldLemmas.{list_same}
use Rattle.spe_frame.proofs.TimesLemmas.{here, same_or_not, there}

not_both : (b : Bool) → b ≡ false → IsTrue b → ⊥
not_both b off on = let e : true ≡ false = sym on ∙ off in absurd cc

-- a list of one page
one_single : (page : ℕ) → AreSingle (page ∷ [])
one_single page n = ⊎_elim
    (λ (e : n ≡ page). let at = here n page [] e in omega arith)
    (λ (e : n ≢ page). let at = there n page [] e in omega arith)
    (same_or_not n page)

one_holds : (P : ℕ → Type 0) (page : ℕ) → P page → HoldsOf P (page ∷ [])
one_holds P page is n some = ⊎_elim
    (λ (e : n ≡ page). subst P (sym e) is)
    (λ (e : n ≢ page). let at = there n page [] e in absurd (omega arith))
    (same_or_not n page)

one_has : (P : ℕ → Type 0) (page : ℕ) → HoldsOf P (page ∷ []) → P page
one_has P page holds = holds page (let at = here page page [] refl in omega arith)

other_one : (page n : ℕ) → Lacks (page ∷ []) n → n ≢ page
other_one page n lacks e = let at = here n page [] e in absurd (omega arith)

one_lacks : (page n : ℕ) → n ≢ page → Lacks (page ∷ []) n
one_lacks page n other = let at = there n page [] other in omega arith

-- page 1 as it is seen
abbrev front_of : {P : Type 0} → Ghosts P → P → Paging → List ℕ
front_of g s pages = sight g s pages 1

same_front : {P : Type 0} (g : Ghosts P) (old new : P) (pages : Paging) → g.laid new 1 ≡ g.laid old 1 → front_of g new pages ≡ front_of g old pages
same_front g old new pages same = ap (λ (o : Option (List ℕ)). unwrap_or o (pages 1)) same

head_same : (a b : List ℕ) → b ≡ a → KeepsHead a b
head_same a b same = record { first = ap (take 24) same; middle = ap (λ (xs : List ℕ). take 60 (drop 32 xs)) same; last = ap (λ (xs : List ℕ). take 4 (drop 96 xs)) same }

body_same : (a b : List ℕ) → b ≡ a → KeepsBody a b
body_same a b same = record { bytes = ap (drop 96) same; long = ap length same }

pub sizes_kept : {P : Type 0} (g : Ghosts P) (old new : P) → Keeps g old new → KeepsSizes g old new
sizes_kept g old new kept = record { size = kept.size; used = kept.used; limit = kept.limit }

pub sizes_read : {P : Type 0} (g : Ghosts P) (old new : P) → Reads g old new → KeepsSizes g old new
sizes_read g old new kept = record { size = kept.size; used = kept.used; limit = kept.limit }

counted_same : (a b : List ℕ) → b ≡ a → IsCounted a → IsCounted b
counted_same a b same counted = subst IsCounted (sym same) counted

-- so it is where the first hundred bytes stay
counted_alike : (a b : List ℕ) → take 100 b ≡ take 100 a → IsCounted a → IsCounted b
counted_alike a b alike counted =
    let at : (k : ℕ) → k + 4 ≤ 100 → u32_at b k ≡ u32_at a k = λ k low. sym (u32_at-take 100 k b low) ∙ ap (λ (xs : List ℕ). u32_at xs k) alike ∙ u32_at-take 100 k a low in
    record { some = omega (arith, at 28 (omega arith), counted.some); copied = at 24 (omega arith) ∙ counted.copied ∙ sym (at 92 (omega arith)) }

-- the space is ready again: page 1 has its header, and the page that it names for the freelist is as free as it was
ready_again : {P : Type 0} (g : Ghosts P) (old new : P) (pages : Paging) → IsReady g old pages → KeepsHead (front_of g old pages) (front_of g new pages)
    → g.stands new pages → 100 ≤ length (front_of g new pages) → number_in (sight g old pages) ≤ number_in (sight g new pages)
    → g.is_free new pages (list_in (sight g old pages)) ≡ false → IsReady g new pages
ready_again g old new pages ready head stands long more taken =
    let named = list_same (sight g old pages) (sight g new pages) head in
    record {
      stands = stands;
      long = long;
      named = rw named (omega (arith, ready.named, more));
      taken = ap (g.is_free new pages) named ∙ taken;
    }

pub get_likely : {P X : Type 0} (g : Ghosts P) (old new : P) (pages : Paging) (page : ℕ) (result : Result X SpaceFault) → g.laid new ≡ g.laid old
    → AreHeld g old pages (page ∷ []) → IfErr result (FitsGet (g.count new) page) → IsLikely g new pages result
get_likely g old new pages page result laid held fits =
    let used = one_has (IsUsed g old pages) page held.used in
    let number : number_in (sight g new pages) ≡ number_in (sight g old pages) = ap (λ (put : PageMap). number_in (lay put pages)) laid in
    go (number_in (sight g new pages)) (g.count new) page result (used.low, omega (arith, used.high, number)) fits
  where
    go : {X : Type 0} (number count page : ℕ) (result : Result X SpaceFault) → IsInside number page → IfErr result (FitsGet count page) → IfErr result (IsSure number)
    go number count page (Ok x) inside fits = tt
    go number count page (Err (Busy at word)) inside fits = tt
    go number count page (Err Read) inside fits = tt
    go number count page (Err (Stopped op)) inside fits = tt
    go number count page (Err (Full n)) inside fits = absurd fits
    go number count page (Err (PageOut at n)) inside fits = subst (IsInside number) (sym fits.0) inside
    go number count page (Err (Spoilt at)) inside fits = absurd fits
    go number count page (Err Memory) inside fits = tt

pub put_likely : {P X : Type 0} (g : Ghosts P) (old new : P) (pages : Paging) (page : ℕ) (result : Result X SpaceFault) → g.sealed old ≡ false → page ≢ 1 → IsReady g old pages
    → AreHeld g old pages (page ∷ []) → number_in (sight g old pages) ≤ number_in (sight g new pages)
    → IfErr result (Fits (g.sealed old) (g.count new) (FitsPut (g.count new) page)) → IsLikely g new pages result
put_likely g old new pages page result writable other ready held more fits =
    let used = one_has (IsUsed g old pages) page held.used in
    go (number_in (sight g new pages)) (g.count new) page result other (used.low, omega (arith, used.high, more))
    (subst (λ (b : Bool). IfErr result (Fits b (g.count new) (FitsPut (g.count new) page))) writable fits)
  where
    go : {X : Type 0} (number count page : ℕ) (result : Result X SpaceFault) → page ≢ 1 → IsInside number page → IfErr result (Fits false count (FitsPut count page)) → IfErr result (IsSure number)
    go number count page (Ok x) other inside fits = tt
    go number count page (Err (Busy at word)) other inside fits = tt
    go number count page (Err Read) other inside fits = tt
    go number count page (Err (Stopped op)) other inside fits = tt
    go number count page (Err (Full n)) other inside fits = absurd fits
    go number count page (Err (PageOut at n)) other inside fits = subst (IsInside number) (sym fits.0) inside
    go number count page (Err (Spoilt at)) other inside fits = absurd (other fits.1)
    go number count page (Err Memory) other inside fits = tt

-- the number of pages that page 1 names once it was put
pub record HasCount {P : Type 0} (g : Ghosts P) (old new : P) (pages : Paging) : Type 0 where
  pub number : number_in (sight g new pages) ≡ g.count new
  pub some : 1 ≤ g.count new
  pub under : g.count new ≤ g.limit old
  pub small : g.count new < 2 ^ 32

-- once page 1 was put, no other adds pages
pub count_named : {P : Type 0} (g : Ghosts P) (old new : P) (pages : Paging) → number_in (sight g new pages) ≡ g.count new → IsInside (g.limit new) (g.count new)
    → Keeps g old new → g.count new < 2 ^ 32 → HasCount g old new pages
count_named g old new pages number within kept small = record { number = number; some = within.0; under = omega (arith, within.1, kept.limit); small = small }

-- nothing that is in use was touched by an allocation, page 1 apart
alloc_keeps : {P X : Type 0} (g : Ghosts P) (old : P) (pages : Paging) (a b : ℕ → X) → DifferAt a b (IsForAlloc g old pages) → (n : ℕ) → IsUsed g old pages n → n ≢ 1 → b n ≡ a n
alloc_keeps g old pages a b differ n used other = ⊎_elim
    (λ (same : b n ≡ a n). same)
    (λ (changed : IsForAlloc g old pages n). absurd (⊎_elim
    (λ (free : IsTrue (g.is_free old pages n)). not_both (g.is_free old pages n) used.taken free)
    (λ (more : (n ≡ 1) ⊎ (number_in (sight g old pages) < n)). ⊎_elim
    (λ (first : n ≡ 1). other first)
    (λ (above : number_in (sight g old pages) < n). absurd (omega (arith, above, used.high)))
    more)
    changed))
    (differ n)

-- page 1 after an allocation
front_keeps : {P : Type 0} (g : Ghosts P) (old new : P) (pages : Paging) → IsReady g old pages → FrontStays g old new pages
    → KeepsHead (front_of g old pages) (front_of g new pages) × KeepsBody (front_of g old pages) (front_of g new pages)
front_keeps g old new pages ready front = ⊎_elim
    (λ (same : g.laid new 1 ≡ g.laid old 1). let e = same_front g old new pages same in
    (head_same (front_of g old pages) (front_of g new pages) e, body_same (front_of g old pages) (front_of g new pages) e))
    (λ (more : g.laid new 1 ≡ Some (recounted (number_in (sight g old pages) + 16) (front_of g old pages))).
    let e : recounted (number_in (sight g old pages) + 16) (front_of g old pages) ≡ front_of g new pages = rw more refl in
    let a = front_of g old pages in
    let keeps = recounted_keeps (number_in (sight g old pages) + 16) a ready.long in
    (subst (KeepsHead a) e keeps.0, subst (KeepsBody a) e keeps.1))
    front

-- and what an allocation makes of it
record Numbers {P : Type 0} (g : Ghosts P) (old new : P) (pages : Paging) : Type 0 where
  pub counted : IsCounted (front_of g old pages) → IsCounted (front_of g new pages)
  pub bound : (number_in (sight g new pages) ≡ number_in (sight g old pages)) ⊎ (number_in (sight g new pages) ≤ g.limit old)
  pub few : number_in (sight g new pages) ≤ number_in (sight g old pages) + 16

alloc_numbers : {P : Type 0} (g : Ghosts P) (old new : P) (pages : Paging) → IsReady g old pages → FrontStays g old new pages
    → (IsSome (g.laid new 1) → HasCount g old new pages) → Numbers g old new pages
alloc_numbers g old new pages ready front numbered = ⊎_elim
    (λ (same : g.laid new 1 ≡ g.laid old 1).
    let e = same_front g old new pages same in
    let number : number_in (sight g new pages) ≡ number_in (sight g old pages) = ap (λ (xs : List ℕ). u32_at xs 28) e in
    record { counted = counted_same (front_of g old pages) (front_of g new pages) e; bound = inl number; few = omega (arith, number) })
    (λ (more : g.laid new 1 ≡ Some (recounted (number_in (sight g old pages) + 16) (front_of g old pages))).
    let n = number_in (sight g old pages) + 16 in
    let e : front_of g new pages ≡ recounted n (front_of g old pages) = rw more refl in
    let now = numbered (rw more refl) in
    let counters : u32_at (front_of g new pages) 24 ≡ u32_at (front_of g new pages) 92 =
    subst (λ (xs : List ℕ). u32_at xs 24 ≡ u32_at xs 92) (sym e) (counters_recounted n (front_of g old pages) (omega (arith, ready.long))) in
    record {
      counted = λ counted. record { some = omega (arith, now.number, now.some); copied = counters };
      bound = inr (omega (arith, now.number, now.under));
      few = ⊎_elim
          (λ (small : n < 2 ^ 32). let is : number_in (sight g new pages) ≡ n = ap (λ (xs : List ℕ). u32_at xs 28) e ∙ number_recounted n (front_of g old pages) (omega (arith, ready.long)) small in omega (arith, is))
          (λ (large : 2 ^ 32 ≤ n). omega (arith, large, now.number, now.small))
          (cases_lt n (2 ^ 32));
    })
    front

pub alloc_spares : {P : Type 0} (g : Ghosts P) (old new : P) (pages : Paging) → IsReady g old pages → Keeps g old new
    → DifferAt (g.seen old) (g.seen new) (IsForAlloc g old pages) → DifferAt (g.laid old) (g.laid new) (IsForAlloc g old pages) → FrontStays g old new pages
    → (IsSome (g.laid new 1) → HasCount g old new pages) → Spares g old new pages [] 1
alloc_spares g old new pages ready kept seen laid front numbered =
    let keeps = front_keeps g old new pages ready front in
    let numbers = alloc_numbers g old new pages ready front numbered in
    record {
      seen = λ n other not_first. alloc_keeps g old pages (g.seen old) (g.seen new) seen n other.used not_first;
      laid = λ n other not_first. alloc_keeps g old pages (g.laid old) (g.laid new) laid n other.used not_first;
      head = keeps.0;
      body = λ lacks. keeps.1;
      counted = numbers.counted;
      bound = numbers.bound;
      few = omega (arith, numbers.few);
      sizes = sizes_kept g old new kept;
    }

-- what an allocation does to numbers of pages and free pages
record Handed {P : Type 0} (g : Ghosts P) (old new : P) (pages : Paging) (page : ℕ) : Type 0 where
  more : number_in (sight g old pages) ≤ number_in (sight g new pages)
  few : number_in (sight g new pages) ≤ number_in (sight g old pages) + 16
  low : 2 ≤ page
  high : page ≤ number_in (sight g new pages)
  taken : g.is_free new pages page ≡ false
  others : (n : ℕ) → n ≤ number_in (sight g old pages) → g.is_free old pages n ≡ false → (g.is_free new pages n ≡ false) × (n ≢ page)
  found : (n : ℕ) → IsTrue (g.is_free old pages n) → IsAtHand g new pages (page ∷ []) n
  added : (n : ℕ) → number_in (sight g old pages) < n → n ≤ number_in (sight g new pages) → IsAtHand g new pages (page ∷ []) n

-- a page is the one that was handed out, or is free
at_hand : {P : Type 0} (g : Ghosts P) (s : P) (pages : Paging) (page n : ℕ) → (n ≢ page → IsTrue (g.is_free s pages n)) → IsAtHand g s pages (page ∷ []) n
at_hand g s pages page n free = ⊎_elim
    (λ (e : n ≡ page). let at = here n page [] e in inr (omega (arith, at)))
    (λ (e : n ≢ page). inl (free e))
    (same_or_not n page)

same_number : {P : Type 0} (g : Ghosts P) (old new : P) (pages : Paging) → g.laid new 1 ≡ g.laid old 1 → number_in (sight g new pages) ≡ number_in (sight g old pages)
same_number g old new pages same = ap (λ (xs : List ℕ). u32_at xs 28) (same_front g old new pages same)

pub same_more : {P : Type 0} (g : Ghosts P) (old new : P) (pages : Paging) → g.laid new 1 ≡ g.laid old 1 → number_in (sight g old pages) ≤ number_in (sight g new pages)
same_more g old new pages same = let e = same_number g old new pages same in omega (arith, e)

handed_old : {P : Type 0} (g : Ghosts P) (old new : P) (pages : Paging) (page : ℕ)
    → ((n : ℕ) → IsTrue (g.is_free old pages n) → IsLaterPage (number_in (sight g old pages)) n) → HandsOut g old new page pages → Handed g old new pages page
handed_old g old new pages page placed hands =
    let same = same_number g old new pages hands.front in
    let at = placed page hands.free.was in
    record {
      more = omega (arith, same);
      few = omega (arith, same);
      low = omega (arith, at.0);
      high = omega (arith, at.1, same);
      taken = hands.free.taken;
      others = λ n low free. let other : n ≢ page = λ (e : n ≡ page). not_both (g.is_free old pages page) (ap (g.is_free old pages) (sym e) ∙ free) hands.free.was in
          (hands.free.others n other ∙ free, other);
      found = λ n free. at_hand g new pages page n (λ other. hands.free.others n other ∙ free);
      added = λ n above under. absurd (omega (arith, above, under, same));
    }

handed_new : {P : Type 0} (g : Ghosts P) (old new : P) (pages : Paging) (page : ℕ)
    → IsReady g old pages → ((n : ℕ) → IsTrue (g.is_free old pages n) → IsLaterPage (number_in (sight g old pages)) n) → 2 ≤ page → page + 15 < 2 ^ 32
    → HandsOutNew g old new page pages → Handed g old new pages page
handed_new g old new pages page ready placed low small hands =
    let shown : front_of g new pages ≡ recounted (page + 15) (front_of g old pages) = rw hands.front refl in
    let number : number_in (sight g new pages) ≡ page + 15 =
    ap (λ (xs : List ℕ). u32_at xs 28) shown ∙ number_recounted (page + 15) (front_of g old pages) (omega (arith, ready.long)) small in
    record {
      more = omega (arith, number, hands.above);
      few = omega (arith, number, hands.above);
      low = low;
      high = omega (arith, number);
      taken = hands.free.taken;
      others = λ n low free. (hands.free.others n (λ new. absurd (omega (arith, new.0, low, hands.above))) ∙ free, (λ (e : n ≡ page). absurd (omega (arith, e, low, hands.above))));
      found = λ n free. inl (hands.free.others n (λ new. absurd (omega (arith, new.0, (placed n free).1, hands.above))) ∙ free);
      added = λ n above under. at_hand g new pages page n (λ other. hands.free.freed n (omega (arith, above, hands.above), omega (arith, under, number)) other);
    }

handed : {P : Type 0} (g : Ghosts P) (old new : P) (pages : Paging) (page : ℕ) (next : Option ℕ) → IsReady g old pages
    → ((n : ℕ) → IsTrue (g.is_free old pages n) → IsLaterPage (number_in (sight g old pages)) n) → 1 ≤ g.count old → g.count new < 2 ^ 32
    → IsNext next (g.count old) (g.count new) page → Allots g old new next page pages → Handed g old new pages page
handed g old new pages page (Some free) ready placed some small next allots = handed_old g old new pages page placed allots
handed g old new pages page None ready placed some small next allots = handed_new g old new pages page ready placed (omega (arith, next.0, some)) (omega (arith, next.1, small)) allots

pub alloc_shifts : {P : Type 0} (g : Ghosts P) (old new : P) (pages : Paging) (page : ℕ) (next : Option ℕ) → IsReady g old pages
    → ((n : ℕ) → IsTrue (g.is_free old pages n) → IsLaterPage (number_in (sight g old pages)) n) → 1 ≤ g.count old → g.count new < 2 ^ 32
    → IsNext next (g.count old) (g.count new) page → Allots g old new next page pages → g.stands new pages
    → Spares g old new pages [] 1 → Shifts g old new pages [] (page ∷ []) 1
alloc_shifts g old new pages page next ready placed some small is_next allots stands spares =
    let hands = handed g old new pages page next ready placed some small is_next allots in
    let list = hands.others (list_in (sight g old pages)) ready.named ready.taken in
    let named = list_same (sight g old pages) (sight g new pages) spares.head in
    let body = spares.body refl in
    record {
      spares = spares;
      others = λ n other. let mine = hands.others n other.used.high other.used.taken in record {
        used = record { low = other.used.low; high = omega (arith, other.used.high, hands.more); taken = mine.0 };
        lacks = one_lacks page n mine.1;
      };
      front = λ lacks. one_lacks page 1 (λ (e : 1 ≡ page). absurd (omega (arith, e, hands.low)));
      held = λ held. record {
        single = one_single page;
        used = one_holds (IsUsed g new pages) page (record { low = omega (arith, hands.low); high = hands.high; taken = hands.taken });
        unnamed = ap (λ (n : ℕ). times n (page ∷ [])) named ∙ one_lacks page (list_in (sight g old pages)) list.1;
      };
      ready = ready_again g old new pages ready spares.head stands (omega (arith, body.long, ready.long)) hands.more list.0;
      more = hands.more;
      found = λ n here. ⊎_elim
          (λ (free : IsTrue (g.is_free old pages n)). hands.found n free)
          (λ (some : 0 < times n []). absurd (omega (arith, some)))
          here;
      added = hands.added;
    }

pub first_stays : {P : Type 0} (g : Ghosts P) (old new : P) (pages : Paging) (page : ℕ) → 2 ≤ page
    → ((n : ℕ) → IsTrue (g.is_free old pages n) → IsLaterPage (number_in (sight g old pages)) n)
    → DifferAt (g.laid old) (g.laid new) (IsForFree g old page pages) → g.laid new 1 ≡ g.laid old 1
first_stays g old new pages page low placed laid = ⊎_elim
    (λ (same : g.laid new 1 ≡ g.laid old 1). same)
    (λ (changed : IsForFree g old page pages 1). absurd (⊎_elim
    (λ (free : IsTrue (g.is_free old pages 1)). absurd (omega (arith, (placed 1 free).0)))
    (λ (mine : 1 ≡ page). absurd (omega (arith, mine, low)))
    changed))
    (laid 1)

-- a page is taken back
pub free_spares : {P : Type 0} (g : Ghosts P) (old new : P) (pages : Paging) (page : ℕ) → 2 ≤ page → Keeps g old new
    → ((n : ℕ) → IsTrue (g.is_free old pages n) → IsLaterPage (number_in (sight g old pages)) n)
    → DifferAt (g.seen old) (g.seen new) (IsForFree g old page pages) → DifferAt (g.laid old) (g.laid new) (IsForFree g old page pages) → Spares g old new pages (page ∷ []) 0
free_spares g old new pages page low kept placed seen laid =
    let same = same_front g old new pages (first_stays g old new pages page low placed laid) in
    record {
      seen = λ n other not_first. free_keeps g old pages page (g.seen old) (g.seen new) seen n other;
      laid = λ n other not_first. free_keeps g old pages page (g.laid old) (g.laid new) laid n other;
      head = head_same (front_of g old pages) (front_of g new pages) same;
      body = λ lacks. body_same (front_of g old pages) (front_of g new pages) same;
      counted = counted_same (front_of g old pages) (front_of g new pages) same;
      bound = inl (ap (λ (xs : List ℕ). u32_at xs 28) same);
      few = let number : number_in (sight g new pages) ≡ number_in (sight g old pages) = ap (λ (xs : List ℕ). u32_at xs 28) same in omega (arith, number);
      sizes = sizes_kept g old new kept;
    }
  where
    free_keeps : {P X : Type 0} (g : Ghosts P) (old : P) (pages : Paging) (page : ℕ) (a b : ℕ → X) → DifferAt a b (IsForFree g old page pages)
        → (n : ℕ) → IsOthers g old pages (page ∷ []) n → b n ≡ a n
    free_keeps g old pages page a b differ n other = ⊎_elim
        (λ (same : b n ≡ a n). same)
        (λ (changed : IsForFree g old page pages n). absurd (⊎_elim
        (λ (free : IsTrue (g.is_free old pages n)). not_both (g.is_free old pages n) other.used.taken free)
        (λ (mine : n ≡ page). other_one page n other.lacks mine)
        changed))
        (differ n)

-- the page may be freed
pub may_free : {P : Type 0} (g : Ghosts P) (s : P) (pages : Paging) (page : ℕ) → 2 ≤ page → AreHeld g s pages (page ∷ []) → MayFree (sight g s pages) (g.is_free s pages) page
may_free g s pages page low held =
    let used = one_has (IsUsed g s pages) page held.used in
    record { low = low; high = used.high; taken = used.taken; unnamed = λ (e : page ≡ list_in (sight g s pages)). other_one page (list_in (sight g s pages)) held.unnamed (sym e) }

pub free_shifts : {P : Type 0} (g : Ghosts P) (old new : P) (pages : Paging) (page : ℕ) → 2 ≤ page → IsReady g old pages → AreHeld g old pages (page ∷ [])
    → g.laid new 1 ≡ g.laid old 1 → IsFreed (g.is_free old pages) (g.is_free new pages) page → g.stands new pages
    → Spares g old new pages (page ∷ []) 0 → Shifts g old new pages (page ∷ []) [] 0
free_shifts g old new pages page low ready held front freed stands spares =
    let number = same_number g old new pages front in
    let same = same_front g old new pages front in
    let may = may_free g old pages page low held in
    let list = list_in (sight g old pages) in
    record {
      spares = spares;
      others = λ n other. record {
        used = record { low = other.used.low; high = omega (arith, other.used.high, number); taken = freed.others n (other_one page n other.lacks) ∙ other.used.taken };
        lacks = refl;
      };
      front = λ lacks. refl;
      held = λ held. record { single = λ n. omega arith; used = λ n some. absurd (omega (arith, some)); unnamed = refl };
      ready = ready_again g old new pages ready spares.head stands (omega (arith, ap length same, ready.long)) (omega (arith, number))
          (freed.others list (λ (e : list ≡ page). may.unnamed (sym e)) ∙ ready.taken);
      more = omega (arith, number);
      found = λ n here. ⊎_elim
          (λ (same : n ≡ page). inl (subst (λ (m : ℕ). IsTrue (g.is_free new pages m)) (sym same) freed.freed))
          (λ (other : n ≢ page). ⊎_elim
          (λ (was : IsTrue (g.is_free old pages n)). inl (freed.others n other ∙ was))
          (λ (some : 0 < times n (page ∷ [])). let at = there n page [] other in absurd (omega (arith, at, some)))
          here)
          (same_or_not n page);
      added = λ n above under. absurd (omega (arith, above, under, number));
    }

hand_same : {P : Type 0} (g : Ghosts P) (old new : P) (pages : Paging) (own : List ℕ) (n : ℕ) → g.is_free new pages n ≡ g.is_free old pages n
    → IsAtHand g old pages own n → IsAtHand g new pages own n
hand_same g old new pages own n same at = ⊎_elim
    (λ (free : IsTrue (g.is_free old pages n)). inl (same ∙ free))
    (λ (some : 0 < times n own). inr some)
    at

-- a page may be put
pub is_apart : {P : Type 0} (g : Ghosts P) (s : P) (pages : Paging) (page : ℕ) (bytes : List ℕ) → AreHeld g s pages (page ∷ []) → HasHead page (front_of g s pages) bytes
    → IsApart (sight g s pages) (g.is_free s pages) page bytes
is_apart g s pages page bytes held head = record {
  taken = (one_has (IsUsed g s pages) page held.used).taken;
  unnamed = λ (e : page ≡ list_in (sight g s pages)). other_one page (list_in (sight g s pages)) held.unnamed (sym e);
  front = λ first. take_alike 40 100 bytes (front_of g s pages) (omega arith) (head first);
}

-- page 1 after a put
record FrontPut (page : ℕ) (old new : List ℕ) : Type 0 where
  head : KeepsHead old new
  body : Lacks (page ∷ []) 1 → KeepsBody old new
  long : 100 ≤ length new
  number : u32_at new 28 ≡ u32_at old 28
  counted : IsCounted old → IsCounted new

front_put : {P : Type 0} (g : Ghosts P) (old new : P) (pages : Paging) (page : ℕ) (bytes : List ℕ) → Puts g old new page bytes → 100 ≤ length (front_of g old pages)
    → HasHead page (front_of g old pages) bytes → FrontPut page (front_of g old pages) (front_of g new pages)
front_put g old new pages page bytes puts long head = ⊎_elim
    (λ (first : 1 ≡ page).
    let there : g.laid new 1 ≡ Some bytes = ap (g.laid new) first ∙ puts.there in
    let shown : bytes ≡ front_of g new pages = rw there refl in
    let alike : take 100 (front_of g new pages) ≡ take 100 (front_of g old pages) = subst (λ (b : List ℕ). take 100 b ≡ take 100 (front_of g old pages)) shown (head (sym first)) in
    let forty = take_alike 40 100 (front_of g new pages) (front_of g old pages) (omega arith) alike in
    record {
      head = head_alike (front_of g old pages) (front_of g new pages) alike;
      body = λ lacks. absurd (other_one page 1 lacks first);
      long = omega (arith, ap length alike, length-take 100 (front_of g new pages), length-take 100 (front_of g old pages), long);
      number = number_alike (front_of g new pages) (front_of g old pages) forty;
      counted = counted_alike (front_of g old pages) (front_of g new pages) alike;
    })
    (λ (other : 1 ≢ page).
    let same = same_front g old new pages (puts.others 1 other) in
    record {
      head = head_same (front_of g old pages) (front_of g new pages) same;
      body = λ lacks. body_same (front_of g old pages) (front_of g new pages) same;
      long = omega (arith, ap length same, long);
      number = ap (λ (xs : List ℕ). u32_at xs 28) same;
      counted = counted_same (front_of g old pages) (front_of g new pages) same;
    })
    (same_or_not 1 page)

pub put_shifts : {P : Type 0} (g : Ghosts P) (old new : P) (pages : Paging) (page : ℕ) (bytes : List ℕ) → Puts g old new page bytes → g.seen new ≡ g.seen old → KeepsSizes g old new
    → IsReady g old pages → HasHead page (front_of g old pages) bytes → IsSame (g.is_free old pages) (g.is_free new pages) → g.stands new pages
    → Shifts g old new pages (page ∷ []) (page ∷ []) 0
put_shifts g old new pages page bytes puts seen kept ready head free stands =
    let front = front_put g old new pages page bytes puts ready.long head in
    let number : number_in (sight g new pages) ≡ number_in (sight g old pages) = front.number in
    let named = list_same (sight g old pages) (sight g new pages) front.head in
    record {
      spares = record {
        seen = λ n other not_first. ap (λ (given : ℕ → List (List ℕ)). given n) seen;
        laid = λ n other not_first. puts.others n (other_one page n other.lacks);
        head = front.head;
        body = front.body;
        counted = front.counted;
        bound = inl number;
        few = omega (arith, number);
        sizes = kept;
      };
      others = λ n other. record {
        used = record { low = other.used.low; high = omega (arith, other.used.high, number); taken = free n ∙ other.used.taken };
        lacks = other.lacks;
      };
      front = λ lacks. lacks;
      held = λ held. let used = one_has (IsUsed g old pages) page held.used in record {
        single = held.single;
        used = one_holds (IsUsed g new pages) page (record { low = used.low; high = omega (arith, used.high, number); taken = free page ∙ used.taken });
        unnamed = ap (λ (n : ℕ). times n (page ∷ [])) named ∙ held.unnamed;
      };
      ready = ready_again g old new pages ready front.head stands front.long (omega (arith, number)) (free (list_in (sight g old pages)) ∙ ready.taken);
      more = omega (arith, number);
      found = λ n here. hand_same g old new pages (page ∷ []) n (free n) here;
      added = λ n above under. absurd (omega (arith, above, under, number));
    }

-- a page is only given
pub gets_shift : {P : Type 0} (g : Ghosts P) (old new : P) (pages : Paging) (own : List ℕ) → ((n : ℕ) → Lacks own n → g.seen new n ≡ g.seen old n) → Reads g old new
    → g.stands new pages → IsReady g old pages → Shifts g old new pages own own 0
gets_shift g old new pages own seen kept stands ready =
    let laid = kept.laid in
    let free = kept.free in
    let each : (n : ℕ) → g.laid new n ≡ g.laid old n = λ n. ap (λ (put : ℕ → Option (List ℕ)). put n) laid in
    let same = same_front g old new pages (each 1) in
    let number = same_number g old new pages (each 1) in
    let named : list_in (sight g new pages) ≡ list_in (sight g old pages) = ap (λ (xs : List ℕ). u32_at xs 32) same in
    let freed : (n : ℕ) → g.is_free new pages n ≡ g.is_free old pages n = λ n. ap (λ (f : Paging → ℕ → Bool). f pages n) free in
    let head = head_same (front_of g old pages) (front_of g new pages) same in
    let again : (n : ℕ) → IsUsed g old pages n → IsUsed g new pages n = λ n used. record { low = used.low; high = omega (arith, used.high, number); taken = freed n ∙ used.taken } in
    record {
      spares = record {
        seen = λ n other not_first. seen n other.lacks;
        laid = λ n other not_first. each n;
        head = head;
        body = λ lacks. body_same (front_of g old pages) (front_of g new pages) same;
        counted = counted_same (front_of g old pages) (front_of g new pages) same;
        bound = inl number;
        few = omega (arith, number);
        sizes = sizes_read g old new kept;
      };
      others = λ n other. record { used = again n other.used; lacks = other.lacks };
      front = λ lacks. lacks;
      held = λ held. record { single = held.single; used = λ n some. again n (held.used n some); unnamed = ap (λ (n : ℕ). times n own) named ∙ held.unnamed };
      ready = ready_again g old new pages ready head stands (omega (arith, ap length same, ready.long)) (omega (arith, number)) (freed (list_in (sight g old pages)) ∙ ready.taken);
      more = omega (arith, number);
      found = λ n here. hand_same g old new pages own n (freed n) here;
      added = λ n above under. absurd (omega (arith, above, under, number));
    }

pub get_shifts : {P : Type 0} (g : Ghosts P) (old new : P) (pages : Paging) (page : ℕ) → ((n : ℕ) → n ≢ page → g.seen new n ≡ g.seen old n) → Reads g old new
    → g.stands new pages → IsReady g old pages → Shifts g old new pages (page ∷ []) (page ∷ []) 0
get_shifts g old new pages page seen kept stands ready =
    gets_shift g old new pages (page ∷ []) (λ n lacks. seen n (other_one page n lacks)) kept stands ready

-- the same of a call that says which pages it got
pub reads_shift : {P : Type 0} (g : Ghosts P) → ReadsShift g
reads_shift g old new pages own agrees ready kept seen =
    gets_shift g old new pages own
    (λ n lacks. ⊎_elim (λ (same : g.seen new n ≡ g.seen old n). same) (λ (some : 0 < times n own). absurd (omega (arith, some, lacks))) (seen n))
    kept (kept.stands pages agrees ready.stands) ready
