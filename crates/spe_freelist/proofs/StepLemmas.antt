-- Steps on trunks, one after another.
use Rattle.std.proofs.Common.{◌≡◌, ◌≢◌, ℕ, ◌+◌, ◌-◌, ◌*◌, ◌^◌, ◌<◌, ◌≤◌, ◌∙◌, List, [], ◌∷◌, ◌++◌, length, take, drop, refl, sym, ap, subst, inl, inr, arith, Some}
use Rattle.std.specs.Prelude.{Result, Ok, Err, IfOk, OnOk, replicate}
use Rattle.std.proofs.Math.Nat.{mul-le-mul_left}
use Rattle.spe_model.specs.Big.{u32_at}
use Rattle.spe_model.specs.FreeList.{leaves_of, next_trunk}
use Rattle.spe_model.specs.Paging.{Agrees, PageMap, Paging, lay}
use Rattle.spe_space.specs.declared.pages.Pages.{Ghosts}
use Rattle.spe_space.specs.declared.fault.TreeFault.{TreeFault}
use Rattle.spe_space.specs.Calls.{Reads, sight}
use Rattle.spe_space.specs.Free.{IsNew}
use Rattle.spe_space.specs.Front.{number_in, recounted}
use Rattle.spe_space.proofs.FrontLemmas.{u32_at-take}
use Rattle.spe_freelist.specs.Steps.{Gave, Grows, PutsTrunk, PutsTrunks, Took}
use Rattle.spe_freelist.specs.Trunk.{IsTrunk, fifteen, full_leaves, leaves_at, most_leaves}
use Rattle.spe_freelist.proofs.TrunkLemmas.{map_alike}

-- leaves stand before the end of what the format uses
pub leaves_front : (usable count : ℕ) (a b : List ℕ) → 8 + 4 * count ≤ usable → take usable a ≡ take usable b → leaves_at a count ≡ leaves_at b count
leaves_front usable count a b room alike =
    map_alike (λ (i : ℕ). u32_at a (8 + 4 * i)) (λ (i : ℕ). u32_at b (8 + 4 * i)) 0 count
    (λ i low. sym (u32_at-take usable (8 + 4 * i) a (omega (arith, low, room))) ∙ ap (λ (xs : List ℕ). u32_at xs (8 + 4 * i)) alike ∙ u32_at-take usable (8 + 4 * i) b (omega (arith, low, room)))

pub trunk_as : (usable usable' next next' : ℕ) (leaves leaves' reserved reserved' bytes : List ℕ) → usable ≡ usable' → next ≡ next' → leaves ≡ leaves' → reserved ≡ reserved'
    → IsTrunk usable next leaves reserved bytes → IsTrunk usable' next' leaves' reserved' bytes
trunk_as usable usable' next next' leaves leaves' reserved reserved' bytes a b c d is =
    subst (λ (u : ℕ). IsTrunk u next' leaves' reserved' bytes) a
    (subst (λ (n : ℕ). IsTrunk usable n leaves' reserved' bytes) b
    (subst (λ (l : List ℕ). IsTrunk usable next l reserved' bytes) c
    (subst (λ (r : List ℕ). IsTrunk usable next leaves r bytes) d is)))

-- a trunk is put after calls that put nothing
pub puts_as : {P : Type 0} (g : Ghosts P) (old mid new : P) (trunk next next' : ℕ) (leaves leaves' reserved reserved' : List ℕ)
    → g.laid mid ≡ g.laid old → g.used mid ≡ g.used old → next ≡ next' → leaves ≡ leaves' → reserved ≡ reserved'
    → PutsTrunk g mid new trunk next leaves reserved → PutsTrunk g old new trunk next' leaves' reserved'
puts_as g old mid new trunk next next' leaves leaves' reserved reserved' laid used a b c put = record {
  bytes = put.bytes;
  there = put.there;
  is = trunk_as (g.used mid) (g.used old) next next' leaves leaves' reserved reserved' put.bytes used a b c put.is;
  others = λ n other. put.others n other ∙ ap (λ (l : PageMap). l n) laid;
}

-- the first trunk is put with the leaves of another
pub trunk_moved : {P : Type 0} (g : Ghosts P) (old mid new : P) (pages : Paging) (first trunk next count usable : ℕ) (start got page reserved : List ℕ)
    → got ≡ sight g old pages trunk → count ≡ u32_at got 4 → count ≤ most_leaves (g.used old) → next ≡ u32_at got 0
    → usable ≡ g.used old → 480 ≤ usable → take usable page ≡ take usable got → drop usable page ≡ reserved → reserved ≡ drop usable start
    → g.laid mid ≡ g.laid old → g.used mid ≡ g.used old
    → PutsTrunk g mid new first next (leaves_at page count) (drop (g.used mid) page)
    → PutsTrunk g old new first (next_trunk (sight g old pages) trunk) (leaves_of (sight g old pages) trunk) (drop (g.used old) start)
trunk_moved g old mid new pages first trunk next count usable start got page reserved seen counted most next_is usable_is least front behind kept laid used put =
    let leaves : leaves_at page count ≡ leaves_of (sight g old pages) trunk =
    leaves_front usable count page got (omega (arith, most, usable_is, least)) front ∙ ap (leaves_at got) counted ∙ ap (λ (xs : List ℕ). leaves_at xs (u32_at xs 4)) seen in
    let tail : drop (g.used mid) page ≡ drop (g.used old) start =
    ap (λ (u : ℕ). drop u page) (used ∙ sym usable_is) ∙ behind ∙ kept ∙ ap (λ (u : ℕ). drop u start) usable_is in
    puts_as g old mid new first next (next_trunk (sight g old pages) trunk) (leaves_at page count) (leaves_of (sight g old pages) trunk) (drop (g.used mid) page) (drop (g.used old) start)
    laid used (next_is ∙ ap (λ (xs : List ℕ). u32_at xs 0) seen) leaves tail put

-- pages of 512 bytes at least that take 2^30 at most are fewer than 2^32
pub few_pages : (count limit size : ℕ) → count ≤ limit → 512 ≤ size → limit * size ≤ 2 ^ 30 → count < 2 ^ 32
few_pages count limit size under least most = let e = mul-le-mul_left limit least in omega (arith, e)

-- sixteen pages are added, and then the first trunk is put
pub grown : {P : Type 0} (g : Ghosts P) (old mid new : P) (pages : Paging) (first added usable : ℕ) (start page : List ℕ)
    → g.laid mid 1 ≡ Some (recounted (added + 15) (lay (g.laid old) pages 1))
    → ((n : ℕ) → IsNew added n → g.laid mid n ≡ Some (replicate (g.size old) 0))
    → ((n : ℕ) → n ≢ 1 → (IsNew added n → ⊥) → g.laid mid n ≡ g.laid old n)
    → (g.stands old pages → added ≡ number_in (sight g old pages) + 1)
    → g.count old < added → g.count new ≡ added + 15 → g.count new < 2 ^ 32
    → usable ≡ g.used old → g.used mid ≡ g.used old
    → leaves_at page 15 ≡ fifteen added → drop usable page ≡ drop usable start
    → PutsTrunk g mid new first 0 (leaves_at page 15) (drop (g.used mid) page)
    → Grows g old new pages first added (drop (g.used old) start)
grown g old mid new pages first added usable start page front zeros others numbered above counted small usable_is used leaves behind put = record {
  bytes = put.bytes;
  there = put.there;
  is = trunk_as (g.used mid) (g.used old) 0 0 (leaves_at page 15) (fifteen added) (drop (g.used mid) page) (drop (g.used old) start) put.bytes
      used refl leaves (ap (λ (u : ℕ). drop u page) (used ∙ sym usable_is) ∙ behind ∙ ap (λ (u : ℕ). drop u start) usable_is) put.is;
  front = λ other. put.others 1 (λ (e : 1 ≡ first). other (sym e)) ∙ front;
  zeros = λ n other is. put.others n other ∙ zeros n is;
  others = λ n other not_first not_new. put.others n other ∙ others n not_first not_new;
  numbered = numbered;
  small = omega (arith, small, counted);
  above = above;
  counted = counted;
}

-- a page is put as a trunk, and then the first trunk
pub trunks_put : {P : Type 0} (g : Ghosts P) (old mid new : P) (first page next count usable : ℕ) (start one two reserved : List ℕ)
    → g.used mid ≡ g.used old → usable ≡ g.used old → 480 ≤ usable → count ≤ most_leaves (g.used old) → length start ≡ g.size old → next ≡ u32_at start 0
    → take usable one ≡ take usable start → drop usable one ≡ replicate (length start - usable) 0
    → drop usable two ≡ reserved → reserved ≡ drop usable start
    → PutsTrunk g old mid page next (leaves_at one count) (drop (g.used old) one)
    → PutsTrunk g mid new first page [] (drop (g.used mid) two)
    → PutsTrunks g old new first page (u32_at start 0) (leaves_at start count) (drop (g.used old) start)
trunks_put g old mid new first page next count usable start one two reserved used usable_is least most long next_is front cleared behind kept put_one put_two = record {
  bytes = put_one.bytes;
  there = λ other. put_two.others page other ∙ put_one.there;
  is = trunk_as (g.used old) (g.used old) next (u32_at start 0) (leaves_at one count) (leaves_at start count) (drop (g.used old) one) (replicate (g.size old - g.used old) 0) put_one.bytes
      refl next_is (leaves_front usable count one start (omega (arith, most, usable_is, least)) front)
      (ap (λ (u : ℕ). drop u one) (sym usable_is) ∙ cleared ∙ ap (λ (n : ℕ). replicate (n - usable) 0) long ∙ ap (λ (u : ℕ). replicate (g.size old - u) 0) usable_is) put_one.is;
  head = put_two.bytes;
  first_there = put_two.there;
  first_is = trunk_as (g.used mid) (g.used old) page page [] [] (drop (g.used mid) two) (drop (g.used old) start) put_two.bytes
      used refl refl (ap (λ (u : ℕ). drop u two) (used ∙ sym usable_is) ∙ behind ∙ kept ∙ ap (λ (u : ℕ). drop u start) usable_is) put_two.is;
  others = λ n other not_page. put_two.others n other ∙ put_one.others n not_page;
}

-- sixteen pages are added after the first trunk was read
grows_after : {P : Type 0} (g : Ghosts P) (old mid new : P) (pages : Paging) (first page : ℕ) (reserved : List ℕ) → Reads g old mid → Agrees pages (g.seen mid)
    → Grows g mid new pages first page reserved → Grows g old new pages first page reserved
grows_after g old mid new pages first page reserved reads agrees grown = record {
  bytes = grown.bytes;
  there = grown.there;
  is = trunk_as (g.used mid) (g.used old) 0 0 (fifteen page) (fifteen page) reserved reserved grown.bytes reads.used refl refl refl grown.is;
  front = λ other. grown.front other ∙ ap (λ (l : PageMap). Some (recounted (page + 15) (lay l pages 1))) reads.laid;
  zeros = λ n other is. grown.zeros n other is ∙ ap (λ (k : ℕ). Some (replicate k 0)) reads.size;
  others = λ n other not_first not_new. grown.others n other not_first not_new ∙ ap (λ (l : PageMap). l n) reads.laid;
  numbered = λ stands. grown.numbered (reads.stands pages agrees stands) ∙ ap (λ (l : PageMap). number_in (lay l pages) + 1) reads.laid;
  small = grown.small;
  above = omega (arith, grown.above, reads.count);
  counted = grown.counted;
}

pub took_new : {P : Type 0} (g : Ghosts P) (old mid new : P) (first : ℕ) (result : Result ℕ TreeFault) (start : List ℕ)
    → Reads g old mid → ((pages : Paging) → Agrees pages (g.seen mid) → start ≡ sight g old pages first) → ((pages : Paging) → Agrees pages (g.seen new) → Agrees pages (g.seen mid))
    → u32_at start 4 ≡ 0 → u32_at start 0 ≡ 0
    → IfOk result (λ page. (pages : Paging) → Agrees pages (g.seen new) → Grows g mid new pages first page (drop (g.used mid) start))
    → IfOk result (λ page. (pages : Paging) → Agrees pages (g.seen new) → Took g old new pages first page)
took_new g old mid new first (Err fault) start reads seen earlier none last grown = tt
took_new g old mid new first (Ok page) start reads seen earlier none last grown = λ pages agrees.
    let early = earlier pages agrees in
    let is = seen pages early in
    inr (inr (record {
      none = ap (λ (xs : List ℕ). u32_at xs 4) (sym is) ∙ none;
      last = ap (λ (xs : List ℕ). u32_at xs 0) (sym is) ∙ last;
      grown = subst (λ (r : List ℕ). Grows g old new pages first page r) (ap (λ (u : ℕ). drop u start) reads.used ∙ ap (drop (g.used old)) is)
          (grows_after g old mid new pages first page (drop (g.used mid) start) reads early (grown pages agrees));
    }))

-- a page is given after the first trunk was read
pub gave_leaf : {P : Type 0} (g : Ghosts P) (old mid new : P) (first page count : ℕ) (result : Result (Unit {0}) TreeFault) (start : List ℕ)
    → Reads g old mid → ((pages : Paging) → Agrees pages (g.seen mid) → start ≡ sight g old pages first) → ((pages : Paging) → Agrees pages (g.seen new) → Agrees pages (g.seen mid))
    → count ≡ u32_at start 4 → count < full_leaves (g.used old)
    → OnOk result (PutsTrunk g mid new first (u32_at start 0) (leaves_at start count ++ page ∷ []) (drop (g.used mid) start))
    → OnOk result ((pages : Paging) → Agrees pages (g.seen new) → Gave g old new pages first page)
gave_leaf g old mid new first page count (Err fault) start reads seen earlier counted few put = tt
gave_leaf g old mid new first page count (Ok unit) start reads seen earlier counted few put = λ pages agrees.
    let is = seen pages (earlier pages agrees) in
    let count_is : count ≡ u32_at (sight g old pages first) 4 = counted ∙ ap (λ (xs : List ℕ). u32_at xs 4) is in
    inl (record {
      room = omega (arith, count_is, few);
      put = puts_as g old mid new first (u32_at start 0) (next_trunk (sight g old pages) first) (leaves_at start count ++ page ∷ []) (leaves_of (sight g old pages) first ++ page ∷ [])
          (drop (g.used mid) start) (drop (g.used old) (sight g old pages first)) reads.laid reads.used (ap (λ (xs : List ℕ). u32_at xs 0) is)
          (ap (λ (n : ℕ). leaves_at start n ++ page ∷ []) counted ∙ ap (λ (xs : List ℕ). leaves_at xs (u32_at xs 4) ++ page ∷ []) is)
          (ap (λ (u : ℕ). drop u start) reads.used ∙ ap (drop (g.used old)) is) put;
    })

-- two trunks are put after calls that put nothing
puts_both_as : {P : Type 0} (g : Ghosts P) (old mid new : P) (first page next next' : ℕ) (leaves leaves' reserved reserved' : List ℕ)
    → g.laid mid ≡ g.laid old → g.used mid ≡ g.used old → g.size mid ≡ g.size old → next ≡ next' → leaves ≡ leaves' → reserved ≡ reserved'
    → PutsTrunks g mid new first page next leaves reserved → PutsTrunks g old new first page next' leaves' reserved'
puts_both_as g old mid new first page next next' leaves leaves' reserved reserved' laid used size a b c put = record {
  bytes = put.bytes;
  there = put.there;
  is = trunk_as (g.used mid) (g.used old) next next' leaves leaves' (replicate (g.size mid - g.used mid) 0) (replicate (g.size old - g.used old) 0) put.bytes used a b
      (ap (λ (s : ℕ). replicate (s - g.used mid) 0) size ∙ ap (λ (u : ℕ). replicate (g.size old - u) 0) used) put.is;
  head = put.head;
  first_there = put.first_there;
  first_is = trunk_as (g.used mid) (g.used old) page page [] [] reserved reserved' put.head used refl refl c put.first_is;
  others = λ n other not_page. put.others n other not_page ∙ ap (λ (l : PageMap). l n) laid;
}

pub gave_trunk : {P : Type 0} (g : Ghosts P) (old mid new : P) (first page count : ℕ) (result : Result (Unit {0}) TreeFault) (start : List ℕ)
    → Reads g old mid → ((pages : Paging) → Agrees pages (g.seen mid) → start ≡ sight g old pages first) → ((pages : Paging) → Agrees pages (g.seen new) → Agrees pages (g.seen mid))
    → count ≡ u32_at start 4 → count ≤ most_leaves (g.used old) → full_leaves (g.used old) ≤ count
    → OnOk result (PutsTrunks g mid new first page (u32_at start 0) (leaves_at start count) (drop (g.used mid) start))
    → OnOk result ((pages : Paging) → Agrees pages (g.seen new) → Gave g old new pages first page)
gave_trunk g old mid new first page count (Err fault) start reads seen earlier counted most many put = tt
gave_trunk g old mid new first page count (Ok unit) start reads seen earlier counted most many put = λ pages agrees.
    let is = seen pages (earlier pages agrees) in
    let count_is : count ≡ u32_at (sight g old pages first) 4 = counted ∙ ap (λ (xs : List ℕ). u32_at xs 4) is in
    inr (record {
      full = omega (arith, count_is, many);
      room = omega (arith, count_is, most);
      put = puts_both_as g old mid new first page (u32_at start 0) (next_trunk (sight g old pages) first) (leaves_at start count) (leaves_of (sight g old pages) first)
          (drop (g.used mid) start) (drop (g.used old) (sight g old pages first)) reads.laid reads.used reads.size (ap (λ (xs : List ℕ). u32_at xs 0) is)
          (ap (λ (n : ℕ). leaves_at start n) counted ∙ ap (λ (xs : List ℕ). leaves_at xs (u32_at xs 4)) is)
          (ap (λ (u : ℕ). drop u start) reads.used ∙ ap (drop (g.used old)) is) put;
    })
