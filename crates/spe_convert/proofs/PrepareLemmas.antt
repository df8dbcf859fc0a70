-- Free lists in server form.
use Rattle.std.proofs.Common.{◌≡◌, ◌≢◌, ◌⊎◌, ℕ, zero, suc, ◌+◌, ◌-◌, ◌*◌, ◌<◌, ◌≤◌, ◌∙◌, List, [], ◌∷◌, ◌++◌, take, drop, length, map, refl, sym, ap, subst, arith, append_assoc, true, false, Bool, Some, All, ⊎_elim, inl, inr}
use Rattle.std.specs.Prelude.{◌==◌}
use Rattle.std.specs.List.{flat_map}
use Rattle.std.proofs.lemmas.Bool.{le-leb, ne_eqb}
use Rattle.std.proofs.lemmas.List.{length-append, length-map, length-take-le, take-append-drop}
use Rattle.std.proofs.lemmas.List.Elements.{All-cons, All-nil}
use Rattle.spe_model.specs.Big.{u32_at}
use Rattle.spe_model.specs.Content.{zeros}
use Rattle.spe_model.specs.FreeList.{first_trunks, is_list_count, names_node}
use Rattle.spe_model.specs.Journal.{numbers_from}
use Rattle.spe_model.specs.Paging.{Paging, lay}
use Rattle.spe_model.specs.Standing.{FreeChain, IsFreeChain, IsServer, IsStock, Whether, chain_of_free}
use Rattle.byteorder.specs.Endian.{big_bytes}
use Rattle.spe_frame.specs.Times.{AreSame, one_if, times}
use Rattle.spe_frame.proofs.TimesLemmas.{Each, here, there, times-append}
use Rattle.spe_rewrite.specs.Changes.{changed}
use Rattle.spe_convert.specs.Made.{changed_pages, heads}
use Rattle.spe_convert.specs.Trunk.{Trunk, bare, number_bytes, page_of, pages_of, room}
use Rattle.spe_convert.specs.Dealt.{first_of}
use Rattle.spe_convert.specs.Changes.{added, before, first_trunks_of, other_trunks_of, prepared_changes, supply, trunks_dealt}
use Rattle.spe_convert.specs.Laws.{PrepareKeeps}
use Rattle.spe_convert.proofs.StayLemmas.{FreeChange, sort_kept, stays}
use Rattle.spe_convert.proofs.TrunkLemmas.{EachTrunk, IsSmall, IsTrunk, all_of, drop_number, each_trunk_left, each_trunk_right, one_at, reads_at, trunks_list, trunks_read}
use Rattle.spe_convert.proofs.FrontLemmas.{FrontIs, front_is}
use Rattle.spe_convert.proofs.ListLemmas.{all_laid, each_drop, each_mapped, each_take, heads_changed, heads_few, none_laid, numbers_lack, numbers_length, numbers_single, numbers_within, trunk_append}
use Rattle.spe_convert.proofs.ChainLemmas.{Fits}
use Rattle.spe_convert.proofs.DealtLemmas.{AreLists, EachChain, all_both, bare_chains, bare_each, bare_fits, bare_heads, bare_lists, bare_pages, chained_pages, dealt_counts, dealt_fits, dealt_heads, dealt_lists, no_chains}
use Rattle.spe_convert.proofs.LaidLemmas.{all_small, all_some, apart_again, AreApart, changes_single, front_counts, lacks_none, laid_is, listed_apart, not_laid, sizes_of, small_count, trunks_are}

-- the free pages and the new ones
pub supply_apart : (count lists : ℕ) (free : List ℕ) → AreApart count free → AreApart (count + added count lists free) (supply count lists free)
supply_apart count lists free apart =
    let n_added = added count lists free in
    let new = numbers_from (count + 1) n_added in
    let some = apart.some in
    record {
      single = λ n.
          let a = times-append n free new in
          let o = apart.single n in
          let p = numbers_single (count + 1) n_added n in
          ⊎_elim
          (λ (none : times n free ≡ 0). omega (arith, a, p, none))
          (λ (in_it : 0 < times n free). let within = apart.within n in_it in
          let lacks = numbers_lack (count + 1) n_added n (omega (arith, within.1)) in omega (arith, a, o, lacks))
          (none_or_some (times n free));
      within = λ n in_it.
          let a = times-append n free new in
          ⊎_elim
          (λ (none : times n free ≡ 0). let high = numbers_within (count + 1) n_added n (omega (arith, a, in_it, none)) in (omega (arith, high.0), omega (arith, high.1)))
          (λ (is_free : 0 < times n free). let within = apart.within n is_free in (within.0, omega (arith, within.1)))
          (none_or_some (times n free));
      lacks =
          let a = times-append 1 free new in
          let b = numbers_lack (count + 1) n_added 1 (omega (arith, some)) in
          let c = apart.lacks in
          omega (arith, a, b, c);
      some = omega (arith, some);
    }
  where
    none_or_some : (n : ℕ) → (n ≡ 0) ⊎ (0 < n)
    none_or_some zero = inl refl
    none_or_some (suc n) = inr (omega arith)

pub supply_length : (count lists : ℕ) (free : List ℕ) → lists + 1 ≤ length (supply count lists free)
supply_length count lists free =
    let a = length-append free (numbers_from (count + 1) (added count lists free)) in
    let b = numbers_length (count + 1) (added count lists free) in
    omega (arith, a, b)

-- the node page, the first trunks and the others are all pages
record Parts (lists : ℕ) (all : List ℕ) : Type 0 where
  counts : (n : ℕ) → times n all ≡ one_if (n == first_of all) + times n (take lists (drop 1 all)) + times n (drop (lists + 1) all)
  long : length (take lists (drop 1 all)) ≡ lists
  some : 0 < times (first_of all) all

parts_of : (lists : ℕ) (all : List ℕ) → lists + 1 ≤ length all → Parts lists all
parts_of lists [] long = absurd (omega (arith, long))
parts_of lists (p ∷ ps) long =
    let split : take lists ps ++ drop (lists + 1) (p ∷ ps) ≡ ps =
    ap (λ (n : ℕ). take lists ps ++ drop n (p ∷ ps)) (the_same lists) ∙ take-append-drop lists ps in
    record {
      counts = λ n.
          let a = ap (times n) split in
          let b = times-append n (take lists ps) (drop (lists + 1) (p ∷ ps)) in
          omega (arith, a, b);
      long = length-take-le lists ps (omega (arith, long));
      some = let at = here p p ps refl in omega (arith, at);
    }
  where
    the_same : (n : ℕ) → n + 1 ≡ suc n
    the_same n = omega arith

-- the lists, by their first trunks and those behind them
abbrev lists_of : List Trunk → List (List Trunk) → List FreeChain
lists_of [] cs = []
lists_of (t ∷ ts) [] = []
lists_of (t ∷ ts) (c ∷ cs) = (record { trunks = suc (length c); first = t.page }) ∷ lists_of ts cs

lists_first : (ts : List Trunk) (cs : List (List Trunk)) → AreLists ts cs → map (λ (f : FreeChain). f.first) (lists_of ts cs) ≡ heads ts
lists_first [] [] are = refl
lists_first [] (c ∷ cs) are = absurd are
lists_first (t ∷ ts) [] are = absurd are
lists_first (t ∷ ts) (c ∷ cs) are = ap (λ (ns : List ℕ). t.page ∷ ns) (lists_first ts cs are.1)

lists_whole : (usable : ℕ) (new : Paging) (ts : List Trunk) (cs : List (List Trunk)) → AreLists ts cs → Each (λ n. 0 < n) (heads ts)
    → EachTrunk (IsTrunk usable new) ts → EachChain (IsTrunk usable new) cs → All (IsFreeChain usable new) (lists_of ts cs)
lists_whole usable new [] [] are some firsts others = All-nil (IsFreeChain usable new)
lists_whole usable new [] (c ∷ cs) are some firsts others = absurd are
lists_whole usable new (t ∷ ts) [] are some firsts others = absurd are
lists_whole usable new (t ∷ ts) (c ∷ cs) are some firsts others =
    All-cons (IsFreeChain usable new) (record { trunks = suc (length c); first = t.page }) (lists_of ts cs)
    (trunks_read usable new t.page (t ∷ c) (refl, some.0, are.0) (firsts.0, others.0))
    (lists_whole usable new ts cs are.1 some.1 firsts.1 others.1)

lists_started : (ts : List Trunk) (cs : List (List Trunk)) → AreLists ts cs → Each (λ n. 0 < n) (heads ts) → All (λ (f : FreeChain). f.first ≢ 0) (lists_of ts cs)
lists_started [] [] are some = All-nil (λ (f : FreeChain). f.first ≢ 0)
lists_started [] (c ∷ cs) are some = absurd are
lists_started (t ∷ ts) [] are some = absurd are
lists_started (t ∷ ts) (c ∷ cs) are some =
    All-cons (λ (f : FreeChain). f.first ≢ 0) (record { trunks = suc (length c); first = t.page }) (lists_of ts cs)
    (λ (e : t.page ≡ 0). let s = some.0 in absurd (omega (arith, e, s))) (lists_started ts cs are.1 some.1)

lists_pages : (usable : ℕ) (new : Paging) (n : ℕ) (ts : List Trunk) (cs : List (List Trunk)) → AreLists ts cs → Each (λ n. 0 < n) (heads ts)
    → EachTrunk (IsTrunk usable new) ts → EachChain (IsTrunk usable new) cs
    → times n (flat_map (chain_of_free new) (lists_of ts cs)) ≡ times n (all_of ts) + times n (chained_pages cs)
lists_pages usable new n [] [] are some firsts others = refl
lists_pages usable new n [] (c ∷ cs) are some firsts others = absurd are
lists_pages usable new n (t ∷ ts) [] are some firsts others = absurd are
lists_pages usable new n (t ∷ ts) (c ∷ cs) are some firsts others =
    let mine : chain_of_free new (record { trunks = suc (length c); first = t.page }) ≡ all_of (t ∷ c) =
    trunks_list usable new t.page (t ∷ c) (refl, some.0, are.0) (firsts.0, others.0) in
    let a = ap (times n) mine in
    let b = times-append n (chain_of_free new (record { trunks = suc (length c); first = t.page })) (flat_map (chain_of_free new) (lists_of ts cs)) in
    let c1 = times-append n (pages_of t) (all_of c) in
    let d = times-append n (pages_of t) (all_of ts) in
    let e = times-append n (all_of c) (chained_pages cs) in
    let rest = lists_pages usable new n ts cs are.1 some.1 firsts.1 others.1 in
    omega (arith, a, b, c1, d, e, rest)

-- the node page names the first trunks
record NodeIs (lists : ℕ) (firsts : List ℕ) (new : Paging) (node : ℕ) : Type 0 where
  number : u32_at (new node) 0 ≡ lists
  named : first_trunks new node ≡ firsts

node_is : (usable lists : ℕ) (firsts old : List ℕ) (new : Paging) (node : ℕ) → new node ≡ page_of usable (lists ∷ firsts) old → length firsts ≡ lists
    → lists ≤ 16 → Each IsSmall firsts → NodeIs lists firsts new node
node_is usable lists firsts old new node is long few small =
    let behind = zeros (usable - 4 * length (lists ∷ firsts)) ++ drop usable old in
    let whole : drop 0 (new node) ≡ big_bytes 4 lists ++ (number_bytes firsts ++ behind) =
    is ∙ append_assoc (number_bytes (lists ∷ firsts)) (zeros (usable - 4 * length (lists ∷ firsts))) (drop usable old)
    ∙ append_assoc (big_bytes 4 lists) (number_bytes firsts) behind in
    let second : drop 4 (new node) ≡ number_bytes firsts ++ behind = drop_number (new node) 0 lists (number_bytes firsts ++ behind) whole in
    let number = one_at (new node) 0 lists (number_bytes firsts ++ behind) whole (omega (arith, few)) in
    record {
      number = number;
      named = ap (λ (m : ℕ). map (λ i. u32_at (new node) (4 + 4 * i)) (numbers_from 0 m)) (number ∙ sym long) ∙ reads_at (new node) 4 0 firsts behind second small;
    }

-- page 1 names a node page
names_some : (page : List ℕ) (node : ℕ) → 0 < node → u32_at page 32 ≡ node → u32_at page 36 ≡ 0 → names_node page ≡ true
names_some page node some first none =
    let other : (u32_at page 32 == 0) ≡ false = ne_eqb (u32_at page 32) 0 (λ (e : u32_at page 32 ≡ 0). absurd (omega (arith, first, e, some))) in
    rw (other, none) refl

-- what is dealt out of all pages
record Dealing (usable lists : ℕ) (all : List ℕ) (new : Paging) : Type 0 where
  lists_are : List FreeChain
  firsts : map (λ (f : FreeChain). f.first) lists_are ≡ take lists (drop 1 all)
  whole : All (IsFreeChain usable new) lists_are
  started : All (λ (f : FreeChain). f.first ≢ 0) lists_are
  counts : (n : ℕ) → times n (flat_map (chain_of_free new) lists_are) ≡ times n (take lists (drop 1 all)) + times n (drop (lists + 1) all)

dealing : (usable lists : ℕ) (all : List ℕ) (new : Paging) → 1 ≤ lists → length (take lists (drop 1 all)) ≡ lists → Each (λ n. 0 < n) all
    → EachTrunk (IsTrunk usable new) (trunks_dealt (room usable) lists all) → Dealing usable lists all new
dealing usable lists all new one long some are =
    let most = room usable in
    let fp = take lists (drop 1 all) in
    let rest = drop (lists + 1) all in
    let firsts = first_trunks_of most lists all in
    let others = other_trunks_of most lists all in
    let P = IsTrunk usable new in
    let mine = each_trunk_left P firsts others are in
    let theirs = each_trunk_right P firsts others are in
    let same : heads firsts ≡ fp = dealt_heads most lists 0 (map bare fp) rest ∙ bare_heads fp in
    let some_first : Each (λ n. 0 < n) (heads firsts) = subst (Each (λ n. 0 < n)) (sym same) (each_take (λ n. 0 < n) lists (drop 1 all) (each_drop (λ n. 0 < n) 1 all some)) in
    let freed = dealt_lists P most lists 0 (map bare fp) (no_chains fp) rest (each_drop (λ n. 0 < n) (lists + 1) all some) (bare_lists fp) (bare_each P fp) theirs in
    record {
      lists_are = lists_of firsts freed.now;
      firsts = lists_first firsts freed.now freed.lists ∙ same;
      whole = lists_whole usable new firsts freed.now freed.lists some_first mine freed.each;
      started = lists_started firsts freed.now freed.lists some_first;
      counts = λ n.
          let a = lists_pages usable new n firsts freed.now freed.lists some_first mine freed.each in
          let b = freed.counts n in
          let c = ap (times n) (bare_chains fp) in
          let d = dealt_counts most lists 0 n (map bare fp) rest (length-map fp bare ∙ long) (omega (arith, one)) in
          let e = ap (times n) (bare_pages fp) in
          omega (arith, a, b, c, d, e);
    }

-- how often a page is among all trunks
dealt_few : (most lists n : ℕ) (all : List ℕ) → 1 ≤ lists → length (take lists (drop 1 all)) ≡ lists
    → times n (heads (trunks_dealt most lists all)) ≤ times n (take lists (drop 1 all)) + times n (drop (lists + 1) all)
dealt_few most lists n all one long =
    let fp = take lists (drop 1 all) in
    let rest = drop (lists + 1) all in
    let firsts = first_trunks_of most lists all in
    let others = other_trunks_of most lists all in
    let a = heads_few n (firsts ++ others) in
    let b = ap (times n) (all_both firsts others) in
    let c = times-append n (all_of firsts) (all_of others) in
    let d = dealt_counts most lists 0 n (map bare fp) rest (length-map fp bare ∙ long) (omega (arith, one)) in
    let e = ap (times n) (bare_pages fp) in
    omega (arith, a, b, c, d, e)

fits_dealt : (most lists : ℕ) (all : List ℕ) → Each IsSmall all → EachTrunk (Fits most) (trunks_dealt most lists all)
fits_dealt most lists all small =
    let fp = take lists (drop 1 all) in
    let both = dealt_fits most lists 0 (map bare fp) (drop (lists + 1) all) (each_drop IsSmall (lists + 1) all small) (bare_fits most fp) in
    trunk_append (Fits most) (first_trunks_of most lists all) (other_trunks_of most lists all) both.0 both.1

is_count : (n : ℕ) → 1 ≤ n → n ≤ 16 → is_list_count n ≡ true
is_count n low high = rw (le-leb 1 n low, le-leb n 16 high) refl

pub prepare_keeps : PrepareKeeps
prepare_keeps size usable count lists pages db free with one most_lists fits_in =
    let all = supply count lists free in
    let more = added count lists free in
    let numbers = numbers_from (count + 1) more in
    let count' = count + more in
    let old = before size count pages in
    let most = room usable in
    let ts = trunks_dealt most lists all in
    let cs = prepared_changes size usable count lists free pages in
    let new = lay (changed cs) pages in
    let sizes = sizes_of usable with.header with.sized with.used in
    let apart_free = apart_again count free with.stands.listed with.free_are (listed_apart usable count pages db with.stands) in
    let apart = supply_apart count lists free apart_free in
    let low : 512 ≤ size = subst (λ (n : ℕ). 512 ≤ n) with.size_is with.sized.low in
    let few = small_count count' size low fits_in in
    let small = all_small count' all few apart in
    let some = all_some count' all apart in
    let parts = parts_of lists all (supply_length count lists free) in
    let node = first_of all in
    let node_in = apart.within node parts.some in
    let is : FrontIs count' node 0 (pages 1) (new 1) =
    front_is count' node 0 (pages 1) (omega (arith, few)) (omega (arith, few, node_in.1)) (omega arith) with.long in
    let named = names_some (new 1) node (omega (arith, node_in.0)) is.first_is is.free_is in
    let less : (n : ℕ) → times n (changed_pages cs) ≤ times n (1 ∷ all) = λ n.
    let a = dealt_few most lists n all one parts.long in
    let b = ap (times n) (heads_changed usable old ts) in
    let c = parts.counts n in
    omega (arith, a, b, c) in
    let laid = all_laid cs (changes_single (changed_pages cs) all less apart.single apart.lacks) in
    let are = trunks_are usable cs old pages ts sizes.high
    (each_mapped (λ c. changed cs c.page ≡ Some c.bytes) usable old ts laid.1.1) (fits_dealt most lists all small) in
    let node_page = node_is usable lists (take lists (drop 1 all)) (old node) new node
    (laid_is cs pages node (page_of usable (lists ∷ take lists (drop 1 all)) (old node)) laid.1.0) parts.long most_lists
    (each_take IsSmall lists (drop 1 all) (each_drop IsSmall 1 all small)) in
    let deal = dealing usable lists all new one parts.long some are in
    let listed = node ∷ flat_map (chain_of_free new) deal.lists_are in
    let long : length deal.lists_are ≡ lists =
    sym (length-map deal.lists_are (λ (f : FreeChain). f.first)) ∙ ap length deal.firsts ∙ parts.long in
    let server : IsServer usable new deal.lists_are listed = record {
      node = node;
      node_is = sym is.first_is;
      some = omega (arith, long, one);
      few = omega (arith, long, most_lists);
      firsts = deal.firsts ∙ sym node_page.named;
      whole = deal.whole;
      started = deal.started;
      pages_are = refl;
    } in
    let same : AreSame listed all = λ n. let a = deal.counts n in let b = parts.counts n in omega (arith, a, b) in
    let kept : (n : ℕ) → n ≤ count → n ≢ 1 → times n with.stands.listed ≡ 0 → new n ≡ pages n = λ n inside other lacks. not_laid cs pages n (none_laid cs n
    (let a = less n in
    let b = there n 1 all other in
    let c = times-append n free numbers in
    let d = numbers_lack (count + 1) more n (omega (arith, inside)) in
    let e = with.free_are n in
    omega (arith, a, b, c, d, e, lacks))) in
    let change : FreeChange count count' pages new with.stands.listed listed numbers = record {
      bytes = λ n low inside other lacks. kept n inside other lacks;
      sort = sort_kept pages new (kept 0 (omega arith) (λ (e : 0 ≡ 1). absurd (omega (arith, e))) (lacks_none count with.stands.listed (listed_apart usable count pages db with.stands)));
      front = is.alike;
      same = λ n.
          let a = same n in
          let b = times-append n free numbers in
          let c = times-append n with.stands.listed numbers in
          let e = with.free_are n in
          omega (arith, a, b, c, e);
      single = numbers_single (count + 1) more;
      above = λ n in_it. let within = numbers_within (count + 1) more n in_it in (omega (arith, within.0), omega (arith, within.1));
      low = omega arith;
    } in
    let after = stays usable count count' pages new db with.stands deal.lists_are listed numbers change
    (subst (λ (b : Bool). Whether b (IsServer usable new deal.lists_are listed) (IsStock usable new deal.lists_are listed)) (sym named) server) in
    let counts = front_counts size usable count count' node 0 pages new with.header with.legal with.size_is with.used with.long is apart.some fits_in in
    let number : u32_at (new (u32_at (new 1) 32)) 0 ≡ lists = ap (λ (n : ℕ). u32_at (new n) 0) is.first_is ∙ node_page.number in (
      (named, ap is_list_count number ∙ is_count lists one most_lists),
      record {
        header = counts.header;
        front = counts.front;
        size_is = counts.size_is;
        used = counts.used;
        stands = after.0;
        free_are = λ n. sym (same n) ∙ ap (times n) (sym after.1);
      },
    )
