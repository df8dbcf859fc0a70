-- Page 1 whose page count becomes valid.
use Rattle.std.proofs.Common.{◌≡◌, ◌≢◌, ℕ, zero, suc, ◌+◌, ◌-◌, ◌≤◌, ◌∙◌, List, [], ◌∷◌, ◌++◌, take, drop, length, refl, sym, ap, subst, arith, append_assoc, true, false, Bool, All, ⊎_elim}
use Rattle.std.specs.List.{flat_map}
use Rattle.std.proofs.lemmas.Bool.{cases_Bool}
use Rattle.std.proofs.lemmas.List.{drop-drop, drop_at, length-append, length-drop, length-take-le, take_at}
use Rattle.std.proofs.lemmas.List.Elements.{All-cons, All-head, All-nil, All-tail}
use Rattle.byteorder.specs.Endian.{big_bytes, big_number}
use Rattle.byteorder.specs.Numbers.{big_from-take, length-bytes_high_first}
use Rattle.spe_model.specs.Big.{u32_at}
use Rattle.spe_model.specs.FreeList.{AreTrunks, first_trunks, leaf_count, leaves_of, names_node, next_trunk, trunk_pages}
use Rattle.spe_model.specs.Paging.{Paging, lay}
use Rattle.spe_model.specs.Standing.{AreFree, FreeChain, IsFreeChain, IsServer, IsStock, Whether, chain_of_free}
use Rattle.spe_space.proofs.FrontLemmas.{u32_at-take}
use Rattle.spe_frame.specs.Times.{HoldsOf, times}
use Rattle.spe_frame.proofs.HeadLemmas.{part_alike, take_alike}
use Rattle.spe_frame.proofs.TimesLemmas.{Each, each_from_holds, each_left, each_right, there, times-append}
use Rattle.spe_rewrite.specs.Changes.{changed}
use Rattle.spe_convert.specs.Changes.{counted_changes, counted_page}
use Rattle.spe_convert.specs.Laws.{CountKeeps}
use Rattle.spe_convert.proofs.StayLemmas.{FreeChange, sort_kept, stays}
use Rattle.spe_convert.proofs.TrunkLemmas.{IsSmall, drop_number, one_at}
use Rattle.spe_convert.proofs.FrontLemmas.{FrontIs}
use Rattle.spe_convert.proofs.LaidLemmas.{front_counts, listed_apart, not_laid, small_count}
use Rattle.spe_convert.proofs.ListLemmas.{none_laid}

number_in : (k : ℕ) (xs ys : List ℕ) → take 60 (drop 32 xs) ≡ take 60 (drop 32 ys) → k + 4 ≤ 60 → u32_at xs (32 + k) ≡ u32_at ys (32 + k)
unfolding u32_at
number_in k xs ys like low = sym (read xs) ∙ ap (λ (zs : List ℕ). big_number 4 zs) part ∙ read ys
  where
    part : take (60 - k) (drop k (drop 32 xs)) ≡ take (60 - k) (drop k (drop 32 ys))
    part = part_alike k 60 (drop 32 xs) (drop 32 ys) like

    read : (zs : List ℕ) → big_number 4 (take (60 - k) (drop k (drop 32 zs))) ≡ big_number 4 (drop (32 + k) zs)
    read zs = big_from-take 0 4 (60 - k) (drop k (drop 32 zs)) (omega (arith, low)) ∙ ap (big_number 4) (drop-drop k 32 zs)

pub counted_is : (count : ℕ) (old : List ℕ) → IsSmall count → 100 ≤ length old → FrontIs count (u32_at old 32) (u32_at old 36) old (counted_page count old)
unfolding counted_page u32_at
counted_is count old small long =
    let new = counted_page count old in
    let a = take 28 old in
    let c = big_bytes 4 count in
    let m = take 60 (drop 32 old) in
    let k = take 4 (drop 24 old) in
    let d = drop 96 old in
    let length_a : length a ≡ 28 = length-take-le 28 old (omega (arith, long)) in
    let l32 : length (drop 32 old) ≡ length old - 32 = length-drop 32 old in
    let l24 : length (drop 24 old) ≡ length old - 24 = length-drop 24 old in
    let length_m : length m ≡ 60 = length-take-le 60 (drop 32 old) (omega (arith, l32, long)) in
    let length_k : length k ≡ 4 = length-take-le 4 (drop 24 old) (omega (arith, l24, long)) in
    let whole : new ≡ a ++ (c ++ (m ++ (k ++ d))) = simp append_assoc in
    let front : take 28 new ≡ take 28 old = ap (take 28) whole ∙ take_at a (c ++ (m ++ (k ++ d))) 28 length_a in
    let from28 : drop 28 new ≡ c ++ (m ++ (k ++ d)) = ap (drop 28) whole ∙ drop_at a (c ++ (m ++ (k ++ d))) 28 length_a in
    let from32 : drop 32 new ≡ m ++ (k ++ d) = drop_number new 28 count (m ++ (k ++ d)) from28 in
    let middle : take 60 (drop 32 new) ≡ take 60 (drop 32 old) = ap (take 60) from32 ∙ take_at m (k ++ d) 60 length_m in
    let from92 : drop 92 new ≡ k ++ d = sym (drop-drop 60 32 new) ∙ ap (drop 60) from32 ∙ drop_at m (k ++ d) 60 length_m in
    let from96 : drop 96 new ≡ d = sym (drop-drop 4 92 new) ∙ ap (drop 4) from92 ∙ drop_at k d 4 length_k in
    let at24 : u32_at new 24 ≡ u32_at old 24 = sym (u32_at-take 28 24 new (omega arith)) ∙ ap (λ (zs : List ℕ). u32_at zs 24) front ∙ u32_at-take 28 24 old (omega arith) in
    let at92 : u32_at new 92 ≡ u32_at old 24 =
    ap (big_number 4) from92 ∙ sym (big_from-take 0 4 4 (k ++ d) (omega arith)) ∙ ap (big_number 4) (take_at k d 4 length_k) ∙ big_from-take 0 4 4 (drop 24 old) (omega arith) in
    let length_new : length new ≡ length old =
    let la = ap length whole ∙ length-append a (c ++ (m ++ (k ++ d))) in
    let lc = length-append c (m ++ (k ++ d)) in
    let lm = length-append m (k ++ d) in
    let lk = length-append k d in
    let ld : length d ≡ length old - 96 = length-drop 96 old in
    let four = length-bytes_high_first 4 count in
    omega (arith, la, lc, lm, lk, ld, four, length_a, length_m, length_k, long) in
    record {
      like = record {
        first = take_alike 24 28 new old (omega arith) front;
        middle = ap (take 52) (sym (drop-drop 8 32 new)) ∙ part_alike 8 60 (drop 32 new) (drop 32 old) middle ∙ ap (take 52) (drop-drop 8 32 old);
      };
      alike = record {
        bytes = sym (drop-drop 4 96 new) ∙ ap (drop 4) from96 ∙ drop-drop 4 96 old;
        long = length_new;
      };
      count_is = one_at new 28 count (m ++ (k ++ d)) from28 small;
      first_is = number_in 0 new old middle (omega arith);
      free_is = number_in 4 new old middle (omega arith);
      copied = at24 ∙ sym at92;
    }

-- trunks that keep their bytes
trunks_same : (usable : ℕ) (old new : Paging) (count trunk : ℕ) → Each (λ n. new n ≡ old n) (trunk_pages old count trunk) → AreTrunks usable old count trunk
    → AreTrunks usable new count trunk × (trunk_pages new count trunk ≡ trunk_pages old count trunk)
trunks_same usable old new zero trunk each are = (are, refl)
trunks_same usable old new (suc count) trunk each are =
    let kept = each.0 in
    let next : next_trunk new trunk ≡ next_trunk old trunk = ap (λ (b : List ℕ). u32_at b 0) kept in
    let number : leaf_count new trunk ≡ leaf_count old trunk = ap (λ (b : List ℕ). u32_at b 4) kept in
    let leaves : leaves_of new trunk ≡ leaves_of old trunk = rw (kept) refl in
    let rest = trunks_same usable old new count (next_trunk old trunk) (each_right (λ n. new n ≡ old n) (leaves_of old trunk) (trunk_pages old count (next_trunk old trunk)) each.1) are.2 in (
      (are.0, rw number are.1, rw next rest.0),
      ap (λ (ls : List ℕ). trunk ∷ ls ++ trunk_pages new count (next_trunk new trunk)) leaves
          ∙ ap (λ (n : ℕ). trunk ∷ leaves_of old trunk ++ trunk_pages new count n) next
          ∙ ap (λ (ps : List ℕ). trunk ∷ leaves_of old trunk ++ ps) rest.1,
    )

lists_same : (usable : ℕ) (old new : Paging) (lists : List FreeChain) → Each (λ n. new n ≡ old n) (flat_map (chain_of_free old) lists) → All (IsFreeChain usable old) lists
    → All (IsFreeChain usable new) lists × (flat_map (chain_of_free new) lists ≡ flat_map (chain_of_free old) lists)
lists_same usable old new [] each are = (All-nil (IsFreeChain usable new), refl)
lists_same usable old new (f ∷ fs) each are =
    let one = trunks_same usable old new f.trunks f.first (each_left (λ n. new n ≡ old n) (chain_of_free old f) (flat_map (chain_of_free old) fs) each) (All-head (IsFreeChain usable old) f fs are) in
    let rest = lists_same usable old new fs (each_right (λ n. new n ≡ old n) (chain_of_free old f) (flat_map (chain_of_free old) fs) each) (All-tail (IsFreeChain usable old) f fs are) in
    (All-cons (IsFreeChain usable new) f fs one.0 rest.0, rw (one.1, rest.1) refl)

-- free lists that keep their bytes, with the same places of page 1
pub free_same : (usable : ℕ) (old new : Paging) (lists : List FreeChain) (listed : List ℕ) → u32_at (new 1) 32 ≡ u32_at (old 1) 32 → u32_at (new 1) 36 ≡ u32_at (old 1) 36
    → HoldsOf (λ n. new n ≡ old n) listed → AreFree usable old lists listed → AreFree usable new lists listed
free_same usable old new lists listed first number holds free = ⊎_elim
    (λ (named : names_node (old 1) ≡ true).
    subst (λ (b : Bool). Whether b (IsServer usable new lists listed) (IsStock usable new lists listed)) (sym (same ∙ named))
    (server (subst (λ (b : Bool). Whether b (IsServer usable old lists listed) (IsStock usable old lists listed)) named free)))
    (λ (stocked : names_node (old 1) ≡ false).
    subst (λ (b : Bool). Whether b (IsServer usable new lists listed) (IsStock usable new lists listed)) (sym (same ∙ stocked))
    (stock (subst (λ (b : Bool). Whether b (IsServer usable old lists listed) (IsStock usable old lists listed)) stocked free)))
    (cases_Bool (names_node (old 1)))
  where
    same : names_node (new 1) ≡ names_node (old 1)
    same = rw (first, number) refl

    server : IsServer usable old lists listed → IsServer usable new lists listed
    server s =
        let each = subst (Each (λ n. new n ≡ old n)) s.pages_are (each_from_holds (λ n. new n ≡ old n) listed holds) in
        let kept = lists_same usable old new lists each.1 s.whole in
        let named : first_trunks new s.node ≡ first_trunks old s.node = rw (each.0) refl in
        record {
          node = s.node;
          node_is = s.node_is ∙ sym first;
          some = s.some;
          few = s.few;
          firsts = s.firsts ∙ sym named;
          whole = kept.0;
          started = s.started;
          pages_are = s.pages_are ∙ ap (λ (ps : List ℕ). s.node ∷ ps) (sym kept.1);
        }

    stock : IsStock usable old lists listed → IsStock usable new lists listed
    stock s =
        let each = subst (Each (λ n. new n ≡ old n)) s.pages_are (each_from_holds (λ n. new n ≡ old n) listed holds) in
        let kept = trunks_same usable old new s.only.trunks s.only.first each s.whole in
        record {
          only = s.only;
          one = s.one;
          first = s.first ∙ sym first;
          whole = kept.0;
          counted = ap length kept.1 ∙ s.counted ∙ sym number;
          pages_are = s.pages_are ∙ sym kept.1;
        }

pub count_keeps : CountKeeps
count_keeps size usable count pages db free with =
    let cs = counted_changes count pages in
    let new = lay (changed cs) pages in
    let apart = listed_apart usable count pages db with.stands in
    let low : 512 ≤ size = subst (λ (n : ℕ). 512 ≤ n) with.size_is with.sized.low in
    let few = small_count count size low with.few in
    let is : FrontIs count (u32_at (pages 1) 32) (u32_at (pages 1) 36) (pages 1) (new 1) = counted_is count (pages 1) (omega (arith, few)) with.long in
    let kept : (n : ℕ) → n ≢ 1 → new n ≡ pages n = λ n other. not_laid cs pages n (none_laid cs n (let a = there n 1 [] other in omega (arith, a))) in
    let holds : HoldsOf (λ n. new n ≡ pages n) with.stands.listed = λ n some. kept n
    (λ (e : n ≡ 1). let z = ap (λ (m : ℕ). times m with.stands.listed) e in let l = apart.lacks in absurd (omega (arith, some, z, l))) in
    let change : FreeChange count count pages new with.stands.listed with.stands.listed [] = record {
      bytes = λ n low inside other lacks. kept n other;
      sort = sort_kept pages new (kept 0 (λ (e : 0 ≡ 1). absurd (omega (arith, e))));
      front = is.alike;
      same = λ n. let a = times-append n with.stands.listed [] in omega (arith, a);
      single = λ n. omega arith;
      above = λ n more. absurd (omega (arith, more));
      low = omega arith;
    } in
    let after = stays usable count count pages new db with.stands with.stands.lists with.stands.listed [] change
    (free_same usable pages new with.stands.lists with.stands.listed is.first_is is.free_is holds with.stands.free) in
    let counts = front_counts size usable count count (u32_at (pages 1) 32) (u32_at (pages 1) 36) pages new with.header with.legal with.size_is with.used with.long is apart.some with.few in (
      rw (is.first_is, is.free_is) refl,
      record {
        header = counts.header;
        front = counts.front;
        size_is = counts.size_is;
        used = counts.used;
        stands = after.0;
        free_are = λ n. with.free_are n ∙ ap (times n) (sym after.1);
      },
    )
