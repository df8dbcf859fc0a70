-- Numbers and zeros put into a trunk.
use Rattle.std.proofs.Common.{◌≡◌, ℕ, zero, suc, ◌+◌, ◌-◌, ◌*◌, ◌^◌, ◌<◌, ◌≤◌, ◌∙◌, List, [], ◌∷◌, ◌++◌, length, take, drop, map, refl, sym, ap, subst, arith, append_assoc, length-append}
use Rattle.std.specs.Prelude.{replicate}
use Rattle.std.proofs.lemmas.List.{drop_at, drop-drop, length-map, length-replicate, length-take-le, map-append, take_at}
use Rattle.std.proofs.Math.Seq.{take-append_seam}
use Rattle.byteorder.specs.Endian.{big_bytes, big_number}
use Rattle.byteorder.specs.Numbers.{big_number-reads_back, length-bytes_high_first}
use Rattle.spe_model.specs.Big.{u32_at}
use Rattle.spe_model.specs.Journal.{numbers_from}
use Rattle.spe_space.specs.Front.{with_u32}
use Rattle.spe_space.proofs.FrontLemmas.{length-with_u32, u32_at-take}
use Rattle.spe_freelist.specs.Trunk.{IsTrunk, leaves_at, with_zeros}

u32_at-front : (front rest : List ℕ) (at : ℕ) → at + 4 ≤ length front → u32_at (front ++ rest) at ≡ u32_at front at
u32_at-front front rest at fits =
    sym (u32_at-take (length front) at (front ++ rest) fits) ∙ ap (λ (xs : List ℕ). u32_at xs at) (take-append_seam front rest)

length-big : (n : ℕ) → length (big_bytes 4 n) ≡ 4
length-big n = length-bytes_high_first 4 n

pub u32_at-written : (at n : ℕ) (xs : List ℕ) → at + 4 ≤ length xs → n < 2 ^ 32 → u32_at (with_u32 at n xs) at ≡ n
unfolding u32_at
u32_at-written at n xs fits small =
    let behind : drop at (with_u32 at n xs) ≡ big_bytes 4 n ++ drop (at + 4) xs =
    rw (append_assoc (take at xs) (big_bytes 4 n) (drop (at + 4) xs)) (drop_at (take at xs) (big_bytes 4 n ++ drop (at + 4) xs) at (length-take-le at xs (omega (arith, fits)))) in
    rw behind (big_number-reads_back 4 n (drop (at + 4) xs) (omega (arith, small)))

-- a number stays where one is written behind it
pub u32_at-before : (at k n : ℕ) (xs : List ℕ) → at + 4 ≤ k → k + 4 ≤ length xs → u32_at (with_u32 k n xs) at ≡ u32_at xs at
u32_at-before at k n xs before fits =
    let front = length-take-le k xs (omega (arith, fits)) in
    u32_at-front (take k xs ++ big_bytes 4 n) (drop (k + 4) xs) at (omega (arith, length-append (take k xs) (big_bytes 4 n), front))
    ∙ u32_at-front (take k xs) (big_bytes 4 n) at (omega (arith, front)) ∙ u32_at-take k at xs before

drop_further : (n m : ℕ) (xs : List ℕ) → m ≤ n → drop n xs ≡ drop (n - m) (drop m xs)
drop_further n m xs below =
    let sum : m + (n - m) ≡ n = omega arith in
    ap (λ (k : ℕ). drop k xs) (sym sum) ∙ sym (drop-drop (n - m) m xs)

pub drop-with_u32 : (k at n : ℕ) (xs : List ℕ) → at + 4 ≤ k → at + 4 ≤ length xs → drop k (with_u32 at n xs) ≡ drop k xs
drop-with_u32 k at n xs past fits =
    let front : length (take at xs ++ big_bytes 4 n) ≡ at + 4 = omega (arith, length-append (take at xs) (big_bytes 4 n), length-big n, length-take-le at xs (omega (arith, fits))) in
    drop_further k (at + 4) (with_u32 at n xs) past
    ∙ ap (drop (k - (at + 4))) (drop_at (take at xs ++ big_bytes 4 n) (drop (at + 4) xs) (at + 4) front)
    ∙ sym (drop_further k (at + 4) xs past)

-- and where one is written before it
pub u32_at-behind : (k at n : ℕ) (xs : List ℕ) → at + 4 ≤ k → at + 4 ≤ length xs → u32_at (with_u32 at n xs) k ≡ u32_at xs k
unfolding u32_at
u32_at-behind k at n xs past fits = ap (big_number 4) (drop-with_u32 k at n xs past fits)

-- numbers that two tests agree on
pub map_alike : (f g : ℕ → ℕ) (from count : ℕ) → ((i : ℕ) → i < from + count → f i ≡ g i) → map f (numbers_from from count) ≡ map g (numbers_from from count)
map_alike f g from zero alike = refl
map_alike f g from (suc count) alike =
    let head : f from ≡ g from = alike from (omega arith) in
    let rest = map_alike f g (from + 1) count (λ i low. alike i (omega (arith, low))) in
    rw (head, rest) refl

numbers_more : (from count : ℕ) → numbers_from from (suc count) ≡ numbers_from from count ++ (from + count) ∷ []
numbers_more from zero = let e : from + 0 ≡ from = omega arith in rw e refl
numbers_more from (suc count) =
    let e : from + 1 + count ≡ from + suc count = omega arith in
    ap (λ (ns : List ℕ). from ∷ ns) (subst (λ (m : ℕ). numbers_from (from + 1) (suc count) ≡ numbers_from (from + 1) count ++ m ∷ []) e (numbers_more (from + 1) count))

-- one number more at the end
pub map_more : (f : ℕ → ℕ) (count : ℕ) → map f (numbers_from 0 (count + 1)) ≡ map f (numbers_from 0 count) ++ f count ∷ []
map_more f count =
    let one : count + 1 ≡ suc count = omega arith in
    let last : 0 + count ≡ count = omega arith in
    ap (λ (m : ℕ). map f (numbers_from 0 m)) one ∙ ap (map f) (numbers_more 0 count)
    ∙ map-append f (numbers_from 0 count) ((0 + count) ∷ []) ∙ ap (λ (m : ℕ). map f (numbers_from 0 count) ++ f m ∷ []) last

length-numbers : (from count : ℕ) → length (numbers_from from count) ≡ count
length-numbers from zero = refl
length-numbers from (suc count) = let rest = length-numbers (from + 1) count in omega arith

pub length-leaves : (bytes : List ℕ) (count : ℕ) → length (leaves_at bytes count) ≡ count
length-leaves bytes count = length-map (numbers_from 0 count) (λ (i : ℕ). u32_at bytes (8 + 4 * i)) ∙ length-numbers 0 count

-- zeros
u32_at-zeros : (at from to : ℕ) (xs : List ℕ) → at + 4 ≤ from → from ≤ length xs → u32_at (with_zeros from to xs) at ≡ u32_at xs at
u32_at-zeros at from to xs before fits =
    u32_at-front (take from xs) (replicate (to - from) 0 ++ drop to xs) at (omega (arith, length-take-le from xs fits)) ∙ u32_at-take from at xs before

drop-zeros : (from to : ℕ) (xs : List ℕ) → from ≤ to → to ≤ length xs → drop to (with_zeros from to xs) ≡ drop to xs
drop-zeros from to xs order fits =
    let front : length (take from xs ++ replicate (to - from) 0) ≡ to =
    omega (arith, length-append (take from xs) (replicate (to - from) 0), length-take-le from xs (omega (arith, order, fits)), length-replicate {A = ℕ} (to - from) 0) in
    ap (drop to) (sym (append_assoc (take from xs) (replicate (to - from) 0) (drop to xs))) ∙ drop_at (take from xs ++ replicate (to - from) 0) (drop to xs) to front

there_zeros : (from to : ℕ) (xs : List ℕ) → from ≤ length xs → take (to - from) (drop from (with_zeros from to xs)) ≡ replicate (to - from) 0
there_zeros from to xs fits =
    ap (take (to - from)) (drop_at (take from xs) (replicate (to - from) 0 ++ drop to xs) from (length-take-le from xs fits))
    ∙ take_at (replicate (to - from) 0) (drop to xs) (to - from) (length-replicate {A = ℕ} (to - from) 0)

-- a trunk is written
pub trunk_made : (usable next count : ℕ) (old one two new : List ℕ) → 8 + 4 * count ≤ usable → usable ≤ length old → next < 2 ^ 32 → count < 2 ^ 32
    → one ≡ with_u32 0 next old → two ≡ with_u32 4 count one → new ≡ with_zeros (8 + 4 * count) usable two
    → IsTrunk usable next (leaves_at old count) (drop usable old) new
trunk_made usable next count old one two new room fits small_next small_count is_one is_two is_new =
    let len_one : length one ≡ length old = ap length is_one ∙ length-with_u32 0 next old (omega arith) in
    let len_two : length two ≡ length one = ap length is_two ∙ length-with_u32 4 count one (omega arith) in
    let seen : (at : ℕ) → at + 4 ≤ 8 + 4 * count → u32_at new at ≡ u32_at two at =
    λ at before. ap (λ (xs : List ℕ). u32_at xs at) is_new ∙ u32_at-zeros at (8 + 4 * count) usable two before (omega arith) in
    let next_is : u32_at new 0 ≡ next =
    seen 0 (omega arith) ∙ ap (λ (xs : List ℕ). u32_at xs 0) is_two ∙ u32_at-before 0 4 count one (omega arith) (omega arith)
    ∙ ap (λ (xs : List ℕ). u32_at xs 0) is_one ∙ u32_at-written 0 next old (omega arith) small_next in
    let count_is : u32_at new 4 ≡ count =
    seen 4 (omega arith) ∙ ap (λ (xs : List ℕ). u32_at xs 4) is_two ∙ u32_at-written 4 count one (omega arith) small_count in
    let leaf : (i : ℕ) → i < 0 + count → u32_at new (8 + 4 * i) ≡ u32_at old (8 + 4 * i) = λ i low.
    seen (8 + 4 * i) (omega (arith, low)) ∙ ap (λ (xs : List ℕ). u32_at xs (8 + 4 * i)) is_two ∙ u32_at-behind (8 + 4 * i) 4 count one (omega arith) (omega arith)
    ∙ ap (λ (xs : List ℕ). u32_at xs (8 + 4 * i)) is_one ∙ u32_at-behind (8 + 4 * i) 0 next old (omega arith) (omega arith) in
    let len = length-leaves old count in
    record {
      next_is = next_is;
      leaves_are = ap (leaves_at new) count_is ∙ map_alike (λ (i : ℕ). u32_at new (8 + 4 * i)) (λ (i : ℕ). u32_at old (8 + 4 * i)) 0 count leaf;
      zeros = rw (len, is_new) (there_zeros (8 + 4 * count) usable two (omega arith));
      reserved_are = ap (drop usable) is_new ∙ drop-zeros (8 + 4 * count) usable two room (omega arith)
          ∙ ap (drop usable) is_two ∙ drop-with_u32 usable 4 count one (omega arith) (omega arith)
          ∙ ap (drop usable) is_one ∙ drop-with_u32 usable 0 next old (omega arith) (omega arith);
    }

-- a leaf is named behind others
pub leaf_added : (usable count leaf : ℕ) (old new : List ℕ) → 12 + 4 * count ≤ usable → usable ≤ length old → leaf < 2 ^ 32
    → new ≡ with_u32 (8 + 4 * count) leaf old → leaves_at new (count + 1) ≡ leaves_at old count ++ leaf ∷ []
leaf_added usable count leaf old new room fits small is =
    let same : (i : ℕ) → i < 0 + count → u32_at new (8 + 4 * i) ≡ u32_at old (8 + 4 * i) = λ i low.
    ap (λ (xs : List ℕ). u32_at xs (8 + 4 * i)) is ∙ u32_at-before (8 + 4 * i) (8 + 4 * count) leaf old (omega (arith, low)) (omega arith) in
    let last : u32_at new (8 + 4 * count) ≡ leaf = ap (λ (xs : List ℕ). u32_at xs (8 + 4 * count)) is ∙ u32_at-written (8 + 4 * count) leaf old (omega arith) small in
    map_more (λ (i : ℕ). u32_at new (8 + 4 * i)) count
    ∙ ap (λ (ns : List ℕ). ns ++ u32_at new (8 + 4 * count) ∷ []) (map_alike (λ (i : ℕ). u32_at new (8 + 4 * i)) (λ (i : ℕ). u32_at old (8 + 4 * i)) 0 count same)
    ∙ ap (λ (n : ℕ). leaves_at old count ++ n ∷ []) last

-- one more of the pages behind another
pub fifteen_more : (first index : ℕ) (old new : List ℕ) → leaves_at old index ≡ map (λ (i : ℕ). first + 15 - i) (numbers_from 0 index)
    → leaves_at new (index + 1) ≡ leaves_at old index ++ (first + 15 - index) ∷ []
    → leaves_at new (index + 1) ≡ map (λ (i : ℕ). first + 15 - i) (numbers_from 0 (index + 1))
fifteen_more first index old new so added = added ∙ ap (λ (ns : List ℕ). ns ++ (first + 15 - index) ∷ []) so ∙ sym (map_more (λ (i : ℕ). first + 15 - i) index)
