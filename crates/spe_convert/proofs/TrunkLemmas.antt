-- Trunks that are written read back.
use Rattle.std.proofs.Common.{◌≡◌, ℕ, suc, ◌+◌, ◌-◌, ◌*◌, ◌/◌, ◌^◌, ◌<◌, ◌≤◌, ◌∙◌, List, [], ◌∷◌, ◌++◌, drop, length, map, refl, sym, ap, subst, arith, append_assoc}
use Rattle.std.specs.List.{flat_map}
use Rattle.std.proofs.lemmas.List.{drop-drop, drop_at}
use Rattle.byteorder.specs.Endian.{big_bytes, big_number}
use Rattle.byteorder.specs.Numbers.{big_number-reads_back, length-bytes_high_first}
use Rattle.spe_model.specs.Big.{u32_at}
use Rattle.spe_model.specs.Content.{zeros}
use Rattle.spe_model.specs.FreeList.{AreTrunks, leaf_count, leaves_of, next_trunk, trunk_pages}
use Rattle.spe_model.specs.Journal.{numbers_from}
use Rattle.spe_model.specs.Paging.{Paging}
use Rattle.spe_frame.proofs.TimesLemmas.{Each}
use Rattle.spe_convert.specs.Trunk.{Trunk, number_bytes, pages_of, trunk_bytes, trunk_numbers}

abbrev pub IsSmall : ℕ → Type 0
IsSmall n = n < 2 ^ 32

-- numbers from a place on read back one after the other
pub reads_at : (bytes : List ℕ) (base k : ℕ) (ns rest : List ℕ) → drop (base + 4 * k) bytes ≡ number_bytes ns ++ rest → Each IsSmall ns
    → map (λ i. u32_at bytes (base + 4 * i)) (numbers_from k (length ns)) ≡ ns
unfolding u32_at
reads_at bytes base k [] rest is small = refl
reads_at bytes base k (n ∷ ns) rest is small =
    let front : drop (base + 4 * k) bytes ≡ big_bytes 4 n ++ (number_bytes ns ++ rest) = is ∙ append_assoc (big_bytes 4 n) (number_bytes ns) rest in
    let first : big_number 4 (drop (base + 4 * k) bytes) ≡ n =
    ap (big_number 4) front ∙ big_number-reads_back 4 n (number_bytes ns ++ rest) (omega (arith, small.0)) in
    let place : base + 4 * (k + 1) ≡ (base + 4 * k) + 4 = omega arith in
    let next : drop (base + 4 * (k + 1)) bytes ≡ number_bytes ns ++ rest =
    ap (λ (m : ℕ). drop m bytes) place ∙ sym (drop-drop 4 (base + 4 * k) bytes) ∙ ap (drop 4) front
    ∙ drop_at (big_bytes 4 n) (number_bytes ns ++ rest) 4 (length-bytes_high_first 4 n) in
    let others = reads_at bytes base (k + 1) ns rest next small.1 in
    rw (first, others) refl

pub one_at : (bytes : List ℕ) (at n : ℕ) (rest : List ℕ) → drop at bytes ≡ big_bytes 4 n ++ rest → IsSmall n → u32_at bytes at ≡ n
unfolding u32_at
one_at bytes at n rest is small = ap (big_number 4) is ∙ big_number-reads_back 4 n rest (omega (arith, small))

pub drop_number : (bytes : List ℕ) (at n : ℕ) (rest : List ℕ) → drop at bytes ≡ big_bytes 4 n ++ rest → drop (at + 4) bytes ≡ rest
drop_number bytes at n rest is =
    sym (drop-drop 4 at bytes) ∙ ap (drop 4) is ∙ drop_at (big_bytes 4 n) rest 4 (length-bytes_high_first 4 n)

-- a page says what a trunk is to say
pub record IsTrunk (usable : ℕ) (pages : Paging) (t : Trunk) : Type 0 where
  pub next : next_trunk pages t.page ≡ t.next
  pub count : leaf_count pages t.page ≡ length t.leaves
  pub leaves : leaves_of pages t.page ≡ t.leaves
  pub few : length t.leaves ≤ usable / 4 - 2

pub trunk_is : (usable : ℕ) (pages : Paging) (t : Trunk) (old : List ℕ) → pages t.page ≡ trunk_bytes usable t old → IsSmall t.next → Each IsSmall t.leaves
    → length t.leaves ≤ usable / 4 - 2 → length t.leaves < 2 ^ 32 → IsTrunk usable pages t
trunk_is usable pages t old is next small few many =
    let behind = zeros (usable - 4 * length (trunk_numbers t)) ++ drop usable old in
    let n = t.next in
    let c = length t.leaves in
    let whole : drop 0 (pages t.page) ≡ big_bytes 4 n ++ (big_bytes 4 c ++ (number_bytes t.leaves ++ behind)) =
    is ∙ append_assoc (number_bytes (trunk_numbers t)) (zeros (usable - 4 * length (trunk_numbers t))) (drop usable old)
    ∙ append_assoc (big_bytes 4 n) (big_bytes 4 c ++ number_bytes t.leaves) behind
    ∙ ap (λ (bs : List ℕ). big_bytes 4 n ++ bs) (append_assoc (big_bytes 4 c) (number_bytes t.leaves) behind) in
    let second : drop 4 (pages t.page) ≡ big_bytes 4 c ++ (number_bytes t.leaves ++ behind) = drop_number (pages t.page) 0 n (big_bytes 4 c ++ (number_bytes t.leaves ++ behind)) whole in
    let third : drop 8 (pages t.page) ≡ number_bytes t.leaves ++ behind = drop_number (pages t.page) 4 c (number_bytes t.leaves ++ behind) second in
    let count = one_at (pages t.page) 4 c (number_bytes t.leaves ++ behind) second many in
    record {
      next = one_at (pages t.page) 0 n (big_bytes 4 c ++ (number_bytes t.leaves ++ behind)) whole next;
      count = count;
      leaves = ap (λ (m : ℕ). map (λ i. u32_at (pages t.page) (8 + 4 * i)) (numbers_from 0 m)) count ∙ reads_at (pages t.page) 8 0 t.leaves behind third small;
      few = few;
    }

-- each trunk names the next
abbrev pub AreLinked : ℕ → List Trunk → Type 0
AreLinked first [] = first ≡ 0
AreLinked first (t ∷ ts) = (first ≡ t.page) × (0 < t.page) × AreLinked t.next ts

-- what holds of each trunk
abbrev pub EachTrunk : (Trunk → Type 0) → List Trunk → Type 0
EachTrunk P [] = Unit {0}
EachTrunk P (t ∷ ts) = P t × EachTrunk P ts

pub each_trunk_left : (P : Trunk → Type 0) (xs ys : List Trunk) → EachTrunk P (xs ++ ys) → EachTrunk P xs
each_trunk_left P [] ys each = tt
each_trunk_left P (x ∷ xs) ys each = (each.0, each_trunk_left P xs ys each.1)

pub each_trunk_right : (P : Trunk → Type 0) (xs ys : List Trunk) → EachTrunk P (xs ++ ys) → EachTrunk P ys
each_trunk_right P [] ys each = each
each_trunk_right P (x ∷ xs) ys each = each_trunk_right P xs ys each.1

-- the free pages of some trunks
abbrev pub all_of : List Trunk → List ℕ
all_of trunks = flat_map pages_of trunks

pub trunks_read : (usable : ℕ) (pages : Paging) (first : ℕ) (ts : List Trunk) → AreLinked first ts → EachTrunk (IsTrunk usable pages) ts
    → AreTrunks usable pages (length ts) first
trunks_read usable pages first [] linked each = linked
trunks_read usable pages first (t ∷ ts) linked each =
    subst (AreTrunks usable pages (suc (length ts))) (sym linked.0) (
      linked.1,
      rw each.0.count each.0.few,
      rw each.0.next (trunks_read usable pages t.next ts linked.2 each.1),
    )

pub trunks_list : (usable : ℕ) (pages : Paging) (first : ℕ) (ts : List Trunk) → AreLinked first ts → EachTrunk (IsTrunk usable pages) ts
    → trunk_pages pages (length ts) first ≡ all_of ts
trunks_list usable pages first [] linked each = refl
trunks_list usable pages first (t ∷ ts) linked each =
    let others = trunks_list usable pages t.next ts linked.2 each.1 in
    ap (trunk_pages pages (suc (length ts))) linked.0
    ∙ ap (λ (ls : List ℕ). t.page ∷ ls ++ trunk_pages pages (length ts) (next_trunk pages t.page)) each.0.leaves
    ∙ ap (λ (n : ℕ). t.page ∷ t.leaves ++ trunk_pages pages (length ts) n) each.0.next
    ∙ ap (λ (ls : List ℕ). t.page ∷ t.leaves ++ ls) others
