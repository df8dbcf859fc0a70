-- The free lists of pages that stand are found, and are the numbers that they have.
use Rattle.std.proofs.Common.{◌≡◌, ◌≢◌, ℕ, zero, suc, ◌+◌, ◌-◌, ◌*◌, ◌/◌, ◌<◌, ◌≤◌, ◌∙◌, List, [], ◌∷◌, ◌++◌, length, map, refl, sym, ap, subst, arith, true, false, Bool, Option, Some, None, Ok, Err, All, Vec, Global, ⊎_elim, unwrap_or}
use Rattle.std.specs.Prelude.{◌==◌, slice_index_or}
use Rattle.std.specs.List.{flat_map, sum_by}
use Rattle.std.specs.List.Sorted.{IsNonDecreasingBy, IsPermutation}
use Rattle.std.specs.Option.{option_map}
use Rattle.std.proofs.lemmas.Bool.{cases_Bool, cases_lt, le-leb, lt-ltb, ne_eqb}
use Rattle.std.proofs.lemmas.List.{length-append, length-map}
use Rattle.std.proofs.lemmas.List.Elements.{All-head, All-tail}
use Rattle.std.proofs.lemmas.List.Sorted.{sum_by-IsPermutation}
use Rattle.std.proofs.lemmas.List.Sums.{sum_by-cons}
use Rattle.spe_model.specs.Big.{u32_at}
use Rattle.spe_model.specs.Database.{Database}
use Rattle.spe_model.specs.FreeList.{AreTrunks, first_trunks, is_list_count, leaf_count, leaves_of, names_node, next_trunk, trunk_pages}
use Rattle.spe_model.specs.Journal.{numbers_from}
use Rattle.spe_model.specs.Paging.{Paging}
use Rattle.spe_model.specs.Standing.{AreFree, FreeChain, IsFreeChain, IsOneOf, IsServer, IsStock, StandsFor, Whether, chain_of_free}
use Rattle.spe_model.specs.Walk.{is_one_of}
use Rattle.spe_frame.specs.Times.{AreSame, AreSingle, HoldsOf, one_if, times}
use Rattle.spe_frame.proofs.TimesLemmas.{Each, each_from_holds, each_left, each_right, here, same_or_not}
use Rattle.spe_convert.specs.declared.fault.ConvertFault.{ConvertFault}
use Rattle.spe_convert.specs.declared.fault.ConvertFault.TheVariants.{Corrupt, Disk, Full, Memory, Prepared}
use Rattle.spe_convert.specs.Free.{FindsFree}
use Rattle.spe_convert.specs.Reading.{ReadsInto, are_ascending, found_free, found_lists, found_node, found_trunks, is_right}
use Rattle.spe_convert.proofs.LaidLemmas.{AreApart, few_free, listed_apart}
use Rattle.spe_convert.proofs.ListLemmas.{numbers_length}
use Rattle.spe_convert.proofs.ReadLemmas.{found_last}

one_is : (count n : ℕ) → IsOneOf count n → is_one_of count n ≡ true
one_is count n is = rw (le-leb 1 n is.0, le-leb n count is.1) refl

trunks_found : (usable count : ℕ) (pages : Paging) (most n trunk : ℕ) → AreTrunks usable pages n trunk → Each (IsOneOf count) (trunk_pages pages n trunk) → n ≤ most
    → found_trunks usable count pages most trunk ≡ Some (trunk_pages pages n trunk)
trunks_found usable count pages most zero trunk are each enough = ap (found_trunks usable count pages most) are ∙ found_last usable count pages most
trunks_found usable count pages zero (suc n) trunk are each enough = absurd (omega (arith, enough))
trunks_found usable count pages (suc most) (suc n) trunk are each enough =
    let some = are.0 in
    let other : trunk ≢ 0 = λ e. absurd (omega (arith, e, some)) in
    let right : is_right usable count pages trunk ≡ true = rw (one_is count trunk each.0, le-leb (leaf_count pages trunk) (usable / 4 - 2) are.1) refl in
    let rest = trunks_found usable count pages most n (next_trunk pages trunk) are.2
    (each_right (IsOneOf count) (leaves_of pages trunk) (trunk_pages pages n (next_trunk pages trunk)) each.1) (omega (arith, enough)) in
    rw (ne_eqb trunk 0 other, right, rest) refl

trunks_few : (pages : Paging) (n trunk : ℕ) → n ≤ length (trunk_pages pages n trunk)
trunks_few pages zero trunk = omega arith
trunks_few pages (suc n) trunk =
    let rest = trunks_few pages n (next_trunk pages trunk) in
    let l = length-append (leaves_of pages trunk) (trunk_pages pages n (next_trunk pages trunk)) in
    omega (arith, rest, l)

lists_found : (usable count : ℕ) (pages : Paging) (lists : List FreeChain) → All (IsFreeChain usable pages) lists → All (λ (f : FreeChain). f.first ≢ 0) lists
    → Each (IsOneOf count) (flat_map (chain_of_free pages) lists) → length (flat_map (chain_of_free pages) lists) ≤ count + 1
    → found_lists usable count pages (map (λ (f : FreeChain). f.first) lists) ≡ Some (flat_map (chain_of_free pages) lists)
lists_found usable count pages [] whole started each few = refl
lists_found usable count pages (f ∷ fs) whole started each few =
    let mine = chain_of_free pages f in
    let more = flat_map (chain_of_free pages) fs in
    let l = length-append mine more in
    let n = trunks_few pages f.trunks f.first in
    let one = trunks_found usable count pages (count + 1) f.trunks f.first (All-head (IsFreeChain usable pages) f fs whole) (each_left (IsOneOf count) mine more each) (omega (arith, l, n, few)) in
    let rest = lists_found usable count pages fs (All-tail (IsFreeChain usable pages) f fs whole) (All-tail (λ (x : FreeChain). x.first ≢ 0) f fs started)
    (each_right (IsOneOf count) mine more each) (omega (arith, l, few)) in
    rw (ne_eqb f.first 0 (All-head (λ (x : FreeChain). x.first ≢ 0) f fs started), one, rest) refl

number_is : (pages : Paging) (node : ℕ) (lists : List FreeChain) → map (λ (f : FreeChain). f.first) lists ≡ first_trunks pages node → u32_at (pages node) 0 ≡ length lists
number_is pages node lists named =
    sym (numbers_length 0 (u32_at (pages node) 0)) ∙ sym (length-map (numbers_from 0 (u32_at (pages node) 0)) (λ i. u32_at (pages node) (4 + 4 * i)))
    ∙ ap length (sym named) ∙ length-map lists (λ (f : FreeChain). f.first)

node_found : (usable count : ℕ) (pages : Paging) (lists : List FreeChain) (listed : List ℕ) → IsServer usable pages lists listed → AreApart count listed
    → found_node usable count pages (u32_at (pages 1) 32) ≡ Some listed
node_found usable count pages lists listed server apart =
    let node = server.node in
    let chains = flat_map (chain_of_free pages) lists in
    let each : Each (IsOneOf count) (node ∷ chains) = subst (Each (IsOneOf count)) server.pages_are (each_from_holds (IsOneOf count) listed apart.within) in
    let few = few_free count listed apart in
    let long : length listed ≡ suc (length chains) = ap length server.pages_are in
    let number = number_is pages node lists server.firsts in
    let counted : is_list_count (u32_at (pages node) 0) ≡ true = ap is_list_count number ∙ rw (le-leb 1 (length lists) server.some, le-leb (length lists) 16 server.few) refl in
    let found = ap (found_lists usable count pages) (sym server.firsts) ∙ lists_found usable count pages lists server.whole server.started each.1 (omega (arith, few, long)) in
    let there : found_node usable count pages node ≡ Some (node ∷ chains) = rw (one_is count node each.0, counted, found) refl in
    ap (found_node usable count pages) (sym server.node_is) ∙ there ∙ ap Some (sym server.pages_are)

stock_found : (usable count : ℕ) (pages : Paging) (lists : List FreeChain) (listed : List ℕ) → IsStock usable pages lists listed → AreApart count listed
    → found_trunks usable count pages (count + 1) (u32_at (pages 1) 32) ≡ Some listed
stock_found usable count pages lists listed stock apart =
    let chain = chain_of_free pages stock.only in
    let each : Each (IsOneOf count) chain = subst (Each (IsOneOf count)) stock.pages_are (each_from_holds (IsOneOf count) listed apart.within) in
    let few = few_free count listed apart in
    let long : length listed ≡ length chain = ap length stock.pages_are in
    let n = trunks_few pages stock.only.trunks stock.only.first in
    ap (found_trunks usable count pages (count + 1)) (sym stock.first)
    ∙ trunks_found usable count pages (count + 1) stock.only.trunks stock.only.first stock.whole each (omega (arith, few, long, n)) ∙ ap Some (sym stock.pages_are)

free_found : (usable count : ℕ) (pages : Paging) (lists : List FreeChain) (listed : List ℕ) → AreFree usable pages lists listed → AreApart count listed
    → found_free usable count pages ≡ Some listed
free_found usable count pages lists listed free apart = ⊎_elim
    (λ (named : names_node (pages 1) ≡ true).
    rw named (node_found usable count pages lists listed
    (subst (λ (b : Bool). Whether b (IsServer usable pages lists listed) (IsStock usable pages lists listed)) named free) apart))
    (λ (stock : names_node (pages 1) ≡ false).
    rw stock (stock_found usable count pages lists listed
    (subst (λ (b : Bool). Whether b (IsServer usable pages lists listed) (IsStock usable pages lists listed)) stock free) apart))
    (cases_Bool (names_node (pages 1)))

-- sorting keeps each number as often
times_sum : (n : ℕ) (xs : List ℕ) → times n xs ≡ sum_by (λ m. one_if (n == m)) xs
times_sum n [] = refl
times_sum n (x ∷ xs) = let a = sum_by-cons (λ m. one_if (n == m)) x xs in let b = times_sum n xs in omega (arith, a, b)

pub same_sorted : (xs ys : List ℕ) → IsPermutation xs ys → AreSame ys xs
same_sorted xs ys is n = times_sum n ys ∙ sum_by-IsPermutation (λ m. one_if (n == m)) xs ys is ∙ sym (times_sum n xs)

ascends : (below most : ℕ) (xs : List ℕ) → ((i j d : ℕ) → i ≤ j → j < length xs → slice_index_or xs i d ≤ slice_index_or xs j d) → AreSingle xs
    → HoldsOf (λ n. n ≤ most) xs → ((d : ℕ) → 0 < length xs → below < slice_index_or xs 0 d) → are_ascending below most xs ≡ true
ascends below most [] sorted single within first = refl
ascends below most (x ∷ []) sorted single within first =
    let at = here x x [] refl in
    rw (lt-ltb below x (first 0 (omega arith)), le-leb x most (within x (omega (arith, at)))) refl
ascends below most (x ∷ y ∷ ys) sorted single within first =
    let at = here x x (y ∷ ys) refl in
    let tail : are_ascending x most (y ∷ ys) ≡ true =
    ascends x most (y ∷ ys) (λ i j d low high. sorted (suc i) (suc j) d (omega (arith, low)) (omega (arith, high)))
    (λ n. let o = single n in omega (arith, o))
    (λ n some. within n (omega (arith, some)))
    (λ d some. let up : x ≤ y = sorted 0 1 d (omega arith) (omega arith) in ⊎_elim
    (λ (e : x ≡ y). let o = single x in let b = here x y ys e in absurd (omega (arith, o, at, b)))
    (λ (e : x ≢ y). lt_of x y up e)
    (same_or_not x y)) in
    rw (lt-ltb below x (first 0 (omega arith)), le-leb x most (within x (omega (arith, at))), tail) refl
  where
    lt_of : (a b : ℕ) → a ≤ b → a ≢ b → a < b
    lt_of a b up e = ⊎_elim (λ (low : a < b). low) (λ (high : b ≤ a). absurd (e (omega (arith, up, high)))) (cases_lt a b)

head_in : (d : ℕ) (xs : List ℕ) → 0 < length xs → 0 < times (slice_index_or xs 0 d) xs
head_in d [] some = absurd (omega (arith, some))
head_in d (x ∷ xs) some = let at = here x x xs refl in omega (arith, at)

pub sorted_ascends : (count : ℕ) (listed xs : List ℕ) → AreApart count listed → AreSame xs listed → IsNonDecreasingBy (λ x. x) xs → are_ascending 1 count xs ≡ true
sorted_ascends count listed xs apart same sorted = ascends 1 count xs (λ i j d low high. sorted i j d low high)
    (λ n. let s = same n in let o = apart.single n in omega (arith, s, o))
    (λ n some. let s = same n in let inside = apart.within n (omega (arith, s, some)) in inside.1)
    (λ d some. let x = slice_index_or xs 0 d in let in_it = head_in d xs some in let s = same x in
    let inside = apart.within x (omega (arith, s, in_it)) in
    ⊎_elim
    (λ (e : x ≡ 1). let l = apart.lacks in let z = ap (λ (m : ℕ). times m listed) e in absurd (omega (arith, s, in_it, l, z)))
    (λ (e : x ≢ 1). above x inside.0 e)
    (same_or_not x 1))
  where
    above : (a : ℕ) → 1 ≤ a → a ≢ 1 → 1 < a
    above zero low e = absurd (omega (arith, low))
    above (suc zero) low e = absurd (e refl)
    above (suc (suc a)) low e = omega arith

-- what was read of pages that stand
pub read_none : (usable count : ℕ) (pages : Paging) (db : Database) → StandsFor usable count pages db → found_free usable count pages ≡ None → ⊥
read_none usable count pages db s none =
    let found = free_found usable count pages s.lists s.listed s.free (listed_apart usable count pages db s) in absurd cc

pub read_listed : (usable count : ℕ) (pages : Paging) (db : Database) (s : StandsFor usable count pages db) (start free : List ℕ) → start ≡ []
    → option_map (λ (ps : List ℕ). start ++ ps) (found_free usable count pages) ≡ Some free → free ≡ s.listed
read_listed usable count pages db s start free none read =
    let found = free_found usable count pages s.lists s.listed s.free (listed_apart usable count pages db s) in
    ap (λ (o : Option (List ℕ)). unwrap_or o []) (sym read ∙ ap (λ (xs : List ℕ). option_map (λ (ps : List ℕ). xs ++ ps) (found_free usable count pages)) none
    ∙ ap (option_map (λ (ps : List ℕ). [] ++ ps)) found)

pub read_err : (usable count : ℕ) (pages : Paging) (start after : List ℕ) (fault : ConvertFault) → ReadsInto {T = Unit {0}} start after (Err fault) (found_free usable count pages)
    → FindsFree usable count (Err fault) pages
read_err usable count pages start after (Corrupt page) read = λ db stands. read_none usable count pages db stands read
read_err usable count pages start after Disk read = tt
read_err usable count pages start after (Full n) read = tt
read_err usable count pages start after Prepared read = tt
read_err usable count pages start after Memory read = tt

pub read_ok : (usable count : ℕ) (pages : Paging) (start all : List ℕ) (free : Vec ℕ Global) → start ≡ [] → IsPermutation all free.items
    → option_map (λ (ps : List ℕ). start ++ ps) (found_free usable count pages) ≡ Some all → FindsFree usable count (Ok free) pages
read_ok usable count pages start all free none sorted read = λ db stands n.
    same_sorted all free.items sorted n ∙ ap (times n) (read_listed usable count pages db stands start all none read)

pub read_misplaced : (usable count page : ℕ) (pages : Paging) (start all free : List ℕ) → start ≡ [] → IsPermutation all free → IsNonDecreasingBy (λ x. x) free
    → are_ascending 1 count free ≡ false → option_map (λ (ps : List ℕ). start ++ ps) (found_free usable count pages) ≡ Some all → FindsFree usable count (Err (Corrupt page)) pages
read_misplaced usable count page pages start all free none is sorted wrong read = λ db stands.
    let same : AreSame free stands.listed = λ n. same_sorted all free is n ∙ ap (times n) (read_listed usable count pages db stands start all none read) in
    let right = sorted_ascends count stands.listed free (listed_apart usable count pages db stands) same sorted in absurd cc
