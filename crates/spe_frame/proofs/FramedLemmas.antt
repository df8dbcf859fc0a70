-- Framed pages as a space shows them.
use Rattle.std.proofs.Common.{◌≡◌, ◌≢◌, ◌⊎◌, ℕ, zero, suc, ◌-◌, ◌*◌, ◌^◌, ◌<◌, ◌≤◌, ◌∙◌, List, [], ◌∷◌, ◌++◌, All, map, length, sym, ap, subst, arith, Bool, true, false, Option, unwrap_or, ⊎_elim}
use Rattle.std.specs.Prelude.{◌==◌, not, IsTrue, slice_index_or}
use Rattle.std.specs.List.{Contains, flat_map}
use Rattle.std.proofs.Math.Nat.{mul-le-mul_right}
use Rattle.std.proofs.lemmas.Bool.{and_parts, cases_Bool}
use Rattle.spe_model.specs.Big.{u32_at}
use Rattle.spe_model.specs.FreeList.{is_list_count}
use Rattle.spe_model.specs.Paging.{Paging}
use Rattle.spe_model.specs.Served.{AreGrown, Root}
use Rattle.spe_model.specs.Standing.{AreDistinct, AreFree, FreeChain, IsOneOf, Tree, pages_of_tree}
use Rattle.spe_space.specs.declared.pages.Pages.{Ghosts}
use Rattle.spe_space.specs.Calls.{sight}
use Rattle.spe_space.specs.Front.{list_in, number_in}
use Rattle.spe_frame.specs.Times.{times}
use Rattle.spe_frame.specs.Framed.{FrameIsFramed, FrameStays, FramedIsFrame, ListsAreFree}
use Rattle.spe_frame.specs.Held.{AreHeld, IsOthers, IsReady}
use Rattle.spe_frame.specs.Laws.{Forest, HaveFirst}
use Rattle.spe_frame.proofs.ForestLemmas.{first_count, forest_stays}
use Rattle.spe_frame.proofs.HeaderLemmas.{header_stays, valid_is_counted}
use Rattle.spe_frame.proofs.HeldLemmas.{list_same}
use Rattle.spe_frame.proofs.PickLemmas.{plants}
use Rattle.spe_frame.proofs.TimesLemmas.{all_from_holds, distinct_from_single, here, holds_from_all, same_or_not, single_from_distinct, there, times-append}

few_again : (n m limit size size' : ℕ) → (n ≡ m) ⊎ (n ≤ limit) → size' ≡ size → m * size ≤ 2 ^ 30 → limit * size ≤ 2 ^ 30 → n * size' ≤ 2 ^ 30
few_again n m limit size size' bound same few most = ⊎_elim
    (λ (e : n ≡ m). let whole : n * size' ≡ m * size = ap (λ (k : ℕ). k * size') e ∙ ap (λ (k : ℕ). m * k) same in omega (arith, whole, few))
    (λ (under : n ≤ limit). let whole : n * size' ≡ n * size = ap (λ (k : ℕ). n * k) same in let less : n * size ≤ limit * size = mul-le-mul_right size under in omega (arith, whole, less, most))
    bound

-- a page that names a node names a page other than 0
pub some_node : (n m : ℕ) → (not (n == 0)) ≡ true → 1 ≤ n
some_node zero m is = absurd cc
some_node (suc n) m is = omega arith

-- page 1 is one of the pages of a forest, or of the pages beside it
first_held : {P : Type 0} (g : Ghosts P) (s : P) (pages : Paging) (own : List ℕ) (roots : List Root) (trees : List Tree)
    → Forest g s pages own roots trees → HaveFirst own roots → 0 < times 1 (own ++ flat_map (pages_of_tree (g.used s) (sight g s pages)) trees)
first_held g s pages own roots trees forest first =
    let a = sight g s pages in
    let named = map (λ (r : Root). r.page) roots in
    let all = flat_map (pages_of_tree (g.used s) a) trees in
    omega (arith, first, times-append 1 own named, times-append 1 own all, first_count (g.used s) a roots trees forest.grown)

-- the page that page 1 names for the free lists stays
pub list_other : {P : Type 0} (g : Ghosts P) (s : P) (pages : Paging) (own : List ℕ) (roots : List Root) (trees : List Tree)
    → IsReady g s pages → 1 ≤ list_in (sight g s pages) → Forest g s pages own roots trees → IsOthers g s pages own (list_in (sight g s pages))
list_other g s pages own roots trees ready some forest =
    let list = list_in (sight g s pages) in
    record {
      used = record { low = some; high = ready.named; taken = ready.taken };
      lacks = omega (arith, forest.held.unnamed, times-append list own (flat_map (pages_of_tree (g.used s) (sight g s pages)) trees));
    }

pub list_not_first : {P : Type 0} (g : Ghosts P) (s : P) (pages : Paging) (own : List ℕ) (roots : List Root) (trees : List Tree)
    → Forest g s pages own roots trees → HaveFirst own roots → list_in (sight g s pages) ≢ 1
list_not_first g s pages own roots trees forest first is =
    let all = own ++ flat_map (pages_of_tree (g.used s) (sight g s pages)) trees in
    let none : times 1 all ≡ 0 = ap (λ (n : ℕ). times n all) (sym is) ∙ forest.held.unnamed in
    absurd (omega (arith, none, first_held g s pages own roots trees forest first))

pub frame_stays : {P : Type 0} (g : Ghosts P) → ((s : P) → g.limit s * g.size s ≤ 2 ^ 30) → FrameStays g
frame_stays g bounded old new pages before root after tree allocs framed picked shifts grown =
    let a = sight g old pages in
    let b = sight g new pages in
    let own = pages_of_tree (g.used old) a picked.tree in
    let own' = pages_of_tree (g.used new) b tree in
    let z = shifts.spares in
    let list = list_in a in
    let stays = forest_stays g old new pages own own' allocs (before ++ after) picked.others shifts picked.first picked.forest in
    let planted = plants g new pages before root after tree picked.others grown stays.forest in
    let header = header_stays (a 1) (b 1) framed.header framed.front.legal framed.ready.long shifts.ready.long z.head in
    let counted = z.counted (valid_is_counted (a 1) framed.header framed.front.legal framed.front.valid) in
    let most : g.limit old * framed.header.page_size ≤ 2 ^ 30 = subst (λ (n : ℕ). g.limit old * n ≤ 2 ^ 30) (sym framed.size) (bounded old) in
    let node = and_parts (not (u32_at (a 1) 32 == 0)) (u32_at (a 1) 36 == 0) framed.prepared.0 in
    let other = list_other g old pages own (before ++ after) picked.others framed.ready (some_node list 0 node.0) picked.forest in
    let kept : b list ≡ a list = ap (λ (o : Option (List ℕ)). unwrap_or o (pages list)) (z.laid list other (list_not_first g old pages own (before ++ after) picked.others picked.forest picked.first)) in
    record {
      header = header.now;
      front = record {
        legal = header.legal;
        valid = header.valid counted;
        number = header.number;
        few = few_again (number_in b) (number_in a) (g.limit old) framed.header.page_size header.now.page_size z.bound header.size framed.front.few most;
      };
      size = header.size ∙ framed.size ∙ sym z.sizes.size;
      used = ap (λ (n : ℕ). n - header.now.reserved) header.size ∙ ap (λ (n : ℕ). framed.header.page_size - n) header.reserved ∙ framed.used ∙ sym z.sizes.used;
      prepared = (
        header.node ∙ framed.prepared.0,
        ap (λ (n : ℕ). is_list_count (u32_at (b n) 0)) (list_same a b z.head) ∙ ap (λ (bytes : List ℕ). is_list_count (u32_at bytes 0)) kept ∙ framed.prepared.1,
      );
      ready = shifts.ready;
      first = framed.first;
      trees = planted.0;
      forest = planted.1;
    }

-- a number that is there stands somewhere
contains_from : (n : ℕ) (xs : List ℕ) → 0 < times n xs → Contains xs n
contains_from n [] some = absurd (omega (arith, some))
contains_from n (x ∷ xs) some = ⊎_elim
    (λ (e : n ≡ x). (0, omega arith, sym e))
    (λ (e : n ≢ x). let at = there n x xs e in let more = contains_from n xs (omega (arith, at, some)) in (suc more.0, omega (arith, more.1), more.2))
    (same_or_not n x)

contains_times : (n : ℕ) (xs : List ℕ) → Contains xs n → 0 < times n xs
contains_times n xs there = go xs there.0 there.1 there.2
  where
    go : (xs : List ℕ) (k : ℕ) → k < length xs → slice_index_or xs k n ≡ n → 0 < times n xs
    go [] k low is = absurd (omega (arith, low))
    go (x ∷ xs) zero low is = let at = here n x xs (sym is) in omega (arith, at)
    go (x ∷ xs) (suc k) low is = let more = go xs k (omega (arith, low)) is in omega (arith, more)

not_free : (b : Bool) → b ≡ false → IsTrue b → ⊥
not_free b off on = let e : true ≡ false = sym on ∙ off in absurd cc

-- the pages of trees and those that lists take are two
apart_from_lists : {P : Type 0} (g : Ghosts P) (s : P) (pages : Paging) (all listed : List ℕ) (lists : List FreeChain) → AreHeld g s pages all
    → ListsAreFree g s pages lists listed → (n : ℕ) → 0 < times n listed → times n all ≡ 0
apart_from_lists g s pages all listed lists held are n some = ⊎_elim
    (λ (none : times n all ≡ 0). none)
    (λ (there : times n all ≢ 0). absurd (⊎_elim
    (λ (free : IsTrue (g.is_free s pages n)). not_free (g.is_free s pages n) (held.used n (omega (arith, there))).taken free)
    (λ (node : n ≡ list_in (sight g s pages)). there (ap (λ (m : ℕ). times m all) node ∙ held.unnamed))
    (are.free n some)))
    (same_or_not (times n all) 0)

pub frame_is_framed : {P : Type 0} (g : Ghosts P) → FrameIsFramed g
frame_is_framed g s pages roots lists listed frame are =
    let a = sight g s pages in
    let all = flat_map (pages_of_tree (g.used s) a) frame.trees in
    let held = frame.forest.held in
    let apart = apart_from_lists g s pages all listed lists held are in
    let single = single_from_distinct listed are.distinct in
    let listed_in = holds_from_all (IsOneOf (number_in a)) listed are.within in
    let distinct : AreDistinct (all ++ listed) = distinct_from_single (all ++ listed) (λ n. ⊎_elim
    (λ (none : times n listed ≡ 0). omega (arith, none, held.single n, times-append n all listed))
    (λ (some : times n listed ≢ 0). omega (arith, apart n (omega (arith, some)), single n, times-append n all listed))
    (same_or_not (times n listed) 0)) in
    let within : All (IsOneOf (number_in a)) (all ++ listed) = all_from_holds (IsOneOf (number_in a)) (all ++ listed) (λ n some. ⊎_elim
    (λ (none : times n listed ≡ 0). let used = held.used n (omega (arith, none, some, times-append n all listed)) in (used.low, used.high))
    (λ (there : times n listed ≢ 0). listed_in n (omega (arith, there)))
    (same_or_not (times n listed) 0)) in
    let back = sym frame.used in
    record {
      header = frame.header;
      front = frame.front;
      prepared = frame.prepared;
      first = contains_from 1 (map (λ (r : Root). r.page) roots) frame.first;
      trees = frame.trees;
      grown = subst (λ (u : ℕ). AreGrown u a roots frame.trees) back frame.forest.grown;
      lists = lists;
      listed = listed;
      free = subst (λ (u : ℕ). AreFree u a lists listed) back are.whole;
      distinct = subst (λ (u : ℕ). AreDistinct (flat_map (pages_of_tree u a) frame.trees ++ listed)) back distinct;
      within = subst (λ (u : ℕ). All (IsOneOf (number_in a)) (flat_map (pages_of_tree u a) frame.trees ++ listed)) back within;
    }

pub framed_is_frame : {P : Type 0} (g : Ghosts P) → FramedIsFrame g
framed_is_frame g s pages roots framed size used ready are =
    let a = sight g s pages in
    let all = flat_map (pages_of_tree (g.used s) a) framed.trees in
    let listed = framed.listed in
    let list = list_in a in
    let single = single_from_distinct (all ++ listed) (subst (λ (u : ℕ). AreDistinct (flat_map (pages_of_tree u a) framed.trees ++ listed)) used framed.distinct) in
    let within = holds_from_all (IsOneOf (number_in a)) (all ++ listed) (subst (λ (u : ℕ). All (IsOneOf (number_in a)) (flat_map (pages_of_tree u a) framed.trees ++ listed)) used framed.within) in
    let free : (n : ℕ) → 0 < times n all → g.is_free s pages n ≡ false = λ n some. ⊎_elim
    (λ (on : g.is_free s pages n ≡ true). absurd (omega (arith, some, are.listed_is n on, single n, times-append n all listed)))
    (λ (off : g.is_free s pages n ≡ false). off)
    (cases_Bool (g.is_free s pages n)) in
    record {
      header = framed.header;
      front = framed.front;
      size = size;
      used = used;
      prepared = framed.prepared;
      ready = ready;
      first = contains_times 1 (map (λ (r : Root). r.page) roots) framed.first;
      trees = framed.trees;
      forest = record {
        grown = subst (λ (u : ℕ). AreGrown u a roots framed.trees) used framed.grown;
        held = record {
          single = λ n. omega (arith, single n, times-append n all listed);
          used = λ n some. let at = within n (omega (arith, some, times-append n all listed)) in record { low = at.0; high = at.1; taken = free n some };
          unnamed = omega (arith, are.node, single list, times-append list all listed);
        };
      };
    }
