-- Pages that stand, as another list of pages shows them.
use Rattle.std.proofs.Common.{◌≡◌, ◌∙◌, ℕ, ◌-◌, ◌≤◌, List, [], drop, length, map, sym, ap, arith, Option, unwrap_or}
use Rattle.std.specs.Prelude.{slice_get, slice_index, take}
use Rattle.std.proofs.lemmas.List.{get_or-take}
use Rattle.spe_model.specs.Big.{u32_at}
use Rattle.spe_model.specs.Database.{Database}
use Rattle.spe_model.specs.Kind.{kind_of}
use Rattle.spe_model.specs.Paging.{Paging}
use Rattle.spe_model.specs.Recovery.{pages_to}
use Rattle.spe_model.specs.Schema.{is_index_kind, is_index_page}
use Rattle.spe_model.specs.Settled.{page_in}
use Rattle.spe_model.specs.Standing.{IsOneOf, StandsFor}
use Rattle.spe_frame.proofs.TimesLemmas.{times-append}
use Rattle.spe_transactions.proofs.PageLemmas.{page_counted, page_there}
use Rattle.spe_convert.proofs.CountLemmas.{free_same}
use Rattle.spe_convert.proofs.LaidLemmas.{listed_apart}
use Rattle.spe_convert.proofs.StayLemmas.{FreeChange, stays}

-- pages that keep their bytes stand for the same database, with the same free pages
pub shown : (usable count : ℕ) (old new : Paging) (db : Database) (s : StandsFor usable count old db) → ((n : ℕ) → IsOneOf count n → new n ≡ old n)
    → is_index_page old 0 ≡ is_index_page new 0 → (after : StandsFor usable count new db) × (after.listed ≡ s.listed)
shown usable count old new db s same sort =
    let apart = listed_apart usable count old db s in
    let first : new 1 ≡ old 1 = same 1 (omega arith, apart.some) in
    let change : FreeChange count count old new s.listed s.listed [] = record {
      bytes = λ n low inside other lacks. same n (low, inside);
      sort = sort;
      front = record { bytes = ap (drop 100) first; long = ap length first };
      same = λ n. let a = times-append n s.listed [] in omega (arith, a);
      single = λ n. omega arith;
      above = λ n more. absurd (omega (arith, more));
      low = omega arith;
    } in
    stays usable count count old new db s s.lists s.listed [] change
    (free_same usable old new s.lists s.listed (ap (λ (b : List ℕ). u32_at b 32) first) (ap (λ (b : List ℕ). u32_at b 36) first) (λ n some. same n (apart.within n some)) s.free)

-- a list of pages by number has the page at each number
pub listed_page : (f : Paging) (count n : ℕ) → 1 ≤ n → n ≤ count → length (map f (pages_to count)) ≡ count → page_in (map f (pages_to count)) n ≡ f n
listed_page f count n low high long =
    let there = page_there (map f (pages_to count)) n low (omega (arith, high, long)) in
    let is = page_counted f count n low high in
    ap (λ (o : Option (List ℕ)). unwrap_or o []) (sym there ∙ is)

-- page 0 of a list is its first
pub zero_first : (pages : List (List ℕ)) → page_in pages 0 ≡ page_in pages 1
zero_first pages = let e : 0 - 1 ≡ 1 - 1 = omega arith in ap (λ (k : ℕ). unwrap_or (slice_get pages k) []) e

-- so its sort is that of a first page whose first bytes are the same
pub sort_first : (old : Paging) (pages : List (List ℕ)) → take 24 (page_in pages 1) ≡ take 24 (old 0) → is_index_page old 0 ≡ is_index_page (page_in pages) 0
sort_first old pages same =
    let here : slice_index (page_in pages 0) 0 ≡ slice_index (page_in pages 1) 0 = ap (λ (b : List ℕ). slice_index b 0) (zero_first pages) in
    let byte : slice_index (page_in pages 1) 0 ≡ slice_index (old 0) 0 =
    sym (get_or-take 24 (page_in pages 1) 0 0 (omega arith)) ∙ ap (λ (b : List ℕ). slice_index b 0) same ∙ get_or-take 24 (old 0) 0 0 (omega arith) in
    ap (λ (k : ℕ). is_index_kind (kind_of k)) (sym (here ∙ byte))
