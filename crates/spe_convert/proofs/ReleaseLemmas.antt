-- Free lists in stock form.
use Rattle.std.proofs.Common.{◌≡◌, ◌≢◌, ℕ, ◌<◌, ◌≤◌, ◌∙◌, List, [], ◌∷◌, length, refl, sym, ap, subst, arith, true, false, Bool, Some}
use Rattle.std.specs.Prelude.{◌==◌, ◌&&◌, not}
use Rattle.std.proofs.lemmas.Bool.{ne_eqb}
use Rattle.spe_model.specs.Big.{u32_at}
use Rattle.spe_model.specs.FreeList.{names_node}
use Rattle.spe_model.specs.Paging.{lay}
use Rattle.spe_model.specs.Standing.{FreeChain, IsServer, IsStock, Whether, chain_of_free}
use Rattle.spe_frame.specs.Times.{times}
use Rattle.spe_frame.proofs.TimesLemmas.{here, there, times-append}
use Rattle.spe_rewrite.specs.Changes.{changed}
use Rattle.spe_convert.specs.Made.{changed_pages}
use Rattle.spe_convert.specs.Trunk.{room}
use Rattle.spe_convert.specs.Dealt.{chained, first_of}
use Rattle.spe_convert.specs.Changes.{released_changes}
use Rattle.spe_convert.specs.Laws.{ReleaseKeeps}
use Rattle.spe_convert.proofs.StayLemmas.{FreeChange, sort_kept, stays}
use Rattle.spe_convert.proofs.TrunkLemmas.{IsSmall, trunks_list, trunks_read}
use Rattle.spe_convert.proofs.FrontLemmas.{FrontIs, front_is}
use Rattle.spe_convert.proofs.ListLemmas.{all_laid, each_mapped, heads_changed, heads_few, none_laid}
use Rattle.spe_convert.proofs.ChainLemmas.{all_chained, fits_chained, linked_chained}
use Rattle.spe_convert.proofs.LaidLemmas.{all_small, all_some, apart_again, changes_single, few_free, front_counts, lacks_none, listed_apart, not_laid, sizes_of, small_count, trunks_are}

-- page 1 names no node page where it names the first of so many free pages
names_none : (page free : List ℕ) → u32_at page 32 ≡ first_of free → u32_at page 36 ≡ length free → names_node page ≡ false
names_none page [] first count = rw first refl
names_none page (p ∷ ps) first count =
    let other : (u32_at page 36 == 0) ≡ false = ne_eqb (u32_at page 36) 0 (λ (e : u32_at page 36 ≡ 0). absurd (omega (arith, count, e))) in
    rw other (and_false (not (u32_at page 32 == 0)))
  where
    and_false : (b : Bool) → (b && false) ≡ false
    and_false true = refl
    and_false false = refl

pub first_small : (free : List ℕ) → ((n : ℕ) → 0 < times n free → IsSmall n) → IsSmall (first_of free)
first_small [] each = omega arith
first_small (p ∷ ps) each = each p (let at = here p p ps refl in omega (arith, at))

pub release_keeps : ReleaseKeeps
release_keeps size usable count pages db free with =
    let most = room usable in
    let ts = chained most (length free) free in
    let cs = released_changes usable count free pages in
    let new = lay (changed cs) pages in
    let sizes = sizes_of usable with.header with.sized with.used in
    let apart = apart_again count free with.stands.listed with.free_are (listed_apart usable count pages db with.stands) in
    let low : 512 ≤ size = subst (λ (n : ℕ). 512 ≤ n) with.size_is with.sized.low in
    let few = small_count count size low with.few in
    let small = all_small count free few apart in
    let some = all_some count free apart in
    let many = few_free count free apart in
    let small_one : IsSmall (first_of free) = first_small free (λ n in_it. let within = apart.within n in_it in omega (arith, within.1, few)) in
    let is : FrontIs count (first_of free) (length free) (pages 1) (new 1) =
    front_is count (first_of free) (length free) (pages 1) (omega (arith, few)) small_one (omega (arith, many, few)) with.long in
    let none = names_none (new 1) free is.first_is is.free_is in
    let all = all_chained most (length free) free (omega arith) in
    let less : (n : ℕ) → times n (changed_pages cs) ≤ times n (1 ∷ free) = λ n.
    let a = heads_few n ts in
    let b = ap (times n) (heads_changed usable pages ts) in
    let c = ap (times n) all in
    omega (arith, a, b, c) in
    let laid = all_laid cs (changes_single (changed_pages cs) free less apart.single apart.lacks) in
    let are = trunks_are usable cs pages pages ts sizes.high
    (each_mapped (λ c. changed cs c.page ≡ Some c.bytes) usable pages ts laid.1) (fits_chained most (length free) free small) in
    let linked = linked_chained most (length free) free (omega arith) some in
    let only : FreeChain = record { trunks = length ts; first = first_of free } in
    let list : chain_of_free new only ≡ free = trunks_list usable new (first_of free) ts linked are ∙ all in
    let stock : IsStock usable new (only ∷ []) free = record {
      only = only;
      one = refl;
      first = sym is.first_is;
      whole = trunks_read usable new (first_of free) ts linked are;
      counted = ap length list ∙ sym is.free_is;
      pages_are = sym list;
    } in
    let kept : (n : ℕ) → n ≢ 1 → times n with.stands.listed ≡ 0 → new n ≡ pages n = λ n other lacks. not_laid cs pages n (none_laid cs n
    (let a = less n in let b = there n 1 free other in let e = with.free_are n in omega (arith, a, b, e, lacks))) in
    let change : FreeChange count count pages new with.stands.listed free [] = record {
      bytes = λ n low inside other lacks. kept n other lacks;
      sort = sort_kept pages new (kept 0 (λ (e : 0 ≡ 1). absurd (omega (arith, e))) (lacks_none count with.stands.listed (listed_apart usable count pages db with.stands)));
      front = is.alike;
      same = λ n. let a = times-append n with.stands.listed [] in let e = with.free_are n in omega (arith, a, e);
      single = λ n. omega arith;
      above = λ n more. absurd (omega (arith, more));
      low = omega arith;
    } in
    let after = stays usable count count pages new db with.stands (only ∷ []) free [] change
    (subst (λ (b : Bool). Whether b (IsServer usable new (only ∷ []) free) (IsStock usable new (only ∷ []) free)) (sym none) stock) in
    let counts = front_counts size usable count count (first_of free) (length free) pages new with.header with.legal with.size_is with.used with.long is apart.some with.few in (
      none,
      record {
        header = counts.header;
        front = counts.front;
        size_is = counts.size_is;
        used = counts.used;
        stands = after.0;
        free_are = λ n. ap (times n) (sym after.1);
      },
    )
