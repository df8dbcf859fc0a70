-- A page that is taken from a list or given to it, case by case, over the pages as they are seen.
use Rattle.std.proofs.Common.{◌≡◌, ◌≢◌, ℕ, suc, ◌+◌, ◌^◌, ◌<◌, ◌≤◌, ◌∙◌, List, [], ◌∷◌, ◌++◌, length, take, refl, sym, ap, subst, inl, inr, ⊎_elim, arith, Option, Some, None, true}
use Rattle.std.specs.Prelude.{◌==◌, IsOk, Result, Ok, Err, nat_lt}
use Rattle.std.proofs.lemmas.Bool.{cases_Bool, ltb-false}
use Rattle.std.proofs.lemmas.List.{length-take}
use Rattle.std.proofs.lemmas.List.Elements.{All-head}
use Rattle.std.specs.List.{find}
use Rattle.spe_model.specs.declared.header.Header.{Header}
use Rattle.spe_model.specs.declared.header.HeaderFault.{HeaderFault}
use Rattle.spe_model.specs.declared.header.HeaderFault.TheVariants.{Short}
use Rattle.spe_model.specs.Big.{u32_at}
use Rattle.spe_model.specs.FreeList.{AreTrunks, leaf_count, leaves_of, names_node, next_trunk, trunk_pages}
use Rattle.spe_model.specs.Header.{faults, fields, has_fault, header_of, unless}
use Rattle.spe_model.specs.Paging.{Paging}
use Rattle.spe_model.specs.Standing.{FreeChain, IsFreeChain, chain_of_free}
use Rattle.spe_space.specs.Free.{IsLaterPage}
use Rattle.spe_space.specs.Front.{number_in, recounted}
use Rattle.spe_space.proofs.FrontLemmas.{length-recounted, number_recounted}
use Rattle.spe_frame.specs.Held.{KeepsHead}
use Rattle.spe_frame.specs.Times.{one_if, times}
use Rattle.spe_frame.proofs.HeadLemmas.{recounted_keeps}
use Rattle.spe_frame.proofs.HeaderLemmas.{header_stays}
use Rattle.spe_frame.proofs.HeldLemmas.{list_same}
use Rattle.spe_frame.proofs.TimesLemmas.{here, same_or_not, single_from_distinct, there, times-append}
use Rattle.spe_freelist.specs.Lists.{Trunk, list_of, pages_of, trunks_from}
use Rattle.spe_freelist.specs.Place.{AreLists}
use Rattle.spe_freelist.specs.Trunk.{IsTrunk, leaves_at}
use Rattle.spe_freelist.proofs.ListLemmas.{pages_are, times_trunk}
use Rattle.spe_freelist.proofs.RelistLemmas.{Beside, Relisted, all_right, own_within, relisted}
use Rattle.spe_freelist.proofs.TrunkLemmas.{length-leaves}

-- a trunk as the pages show it
pub record Shown (pages : Paging) (page next : ℕ) (leaves : List ℕ) : Type 0 where
  pub next_is : next_trunk pages page ≡ next
  pub leaves_are : leaves_of pages page ≡ leaves
  pub count_is : leaf_count pages page ≡ length leaves

pub shown : (usable next : ℕ) (leaves reserved bytes : List ℕ) (pages : Paging) (page : ℕ) → IsTrunk usable next leaves reserved bytes → pages page ≡ bytes → Shown pages page next leaves
shown usable next leaves reserved bytes pages page is same =
    let leaves_are : leaves_of pages page ≡ leaves = ap (λ (xs : List ℕ). leaves_at xs (u32_at xs 4)) same ∙ is.leaves_are in
    record {
      next_is = ap (λ (xs : List ℕ). u32_at xs 0) same ∙ is.next_is;
      leaves_are = leaves_are;
      count_is = sym (length-leaves (pages page) (leaf_count pages page)) ∙ ap length leaves_are;
    }

-- a legal page 1 has a hundred bytes
pub long_front : (front : List ℕ) → IsOk (header_of (take 100 front)) → 100 ≤ length front
long_front front legal = elim (cases_Bool (nat_lt (length (take 100 front)) 100)) [
  | inl short ↦ absurd (go (take 100 front) short legal)
  | inr long ↦ omega (arith, length-take 100 front, ltb-false (length (take 100 front)) 100 long)
]
  where
    unless_none : (f : Option HeaderFault) (h : Header) → f ≡ Some Short → IsOk (unless f h) → ⊥
    unless_none None h is ok = absurd cc
    unless_none (Some e) h is ok = absurd cc

    go : (bytes : List ℕ) → nat_lt (length bytes) 100 ≡ true → IsOk (header_of bytes) → ⊥
    go bytes short legal = let is : find (has_fault bytes) faults ≡ Some Short = rw short refl in
        absurd (unless_none (Some Short) (fields bytes) refl (subst (λ (f : Option HeaderFault). IsOk (unless f (fields bytes))) is legal))

-- page 1 as it is
pub beside_same : (old new : Paging) (first : ℕ) (listed : List ℕ) → IsOk (header_of (take 100 (old 1))) → new 1 ≡ old 1
    → ((n : ℕ) → 0 < times n listed → n ≢ first → new n ≡ old n) → Beside old new first listed
beside_same old new first listed legal same stays = record {
  legal = subst (λ (xs : List ℕ). IsOk (header_of (take 100 xs))) (sym same) legal;
  list = ap (λ (xs : List ℕ). u32_at xs 32) same;
  named = ap names_node same;
  more = let e = ap (λ (xs : List ℕ). u32_at xs 28) same in omega (arith, e);
  stays = stays;
}

pub ok_is : {T E : Type 0} (r : Result T E) → IsOk r → (x : T) × (r ≡ Ok x)
ok_is (Ok x) is = (x, refl)
ok_is (Err e) is = absurd cc

-- page 1 that names more pages
pub beside_grown : (old new : Paging) (first count : ℕ) (listed : List ℕ) → IsOk (header_of (take 100 (old 1))) → new 1 ≡ recounted count (old 1) → count < 2 ^ 32 → number_in old ≤ count
    → ((n : ℕ) → 0 < times n listed → n ≢ first → new n ≡ old n) → Beside old new first listed × (number_in new ≡ count)
beside_grown old new first count listed legal grown small more stays =
    let long = long_front (old 1) legal in
    let keeps = recounted_keeps count (old 1) long in
    let head = subst (λ (xs : List ℕ). KeepsHead (old 1) xs) (sym grown) keeps.0 in
    let len : length (new 1) ≡ length (old 1) = ap length grown ∙ length-recounted count (old 1) (omega (arith, long)) in
    let was = ok_is (header_of (take 100 (old 1))) legal in
    let header = header_stays (old 1) (new 1) was.0 was.1 long (omega (arith, len, long)) head in
    let number : number_in new ≡ count = ap (λ (xs : List ℕ). u32_at xs 28) grown ∙ number_recounted count (old 1) (omega (arith, long)) small in (
      record {
        legal = subst IsOk (sym header.legal) refl;
        list = list_same old new head;
        named = header.node;
        more = omega (arith, number, more);
        stays = stays;
      },
      number,
    )

-- a list that lost a page
pub record Left (usable : ℕ) (old new : Paging) (before : List FreeChain) (own : FreeChain) (after : List FreeChain) (listed : List ℕ) (trunks : List Trunk) : Type 0 where
  pub own' : FreeChain
  pub first_is : own'.first ≡ own.first
  pub own_is : list_of new own' ≡ trunks
  pub again : Relisted usable old new before own own' after listed trunks

one_here : (n : ℕ) → one_if (n == n) ≡ 1
one_here n = let at = here n n [] refl in omega (arith, at)

-- all pages of the list but one are its pages then
pub loses : (usable : ℕ) (old new : Paging) (before : List FreeChain) (own own' : FreeChain) (after : List FreeChain) (listed : List ℕ) (trunks : List Trunk) (page : ℕ)
    → AreLists usable old (before ++ own ∷ after) listed → Beside old new own.first listed → own'.first ≡ own.first → AreTrunks usable new own'.trunks own'.first → list_of new own' ≡ trunks
    → ((n : ℕ) → times n (pages_of trunks) + one_if (n == page) ≡ times n (chain_of_free old own))
    → (left : Left usable old new before own after listed trunks) × (times page left.again.listed' ≡ 0)
loses usable old new before own own' after listed trunks page lists beside first_is whole own_is counts =
    let within = own_within usable old before own after listed lists in
    let single = single_from_distinct listed lists.distinct in
    let again = relisted usable old new before own own' after listed trunks lists beside (record {
      first_is = first_is;
      whole = whole;
      trunks_are = own_is;
      single = λ n. omega (arith, counts n, within n, single n);
      found = λ n some. inl (omega (arith, counts n, some));
    }) in (
      record { own' = own'; first_is = first_is; own_is = own_is; again = again },
      again.lacks page (omega (arith, counts page, within page, single page, one_here page)) (inl (omega (arith, counts page, one_here page))),
    )

-- a list with a page more
pub gains : (usable : ℕ) (old new : Paging) (before : List FreeChain) (own own' : FreeChain) (after : List FreeChain) (listed : List ℕ) (trunks : List Trunk) (page : ℕ)
    → AreLists usable old (before ++ own ∷ after) listed → Beside old new own.first listed → own'.first ≡ own.first → AreTrunks usable new own'.trunks own'.first → list_of new own' ≡ trunks
    → ((n : ℕ) → times n (pages_of trunks) ≡ one_if (n == page) + times n (chain_of_free old own))
    → times page listed ≡ 0 → IsLaterPage (number_in new) page
    → Left usable old new before own after listed trunks
gains usable old new before own own' after listed trunks page lists beside first_is whole own_is counts unlisted placed =
    let within = own_within usable old before own after listed lists in
    let single = single_from_distinct listed lists.distinct in
    record {
      own' = own';
      first_is = first_is;
      own_is = own_is;
      again = relisted usable old new before own own' after listed trunks lists beside (record {
        first_is = first_is;
        whole = whole;
        trunks_are = own_is;
        single = λ n. ⊎_elim
            (λ (e : n ≡ page). let none : times n listed ≡ 0 = ap (λ (m : ℕ). times m listed) e ∙ unlisted in
            let at = here n page [] e in omega (arith, counts n, within n, none, at))
            (λ (e : n ≢ page). let at = there n page [] e in omega (arith, counts n, within n, single n, at))
            (same_or_not n page);
        found = λ n some. ⊎_elim
            (λ (e : n ≡ page). inr (ap (λ (m : ℕ). times m listed) e ∙ unlisted, subst (IsLaterPage (number_in new)) (sym e) placed))
            (λ (e : n ≢ page). let at = there n page [] e in inl (omega (arith, counts n, some, at)))
            (same_or_not n page);
      });
    }

-- the rest of a list does not have its first trunk
pub rest_stays : (usable : ℕ) (old new : Paging) (before : List FreeChain) (count first : ℕ) (after : List FreeChain) (listed : List ℕ)
    → AreLists usable old (before ++ record { trunks = suc count; first = first } ∷ after) listed → ((n : ℕ) → 0 < times n listed → n ≢ first → new n ≡ old n)
    → (n : ℕ) → 0 < times n (trunk_pages old count (next_trunk old first)) → new n ≡ old n
rest_stays usable old new before count first after listed lists stays n some =
    let own : FreeChain = record { trunks = suc count; first = first } in
    let within = own_within usable old before own after listed lists n in
    let single = single_from_distinct listed lists.distinct n in
    let split = times-append n (leaves_of old first) (trunk_pages old count (next_trunk old first)) in
    stays n (omega (arith, within, some, split)) (λ (e : n ≡ first). let at = here n first (leaves_of old first ++ trunk_pages old count (next_trunk old first)) e in
    absurd (omega (arith, within, some, split, single, at)))

-- how often a page is in a list, by its first trunk
pub counts_own : (old : Paging) (count first n : ℕ)
    → times n (chain_of_free old (record { trunks = suc count; first = first })) ≡ one_if (n == first) + (times n (leaves_of old first) + times n (pages_of (trunks_from old count (next_trunk old first))))
counts_own old count first n =
    ap (times n) (pages_are old (suc count) first) ∙ times_trunk n (record { page = first; leaves = leaves_of old first }) (trunks_from old count (next_trunk old first))

-- a whole list that begins at a page has a trunk
pub whole_of : (usable : ℕ) (old : Paging) (before : List FreeChain) (own : FreeChain) (after : List FreeChain) (listed : List ℕ)
    → AreLists usable old (before ++ own ∷ after) listed → IsFreeChain usable old own × (own.first ≢ 0)
whole_of usable old before own after listed lists = (
  All-head (IsFreeChain usable old) own after (all_right (IsFreeChain usable old) before (own ∷ after) lists.whole.whole),
  All-head (λ (f : FreeChain). f.first ≢ 0) own after (all_right (λ (f : FreeChain). f.first ≢ 0) before (own ∷ after) lists.whole.started),
)
