-- The outcome of recovery, step by step.
use Rattle.std.proofs.Common.{◌≡◌, ℕ, zero, suc, ◌+◌, ◌*◌, ◌/◌, ◌^◌, ◌<◌, ◌≤◌, List, [], ◌∷◌, ◌++◌, length, take, drop, refl, arith, sym, ap, subst, ◌∙◌, Bool, true, false, cond, Option, Some, None, Ok, Err, ⊎_elim, length-take}
use Rattle.std.specs.Prelude.{nat_lt, nat_le, ◌||◌, is_some, unwrap_or, ◌&&◌}
use Rattle.std.specs.List.{list_all, list_any, find}
use Rattle.std.specs.Option.{option_map}
use Rattle.std.specs.Ordering.{nat_cmp}
use Rattle.std.specs.BTreeMap.{get}
use Rattle.std.proofs.Math.Nat.{le-div_iff_mul-le, div-lt_iff_lt-mul, mul-le-mul_left}
use Rattle.std.proofs.lemmas.Bool.{cases_lt}
use Rattle.std.proofs.lemmas.Bool.Decides.{nat_tests}
use Rattle.spe_model.specs.declared.file.FileNo.TheVariants.{Database}
use Rattle.spe_model.specs.declared.recovery.RecoverFault.TheVariants as refusals
use Rattle.spe_model.specs.Content.{Content, bytes_of}
use Rattle.spe_model.specs.Header.{header_of}
use Rattle.spe_model.specs.Journal.{numbers_from}
use Rattle.spe_model.specs.Recovery.{is_of, all_hot, image_of, file_page_size, is_there, pages_to, recovered_to, recovered_with, recovered_hot, holders, hot_of, shared_page, first_two}
use Rattle.spe_recover.specs.declared.seen.Seen.{Seen}
use Rattle.spe_recover.specs.declared.seen.Clash.{Clash}
use Rattle.spe_recover.specs.Seen.{IsClash, IsLeast, IsScanned, held_after, entries_from, first_of}
use Rattle.spe_recover.specs.Survey.{AreHeld, IsLacking, images_to, hot_outcome}
use Rattle.spe_recover.proofs.HeldLemmas.{held_at_end, rest_at_end, first_of-any, find_any, rest_of}
use Rattle.spe_recover.proofs.ClashLemmas.{shared_none, shared_some}
use Rattle.spe_recover.proofs.ImageLemmas.{image_front}

-- what was scanned, with the file's page size
abbrev pub IsRead : Content → Seen → Type 0
IsRead content seen = IsScanned content (file_page_size content) seen

pub is_read : (content : Content) (page_size : ℕ) (seen : Seen) → page_size ≡ file_page_size content → IsScanned content page_size seen → IsRead content seen
is_read content page_size seen paged scanned = subst (λ (n : ℕ). IsScanned content n seen) paged scanned

held_of : (content : Content) (seen : Seen) → IsRead content seen → (p : ℕ) → get nat_cmp seen.holders p ≡ first_of (holders content p)
held_of content seen scanned p = scanned.0.holders p ∙ ap first_of (held_at_end content (file_page_size content) p)

pub some_of : (content : Content) (seen : Seen) → IsRead content seen → (p : ℕ) → is_some (get nat_cmp seen.holders p) ≡ is_some (find (is_of p) (all_hot content))
some_of content seen scanned p = ap is_some (held_of content seen scanned p) ∙ first_of-any (hot_of content) p 0 16

-- tests of all numbers
all_numbers : (test : ℕ → Bool) (n count : ℕ) → ((p : ℕ) → n ≤ p → p < n + count → test p ≡ true) → list_all test (numbers_from n count) ≡ true
all_numbers test n zero pass = refl
all_numbers test n (suc count) pass =
    rw (pass n (omega arith) (omega arith)) (all_numbers test (n + 1) count (λ p low high. pass p (omega arith) (omega arith)))

some_number : (test : ℕ → Bool) (n count p : ℕ) → n ≤ p → p < n + count → test p ≡ false → list_all test (numbers_from n count) ≡ false
some_number test n zero p low high fails = absurd (omega arith)
some_number test n (suc count) p low high fails = ⊎_elim
    (λ (above : n < p). by_test (test n) (some_number test (n + 1) count p (omega arith) (omega arith) fails))
    (λ (at : p ≤ n). let same : p ≡ n = omega arith in rw (← same, fails) refl)
    (cases_lt n p)
  where
    by_test : (b : Bool) → list_all test (numbers_from (n + 1) count) ≡ false → (b && list_all test (numbers_from (n + 1) count)) ≡ false
    by_test true rest = rest
    by_test false rest = refl

whole_page : (p page_size size : ℕ) → 0 < page_size → p ≤ size / page_size → nat_le (p * page_size) size ≡ true
whole_page p page_size size some within = let fits : p * page_size ≤ size = (le-div_iff_mul-le some).0 within in grind (arith, nat_tests)

cut_page : (p page_size size : ℕ) → 0 < page_size → size / page_size < p → nat_le (p * page_size) size ≡ false
cut_page p page_size size some above = let cut : size < p * page_size = (div-lt_iff_lt-mul some).0 above in grind (arith, nat_tests)

pub all_there : (content : Content) (seen : Seen) (count : ℕ) → IsRead content seen → 0 < file_page_size content
    → AreHeld seen (length (bytes_of content Database) / file_page_size content) count true → list_all (is_there content) (pages_to count) ≡ true
all_there content seen count scanned some held =
    let size = length (bytes_of content Database) in
    all_numbers (is_there content) 1 count
    (λ p low high. ⊎_elim
    (λ (above : size / file_page_size content < p).
    let is : is_some (find (is_of p) (all_hot content)) ≡ true = sym (some_of content seen scanned p) ∙ held p above (omega arith) in
    rw is refl)
    (λ (within : p ≤ size / file_page_size content). rw (whole_page p (file_page_size content) size some within) (or_true (is_some (find (is_of p) (all_hot content)))))
    (cases_lt (size / file_page_size content) p))
  where
    or_true : (b : Bool) → (b || true) ≡ true
    or_true true = refl
    or_true false = refl

pub some_lacks : (content : Content) (seen : Seen) (count : ℕ) → IsRead content seen → 0 < file_page_size content
    → IsLacking seen (length (bytes_of content Database) / file_page_size content) count → list_all (is_there content) (pages_to count) ≡ false
some_lacks content seen count scanned some lacking =
    let size = length (bytes_of content Database) in
    let no_record : is_some (find (is_of lacking.page) (all_hot content)) ≡ false = sym (some_of content seen scanned lacking.page) ∙ lacking.lacks in
    let no_bytes : nat_le (lacking.page * file_page_size content) size ≡ false = cut_page lacking.page (file_page_size content) size some lacking.above in
    some_number (is_there content) 1 count lacking.page (omega (arith, lacking.above)) (omega (arith, lacking.within)) (rw (no_record, no_bytes) refl)

-- the outcome of counting, by the tests
by_tests : (large whole : Bool) (pages : List (List ℕ)) (count size : ℕ) → large ≡ false → whole ≡ true
    → cond large (Err (refusals.TooLarge count)) (cond whole (Ok pages) (Err (refusals.ShortFile count size))) ≡ Ok pages
by_tests large whole pages count size e f = rw (e, f) refl

pub counts_large : (content : Content) (page_size count : ℕ) → page_size ≡ file_page_size content → nat_lt (2 ^ 30) (count * page_size) ≡ true
    → recovered_to content count ≡ Err (refusals.TooLarge count)
counts_large content page_size count paged large =
    let is : nat_lt (2 ^ 30) (count * file_page_size content) ≡ true = ap (λ (n : ℕ). nat_lt (2 ^ 30) (count * n)) (sym paged) ∙ large in
    rw is refl

pub counts_short : (content : Content) (page_size count : ℕ) (seen : Seen) → page_size ≡ file_page_size content → 0 < page_size → nat_lt (2 ^ 30) (count * page_size) ≡ false
    → IsScanned content page_size seen → (size : ℕ) → size ≡ length (bytes_of content Database) → AreHeld seen (size / page_size) count false
    → recovered_to content count ≡ Err (refusals.ShortFile count size)
counts_short content page_size count seen paged some small scanned size sized lacking =
    let is : nat_lt (2 ^ 30) (count * file_page_size content) ≡ false = ap (λ (n : ℕ). nat_lt (2 ^ 30) (count * n)) (sym paged) ∙ small in
    let lacks : IsLacking seen (length (bytes_of content Database) / file_page_size content) count =
    subst (λ (n : ℕ). IsLacking seen (length (bytes_of content Database) / n) count) paged (subst (λ (n : ℕ). IsLacking seen (n / page_size) count) sized lacking) in
    let short : list_all (is_there content) (pages_to count) ≡ false =
    some_lacks content seen count (is_read content page_size seen paged scanned) (subst (λ (n : ℕ). 0 < n) paged some) lacks in
    rw (is, short, sized) refl

pub counts_whole : (content : Content) (page_size count : ℕ) (seen : Seen) → page_size ≡ file_page_size content → 0 < page_size → nat_lt (2 ^ 30) (count * page_size) ≡ false
    → IsScanned content page_size seen → (size : ℕ) → size ≡ length (bytes_of content Database) → AreHeld seen (size / page_size) count true
    → recovered_to content count ≡ Ok (images_to content count)
counts_whole content page_size count seen paged some small scanned size sized held =
    let is : nat_lt (2 ^ 30) (count * file_page_size content) ≡ false = ap (λ (n : ℕ). nat_lt (2 ^ 30) (count * n)) (sym paged) ∙ small in
    let all : AreHeld seen (length (bytes_of content Database) / file_page_size content) count true =
    subst (λ (n : ℕ). AreHeld seen (length (bytes_of content Database) / n) count true) paged (subst (λ (n : ℕ). AreHeld seen (n / page_size) count true) sized held) in
    let whole : list_all (is_there content) (pages_to count) ≡ true =
    all_there content seen count (is_read content page_size seen paged scanned) (subst (λ (n : ℕ). 0 < n) paged some) all in
    rw (is, whole) refl

pub few_pages : (count page_size : ℕ) → 512 ≤ page_size → nat_lt (2 ^ 30) (count * page_size) ≡ false → count ≤ 2 ^ 30
few_pages count page_size low small =
    let fits : count * page_size ≤ 2 ^ 30 = grind (arith, nat_tests) in
    let more : count * 1 ≤ count * page_size = mul-le-mul_left count (omega arith) in
    omega arith

-- the first bytes of the recovered page 1
pub front_laid : (content : Content) (page_size : ℕ) (seen : Seen) (front laid : List ℕ) → page_size ≡ file_page_size content → 512 ≤ page_size → 100 ≤ length front
    → IsScanned content page_size seen → front ≡ take 100 (bytes_of content Database) → laid ≡ take 24 front ++ unwrap_or seen.rest (drop 24 front)
    → laid ≡ take 100 (image_of content 1)
front_laid content page_size seen front laid paged low long scanned is laying =
    let rest : seen.rest ≡ option_map rest_of (find (is_of 1) (all_hot content)) =
    (is_read content page_size seen paged scanned).1 ∙ rest_at_end content (file_page_size content) in
    let enough : 24 ≤ length (bytes_of content Database) = omega (arith, ap length is, length-take 100 (bytes_of content Database)) in
    laying
    ∙ ap (λ (f : List ℕ). take 24 f ++ unwrap_or seen.rest (drop 24 f)) is
    ∙ ap (λ (r : Option (List ℕ)). take 24 (take 100 (bytes_of content Database)) ++ unwrap_or r (drop 24 (take 100 (bytes_of content Database)))) rest
    ∙ sym (image_front content enough (subst (λ (n : ℕ). 512 ≤ n) paged low))

-- no page, or the least, is held twice
shared_of-none : (content : Content) (seen : Seen) → IsRead content seen → seen.clash ≡ None → shared_page content ≡ None
shared_of-none content seen scanned none =
    let clash : IsClash (held_after (λ p. []) (entries_from content (file_page_size content) 0 16)) None = subst (λ (c : Option Clash). IsClash (held_after (λ p. []) (entries_from content (file_page_size content) 0 16)) c) none scanned.0.clash in
    shared_none (holders content) (all_hot content)
    (λ p. subst (λ (h : List ℕ). length h ≤ 1) (held_at_end content (file_page_size content) p) (clash p))

some_held : (ids : List ℕ) → 2 ≤ length ids → is_some (first_of ids) ≡ true
some_held [] two = absurd (omega arith)
some_held (x ∷ xs) two = refl

record IsShared (content : Content) (clash : Clash) : Type 0 where
  least : shared_page content ≡ Some clash.page
  two : first_two (holders content clash.page) ≡ (clash.first, clash.second)

shared_of-some : (content : Content) (seen : Seen) (c : Clash) → IsRead content seen → seen.clash ≡ Some c → IsShared content c
shared_of-some content seen c scanned found =
    let clash : IsLeast (held_after (λ p. []) (entries_from content (file_page_size content) 0 16)) c = subst (λ (c : Option Clash). IsClash (held_after (λ p. []) (entries_from content (file_page_size content) 0 16)) c) found scanned.0.clash in
    let twice : 2 ≤ length (holders content c.page) = subst (λ (h : List ℕ). 2 ≤ length h) (held_at_end content (file_page_size content) c.page) clash.shared in
    let among : list_any (is_of c.page) (all_hot content) ≡ true =
    sym (find_any c.page (all_hot content)) ∙ sym (first_of-any (hot_of content) c.page 0 16) ∙ some_held (holders content c.page) twice in
    record {
      least =
          shared_some (holders content) (all_hot content) c.page twice
          (λ q low. subst (λ (h : List ℕ). length h ≤ 1) (held_at_end content (file_page_size content) q) (clash.least q low)) among;
      two = ap first_two (sym (held_at_end content (file_page_size content) c.page)) ∙ clash.two;
    }

pub hot_shared : (content : Content) (page_size : ℕ) (seen : Seen) (c : Clash) → page_size ≡ file_page_size content → IsScanned content page_size seen → seen.clash ≡ Some c
    → hot_outcome content ≡ Err (refusals.Overlap c.page c.first c.second)
unfolding hot_outcome
hot_shared content page_size seen c paged scanned found =
    let shared = shared_of-some content seen c (is_read content page_size seen paged scanned) found in
    ap (recovered_hot content) shared.least ∙ ap (λ (ab : ℕ × ℕ). Err (refusals.Overlap c.page ab.0 ab.1)) shared.two

pub hot_single : (content : Content) (page_size : ℕ) (seen : Seen) → page_size ≡ file_page_size content → IsScanned content page_size seen → seen.clash ≡ None
    → hot_outcome content ≡ recovered_with content (header_of (take 100 (image_of content 1)))
unfolding hot_outcome
hot_single content page_size seen paged scanned none = ap (recovered_hot content) (shared_of-none content seen (is_read content page_size seen paged scanned) none)
