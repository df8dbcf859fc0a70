-- Pages by number, as a list has them.
use Rattle.std.proofs.Common.{◌≡◌, ℕ, zero, suc, ◌+◌, ◌-◌, ◌<◌, ◌≤◌, List, [], ◌∷◌, length, map, take, refl, sym, ap, ◌∙◌, arith, ◌*◌, min, drop, Option, Some, None}
use Rattle.std.specs.Prelude.{slice_get, unwrap_or}
use Rattle.std.specs.List.{find}
use Rattle.std.proofs.lemmas.List.{length-drop, length-take}
use Rattle.spe_model.specs.declared.header.Header.{Header}
use Rattle.spe_model.specs.declared.file.FileNo.TheVariants.{Database}
use Rattle.spe_model.specs.Content.{Content, bytes_of}
use Rattle.spe_model.specs.Covered.{Recovers}
use Rattle.spe_model.specs.Header.{fields}
use Rattle.spe_model.specs.Journal.{Saved, numbers_from}
use Rattle.spe_model.specs.Recovery.{all_hot, file_page, file_page_size, image_of, is_of, pages_to, recovered_header, saved_or, with_front}
use Rattle.spe_crash.proofs.CountLemmas.{header_size}
use Rattle.spe_crash.proofs.PagesLemmas.{HasPages, opened, some_pages}
use Rattle.spe_crash.proofs.PlaceLemmas.{page_end}
use Rattle.spe_crash.proofs.ThinLemmas.{with_own_front}
use Rattle.spe_model.specs.Settled.{page_in}
use Rattle.spe_transactions.specs.Pages.{page_at}

get_within : {X : Type 0} (xs : List X) (n : ℕ) (x : X) → slice_get xs n ≡ Some x → n < length xs
get_within [] n x found = absurd cc
get_within (y ∷ ys) zero x found = omega arith
get_within (y ∷ ys) (suc n) x found = let later : n < length ys = get_within ys n x found in omega arith

get_some : (xs : List (List ℕ)) (n : ℕ) → n < length xs → slice_get xs n ≡ Some (unwrap_or (slice_get xs n) [])
get_some [] n low = absurd (omega arith)
get_some (y ∷ ys) zero low = refl
get_some (y ∷ ys) (suc n) low = get_some ys n (omega arith)

-- the bytes of a page that is there
pub record IsAt (pages : List (List ℕ)) (p : ℕ) (bytes : List ℕ) : Type 0 where
  pub low : 1 ≤ p
  pub high : p ≤ length pages
  pub is : page_in pages p ≡ bytes

pub is_at : (pages : List (List ℕ)) (p : ℕ) (bytes : List ℕ) → page_at pages p ≡ Some bytes → IsAt pages p bytes
is_at pages zero bytes found = absurd cc
is_at pages (suc n) bytes found =
    let within : n < length pages = get_within pages n bytes found in
    let back : suc n - 1 ≡ n = omega arith in
    record { low = omega arith; high = omega arith; is = rw (back, found) refl }

pub page_there : (pages : List (List ℕ)) (p : ℕ) → 1 ≤ p → p ≤ length pages → page_at pages p ≡ Some (page_in pages p)
page_there pages zero low high = absurd (omega arith)
page_there pages (suc n) low high = let back : suc n - 1 ≡ n = omega arith in rw back (get_some pages n (omega arith))

get_numbered : (f : ℕ → List ℕ) (from count n : ℕ) → n < count → slice_get (map f (numbers_from from count)) n ≡ Some (f (from + n))
get_numbered f from zero n low = absurd (omega arith)
get_numbered f from (suc count) zero low = let same : from + 0 ≡ from = omega arith in rw same refl
get_numbered f from (suc count) (suc n) low = let same : from + suc n ≡ from + 1 + n = omega arith in rw same (get_numbered f (from + 1) count n (omega arith))

pub page_counted : (f : ℕ → List ℕ) (count p : ℕ) → 1 ≤ p → p ≤ count → page_at (map f (pages_to count)) p ≡ Some (f p)
page_counted f count zero low high = absurd (omega arith)
page_counted f count (suc n) low high = let same : 1 + n ≡ suc n = omega arith in get_numbered f 1 count n (omega arith) ∙ ap (λ (p : ℕ). Some (f p)) same

-- the recovered pages are the images
pub image_is : (content : Content) (pages : List (List ℕ)) → Recovers content pages → (p : ℕ) → 1 ≤ p → p ≤ length pages → image_of content p ≡ page_in pages p
image_is content pages recovers p low high =
    let has : HasPages content pages = opened content pages recovers in
    let one : page_at pages p ≡ Some (image_of content p) = ap (λ (ps : List (List ℕ)). page_at ps p) has.images ∙ page_counted (image_of content) (length pages) p low high in
    let both : Some (page_in pages p) ≡ Some (image_of content p) = sym (page_there pages p low high) ∙ one in
    cc

-- the header of the recovered page 1
pub header_is : (content : Content) (pages : List (List ℕ)) → Recovers content pages → recovered_header content ≡ fields (take 100 (page_in pages 1))
unfolding recovered_header
header_is content pages recovers =
    let has : HasPages content pages = opened content pages recovers in
    ap (λ (page : List ℕ). fields (take 100 page)) (image_is content pages recovers 1 (omega arith) (some_pages content pages has))

pub size_is : (content : Content) (pages : List (List ℕ)) → Recovers content pages → file_page_size content ≡ (fields (take 100 (page_in pages 1))).page_size
size_is content pages recovers =
    sym (header_size content pages (opened content pages recovers)) ∙ ap (λ (h : Header). h.page_size) (header_is content pages recovers)

-- a page that no journal holds is the file's
pub image_free : (content : Content) (p : ℕ) → 512 ≤ file_page_size content → find (is_of p) (all_hot content) ≡ None → image_of content p ≡ file_page content p
unfolding image_of
image_free content p low none = ap (λ (found : Option Saved). with_front content p (saved_or (file_page content p) found)) none ∙ with_own_front content p low

all_numbered : (pages : List (List ℕ)) (f : ℕ → List ℕ) (n : ℕ) → ((k : ℕ) → k < length pages → f (n + k) ≡ unwrap_or (slice_get pages k) []) → pages ≡ map f (numbers_from n (length pages))
all_numbered [] f n same = refl
all_numbered (x ∷ xs) f n same =
    let first : f n ≡ x = ap f (let none : n ≡ n + 0 = omega arith in none) ∙ same 0 (omega arith) in
    let rest : xs ≡ map f (numbers_from (n + 1) (length xs)) =
    all_numbered xs f (n + 1) (λ k low. ap f (let next : n + 1 + k ≡ n + suc k = omega arith in next) ∙ same (suc k) (omega arith)) in
    ap (λ (y : List ℕ). y ∷ xs) (sym first) ∙ ap (λ (ys : List (List ℕ)). f n ∷ ys) rest

-- a list of pages is its pages by number
pub pages_are : (pages : List (List ℕ)) → pages ≡ map (page_in pages) (pages_to (length pages))
pages_are pages = all_numbered pages (page_in pages) 1 (λ k low. let back : 1 + k - 1 ≡ k = omega arith in ap (λ (n : ℕ). unwrap_or (slice_get pages n) []) back)

-- a page that lies within the file has all its bytes
pub page_whole : (content : Content) (p : ℕ) → 1 ≤ p → p * file_page_size content ≤ length (bytes_of content Database) → length (file_page content p) ≡ file_page_size content
page_whole content p low end =
    let size = file_page_size content in
    let file = bytes_of content Database in
    length-take size (drop ((p - 1) * size) file)
    ∙ ap (min size) (length-drop ((p - 1) * size) file)
    ∙ by_sizes size (length file) ((p - 1) * size) (p * size) (page_end p size low) end
  where
    by_sizes : (size long start end : ℕ) → start + size ≡ end → end ≤ long → min size (long - start) ≡ size
    by_sizes size long start end is within = omega arith
