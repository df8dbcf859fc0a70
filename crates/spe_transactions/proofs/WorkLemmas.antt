-- What holds of files in which transactions are at work.
use Rattle.std.proofs.Common.{◌≡◌, ℕ, ◌*◌, ◌<◌, ◌≤◌, ◌^◌, List, ◌++◌, length, take, drop, refl, sym, ap, ◌∙◌, arith, Bool, true, false, Option, Some, None, Ok, ⊎_elim}
use Rattle.std.specs.Prelude.{nat_lt, is_some}
use Rattle.std.specs.List.{find}
use Rattle.std.proofs.Math.Nat.{mul-le-mul_left}
use Rattle.std.proofs.lemmas.List.{length-take, take_at}
use Rattle.std.proofs.lemmas.Bool.Decides.{nat_tests}
use Rattle.spe_model.specs.declared.file.FileNo.TheVariants.{Database}
use Rattle.spe_model.specs.declared.header.Header.{Header}
use Rattle.spe_model.specs.Content.{Content, bytes_of}
use Rattle.spe_model.specs.Covered.{IsSaved, IsSpare, Recovers}
use Rattle.spe_model.specs.Header.{header_of, is_size_valid, page_count_of}
use Rattle.spe_model.specs.Paging.{PageMap}
use Rattle.spe_model.specs.Recovery.{all_hot, file_page, file_page_size, image_of, is_of, saved_or}
use Rattle.spe_model.specs.Settled.{header_in, page_in}
use Rattle.spe_crash.proofs.FrontLemmas.{IsReadable}
use Rattle.spe_crash.proofs.PagesLemmas.{HasPages, opened, some_pages}
use Rattle.spe_crash.proofs.PlaceLemmas.{ends_mono}
use Rattle.spe_transactions.specs.Pages.{IsAdded, page_at}
use Rattle.spe_transactions.specs.Work.{AtWork, Works, has_page}
use Rattle.spe_transactions.proofs.PageLemmas.{IsAt, header_is, image_is, is_at}
use Rattle.spe_transactions.proofs.PutLemmas.{ends_within, page_range}
use Rattle.spe_transactions.proofs.SavedLemmas.{AreSaved, own_held}

pub page_fits : (content : Content) (pages : List (List ℕ)) → Recovers content pages → file_page_size content < 2 ^ 32
page_fits content pages recovers = let read : IsReadable (bytes_of content Database) = page_range content pages recovers in omega (arith, read.high)

-- what is recovered has no more pages than a file may have
pub small_enough : (content : Content) (pages : List (List ℕ)) → Recovers content pages → length pages * file_page_size content ≤ 2 ^ 30
small_enough content pages recovers = by_test (length pages * file_page_size content) (opened content pages recovers).small
  where
    by_test : (n : ℕ) → nat_lt (2 ^ 30) n ≡ false → n ≤ 2 ^ 30
    by_test n e = grind (arith, nat_tests)

-- the number of a page fits a record
pub number_fits : (content : Content) (pages : List (List ℕ)) (p : ℕ) → Recovers content pages → p ≤ length pages → p < 2 ^ 32
number_fits content pages p recovers high =
    let read : IsReadable (bytes_of content Database) = page_range content pages recovers in
    let size = file_page_size content in
    let small : length pages * size ≤ 2 ^ 30 = small_enough content pages recovers in
    let low : p * 512 ≤ p * size = mul-le-mul_left p read.low in
    let more : p * size ≤ length pages * size = ends_mono p (length pages) size high in
    omega arith

pub header_legal : (content : Content) (pages : List (List ℕ)) → Recovers content pages → header_of (take 100 (page_in pages 1)) ≡ Ok (header_in pages)
header_legal content pages recovers =
    let has : HasPages content pages = opened content pages recovers in
    sym (ap (λ (page : List ℕ). header_of (take 100 page)) (image_is content pages recovers 1 (omega arith) (some_pages content pages has)))
    ∙ has.header ∙ ap (λ (h : Header). Ok h) (header_is content pages recovers)

-- the number of recovered pages is the one that page 1 and the file tell
pub count_told : (content : Content) (pages : List (List ℕ)) → Recovers content pages → page_count_of (header_in pages) (length (bytes_of content Database)) ≡ length pages
count_told content pages recovers =
    sym ((opened content pages recovers).count ∙ ap (λ (h : Header). page_count_of h (length (bytes_of content Database))) (header_is content pages recovers))

pub valid_count : (h : Header) (size count : ℕ) → is_size_valid h ≡ true → h.pages ≡ count → page_count_of h size ≡ count
valid_count h size count valid is = rw valid is

-- and where page 1 names it validly, that one
pub count_named : (content : Content) (pages : List (List ℕ)) → Recovers content pages → is_size_valid (header_in pages) ≡ true → (header_in pages).pages ≡ length pages
count_named content pages recovers valid =
    sym (valid_count (header_in pages) (length (bytes_of content Database)) (header_in pages).pages valid refl) ∙ count_told content pages recovers

pub is_spare : (content : Content) (pages : List (List ℕ)) → Recovers content pages → (p : ℕ) (journalled : PageMap) → IsAdded pages journalled p → IsSpare content pages p
is_spare content pages recovers p journalled added = (added.above, ap is_size_valid (header_is content pages recovers) ∙ added.counted)

-- page 1 begins as the file does
pub front_of : (content : Content) (pages : List (List ℕ)) (bytes : List ℕ) → Recovers content pages → page_at pages 1 ≡ Some bytes → take 24 bytes ≡ take 24 (bytes_of content Database)
unfolding image_of
front_of content pages bytes recovers found =
    let file = bytes_of content Database in
    let read : IsReadable file = page_range content pages recovers in
    let at : IsAt pages 1 bytes = is_at pages 1 bytes found in
    let behind = drop 24 (saved_or (file_page content 1) (find (is_of 1) (all_hot content))) in
    let is : bytes ≡ take 24 file ++ behind = sym at.is ∙ sym (image_is content pages recovers 1 at.low at.high) in
    ap (take 24) is ∙ take_at (take 24 file) behind 24 (length-take 24 file ∙ omega (arith, read.long))

module _ (content : Content) (pages : List (List ℕ)) (journalled written : Works) (a : AtWork content pages journalled written) where
  pub are_saved : AreSaved content journalled
  are_saved = record { fits = page_fits content pages a.recovers; journals = a.journals; numbered = a.numbered; apart = a.apart }

  pub page_sized : (p : ℕ) (bytes : List ℕ) → page_at pages p ≡ Some bytes → length bytes ≡ file_page_size content
  page_sized p bytes found = a.sized p bytes found

  -- a page that was journalled is one of those that are recovered
  pub journalled_at : (id p : ℕ) → has_page journalled id p ≡ true → (bytes : List ℕ) × (journalled id p ≡ Some bytes) × IsAt pages p bytes
  journalled_at id p has = by_found (journalled id p) refl has
    where
      by_found : (found : Option (List ℕ)) → journalled id p ≡ found → is_some found ≡ true → (bytes : List ℕ) × (journalled id p ≡ Some bytes) × IsAt pages p bytes
      by_found None e lacks = absurd cc
      by_found (Some bytes) e is = (bytes, e, is_at pages p bytes (a.before id p bytes e))

  pub is_saved : (id p : ℕ) → has_page journalled id p ≡ true → IsSaved content pages p
  is_saved id p has = (own_held content journalled are_saved p id has, (journalled_at id p has).2.high)

  -- a page that is written has a number, and lies within the file
  pub written_low : (id p : ℕ) → has_page written id p ≡ true → 1 ≤ p
  written_low id p has = ⊎_elim
      (λ (own : has_page journalled id p ≡ true). (journalled_at id p own).2.low)
      (λ (added : IsAdded pages (journalled id) p). let high = added.above in omega arith)
      (a.placed id p has)

  pub written_ends : (id p : ℕ) (bytes : List ℕ) → written id p ≡ Some bytes → p * file_page_size content ≤ length (bytes_of content Database)
  written_ends id p bytes found =
      let own = a.in_file id p bytes found in
      ends_within content pages p a.recovers (written_low id p (ap is_some found)) (ap length own.0 ∙ own.1)

  pub kept_ends : (p : ℕ) (bytes : List ℕ) → page_at pages p ≡ Some bytes → ((id : ℕ) → has_page written id p ≡ false) → p * file_page_size content ≤ length (bytes_of content Database)
  kept_ends p bytes found lacks =
      ends_within content pages p a.recovers (is_at pages p bytes found).low (ap length (a.kept p bytes found lacks) ∙ page_sized p bytes found)

  -- two transactions never write one page
  pub one_writer : (p i j : ℕ) → has_page written i p ≡ true → has_page written j p ≡ true → i ≡ j
  one_writer p i j has_i has_j = ⊎_elim
      (λ (own : has_page journalled i p ≡ true).
      ⊎_elim
      (λ (also : has_page journalled j p ≡ true). a.apart p i j own also)
      (λ (added : IsAdded pages (journalled j) p). absurd (let high = added.above in let within = (journalled_at i p own).2.high in omega arith))
      (a.placed j p has_j))
      (λ (added : IsAdded pages (journalled i) p).
      ⊎_elim
      (λ (own : has_page journalled j p ≡ true). absurd (let high = added.above in let within = (journalled_at j p own).2.high in omega arith))
      (λ (also : IsAdded pages (journalled j) p). a.apart 1 i j added.first also.first)
      (a.placed j p has_j))
      (a.placed i p has_i)

  -- a page that none has journalled, none has written, where it is one of those that are recovered
  pub none_written : (p : ℕ) → p ≤ length pages → ((i : ℕ) → has_page journalled i p ≡ false) → (i : ℕ) → has_page written i p ≡ false
  none_written p within none i = by_test (has_page written i p) refl
    where
      by_test : (has : Bool) → has_page written i p ≡ has → has_page written i p ≡ false
      by_test false e = e
      by_test true e = ⊎_elim
          (λ (own : has_page journalled i p ≡ true). absurd (let both : true ≡ false = sym own ∙ none i in cc))
          (λ (added : IsAdded pages (journalled i) p). absurd (let high = added.above in omega arith))
          (a.placed i p e)
