-- What has to stay so that the recovered pages do.
use Rattle.std.proofs.Common.{◌≡◌, ℕ, ◌≤◌, List, ◌++◌, length, take, drop, refl, arith, sym, ap, ◌∙◌, true, false, Option, Some, None}
use Rattle.std.specs.Prelude.{not, ◌&&◌, ◌==◌, is_some, if◌then◌else◌}
use Rattle.std.specs.List.{find, flat_map}
use Rattle.std.proofs.Math.Path.{fun_ext}
use Rattle.spe_model.specs.declared.file.FileNo.TheVariants.{Database}
use Rattle.spe_model.specs.declared.header.Header.{Header}
use Rattle.spe_model.specs.Content.{Content, bytes_of}
use Rattle.spe_model.specs.Covered.{Recovers, is_held}
use Rattle.spe_model.specs.Header.{fields, page_count_of}
use Rattle.spe_model.specs.Journal.{Saved, has_head, head_page_size, hot_records}
use Rattle.spe_model.specs.Recovery.{all_hot, file_page, file_page_size, ids, image_of, is_of, is_there, journal_of, other_size, recovered_header, saved_or, shared_page, with_front}
use Rattle.spe_crash.proofs.FrontLemmas.{HaveOneFront, fault_same, readable, size_same}
use Rattle.spe_crash.proofs.HotLemmas.{shared_in}
use Rattle.spe_crash.proofs.PagesLemmas.{HasPages, opened, closed, some_pages}
use Rattle.spe_crash.proofs.NumbersLemmas.{pages_same, pages_pass, page_passes}

-- one content as far as its recovered pages go, and another that has the same
pub record Keeps (old now : Content) (pages : ℕ) : Type 0 where
  pub front : HaveOneFront (bytes_of old Database) (bytes_of now Database)
  pub sized : other_size now ≡ None
  pub apart : shared_page now ≡ None
  pub count : page_count_of (recovered_header old) (length (bytes_of now Database)) ≡ page_count_of (recovered_header old) (length (bytes_of old Database))
  pub images : (p : ℕ) → 1 ≤ p → p ≤ pages → image_of now p ≡ image_of old p
  pub there : (p : ℕ) → 1 ≤ p → p ≤ pages → is_there now p ≡ true

pub header_same : (old now : Content) → image_of now 1 ≡ image_of old 1 → recovered_header now ≡ recovered_header old
unfolding recovered_header
header_same old now first = ap (λ (page : List ℕ). fields (take 100 page)) first

pub keeps : (old now : Content) (pages : List (List ℕ)) → Keeps old now (length pages) → Recovers old pages → Recovers now pages
keeps old now pages k recovers =
    let has = opened old pages recovers in
    let first : image_of now 1 ≡ image_of old 1 = k.images 1 (omega arith) (some_pages old pages has) in
    let header : recovered_header now ≡ recovered_header old = header_same old now first in
    closed now pages (record {
      front = fault_same (bytes_of old Database) (bytes_of now Database) k.front ∙ has.front;
      sized = k.sized;
      apart = k.apart;
      header = rw (first, header) has.header;
      count = has.count ∙ sym k.count ∙ ap (λ (h : Header). page_count_of h (length (bytes_of now Database))) (sym header);
      small = rw (size_same (bytes_of old Database) (bytes_of now Database) k.front) has.small;
      there = pages_pass (is_there now) (length pages) k.there;
      images = has.images ∙ sym (pages_same (image_of now) (image_of old) (length pages) k.images);
    })

pub front-refl : (bytes : List ℕ) → 100 ≤ length bytes → HaveOneFront bytes bytes
front-refl bytes long = record { front = refl; long_old = long; long_new = long }

pub front-trans : (a b c : List ℕ) → HaveOneFront a b → HaveOneFront b c → HaveOneFront a c
front-trans a b c x y = record { front = y.front ∙ x.front; long_old = x.long_old; long_new = y.long_new }

pub Keeps-refl : (content : Content) (pages : List (List ℕ)) → HasPages content pages → Keeps content content (length pages)
Keeps-refl content pages has = record {
  front = front-refl (bytes_of content Database) (readable content has.front).long;
  sized = has.sized;
  apart = has.apart;
  count = refl;
  images = λ p low high. refl;
  there = λ p low high. page_passes (is_there content) (length pages) p has.there low high;
}

pub Keeps-trans : (a b c : Content) (pages : ℕ) → 1 ≤ pages → Keeps a b pages → Keeps b c pages → Keeps a c pages
Keeps-trans a b c pages some x y =
    let header : recovered_header b ≡ recovered_header a = header_same a b (x.images 1 (omega arith) some) in
    record {
      front = front-trans (bytes_of a Database) (bytes_of b Database) (bytes_of c Database) x.front y.front;
      sized = y.sized;
      apart = y.apart;
      count = rw (← header) y.count ∙ x.count;
      images = λ p low high. y.images p low high ∙ x.images p low high;
      there = y.there;
    }

-- what the journals have together, by the page size and each journal
abbrev all_under : ℕ → (ℕ → List ℕ) → List Saved
all_under page_size journals = flat_map (λ id. hot_records page_size (journals id)) ids

abbrev other_under : ℕ → (ℕ → List ℕ) → Option ℕ
other_under page_size journals = find (λ id. has_head (journals id) && not (head_page_size (journals id) == page_size)) ids

abbrev shared_under : ℕ → (ℕ → List ℕ) → Option ℕ
shared_under page_size journals = shared_in (λ id. hot_records page_size (journals id)) 0 16

-- the page size and the journals are as before
pub record HasJournalsOf (old now : Content) : Type 0 where
  pub size : file_page_size now ≡ file_page_size old
  pub journals : (id : ℕ) → journal_of now id ≡ journal_of old id

both_same : {X : Type 0} (F : ℕ → (ℕ → List ℕ) → X) (old now : Content) → HasJournalsOf old now → F (file_page_size now) (journal_of now) ≡ F (file_page_size old) (journal_of old)
both_same F old now h = ap (λ (n : ℕ). F n (journal_of now)) h.size ∙ ap (F (file_page_size old)) (fun_ext h.journals)

pub all_same : (old now : Content) → HasJournalsOf old now → all_hot now ≡ all_hot old
all_same old now h = both_same all_under old now h

pub other_same : (old now : Content) → HasJournalsOf old now → other_size now ≡ other_size old
other_same old now h = both_same other_under old now h

pub shared_same : (old now : Content) → HasJournalsOf old now → shared_page now ≡ shared_page old
shared_same old now h = both_same shared_under old now h

-- a page has the same first record, or none where the file's page is the same
pub image_same : (old now : Content) (p : ℕ) → take 24 (bytes_of now Database) ≡ take 24 (bytes_of old Database) → find (is_of p) (all_hot now) ≡ find (is_of p) (all_hot old)
    → (is_held old p ≡ false → file_page now p ≡ file_page old p) → image_of now p ≡ image_of old p
unfolding image_of
image_same old now p front found page =
    ap (λ (f : Option Saved). with_front now p (saved_or (file_page now p) f)) found
    ∙ ap (with_front now p) (by_found (find (is_of p) (all_hot old)) page)
    ∙ ap (λ (start : List ℕ). if p == 1 then start ++ drop 24 (saved_or (file_page old p) (find (is_of p) (all_hot old))) else saved_or (file_page old p) (find (is_of p) (all_hot old))) front
  where
    by_found : (f : Option Saved) → (is_some f ≡ false → file_page now p ≡ file_page old p) → saved_or (file_page now p) f ≡ saved_or (file_page old p) f
    by_found None same = same refl
    by_found (Some s) same = refl
