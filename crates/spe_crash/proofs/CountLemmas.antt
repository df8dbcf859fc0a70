-- The number of pages, as the length of the file changes.
use Rattle.std.proofs.Common.{◌≡◌, ℕ, ◌*◌, ◌/◌, ◌<◌, ◌≤◌, max, min, List, [], ◌∷◌, length, take, drop, refl, arith, ◌∙◌, Bool, true, false, Option, Some, Ok, length-take}
use Rattle.std.specs.Prelude.{nat_lt, if◌then◌else◌}
use Rattle.std.specs.List.{find}
use Rattle.std.proofs.lemmas.Bool.Decides.{nat_tests}
use Rattle.std.proofs.lemmas.List.{take_at}
use Rattle.spe_model.specs.declared.file.FileNo.TheVariants.{Database}
use Rattle.spe_model.specs.declared.header.Header.{Header}
use Rattle.spe_model.specs.declared.header.HeaderFault.{HeaderFault}
use Rattle.spe_model.specs.declared.header.HeaderFault.TheVariants.{Short, NotADatabase, Wal, BadPageSize, AutoVacuum, Encoding, Reserved, SchemaFormat}
use Rattle.spe_model.specs.Content.{Content, bytes_of}
use Rattle.spe_model.specs.Header.{fields, has_fault, header_of, is_size_valid, page_count_of, page_size_at, unless}
use Rattle.spe_model.specs.Recovery.{all_hot, file_page, file_page_size, image_of, is_of, recovered_header, saved_or}
use Rattle.spe_crash.proofs.FrontLemmas.{IsReadable, readable, size_same}
use Rattle.spe_crash.proofs.PagesLemmas.{HasPages}
use Rattle.spe_crash.proofs.PlaceLemmas.{same_count, cut_count}

headed_long : (bytes : List ℕ) (h : Header) → header_of (take 100 bytes) ≡ Ok h → 100 ≤ length bytes
headed_long bytes h e =
    let enough : nat_lt (length (take 100 bytes)) 100 ≡ false =
    by_tests (has_fault first Short) (find (has_fault first) (NotADatabase ∷ Wal ∷ BadPageSize ∷ AutoVacuum ∷ Encoding ∷ Reserved ∷ SchemaFormat ∷ [])) (fields first) e in
    let size : length (take 100 bytes) ≡ min 100 (length bytes) = length-take 100 bytes in
    grind (arith, nat_tests)
  where
    first : List ℕ
    first = take 100 bytes

    by_tests : (short : Bool) (more : Option HeaderFault) (x : Header) → unless (if short then Some Short else more) x ≡ Ok h → short ≡ false
    by_tests true more x e = absurd cc
    by_tests false more x e = refl

image_front : (content : Content) → 24 ≤ length (bytes_of content Database) → take 24 (image_of content 1) ≡ take 24 (bytes_of content Database)
unfolding image_of
image_front content long =
    take_at (take 24 (bytes_of content Database)) (drop 24 (saved_or (file_page content 1) (find (is_of 1) (all_hot content)))) 24 (length-take 24 (bytes_of content Database) ∙ omega arith)

fields_size : (content : Content) → (recovered_header content).page_size ≡ page_size_at (take 100 (image_of content 1))
unfolding recovered_header
fields_size content = refl

-- the recovered page 1 has the file's page size
pub header_size : (content : Content) (pages : List (List ℕ)) → HasPages content pages → (recovered_header content).page_size ≡ file_page_size content
header_size content pages has =
    let file : IsReadable (bytes_of content Database) = readable content has.front in
    fields_size content
    ∙ size_same (bytes_of content Database) (image_of content 1) (record {
      front = image_front content (omega (arith, file.long));
      long_old = file.long;
      long_new = headed_long (image_of content 1) (recovered_header content) has.header;
    })

by_valid : (valid : Bool) (named a b : ℕ) → (valid ≡ false → a ≡ b) → (if valid then named else a) ≡ (if valid then named else b)
by_valid true named a b same = refl
by_valid false named a b same = same refl

by_count : (valid : Bool) (named a : ℕ) → valid ≡ false → (if valid then named else a) ≡ a
by_count true named a e = absurd cc
by_count false named a e = refl

-- the file grows within a page up to the count, or any way where the size in pages counts
pub count_grown : (h : Header) (page_size size new p : ℕ) → h.page_size ≡ page_size → 0 < page_size → size ≤ new → new ≤ max size (p * page_size)
    → (is_size_valid h ≡ false → p ≤ page_count_of h size) → page_count_of h new ≡ page_count_of h size
count_grown h page_size size new p sized some grows within counted =
    by_valid (is_size_valid h) h.pages (max 1 (new / h.page_size)) (max 1 (size / h.page_size))
    (λ invalid.
    let low : p ≤ max 1 (size / h.page_size) = rw (by_count (is_size_valid h) h.pages (max 1 (size / h.page_size)) invalid) at (counted invalid) in
    rw sized (same_count page_size size new p some grows within (rw sized at low)))

pub count_cut : (h : Header) (page_size size pages : ℕ) → h.page_size ≡ page_size → 0 < page_size → pages ≡ page_count_of h size
    → page_count_of h (min (pages * page_size) size) ≡ page_count_of h size
count_cut h page_size size pages sized some counted =
    by_valid (is_size_valid h) h.pages (max 1 (min (pages * page_size) size / h.page_size)) (max 1 (size / h.page_size))
    (λ invalid.
    let is : pages ≡ max 1 (size / h.page_size) = counted ∙ by_count (is_size_valid h) h.pages (max 1 (size / h.page_size)) invalid in
    rw sized (cut_count page_size size pages some (rw sized at is)))
