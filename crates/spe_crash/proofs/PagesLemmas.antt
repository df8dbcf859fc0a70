-- What it means that a content has recovered pages, part by part.
use Rattle.std.proofs.Common.{◌≡◌, ℕ, ◌*◌, ◌^◌, ◌≤◌, max, ◌/◌, arith, zero, suc, List, length, map, take, refl, sym, ap, ◌∙◌, Bool, true, false, Option, Some, None, Ok, Err}
use Rattle.std.specs.Prelude.{nat_lt, not, ◌==◌, ◌&&◌, if◌then◌else◌}
use Rattle.std.specs.List.{find, list_all}
use Rattle.spe_model.specs.declared.file.FileNo.TheVariants.{Database}
use Rattle.spe_model.specs.declared.header.Header.{Header}
use Rattle.spe_model.specs.declared.header.HeaderFault.{HeaderFault}
use Rattle.spe_model.specs.declared.recovery.RecoverFault.{RecoverFault}
use Rattle.spe_model.specs.declared.recovery.RecoverFault.TheVariants as refusals
use Rattle.spe_model.specs.Content.{Content, bytes_of}
use Rattle.spe_model.specs.Covered.{Recovers}
use Rattle.spe_model.specs.Header.{has_fault, header_of, fields, faults, page_count_of, unless}
use Rattle.spe_model.specs.Recovery.{file_page_size, front_fault, image_of, is_there, other_size, pages_to, recovered, recovered_front, recovered_sized, recovered_hot, recovered_with, recovered_to, recovered_header, shared_page}
use Rattle.spe_crash.proofs.NumbersLemmas.{pages_to-length}

pub record HasPages (content : Content) (pages : List (List ℕ)) : Type 0 where
  pub front : front_fault content ≡ None
  pub sized : other_size content ≡ None
  pub apart : shared_page content ≡ None
  pub header : header_of (take 100 (image_of content 1)) ≡ Ok (recovered_header content)
  pub count : length pages ≡ page_count_of (recovered_header content) (length (bytes_of content Database))
  pub small : nat_lt (2 ^ 30) (length pages * file_page_size content) ≡ false
  pub there : list_all (is_there content) (pages_to (length pages)) ≡ true
  pub images : pages ≡ map (image_of content) (pages_to (length pages))

past_front : (content : Content) (pages : List (List ℕ)) (found : Option HeaderFault) → recovered_front content found ≡ Ok pages
    → (found ≡ None) × (recovered_sized content (other_size content) ≡ Ok pages)
past_front content pages None e = (refl, e)
past_front content pages (Some fault) e = absurd cc

past_sized : (content : Content) (pages : List (List ℕ)) (found : Option ℕ) → recovered_sized content found ≡ Ok pages
    → (found ≡ None) × (recovered_hot content (shared_page content) ≡ Ok pages)
past_sized content pages None e = (refl, e)
past_sized content pages (Some id) e = absurd cc

past_hot : (content : Content) (pages : List (List ℕ)) (found : Option ℕ) → recovered_hot content found ≡ Ok pages
    → (found ≡ None) × (recovered_with content (header_of (take 100 (image_of content 1))) ≡ Ok pages)
past_hot content pages None e = (refl, e)
past_hot content pages (Some page) e = absurd cc

past_header : (content : Content) (pages : List (List ℕ)) (found : Option HeaderFault) (h : Header) → recovered_with content (unless found h) ≡ Ok pages
    → (unless found h ≡ Ok h) × (recovered_to content (page_count_of h (length (bytes_of content Database))) ≡ Ok pages)
past_header content pages None h e = (refl, e)
past_header content pages (Some fault) h e = absurd cc

by_tests : (large whole : Bool) (images pages : List (List ℕ)) (a b : RecoverFault) → (if large then Err a else (if whole then Ok images else Err b)) ≡ Ok pages
    → (large ≡ false) × (whole ≡ true) × (images ≡ pages)
by_tests true whole images pages a b e = absurd cc
by_tests false false images pages a b e = absurd cc
by_tests false true images pages a b e = (refl, refl, cc)

past_count : (content : Content) (pages : List (List ℕ)) (count : ℕ) → recovered_to content count ≡ Ok pages
    → (nat_lt (2 ^ 30) (count * file_page_size content) ≡ false) × (list_all (is_there content) (pages_to count) ≡ true) × (map (image_of content) (pages_to count) ≡ pages)
past_count content pages count e =
    by_tests (nat_lt (2 ^ 30) (count * file_page_size content)) (list_all (is_there content) (pages_to count)) (map (image_of content) (pages_to count)) pages
    (refusals.TooLarge count) (refusals.ShortFile count (length (bytes_of content Database))) e

pub opened : (content : Content) (pages : List (List ℕ)) → Recovers content pages → HasPages content pages
unfolding recovered recovered_header
opened content pages e =
    let size = length (bytes_of content Database) in
    let first = take 100 (image_of content 1) in
    let front = past_front content pages (front_fault content) e in
    let sized = past_sized content pages (other_size content) front.1 in
    let hot = past_hot content pages (shared_page content) sized.1 in
    let header = past_header content pages (find (has_fault first) faults) (fields first) hot.1 in
    let named = page_count_of (fields first) size in
    let counted = past_count content pages named header.1 in
    let count : length pages ≡ named = ap length (sym counted.2) ∙ pages_to-length (image_of content) named in
    record {
      front = front.0;
      sized = sized.0;
      apart = hot.0;
      header = header.0;
      count = count;
      small = rw count counted.0;
      there = rw count counted.1;
      images = rw count (sym counted.2);
    }

pub closed : (content : Content) (pages : List (List ℕ)) → HasPages content pages → Recovers content pages
unfolding recovered
closed content pages has =
    ap (recovered_front content) has.front
    ∙ ap (recovered_sized content) has.sized
    ∙ ap (recovered_hot content) has.apart
    ∙ ap (recovered_with content) has.header
    ∙ ap (recovered_to content) (sym has.count)
    ∙ rw (has.small, has.there) (ap (λ (images : List (List ℕ)). Ok images) (sym has.images))

counts_one : (h : Header) (size : ℕ) → 1 ≤ page_count_of h size
counts_one h size = by_valid h.pages (h.change == h.valid_for)
  where
    by_valid : (pages : ℕ) (same : Bool) → 1 ≤ (if not (pages == 0) && same then pages else max 1 (size / h.page_size))
    by_valid zero same = grind arith
    by_valid (suc n) true = grind arith
    by_valid (suc n) false = grind arith

pub some_pages : (content : Content) (pages : List (List ℕ)) → HasPages content pages → 1 ≤ length pages
some_pages content pages has = rw has.count (counts_one (recovered_header content) (length (bytes_of content Database)))
