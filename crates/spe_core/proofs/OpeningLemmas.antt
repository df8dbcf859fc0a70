-- With which bytes a core can begin.
use Rattle.std.proofs.Common.{◌≡◌, ℕ, ◌-◌, ◌*◌, ◌^◌, ◌≤◌, List, ◌++◌, length, take, drop, map, refl, sym, ap, ◌∙◌, arith, Bool, true, false, Option, Some, None, Ok, Err, cond}
use Rattle.std.specs.Prelude.{◌&&◌, ◌↔◌, nat_le, nat_lt, IsTrue}
use Rattle.std.specs.List.{find}
use Rattle.std.proofs.lemmas.Bool.{and_parts, le-leb, leb-true, or_right}
use Rattle.std.proofs.lemmas.Bool.Decides.{nat_tests}
use Rattle.std.proofs.Math.Nat.{mul-le-mul_left}
use Rattle.std.proofs.lemmas.List.{take-append-drop, take-take}
use Rattle.std.proofs.lemmas.Nat.{pow_pos}
use Rattle.spe_model.specs.declared.header.Header.{Header}
use Rattle.spe_model.specs.declared.header.HeaderFault.{HeaderFault}
use Rattle.spe_model.specs.declared.header.HeaderFault.TheVariants.{Short, NotADatabase, Wal, BadPageSize}
use Rattle.spe_model.specs.Covered.{Recovers, is_held}
use Rattle.spe_model.specs.Header.{faults, fields, has_fault, header_of, is_size_valid, page_count_of, unless}
use Rattle.spe_model.specs.Journal.{has_head, hot_records, is_hot}
use Rattle.spe_model.specs.Recovery.{file_page, file_page_size, front_fault, image_of, is_there, other_size, pages_to, recovered_header, shared_page}
use Rattle.spe_crash.proofs.DatabaseLemmas.{whole_page}
use Rattle.spe_crash.proofs.FrontLemmas.{readable}
use Rattle.spe_crash.proofs.NumbersLemmas.{pages_pass, pages_to-length}
use Rattle.spe_crash.proofs.PagesLemmas.{HasPages, closed, opened as parts_of, some_pages}
use Rattle.spe_core.specs.Laid.{pages_of}
use Rattle.spe_stored.specs.Stored.{alone}
use Rattle.spe_core.specs.Opening.{AreSlots, IsOpening}
use Rattle.spe_core.specs.Whole.{is_whole}
use Rattle.spe_core.proofs.SoundLaid.{header_fields}

-- no journal is there
no_other : (bytes : List ℕ) → other_size (alone bytes) ≡ None
unfolding has_head
no_other bytes = refl

no_shared : (bytes : List ℕ) → shared_page (alone bytes) ≡ None
unfolding has_head is_hot hot_records
no_shared bytes = refl

no_held : (bytes : List ℕ) (p : ℕ) → is_held (alone bytes) p ≡ false
unfolding has_head is_hot hot_records
no_held bytes p = refl

first_image : (bytes : List ℕ) → image_of (alone bytes) 1 ≡ take 24 bytes ++ drop 24 (file_page (alone bytes) 1)
unfolding has_head is_hot hot_records image_of
first_image bytes = refl

-- the recovered page 1 begins as the file does
front_is : (bytes : List ℕ) → 100 ≤ file_page_size (alone bytes) → take 100 (image_of (alone bytes) 1) ≡ take 100 bytes
front_is bytes large =
    let size = file_page_size (alone bytes) in
    let start : (1 - 1) * size ≡ 0 = omega arith in
    let page : file_page (alone bytes) 1 ≡ take size bytes = ap (λ (n : ℕ). take size (drop n bytes)) start in
    let front : take 24 bytes ≡ take 24 (take size bytes) = sym (take-take 24 size bytes (omega arith)) in
    let whole : image_of (alone bytes) 1 ≡ take size bytes =
    first_image bytes ∙ ap (λ (l : List ℕ). take 24 bytes ++ drop 24 l) page ∙ ap (λ (l : List ℕ). l ++ drop 24 (take size bytes)) front ∙ take-append-drop 24 (take size bytes) in
    ap (take 100) whole ∙ take-take 100 size bytes large

-- a header that is legal has none of the first faults
none_first : (b : Bool) (fault : HeaderFault) (rest : Option HeaderFault) → cond b (Some fault) rest ≡ None → (b ≡ false) × (rest ≡ None)
none_first true fault rest e = absurd cc
none_first false fault rest e = (refl, e)

by_found : (found : Option HeaderFault) (x h : Header) → unless found x ≡ Ok h → found ≡ None
by_found None x h e = refl
by_found (Some fault) x h e = absurd cc

no_fault : (bytes : List ℕ) (h : Header) → header_of (take 100 bytes) ≡ Ok h → front_fault (alone bytes) ≡ None
no_fault bytes h e =
    let front = take 100 bytes in
    let all : find (has_fault front) faults ≡ None = by_found (find (has_fault front) faults) (fields front) h e in
    let one = none_first (has_fault front Short) Short _ all in
    let two = none_first (has_fault front NotADatabase) NotADatabase _ one.1 in
    let three = none_first (has_fault front Wal) Wal _ two.1 in
    let four = none_first (has_fault front BadPageSize) BadPageSize _ three.1 in
    rw (one.0, two.0, three.0, four.0) refl

counted : (h : Header) (size : ℕ) → is_size_valid h ≡ true → page_count_of h size ≡ h.pages
counted h size valid = rw valid refl

not_large : (n : ℕ) → n ≤ 2 ^ 30 → nat_lt (2 ^ 30) n ≡ false
not_large n small = grind (arith, nat_tests)

not_small : (n : ℕ) → nat_lt (2 ^ 30) n ≡ false → n ≤ 2 ^ 30
not_small n e = grind (arith, nat_tests)

within : (p n size long : ℕ) → p ≤ n → n * size ≤ long → p * size ≤ long
within p n size long low fits = omega (arith, mul-le-mul_left size low)

pub opening_of : (bytes : List ℕ) (h : Header) → header_of (take 100 bytes) ≡ Ok h → is_size_valid h ≡ true → h.pages * h.page_size ≤ 2 ^ 30 → h.pages * h.page_size ≤ length bytes → IsOpening bytes
unfolding pages_of recovered_header
opening_of bytes h legal valid small fits =
    let content = alone bytes in
    let size = file_page_size content in
    let none = no_fault bytes h legal in
    let range = readable content none in
    let front = front_is bytes (omega (arith, range.low)) in
    let is : fields (take 100 bytes) ≡ h = header_fields (take 100 bytes) h legal in
    let named : recovered_header content ≡ h = ap fields front ∙ is in
    let sized : size ≡ h.page_size = ap (λ (x : Header). x.page_size) is in
    let pages : List (List ℕ) = map (image_of content) (pages_to h.pages) in
    let count : length pages ≡ h.pages = pages_to-length (image_of content) h.pages in
    let has : HasPages content pages = record {
      front = none;
      sized = no_other bytes;
      apart = no_shared bytes;
      header = ap header_of front ∙ legal ∙ ap (λ (x : Header). Ok x) (sym named);
      count = count ∙ sym (counted (recovered_header content) (length bytes) (ap is_size_valid named ∙ valid) ∙ ap (λ (x : Header). x.pages) named);
      small = rw (count, sized) (not_large (h.pages * h.page_size) small);
      there = rw count (pages_pass (is_there content) h.pages (λ p low high. or_right (is_held content p) (nat_le (p * size) (length bytes)) (le-leb (p * size) (length bytes) (rw sized (within p h.pages h.page_size (length bytes) high fits)))));
      images = rw count refl;
    } in
    let recovers : Recovers content pages = closed content pages has in
    record { recovers = rw recovers refl; counts = ap is_size_valid named ∙ valid }

-- what such bytes are
pub record IsFile (bytes : List ℕ) (h : Header) : Type 0 where
  pub legal : header_of (take 100 bytes) ≡ Ok h
  pub valid : is_size_valid h ≡ true
  pub small : h.pages * h.page_size ≤ 2 ^ 30
  pub fits : h.pages * h.page_size ≤ length bytes
  pub count : h.pages ≡ length (pages_of (alone bytes))

pub file_of : (bytes : List ℕ) → IsOpening bytes → IsFile bytes (fields (take 100 bytes))
unfolding recovered_header
file_of bytes o =
    let content = alone bytes in
    let pages = pages_of content in
    let has = parts_of content pages o.recovers in
    let range = readable content has.front in
    let front = front_is bytes (omega (arith, range.low)) in
    let h : Header = fields (take 100 bytes) in
    let named : recovered_header content ≡ h = ap fields front in
    let valid : is_size_valid h ≡ true = ap is_size_valid (sym named) ∙ o.counts in
    let count : length pages ≡ h.pages = has.count ∙ ap (λ (x : Header). page_count_of x (length bytes)) named ∙ counted h (length bytes) valid in
    record {
      legal = ap header_of (sym front) ∙ has.header ∙ ap (λ (x : Header). Ok x) named;
      valid = valid;
      small = not_small (h.pages * h.page_size) (rw count at has.small);
      fits = rw count at (whole_page content pages has (length pages) (some_pages content pages has) (omega arith) (no_held bytes (length pages)));
      count = sym count;
    }

-- there is a lock
pub some_slots : (slots : ℕ) → AreSlots slots → 1 ≤ slots
some_slots slots a = rw a.power (pow_pos a.exponent)

-- whether they are, by their header
pub whole_opens : (bytes front : List ℕ) (h : Header) (result : Bool) → front ≡ take 100 bytes → Ok h ≡ header_of front → result ≡ is_whole h (length bytes) → IsTrue result ↔ IsOpening bytes
whole_opens bytes front h result f legal is =
    let head : header_of (take 100 bytes) ≡ Ok h = ap header_of (sym f) ∙ sym legal in
    let size = h.pages * h.page_size in
    let small = nat_le size (2 ^ 30) in
    let fits = nat_le size (length bytes) in (
      λ yes.
          let one = and_parts (is_size_valid h && small) fits (sym is ∙ yes) in
          let two = and_parts (is_size_valid h) small one.0 in
          opening_of bytes h head two.0 (leb-true size (2 ^ 30) two.1) (leb-true size (length bytes) one.1),
      λ o.
          let file = file_of bytes o in
          let both : Ok (fields (take 100 bytes)) ≡ Ok h = sym file.legal ∙ head in
          let same : fields (take 100 bytes) ≡ h = cc in
          is ∙ rw (← same) (rw (file.valid, le-leb _ _ file.small, le-leb _ _ file.fits) refl),
    )

pub fault_opens : (bytes front : List ℕ) (fault : HeaderFault) → front ≡ take 100 bytes → Err fault ≡ header_of front → IsTrue false ↔ IsOpening bytes
fault_opens bytes front fault f faulty =
    (λ yes. absurd cc, λ o. let both : Ok (fields (take 100 bytes)) ≡ Err fault = sym (file_of bytes o).legal ∙ ap header_of (sym f) ∙ sym faulty in absurd cc)
