-- The database changes, and the journals stay.
use Rattle.std.proofs.Common.{◌≡◌, ℕ, ◌-◌, ◌*◌, ◌≤◌, List, length, take, drop, refl, ap, ◌∙◌, Bool, true, false, ⊎_elim}
use Rattle.std.specs.Prelude.{◌||◌, is_some, nat_le}
use Rattle.std.specs.List.{find}
use Rattle.std.proofs.lemmas.Bool.{cases_Bool, or_left, leb-true, le-leb}
use Rattle.spe_model.specs.declared.file.FileNo.TheVariants.{Database}
use Rattle.spe_model.specs.Content.{Content, bytes_of}
use Rattle.spe_model.specs.Covered.{is_held}
use Rattle.spe_model.specs.Header.{page_count_of}
use Rattle.spe_model.specs.Journal.{Saved}
use Rattle.spe_model.specs.Recovery.{file_page_size, is_of, is_there, journal_of, recovered_header}
use Rattle.spe_crash.proofs.FrontLemmas.{HaveOneFront, size_same}
use Rattle.spe_crash.proofs.KeepLemmas.{HasJournalsOf, Keeps, all_same, image_same, other_same, shared_same}
use Rattle.spe_crash.proofs.NumbersLemmas.{page_passes}
use Rattle.spe_crash.proofs.PagesLemmas.{HasPages}

-- a page is whole in the file, as it was in another
pub record IsKept (page_size : ℕ) (old now : List ℕ) (p : ℕ) : Type 0 where
  pub whole : p * page_size ≤ length now
  pub same : take page_size (drop ((p - 1) * page_size) now) ≡ take page_size (drop ((p - 1) * page_size) old)

pub record KeepsDatabase (old now : Content) (pages : ℕ) : Type 0 where
  pub journals : (id : ℕ) → journal_of now id ≡ journal_of old id
  pub front : HaveOneFront (bytes_of old Database) (bytes_of now Database)
  pub count : page_count_of (recovered_header old) (length (bytes_of now Database)) ≡ page_count_of (recovered_header old) (length (bytes_of old Database))
  pub kept : (p : ℕ) → 1 ≤ p → p ≤ pages → is_held old p ≡ false → IsKept (file_page_size old) (bytes_of old Database) (bytes_of now Database) p

pub journals_kept : (old now : Content) (pages : ℕ) → KeepsDatabase old now pages → HasJournalsOf old now
journals_kept old now pages k = record { size = size_same (bytes_of old Database) (bytes_of now Database) k.front; journals = k.journals }

-- a page that no journal holds is whole in the file
pub whole_page : (content : Content) (pages : List (List ℕ)) → HasPages content pages → (p : ℕ) → 1 ≤ p → p ≤ length pages → is_held content p ≡ false
    → p * file_page_size content ≤ length (bytes_of content Database)
whole_page content pages has p low high lacks =
    leb-true (p * file_page_size content) (length (bytes_of content Database))
    (second (is_held content p) (nat_le (p * file_page_size content) (length (bytes_of content Database))) lacks (page_passes (is_there content) (length pages) p has.there low high))
  where
    second : (a b : Bool) → a ≡ false → (a || b) ≡ true → b ≡ true
    second true b no_a e = absurd cc
    second false b no_a e = e

there_still : (old now : Content) (pages p : ℕ) → KeepsDatabase old now pages → 1 ≤ p → p ≤ pages → is_there now p ≡ true
there_still old now pages p k low high =
    let j : HasJournalsOf old now = journals_kept old now pages k in
    let held : is_held now p ≡ is_held old p = ap (λ (saved : List Saved). is_some (find (is_of p) saved)) (all_same old now j) in
    let end = nat_le (p * file_page_size now) (length (bytes_of now Database)) in
    ⊎_elim
    (λ (has : is_held old p ≡ true). or_left (is_held now p) end (held ∙ has))
    (λ (lacks : is_held old p ≡ false).
    let whole : nat_le (p * file_page_size now) (length (bytes_of now Database)) ≡ true =
    rw j.size (le-leb (p * file_page_size old) (length (bytes_of now Database)) (k.kept p low high lacks).whole) in
    second (is_held now p) end whole)
    (cases_Bool (is_held old p))
  where
    second : (a b : Bool) → b ≡ true → (a || b) ≡ true
    second true b e = refl
    second false b e = e

pub database_keeps : (old now : Content) (pages : List (List ℕ)) → KeepsDatabase old now (length pages) → HasPages old pages → Keeps old now (length pages)
database_keeps old now pages k has =
    let j : HasJournalsOf old now = journals_kept old now (length pages) k in
    record {
      front = k.front;
      sized = other_same old now j ∙ has.sized;
      apart = shared_same old now j ∙ has.apart;
      count = k.count;
      images = λ p low high.
          image_same old now p k.front.front (ap (λ (saved : List Saved). find (is_of p) saved) (all_same old now j))
          (λ lacks. ap (λ (n : ℕ). take n (drop ((p - 1) * n) (bytes_of now Database))) j.size ∙ (k.kept p low high lacks).same);
      there = λ p low high. there_still old now (length pages) p k low high;
    }
