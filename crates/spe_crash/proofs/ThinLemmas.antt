-- Some journals are cut to nothing, and the database stays.
use Rattle.std.proofs.Common.{◌≡◌, ◌≢◌, ℕ, zero, suc, ◌+◌, ◌-◌, ◌*◌, ◌≤◌, List, [], ◌++◌, length, take, drop, refl, arith, sym, ap, ◌∙◌, Bool, true, false, Option, Some, None, ⊎_elim, inl, inr, length-take}
use Rattle.std.specs.Prelude.{◌⊎◌, ◌||◌, ◌==◌, is_some, nat_le, if◌then◌else◌}
use Rattle.std.specs.List.{find}
use Rattle.std.proofs.lemmas.Bool.{cases_Bool, cases_eq, le-leb, ne_eqb}
use Rattle.std.proofs.lemmas.List.{drop_at, take-take, take-append-drop}
use Rattle.spe_model.specs.declared.file.FileNo.TheVariants.{Database}
use Rattle.spe_model.specs.Content.{Content, bytes_of}
use Rattle.spe_model.specs.Covered.{is_held}
use Rattle.spe_model.specs.Header.{page_count_of, page_size_at}
use Rattle.spe_model.specs.Journal.{Saved, has_head, hot_records, is_hot, numbers_from}
use Rattle.spe_model.specs.Recovery.{all_hot, file_page, file_page_size, has_other_size, hot_of, image_of, is_of, journal_of, recovered_header, saved_or, with_front}
use Rattle.spe_crash.proofs.FrontLemmas.{IsReadable, readable}
use Rattle.spe_crash.proofs.HotLemmas.{AreApart, apart_from, apart_thin, find_thin, shared_none}
use Rattle.spe_crash.proofs.KeepLemmas.{Keeps, front-refl, image_same}
use Rattle.spe_crash.proofs.PagesLemmas.{HasPages}
use Rattle.spe_crash.proofs.DatabaseLemmas.{whole_page}

-- a page is in the file what it is once it is recovered
pub record IsInPlace (content : Content) (p : ℕ) : Type 0 where
  pub whole : p * file_page_size content ≤ length (bytes_of content Database)
  pub same : file_page content p ≡ image_of content p

-- each journal is as it was, or has no bytes
abbrev pub IsThinned : (old now : Content) → Type 0
IsThinned old now = (id : ℕ) → (journal_of now id ≡ journal_of old id) ⊎ (journal_of now id ≡ [])

pub hot_of_none : (page_size : ℕ) → hot_records page_size [] ≡ []
unfolding hot_records is_hot has_head
hot_of_none page_size = refl

no_head : has_head [] ≡ false
unfolding has_head
no_head = refl

thinned_hot : (old now : Content) → file_page_size now ≡ file_page_size old → IsThinned old now → (id : ℕ) → (hot_of now id ≡ hot_of old id) ⊎ (hot_of now id ≡ [])
thinned_hot old now size thin id = ⊎_elim
    (λ (stays : journal_of now id ≡ journal_of old id). inl (rw (size, stays) refl))
    (λ (gone : journal_of now id ≡ []). inr (rw gone (hot_of_none (file_page_size now))))
    (thin id)

find_other : (test other : ℕ → Bool) (n count : ℕ) → ((i : ℕ) → (other i ≡ test i) ⊎ (other i ≡ false)) → find test (numbers_from n count) ≡ None → find other (numbers_from n count) ≡ None
find_other test other n zero thin none = refl
find_other test other n (suc count) thin none = ⊎_elim
    (λ (hit : test n ≡ true). absurd (let found = rw hit at none in cc))
    (λ (missed : test n ≡ false).
    let also : other n ≡ false = ⊎_elim (λ (stays : other n ≡ test n). stays ∙ missed) (λ (gone : other n ≡ false). gone) (thin n) in
    rw also (find_other test other (n + 1) count thin (rw missed at none)))
    (cases_Bool (test n))

thinned_other : (old now : Content) → file_page_size now ≡ file_page_size old → IsThinned old now → (id : ℕ) → (has_other_size now id ≡ has_other_size old id) ⊎ (has_other_size now id ≡ false)
thinned_other old now size thin id = ⊎_elim
    (λ (stays : journal_of now id ≡ journal_of old id). inl (rw (size, stays) refl))
    (λ (gone : journal_of now id ≡ []). inr (rw (gone, no_head) refl))
    (thin id)

-- the first 24 bytes of page 1 are the file's own
own_front : (bytes : List ℕ) (size p : ℕ) → 512 ≤ size
    → (if p == 1 then take 24 bytes ++ drop 24 (take size (drop ((p - 1) * size) bytes)) else take size (drop ((p - 1) * size) bytes)) ≡ take size (drop ((p - 1) * size) bytes)
own_front bytes size p low = ⊎_elim
    (λ (first : p ≡ 1).
    let start : (1 - 1) * size ≡ 0 = omega arith in
    rw (first, start) (ap (λ (front : List ℕ). front ++ drop 24 (take size bytes)) (sym (take-take 24 size bytes (omega arith))) ∙ take-append-drop 24 (take size bytes)))
    (λ (other : p ≢ 1). let no_first : (p == 1) ≡ false = ne_eqb p 1 other in rw no_first refl)
    (cases_eq p 1)

pub with_own_front : (content : Content) (p : ℕ) → 512 ≤ file_page_size content → with_front content p (file_page content p) ≡ file_page content p
with_own_front content p low = own_front (bytes_of content Database) (file_page_size content) p low

front_again : (a b page : List ℕ) (first : Bool) → a ≡ b → length b ≡ 24
    → (if first then a ++ drop 24 (if first then b ++ drop 24 page else page) else (if first then b ++ drop 24 page else page)) ≡ (if first then b ++ drop 24 page else page)
front_again a b page true same long = rw same (ap (λ (rest : List ℕ). b ++ rest) (drop_at b (drop 24 page) 24 long))
front_again a b page false same long = refl

pub front_twice : (a b : Content) (p : ℕ) (page : List ℕ) → 24 ≤ length (bytes_of b Database) → take 24 (bytes_of a Database) ≡ take 24 (bytes_of b Database)
    → with_front a p (with_front b p page) ≡ with_front b p page
front_twice a b p page long front =
    front_again (take 24 (bytes_of a Database)) (take 24 (bytes_of b Database)) page (p == 1) front (length-take 24 (bytes_of b Database) ∙ omega arith)

-- a page that no journal holds any more, and that is in its place
image_in_place : (old now : Content) (p : ℕ) → 24 ≤ length (bytes_of old Database) → take 24 (bytes_of now Database) ≡ take 24 (bytes_of old Database)
    → find (is_of p) (all_hot now) ≡ None → file_page now p ≡ image_of old p → image_of now p ≡ image_of old p
unfolding image_of
image_in_place old now p long front none place =
    ap (λ (f : Option Saved). with_front now p (saved_or (file_page now p) f)) none
    ∙ ap (with_front now p) place
    ∙ front_twice now old p (saved_or (file_page old p) (find (is_of p) (all_hot old))) long front

pub thin_keeps : (old now : Content) (pages : List (List ℕ)) → HasPages old pages → bytes_of now Database ≡ bytes_of old Database → IsThinned old now
    → ((p : ℕ) → 1 ≤ p → p ≤ length pages → is_held old p ≡ true → IsInPlace old p) → Keeps old now (length pages)
thin_keeps old now pages has bytes thin place =
    let file : IsReadable (bytes_of old Database) = readable old has.front in
    let size : file_page_size now ≡ file_page_size old = ap (λ (b : List ℕ). page_size_at (take 100 b)) bytes in
    let front : take 24 (bytes_of now Database) ≡ take 24 (bytes_of old Database) = ap (take 24) bytes in
    let hot = thinned_hot old now size thin in
    let apart : AreApart (hot_of old) 0 16 = apart_from (hot_of old) 0 16 has.apart in
    let pages_of : (p : ℕ) → file_page now p ≡ file_page old p = λ p. ap (λ (b : List ℕ). take (page_size_at (take 100 b)) (drop ((p - 1) * page_size_at (take 100 b)) b)) bytes in
    record {
      front = rw bytes (front-refl (bytes_of old Database) file.long);
      sized = find_other (has_other_size old) (has_other_size now) 0 16 (thinned_other old now size thin) has.sized;
      apart = shared_none (hot_of now) 0 16 (apart_thin (hot_of old) (hot_of now) 0 16 apart hot);
      count = ap (λ (b : List ℕ). page_count_of (recovered_header old) (length b)) bytes;
      images = λ p low high. ⊎_elim
          (λ (held : is_held old p ≡ true).
          ⊎_elim
          (λ (none : find (is_of p) (all_hot now) ≡ None).
          image_in_place old now p (omega (arith, file.long)) front none (pages_of p ∙ (place p low high held).same))
          (λ (same : find (is_of p) (all_hot now) ≡ find (is_of p) (all_hot old)). image_same old now p front same (λ lacks. pages_of p))
          (find_thin (hot_of old) (hot_of now) p 0 16 apart hot))
          (λ (lacks : is_held old p ≡ false).
          image_same old now p front (still_none (find (is_of p) (all_hot now)) (find (is_of p) (all_hot old)) (find_thin (hot_of old) (hot_of now) p 0 16 apart hot) lacks) (λ no_record. pages_of p))
          (cases_Bool (is_held old p));
      there = λ p low high.
          let whole : p * file_page_size now ≤ length (bytes_of now Database) =
          rw (size, bytes)
          (⊎_elim (λ (held : is_held old p ≡ true). (place p low high held).whole) (λ (lacks : is_held old p ≡ false). whole_page old pages has p low high lacks) (cases_Bool (is_held old p))) in
          second (is_some (find (is_of p) (all_hot now))) (nat_le (p * file_page_size now) (length (bytes_of now Database))) (le-leb (p * file_page_size now) (length (bytes_of now Database)) whole);
    }
  where
    still_none : (a b : Option Saved) → (a ≡ None) ⊎ (a ≡ b) → is_some b ≡ false → a ≡ b
    still_none a None e lacks = ⊎_elim (λ (x : a ≡ None). x) (λ (x : a ≡ None). x) e
    still_none a (Some s) e lacks = absurd cc

    second : (a b : Bool) → b ≡ true → (a || b) ≡ true
    second true b e = refl
    second false b e = e
