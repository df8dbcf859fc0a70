-- Safe writes of the database, and its cut to the recovered pages.
use Rattle.std.proofs.Common.{◌≡◌, ◌≢◌, ℕ, ◌+◌, ◌-◌, ◌*◌, ◌<◌, ◌≤◌, min, List, [], ◌∷◌, length, take, drop, refl, arith, sym, ap, ◌∙◌, true, false, ⊎_elim, length-take}
use Rattle.std.specs.Prelude.{◌⊎◌, ◌==◌}
use Rattle.std.proofs.lemmas.Bool.{cases_lt}
use Rattle.std.proofs.lemmas.Bool.Decides.{nat_tests}
use Rattle.std.proofs.lemmas.List.{drop-take, take-take}
use Rattle.spe_model.specs.declared.file.FileNo.TheVariants.{Database}
use Rattle.spe_model.specs.Content.{Content, bytes_of, with_file}
use Rattle.spe_model.specs.Covered.{IsSafe, IsSaved, IsSpare, IsTrim, LieWithin, Recovers, first_place, is_held}
use Rattle.spe_model.specs.Header.{is_size_valid, page_count_of}
use Rattle.spe_model.specs.Recovery.{file_page_size, recovered, recovered_header}
use Rattle.spe_model.specs.Trace.{made_by, laid_over}
use Rattle.spe_model.specs.Trace.Operation.{Write, Cut}
use Rattle.spe_crash.proofs.CountLemmas.{count_grown, count_cut, header_size}
use Rattle.spe_crash.proofs.DatabaseLemmas.{IsKept, KeepsDatabase, database_keeps, whole_page}
use Rattle.spe_crash.proofs.FileLemmas.{IsLaid, laid, file_replaced, database_leaves}
use Rattle.spe_crash.proofs.FrontLemmas.{IsReadable, readable}
use Rattle.spe_crash.proofs.KeepLemmas.{keeps}
use Rattle.spe_crash.proofs.PagesLemmas.{HasPages, opened, some_pages}
use Rattle.spe_crash.proofs.PlaceLemmas.{before_next, ends_mono, page_end}

pub place_later : (page_size p : ℕ) → 2 ≤ p → first_place page_size p ≡ (p - 1) * page_size
place_later page_size p later = let other : (p == 1) ≡ false = grind (arith, nat_tests) in rw other refl

-- the bytes of a page that may be written lie behind the first 24
place_low : (page_size p at : ℕ) → 512 ≤ page_size → 1 ≤ p → first_place page_size p ≤ at → 24 ≤ at
place_low page_size p at sized some from = ⊎_elim
    (λ (first : p < 2). let one : p ≡ 1 = omega arith in rw one at from)
    (λ (later : 2 ≤ p).
    let start : 1 * page_size ≤ (p - 1) * page_size = ends_mono 1 (p - 1) page_size (omega arith) in
    let place : (p - 1) * page_size ≤ at = rw (place_later page_size p later) at from in
    omega arith)
    (cases_lt p 2)

-- a page that is not written, and is whole in the file, stays
pub page_kept : (page_size : ℕ) (old new : List ℕ) (at size p q : ℕ) → IsLaid old new at size → LieWithin page_size p at size → 1 ≤ q → q ≢ p → q * page_size ≤ length old → IsKept page_size old new q
page_kept page_size old new at size p q l within some other whole = record {
  whole = omega (arith, l.long);
  same = ⊎_elim
      (λ (below : q < p).
      let place : (p - 1) * page_size ≤ at = rw (place_later page_size p (omega arith)) at within.from in
      let end : q * page_size ≤ (p - 1) * page_size = before_next q p page_size below in
      let size_q : (q - 1) * page_size + page_size ≡ q * page_size = page_end q page_size some in
      l.before ((q - 1) * page_size) page_size (omega arith) (omega arith))
      (λ (above : p ≤ q).
      let end : p * page_size ≤ (q - 1) * page_size = before_next p q page_size (omega arith) in
      ap (take page_size) (l.behind ((q - 1) * page_size) (omega (arith, within.to))))
      (cases_lt q p);
}

-- a page that no journal holds is not the one that is written
not_written : (content : Content) (pages : List (List ℕ)) (p q : ℕ) → IsSaved content pages p ⊎ IsSpare content pages p → is_held content q ≡ false → q ≤ length pages → q ≢ p
not_written content pages p q safe lacks high = ⊎_elim
    (λ (saved : IsSaved content pages p) (same : q ≡ p). let has : is_held content q ≡ true = rw same saved.0 in let both : true ≡ false = sym has ∙ lacks in cc)
    (λ (spare : IsSpare content pages p) (same : q ≡ p). let above : length pages < p = spare.0 in omega arith)
    safe

counted_page : (content : Content) (pages : List (List ℕ)) (p : ℕ) → IsSaved content pages p ⊎ IsSpare content pages p → is_size_valid (recovered_header content) ≡ false → p ≤ length pages
counted_page content pages p safe invalid = ⊎_elim
    (λ (saved : IsSaved content pages p). saved.1)
    (λ (spare : IsSpare content pages p). absurd (let both : true ≡ false = sym spare.1 ∙ invalid in cc))
    safe

pub write_keeps_database : (content : Content) (at : ℕ) (bytes : List ℕ) (s : IsSafe content at (length bytes)) (now : Content)
    → now ≡ with_file content Database (laid_over (bytes_of content Database) at bytes) → KeepsDatabase content now (length s.pages)
write_keeps_database content at bytes s now is =
    let old = bytes_of content Database in
    let page_size = file_page_size content in
    let has : HasPages content s.pages = opened content s.pages s.recovers in
    let file : IsReadable old = readable content has.front in
    let new : bytes_of now Database ≡ laid_over old at bytes = ap (λ (c : Content). bytes_of c Database) is ∙ file_replaced content Database (laid_over old at bytes) (omega (arith, file.long)) in
    let l : IsLaid old (bytes_of now Database) at (length bytes) = rw new (laid old at bytes) in
    let low : 24 ≤ at = place_low page_size s.page at file.low s.within.numbered s.within.from in
    record {
      journals = λ id. rw is (database_leaves content (laid_over old at bytes) id);
      front = record { front = l.before 0 24 low (omega (arith, file.long)); long_old = file.long; long_new = omega (arith, file.long, l.long) };
      count =
          count_grown (recovered_header content) page_size (length old) (length (bytes_of now Database)) s.page (header_size content s.pages has) (omega (arith, file.low))
          (omega (arith, l.long)) (omega (arith, l.long, s.within.to))
          (λ invalid. rw (sym has.count) (counted_page content s.pages s.page s.safe invalid));
      kept = λ q low_q high lacks.
          page_kept page_size old (bytes_of now Database) at (length bytes) s.page q l s.within low_q (not_written content s.pages s.page q s.safe lacks high) (whole_page content s.pages has q low_q high lacks);
    }

pub safe_keeps : (content : Content) (at : ℕ) (bytes : List ℕ) → IsSafe content at (length bytes) → recovered (made_by (Write Database at bytes) content) ≡ recovered content
safe_keeps content at [] s = refl
safe_keeps content at (b ∷ bs) s =
    let now = made_by (Write Database at (b ∷ bs)) content in
    keeps content now s.pages (database_keeps content now s.pages (write_keeps_database content at (b ∷ bs) s now refl) (opened content s.pages s.recovers)) s.recovers
    ∙ sym s.recovers

pub trim_kept : (page_size : ℕ) (old : List ℕ) (pages q : ℕ) → 1 ≤ q → q ≤ pages → q * page_size ≤ length old → IsKept page_size old (take (pages * page_size) old) q
trim_kept page_size old pages q low high whole =
    let end : q * page_size ≤ pages * page_size = ends_mono q pages page_size high in
    let size_q : (q - 1) * page_size + page_size ≡ q * page_size = page_end q page_size low in
    let from = (q - 1) * page_size in
    let split : pages * page_size ≡ from + (pages * page_size - from) = omega arith in
    record {
      whole = omega (arith, length-take (pages * page_size) old);
      same =
          ap (λ (n : ℕ). take page_size (drop from (take n old))) split
          ∙ ap (take page_size) (drop-take from (pages * page_size - from) old)
          ∙ take-take page_size (pages * page_size - from) (drop from old) (omega arith);
    }

pub trim_keeps_database : (content : Content) (pages : List (List ℕ)) (now : Content) → Recovers content pages
    → now ≡ with_file content Database (take (length pages * file_page_size content) (bytes_of content Database)) → KeepsDatabase content now (length pages)
trim_keeps_database content pages now recovers is =
    let old = bytes_of content Database in
    let page_size = file_page_size content in
    let size = length pages * page_size in
    let has : HasPages content pages = opened content pages recovers in
    let file : IsReadable old = readable content has.front in
    let new : bytes_of now Database ≡ take size old = ap (λ (c : Content). bytes_of c Database) is ∙ file_replaced content Database (take size old) (omega (arith, file.long)) in
    let long : length (bytes_of now Database) ≡ min size (length old) = ap length new ∙ length-take size old in
    let one : 1 * page_size ≤ size = ends_mono 1 (length pages) page_size (some_pages content pages has) in
    record {
      journals = λ id. rw is (database_leaves content (take size old) id);
      front = record {
        front = rw new (take-take 24 size old (omega (arith, file.low)));
        long_old = file.long;
        long_new = omega (arith, file.long, file.low);
      };
      count =
          ap (page_count_of (recovered_header content)) long
          ∙ count_cut (recovered_header content) page_size (length old) (length pages) (header_size content pages has) (omega (arith, file.low)) has.count;
      kept = λ q low high lacks. rw new (trim_kept page_size old (length pages) q low high (whole_page content pages has q low high lacks));
    }

pub trimmed_keeps : (content : Content) (size : ℕ) → IsTrim content size → recovered (made_by (Cut Database size) content) ≡ recovered content
trimmed_keeps content size t =
    let now = made_by (Cut Database size) content in
    let is : KeepsDatabase content now (length t.pages) = trim_keeps_database content t.pages now t.recovers (ap (λ (n : ℕ). made_by (Cut Database n) content) t.end) in
    keeps content now t.pages (database_keeps content now t.pages is (opened content t.pages t.recovers)) t.recovers ∙ sym t.recovers
