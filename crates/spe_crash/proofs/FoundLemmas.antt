-- Recovered pages: their header, and where they stand.
use Rattle.std.proofs.Common.{◌≡◌, ℕ, zero, suc, ◌+◌, ◌*◌, ◌<◌, ◌≤◌, List, [], ◌∷◌, length, map, take, refl, sym, ap, subst, ◌∙◌, arith, Bool, true, false, Option, Some, None, Ok}
use Rattle.std.specs.Prelude.{◌||◌, nat_le, is_some, slice_get, unwrap_or}
use Rattle.std.specs.List.{find}
use Rattle.std.proofs.lemmas.Bool.Decides.{nat_tests}
use Rattle.spe_model.specs.declared.file.FileNo.TheVariants.{Database}
use Rattle.spe_model.specs.declared.header.Header.{Header}
use Rattle.spe_model.specs.Content.{Content, bytes_of}
use Rattle.spe_model.specs.Covered.{Recovers}
use Rattle.spe_model.specs.Header.{header_of, fields}
use Rattle.spe_model.specs.Journal.{hot_records, has_head, is_hot, numbers_from}
use Rattle.spe_model.specs.Recovery.{all_hot, file_page_size, hot_of, image_of, is_of, is_there, journal_of, pages_to, recovered_header}
use Rattle.spe_model.specs.Settled.{header_in, page_in}
use Rattle.spe_crash.specs.Pages.{AreHeaded, QuietIsWhole, RecoveredAreHeaded}
use Rattle.spe_crash.proofs.CountLemmas.{header_size}
use Rattle.spe_crash.proofs.HotLemmas.{find_none}
use Rattle.spe_crash.proofs.NumbersLemmas.{page_passes}
use Rattle.spe_crash.proofs.PagesLemmas.{HasPages, opened, some_pages}

first_of : (f : ℕ → List ℕ) (count : ℕ) → 1 ≤ count → page_in (map f (pages_to count)) 1 ≡ f 1
first_of f zero some = absurd (omega arith)
first_of f (suc count) some = refl

header_first : (content : Content) → fields (take 100 (image_of content 1)) ≡ recovered_header content
unfolding recovered_header
header_first content = refl

pub recovered_headed : RecoveredAreHeaded
recovered_headed content pages recovers =
    let has = opened content pages recovers in
    let some = some_pages content pages has in
    let first : page_in pages 1 ≡ image_of content 1 = ap (λ (ps : List (List ℕ)). page_in ps 1) has.images ∙ first_of (image_of content) (length pages) some in
    let header : header_in pages ≡ recovered_header content = ap (λ (page : List ℕ). fields (take 100 page)) first ∙ header_first content in
    record {
      legal = ap (λ (page : List ℕ). header_of (take 100 page)) first ∙ has.header ∙ ap (λ (h : Header). Ok h) (sym header);
      recovered = header;
      sized = ap (λ (h : Header). h.page_size) header ∙ header_size content pages has;
    }

none_hot : (page_size : ℕ) → hot_records page_size [] ≡ []
unfolding hot_records is_hot has_head
none_hot page_size = refl

quiet_hot : (content : Content) (p : ℕ) → ((id : ℕ) → id < 16 → journal_of content id ≡ []) → find (is_of p) (all_hot content) ≡ None
quiet_hot content p quiet = find_none (hot_of content) p 0 16 (λ i low high. rw (quiet i high, none_hot (file_page_size content)) refl)

in_file : (content : Content) (p : ℕ) → find (is_of p) (all_hot content) ≡ None → is_there content p ≡ true → p * file_page_size content ≤ length (bytes_of content Database)
in_file content p none there =
    let whole : nat_le (p * file_page_size content) (length (bytes_of content Database)) ≡ true = rw none at there in
    grind (arith, nat_tests)

pub quiet_whole : QuietIsWhole
quiet_whole content pages recovers quiet =
    let has = opened content pages recovers in
    let n = length pages in
    in_file content n (quiet_hot content n quiet) (page_passes (is_there content) n n has.there (some_pages content pages has) (omega arith))
