-- Files without journals, on which no transaction has begun.
use Rattle.std.proofs.Common.{◌≡◌, ℕ, ◌*◌, ◌<◌, ◌≤◌, List, [], length, refl, sym, ap, ◌∙◌, arith, inl}
use Rattle.spe_model.specs.declared.file.FileNo.TheVariants.{Database}
use Rattle.spe_model.specs.Content.{Content, bytes_of}
use Rattle.spe_model.specs.Covered.{Recovers}
use Rattle.spe_model.specs.Recovery.{file_page, file_page_size, journal_of}
use Rattle.spe_model.specs.Settled.{page_in}
use Rattle.spe_crash.proofs.FoundLemmas.{quiet_whole}
use Rattle.spe_crash.proofs.FrontLemmas.{IsReadable}
use Rattle.spe_crash.proofs.PlaceLemmas.{ends_mono}
use Rattle.spe_transactions.specs.Steps.{OpeningWorks}
use Rattle.spe_transactions.specs.Work.{no_works}
use Rattle.spe_transactions.proofs.PageLemmas.{IsAt, image_free, image_is, is_at, page_whole}
use Rattle.spe_transactions.proofs.PutLemmas.{page_range}
use Rattle.spe_transactions.proofs.SavedLemmas.{AreSaved, found_none}
use Rattle.spe_transactions.proofs.WorkLemmas.{page_fits}

module _ (content : Content) (pages : List (List ℕ)) (recovers : Recovers content pages) (quiet : (id : ℕ) → id < 16 → journal_of content id ≡ []) where
  none_saved : AreSaved content no_works
  none_saved = record {
    fits = page_fits content pages recovers;
    journals = λ id low. inl (quiet id low, λ p. refl);
    numbered = λ id p has. absurd cc;
    apart = λ p i j has also. absurd cc;
  }

  pub file_is : (p : ℕ) → 1 ≤ p → p ≤ length pages → file_page content p ≡ page_in pages p
  file_is p low high =
      let read : IsReadable (bytes_of content Database) = page_range content pages recovers in
      sym (image_free content p read.low (found_none content no_works none_saved p (λ i. refl))) ∙ image_is content pages recovers p low high

  pub file_sized : (p : ℕ) → 1 ≤ p → p ≤ length pages → length (file_page content p) ≡ file_page_size content
  file_sized p low high =
      let size = file_page_size content in
      let whole : length pages * size ≤ length (bytes_of content Database) = quiet_whole content pages recovers quiet in
      let more : p * size ≤ length pages * size = ends_mono p (length pages) size high in
      page_whole content p low (omega arith)

pub opening_works : OpeningWorks
opening_works content pages files recovers quiet = record {
  files = files;
  recovers = recovers;
  sized = λ p bytes found.
      let at : IsAt pages p bytes = is_at pages p bytes found in
      ap length (sym (file_is content pages recovers quiet p at.low at.high ∙ at.is)) ∙ file_sized content pages recovers quiet p at.low at.high;
  journals = λ id low. inl (quiet id low, λ p. refl);
  numbered = λ id p has. absurd cc;
  apart = λ p i j has also. absurd cc;
  before = λ id p bytes found. absurd cc;
  placed = λ id p has. absurd cc;
  in_file = λ id p bytes found. absurd cc;
  kept = λ p bytes found none.
      let at : IsAt pages p bytes = is_at pages p bytes found in
      file_is content pages recovers quiet p at.low at.high ∙ at.is;
}
