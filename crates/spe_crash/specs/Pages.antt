-- What recovered pages are.
use Rattle.std.specs.Prelude.{◌≡◌, ℕ, ◌*◌, ◌<◌, ◌≤◌, List, [], length, take, Ok}
use Rattle.spe_model.specs.declared.file.FileNo.TheVariants.{Database}
use Rattle.spe_model.specs.Content.{Content, bytes_of}
use Rattle.spe_model.specs.Covered.{Recovers}
use Rattle.spe_model.specs.Header.{header_of}
use Rattle.spe_model.specs.Recovery.{file_page_size, journal_of, recovered_header}
use Rattle.spe_model.specs.Settled.{header_in, page_in}

-- page 1 has a legal header, which names the page size of the file
pub record AreHeaded (content : Content) (pages : List (List ℕ)) : Type 0 where
  pub legal : header_of (take 100 (page_in pages 1)) ≡ Ok (header_in pages)
  pub recovered : header_in pages ≡ recovered_header content
  pub sized : (header_in pages).page_size ≡ file_page_size content

abbrev pub RecoveredAreHeaded : Type 0
RecoveredAreHeaded = (content : Content) (pages : List (List ℕ)) → Recovers content pages → AreHeaded content pages

-- where no journal has bytes, the file has them all
abbrev pub QuietIsWhole : Type 0
QuietIsWhole = (content : Content) (pages : List (List ℕ))
    → Recovers content pages → ((id : ℕ) → id < 16 → journal_of content id ≡ [])
    → length pages * file_page_size content ≤ length (bytes_of content Database)
