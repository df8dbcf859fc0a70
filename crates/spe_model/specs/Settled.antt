-- Files after recovery, and what a stop may leave of them before.
use Rattle.std.specs.Prelude.{◌≡◌, ℕ, ◌+◌, ◌-◌, ◌*◌, ◌^◌, ◌<◌, ◌≤◌, true, List, [], ◌++◌, length, take, map, slice_get, unwrap_or, Option, Some, None, Ok}
use Rattle.spe_model.specs.declared.file.FileNo.TheVariants.{Database}
use Rattle.spe_model.specs.declared.header.Header.{Header}
use Rattle.spe_model.specs.declared.recovery.Recovered.{Recovered}
use Rattle.spe_model.specs.Content.{Content, bytes_of}
use Rattle.spe_model.specs.Covered.{Covered}
use Rattle.spe_model.specs.Header.{fields, header_of, is_page_size, node_of}
use Rattle.spe_model.specs.Paging.{Paging}
use Rattle.spe_model.specs.Recovery.{file_page, file_page_size, journal_of, pages_to, recovered}
use Rattle.spe_model.specs.Trace.{Operation, History, IsCut, after, present}

-- what recovery finds is within the limits of a file: its page size, its usable bytes, and how many bytes its pages take
pub record IsWithinLimits (found : Recovered) : Type 0 where
  pub power : is_page_size found.page_size ≡ true
  pub low : 512 ≤ found.page_size
  pub high : found.page_size ≤ 65536
  pub usable : found.reserved + 480 ≤ found.page_size
  pub some : 1 ≤ found.pages
  pub few : found.pages * found.page_size ≤ 2 ^ 30

-- pages by their numbers
abbrev pub page_in : List (List ℕ) → Paging
page_in pages page = unwrap_or (slice_get pages (page - 1)) []

-- what the header on page 1 names
abbrev pub header_in : List (List ℕ) → Header
header_in pages = fields (take 100 (page_in pages 1))

-- The file holds these recovered pages, of which there are so many as was found, and no journal has bytes.
pub record IsFound (found : Recovered) (content : Content) (pages : List (List ℕ)) : Type 0 where
  pub recovers : recovered content ≡ Ok pages
  pub counted : found.pages ≡ length pages
  pub sized : found.page_size ≡ file_page_size content
  pub legal : header_of (take 100 (page_in pages 1)) ≡ Ok (header_in pages)
  pub page_size : (header_in pages).page_size ≡ found.page_size
  pub reserved : (header_in pages).reserved ≡ found.reserved
  pub node : node_of (header_in pages) ≡ found.node
  pub held : map (file_page content) (pages_to (length pages)) ≡ pages
  pub whole : length pages * file_page_size content ≤ length (bytes_of content Database)
  pub quiet : (id : ℕ) → id < 16 → journal_of content id ≡ []

-- Operations were added that change no recovered page, wherever a stop cuts them.
pub record KeepsPages (old : History) (new : Option History) : Type 0 where
  pub made : List Operation
  pub adds : new ≡ Some (record { first = old.first; trace = old.trace ++ made })
  pub covered : Covered (present old) made
  pub stops : (cut : List Operation) → IsCut made cut → recovered (after (present old) cut) ≡ recovered (present old)

-- the same, where the disk tells what was done
abbrev pub LeavesPages : Option History → Option History → Type 0
LeavesPages None new = Unit {0}
LeavesPages (Some h) new = KeepsPages h new
