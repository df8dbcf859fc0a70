-- What a core is made of, as a state.
use Rattle.std.specs.Prelude.{◌≡◌, ◌≤◌, [], length}
use Rattle.spe_model.specs.declared.file.FileNo.TheVariants.{Database}
use Rattle.spe_model.specs.Content.{Content, bytes_of}
use Rattle.spe_model.specs.Recovery.{file_page_size}
use Rattle.spe_core.specs.declared.parts.Mode.{Mode as Held}
use Rattle.spe_core.specs.declared.parts.Mode.TheVariants as held
use Rattle.spe_core.specs.declared.parts.Parts.{Parts}
use Rattle.spe_core.specs.Enabled.{count_of}
use Rattle.spe_stored.specs.Shown.{all_shown}
use Rattle.spe_core.specs.State.{State, Mode, Serving, Recovering}

abbrev pub mode_of : Held → Mode
mode_of held.Serving = Serving
mode_of (held.Recovering left) = Recovering (all_shown left.items)

-- there are no read-only transactions yet
abbrev pub state_of : Parts → State
state_of parts = record {
  opening = parts.opening.bytes;
  slots = parts.slots;
  content = parts.files;
  made = parts.made;
  commits = parts.commits;
  images = parts.images.items;
  live = parts.live;
  readers = [];
  mode = mode_of parts.mode;
}

-- the file names a page size
pub record IsPaged (content : Content) : Type 0 where
  pub front : 100 ≤ length (bytes_of content Database)
  pub low : 512 ≤ file_page_size content
  pub high : file_page_size content ≤ 65536

-- the file names a page size, there are locks, and the number of recovered pages is known
pub record IsReady (parts : Parts) : Type 0 where
  pub paged : IsPaged parts.files
  pub slots : 1 ≤ parts.slots
  pub count : parts.pages ≡ count_of (state_of parts)
