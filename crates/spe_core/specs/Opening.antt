-- What a core begins with.
use Rattle.std.specs.Prelude.{◌≡◌, ℕ, ◌≤◌, ◌^◌, true, List, [], Ok}
use Rattle.spe_model.specs.Header.{is_size_valid}
use Rattle.spe_model.specs.Recovery.{recovered, recovered_header}
use Rattle.spe_core.specs.State.{State, Serving}
use Rattle.spe_core.specs.Laid.{pages_of}
use Rattle.spe_stored.specs.Stored.{alone}

-- a number of locks: a power of two from 16 to 262144
pub record AreSlots (slots : ℕ) : Type 0 where
  pub exponent : ℕ
  pub power : slots ≡ 2 ^ exponent
  pub low : 4 ≤ exponent
  pub high : exponent ≤ 18

-- the bytes of a database file that needs no journal to be recovered, and whose page 1 names the number of its pages
pub record IsOpening (bytes : List ℕ) : Type 0 where
  pub recovers : recovered (alone bytes) ≡ Ok (pages_of (alone bytes))
  pub counts : is_size_valid (recovered_header (alone bytes)) ≡ true

-- serving these bytes, with nothing done yet
abbrev pub opened : List ℕ → ℕ → State
opened bytes slots = record {
  opening = bytes;
  slots = slots;
  content = alone bytes;
  made = 0;
  commits = [];
  images = [];
  live = [];
  readers = [];
  mode = Serving;
}
