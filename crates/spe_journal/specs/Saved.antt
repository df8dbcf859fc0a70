-- What stands behind the head of a journal.
use Rattle.std.specs.Prelude.{◌≡◌, ℕ, ◌+◌, List, [], ◌∷◌, ◌++◌, map, take_while}
use Rattle.spe_model.specs.Journal.{Saved, saved_of, is_right, pieces_of}

-- the whole records at the front of some bytes, up to the first that names no page or has a wrong checksum
unfoldable pub saved_in : (nonce page_size : ℕ) → List ℕ → List Saved
saved_in nonce page_size bytes = map (saved_of page_size) (take_while (is_right nonce page_size) (pieces_of (page_size + 8) bytes))

-- these bytes save this page, before what the bytes behind them save
abbrev pub SavesFirst : (nonce page_size : ℕ) → List ℕ → Saved → Type 0
SavesFirst nonce page_size bytes saved =
    (rest : List ℕ) → saved_in nonce page_size (bytes ++ rest) ≡ saved ∷ saved_in nonce page_size rest

-- these bytes save no page, nor do any behind them
abbrev pub SavesNone : (nonce page_size : ℕ) → List ℕ → Type 0
SavesNone nonce page_size bytes = (rest : List ℕ) → saved_in nonce page_size (bytes ++ rest) ≡ []
