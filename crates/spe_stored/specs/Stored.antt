-- A file as it is stored, and a database file alone.
use Rattle.std.specs.Prelude.{ℕ, Bool, List, ◌∷◌, replicate, Option, Some, None, if◌then◌else◌}
use Rattle.spe_model.specs.Content.{Content}

-- the bytes of a file, where it is there
abbrev pub bytes_if : Bool → List ℕ → Option (List ℕ)
bytes_if there bytes = if there then Some bytes else None

-- a database file with these bytes, and no journal
abbrev pub alone : List ℕ → Content
alone bytes = Some bytes ∷ replicate 16 None
