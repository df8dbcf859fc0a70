-- What a stop leaves of a trace, by how far it came.
use Rattle.std.specs.Prelude.{ℕ, List, [], ◌∷◌, ◌++◌, take, drop}
use Rattle.spe_model.specs.Trace.{Operation}
use Rattle.spe_model.specs.Trace.Operation.{Write, Cut}

-- the first n bytes of the next operation, where it is a write
abbrev pub torn : List Operation → ℕ → List Operation
torn [] n = []
torn (Write file at bytes ∷ os) n = Write file at (take n bytes) ∷ []
torn (Cut file size ∷ os) n = []

-- some first operations, and some first bytes of the next
abbrev pub cut_at : List Operation → ℕ → ℕ → List Operation
cut_at trace operations bytes = take operations trace ++ torn (drop operations trace) bytes
