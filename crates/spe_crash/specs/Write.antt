-- What writes and cuts of the database leave of the recovered pages.
use Rattle.std.specs.Prelude.{◌≡◌, ◌≤◌, ℕ, List, [], ◌∷◌, ◌++◌, length}
use Rattle.spe_model.specs.declared.file.FileNo.TheVariants.{Database}
use Rattle.spe_model.specs.Content.{Content}
use Rattle.spe_model.specs.Covered.{Covered, IsSafe, IsTrim}
use Rattle.spe_model.specs.Recovery.{recovered}
use Rattle.spe_model.specs.Trace.{Operation, after, made_by}
use Rattle.spe_model.specs.Trace.Operation.{Write, Cut}

-- a safe write changes nothing that is recovered, whatever its bytes
abbrev pub SafeWriteKeeps : Type 0
SafeWriteKeeps = (content : Content) (at : ℕ) (bytes : List ℕ)
    → IsSafe content at (length bytes) → recovered (made_by (Write Database at bytes) content) ≡ recovered content

-- where a covered trace ends in a write of the database, any other bytes in its place, of no greater length, leave what
-- is recovered as it was before the write
abbrev pub TornWriteKeeps : Type 0
TornWriteKeeps = (content : Content) (trace : List Operation) (at : ℕ) (bytes other : List ℕ)
    → Covered content (trace ++ Write Database at bytes ∷ []) → length other ≤ length bytes
    → recovered (after content (trace ++ Write Database at other ∷ [])) ≡ recovered (after content trace)

-- a cut of the file to its recovered pages changes nothing that is recovered
abbrev pub TrimKeeps : Type 0
TrimKeeps = (content : Content) (size : ℕ) → IsTrim content size → recovered (made_by (Cut Database size) content) ≡ recovered content
