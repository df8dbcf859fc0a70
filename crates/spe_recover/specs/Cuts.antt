-- What was done of a list of operations, where a call broke off within it.
use Rattle.std.specs.Prelude.{◌≡◌, ℕ, List, [], ◌∷◌, Option}
use Rattle.spe_model.specs.Content.{Content}
use Rattle.spe_model.specs.Journal.{Saved}
use Rattle.spe_model.specs.Rollback.{restores}
use Rattle.spe_model.specs.Recovery.{recovered}
use Rattle.spe_model.specs.Trace.{Operation, History, IsCut, after}
use Rattle.spe_disk.specs.Added.{AddsCut}
use Rattle.spe_journal.specs.Saved.{SavesFirst}
use Rattle.spe_recover.specs.Restored.{Holders, is_due}

-- whatever a stop leaves of these operations, the recovered pages are as before
abbrev pub KeepsAtStops : Content → List Operation → Type 0
KeepsAtStops content ops = (cut : List Operation) → IsCut ops cut → recovered (after content cut) ≡ recovered content

-- A piece of a journal is a record, and writing it back broke off.
pub record BreaksFirst (nonce page_size pages : ℕ) (piece : List ℕ) (old new : Option History) (before : Holders) : Type 0 where
  pub saved : Saved
  pub first : SavesFirst nonce page_size piece saved
  pub cut : AddsCut old new (restores page_size (is_due before pages) (saved ∷ []))
