-- What the rollback of hot journals leaves, whole or stopped.
use Rattle.std.specs.Prelude.{◌≡◌, ◌<◌, ℕ, List, [], length, map}
use Rattle.spe_model.specs.Content.{Content}
use Rattle.spe_model.specs.Covered.{Covered, Recovers}
use Rattle.spe_model.specs.Recovery.{file_page, journal_of, pages_to}
use Rattle.spe_model.specs.Rollback.{rule_of}
use Rattle.spe_model.specs.Trace.{IsCut, Operation, after}

-- what a stop leaves of a rollback recovers the same pages
abbrev pub RollbackKeeps : Type 0
RollbackKeeps = (content : Content) (pages : List (List ℕ)) (cut : List Operation)
    → Recovers content pages → IsCut (rule_of content (length pages)) cut → Recovers (after content cut) pages

-- and each of its operations is covered
abbrev pub RollbackIsCovered : Type 0
RollbackIsCovered = (content : Content) (pages : List (List ℕ)) (cut : List Operation)
    → Recovers content pages → IsCut (rule_of content (length pages)) cut → Covered content cut

-- no journal has bytes after a rollback
abbrev pub RollbackEmpties : Type 0
RollbackEmpties = (content : Content) (pages : List (List ℕ))
    → Recovers content pages → (id : ℕ) → id < 16 → journal_of (after content (rule_of content (length pages))) id ≡ []

-- the pages of the file are those that were recovered
abbrev pub RollbackRestores : Type 0
RollbackRestores = (content : Content) (pages : List (List ℕ))
    → Recovers content pages → map (file_page (after content (rule_of content (length pages)))) (pages_to (length pages)) ≡ pages
