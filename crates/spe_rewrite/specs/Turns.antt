-- Operations before whose end the recovered pages are as before, and are new pages then.
use Rattle.std.specs.Prelude.{◌≡◌, ◌⊎◌, ℕ, List}
use Rattle.spe_model.specs.Content.{Content}
use Rattle.spe_model.specs.Covered.{Covered, Recovers}
use Rattle.spe_model.specs.Trace.{IsCut, Operation, after}
use Rattle.spe_rewrite.specs.Idle.{AreIdle}

-- what a stop left of some operations: the pages are those before, or all is there, and they are the new ones
abbrev pub IsBeforeOrAfter : Content → (ops cut : List Operation) → (before new : List (List ℕ)) → Type 0
IsBeforeOrAfter content ops cut before new = Recovers (after content cut) before ⊎ ((cut ≡ ops) × Recovers (after content cut) new)

-- Each operation is covered; wherever a stop cuts them the pages are those before, or, after all of them, the new ones; and
-- then the files are idle again.
pub record Turns (page_size : ℕ) (content : Content) (ops : List Operation) (before new : List (List ℕ)) : Type 0 where
  pub covered : Covered content ops
  pub stops : (cut : List Operation) → IsCut ops cut → IsBeforeOrAfter content ops cut before new
  pub ends : AreIdle page_size (after content ops) new

-- what was made of these operations is a beginning of them, and no stop within it leaves other pages
pub record IsFront (content : Content) (ops made : List Operation) (before new : List (List ℕ)) : Type 0 where
  pub front : IsCut ops made
  pub covered : Covered content made
  pub stops : (cut : List Operation) → IsCut made cut → IsBeforeOrAfter content ops cut before new

-- what was made of these operations is a beginning of them, and wherever a stop cuts it the files are idle over these pages
pub record KeepsIdle (page_size : ℕ) (content : Content) (ops made : List Operation) (pages : List (List ℕ)) : Type 0 where
  pub front : IsCut ops made
  pub covered : Covered content made
  pub stops : (cut : List Operation) → IsCut made cut → AreIdle page_size (after content cut) pages
