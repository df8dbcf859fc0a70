-- What a walk sees of a space, and what it leaves of it.
use Rattle.std.specs.Prelude.{◌≡◌, ℕ, Result, Ok, Err}
use Rattle.spe_model.specs.Paging.{Paging, Agrees, lay}
use Rattle.spe_space.specs.Calls.{Reads}
use Rattle.spe_space.specs.Outcome.{IsInside, OnPageOut, refusal_of}
use Rattle.spe_space.specs.declared.pages.Pages.{Ghosts}
use Rattle.spe_check.specs.declared.met.Met.{Met}
use Rattle.spe_check.specs.declared.halt.Halt.{Halt}
use Rattle.spe_check.specs.declared.halt.Halt.TheVariants.{Broken, Space}

-- pages, of so many usable bytes each, that agree with all that the space gave and have what was put laid over them
pub record Shows {P : Type 0} (g : Ghosts P) (s : P) (usable : ℕ) (pages : Paging) : Type 0 where
  pub below : Paging
  pub agrees : Agrees below (g.seen s)
  pub used : usable ≡ g.used s
  pub is : pages ≡ lay (g.laid s) below

-- whatever the pages are
abbrev pub Each : {P : Type 0} → Ghosts P → P → (ℕ → Paging → Type 0) → Type 0
Each g s What = (usable : ℕ) (pages : Paging) → Shows g s usable pages → What usable pages

-- a walk got pages, and the number of pages that it may meet stays
pub record Walked {P : Type 0} (g : Ghosts P) (early late : P) (before after : Met) : Type 0 where
  pub reads : Reads g early late
  pub pages : after.pages ≡ before.pages

abbrev pub RefusesHalt : {P X : Type 0} → Ghosts P → P → P → Result X Halt → Type 0
RefusesHalt g old new (Ok x) = g.refusal new ≡ g.refusal old
RefusesHalt g old new (Err (Space f)) = g.refusal new ≡ refusal_of f (g.refusal old)
RefusesHalt g old new (Err (Broken page rule)) = g.refusal new ≡ g.refusal old

-- a page that the space has not is one that could be met
abbrev pub AsksWithin : {X : Type 0} → Met → Result X Halt → Type 0
AsksWithin met (Ok x) = Unit {0}
AsksWithin met (Err (Broken page rule)) = Unit {0}
AsksWithin met (Err (Space f)) = OnPageOut (IsInside met.pages) f
