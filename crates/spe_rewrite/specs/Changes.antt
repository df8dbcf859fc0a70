-- Pages as they are to be.
use Rattle.std.specs.Prelude.{◌≡◌, ℕ, ◌<◌, ◌==◌, List, [], ◌∷◌, length, All, Some, None, if◌then◌else◌}
use Rattle.spe_model.specs.Paging.{PageMap}
use Rattle.spe_rewrite.specs.declared.change.Change.{Change}

-- each page is above the one before it, and the first above this one
abbrev pub Ascend : (below : ℕ) → List Change → Type 0
Ascend below [] = Unit {0}
Ascend below (c ∷ cs) = (below < c.page) × Ascend c.page cs

-- the pages ascend, and each has the bytes of a page
pub record AreChanges (page_size : ℕ) (changes : List Change) : Type 0 where
  pub ascending : Ascend 0 changes
  pub sized : All (λ (c : Change). length c.bytes ≡ page_size) changes

-- the bytes that a page is to have, where it is one of these
abbrev pub changed : List Change → PageMap
changed [] p = None
changed (c ∷ cs) p = if p == c.page then Some c.bytes else changed cs p
