-- The pages after some commits.
use Rattle.std.specs.Prelude.{ℕ, List, [], ◌∷◌, take, Result, Ok, Err}
use Rattle.spe_model.specs.Content.{Content}
use Rattle.spe_model.specs.Recovery.{recovered}
use Rattle.spe_transactions.specs.Pages.{laid_pages}
use Rattle.spe_stored.specs.Sheets.{pages_at}
use Rattle.spe_stored.specs.Stored.{alone}
use Rattle.spe_core.specs.State.{State, Committed}

abbrev pub ok_or_none : {X E : Type 0} → Result (List X) E → List X
ok_or_none (Ok xs) = xs
ok_or_none (Err e) = []

-- the recovered pages of a content that has some
unfoldable pub pages_of : Content → List (List ℕ)
pages_of content = ok_or_none (recovered content)

-- pages with what some commits wrote laid over them, the first of them first
abbrev pub laid_by : List (List ℕ) → List Committed → List (List ℕ)
laid_by pages [] = pages
laid_by pages (c ∷ cs) = laid_by (laid_pages pages (pages_at c.written)) cs

-- the pages after the first n commits
unfoldable pub laid : State → ℕ → List (List ℕ)
laid s n = laid_by (pages_of (alone s.opening)) (take n s.commits)
