-- The commits since the opening, and the pages after some of them.
use Rattle.std.specs.Prelude.{ℕ, ◌≤◌, nat_le, List, [], ◌∷◌, length, take, filter}
use Rattle.spe_model.specs.Paging.{PageMap}
use Rattle.spe_transactions.specs.Pages.{laid_pages}

-- the pages that a commit wrote, and how many operations were made when it ended
pub record Commit : Type 0 where
  pub wrote : PageMap
  pub ops : ℕ

-- pages with what some commits wrote laid over them, the first of them first
abbrev pub laid_by : List (List ℕ) → List Commit → List (List ℕ)
laid_by pages [] = pages
laid_by pages (c ∷ cs) = laid_by (laid_pages pages c.wrote) cs

-- the pages after the first n commits
abbrev pub pages_after : (opening : List (List ℕ)) (commits : List Commit) (n : ℕ) → List (List ℕ)
pages_after opening commits n = laid_by opening (take n commits)

-- how many commits had ended after so many operations
abbrev pub commits_within : List Commit → (whole : ℕ) → ℕ
commits_within commits whole = length (filter (λ (c : Commit). nat_le c.ops whole) commits)

-- the pages after each number of commits meet what is said of them
pub record EachMeets (Meets : ℕ → List (List ℕ) → Type 0) (opening : List (List ℕ)) (commits : List Commit) : Type 0 where
  pub each : (n : ℕ) → n ≤ length commits → Meets n (pages_after opening commits n)
