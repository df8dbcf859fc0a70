-- Two neighbours that become one page.
use Rattle.std.proofs.Common.{◌≡◌, ◌≢◌, ℕ, [], ◌∷◌, refl, arith}
use Rattle.std.proofs.lemmas.Bool.{ne_eqb}
use Rattle.spe_model.specs.declared.page.PageCells.{PageCells}
use Rattle.spe_model.specs.Paging.{Paging}
use Rattle.spe_model.specs.Tree.{header_end}
use Rattle.spe_space.specs.declared.pages.Pages.{Ghosts}
use Rattle.spe_frame.specs.Held.{AreHeld, IsOthers, Shifts, Spares}
use Rattle.spe_frame.specs.Laws.{HeldApart, ShiftsAlike, ShiftsBeside, ShiftsBoth, SparesAlike, SparesBeside, SparesBoth}
use Rattle.spe_frame.specs.Times.{AreSame}
use Rattle.spe_insert.specs.Node.{LaysNode}
use Rattle.spe_insert.proofs.LeafLemmas.{here_once, node_there}
use Rattle.spe_delete.specs.Merge.{KeepsBoth, Merges}

-- a page other than page 1 has no header of the file before its own
pub later_header : (page : ℕ) → page ≢ 1 → header_end page ≡ 0
later_header page other = rw (ne_eqb page 1 other) refl

swapped : (first second : ℕ) → AreSame (first ∷ second ∷ []) (second ∷ first ∷ [])
swapped first second n = omega arith

-- the laws of changes
pub record MergeLaws {P : Type 0} (g : Ghosts P) : Type 0 where
  pub both : ShiftsBoth g
  pub beside : ShiftsBeside g
  pub alike : ShiftsAlike g
  pub spares : SparesBoth g
  pub spares_beside : SparesBeside g
  pub spares_alike : SparesAlike g
  pub apart : HeldApart g

module _ {P : Type 0} (g : Ghosts P) (laws : MergeLaws g) (s a : P) (pages : Paging) (first second : ℕ) (held : AreHeld g s pages (first ∷ second ∷ [])) where
  pub first_held : AreHeld g s pages (first ∷ [])
  first_held = (laws.apart s pages (first ∷ []) (second ∷ []) held).0

  -- the first page could not be put
  pub lay_fails : Spares g s a pages (first ∷ []) 0 → Spares g s a pages (first ∷ second ∷ []) 0
  lay_fails fails = laws.spares_beside s a pages (first ∷ []) (second ∷ []) 0 fails

  -- the first page was put, or looked at
  module _ (laid : Shifts g s a pages (first ∷ []) (first ∷ []) 0) where
    pub keeps_both_pages : KeepsBoth g s a pages first second
    keeps_both_pages = laws.beside s a pages (first ∷ []) (first ∷ []) (second ∷ []) 0 laid

    both_held : AreHeld g a pages (first ∷ second ∷ [])
    both_held = keeps_both_pages.held held

    then_swapped : Shifts g s a pages (first ∷ second ∷ []) (second ∷ first ∷ []) 0
    then_swapped =
        laws.alike s a pages (first ∷ second ∷ []) (first ∷ second ∷ []) (first ∷ second ∷ []) (second ∷ first ∷ []) 0 (λ n. refl) (swapped first second) keeps_both_pages

    pub second_held : AreHeld g a pages (second ∷ [])
    second_held = (laws.apart a pages (second ∷ []) (first ∷ []) (then_swapped.held held)).0

    -- the second page could not be made free
    pub give_fails : (b : P) → Spares g a b pages (second ∷ []) 0 → Spares g s b pages (first ∷ second ∷ []) 0
    give_fails b fails = laws.spares s a b pages (first ∷ second ∷ []) (second ∷ first ∷ []) 0 0 then_swapped (laws.spares_beside a b pages (second ∷ []) (first ∷ []) 0 fails)

    pub merges : (b : P) (cells : PageCells) → first ≢ 1 → LaysNode g s a first cells → Shifts g a b pages (second ∷ []) [] 0 → Merges g s b pages first second cells
    merges b cells later lays freed =
        let one = both_held.single first in
        let here = here_once first in
        let apart : IsOthers g a pages (second ∷ []) first = record { used = both_held.used first (omega (arith, here)); lacks = omega (arith, one, here) } in
        record {
          node = node_there g s a b pages first cells lays (freed.spares.laid first apart later);
          shifts = laws.both s a b pages (first ∷ second ∷ []) (second ∷ first ∷ []) (first ∷ []) 0 0 then_swapped (laws.beside a b pages (second ∷ []) [] (first ∷ []) 0 freed);
        }
