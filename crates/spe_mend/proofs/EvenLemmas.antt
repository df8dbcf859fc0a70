-- The children of two pages, put on one of them or on both.
use Rattle.std.proofs.Common.{◌≡◌, ◌≢◌, ℕ, ℤ, ◌≤◌, ◌∙◌, List, [], ◌∷◌, refl, sym, ap, subst, arith, Ok}
use Rattle.spe_model.specs.declared.page.Cell.{Cell}
use Rattle.spe_model.specs.declared.page.Kind.TheVariants.{TableInterior}
use Rattle.spe_model.specs.declared.page.PageCells.{PageCells}
use Rattle.spe_model.specs.Paging.{Paging}
use Rattle.spe_model.specs.Tree.{node_at}
use Rattle.spe_space.specs.declared.pages.Pages.{Ghosts}
use Rattle.spe_space.specs.Calls.{sight}
use Rattle.spe_format.specs.Canonical.{AreWritable}
use Rattle.spe_frame.specs.Held.{AreHeld, IsOthers, Shifts, Spares}
use Rattle.spe_frame.specs.Times.{AreSame}
use Rattle.spe_cut.specs.Parts.{IsHalved, run_cells}
use Rattle.spe_cut.specs.Run.{Run}
use Rattle.spe_cut.specs.Split.{Cut}
use Rattle.spe_insert.specs.Node.{LaysNode}
use Rattle.spe_insert.proofs.LeafLemmas.{here_once, node_there}
use Rattle.spe_delete.proofs.MergeLemmas.{MergeLaws, keeps_both_pages, second_held}
use Rattle.spe_mend.specs.Pair.{LaysBoth, LaysHalves}

abbrev run_with : List Cell → ℕ → Run
run_with cells right = record { cells = cells; right = right }

abbrev node_with : List Cell → ℕ → PageCells
node_with cells right = record { kind = TableInterior; cells = cells; right = right }

swapped : (first second : ℕ) → AreSame (first ∷ second ∷ []) (second ∷ first ∷ [])
swapped first second n = omega arith

-- the first page was put
module _ {P : Type 0} (g : Ghosts P) (laws : MergeLaws g) (s a : P) (pages : Paging) (first second : ℕ) (held : AreHeld g s pages (first ∷ second ∷ []))
    (laid : Shifts g s a pages (first ∷ []) (first ∷ []) 0) where
  both_held : AreHeld g a pages (first ∷ second ∷ [])
  both_held = (keeps_both_pages g laws s a pages first second held laid).held held

  turned : Shifts g s a pages (first ∷ second ∷ []) (second ∷ first ∷ []) 0
  turned =
      laws.alike s a pages (first ∷ second ∷ []) (first ∷ second ∷ []) (first ∷ second ∷ []) (second ∷ first ∷ []) 0 (λ n. refl) (swapped first second)
      (keeps_both_pages g laws s a pages first second held laid)

  -- the second was got
  module _ (b : P) (seen : Shifts g a b pages (second ∷ []) (second ∷ []) 0) where
    pub second_ready : AreHeld g b pages (second ∷ [])
    second_ready = seen.held (second_held g laws s a pages first second held laid)

    -- and put
    module _ (e : P) (put : Shifts g b e pages (second ∷ []) (second ∷ []) 0) where
      rest : Shifts g a e pages (second ∷ []) (second ∷ []) 0
      rest = laws.both a b e pages (second ∷ []) (second ∷ []) (second ∷ []) 0 0 seen put

      pub both_laid : (low high : PageCells) → first ≢ 1 → LaysNode g s a first low → LaysNode g b e second high → LaysBoth g s e pages first second low high
      both_laid low high later lays_first lays_second =
          let one = both_held.single first in
          let here = here_once first in
          let apart : IsOthers g a pages (second ∷ []) first = record { used = both_held.used first (omega (arith, here)); lacks = omega (arith, one, here) } in
          record {
            first_node = node_there g s a e pages first low lays_first (rest.spares.laid first apart later);
            second_node = subst (λ (v : ℕ). node_at v (sight g e pages) second ≡ Ok high) (seen.spares.sizes.used ∙ laid.spares.sizes.used)
                (node_there g b e e pages second high lays_second refl);
            shifts = laws.alike s e pages (first ∷ second ∷ []) (second ∷ first ∷ []) (first ∷ second ∷ []) (first ∷ second ∷ []) 0 (λ n. refl) (swapped second first)
                (laws.both s a e pages (first ∷ second ∷ []) (second ∷ first ∷ []) (second ∷ first ∷ []) 0 0 turned
                (laws.beside a e pages (second ∷ []) (second ∷ []) (first ∷ []) 0 rest));
          }

  -- the children didn't fit the first page, and stand on both in halves
  pub halves_on_both : (e : P) (usable : ℕ) (key : ℤ) (children low high : Run) → usable ≡ g.used s → IsHalved usable children low key high
      → LaysBoth g a e pages first second (run_cells low) (run_cells high) → LaysHalves g s e pages first second children key
  halves_on_both e usable key children low high same h two =
      let cut : Cut = record { lower = low.cells; middle = h.middle; higher = high.cells; right = high.right } in
      let used : g.used a ≡ g.used s = laid.spares.sizes.used in
      let b = sight g e pages in
      record {
        cut = cut;
        whole_is = ap (λ (cs : List Cell). run_with cs high.right) (sym h.joined) ∙ ap (run_with children.cells) (sym h.right);
        key_is = h.key_is;
        low = record {
          node = subst (λ (r : ℕ). node_at (g.used s) b first ≡ Ok (node_with low.cells r)) (sym h.child) (subst (λ (u : ℕ). node_at u b first ≡ Ok (run_cells low)) used two.first_node);
          writable = subst (λ (u : ℕ). AreWritable TableInterior u low.cells) same h.writable.0.cells;
        };
        high = record {
          node = subst (λ (u : ℕ). node_at u b second ≡ Ok (run_cells high)) used two.second_node;
          writable = subst (λ (u : ℕ). AreWritable TableInterior u high.cells) same h.writable.1.cells;
        };
        some = h.some;
        shifts = laws.both s a e pages (first ∷ second ∷ []) (first ∷ second ∷ []) (first ∷ second ∷ []) 0 0 (keeps_both_pages g laws s a pages first second held laid) two.shifts;
      }

  pub even_fails : (e : P) → Spares g a e pages (first ∷ second ∷ []) 0 → Spares g s e pages (first ∷ second ∷ []) 0
  even_fails e fails = laws.spares s a e pages (first ∷ second ∷ []) (first ∷ second ∷ []) 0 0 (keeps_both_pages g laws s a pages first second held laid) fails

pub later_of_low : (page : ℕ) → 2 ≤ page → page ≢ 1
later_of_low page low is = absurd (omega (arith, low, is))
