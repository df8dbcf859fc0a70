-- A root that gets a level less.
use Rattle.std.proofs.Common.{◌≡◌, ◌≢◌, ℕ, suc, ◌≤◌, ◌∙◌, List, [], ◌∷◌, Option, refl, sym, ap, subst, arith, unwrap_or, take}
use Rattle.spe_model.specs.Page.{page_at}
use Rattle.spe_model.specs.Paging.{Paging}
use Rattle.spe_model.specs.Standing.{all_pages}
use Rattle.spe_model.specs.Tree.{header_end}
use Rattle.spe_space.specs.declared.pages.Pages.{Ghosts}
use Rattle.spe_space.specs.Calls.{sight}
use Rattle.spe_frame.specs.Held.{AreHeld, IsOthers, IsReady, Puts, Shifts, Spares}
use Rattle.spe_frame.specs.Laws.{HeldApart, ShiftsAlike, ShiftsBeside, ShiftsBoth, ShiftsNone, SparesAlike, SparesBeside, SparesBoth}
use Rattle.spe_frame.specs.Times.{AreSame, times}
use Rattle.spe_frame.proofs.TimesLemmas.{each_from_holds}
use Rattle.spe_frame.proofs.TreeLemmas.{IsKept, lower_pages}
use Rattle.spe_cut.specs.Run.{AreKept, IsHeld, alone}
use Rattle.spe_cut.proofs.HolderLemmas.{run_of_holder}
use Rattle.spe_insert.proofs.LeafLemmas.{here_once}
use Rattle.spe_insert.proofs.MoveLemmas.{IsMoved, moved_cells, moved_pages, moved_rows, moved_tree, pages_split}
use Rattle.spe_insert.proofs.PutBelowLemmas.{others_kept}
use Rattle.spe_delete.specs.Root.{HasOnlyChild, IsLower, Lowers}
use Rattle.spe_delete.proofs.MergeLemmas.{later_header}

-- the laws of changes
pub record RootLaws {P : Type 0} (g : Ghosts P) : Type 0 where
  pub idle : ShiftsNone g
  pub both : ShiftsBoth g
  pub beside : ShiftsBeside g
  pub alike : ShiftsAlike g
  pub spares : SparesBoth g
  pub spares_beside : SparesBeside g
  pub spares_alike : SparesAlike g
  pub apart : HeldApart g

swapped : (first second : ℕ) → AreSame (first ∷ second ∷ []) (second ∷ first ∷ [])
swapped first second n = omega arith

root_first : (child root : ℕ) (all rest : List ℕ) → all ≡ root ∷ child ∷ rest → AreSame all (child ∷ root ∷ rest)
root_first child root all rest is n = let e = ap (times n) is in omega (arith, e)

module _ {P : Type 0} (g : Ghosts P) (laws : RootLaws g) (s a : P) (pages : Paging) (root child : ℕ) (held : AreHeld g s pages (child ∷ root ∷ [])) where
  pub child_held : AreHeld g s pages (child ∷ [])
  child_held = (laws.apart s pages (child ∷ []) (root ∷ []) held).0

  -- the child was got
  module _ (seen : Shifts g s a pages (child ∷ []) (child ∷ []) 0) where
    to_root : Shifts g s a pages (child ∷ root ∷ []) (root ∷ child ∷ []) 0
    to_root =
        laws.alike s a pages (child ∷ root ∷ []) (child ∷ root ∷ []) (child ∷ root ∷ []) (root ∷ child ∷ []) 0 (λ n. refl) (swapped child root)
        (laws.beside s a pages (child ∷ []) (child ∷ []) (root ∷ []) 0 seen)

    pub root_held : AreHeld g a pages (root ∷ [])
    root_held = (laws.apart a pages (root ∷ []) (child ∷ []) (to_root.held held)).0

    pub lay_fails : (b : P) → Spares g a b pages (root ∷ []) 0 → Spares g s b pages (child ∷ root ∷ []) 0
    lay_fails b fails = laws.spares s a b pages (child ∷ root ∷ []) (root ∷ child ∷ []) 0 0 to_root (laws.spares_beside a b pages (root ∷ []) (child ∷ []) 0 fails)

    -- the root was put
    module _ (b : P) (laid : Shifts g a b pages (root ∷ []) (root ∷ []) 0) where
      to_child : Shifts g s b pages (child ∷ root ∷ []) (child ∷ root ∷ []) 0
      to_child =
          laws.both s a b pages (child ∷ root ∷ []) (root ∷ child ∷ []) (child ∷ root ∷ []) 0 0 to_root
          (laws.alike a b pages (root ∷ child ∷ []) (root ∷ child ∷ []) (root ∷ child ∷ []) (child ∷ root ∷ []) 0 (λ n. refl) (swapped root child)
          (laws.beside a b pages (root ∷ []) (root ∷ []) (child ∷ []) 0 laid))

      pub child_still : AreHeld g b pages (child ∷ [])
      child_still = (laws.apart b pages (child ∷ []) (root ∷ []) (to_child.held held)).0

      pub give_fails : (c : P) → Spares g b c pages (child ∷ []) 0 → Spares g s c pages (child ∷ root ∷ []) 0
      give_fails c fails = laws.spares s b c pages (child ∷ root ∷ []) (child ∷ root ∷ []) 0 0 to_child (laws.spares_beside b c pages (child ∷ []) (root ∷ []) 0 fails)

      -- and the child is free
      module _ (c : P) (wide : 5 ≤ g.used s) (ready : IsReady g s pages) (bytes : List ℕ) (is : bytes ≡ sight g s pages child) (puts : Puts g a b root bytes)
          (other : root ≢ 1) (low_child : 2 ≤ child) (freed : Shifts g b c pages (child ∷ []) [] 0) where
        abbrev u : ℕ
        u = g.used s

        abbrev was : Paging
        was = sight g s pages

        abbrev now : Paging
        now = sight g c pages

        total : Shifts g s c pages (child ∷ root ∷ []) (root ∷ []) 0
        total = laws.both s b c pages (child ∷ root ∷ []) (child ∷ root ∷ []) (root ∷ []) 0 0 to_child (laws.beside b c pages (child ∷ []) [] (root ∷ []) 0 freed)

        same : now root ≡ was child
        same =
            let both_held = to_child.held held in
            let one = both_held.single root in
            let there = here_once root in
            let apart : IsOthers g b pages (child ∷ []) root = record { used = both_held.used root (omega (arith, there)); lacks = omega (arith, one, there) } in
            ap (λ (o : Option (List ℕ)). unwrap_or o (pages root)) (freed.spares.laid root apart other ∙ puts.there) ∙ is

        child_later : child ≢ 1
        child_later e = omega (arith, e, low_child)

        module _ (height low high : ℕ) (only : HasOnlyChild g s pages height low high root child) where
          one_child : IsHeld u was height low high root (alone child)
          one_child = run_of_holder u was height low high root (alone child) wide only.holds only.tree

          all_are : all_pages u was (suc height) root ≡ root ∷ child ∷ lower_pages u was height child
          all_are = one_child.pages_are ∙ ap (λ (ps : List ℕ). root ∷ ps) (pages_split u was height child)

          order : AreSame (all_pages u was (suc height) root) (child ∷ root ∷ lower_pages u was height child)
          order = root_first child root (all_pages u was (suc height) root) (lower_pages u was height child) all_are

          ordered : Shifts g s s pages (all_pages u was (suc height) root) (child ∷ root ∷ lower_pages u was height child) 0
          ordered =
              laws.alike s s pages (all_pages u was (suc height) root) (all_pages u was (suc height) root) (all_pages u was (suc height) root)
              (child ∷ root ∷ lower_pages u was height child) 0 (λ n. refl) order (laws.idle s pages (all_pages u was (suc height) root) ready)

          kept : AreKept was now (lower_pages u was height child)
          kept = others_kept g s c pages (child ∷ root ∷ []) (lower_pages u was height child) 0 (ordered.held only.held) (ordered.front only.later) total.spares

          moved : IsMoved u was now height child root
          moved = record {
            node = ap (λ (bs : List ℕ). page_at (take u bs) (header_end root)) same
                ∙ ap (page_at (take u (was child))) (later_header root other ∙ sym (later_header child child_later));
            lower = each_from_holds (IsKept was now) (lower_pages u was height child) kept;
          }

          is_lower : IsLower g s c pages height low high root child
          is_lower = record {
            tree = moved_tree u was now height low high child root moved one_child.children;
            rows = moved_rows u was now height child root moved ∙ sym one_child.rows;
            filled = moved_cells u was now height child root child_later moved;
            shifts = subst (λ (ys : List ℕ). Shifts g s c pages (all_pages u was (suc height) root) ys 0) (sym (moved_pages u was now height child root moved))
                (laws.both s s c pages (all_pages u was (suc height) root) (child ∷ root ∷ lower_pages u was height child) (root ∷ lower_pages u was height child) 0 0 ordered
                (laws.beside s c pages (child ∷ root ∷ []) (root ∷ []) (lower_pages u was height child) 0 total));
          }

        pub lowers : Lowers g s c pages root child
        lowers = record { same = same; shifts = total; lower = is_lower }
