-- A tree that is gathered into its root.
use Rattle.std.proofs.Common.{◌≡◌, ◌≢◌, ℕ, ◌≤◌, ◌∙◌, List, [], ◌∷◌, ◌++◌, Ok, refl, sym, ap, subst, arith}
use Rattle.std.specs.List.{flat_map}
use Rattle.spe_model.specs.declared.page.Cell.{Cell}
use Rattle.spe_model.specs.declared.page.Kind.TheVariants.{TableLeaf}
use Rattle.spe_model.specs.declared.page.PageCells.{PageCells}
use Rattle.spe_model.specs.Paging.{Paging}
use Rattle.spe_model.specs.Standing.{all_pages, chain_pages}
use Rattle.spe_model.specs.Tree.{AreRows, cells_in, node_at, rows_of, tree_pages}
use Rattle.spe_space.specs.declared.pages.Pages.{Ghosts}
use Rattle.spe_space.specs.Calls.{sight}
use Rattle.spe_frame.specs.Held.{AreHeld, IsOthers, IsReady, Shifts, Spares}
use Rattle.spe_frame.specs.Laws.{HeldApart, ShiftsAlike, ShiftsBeside, ShiftsBoth, ShiftsNone, SparesBeside, SparesBoth, SparesAlike}
use Rattle.spe_frame.specs.Times.{AreSame, Lacks, times}
use Rattle.spe_frame.proofs.TimesLemmas.{here, times-append}
use Rattle.spe_cut.specs.Joined.{AreGathered, RunIsGathered, cells_under}
use Rattle.spe_cut.specs.Parts.{leaf_cells}
use Rattle.spe_cut.specs.Rows.{KeptRowsStay, RowsStay}
use Rattle.spe_cut.specs.Run.{AreKept, alone}
use Rattle.spe_cut.proofs.HolderLemmas.{IsMade, Reading}
use Rattle.spe_insert.specs.Node.{LaysNode}
use Rattle.spe_insert.proofs.LeafLemmas.{node_there}
use Rattle.spe_insert.proofs.PutBelowLemmas.{others_kept}
use Rattle.spe_delete.specs.Gather.{Gathers, HasLeaves, IsAlone}

pub record GatherLaws {P : Type 0} (g : Ghosts P) : Type 0 where
  pub idle : ShiftsNone g
  pub both : ShiftsBoth g
  pub beside : ShiftsBeside g
  pub alike : ShiftsAlike g
  pub spares : SparesBoth g
  pub spares_beside : SparesBeside g
  pub spares_alike : SparesAlike g
  pub apart : HeldApart g
  pub stay : KeptRowsStay
  pub gathered : RunIsGathered

abbrev ok_cells : PageCells → Reading
ok_cells cells = Ok cells

behind : (n root : ℕ) (others : List ℕ) → times n (root ∷ others) ≡ times n (others ++ (root ∷ []))
behind n root others = omega (arith, times-append n others (root ∷ []))

module _ {P : Type 0} (g : Ghosts P) (laws : GatherLaws g) (s a : P) (pages : Paging) (root : ℕ) (others : List ℕ) (held : AreHeld g s pages (root ∷ others))
    (later : Lacks (root ∷ others) 1) where
  pub root_held : AreHeld g s pages (root ∷ [])
  root_held = (laws.apart s pages (root ∷ []) others held).0

  pub root_later : root ≢ 1
  root_later is = let none = later in let first = here 1 root others (sym is) in absurd (omega (arith, none, first))

  -- the root could not be put
  pub lay_fails : Spares g s a pages (root ∷ []) 0 → Spares g s a pages (root ∷ others) 0
  lay_fails fails = laws.spares_beside s a pages (root ∷ []) others 0 fails

  -- the root was put
  module _ (laid : Shifts g s a pages (root ∷ []) (root ∷ []) 0) where
    both_then : Shifts g s a pages (root ∷ others) (root ∷ others) 0
    both_then = laws.beside s a pages (root ∷ []) (root ∷ []) others 0 laid

    then_behind : Shifts g s a pages (root ∷ others) (others ++ (root ∷ [])) 0
    then_behind =
        laws.alike s a pages (root ∷ others) (root ∷ others) (root ∷ others) (others ++ (root ∷ [])) 0 (λ n. refl) (λ n. behind n root others) both_then

    pub others_held : AreHeld g a pages others
    others_held = (laws.apart a pages others (root ∷ []) (then_behind.held held)).0

    pub others_later : Lacks others 1
    others_later = let none = later in omega (arith, none)

    pub give_fails : (b : P) → Spares g a b pages others 0 → Spares g s b pages (root ∷ others) 0
    give_fails b fails = laws.spares s a b pages (root ∷ others) (others ++ (root ∷ [])) 0 0 then_behind (laws.spares_beside a b pages others (root ∷ []) 0 fails)

    -- and the other pages are free
    module _ (b : P) (ready : IsReady g s pages) (wide : 5 ≤ g.used s) (cells : PageCells) (lays : LaysNode g s a root cells) (freed : Shifts g a b pages others [] 0) where
      abbrev u : ℕ
      u = g.used s

      abbrev was : Paging
      was = sight g s pages

      abbrev now : Paging
      now = sight g b pages

      total : Shifts g s b pages (root ∷ others) (root ∷ []) 0
      total = laws.both s a b pages (root ∷ others) (others ++ (root ∷ [])) (root ∷ []) 0 0 then_behind (laws.beside a b pages others [] (root ∷ []) 0 freed)

      node : node_at u now root ≡ Ok cells
      node =
          let whole = both_then.held held in
          let one = whole.single root in
          let there = here root root others refl in
          let apart : IsOthers g a pages others root = record { used = whole.used root (omega (arith, there)); lacks = omega (arith, one, there) } in
          node_there g s a b pages root cells lays (freed.spares.laid root apart root_later)

      module _ (height low high : ℕ) (has : HasLeaves g s pages height low high root others cells) where
        abbrev leaves : List Cell
        leaves = cells_under u was height root

        abbrev chains : List ℕ
        chains = flat_map (chain_pages u was) leaves

        abbrev all : List ℕ
        all = all_pages u was height root

        is : AreGathered u was height low high (alone root)
        is = laws.gathered u was height low high (alone root) has.tree

        parts : AreSame all ((root ∷ others) ++ chains)
        parts n =
            let whole = is.pages_are wide has.whole n in
            let nodes = has.others_are n in
            omega (arith, whole, nodes, times-append n (tree_pages u was height root) chains, times-append n others chains)

        ordered : Shifts g s s pages all ((root ∷ others) ++ chains) 0
        ordered = laws.alike s s pages all all all ((root ∷ others) ++ chains) 0 (λ n. refl) parts (laws.idle s pages all ready)

        kept : AreKept was now chains
        kept = others_kept g s b pages (root ∷ others) chains 0 (ordered.held has.held) (ordered.front has.later) total.spares

        stay : RowsStay u was now leaves
        stay = laws.stay u was now leaves kept

        reads : node_at u now root ≡ Ok (leaf_cells leaves)
        reads = node ∙ ap ok_cells has.cells_are

        pages_now : all_pages u now 0 root ≡ (root ∷ []) ++ chains
        pages_now = ap (λ (r : Reading). root ∷ flat_map (chain_pages u now) (cells_in r)) reads ∙ ap (λ (ps : List ℕ). root ∷ ps) stay.chains

        stands_alone : IsAlone g s b pages height low high root
        stands_alone = record {
          tree = (let Q : Reading → Type 0 = λ r. IsMade TableLeaf r × AreRows u now low high (cells_in r) in
              subst Q (sym reads) (refl, stay.rows low high is.rows));
          rows = ap (λ (r : Reading). rows_of u now (cells_in r)) reads ∙ stay.are ∙ sym is.rows_are;
          shifts = subst (λ (ys : List ℕ). Shifts g s b pages all ys 0) (sym pages_now)
              (laws.both s s b pages all ((root ∷ others) ++ chains) ((root ∷ []) ++ chains) 0 0 ordered
              (laws.beside s b pages (root ∷ others) (root ∷ []) chains 0 total));
        }

      pub gathers : Gathers g s b pages root others cells
      gathers = record { node = node; shifts = total; alone = stands_alone }
