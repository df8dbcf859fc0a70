-- A leaf without a cell that goes from the page above it.
use Rattle.std.proofs.Common.{◌≡◌, ◌≢◌, ℕ, zero, suc, ℤ, ◌≤◌, ◌∙◌, List, [], ◌∷◌, ◌++◌, Ok, true, false, take, length, refl, sym, ap, subst, arith, inr}
use Rattle.std.specs.List.{flat_map}
use Rattle.spe_model.specs.declared.page.Cell.{Cell}
use Rattle.spe_model.specs.declared.page.Kind.TheVariants.{TableInterior}
use Rattle.spe_model.specs.declared.page.PageCells.{PageCells}
use Rattle.spe_model.specs.Page.{ascends, page_at}
use Rattle.spe_model.specs.Paging.{PageMap, Paging, lay}
use Rattle.spe_model.specs.Served.{HasCells}
use Rattle.spe_model.specs.Standing.{all_pages, chain_pages}
use Rattle.spe_model.specs.Tree.{IsTree, child_for, header_end, node_at, node_cells, node_right, rank, rows_of, tree_rows}
use Rattle.spe_space.specs.declared.pages.Pages.{Ghosts}
use Rattle.spe_space.specs.Calls.{Reads, sight}
use Rattle.spe_format.specs.Canonical.{AreWritable, IsWritable}
use Rattle.spe_format.proofs.WritableLemmas.{taken_writable}
use Rattle.spe_frame.specs.Held.{AreHeld, Shifts, Spares}
use Rattle.spe_frame.specs.Times.{AreSame, Lacks, times}
use Rattle.spe_frame.proofs.TimesLemmas.{here}
use Rattle.spe_cut.specs.Parts.{run_cells}
use Rattle.spe_cut.specs.Run.{AreKept, HoldsRun, IsHeld, IsHolder, IsRun, Run, RunStays, alone, pages_in}
use Rattle.spe_cut.specs.Stretch.{RunIsWider}
use Rattle.spe_insert.specs.Below.{IsPlaceFor}
use Rattle.spe_insert.specs.Laws.{HaveLaws}
use Rattle.spe_insert.proofs.PutBelowLemmas.{later_page, others_kept}
use Rattle.spe_delete.specs.Child.{DropsChild, HasEmptyLeaf, fewer_of}
use Rattle.spe_delete.specs.Merge.{Merges}
use Rattle.spe_delete.proofs.FewerLemmas.{fewer_below, fewer_joined, fewer_long, fewer_times, fewer_under}

-- the page as it was read
pub legal_is : (usable u page : ℕ) (pages : Paging) (bytes : List ℕ) (run : Run) → usable ≡ u → bytes ≡ pages page → node_at u pages page ≡ Ok (run_cells run)
    → page_at (take usable bytes) (header_end page) ≡ Ok (run_cells run)
legal_is usable u page pages bytes run same is node = rw (same, is) node

pub not_both : false ≡ true → ⊥
not_both is = absurd cc

-- what holds one level above the leaves holds at the height of such a page
pub at_one : (Q : ℕ → Type 0) (height : ℕ) → height ≡ 1 → Q (suc zero) → Q height
at_one Q height is one = subst Q (sym is) one

abbrev pub children_at : (usable : ℕ) → Paging → (page : ℕ) → Run
children_at usable pages page = record { cells = node_cells usable pages page; right = node_right usable pages page }

pub record IsEnd {P : Type 0} (g : Ghosts P) (s a : P) (pages : Paging) (low high page leaf : ℕ) (rowid : ℤ) : Type 0 where
  pub placed : IsPlaceFor g s pages (suc zero) low high page rowid
  pub empty : HasEmptyLeaf g s pages (suc zero) page leaf rowid
  pub reads : Reads g s a
  pub seen : Shifts g s a pages (all_pages (g.used s) (sight g s pages) (suc zero) page) (all_pages (g.used s) (sight g s pages) (suc zero) page) 0
  pub inside : g.used s ≤ length (sight g s pages page)
  pub wide : 480 ≤ g.used s

module _ {P : Type 0} (g : Ghosts P) (laws : HaveLaws g) (wider : RunIsWider) (s a : P) (pages : Paging) (low high page leaf : ℕ) (rowid : ℤ)
    (x : IsEnd g s a pages low high page leaf rowid) where
  abbrev u : ℕ
  u = g.used s

  abbrev was : Paging
  was = sight g s pages

  abbrev children : Run
  children = children_at u was page

  abbrev left : Run
  left = fewer_of rowid children

  abbrev all : List ℕ
  all = all_pages u was (suc zero) page

  abbrev rest : List ℕ
  rest = pages_in u was zero left

  pub node : node_at u was page ≡ Ok (run_cells children)
  node = x.placed.tree.0

  holds : HoldsRun u was page children
  holds = record {
    node = x.placed.tree.0;
    writable = (taken_writable (was page) (header_end page) u (run_cells children) x.inside x.placed.tree.0).cells;
  }

  held_by : IsHeld u was zero low high page children
  held_by = laws.held u was zero low high page children (let w = x.wide in omega (arith, w)) holds x.placed.tree

  pub later : page ≢ 1
  later = later_page page all (pages_in u was zero children) held_by.pages_are x.placed.later

  left_is : 1 ≤ length children.cells → IsRun u was zero low high left
  left_is some =
      fewer_under (IsTree u was zero) (λ low high low' high' p tree from to. wider u was zero low high low' high' (alone p) tree from to) (rank rowid) low high children.cells children.right
      some held_by.children

  -- the keys of the others ascend
  pub left_ascends : 1 ≤ length children.cells → ascends left.cells ≡ true
  left_ascends some = laws.ascends u was zero low high left (left_is some)

  leaf_pages : all_pages u was zero (child_for (rank rowid) children.cells children.right) ≡ leaf ∷ []
  leaf_pages = ap (all_pages u was zero) x.empty.leads ∙ ap (λ (cells : List Cell). leaf ∷ flat_map (chain_pages u was) cells) x.empty.empty

  module _ (two : 2 ≤ length children.cells) where
    some : 1 ≤ length children.cells
    some = omega (arith, two)

    parts : AreSame all ((page ∷ leaf ∷ []) ++ rest)
    parts n =
        let whole = ap (times n) held_by.pages_are in
        let split = fewer_times (all_pages u was zero) (rank rowid) children.cells children.right n some in
        let mine = ap (times n) leaf_pages in
        omega (arith, whole, split, mine)

    apart : Shifts g s a pages all ((page ∷ leaf ∷ []) ++ rest) 0
    apart = laws.alike s a pages all all all ((page ∷ leaf ∷ []) ++ rest) 0 (λ n. refl) parts x.seen

    all_held : AreHeld g a pages ((page ∷ leaf ∷ []) ++ rest)
    all_held = apart.held x.placed.held

    lacks : Lacks ((page ∷ leaf ∷ []) ++ rest) 1
    lacks = apart.front x.placed.later

    pub two_held : AreHeld g a pages (page ∷ leaf ∷ [])
    two_held = (laws.apart a pages (page ∷ leaf ∷ []) rest all_held).0

    pub leaf_low : 2 ≤ leaf
    leaf_low =
        let there = here leaf leaf [] refl in
        let used = two_held.used leaf (omega (arith, there)) in
        let low_ = used.low in
        let other : leaf ≢ 1 = λ is. let none = lacks in let first = here 1 leaf [] (sym is) in absurd (omega (arith, none, first)) in
        omega (arith, low_, other)

    pub end_fails : (e : P) → Spares g a e pages (page ∷ leaf ∷ []) 0 → Spares g s e pages all 0
    end_fails e fails = laws.fails s a e pages all ((page ∷ leaf ∷ []) ++ rest) 0 0 apart (laws.fails_beside a e pages (page ∷ leaf ∷ []) rest 0 fails)

    module _ (e : P) (merges : Merges g a e pages page leaf (run_cells left)) (writable : AreWritable TableInterior u left.cells) where
      abbrev now : Paging
      now = sight g e pages

      kept_a : AreKept (sight g a pages) now rest
      kept_a = others_kept g a e pages (page ∷ leaf ∷ []) rest 0 all_held lacks merges.shifts.spares

      kept : AreKept was now rest
      kept = subst (λ (laid : PageMap). AreKept (lay laid pages) now rest) x.reads.laid kept_a

      stays : RunStays u was now zero left
      stays = laws.stays u was now zero left kept

      holds_now : HoldsRun u now page left
      holds_now = record {
        node = subst (λ (v : ℕ). node_at v now page ≡ Ok (run_cells left)) x.reads.used merges.node;
        writable = writable;
      }

      holder : IsHolder u now zero low high page left
      holder = laws.holder u now zero low high page left (let w = x.wide in omega (arith, w)) holds_now (stays.is low high (left_is some))

      rows_none : tree_rows u was zero (child_for (rank rowid) children.cells children.right) ≡ []
      rows_none = ap (tree_rows u was zero) x.empty.leads ∙ ap (rows_of u was) x.empty.empty

      one : 1 ≤ length left.cells
      one = (let long = fewer_long (rank rowid) children.cells children.right some in omega (arith, long, two))

      pub drops : DropsChild g s e pages (suc zero) low high page left
      drops = record {
        holds = holds_now;
        tree = holder.tree;
        rows = holder.rows ∙ stays.rows ∙ fewer_joined (tree_rows u was zero) (rank rowid) children.cells children.right some rows_none ∙ sym held_by.rows;
        some = one;
        filled = λ has.
            let below = held_by.filled has in
            holder.filled (inr one) (stays.filled (fewer_below (HasCells u was zero) (rank rowid) children.cells children.right below.1));
        shifts = subst (λ (ys : List ℕ). Shifts g s e pages all ys 0) (sym (holder.pages_are ∙ ap (λ (ps : List ℕ). page ∷ ps) stays.pages_are))
            (laws.both s a e pages all ((page ∷ leaf ∷ []) ++ rest) ((page ∷ []) ++ rest) 0 0 apart
            (laws.beside a e pages (page ∷ leaf ∷ []) (page ∷ []) rest 0 merges.shifts));
      }

      pub ended : (node : PageCells) → node ≡ run_cells left → DropsChild g s e pages (suc zero) low high page (record { cells = node.cells; right = node.right })
      ended node is = subst (λ (n : PageCells). DropsChild g s e pages (suc zero) low high page (record { cells = n.cells; right = n.right })) (sym is) drops

    pub ended_by : (e : P) (usable : ℕ) (node : PageCells) → usable ≡ u → node ≡ run_cells left → IsWritable node usable → Merges g a e pages page leaf node
        → DropsChild g s e pages (suc zero) low high page (record { cells = node.cells; right = node.right })
    ended_by e usable node same is form merges =
        ended e (subst (Merges g a e pages page leaf) is merges) (subst (λ (v : ℕ). AreWritable TableInterior v left.cells) same (subst (λ (n : PageCells). AreWritable n.kind usable n.cells) is form.cells)) node is
