-- A tree whose rows fit its root.
use Rattle.std.proofs.Common.{◌≡◌, ℕ, zero, suc, ◌+◌, ◌-◌, ◌≤◌, ◌∙◌, true, List, [], ◌∷◌, ◌++◌, take, drop, length, refl, sym, ap, subst, arith}
use Rattle.std.specs.Bool.{◌==◌}
use Rattle.std.specs.List.{flat_map}
use Rattle.std.proofs.lemmas.Bool.{eqb-true}
use Rattle.std.proofs.lemmas.List.{length-append, take_all}
use Rattle.spe_model.specs.declared.page.Cell.{Cell}
use Rattle.spe_model.specs.Page.{ascends}
use Rattle.spe_model.specs.Paging.{Paging}
use Rattle.spe_model.specs.Standing.{all_pages, chain_pages}
use Rattle.spe_model.specs.Tree.{IsTree, fan, node_cells, node_right, tree_pages, tree_rows}
use Rattle.spe_space.specs.declared.pages.Pages.{Ghosts}
use Rattle.spe_space.specs.Calls.{Reads, sight}
use Rattle.spe_frame.specs.Held.{AreHeld, Shifts, Spares}
use Rattle.spe_frame.specs.Times.{AreSame, HoldsOf, Lacks, times}
use Rattle.spe_cut.specs.Joined.{AreGathered, RunIsGathered, cells_under}
use Rattle.spe_cut.specs.Parts.{leaf_cells}
use Rattle.spe_cut.specs.Rows.{RowsAscend}
use Rattle.spe_cut.specs.Run.{alone}
use Rattle.spe_insert.specs.Laws.{HaveLaws}
use Rattle.spe_delete.specs.declared.leaves.Leaves.{Leaves}
use Rattle.spe_delete.specs.Gather.{Gathers, HasLeaves, IsAlone}
use Rattle.spe_delete.specs.Leaves.{GathersTree, IsHeldTree, SeesTree, StaysWide}
use Rattle.spe_delete.proofs.BelowLemmas.{is_so, was_so}
use Rattle.spe_delete.proofs.CollectLemmas.{part_held, part_later}

-- the pages of a tree behind its root
abbrev nodes_behind : (usable : ℕ) (pages : Paging) (height page : ℕ) → List ℕ
nodes_behind usable pages zero page = []
nodes_behind usable pages (suc h) page = fan (tree_pages usable pages h) (node_cells usable pages page) (node_right usable pages page)

nodes_first : (usable : ℕ) (pages : Paging) (height page : ℕ) → tree_pages usable pages height page ≡ page ∷ nodes_behind usable pages height page
nodes_first usable pages zero page = refl
nodes_first usable pages (suc h) page = refl

nodes_some : (usable : ℕ) (pages : Paging) (height page : ℕ) → 1 ≤ length (tree_pages usable pages height page)
nodes_some usable pages height page = let long = ap length (nodes_first usable pages height page) in omega (arith, long)

fan_some : (own : ℕ → List ℕ) → ((page : ℕ) → 1 ≤ length (own page)) → (cells : List Cell) (right : ℕ) → 1 ≤ length (fan own cells right)
fan_some own some [] right = some right
fan_some own some (c ∷ cs) right = let one = some c.left in omega (arith, one, length-append (own c.left) (fan own cs right))

-- a tree that is one page is a leaf
single_low : (usable : ℕ) (pages : Paging) (height page : ℕ) → length (tree_pages usable pages height page) ≤ 1 → height ≡ 0
single_low usable pages zero page single = refl
single_low usable pages (suc h) page single =
    let some = fan_some (tree_pages usable pages h) (nodes_some usable pages h) (node_cells usable pages page) (node_right usable pages page) in
    absurd (omega (arith, single, some))

-- a list and what is behind its first number
behind_first : (list rest : List ℕ) (x : ℕ) → list ≡ x ∷ rest → list ≡ x ∷ take (length list - 1) (drop 1 list)
behind_first list rest x is =
    is ∙ ap (λ (ys : List ℕ). x ∷ ys) (sym (ap (λ (zs : List ℕ). take (length zs - 1) (drop 1 zs)) is ∙ take_all (length (x ∷ rest) - 1) rest (omega arith)))

behind_long : (list : List ℕ) → 1 ≤ length list → length (take (length list - 1) (drop 1 list)) + 1 ≡ length list
behind_long [] some = absurd (omega (arith, some))
behind_long (x ∷ xs) some = let same = ap length (take_all (length (x ∷ xs) - 1) xs (omega arith)) in omega (arith, same)

module _ {P : Type 0} (g : Ghosts P) (laws : HaveLaws g) (s m : P) (pages : Paging) (height low high root : ℕ) (held : IsHeldTree g s pages height low high root) (reads : Reads g s m)
    (seen : SeesTree g s m pages height root) (old new : Leaves) (no_cells : old.cells.items ≡ []) (no_pages : old.pages.items ≡ []) (is : GathersTree g s pages height root old new) where
  abbrev u : ℕ
  u = g.used s

  abbrev p : Paging
  p = sight g s pages

  abbrev leaves : List Cell
  leaves = cells_under u p height root

  abbrev nodes : List ℕ
  nodes = tree_pages u p height root

  abbrev chains : List ℕ
  chains = flat_map (chain_pages u p) leaves

  abbrev all : List ℕ
  all = all_pages u p height root

  cells_are : new.cells.items ≡ leaves
  cells_are = is.gains.cells_are ∙ ap (λ (xs : List Cell). xs ++ leaves) no_cells

  nodes_are : new.pages.items ≡ nodes
  nodes_are = is.gains.pages_are ∙ ap (λ (xs : List ℕ). xs ++ nodes) no_pages

  -- the root is the only page
  pub stays_single : (list : List ℕ) → list ≡ new.pages.items → length list ≤ 1 → StaysWide g s m pages height root
  stays_single list list_is single =
      let long = ap length (list_is ∙ nodes_are) in
      record { alone = λ few. single_low u p height root (omega (arith, long, single)); shifts = seen }

  pub stays_first : (list : List ℕ) → list ≡ new.pages.items → true ≡ (length (take (length list - 1) (drop 1 list)) == 0) → StaysWide g s m pages height root
  stays_first list list_is none =
      let long = ap length (list_is ∙ nodes_are) in
      let behind = eqb-true (length (take (length list - 1) (drop 1 list))) 0 (sym none) in
      let some = nodes_some u p height root in
      let all_ = behind_long list (omega (arith, long, some)) in
      stays_single list list_is (omega (arith, behind, all_))

  module _ (gathered : RunIsGathered) (wide : 5 ≤ u) (list : List ℕ) (list_is : list ≡ new.pages.items) where
    abbrev others : List ℕ
    others = take (length list - 1) (drop 1 list)

    list_first : nodes ≡ root ∷ others
    list_first = sym (list_is ∙ nodes_are) ∙ behind_first list (nodes_behind u p height root) root (list_is ∙ nodes_are ∙ nodes_first u p height root)

    whole : AreGathered u p height low high (alone root)
    whole = gathered u p height low high (alone root) held.tree

    parts : AreSame all (nodes ++ chains)
    parts = whole.pages_are wide is.whole

    pub own_held : AreHeld g m pages (root ∷ others)
    own_held = subst (AreHeld g m pages) list_first (part_held g laws s m pages all nodes chains parts seen held.held)

    pub own_later : Lacks (root ∷ others) 1
    own_later = subst (λ (ns : List ℕ). Lacks ns 1) list_first (part_later g laws s m pages all nodes chains parts seen held.later)

    pub rows_ascend : RowsAscend → ascends new.cells.items ≡ true
    rows_ascend law = ap ascends cells_are ∙ law u p low high leaves whole.rows

    pub own_fails : (e : P) → Spares g m e pages (root ∷ others) 0 → Spares g s e pages all 0
    own_fails e fails =
        let mine : Spares g m e pages nodes 0 = subst (λ (ns : List ℕ). Spares g m e pages ns 0) (sym list_first) fails in
        laws.fails s m e pages all (nodes ++ chains) 0 0 (laws.alike s m pages all all all (nodes ++ chains) 0 (λ n. refl) parts seen) (laws.fails_beside m e pages nodes chains 0 mine)

    has : HasLeaves g m pages height low high root others (leaf_cells new.cells.items)
    has = record {
      tree = is_so g s m pages (λ v q. IsTree v q height low high root) reads held.tree;
      held = is_so g s m pages (λ v q. AreHeld g m pages (all_pages v q height root)) reads (seen.held held.held);
      later = is_so g s m pages (λ v q. times 1 (all_pages v q height root) ≡ 0) reads held.later;
      cells_are = ap leaf_cells (is_so g s m pages (λ v q. new.cells.items ≡ cells_under v q height root) reads cells_are);
      others_are = λ n. ap (times n) (is_so g s m pages (λ v q. tree_pages v q height root ≡ root ∷ others) reads list_first);
      whole = is_so g s m pages (λ v q. HoldsOf (λ n. v ≤ length (q n)) (tree_pages v q height root)) reads is.whole;
    }

    pub becomes_alone : (e : P) → Gathers g m e pages root others (leaf_cells new.cells.items) → IsAlone g s e pages height low high root
    becomes_alone e gathers =
        let then_ = gathers.alone height low high has in
        record {
          tree = was_so g s m pages (λ v q. IsTree v (sight g e pages) 0 low high root) reads then_.tree;
          rows = was_so g s m pages (λ v q. tree_rows v (sight g e pages) 0 root ≡ tree_rows v q height root) reads then_.rows;
          shifts = laws.both s m e pages all all (all_pages u (sight g e pages) 0 root) 0 0 seen
              (was_so g s m pages (λ v q. Shifts g m e pages (all_pages v q height root) (all_pages v (sight g e pages) 0 root) 0) reads then_.shifts);
        }
