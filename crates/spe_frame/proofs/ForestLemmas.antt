-- A change leaves all trees that have none of its pages.
use Rattle.std.proofs.Common.{◌≡◌, ◌≢◌, ℕ, zero, suc, ◌+◌, ◌<◌, ◌≤◌, ◌∙◌, List, [], ◌∷◌, ◌++◌, take, map, refl, sym, ap, subst, arith, true, false, Bool, Option, unwrap_or, ⊎_elim}
use Rattle.std.specs.Prelude.{◌==◌, not, slice_index}
use Rattle.std.specs.List.{flat_map}
use Rattle.spe_model.specs.Kind.{kind_of}
use Rattle.spe_model.specs.Page.{page_at}
use Rattle.spe_model.specs.Paging.{Paging}
use Rattle.spe_model.specs.Schema.{is_index_kind, is_index_page}
use Rattle.spe_model.specs.Served.{AreGrown, HasCells, IsGrown, Root}
use Rattle.spe_model.specs.Standing.{IsTreeOf, Tree, Whether, all_pages, pages_of_tree}
use Rattle.spe_model.specs.Tree.{header_end, node_at}
use Rattle.spe_space.specs.declared.pages.Pages.{Ghosts}
use Rattle.spe_space.specs.Calls.{sight}
use Rattle.spe_frame.specs.Times.{HoldsOf, Lacks, one_if, times}
use Rattle.spe_frame.specs.Held.{AreHeld, Spares}
use Rattle.spe_frame.specs.Laws.{ForestStays, HaveRows}
use Rattle.spe_frame.proofs.FrontLemmas.{AreAlike, body_alike, index_alike, page_alike, take_alike}
use Rattle.spe_frame.proofs.HeldLemmas.{held_again, others_of}
use Rattle.spe_frame.proofs.TimesLemmas.{Each, each_from_holds, here, same_or_not, times-append}
use Rattle.spe_frame.proofs.TreeLemmas.{IsKept, TreeKept, all_pages_kept, cells_kept, index_kept, lower_pages, tree_kept, tree_rows_kept}

-- the pages of a tree are its root and the others
pub pages_split : (usable : ℕ) (pages : Paging) (height page : ℕ) → all_pages usable pages height page ≡ page ∷ lower_pages usable pages height page
pages_split usable pages zero page = refl
pages_split usable pages (suc height) page = refl

-- the root of a tree reads as it did, and its other pages keep their bytes
pub record RootKept (usable : ℕ) (old new : Paging) (t : Tree) : Type 0 where
  pub sort : is_index_page new t.root ≡ is_index_page old t.root
  pub kept : TreeKept usable old new t.height t.root

sort_kept : (usable : ℕ) (old new : Paging) (table : Bool) (height root : ℕ) → TreeKept usable old new height root
    → IsTreeOf usable old (record { table = table; height = height; root = root }) → IsTreeOf usable new (record { table = table; height = height; root = root })
sort_kept usable old new true height root kept is = (is.0, tree_kept usable old new height 0 18446744073709551616 root kept is.1)
sort_kept usable old new false height root kept is = (is.0, index_kept usable old new height root kept is.1)

marks_kept : (usable : ℕ) (old new : Paging) (marked : Bool) (height root : ℕ) → TreeKept usable old new height root
    → Whether marked (HasCells usable old height root) (Unit {0}) → Whether marked (HasCells usable new height root) (Unit {0})
marks_kept usable old new true height root kept has = cells_kept usable old new height root kept has
marks_kept usable old new false height root kept has = tt

pub grown_kept : (usable : ℕ) (old new : Paging) (root : Root) (t : Tree) → RootKept usable old new t → IsGrown usable old root t → IsGrown usable new root t
grown_kept usable old new root t kept grown = (
  (
    grown.0.0,
    grown.0.1,
    grown.0.2 ∙ ap not (ap (is_index_page old) (sym grown.0.1) ∙ sym kept.sort ∙ ap (is_index_page new) grown.0.1),
    sort_kept usable old new t.table t.height t.root kept.kept grown.0.3,
  ),
  marks_kept usable old new root.marked t.height t.root kept.kept grown.1,
)

-- each of some trees
abbrev pub AreRootsKept : (usable : ℕ) (old new : Paging) → List Tree → Type 0
AreRootsKept usable old new [] = Unit {0}
AreRootsKept usable old new (t ∷ ts) = RootKept usable old new t × AreRootsKept usable old new ts

all_grown : (usable : ℕ) (old new : Paging) (roots : List Root) (trees : List Tree) → AreRootsKept usable old new trees
    → AreGrown usable old roots trees → AreGrown usable new roots trees
all_grown usable old new [] [] kept grown = tt
all_grown usable old new [] (t ∷ ts) kept grown = absurd grown
all_grown usable old new (r ∷ rs) [] kept grown = absurd grown
all_grown usable old new (r ∷ rs) (t ∷ ts) kept grown = (grown_kept usable old new r t kept.0 grown.0, all_grown usable old new rs ts kept.1 grown.1)

all_same : (usable : ℕ) (old new : Paging) (trees : List Tree) → AreRootsKept usable old new trees
    → flat_map (pages_of_tree usable new) trees ≡ flat_map (pages_of_tree usable old) trees
all_same usable old new [] kept = refl
all_same usable old new (t ∷ ts) kept =
    let first : pages_of_tree usable new t ≡ pages_of_tree usable old t = all_pages_kept usable old new t.height t.root kept.0.kept in
    rw (first, all_same usable old new ts kept.1) refl

all_rows : (usable : ℕ) (old new : Paging) (trees : List Tree) → AreRootsKept usable old new trees → HaveRows usable old new trees
all_rows usable old new [] kept = tt
all_rows usable old new (t ∷ ts) kept = (tree_rows_kept usable old new t.height t.root kept.0.kept, all_rows usable old new ts kept.1)

-- what a change leaves, as pages: all of some keep their bytes, and page 1 what stands behind its header
pub record Leaves (old new : Paging) (others : List ℕ) : Type 0 where
  pub bytes : HoldsOf (λ n. n ≢ 1 → IsKept old new n) others
  pub front : 0 < times 1 others → AreAlike 100 (new 1) (old 1)

-- the root of a tree is its own, and its other pages are not page 1
root_kept : (usable : ℕ) (old new : Paging) (t : Tree) (others : List ℕ) → Leaves old new others
    → ((n : ℕ) → 0 < times n (pages_of_tree usable old t) → 0 < times n others) → Lacks (lower_pages usable old t.height t.root) 1 → RootKept usable old new t
root_kept usable old new t others leaves has lower =
    let split = pages_split usable old t.height t.root in
    let has_root : 0 < times t.root others = has t.root (rw split (let at = here t.root t.root (lower_pages usable old t.height t.root) refl in omega arith)) in
    let rest : Each (IsKept old new) (lower_pages usable old t.height t.root) = each_from_holds (IsKept old new) (lower_pages usable old t.height t.root)
    (λ n some. leaves.bytes n (has n (rw split (omega (arith, some))))
    (λ (e : n ≡ 1). let none : times n (lower_pages usable old t.height t.root) ≡ 0 = ap (λ (m : ℕ). times m (lower_pages usable old t.height t.root)) e ∙ lower in absurd (omega (arith, some, none)))) in
    ⊎_elim
    (λ (first : t.root ≡ 1).
    let alike = leaves.front (subst (λ (n : ℕ). 0 < times n others) first has_root) in
    let sort : is_index_page new 1 ≡ is_index_page old 1 = ap (λ (n : ℕ). is_index_kind (kind_of n)) (index_alike 100 (new 1) (old 1) alike) in
    let node : node_at usable new 1 ≡ node_at usable old 1 = page_alike 100 (take usable (new 1)) (take usable (old 1)) (take_alike usable 100 (new 1) (old 1) alike) in
    record {
      sort = subst (λ (n : ℕ). is_index_page new n ≡ is_index_page old n) (sym first) sort;
      kept = record { node = subst (λ (n : ℕ). node_at usable new n ≡ node_at usable old n) (sym first) node; lower = rest };
    })
    (λ (other : t.root ≢ 1).
    let kept = leaves.bytes t.root has_root other in
    record {
      sort = ap (λ (b : List ℕ). is_index_kind (kind_of (slice_index b (header_end t.root)))) kept;
      kept = record { node = ap (λ (b : List ℕ). page_at (take usable b) (header_end t.root)) kept; lower = rest };
    })
    (same_or_not t.root 1)

-- the pages of these trees but their roots
abbrev all_lower : (usable : ℕ) → Paging → List Tree → List ℕ
all_lower usable pages trees = flat_map (λ (t : Tree). lower_pages usable pages t.height t.root) trees

roots_kept : (usable : ℕ) (old new : Paging) (others : List ℕ) → Leaves old new others → (trees : List Tree)
    → ((n : ℕ) → 0 < times n (flat_map (pages_of_tree usable old) trees) → 0 < times n others) → Lacks (all_lower usable old trees) 1 → AreRootsKept usable old new trees
roots_kept usable old new others leaves [] has lower = tt
roots_kept usable old new others leaves (t ∷ ts) has lower =
    let mine = pages_of_tree usable old t in
    let more = flat_map (pages_of_tree usable old) ts in
    let low = lower_pages usable old t.height t.root in
    let both : times 1 low + times 1 (all_lower usable old ts) ≡ 0 = sym (times-append 1 low (all_lower usable old ts)) ∙ lower in (
      root_kept usable old new t others leaves (λ n some. has n (rw (times-append n mine more) (omega (arith, some)))) (omega (arith, both)),
      roots_kept usable old new others leaves ts (λ n some. has n (rw (times-append n mine more) (omega (arith, some)))) (omega (arith, both)),
    )

-- page 1 is there as often as among the roots and below them
pub first_count : (usable : ℕ) (pages : Paging) (roots : List Root) (trees : List Tree) → AreGrown usable pages roots trees
    → times 1 (flat_map (pages_of_tree usable pages) trees) ≡ times 1 (map (λ (r : Root). r.page) roots) + times 1 (all_lower usable pages trees)
first_count usable pages [] [] grown = refl
first_count usable pages [] (t ∷ ts) grown = absurd grown
first_count usable pages (r ∷ rs) [] grown = absurd grown
first_count usable pages (r ∷ rs) (t ∷ ts) grown =
    let low = lower_pages usable pages t.height t.root in
    let more = flat_map (pages_of_tree usable pages) ts in
    let named = map (λ (s : Root). s.page) rs in
    let mine : times 1 (pages_of_tree usable pages t) ≡ times 1 (r.page ∷ low) =
    ap (times 1) (pages_split usable pages t.height t.root) ∙ ap (λ (n : ℕ). times 1 (n ∷ low)) grown.0.0.1 in
    let sums = times-append 1 (pages_of_tree usable pages t) more in
    let lows = times-append 1 low (all_lower usable pages ts) in
    let next = first_count usable pages rs ts grown.1 in
    count_sums (times 1 (pages_of_tree usable pages t ++ more)) (times 1 (pages_of_tree usable pages t)) (times 1 more)
    (one_if (1 == r.page)) (times 1 low) (times 1 named) (times 1 (all_lower usable pages ts)) (times 1 (low ++ all_lower usable pages ts)) sums mine lows next
  where
    count_sums : (all mine more root low named lower lows : ℕ) → all ≡ mine + more → mine ≡ root + low → lows ≡ low + lower → more ≡ named + lower → all ≡ (root + named) + lows
    count_sums all mine more root low named lower lows a b c d = omega (arith, a, b, c, d)

leaves_of : {P : Type 0} (g : Ghosts P) (old new : P) (pages : Paging) (own others : List ℕ) (allocs : ℕ) → Spares g old new pages own allocs
    → AreHeld g old pages (own ++ others) → Leaves (sight g old pages) (sight g new pages) others
leaves_of g old new pages own others allocs spares held = record {
  bytes = λ n some other. ap (λ (o : Option (List ℕ)). unwrap_or o (pages n)) (spares.laid n (others_of g old pages own others held n some) other);
  front = λ some. body_alike (sight g old pages 1) (sight g new pages 1) (spares.body (others_of g old pages own others held 1 some).lacks);
}

pub forest_stays : {P : Type 0} (g : Ghosts P) → ForestStays g
forest_stays g old new pages own own' allocs roots trees shifts first forest =
    let same = shifts.spares.sizes.used in
    let usable = g.used old in
    let a = sight g old pages in
    let b = sight g new pages in
    let others = flat_map (pages_of_tree usable a) trees in
    let leaves = leaves_of g old new pages own others allocs shifts.spares forest.held in
    let named = map (λ (r : Root). r.page) roots in
    let lower : Lacks (all_lower usable a trees) 1 =
    none_lower (times 1 own) (times 1 others) (times 1 named) (times 1 (all_lower usable a trees)) (times 1 (own ++ others)) (times 1 (own ++ named))
    (first_count usable a roots trees forest.grown) (times-append 1 own others) (times-append 1 own named) (forest.held.single 1) first in
    let kept = roots_kept usable a b others leaves trees (λ n some. some) lower in
    let grown : AreGrown (g.used new) b roots trees = subst (λ (u : ℕ). AreGrown u b roots trees) (sym same) (all_grown usable a b roots trees kept forest.grown) in
    let pages_are : flat_map (pages_of_tree (g.used new) b) trees ≡ others =
    ap (λ (u : ℕ). flat_map (pages_of_tree u b) trees) same ∙ all_same usable a b trees kept in
    record {
      forest = record {
        grown = grown;
        held = subst (λ (ps : List ℕ). AreHeld g new pages (own' ++ ps)) (sym pages_are) (held_again g old new pages own own' others allocs shifts forest.held);
      };
      pages_are = pages_are;
      rows = all_rows usable a b trees kept;
    }
  where
    none_lower : (own others named lower all first : ℕ) → others ≡ named + lower → all ≡ own + others → first ≡ own + named → all ≤ 1 → 0 < first → lower ≡ 0
    none_lower own others named lower all first a b c d e = omega (arith, a, b, c, d, e)
