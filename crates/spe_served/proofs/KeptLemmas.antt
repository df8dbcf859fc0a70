-- Trees that stay where pages change.
use Rattle.std.proofs.Common.{◌≡◌, ◌≢◌, ℕ, Bool, true, false, not, ◌==◌, List, [], ◌∷◌, ◌++◌, Some, refl, sym, ap, ◌∙◌, subst, ⊎_elim, if◌then◌else◌}
use Rattle.std.specs.Prelude.{ℤ}
use Rattle.std.specs.List.{flat_map}
use Rattle.std.proofs.lemmas.Bool.{cases_Bool, eqb-true}
use Rattle.spe_model.specs.Paging.{Paging}
use Rattle.spe_model.specs.Schema.{SchemaRow, is_index_page, root_of}
use Rattle.spe_model.specs.Served.{AreGrown, Root}
use Rattle.spe_model.specs.Standing.{HasTree, Tree, stored_rows}
use Rattle.spe_model.specs.Tree.{tree_rows}
use Rattle.spe_frame.specs.Laws.{HaveRows}
use Rattle.spe_verdict.specs.Roots.{root_in}
use Rattle.spe_verdict.proofs.OneLemmas.{same_tree}
use Rattle.spe_served.proofs.EveryLemmas.{Every, every_back, every_front}

-- the tree of a root is the same tree with the same rows
abbrev pub KeepsTree : (usable : ℕ) (old new : Paging) (root : ℕ) → Type 0
KeepsTree usable old new root = (t : Tree) → HasTree usable old root (Some t)
    → HasTree usable new root (Some t) × (tree_rows usable new t.height t.root ≡ tree_rows usable old t.height t.root)

abbrev pub KeepsRow : (usable : ℕ) (old new : Paging) → SchemaRow → Type 0
KeepsRow usable old new row = root_of row.rootpage ≢ 0 → KeepsTree usable old new (root_of row.rootpage)

kept_one : (usable : ℕ) (old new : Paging) (root : ℕ) (u : Tree) → HasTree usable old root (Some u) → HasTree usable new root (Some u)
    → tree_rows usable new u.height u.root ≡ tree_rows usable old u.height u.root → KeepsTree usable old new root
kept_one usable old new root u was is rows t has =
    let same : u ≡ t = same_tree usable old root u t was has in (
      subst (λ (x : Tree). HasTree usable new root (Some x)) same is,
      subst (λ (x : Tree). tree_rows usable new x.height x.root ≡ tree_rows usable old x.height x.root) same rows,
    )

pub kept_roots : (usable : ℕ) (old new : Paging) (roots : List Root) (trees : List Tree) → AreGrown usable old roots trees → AreGrown usable new roots trees
    → HaveRows usable old new trees → Every (λ (r : Root). KeepsTree usable old new r.page) roots
kept_roots usable old new [] trees was is rows = tt
kept_roots usable old new (r ∷ rs) [] was is rows = absurd was
kept_roots usable old new (r ∷ rs) (t ∷ ts) was is rows =
    (kept_one usable old new r.page t was.0.0 is.0.0 rows.0, kept_roots usable old new rs ts was.1 is.1 rows.1)

-- the root that a row names is one of the roots of all rows
pub kept_rows : (usable : ℕ) (old new named : Paging) (all rows : List SchemaRow) → Every (λ (r : Root). KeepsTree usable old new r.page) (flat_map (root_in named all) rows)
    → Every (KeepsRow usable old new) rows
kept_rows usable old new named all [] kept = tt
kept_rows usable old new named all (r ∷ rs) kept = (
  (λ some. ⊎_elim
      (λ (none : (root_of r.rootpage == 0) ≡ true). absurd (some (eqb-true (root_of r.rootpage) 0 none)))
      (λ (is : (root_of r.rootpage == 0) ≡ false).
      let first : Every (λ (x : Root). KeepsTree usable old new x.page) (root_in named all r) = every_front (λ (x : Root). KeepsTree usable old new x.page) (root_in named all r) (flat_map (root_in named all) rs) kept in
      (rw is at first).0)
      (cases_Bool (root_of r.rootpage == 0))),
  kept_rows usable old new named all rs (every_back (λ (x : Root). KeepsTree usable old new x.page) (root_in named all r) (flat_map (root_in named all) rs) kept),
)

pub roots_split : (named : Paging) (all before : List SchemaRow) (row : SchemaRow) (after : List SchemaRow) → (root_of row.rootpage == 0) ≡ false → (root : Root)
    → root_in named all row ≡ root ∷ [] → flat_map (root_in named all) (before ++ row ∷ after) ≡ flat_map (root_in named all) before ++ root ∷ flat_map (root_in named all) after
roots_split named all [] row after some root is = ap (λ (rs : List Root). rs ++ flat_map (root_in named all) after) is
roots_split named all (r ∷ rs) row after some root is =
    ap (λ (xs : List Root). root_in named all r ++ xs) (roots_split named all rs row after some root is)
    ∙ joined (root_in named all r) (flat_map (root_in named all) rs) (root ∷ flat_map (root_in named all) after)
  where
    joined : {X : Type 0} (xs ys zs : List X) → xs ++ (ys ++ zs) ≡ (xs ++ ys) ++ zs
    joined [] ys zs = refl
    joined {X = X} (x ∷ xs) ys zs = ap (λ (l : List X). x ∷ l) (joined xs ys zs)

-- so the page is of the same sort
pub sort_stays : (usable : ℕ) (old new : Paging) (root : ℕ) (t : Tree) → HasTree usable old root (Some t) → HasTree usable new root (Some t) → is_index_page new root ≡ is_index_page old root
sort_stays usable old new root t was is = not_same (is_index_page new root) (is_index_page old root) (sym is.2 ∙ was.2)
  where
    not_same : (a b : Bool) → not a ≡ not b → a ≡ b
    not_same true true e = refl
    not_same true false e = absurd cc
    not_same false true e = absurd cc
    not_same false false e = refl

-- and what is stored under it
pub stored_kept : (usable : ℕ) (old new : Paging) (t : Tree) → tree_rows usable new t.height t.root ≡ tree_rows usable old t.height t.root
    → stored_rows usable new (Some t) ≡ stored_rows usable old (Some t)
stored_kept usable old new t rows = ap (λ (xs : List (ℤ × List ℕ)). if t.table then xs else []) rows
