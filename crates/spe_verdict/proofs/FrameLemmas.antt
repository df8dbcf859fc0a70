-- When framed pages are served.
use Rattle.std.proofs.Common.{◌≡◌, ℕ, ℤ, List, [], ◌∷◌, ◌++◌, take, All, refl, sym, ap, subst, ◌∙◌, arith, true, false, Option, Some, None, ⊎_elim}
use Rattle.std.specs.Prelude.{◌==◌, not}
use Rattle.std.specs.List.{flat_map}
use Rattle.std.proofs.lemmas.Bool.{cases_Bool, eqb-true}
use Rattle.spe_model.specs.Database.{Database, Object}
use Rattle.spe_model.specs.Paging.{Paging}
use Rattle.spe_model.specs.Schema.{SchemaRow, root_of}
use Rattle.spe_model.specs.Served.{AreFilled, AreGrown, IsGrown, Root, usable_in}
use Rattle.spe_model.specs.Standing.{AreDistinct, AreEntries, HasTree, IsEntry, IsOneOf, Tree, all_pages, pages_of_some, pages_of_tree}
use Rattle.spe_verdict.specs.Frames.{FramedAreServed, HasObject, HaveObjects}
use Rattle.spe_verdict.specs.Roots.{names_open, root_in}
use Rattle.spe_verdict.proofs.HeaderLemmas.{legal_usable}
use Rattle.spe_verdict.proofs.OneLemmas.{same_tree}
use Rattle.spe_verdict.proofs.RootLemmas.{table_page}

-- the tree of the first root, and the others
record FirstGrown (usable : ℕ) (pages : Paging) (root : Root) (roots : List Root) (trees : List Tree) : Type 0 where
  tree : Tree
  others : List Tree
  are : trees ≡ tree ∷ others
  first : IsGrown usable pages root tree
  rest : AreGrown usable pages roots others

first_grown : (usable : ℕ) (pages : Paging) (root : Root) (roots : List Root) (trees : List Tree)
    → AreGrown usable pages (root ∷ roots) trees → FirstGrown usable pages root roots trees
first_grown usable pages root roots [] grown = absurd grown
first_grown usable pages root roots (t ∷ ts) grown = record { tree = t; others = ts; are = refl; first = grown.0; rest = grown.1 }

none_grown : (usable : ℕ) (pages : Paging) (trees : List Tree) → AreGrown usable pages [] trees → trees ≡ []
none_grown usable pages [] grown = refl
none_grown usable pages (t ∷ ts) grown = absurd grown

-- the trees of some rows of the schema, where there are these trees
record Spread (usable : ℕ) (pages : Paging) (all rows : List SchemaRow) (grown : List Tree) (db : Database) : Type 0 where
  trees : List (Option Tree)
  entries : AreEntries usable pages all rows trees db
  filled : AreFilled usable pages all rows trees
  same : flat_map (pages_of_tree usable pages) grown ≡ flat_map (pages_of_some usable pages) trees

entry_of : (usable : ℕ) (pages : Paging) (all : List SchemaRow) (row : SchemaRow) (grown : Option Tree) (named : ℤ × Object)
    → HasObject usable pages all row named → HasTree usable pages (root_of row.rootpage) grown → IsEntry usable pages all row grown named
entry_of usable pages all row grown named has tree = record { rowid = has.rowid; tree = tree; object = has.object grown tree }

spread : (usable : ℕ) (pages : Paging) (all rows : List SchemaRow) (grown : List Tree) (db : Database)
    → HaveObjects usable pages all rows db → AreGrown usable pages (flat_map (root_in pages all) rows) grown → Spread usable pages all rows grown db
spread usable pages all [] grown [] have are =
    record { trees = []; entries = tt; filled = tt; same = ap (λ (ts : List Tree). flat_map (pages_of_tree usable pages) ts) (none_grown usable pages grown are) }
spread usable pages all [] grown (o ∷ os) have are = absurd have
spread usable pages all (r ∷ rs) grown [] have are = absurd have
spread usable pages all (r ∷ rs) grown (o ∷ os) have are = ⊎_elim
    (λ (none : (root_of r.rootpage == 0) ≡ true).
    let rest = spread usable pages all rs grown os have.1 (rw none at are) in
    record {
      trees = None ∷ rest.trees;
      entries = (entry_of usable pages all r None o have.0 (eqb-true (root_of r.rootpage) 0 none), rest.entries);
      filled = (tt, rest.filled);
      same = rest.same;
    })
    (λ (some : (root_of r.rootpage == 0) ≡ false).
    let root : Root = record { page = root_of r.rootpage; marked = names_open pages all r } in
    let more : AreGrown usable pages (root ∷ flat_map (root_in pages all) rs) grown = rw some at are in
    let parts = first_grown usable pages root (flat_map (root_in pages all) rs) grown more in
    let rest = spread usable pages all rs parts.others os have.1 parts.rest in
    record {
      trees = Some parts.tree ∷ rest.trees;
      entries = (entry_of usable pages all r (Some parts.tree) o have.0 parts.first.0, rest.entries);
      filled = (parts.first.1, rest.filled);
      same = ap (λ (ts : List Tree). flat_map (pages_of_tree usable pages) ts) parts.are
          ∙ ap (λ (ps : List ℕ). pages_of_tree usable pages parts.tree ++ ps) rest.same;
    })
    (cases_Bool (root_of r.rootpage == 0))

pub served : FramedAreServed
served count pages db height rows framed tree rows_are own have =
    let usable = usable_in framed.header in
    let least = legal_usable (take 100 (pages 1)) framed.header framed.front.legal in
    let schema : Tree = record { table = true; height = height; root = 1 } in
    let sort = table_page usable pages height 0 18446744073709551616 1 least tree.1 in
    let has : HasTree usable pages 1 (Some schema) = ((λ (e : 1 ≡ 0). absurd (omega arith)), refl, sym (ap not sort), tree) in
    let parts = first_grown usable pages (record { page = 1; marked = false }) (flat_map (root_in pages rows) rows) framed.trees framed.grown in
    let first = same_tree usable pages 1 parts.tree schema parts.first.0 has in
    let rest = spread usable pages rows rows parts.others db have parts.rest in
    let same : flat_map (pages_of_tree usable pages) framed.trees ≡ all_pages usable pages height 1 ++ flat_map (pages_of_some usable pages) rest.trees =
    ap (λ (ts : List Tree). flat_map (pages_of_tree usable pages) ts) parts.are
    ∙ ap (λ (t : Tree). pages_of_tree usable pages t ++ flat_map (pages_of_tree usable pages) parts.others) first
    ∙ ap (λ (ps : List ℕ). all_pages usable pages height 1 ++ ps) rest.same in
    record {
      header = framed.header;
      front = framed.front;
      prepared = framed.prepared;
      stands = record {
        height = height;
        schema = tree;
        rows = rows;
        rows_are = rows_are;
        named = own;
        trees = rest.trees;
        entries = rest.entries;
        lists = framed.lists;
        listed = framed.listed;
        free = framed.free;
        distinct = subst (λ (ps : List ℕ). AreDistinct (ps ++ framed.listed)) same framed.distinct;
        within = subst (λ (ps : List ℕ). All (IsOneOf count) (ps ++ framed.listed)) same framed.within;
      };
      filled = rest.filled;
    }
