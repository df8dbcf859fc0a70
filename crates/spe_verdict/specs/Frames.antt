-- When framed pages are served.
use Rattle.std.specs.Prelude.{◌≡◌, ℕ, ℤ, true, List, [], ◌∷◌, Option, Some}
use Rattle.spe_model.specs.Database.{Database, Object}
use Rattle.spe_model.specs.Paging.{Paging}
use Rattle.spe_model.specs.Schema.{SchemaRow, have_own_names, root_of, schema_of}
use Rattle.spe_model.specs.Served.{Framed, Served, usable_in}
use Rattle.spe_model.specs.Standing.{HasTree, IsObjectOf, Tree, stored_rows}
use Rattle.spe_model.specs.Tree.{IsTableTree, tree_rows}
use Rattle.spe_verdict.specs.Roots.{roots_of}

-- a row of the schema stands for an object, with the rows of the tree that is its own
pub record HasObject (usable : ℕ) (pages : Paging) (all : List SchemaRow) (row : SchemaRow) (named : ℤ × Object) : Type 0 where
  pub rowid : named.0 ≡ row.rowid
  pub object : (grown : Option Tree) → HasTree usable pages (root_of row.rootpage) grown → IsObjectOf usable pages all row (stored_rows usable pages grown) named.1

abbrev pub HaveObjects : (usable : ℕ) → Paging → (all : List SchemaRow) → List SchemaRow → Database → Type 0
HaveObjects usable pages all [] [] = Unit {0}
HaveObjects usable pages all (r ∷ rs) (o ∷ os) = HasObject usable pages all r o × HaveObjects usable pages all rs os
HaveObjects usable pages all _ _ = ⊥

-- pages that are framed for the roots of their schema rows are served for the objects of these rows
abbrev pub FramedAreServed : Type 0
FramedAreServed = (count : ℕ) (pages : Paging) (db : Database) (height : ℕ) (rows : List SchemaRow) → (framed : Framed count pages (roots_of pages rows))
    → IsTableTree (usable_in framed.header) pages height 1 → schema_of (tree_rows (usable_in framed.header) pages height 1) ≡ Some rows
    → have_own_names rows ≡ true → HaveObjects (usable_in framed.header) pages rows rows db → Served count pages db
