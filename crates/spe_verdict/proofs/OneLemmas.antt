-- Pages stand for one database at most.
use Rattle.std.proofs.Common.{◌≡◌, ℕ, ℤ, List, [], ◌∷◌, refl, sym, ap, subst, ◌∙◌, Bool, true, false, Option, Some, None}
use Rattle.std.specs.Prelude.{is_some}
use Rattle.spe_model.specs.declared.table.TableDef.{TableDef}
use Rattle.spe_model.specs.Database.{Database, Object, Other, Row, Table}
use Rattle.spe_model.specs.Paging.{Paging}
use Rattle.spe_model.specs.Schema.{SchemaRow, root_of, schema_of}
use Rattle.spe_model.specs.Standing.{AreEntries, AreTableRows, HasTree, Whether, IsEntry, IsObjectOf, IsTreeOf, Tree, stored_rows}
use Rattle.spe_model.specs.Tree.{tree_rows}
use Rattle.spe_verdict.specs.Law.{StandForOne}
use Rattle.spe_verdict.proofs.RowLemmas.{rows_are}
use Rattle.spe_verdict.proofs.ShapeLemmas.{HasLeaves, leaves_of_index, leaves_of_tree, same_height}
use Rattle.spe_verdict.proofs.StandLemmas.{top}

leaves_of_grown : (usable : ℕ) (pages : Paging) (table : Bool) (height root : ℕ)
    → IsTreeOf usable pages (record { table = table; height = height; root = root }) → HasLeaves usable pages height root
leaves_of_grown usable pages true height root is = leaves_of_tree usable pages height 0 top root is.1
leaves_of_grown usable pages false height root is = leaves_of_index usable pages height root is.1

abbrev tree_of : Bool → ℕ → ℕ → Tree
tree_of table height root = record { table = table; height = height; root = root }

same_parts : (t u : Bool) (h k r s : ℕ) → t ≡ u → h ≡ k → r ≡ s → tree_of t h r ≡ tree_of u k s
same_parts t u h k r s sort height root = rw (sort, height, root) refl

pub same_tree : (usable : ℕ) (pages : Paging) (root : ℕ) (a b : Tree) → HasTree usable pages root (Some a) → HasTree usable pages root (Some b) → a ≡ b
same_tree usable pages root a b x y =
    let at_a = subst (HasLeaves usable pages a.height) x.1 (leaves_of_grown usable pages a.table a.height a.root x.3) in
    let at_b = subst (HasLeaves usable pages b.height) y.1 (leaves_of_grown usable pages b.table b.height b.root y.3) in
    same_parts a.table b.table a.height b.height a.root b.root (x.2 ∙ sym y.2) (same_height usable pages a.height b.height root at_a at_b) (x.1 ∙ sym y.1)

same_grown : (usable : ℕ) (pages : Paging) (root : ℕ) (a b : Option Tree) → HasTree usable pages root a → HasTree usable pages root b → a ≡ b
same_grown usable pages root None None x y = refl
same_grown usable pages root None (Some b) x y = absurd (y.0 x)
same_grown usable pages root (Some a) None x y = absurd (x.0 y)
same_grown usable pages root (Some a) (Some b) x y = ap (λ (t : Tree). Some t) (same_tree usable pages root a b x y)

-- the rows that a table is shown with
abbrev IsFound : TableDef → List (ℤ × List ℕ) → List Row → Type 0
IsFound table stored found = Whether (is_some table.closed) (found ≡ []) (AreTableRows table stored found)

same_found : (table : TableDef) (stored : List (ℤ × List ℕ)) (f g : List Row) (b : Bool) → is_some table.closed ≡ b
    → IsFound table stored f → IsFound table stored g → f ≡ g
same_found table stored f g true shut x y =
    let no_f : f ≡ [] = rw shut at x in
    let no_g : g ≡ [] = rw shut at y in
    no_f ∙ sym no_g
same_found table stored f g false free x y =
    let are_f : AreTableRows table stored f = rw free at x in
    let are_g : AreTableRows table stored g = rw free at y in
    rows_are table stored f are_f ∙ sym (rows_are table stored g are_g)

same_object : (usable : ℕ) (pages : Paging) (rows : List SchemaRow) (row : SchemaRow) (stored : List (ℤ × List ℕ)) (a b : Object)
    → IsObjectOf usable pages rows row stored a → IsObjectOf usable pages rows row stored b → a ≡ b
same_object usable pages rows row stored (Table t f) (Table u g) x y =
    let same : t ≡ u = x.1 ∙ sym y.1 in
    let found : f ≡ g = same_found t stored f g (is_some t.closed) refl x.2 (subst (λ (d : TableDef). IsFound d stored g) (sym same) y.2) in
    cc
same_object usable pages rows row stored (Table t f) (Other kind name on) x y = let both : true ≡ false = sym x.0 ∙ y.0 in absurd cc
same_object usable pages rows row stored (Other kind name on) (Table u g) x y = let both : true ≡ false = sym y.0 ∙ x.0 in absurd cc
same_object usable pages rows row stored (Other k n o) (Other l m p) x y =
    let kinds : k ≡ l = x.1 ∙ sym y.1 in
    let names : n ≡ m = x.2 ∙ sym y.2 in
    let owners : o ≡ p = x.3 ∙ sym y.3 in
    cc

abbrev entry_of : ℤ → Object → ℤ × Object
entry_of rowid object = (rowid, object)

same_pair : (i j : ℤ) (a b : Object) → i ≡ j → a ≡ b → entry_of i a ≡ entry_of j b
same_pair i j a b ids objects = rw (ids, objects) refl

same_entry : (usable : ℕ) (pages : Paging) (rows : List SchemaRow) (row : SchemaRow) (t u : Option Tree) (a b : ℤ × Object)
    → IsEntry usable pages rows row t a → IsEntry usable pages rows row u b → a ≡ b
same_entry usable pages rows row t u a b x y =
    let tree = same_grown usable pages (root_of row.rootpage) t u x.tree y.tree in
    let ids : a.0 ≡ b.0 = x.rowid ∙ sym y.rowid in
    let objects : a.1 ≡ b.1 = same_object usable pages rows row (stored_rows usable pages t) a.1 b.1 x.object
    (subst (λ (g : Option Tree). IsObjectOf usable pages rows row (stored_rows usable pages g) b.1) (sym tree) y.object) in
    same_pair a.0 b.0 a.1 b.1 ids objects

-- the first entry and the others
record FirstEntry (usable : ℕ) (pages : Paging) (all : List SchemaRow) (row : SchemaRow) (rows : List SchemaRow) (db : Database) : Type 0 where
  tree : Option Tree
  first : ℤ × Object
  trees : List (Option Tree)
  others : Database
  is : db ≡ first ∷ others
  entry : IsEntry usable pages all row tree first
  rest : AreEntries usable pages all rows trees others

first_entry : (usable : ℕ) (pages : Paging) (all : List SchemaRow) (row : SchemaRow) (rows : List SchemaRow) (trees : List (Option Tree)) (db : Database)
    → AreEntries usable pages all (row ∷ rows) trees db → FirstEntry usable pages all row rows db
first_entry usable pages all row rows [] db are = absurd are
first_entry usable pages all row rows (t ∷ ts) [] are = absurd are
first_entry usable pages all row rows (t ∷ ts) (o ∷ os) are =
    record { tree = t; first = o; trees = ts; others = os; is = refl; entry = are.0; rest = are.1 }

no_entry : (usable : ℕ) (pages : Paging) (all : List SchemaRow) (trees : List (Option Tree)) (db : Database) → AreEntries usable pages all [] trees db → db ≡ []
no_entry usable pages all [] [] are = refl
no_entry usable pages all [] (o ∷ os) are = absurd are
no_entry usable pages all (t ∷ ts) db are = absurd are

same_entries : (usable : ℕ) (pages : Paging) (all rows : List SchemaRow) (ts us : List (Option Tree)) (a b : Database)
    → AreEntries usable pages all rows ts a → AreEntries usable pages all rows us b → a ≡ b
same_entries usable pages all [] ts us a b x y = no_entry usable pages all ts a x ∙ sym (no_entry usable pages all us b y)
same_entries usable pages all (r ∷ rs) ts us a b x y =
    let e = first_entry usable pages all r rs ts a x in
    let f = first_entry usable pages all r rs us b y in
    let firsts = same_entry usable pages all r e.tree f.tree e.first f.first e.entry f.entry in
    let others = same_entries usable pages all rs e.trees f.trees e.others f.others e.rest f.rest in
    let both : e.first ∷ e.others ≡ f.first ∷ f.others = cc in
    e.is ∙ both ∙ sym f.is

pub one : StandForOne
one usable count pages a b x y =
    let height = same_height usable pages x.height y.height 1
    (leaves_of_tree usable pages x.height 0 top 1 x.schema.1) (leaves_of_tree usable pages y.height 0 top 1 y.schema.1) in
    let some : Some x.rows ≡ Some y.rows = sym x.rows_are ∙ ap (λ (h : ℕ). schema_of (tree_rows usable pages h 1)) height ∙ y.rows_are in
    let rows : x.rows ≡ y.rows = cc in
    same_entries usable pages x.rows x.rows x.trees y.trees a b x.entries
    (subst (λ (rs : List SchemaRow). AreEntries usable pages rs rs y.trees b) (sym rows) y.entries)
