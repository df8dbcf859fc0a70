-- The roots of tables in a database have numbers of 32 bits.
use Rattle.std.proofs.Common.{◌≡◌, ℕ, zero, suc, ◌<◌, ◌≤◌, ◌^◌, Bool, true, false, not, ◌||◌, nat_lt, List, [], ◌∷◌, ◌++◌, Option, Some, None, refl, arith, append_assoc, subst}
use Rattle.std.specs.List.{All, flat_map}
use Rattle.std.proofs.lemmas.List.Elements.{All-head}
use Rattle.spe_model.specs.Database.{Database}
use Rattle.spe_model.specs.Paging.{Paging}
use Rattle.spe_model.specs.Schema.{SchemaRow, is_table_row, root_of}
use Rattle.spe_model.specs.Standing.{Tree, HasTree, AreEntries, StandsFor, IsOneOf, all_pages, pages_of_some}
use Rattle.spe_catalog.specs.Reading.{have_numbers}
use Rattle.spe_serve.proofs.InsideLemmas.{all_behind}

-- the root of a tree is one of its pages
pub root_first : (P : ℕ → Type 0) (usable : ℕ) (pages : Paging) (height page : ℕ) (more : List ℕ) → All P (all_pages usable pages height page ++ more) → P page
root_first P usable pages zero page more all = All-head P page _ all
root_first P usable pages (suc height) page more all = All-head P page _ all

is_small : (n count : ℕ) → n ≤ count → count < 2 ^ 32 → nat_lt n 4294967296 ≡ true
is_small n count few small = grind arith

or_true : (a b : Bool) → b ≡ true → (a || b) ≡ true
or_true true b e = refl
or_true false b e = e

root_small : (usable count : ℕ) (pages : Paging) (root : ℕ) (grown : Option Tree) (more : List ℕ) → count < 2 ^ 32 → HasTree usable pages root grown
    → All (IsOneOf count) (pages_of_some usable pages grown ++ more) → nat_lt root 4294967296 ≡ true
root_small usable count pages root None more small tree all = is_small root count (omega (arith, tree)) small
root_small usable count pages root (Some t) more small tree all =
    is_small root count (subst (λ (n : ℕ). n ≤ count) tree.1 (root_first (IsOneOf count) usable pages t.height t.root more all).1) small

entries_numbered : (usable count : ℕ) (pages : Paging) (all rows : List SchemaRow) (trees : List (Option Tree)) (db : Database) (more : List ℕ) → count < 2 ^ 32
    → AreEntries usable pages all rows trees db → All (IsOneOf count) (flat_map (pages_of_some usable pages) trees ++ more) → have_numbers rows ≡ true
entries_numbered usable count pages all [] trees db more small h within = refl
entries_numbered usable count pages all (r ∷ rs) [] db more small h within = absurd h
entries_numbered usable count pages all (r ∷ rs) (t ∷ ts) [] more small h within = absurd h
entries_numbered usable count pages all (r ∷ rs) (t ∷ ts) (o ∷ os) more small h within =
    let own = pages_of_some usable pages t in
    let behind = flat_map (pages_of_some usable pages) ts in
    let split : All (IsOneOf count) (own ++ (behind ++ more)) = subst (λ (ns : List ℕ). All (IsOneOf count) ns) (append_assoc own behind more) within in
    rw (or_true (not (is_table_row r)) (nat_lt (root_of r.rootpage) 4294967296) (root_small usable count pages (root_of r.rootpage) t (behind ++ more) small h.0.tree split))
    (entries_numbered usable count pages all rs ts os more small h.1 (all_behind (IsOneOf count) own (behind ++ more) split))

pub numbered : (usable count : ℕ) (pages : Paging) (db : Database) → count < 2 ^ 32 → (stands : StandsFor usable count pages db) → have_numbers stands.rows ≡ true
numbered usable count pages db small stands =
    let schema = all_pages usable pages stands.height 1 in
    let trees = flat_map (pages_of_some usable pages) stands.trees in
    entries_numbered usable count pages stands.rows stands.rows stands.trees db stands.listed small stands.entries
    (all_behind (IsOneOf count) schema (trees ++ stands.listed) (subst (λ (ns : List ℕ). All (IsOneOf count) ns) (append_assoc schema trees stands.listed) stands.within))
