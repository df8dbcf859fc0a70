-- The pages that a catalog is read from, where the pages stand for a database: each is one of these.
use Rattle.std.proofs.Common.{◌≡◌, inl, inr, ℕ, zero, suc, ◌<◌, List, [], ◌∷◌, ◌++◌, Option, Some, None, Result, All, sym, ◌∙◌, subst, arith, append_assoc}
use Rattle.std.specs.List.{Contains, flat_map}
use Rattle.std.proofs.lemmas.List.Elements.{All-head}
use Rattle.spe_model.specs.Database.{Database}
use Rattle.spe_model.specs.Paging.{Paging}
use Rattle.spe_model.specs.Schema.{SchemaRow, root_of}
use Rattle.spe_model.specs.Standing.{Tree, HasTree, AreEntries, StandsFor, all_pages, pages_of_some}
use Rattle.spe_space.specs.Calls.{sight}
use Rattle.spe_space.specs.Found.{misses_weaker}
use Rattle.spe_space.specs.Outcome.{IsInside}
use Rattle.spe_space.specs.declared.pages.Pages.{Ghosts}
use Rattle.spe_space.specs.declared.fault.TreeFault.{TreeFault}
use Rattle.spe_search.proofs.InsideLemmas.{all_behind, all_front, between_inside, tree_inside}
use Rattle.spe_catalog.specs.Asks.{IsCatalogMiss, MissesOfCatalog, MissesStanding}

some_same : (rows others : List SchemaRow) (found : Option (List SchemaRow)) → found ≡ Some rows → found ≡ Some others → others ≡ rows
some_same rows others found a b = let both : Some others ≡ Some rows = sym b ∙ a in cc

-- the root of a tree is one of its pages
root_first : (P : ℕ → Type 0) (usable : ℕ) (pages : Paging) (height page : ℕ) (more : List ℕ) → All P (all_pages usable pages height page ++ more) → P page
root_first P usable pages zero page more all = All-head P page _ all
root_first P usable pages (suc height) page more all = All-head P page _ all

some_root : (usable count : ℕ) (pages : Paging) (root : ℕ) (grown : Option Tree) (more : List ℕ) → 0 < root → HasTree usable pages root grown
    → All (IsInside count) (pages_of_some usable pages grown ++ more) → IsInside count root
some_root usable count pages root None more some tree all = absurd (omega (arith, some, tree))
some_root usable count pages root (Some t) more some tree all = subst (IsInside count) tree.1 (root_first (IsInside count) usable pages t.height t.root more all)

-- pages of the trees behind the first
pub rest_inside : (usable count : ℕ) (pages : Paging) (t : Option Tree) (ts : List (Option Tree)) (more : List ℕ)
    → All (IsInside count) (flat_map (pages_of_some usable pages) (t ∷ ts) ++ more)
    → All (IsInside count) (pages_of_some usable pages t ++ (flat_map (pages_of_some usable pages) ts ++ more))
rest_inside usable count pages t ts more all =
    subst (All (IsInside count)) (append_assoc (pages_of_some usable pages t) (flat_map (pages_of_some usable pages) ts) more) all

-- the root page of a row of the schema
row_inside : (usable count : ℕ) (pages : Paging) (all rows : List SchemaRow) (trees : List (Option Tree)) (db : Database) (more : List ℕ) (row : SchemaRow)
    → AreEntries usable pages all rows trees db → All (IsInside count) (flat_map (pages_of_some usable pages) trees ++ more) → Contains rows row
    → 0 < root_of row.rootpage → IsInside count (root_of row.rootpage)
row_inside usable count pages all [] trees db more row h within (k, lt, is) some = absurd (omega (arith, lt))
row_inside usable count pages all (r ∷ rs) [] db more row h within has some = absurd h
row_inside usable count pages all (r ∷ rs) (t ∷ ts) [] more row h within has some = absurd h
row_inside usable count pages all (r ∷ rs) (t ∷ ts) (o ∷ os) more row h within (zero, lt, is) some =
    some_root usable count pages (root_of row.rootpage) t _ some (subst (λ (x : SchemaRow). HasTree usable pages (root_of x.rootpage) t) is h.0.tree)
    (rest_inside usable count pages t ts more within)
row_inside usable count pages all (r ∷ rs) (t ∷ ts) (o ∷ os) more row h within (suc k, lt, is) some =
    row_inside usable count pages all rs ts os more row h.1
    (all_behind (IsInside count) (pages_of_some usable pages t) _ (rest_inside usable count pages t ts more within)) (k, omega (arith, lt), is) some

pub record AreInside (usable count : ℕ) (pages : Paging) (height : ℕ) (trees : List (Option Tree)) (listed : List ℕ) : Type 0 where
  pub schema : All (IsInside count) (all_pages usable pages height 1)
  pub others : All (IsInside count) (flat_map (pages_of_some usable pages) trees ++ listed)

pub parts_inside : (usable count : ℕ) (pages : Paging) (db : Database) (stands : StandsFor usable count pages db)
    → AreInside usable count pages stands.height stands.trees stands.listed
parts_inside usable count pages db stands =
    let schema = all_pages usable pages stands.height 1 in
    let trees = flat_map (pages_of_some usable pages) stands.trees in
    let within : All (IsInside count) (schema ++ (trees ++ stands.listed)) = subst (All (IsInside count)) (append_assoc schema trees stands.listed) stands.within in
    record { schema = all_front (IsInside count) schema (trees ++ stands.listed) within; others = all_behind (IsInside count) schema (trees ++ stands.listed) within }

-- a page that the catalog is read from
catalog_page : (usable count : ℕ) (pages : Paging) (db : Database) (n : ℕ) (stands : StandsFor usable count pages db) → IsCatalogMiss usable pages stands.height n → IsInside count n
catalog_page usable count pages db n stands asked =
    let parts = parts_inside usable count pages db stands in
    elim asked [
      | inl own ↦ tree_inside (IsInside count) usable pages stands.height 0 18446744073709551616 1 n stands.schema.1 parts.schema own
      | inr (inl over) ↦ between_inside (IsInside count) usable pages 0 18446744073709551615 stands.height 0 18446744073709551616 1 n stands.schema.1 parts.schema over.1
      | inr (inr root) ↦
          let same : root.rows ≡ stands.rows = some_same stands.rows root.rows _ stands.rows_are root.read.rows_are in
          let is = root.root.root in
          subst (IsInside count) is.0
          (row_inside usable count pages stands.rows stands.rows stands.trees db stands.listed root.root.row stands.entries parts.others
          (subst (λ (rs : List SchemaRow). Contains rs root.root.row) same root.root.is) (subst (λ (m : ℕ). 0 < m) (sym is.0) is.1))
    ]

pub catalog_asks : {P X : Type 0} (g : Ghosts P) (early late : P) (result : Result X TreeFault) → MissesOfCatalog g early late result → MissesStanding g early late result
catalog_asks g early late result misses pages agrees count db stands =
    let usable = g.used early in
    let view = sight g early pages in
    misses_weaker (IsCatalogMiss usable view stands.height) (IsInside count) result (λ n asked. catalog_page usable count view db n stands asked)
    (misses pages agrees stands.height stands.schema)
