-- What is read once, where the pages stand for a database in server form.
use Rattle.std.proofs.Common.{◌≡◌, ℕ, List, ◌++◌, All, Option, Some, Result, Ok, Err, sym, ap, ◌∙◌, subst, append_assoc, refl}
use Rattle.std.specs.List.{flat_map}
use Rattle.spe_model.specs.declared.catalog.Entry.{Entry}
use Rattle.spe_model.specs.declared.header.Header.{Header}
use Rattle.spe_model.specs.Database.{Database}
use Rattle.spe_model.specs.FreeList.{first_trunks}
use Rattle.spe_model.specs.Header.{header_of}
use Rattle.spe_model.specs.Justified.{ServedSince}
use Rattle.spe_model.specs.Paging.{Agrees, Paging}
use Rattle.spe_model.specs.Schema.{SchemaRow, catalog_of, is_index_page}
use Rattle.spe_model.specs.Served.{HasHeader, Served, usable_in}
use Rattle.spe_model.specs.Standing.{StandsFor, all_pages, pages_of_some}
use Rattle.spe_model.specs.Tree.{IsTableTree, tree_rows}
use Rattle.spe_space.specs.declared.fault.TreeFault.{TreeFault}
use Rattle.spe_space.specs.declared.fault.TreeFault.TheVariants.{Space, Corrupt}
use Rattle.spe_space.specs.declared.pages.Pages.{Ghosts}
use Rattle.spe_space.specs.Calls.{Reads, sight}
use Rattle.spe_space.specs.Found.{OnMissing}
use Rattle.spe_space.specs.Outcome.{IsInside}
use Rattle.spe_catalog.specs.Asks.{MissesStanding}
use Rattle.spe_catalog.specs.Reader.{CatalogOrBad, FindsCatalog, IsCatalog}
use Rattle.spe_freelist.specs.Node.{IsReadOf, ReadsNode}
use Rattle.spe_opening.specs.declared.shared.Shared.{Shared}
use Rattle.spe_opening.specs.Below.{IsEntryFilled, IsEntryStanding, Tests, TestsEntries}
use Rattle.spe_opening.specs.Shared.{AsksInside, FindsShared, IsShared, StandsHeaded, StandsPrepared}
use Rattle.spe_opening.proofs.BelowLemmas.{seen_same, was_same}
use Rattle.spe_opening.proofs.ListLemmas.{all_behind}
use Rattle.spe_opening.proofs.NodeLemmas.{node_asks, node_whole}
use Rattle.spe_opening.proofs.NumberLemmas.{numbered}
use Rattle.spe_opening.proofs.OpenLemmas.{entries_fill, entries_filled, entries_stand}

-- the catalog could not be read
catalog_whole : (usable count node : ℕ) (pages : Paging) (db : Database) (fault : TreeFault) → (headed : StandsHeaded usable count node pages db)
    → CatalogOrBad pages (tree_rows usable pages headed.body.stands.height 1) (Err fault) → IsShared usable count pages db (Err fault)
catalog_whole usable count node pages db (Space f) headed or = tt
catalog_whole usable count node pages db (Corrupt at) headed or =
    let stands = headed.body.stands in
    absurd (or stands.rows stands.rows_are stands.named (numbered usable count pages headed.header db headed.front stands))

pub catalog_failed : {P : Type 0} (g : Ghosts P) (early late : P) (node : ℕ) (fault : TreeFault) → FindsCatalog g early late (Err fault) → FindsShared g early late node (Err fault)
catalog_failed g early late node fault finds pages agrees count db headed =
    catalog_whole (g.used early) count node (sight g early pages) db fault headed (finds pages agrees headed.body.stands.height headed.body.stands.schema)

pub catalog_asked : {P : Type 0} (X : Type 0) (g : Ghosts P) (early late : P) (node : ℕ) (fault : TreeFault) → MissesStanding {X = List Entry} g early late (Err fault) → AsksInside {X = X} g early late node (Err fault)
catalog_asked X g early late node fault misses pages agrees count db p = misses pages agrees count db p.stands

-- the node page could not be read
node_failed_as : (usable count node : ℕ) (pages : Paging) (db : Database) (fault : TreeFault) → StandsPrepared usable count node pages db
    → ((at : ℕ) → fault ≡ Corrupt at → ⊥) → IsShared usable count pages db (Err fault)
node_failed_as usable count node pages db (Space f) p never = tt
node_failed_as usable count node pages db (Corrupt at) p never = absurd (never at refl)

pub node_failed : {P : Type 0} (g : Ghosts P) (early mid late : P) (node : ℕ) (fault : TreeFault) → Reads g early mid → ReadsNode g mid late node (Err fault) → FindsShared g early late node (Err fault)
node_failed g early mid late node fault kept reads pages agrees count db headed =
    let q = seen_same g early mid pages (λ u p. StandsPrepared u count node p db) kept headed.body in
    node_failed_as (g.used early) count node (sight g early pages) db fault headed.body
    (λ at is. node_whole (g.used mid) count node (sight g mid pages) db at q (subst (λ (f : TreeFault). IsReadOf (sight g mid pages) node (Err f)) is (reads pages agrees)))

pub node_asked : {P : Type 0} (X : Type 0) (g : Ghosts P) (early late : P) (node : ℕ) (fault : TreeFault) → OnMissing (λ at. at ≡ node) fault → AsksInside {X = X} g early late node (Err fault)
node_asked X g early late node fault missing pages agrees count db p = node_asks (g.used early) count node (sight g early pages) db fault p missing

some_rows : (a b : List SchemaRow) (found : Option (List SchemaRow)) → found ≡ Some a → found ≡ Some b → a ≡ b
some_rows a b found x y = let both : Some a ≡ Some b = sym x ∙ y in cc

-- the catalog is that of the rows of the schema
catalog_is : (usable count : ℕ) (pages : Paging) (db : Database) (catalog : List Entry) (stands : StandsFor usable count pages db) → IsCatalog pages (tree_rows usable pages stands.height 1) catalog
    → catalog ≡ catalog_of (is_index_page pages) stands.rows
catalog_is usable count pages db catalog stands is = is.tables ∙ ap (catalog_of (is_index_page pages)) (some_rows is.rows stands.rows _ is.rows_are stands.rows_are)

-- its open tables have trees
catalog_stands : (usable count : ℕ) (pages : Paging) (db : Database) (catalog : List Entry) (stands : StandsFor usable count pages db) → IsCatalog pages (tree_rows usable pages stands.height 1) catalog
    → All (IsEntryStanding usable count pages) catalog
catalog_stands usable count pages db catalog stands is =
    let schema = all_pages usable pages stands.height 1 in
    let trees = flat_map (pages_of_some usable pages) stands.trees in
    let within : All (IsInside count) (trees ++ stands.listed) =
    all_behind (IsInside count) schema (trees ++ stands.listed) (subst (All (IsInside count)) (append_assoc schema trees stands.listed) stands.within) in
    subst (All (IsEntryStanding usable count pages)) (sym (catalog_is usable count pages db catalog stands is))
    (entries_stand usable count pages stands.rows stands.rows stands.trees db stands.listed stands.entries within)

-- What was read before the trees of the tables are looked at: the catalog and the first trunks.
pub record IsRead {P : Type 0} (g : Ghosts P) (early mid now : P) (node : ℕ) (catalog : List Entry) (trunks : List ℕ) : Type 0 where
  pub first : Reads g early mid
  pub second : Reads g mid now
  pub finds : FindsCatalog g early mid (Ok catalog)
  pub reads : ReadsNode g mid now node (Ok trunks)

-- the catalog of pages that stand
catalog_at : {P : Type 0} (g : Ghosts P) (early mid : P) (catalog : List Entry) → FindsCatalog g early mid (Ok catalog) → (pages : Paging) → Agrees pages (g.seen mid)
    → (u height : ℕ) → u ≡ g.used early → IsTableTree u (sight g early pages) height 1 → IsCatalog (sight g early pages) (tree_rows u (sight g early pages) height 1) catalog
catalog_at g early mid catalog finds pages agrees u height same tree =
    subst (λ (v : ℕ). IsCatalog (sight g early pages) (tree_rows v (sight g early pages) height 1) catalog) (sym same)
    (finds pages agrees height (subst (λ (v : ℕ). IsTableTree v (sight g early pages) height 1) same tree))

-- the trees of the tables were tested, seen from before
tables_answer : {P X : Type 0} (g : Ghosts P) (early mid now late : P) (node : ℕ) (catalog : List Entry) (trunks : List ℕ) (result : Result X TreeFault) → IsRead g early mid now node catalog trunks
    → Reads g now late → TestsEntries g now late catalog result
    → (pages : Paging) → Agrees pages (g.seen late) → (count : ℕ) (db : Database) → StandsPrepared (g.used early) count node (sight g early pages) db
    → Tests (g.used early) count (sight g early pages) (All (IsEntryFilled (g.used early) (sight g early pages)) catalog) result
tables_answer g early mid now late node catalog trunks result r keeps tests pages agrees count db p =
    let u = g.used early in
    let view = sight g early pages in
    let at_mid = r.second.earlier pages (keeps.earlier pages agrees) in
    let is = catalog_at g early mid catalog r.finds pages at_mid u p.stands.height refl p.stands.schema in
    let stand = catalog_stands u count view db catalog p.stands is in
    let at_now : All (IsEntryStanding (g.used now) count (sight g now pages)) catalog =
    seen_same g mid now pages (λ v q. All (IsEntryStanding v count q) catalog) r.second (seen_same g early mid pages (λ v q. All (IsEntryStanding v count q) catalog) r.first stand) in
    was_same g early mid pages (λ v q. Tests v count q (All (IsEntryFilled v q) catalog) result) r.first
    (was_same g mid now pages (λ v q. Tests v count q (All (IsEntryFilled v q) catalog) result) r.second (tests pages agrees count at_now))

-- the tables as a slice
pub tables_same : {P : Type 0} (g : Ghosts P) (now late : P) (tables catalog : List Entry) (fault : TreeFault) → tables ≡ catalog → TestsEntries {X = Unit {0}} g now late tables (Err fault)
    → TestsEntries {X = Unit {0}} g now late catalog (Err fault)
tables_same g now late tables catalog fault same tests = subst (λ (cs : List Entry). TestsEntries {X = Unit {0}} g now late cs (Err fault)) same tests

one_header : (bytes : List ℕ) (h k : Header) → header_of bytes ≡ Ok h → header_of bytes ≡ Ok k → h ≡ k
one_header bytes h k a b = let both : Ok h ≡ Ok k = sym a ∙ b in cc

-- pages that are served have filled trees
served_filled : {P : Type 0} (g : Ghosts P) (early mid : P) (catalog : List Entry) → FindsCatalog g early mid (Ok catalog) → (pages : Paging) → Agrees pages (g.seen mid)
    → (count : ℕ) (db : Database) (header : Header) → HasHeader count (sight g early pages) header → usable_in header ≡ g.used early → Served count (sight g early pages) db
    → All (IsEntryFilled (g.used early) (sight g early pages)) catalog
served_filled g early mid catalog finds pages agrees count db header front used served =
    let view = sight g early pages in
    let u = usable_in served.header in
    let same : u ≡ g.used early = ap usable_in (one_header _ served.header header served.front.legal front.legal) ∙ used in
    let stands = served.stands in
    let is = catalog_at g early mid catalog finds pages agrees u stands.height same stands.schema in
    let filled = entries_filled u view stands.rows stands.rows stands.trees db stands.entries served.filled in
    subst (λ (v : ℕ). All (IsEntryFilled v view) catalog) same
    (subst (All (IsEntryFilled u view)) (sym (catalog_is u count view db catalog stands is)) filled)

-- a table is not filled, or the space refused
tables_whole : (usable count : ℕ) (pages : Paging) (db : Database) (catalog : List Entry) (fault : TreeFault) → (Served count pages db → All (IsEntryFilled usable pages) catalog)
    → Tests {X = Unit {0}} usable count pages (All (IsEntryFilled usable pages) catalog) (Err fault) → IsShared usable count pages db (Err fault)
tables_whole usable count pages db catalog (Space f) served is = tt
tables_whole usable count pages db catalog (Corrupt at) served is = (is.0, λ s. is.1 (served s))

pub tables_failed : {P : Type 0} (g : Ghosts P) (early mid now late : P) (node : ℕ) (catalog : List Entry) (trunks : List ℕ) (fault : TreeFault) → IsRead g early mid now node catalog trunks
    → Reads g now late → TestsEntries {X = Unit {0}} g now late catalog (Err fault) → FindsShared g early late node (Err fault)
tables_failed g early mid now late node catalog trunks fault r keeps tests pages agrees count db headed =
    tables_whole (g.used early) count (sight g early pages) db catalog fault
    (λ served. served_filled g early mid catalog r.finds pages (r.second.earlier pages (keeps.earlier pages agrees)) count db headed.header headed.front headed.used served)
    (tables_answer {X = Unit {0}} g early mid now late node catalog trunks (Err fault) r keeps tests pages agrees count db headed.body)

asked_in : (X : Type 0) (usable count : ℕ) (pages : Paging) (Fact : Type 0) (fault : TreeFault) → Tests {X = Unit {0}} usable count pages Fact (Err fault) → OnMissing (IsInside count) fault
asked_in X usable count pages Fact (Space f) is = is
asked_in X usable count pages Fact (Corrupt at) is = tt

pub tables_asked : {P : Type 0} (X : Type 0) (g : Ghosts P) (early mid now late : P) (node : ℕ) (catalog : List Entry) (trunks : List ℕ) (fault : TreeFault) → IsRead g early mid now node catalog trunks
    → Reads g now late → TestsEntries {X = Unit {0}} g now late catalog (Err fault) → AsksInside {X = X} g early late node (Err fault)
tables_asked X g early mid now late node catalog trunks fault r keeps tests pages agrees count db p =
    asked_in X (g.used early) count (sight g early pages) (All (IsEntryFilled (g.used early) (sight g early pages)) catalog) fault
    (tables_answer {X = Unit {0}} g early mid now late node catalog trunks (Err fault) r keeps tests pages agrees count db p)

-- all tables are filled
served_since : (count node : ℕ) (pages : Paging) (db : Database) (header : Header) (usable : ℕ) (catalog : List Entry) (trunks : List ℕ) → HasHeader count pages header → usable_in header ≡ usable
    → (body : StandsPrepared (usable_in header) count node pages db) → IsCatalog pages (tree_rows (usable_in header) pages body.stands.height 1) catalog
    → All (IsEntryFilled (usable_in header) pages) catalog → trunks ≡ first_trunks pages node
    → ServedSince (record { usable = usable; catalog = catalog; trunks = trunks }) count pages db
served_since count node pages db header usable catalog trunks front used body is filled trunks_are =
    let u = usable_in header in
    let stands = body.stands in
    let tables = catalog_is u count pages db catalog stands is in
    record {
      served = record {
        header = header;
        front = front;
        prepared = body.prepared;
        stands = stands;
        filled = entries_fill u pages stands.rows stands.rows stands.trees db stands.entries (subst (All (IsEntryFilled u pages)) tables filled);
      };
      usable = used;
      catalog = sym tables;
      trunks = sym (trunks_are ∙ ap (first_trunks pages) body.named);
    }

pub tables_filled : {P : Type 0} (g : Ghosts P) (early mid now late : P) (node : ℕ) (shared : Shared) → IsRead g early mid now node shared.catalog shared.trunks
    → Reads g now late → TestsEntries {X = Unit {0}} g now late shared.catalog (Ok tt) → FindsShared g early late node (Ok shared)
tables_filled g early mid now late node shared r keeps tests pages agrees count db headed =
    let view = sight g early pages in
    let u = usable_in headed.header in
    let same : u ≡ g.used early = headed.used in
    let body : StandsPrepared u count node view db = subst (λ (v : ℕ). StandsPrepared v count node view db) (sym same) headed.body in
    let at_now = keeps.earlier pages agrees in
    let is = catalog_at g early mid shared.catalog r.finds pages (r.second.earlier pages at_now) u body.stands.height same body.stands.schema in
    let filled = tables_answer {X = Unit {0}} g early mid now late node shared.catalog shared.trunks (Ok tt) r keeps tests pages agrees count db headed.body in
    let trunks : shared.trunks ≡ first_trunks view node = was_same g early mid pages (λ v q. shared.trunks ≡ first_trunks q node) r.first (r.reads pages at_now).1 in
    served_since count node view db headed.header (g.used early) shared.catalog shared.trunks headed.front same body is
    (subst (λ (v : ℕ). All (IsEntryFilled v view) shared.catalog) (sym same) filled) trunks
