-- What a search answers, from what one page says.
use Rattle.std.proofs.Common.{◌≡◌, ◌≢◌, ℕ, zero, suc, ℤ, ◌<◌, ◌-◌, ◌∙◌, ◌⊎◌, List, [], ◌∷◌, Option, None, Result, Ok, Err, refl, sym, ap, subst, arith, inl, inr}
use Rattle.std.specs.List.{Contains}
use Rattle.std.proofs.lemmas.Bool.{cases_eq}
use Rattle.std.proofs.lemmas.Bool.Decides.{leb_tells}
use Rattle.spe_model.specs.declared.page.Kind.TheVariants.{TableLeaf, TableInterior}
use Rattle.spe_model.specs.declared.page.Cell.{Cell}
use Rattle.spe_model.specs.Paging.{Paging, Agrees}
use Rattle.spe_model.specs.Chain.{IsLink, IsAmiss}
use Rattle.spe_model.specs.Tree.{rank, rest_of, IsTree, child_for, node_cells, node_right}
use Rattle.spe_model.specs.Range.{touched}
use Rattle.spe_space.specs.Calls.{Reads, sight, reads_both}
use Rattle.spe_space.specs.Found.{Answers, AddsOfChain, EndsWrong}
use Rattle.spe_space.specs.declared.pages.Pages.{Ghosts}
use Rattle.spe_space.specs.declared.fault.TreeFault.{TreeFault}
use Rattle.spe_space.specs.declared.fault.TreeFault.TheVariants.{Space, Corrupt}
use Rattle.spe_search.specs.declared.page.Found.{Found}
use Rattle.spe_search.specs.declared.page.Step.{Step}
use Rattle.spe_search.specs.declared.page.Step.TheVariants.{Missing, Row, Child}
use Rattle.spe_search.specs.Step.{Leads}
use Rattle.spe_search.specs.Found.{GivesStep, GivesWhole, FindsBelow, NamesDamage, HasDamage, IsStep, IsFaulty, IsReached, NamesRow, ShowsChild}
use Rattle.spe_search.specs.Range.{AddsOfRange, IsOverflowBetween}
use Rattle.spe_search.proofs.PlaceLemmas.{le_true, le_false}
use Rattle.spe_search.proofs.AddsLemmas.{root_touched, child_touched, child_over}
use Rattle.spe_search.proofs.TreeLemmas.{rows_sorted, under_sorted, row_missing, row_found, tree_step, some_tree}

-- a rowid that is handed on is the same
pub step_same : {P : Type 0} (g : Ghosts P) (early late : P) (page : ℕ) (step : Result Step TreeFault) (a b : ℤ) → a ≡ b → GivesStep g early late page a step → GivesStep g early late page b step
step_same {P} g early late page step a b same given = let Q : ℤ → Type 0 = λ z. GivesStep g early late page z step in subst Q same given

pub finds_same : {P : Type 0} (g : Ghosts P) (early late : P) (page levels : ℕ) (result : Result (Option (List ℕ)) TreeFault) (a b : ℤ) → a ≡ b
    → FindsBelow g early late page a levels result → FindsBelow g early late page b levels result
finds_same {P} g early late page levels result a b same found = let Q : ℤ → Type 0 = λ z. FindsBelow g early late page z levels result in subst Q same found

pub leaf_leads : (usable : ℕ) (pages : Paging) (low high page : ℕ) (rowid : ℤ) (step : Step) → IsStep usable pages page rowid (Ok step) → IsTree usable pages zero low high page
    → Leads (record { kind = TableLeaf; cells = node_cells usable pages page; right = node_right usable pages page }) rowid step
leaf_leads usable pages low high page rowid step given tree = given.1 _ tree.0 (rows_sorted usable pages low high (node_cells usable pages page) tree.1)

pub interior_leads : (usable : ℕ) (pages : Paging) (height low high page : ℕ) (rowid : ℤ) (step : Step) → IsStep usable pages page rowid (Ok step) → IsTree usable pages (suc height) low high page
    → Leads (record { kind = TableInterior; cells = node_cells usable pages page; right = node_right usable pages page }) rowid step
interior_leads usable pages height low high page rowid step given tree =
    given.1 _ tree.0 (under_sorted (IsTree usable pages height) low high (node_cells usable pages page) (node_right usable pages page) tree.1)

pub no_leaf : TableInterior ≡ TableLeaf → ⊥
no_leaf e = cc

pub no_interior : TableLeaf ≡ TableInterior → ⊥
no_interior e = cc

pub missing_finds : {P : Type 0} (g : Ghosts P) (early late : P) (page : ℕ) (rowid : ℤ) (levels : ℕ) → GivesStep g early late page rowid (Ok Missing)
    → FindsBelow g early late page rowid levels (Ok None)
missing_finds g early late page rowid levels given pages agrees zero low high under from to tree =
    let lead = leaf_leads (g.used early) (sight g early pages) low high page rowid Missing (given pages agrees) tree in
    sym (row_missing (g.used early) (sight g early pages) rowid (node_cells (g.used early) (sight g early pages) page) lead.1)
missing_finds g early late page rowid levels given pages agrees (suc height) low high under from to tree =
    absurd (no_leaf (interior_leads (g.used early) (sight g early pages) height low high page rowid Missing (given pages agrees) tree).0)

pub row_finds : {P : Type 0} (g : Ghosts P) (early mid late : P) (page : ℕ) (rowid : ℤ) (levels : ℕ) (found : Found) (result : Result (Option (List ℕ)) TreeFault)
    → Reads g early mid → Reads g mid late → GivesStep g early mid page rowid (Ok (Row found)) → GivesWhole g mid late found result → FindsBelow g early late page rowid levels result
row_finds g early mid late page rowid levels found result first second given whole pages agrees zero low high under from to tree =
    let lead = leaf_leads (g.used early) (sight g early pages) low high page rowid (Row found) (given pages (second.earlier pages agrees)) tree in
    let row = row_found (g.used early) (sight g early pages) rowid low high (node_cells (g.used early) (sight g early pages) page) found tree.1 lead.1 in
    let all = rw (first.used, first.laid) at (whole pages agrees) in
    let P : Option (List ℕ) → Type 0 = λ r. Answers (λ r. r) r result in
    subst P (sym row.is) (all row.chain)
row_finds g early mid late page rowid levels found result first second given whole pages agrees (suc height) low high under from to tree =
    absurd (no_leaf (interior_leads (g.used early) (sight g early pages) height low high page rowid (Row found) (given pages (second.earlier pages agrees)) tree).0)

pub child_finds : {P : Type 0} (g : Ghosts P) (early mid late : P) (page : ℕ) (rowid : ℤ) (levels child : ℕ) (result : Result (Option (List ℕ)) TreeFault)
    → Reads g early mid → Reads g mid late → GivesStep g early mid page rowid (Ok (Child child)) → FindsBelow g mid late child rowid (levels - 1) result
    → FindsBelow g early late page rowid levels result
child_finds g early mid late page rowid levels child result first second given found pages agrees zero low high under from to tree =
    absurd (no_interior (leaf_leads (g.used early) (sight g early pages) low high page rowid (Child child) (given pages (second.earlier pages agrees)) tree).0)
child_finds g early mid late page rowid levels child result first second given found pages agrees (suc height) low high under from to tree =
    let lead = interior_leads (g.used early) (sight g early pages) height low high page rowid (Child child) (given pages (second.earlier pages agrees)) tree in
    let next = tree_step rowid (g.used early) (sight g early pages) height low high page tree from to in
    let all = rw (first.used, first.laid, lead.1) at (found pages agrees) in
    let P : Option (List ℕ) → Type 0 = λ r. Answers (λ r. r) r result in
    subst P (sym next.row) (all height next.low next.high (omega (arith, under)) next.from next.to next.tree)

pub reached_here : (usable : ℕ) (pages : Paging) (levels page : ℕ) → 0 < levels → IsReached usable pages levels page page
reached_here usable pages levels page some = record { depth = 0; under = some; way = refl }

-- what is met below a child is met below its page
pub reached_below : (usable : ℕ) (pages : Paging) (levels page child at : ℕ) → ShowsChild usable pages page child → IsReached usable pages levels child at → IsReached usable pages (suc levels) page at
reached_below usable pages levels page child at shows reached = record { depth = suc reached.depth; under = omega (arith, reached.under); way = (child, shows, reached.way) }

pub below_names : (X : Type 0) (usable : ℕ) (pages : Paging) (page levels child : ℕ) (result : Result X TreeFault)
    → ShowsChild usable pages page child → HasDamage usable pages child levels result → HasDamage usable pages page (suc levels) result
below_names X usable pages page levels child (Ok found) shows cause = tt
below_names X usable pages page levels child (Err (Space f)) shows cause = tt
below_names X usable pages page levels child (Err (Corrupt at)) shows (inl faulty) = inl (reached_below usable pages levels page child at shows faulty.0, faulty.1)
below_names X usable pages page levels child (Err (Corrupt at)) shows (inr (inl row)) =
    inr (inl (record { leaf = row.leaf; reached = reached_below usable pages levels page child row.leaf shows row.reached; breaks = row.breaks }))
below_names X usable pages page levels child (Err (Corrupt at)) shows (inr (inr below)) = inr (inr (child, shows, below))

pub page_names : {P : Type 0} (X : Type 0) (g : Ghosts P) (early late : P) (page : ℕ) (rowid : ℤ) (levels : ℕ) (fault : TreeFault) → 0 < levels
    → GivesStep g early late page rowid (Err fault) → NamesDamage {X = X} g early late page levels (Err fault)
page_names X g early late page rowid levels (Space f) some given pages agrees = tt
page_names X g early late page rowid levels (Corrupt at) some given pages agrees =
    let here = given pages agrees in
    let Met : ℕ → Type 0 = λ n. IsReached (g.used early) (sight g early pages) levels page n × IsFaulty (g.used early) (sight g early pages) n in
    inl (subst Met (sym here.0) (reached_here (g.used early) (sight g early pages) levels page some, here.1))

pub row_names : {P X : Type 0} (g : Ghosts P) (early mid late : P) (page : ℕ) (rowid : ℤ) (levels : ℕ) (found : Found) (result : Result X TreeFault) → 0 < levels
    → Reads g early mid → Reads g mid late → GivesStep g early mid page rowid (Ok (Row found)) → NamesRow g mid late page found result → NamesDamage g early late page levels result
row_names g early mid late page rowid levels found (Ok x) some first second given names pages agrees = tt
row_names g early mid late page rowid levels found (Err (Space f)) some first second given names pages agrees = tt
row_names g early mid late page rowid levels found (Err (Corrupt at)) some first second given names pages agrees =
    let usable = g.used early in
    let view = sight g early pages in
    let step = (given pages (second.earlier pages agrees)).0 in
    let row = step.2.1 in
    let broken = rw (first.used, first.laid) at (names pages agrees) in
    let A : ℕ → Type 0 = λ r. ((at ≡ page) × IsAmiss r found.chain) ⊎ EndsWrong usable view r found.chain at in
    let B : ℕ → Type 0 = λ n. ((at ≡ page) × IsAmiss (rest_of row.0) n) ⊎ EndsWrong usable view (rest_of row.0) n at in
    inr (inl (record {
      leaf = page;
      reached = reached_here usable view levels page some;
      breaks = record { row = row.0; shown = record { shown = step.0; is = step.1; has = row.1 }; how = subst B row.3.2 (subst A row.3.1 broken) };
    }))

pub child_names : {P : Type 0} (g : Ghosts P) (early mid late : P) (page : ℕ) (rowid : ℤ) (levels child : ℕ) (result : Result (Option (List ℕ)) TreeFault)
    → 0 < levels → Reads g early mid → Reads g mid late → GivesStep g early mid page rowid (Ok (Child child)) → NamesDamage g mid late child (levels - 1) result
    → NamesDamage g early late page levels result
child_names g early mid late page rowid levels child result more first second given named pages agrees =
    let step = (given pages (second.earlier pages agrees)).0 in
    let back : suc (levels - 1) ≡ levels = omega (arith, more) in
    let P : ℕ → Type 0 = λ n. HasDamage (g.used early) (sight g early pages) page n result in
    let shows : ShowsChild (g.used early) (sight g early pages) page child = record { shown = step.0; is = step.1; has = step.2 } in
    subst P back (below_names (Option (List ℕ)) (g.used early) (sight g early pages) page (levels - 1) child result shows (rw (first.used, first.laid) at (named pages agrees)))

-- the page itself
pub adds_page : {P : Type 0} (g : Ghosts P) (early late : P) (page : ℕ) (rowid : ℤ) → ((n : ℕ) → n ≢ page → g.seen late n ≡ g.seen early n)
    → AddsOfRange g early late page (rank rowid) (rank rowid)
adds_page g early late page rowid only pages agrees height low high tree n = elim (cases_eq n page) [
  | inl same ↦ inr (inl (root_touched (g.used early) (sight g early pages) (rank rowid) (rank rowid) height page n same))
  | inr other ↦ inl (only n other)
]

-- a page of the chain of the row that a page leads to
pub row_over : {P : Type 0} (g : Ghosts P) (early mid late : P) (page : ℕ) (rowid : ℤ) (found : Found) → Reads g mid late → GivesStep g early mid page rowid (Ok (Row found))
    → (pages : Paging) → Agrees pages (g.seen late) → (height n : ℕ) → IsLink (g.used early) (sight g early pages) found.rest found.chain n
    → IsOverflowBetween (g.used early) (sight g early pages) (rank rowid) (rank rowid) height page n
row_over g early mid late page rowid found second given pages agrees height n link =
    let step = (given pages (second.earlier pages agrees)).0 in
    let row = step.2.1 in
    let same = ap rank row.2 in
    let A : ℕ → Type 0 = λ r. IsLink (g.used early) (sight g early pages) r found.chain n in
    let B : ℕ → Type 0 = λ c. IsLink (g.used early) (sight g early pages) (rest_of row.0) c n in
    record {
      leaf = page;
      row = row.0;
      inside = root_touched (g.used early) (sight g early pages) (rank rowid) (rank rowid) height page page refl;
      shown = record { shown = step.0; is = step.1; has = row.1 };
      kind = step.2.0;
      from = omega (arith, same);
      to = omega (arith, same);
      link = subst B row.3.2 (subst A row.3.1 link);
    }

pub adds_row : {P : Type 0} (g : Ghosts P) (early mid late : P) (page : ℕ) (rowid : ℤ) (found : Found) → Reads g early mid → Reads g mid late
    → ((n : ℕ) → n ≢ page → g.seen mid n ≡ g.seen early n) → GivesStep g early mid page rowid (Ok (Row found)) → AddsOfChain g mid late found.chain found.rest
    → AddsOfRange g early late page (rank rowid) (rank rowid)
adds_row g early mid late page rowid found first second only given adds pages agrees height low high tree n =
    let all = rw (first.used, first.laid) at (adds pages agrees n) in
    elim all [
      | inl same ↦ (elim (adds_page g early mid page rowid only pages (second.earlier pages agrees) height low high tree n) [
        | inl before ↦ inl (same ∙ before)
        | inr has ↦ inr has
      ])
      | inr link ↦ inr (inr (row_over g early mid late page rowid found second given pages agrees height n link))
    ]

-- two equal bounds touch the one child in which the rowid belongs
touched_one : (key : ℕ) (cells : List Cell) (right : ℕ) → touched key key cells right ≡ child_for key cells right ∷ []
touched_one key [] right = refl
touched_one key (c ∷ cs) right = elim (leb_tells key (rank c.key)) [
  | inl hit ↦ rw (le_false (suc (rank c.key)) key (omega (arith, hit.1)), hit.0) refl
  | inr miss ↦ rw (le_true (suc (rank c.key)) key (omega (arith, miss.1)), miss.0) (touched_one key cs right)
]

pub touches_own : (key : ℕ) (cells : List Cell) (right : ℕ) → Contains (touched key key cells right) (child_for key cells right)
touches_own key cells right = rw (touched_one key cells right) (0, omega arith, refl)

pub adds_below : {P : Type 0} (g : Ghosts P) (early mid late : P) (page : ℕ) (rowid : ℤ) (child : ℕ) → Reads g early mid → Reads g mid late
    → ((n : ℕ) → n ≢ page → g.seen mid n ≡ g.seen early n) → GivesStep g early mid page rowid (Ok (Child child)) → AddsOfRange g mid late child (rank rowid) (rank rowid)
    → AddsOfRange g early late page (rank rowid) (rank rowid)
adds_below g early mid late page rowid child first second only given adds pages agrees zero low high tree n =
    absurd (no_interior (leaf_leads (g.used early) (sight g early pages) low high page rowid (Child child) (given pages (second.earlier pages agrees)) tree).0)
adds_below g early mid late page rowid child first second only given adds pages agrees (suc height) low high tree n =
    let usable = g.used early in
    let view = sight g early pages in
    let key = rank rowid in
    let lead = interior_leads usable view height low high page rowid (Child child) (given pages (second.earlier pages agrees)) tree in
    let below = some_tree key (IsTree usable view height) low high (node_cells usable view page) (node_right usable view page) tree.1 in
    let own = touches_own key (node_cells usable view page) (node_right usable view page) in
    let next = child_for key (node_cells usable view page) (node_right usable view page) in
    let all = rw (first.used, first.laid, lead.1) at (adds pages agrees) in
    elim (all height below.low below.high below.tree n) [
      | inl same ↦ (elim (adds_page g early mid page rowid only pages (second.earlier pages agrees) (suc height) low high tree n) [
        | inl before ↦ inl (same ∙ before)
        | inr has ↦ inr has
      ])
      | inr (inl has) ↦ inr (inl (child_touched usable view key key height page next n own has))
      | inr (inr over) ↦ inr (inr (child_over usable view key key height page next n own over))
    ]

pub adds_same : {P : Type 0} (g : Ghosts P) (early late : P) (page : ℕ) (a b : ℤ) → a ≡ b → AddsOfRange g early late page (rank a) (rank a) → AddsOfRange g early late page (rank b) (rank b)
adds_same {P} g early late page a b same adds = let Q : ℤ → Type 0 = λ z. AddsOfRange g early late page (rank z) (rank z) in subst Q same adds

pub reads_twice : {P : Type 0} (g : Ghosts P) (a b c : P) → Reads g a b → Reads g b c → Reads g a c
reads_twice = reads_both
