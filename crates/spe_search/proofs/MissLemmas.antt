-- The page that a search asks for in vain.
use Rattle.std.proofs.Common.{◌≡◌, ℕ, zero, suc, ℤ, ◌-◌, ◌<◌, ◌∙◌, ◌⊎◌, ◌&&◌, true, List, ◌∷◌, Option, Some, None, Result, Ok, Err, take, get_or, sym, ap, subst, arith, leb, inl, inr}
use Rattle.std.specs.List.{Contains}
use Rattle.spe_model.specs.declared.page.Kind.TheVariants.{TableLeaf}
use Rattle.spe_model.specs.declared.page.Cell.{Cell}
use Rattle.spe_model.specs.declared.page.PageCells.{PageCells}
use Rattle.spe_model.specs.Paging.{Paging, Agrees}
use Rattle.spe_model.specs.Chain.{IsLink}
use Rattle.spe_model.specs.Tree.{rank, rest_of, header_end, IsTree, fan, tree_rows, child_for, node_at, node_cells, node_right}
use Rattle.spe_model.specs.Range.{touched}
use Rattle.spe_space.specs.Calls.{Reads, sight}
use Rattle.spe_space.specs.Found.{OnMissing, missing_weaker, misses_weaker, MissesInChain}
use Rattle.spe_space.specs.declared.pages.Pages.{Ghosts}
use Rattle.spe_space.specs.declared.fault.TreeFault.{TreeFault}
use Rattle.spe_format.specs.View.{Shown, shown_at, shown_of}
use Rattle.spe_search.specs.declared.page.Found.{Found}
use Rattle.spe_search.specs.declared.page.Step.TheVariants.{Row, Child}
use Rattle.spe_search.specs.Found.{used_of, GivesStep}
use Rattle.spe_search.specs.Range.{IsLinkOf, IsLinkAt, IsOverflowBetween, MissesInRows, MissesInLook, MissesInVisit, MissesInRange, touched_pages, HasWalked}
use Rattle.spe_search.specs.Last.{last_rank, HasCut, MissesAtEnd}
use Rattle.spe_search.proofs.TreeLemmas.{some_tree}
use Rattle.spe_search.proofs.FoundLemmas.{row_over, touches_own, leaf_leads, interior_leads, no_interior}
use Rattle.spe_search.proofs.RangeLemmas.{both_in}
use Rattle.spe_search.proofs.AddsLemmas.{root_touched, child_touched, leaf_over, child_over, no_leaf}
use Rattle.spe_search.proofs.EndLemmas.{end_tree}

-- the page itself
pub misses_page : {P : Type 0} (X : Type 0) (g : Ghosts P) (early late : P) (page : ℕ) (rowid : ℤ) (fault : TreeFault) → OnMissing (λ at. at ≡ page) fault
    → MissesInRange {X = X} g early late page (rank rowid) (rank rowid) (Err fault)
misses_page X g early late page rowid fault missing pages agrees height low high tree =
    let usable = g.used early in
    let view = sight g early pages in
    let key = rank rowid in
    missing_weaker (λ at. at ≡ page) (λ at. Contains (touched_pages usable view key key height page) at ⊎ ((0 < at) × IsOverflowBetween usable view key key height page at)) fault
    (λ n same. inl (root_touched usable view key key height page n same)) missing

-- a page of the chain of the row
pub misses_row : {P X : Type 0} (g : Ghosts P) (early mid late : P) (page : ℕ) (rowid : ℤ) (found : Found) (result : Result X TreeFault) → Reads g early mid → Reads g mid late
    → GivesStep g early mid page rowid (Ok (Row found)) → MissesInChain g mid late found.chain found.rest result → MissesInRange g early late page (rank rowid) (rank rowid) result
misses_row g early mid late page rowid found result first second given misses pages agrees height low high tree =
    let usable = g.used early in
    let view = sight g early pages in
    let key = rank rowid in
    let all = rw (first.used, first.laid) at (misses pages agrees) in
    misses_weaker (λ at. (0 < at) × IsLink usable view found.rest found.chain at)
    (λ at. Contains (touched_pages usable view key key height page) at ⊎ ((0 < at) × IsOverflowBetween usable view key key height page at)) result
    (λ n link. inr (link.0, row_over g early mid late page rowid found second given pages agrees height n link.1)) all

-- a page below the child
pub misses_below : {P X : Type 0} (g : Ghosts P) (early mid late : P) (page : ℕ) (rowid : ℤ) (child : ℕ) (result : Result X TreeFault) → Reads g early mid → Reads g mid late
    → GivesStep g early mid page rowid (Ok (Child child)) → MissesInRange g mid late child (rank rowid) (rank rowid) result → MissesInRange g early late page (rank rowid) (rank rowid) result
misses_below g early mid late page rowid child result first second given misses pages agrees zero low high tree =
    absurd (no_interior (leaf_leads (g.used early) (sight g early pages) low high page rowid (Child child) (given pages (second.earlier pages agrees)) tree).0)
misses_below g early mid late page rowid child result first second given misses pages agrees (suc height) low high tree =
    let usable = g.used early in
    let view = sight g early pages in
    let key = rank rowid in
    let lead = interior_leads usable view height low high page rowid (Child child) (given pages (second.earlier pages agrees)) tree in
    let below = some_tree key (IsTree usable view height) low high (node_cells usable view page) (node_right usable view page) tree.1 in
    let own = touches_own key (node_cells usable view page) (node_right usable view page) in
    let next = child_for key (node_cells usable view page) (node_right usable view page) in
    let all = rw (first.used, first.laid, lead.1) at (misses pages agrees) in
    misses_weaker (λ at. Contains (touched_pages usable view key key height next) at ⊎ ((0 < at) × IsOverflowBetween usable view key key height next at))
    (λ at. Contains (touched_pages usable view key key (suc height) page) at ⊎ ((0 < at) × IsOverflowBetween usable view key key (suc height) page at)) result
    (λ n has. elim has [
      | inl in_child ↦ inl (child_touched usable view key key height page next n own in_child)
      | inr over ↦ inr (over.0, child_over usable view key key height page next n own over.1)
    ]) (all height below.low below.high below.tree)

pub misses_same : {P X : Type 0} (g : Ghosts P) (early late : P) (page : ℕ) (result : Result X TreeFault) (a b : ℤ) → a ≡ b
    → MissesInRange g early late page (rank a) (rank a) result → MissesInRange g early late page (rank b) (rank b) result
misses_same {P} {X} g early late page result a b same misses = let Q : ℤ → Type 0 = λ z. MissesInRange g early late page (rank z) (rank z) result in subst Q same misses

-- a page of the chain of a row of a leaf
pub misses_rows : {P : Type 0} (X Y : Type 0) (g : Ghosts P) (early now later : P) (shown : List (Option Cell)) (low high i : ℕ) (c : Cell) (fault : TreeFault)
    → Reads g early now → Some c ≡ get_or shown i None → (leb low (rank c.key) && leb (rank c.key) high) ≡ true
    → MissesInChain {X = X} g now later c.chain (rest_of c) (Err fault) → MissesInRows {X = Y} g early later shown low high (Err fault)
misses_rows X Y g early now later shown low high i c fault kept is inside misses pages agrees =
    let all = rw (kept.used, kept.laid) at (misses pages agrees) in
    let bounds = both_in low (rank c.key) high inside in
    missing_weaker (λ at. (0 < at) × IsLink (g.used early) (sight g early pages) (rest_of c) c.chain at) (λ at. (0 < at) × IsLinkOf (g.used early) (sight g early pages) shown low high at) fault
    (λ n link. (link.0, record { row = c; is = record { index = i; is = sym is }; from = bounds.0; to = bounds.1; link = link.1 })) all

pub misses_look : {P : Type 0} (X Y : Type 0) (g : Ghosts P) (early late : P) (shown : Shown) (low high : ℕ) (fault : TreeFault) → shown.kind ≡ TableLeaf
    → MissesInRows {X = X} g early late shown.cells low high (Err fault) → MissesInLook {X = Y} g early late shown low high (Err fault)
misses_look X Y g early late shown low high fault kind misses pages agrees =
    missing_weaker (λ at. (0 < at) × IsLinkOf (g.used early) (sight g early pages) shown.cells low high at)
    (λ at. (shown.kind ≡ TableLeaf) × (0 < at) × IsLinkOf (g.used early) (sight g early pages) shown.cells low high at) fault
    (λ n link. (kind, link.0, link.1)) (misses pages agrees)

pub misses_visit : {P X : Type 0} (g : Ghosts P) (early mid late : P) (page low high : ℕ) (shown : Shown) (result : Result X TreeFault) → g.used mid ≡ g.used early → g.laid mid ≡ g.laid early
    → ((pages : Paging) → Agrees pages (g.seen late) → (cells : PageCells) → node_at (g.used early) (sight g early pages) page ≡ Ok cells → shown ≡ shown_of cells)
    → ((pages : Paging) → Agrees pages (g.seen late) → shown_at (used_of (g.used early) (sight g early pages) page) (header_end page) ≡ Ok shown)
    → MissesInLook g mid late shown low high result → MissesInVisit g early late page low high result
misses_visit g early mid late page low high shown result used laid legal is look pages agrees =
    let all = rw (used, laid) at (look pages agrees) in
    misses_weaker (λ at. (shown.kind ≡ TableLeaf) × (0 < at) × IsLinkOf (g.used early) (sight g early pages) shown.cells low high at)
    (λ at. (at ≡ page) ⊎ ((0 < at) × IsLinkAt (g.used early) (sight g early pages) page low high at)) result
    (λ n link. inr (
      link.1,
      record {
        shown = shown;
        is = is pages agrees;
        kind = link.0;
        leaf = λ cells e. sym (ap (λ (x : Shown). x.kind) (legal pages agrees cells e)) ∙ link.0;
        link = link.2;
      },
    )) all

pub misses_walk : {P : Type 0} (X Y : Type 0) (g : Ghosts P) (early late : P) (page low high : ℕ) (fault : TreeFault)
    → MissesInVisit {X = X} g early late page low high (Err fault) → MissesInRange {X = Y} g early late page low high (Err fault)
misses_walk X Y g early late page low high fault misses pages agrees zero a b tree =
    let usable = g.used early in
    let view = sight g early pages in
    missing_weaker (λ at. (at ≡ page) ⊎ ((0 < at) × IsLinkAt usable view page low high at))
    (λ at. Contains (touched_pages usable view low high zero page) at ⊎ ((0 < at) × IsOverflowBetween usable view low high zero page at)) fault
    (λ n has. elim has [
      | inl own ↦ inl (root_touched usable view low high zero page n own)
      | inr link ↦ inr (link.0, leaf_over usable view low high page n link.1)
    ]) (misses pages agrees)
misses_walk X Y g early late page low high fault misses pages agrees (suc height) a b tree =
    let usable = g.used early in
    let view = sight g early pages in
    missing_weaker (λ at. (at ≡ page) ⊎ ((0 < at) × IsLinkAt usable view page low high at))
    (λ at. Contains (touched_pages usable view low high (suc height) page) at ⊎ ((0 < at) × IsOverflowBetween usable view low high (suc height) page at)) fault
    (λ n has. elim has [
      | inl own ↦ inl (root_touched usable view low high (suc height) page n own)
      | inr link ↦ absurd (no_leaf (link.1.leaf _ tree.0))
    ]) (misses pages agrees)

pub misses_child : {P : Type 0} (X Y : Type 0) (g : Ghosts P) (early now later : P) (page low high levels child : ℕ) (fault : TreeFault) (old mid : List (ℤ × List ℕ)) (left rest : List ℕ)
    → Reads g early now → Reads g now later → left ≡ child ∷ rest → HasWalked g early now page low high levels old mid left
    → MissesInRange {X = X} g now later child low high (Err fault) → MissesInRange {X = Y} g early later page low high (Err fault)
misses_child X Y g early now later page low high levels child fault old mid left rest kept keeps e walked misses pages agrees zero a b tree =
    absurd (let is = rw e at (walked pages (keeps.earlier pages agrees)) in let none = (is.leaf a b tree).0 in cc)
misses_child X Y g early now later page low high levels child fault old mid left rest kept keeps e walked misses pages agrees (suc height) a b tree =
    let usable = g.used early in
    let view = sight g early pages in
    let is = rw e at (walked pages (keeps.earlier pages agrees)) in
    let own = (is.trees height a b tree).0 in
    let touches : Contains (touched low high (node_cells usable view page) (node_right usable view page)) child = is.touches height a b tree 0 child (omega arith) in
    let all = rw (kept.used, kept.laid) at (misses pages agrees) in
    missing_weaker (λ at. Contains (touched_pages usable view low high height child) at ⊎ ((0 < at) × IsOverflowBetween usable view low high height child at))
    (λ at. Contains (touched_pages usable view low high (suc height) page) at ⊎ ((0 < at) × IsOverflowBetween usable view low high (suc height) page at)) fault
    (λ n has. elim has [
      | inl in_child ↦ inl (child_touched usable view low high height page child n touches in_child)
      | inr over ↦ inr (over.0, child_over usable view low high height page child n touches over.1)
    ]) (all height own.0 own.1 own.2)

pub misses_end : {P : Type 0} (g : Ghosts P) (early late : P) (page levels : ℕ) (fault : TreeFault) → OnMissing (λ at. at ≡ page) fault → MissesAtEnd {X = Option ℤ} g early late page levels (Err fault)
misses_end g early late page levels fault missing pages agrees height a b from to under tree begins ends =
    missing_weaker (λ at. at ≡ page) (Contains (touched_pages (g.used early) (sight g early pages) from to height page)) fault
    (λ n same. root_touched (g.used early) (sight g early pages) from to height page n same) missing

pub misses_cut : {P : Type 0} (g : Ghosts P) (early now later : P) (page levels before child : ℕ) (fault : TreeFault) → Reads g early now → Reads g now later
    → HasCut g early now page levels before child → MissesAtEnd {X = Option ℤ} g now later child (levels - 1) (Err fault) → MissesAtEnd {X = Option ℤ} g early later page levels (Err fault)
misses_cut g early now later page levels before child fault kept keeps cut misses pages agrees zero a b from to under tree begins ends = absurd ((cut pages (keeps.earlier pages agrees)).leaf a b tree)
misses_cut g early now later page levels before child fault kept keeps cut misses pages agrees (suc height) a b from to under tree begins ends =
    let usable = g.used early in
    let view = sight g early pages in
    let here = (cut pages (keeps.earlier pages agrees)).tree height a b under tree in
    let cells = take before (node_cells usable view page) in
    let end = end_tree usable view height a here.high cells child here.under in
    let reach : last_rank a (tree_rows usable view (suc height) page) ≡ last_rank a (fan (tree_rows usable view height) cells child) = ap (last_rank a) here.rows in
    let all = rw (kept.used, kept.laid) at (misses pages agrees) in
    missing_weaker (Contains (touched_pages usable view from to height child)) (Contains (touched_pages usable view from to (suc height) page)) fault
    (λ n has. child_touched usable view from to height page child n (here.touches from to begins ends) has)
    (all height end.low here.high from to (omega (arith, under)) end.tree (omega (arith, begins, reach, end.reach)) (omega (arith, here.within, ends)))
