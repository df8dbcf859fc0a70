-- The pages that a walk over the rows between two rowids adds.
use Rattle.std.proofs.Common.{◌≡◌, ℕ, zero, suc, ℤ, ◌<◌, ◌≢◌, ◌∙◌, List, [], ◌∷◌, length, get_or, Ok, refl, sym, ap, subst, arith, inl, inr}
use Rattle.std.specs.List.{Contains}
use Rattle.std.proofs.lemmas.Bool.{cases_eq}
use Rattle.std.proofs.lemmas.List.Elements.{Contains-append_left, Contains-append_right}
use Rattle.spe_model.specs.declared.page.Kind.TheVariants.{TableLeaf, TableInterior}
use Rattle.spe_model.specs.declared.page.PageCells.{PageCells}
use Rattle.spe_model.specs.Paging.{Paging, Agrees}
use Rattle.spe_model.specs.Tree.{rank, header_end, node_at, node_cells, node_right}
use Rattle.spe_model.specs.Range.{touched, joined}
use Rattle.spe_space.specs.Calls.{Reads, sight}
use Rattle.spe_space.specs.declared.pages.Pages.{Ghosts}
use Rattle.spe_format.specs.View.{Shown, shown_at, shown_of}
use Rattle.spe_search.specs.Found.{used_of}
use Rattle.spe_search.specs.Range.{AddsOfLook, AddsOfVisit, AddsOfRange, touched_pages, IsLinkAt, IsOverflowBetween, HasWalked}

joined_has : (own : ℕ → List ℕ) (pages : List ℕ) (k child n : ℕ) → k < length pages → get_or pages k child ≡ child → Contains (own child) n → Contains (joined own pages) n
joined_has own [] k child n within is has = absurd (omega (arith, within))
joined_has own (page ∷ rest) zero child n within is has =
    let P : ℕ → Type 0 = λ p. Contains (own p) n in
    Contains-append_left (own page) (joined own rest) n (subst P (sym is) has)
joined_has own (page ∷ rest) (suc k) child n within is has = Contains-append_right (own page) (joined own rest) n (joined_has own rest k child n (omega (arith, within)) is has)

-- a page that a walk below a touched child touches
pub child_touched : (usable : ℕ) (pages : Paging) (low high height page child n : ℕ) → Contains (touched low high (node_cells usable pages page) (node_right usable pages page)) child
    → Contains (touched_pages usable pages low high height child) n → Contains (touched_pages usable pages low high (suc height) page) n
child_touched usable pages low high height page child n touches has =
    let children = touched low high (node_cells usable pages page) (node_right usable pages page) in
    Contains-append_right (page ∷ []) (joined (touched_pages usable pages low high height) children) n
    (joined_has (touched_pages usable pages low high height) children touches.0 child n touches.1 touches.2 has)

pub root_touched : (usable : ℕ) (pages : Paging) (low high height page n : ℕ) → n ≡ page → Contains (touched_pages usable pages low high height page) n
root_touched usable pages low high zero page n same = (0, omega arith, sym same)
root_touched usable pages low high (suc height) page n same = (0, omega arith, sym same)

-- a page of the chain of a row of a leaf
pub leaf_over : (usable : ℕ) (pages : Paging) (low high page n : ℕ) → IsLinkAt usable pages page low high n → IsOverflowBetween usable pages low high zero page n
leaf_over usable pages low high page n at = record {
  leaf = page;
  row = at.link.row;
  inside = root_touched usable pages low high zero page page refl;
  shown = record { shown = at.shown; is = at.is; has = at.link.is };
  kind = at.kind;
  from = at.link.from;
  to = at.link.to;
  link = at.link.link;
}

pub child_over : (usable : ℕ) (pages : Paging) (low high height page child n : ℕ) → Contains (touched low high (node_cells usable pages page) (node_right usable pages page)) child
    → IsOverflowBetween usable pages low high height child n → IsOverflowBetween usable pages low high (suc height) page n
child_over usable pages low high height page child n touches over = record {
  leaf = over.leaf;
  row = over.row;
  inside = child_touched usable pages low high height page child over.leaf touches over.inside;
  shown = over.shown;
  kind = over.kind;
  from = over.from;
  to = over.to;
  link = over.link;
}

-- a page is got, and looked at
pub visit_adds : {P : Type 0} (g : Ghosts P) (early mid late : P) (page low high : ℕ) (shown : Shown) → g.used mid ≡ g.used early → g.laid mid ≡ g.laid early
    → ((n : ℕ) → n ≢ page → g.seen mid n ≡ g.seen early n)
    → ((pages : Paging) → Agrees pages (g.seen late) → (cells : PageCells) → node_at (g.used early) (sight g early pages) page ≡ Ok cells → shown ≡ shown_of cells)
    → ((pages : Paging) → Agrees pages (g.seen late) → shown_at (used_of (g.used early) (sight g early pages) page) (header_end page) ≡ Ok shown)
    → AddsOfLook g mid late shown low high → AddsOfVisit g early late page low high
visit_adds g early mid late page low high shown used laid only legal is look pages agrees n =
    let all = rw (used, laid) at (look pages agrees n) in
    elim all [
      | inl same ↦ (elim (cases_eq n page) [
        | inl own ↦ inr (inl own)
        | inr other ↦ inl (same ∙ only n other)
      ])
      | inr link ↦ inr (inr (record {
        shown = shown;
        is = is pages agrees;
        kind = link.0;
        leaf = λ cells e. sym (ap (λ (x : Shown). x.kind) (legal pages agrees cells e)) ∙ link.0;
        link = link.1;
      }))
    ]

pub no_leaf : TableInterior ≡ TableLeaf → ⊥
no_leaf e = cc

pub adds_visit : {P : Type 0} (g : Ghosts P) (early late : P) (page low high : ℕ) → AddsOfVisit g early late page low high → AddsOfRange g early late page low high
adds_visit g early late page low high visit pages agrees zero a b tree n = elim (visit pages agrees n) [
  | inl same ↦ inl same
  | inr (inl own) ↦ inr (inl (root_touched (g.used early) (sight g early pages) low high zero page n own))
  | inr (inr at) ↦ inr (inr (leaf_over (g.used early) (sight g early pages) low high page n at))
]
adds_visit g early late page low high visit pages agrees (suc height) a b tree n = elim (visit pages agrees n) [
  | inl same ↦ inl same
  | inr (inl own) ↦ inr (inl (root_touched (g.used early) (sight g early pages) low high (suc height) page n own))
  | inr (inr at) ↦ absurd (no_leaf (at.leaf _ tree.0))
]

pub adds_child : {P : Type 0} (g : Ghosts P) (early now later : P) (page low high levels child : ℕ) (old mid : List (ℤ × List ℕ)) (left rest : List ℕ)
    → Reads g early now → Reads g now later → left ≡ child ∷ rest → HasWalked g early now page low high levels old mid left
    → AddsOfRange g early now page low high → AddsOfRange g now later child low high → AddsOfRange g early later page low high
adds_child g early now later page low high levels child old mid left rest kept keeps e walked before adds pages agrees zero a b tree n =
    absurd (let is = rw e at (walked pages (keeps.earlier pages agrees)) in let none = (is.leaf a b tree).0 in cc)
adds_child g early now later page low high levels child old mid left rest kept keeps e walked before adds pages agrees (suc height) a b tree n =
    let usable = g.used early in
    let view = sight g early pages in
    let is = rw e at (walked pages (keeps.earlier pages agrees)) in
    let own = (is.trees height a b tree).0 in
    let touches : Contains (touched low high (node_cells usable view page) (node_right usable view page)) child = is.touches height a b tree 0 child (omega arith) in
    let all = rw (kept.used, kept.laid) at (adds pages agrees) in
    elim (all height own.0 own.1 own.2 n) [
      | inl same ↦ (elim (before pages (keeps.earlier pages agrees) (suc height) a b tree n) [
        | inl as_before ↦ inl (same ∙ as_before)
        | inr has ↦ inr has
      ])
      | inr (inl has) ↦ inr (inl (child_touched usable view low high height page child n touches has))
      | inr (inr over) ↦ inr (inr (child_over usable view low high height page child n touches over))
    ]

-- the bounds by their ranks
pub adds_ranks : {P : Type 0} (g : Ghosts P) (early late : P) (page from to : ℕ) (a b low high : ℤ) → from ≡ rank a → to ≡ rank b → a ≡ low → b ≡ high
    → AddsOfRange g early late page from to → AddsOfRange g early late page (rank low) (rank high)
adds_ranks g early late page from to a b low high f t l h adds = rw (← l, ← h, ← f, ← t) adds

pub adds_between : {P : Type 0} (g : Ghosts P) (early late : P) (page : ℕ) (a b low high : ℤ) → a ≡ low → b ≡ high
    → AddsOfRange g early late page (rank a) (rank b) → AddsOfRange g early late page (rank low) (rank high)
adds_between g early late page a b low high l h adds = rw (← l, ← h) adds
