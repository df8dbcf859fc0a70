-- The leaves that rows are read from.
use Rattle.std.proofs.Common.{◌≡◌, ◌≢◌, ◌⊎◌, inl, inr, ℕ, zero, suc, ℤ, ◌-◌, ◌<◌, List, [], ◌∷◌, ◌++◌, map, get_or, Option, Some, None, Result, Ok, Err, refl, sym, ap, subst, arith}
use Rattle.std.specs.Prelude.{OnOk}
use Rattle.std.specs.List.{Contains}
use Rattle.std.proofs.lemmas.List.Elements.{Contains-append_cases}
use Rattle.spe_model.specs.declared.page.Kind.{Kind}
use Rattle.spe_model.specs.declared.page.Kind.TheVariants.{TableLeaf, TableInterior, IndexLeaf, IndexInterior}
use Rattle.spe_model.specs.declared.page.Cell.{Cell}
use Rattle.spe_model.specs.Paging.{Paging, Agrees}
use Rattle.spe_model.specs.Tree.{header_end}
use Rattle.spe_space.specs.Calls.{Reads, sight}
use Rattle.spe_space.specs.Found.{ReadsChain}
use Rattle.spe_space.specs.declared.pages.Pages.{Ghosts}
use Rattle.spe_space.specs.declared.fault.TreeFault.{TreeFault}
use Rattle.spe_format.specs.View.{Shown, shown_at}
use Rattle.spe_search.specs.declared.page.Found.{Found}
use Rattle.spe_search.specs.declared.pairs.Pair.{Pair}
use Rattle.spe_search.specs.Found.{IsReached, used_of}
use Rattle.spe_search.specs.Leaves.{HasRead, HasTaken, HasVisited, IsRead, IsRowAt, IsRowOf, IsRowIn, Joins, TakesRows, TakesVisit}
use Rattle.spe_search.specs.Pairs.{pair_seen}
use Rattle.spe_search.specs.Range.{HasWalked}
use Rattle.spe_search.specs.Step.{IsFoundIn}
use Rattle.spe_search.proofs.FoundLemmas.{reached_below, reached_here}

-- one row more
pub rows_push : (old : List Pair) (row : Pair) → map pair_seen (old ++ row ∷ []) ≡ map pair_seen old ++ pair_seen row ∷ []
rows_push [] row = refl
rows_push (r ∷ rs) row = ap (λ (xs : List (ℤ × List ℕ)). pair_seen r ∷ xs) (rows_push rs row)

only_row : (x row : Pair) → Contains (x ∷ []) row → x ≡ row
only_row x row (zero, lt, is) = is
only_row x row (suc k, lt, is) = absurd (omega (arith, lt))

joins_one : (What : Pair → Type 0) (old new : List Pair) (x : Pair) → new ≡ old ++ x ∷ [] → What x → Joins What old new
joins_one What old new x e is row has = elim (Contains-append_cases old (x ∷ []) row (subst (λ (xs : List Pair). Contains xs row) e has)) [
  | inl before ↦ inl before
  | inr own ↦ inr (subst What (only_row x row own) is)
]

joins_both : (A B C : Pair → Type 0) (old mid new : List Pair) → ((row : Pair) → A row → C row) → ((row : Pair) → B row → C row) → Joins A old mid → Joins B mid new → Joins C old new
joins_both A B C old mid new first second before after row has = elim (after row has) [
  | inl earlier ↦ (elim (before row earlier) [
    | inl oldest ↦ inl oldest
    | inr is ↦ inr (first row is)
  ])
  | inr is ↦ inr (second row is)
]

-- the row of a cell
pub joins_cell : {P : Type 0} (g : Ghosts P) (early late : P) (page : ℕ) (c : Cell) (found : Found) (old new : List Pair) (x : Pair)
    → new ≡ old ++ x ∷ [] → x.leaf ≡ page → x.rowid ≡ c.key → IsFoundIn found c → ReadsChain g early late found.chain found.rest (λ b. b) found.local (Ok x.payload)
    → (pages : Paging) → Agrees pages (g.seen late) → Joins (IsRowOf (g.used early) (sight g early pages) page c) old new
joins_cell g early late page c found old new x e leaf rowid is whole pages agrees =
    let usable = g.used early in
    let view = sight g early pages in
    joins_one (IsRowOf usable view page c) old new x e (record {
      leaf_is = leaf;
      rowid_is = rowid;
      payload_is = rw (is.0, is.1, is.2) at (whole pages agrees);
    })

-- a row more of a leaf
pub joins_row : {P : Type 0} (g : Ghosts P) (early now later : P) (page : ℕ) (shown : List (Option Cell)) (i : ℕ) (c : Cell) (old mid new : List Pair)
    → Reads g early now → Reads g now later → Some c ≡ get_or shown i None → HasTaken g early now page shown old mid
    → ((pages : Paging) → Agrees pages (g.seen later) → Joins (IsRowOf (g.used now) (sight g now pages) page c) mid new) → HasTaken g early later page shown old new
joins_row g early now later page shown i c old mid new kept keeps is before takes pages agrees =
    let usable = g.used early in
    let view = sight g early pages in
    joins_both (IsRowIn usable view page shown) (IsRowOf usable view page c) (IsRowIn usable view page shown) old mid new (λ row h. h)
    (λ row h. (c, record { index = i; is = sym is }, h)) (before pages (keeps.earlier pages agrees)) (rw (kept.used, kept.laid) at (takes pages agrees))

-- none
pub joins_none : (What : Pair → Type 0) (xs : List Pair) → Joins What xs xs
joins_none What xs row has = inl has

is_leaf_or : (kind : Kind) → (kind ≡ TableLeaf) ⊎ (kind ≢ TableLeaf)
is_leaf_or TableLeaf = inl refl
is_leaf_or TableInterior = inr (λ e. absurd cc)
is_leaf_or IndexLeaf = inr (λ e. absurd cc)
is_leaf_or IndexInterior = inr (λ e. absurd cc)

-- a page that was got, and looked at
pub joins_visit : {P X : Type 0} (g : Ghosts P) (early mid late : P) (page : ℕ) (shown : Shown) (old new : List Pair) (result : Result X TreeFault) → g.used mid ≡ g.used early → g.laid mid ≡ g.laid early
    → ((pages : Paging) → Agrees pages (g.seen late) → shown_at (used_of (g.used early) (sight g early pages) page) (header_end page) ≡ Ok shown)
    → (shown.kind ≡ TableLeaf → TakesRows g mid late page shown.cells old new result) → (shown.kind ≢ TableLeaf → OnOk result (new ≡ old)) → TakesVisit g early late page old new result
joins_visit g early mid late page shown old new (Err fault) used laid is taken none = tt
joins_visit g early mid late page shown old new (Ok x) used laid is taken none = λ pages agrees row has. elim (is_leaf_or shown.kind) [
  | inl leaf ↦ (elim (rw (used, laid) at (taken leaf pages agrees row has)) [
    | inl before ↦ inl before
    | inr own ↦ inr (record { shown = shown; is = is pages agrees; kind = leaf; inside = own })
  ])
  | inr other ↦ inl (subst (λ (xs : List Pair). Contains xs row) (none other) has)
]

row_leaf : (usable : ℕ) (pages : Paging) (leaf : ℕ) (row : Pair) → IsRowAt usable pages leaf row → row.leaf ≡ leaf
row_leaf usable pages leaf row at = at.inside.2.leaf_is

pub joins_walk : {P : Type 0} (g : Ghosts P) (early late : P) (page levels : ℕ) (old new : List Pair) → 0 < levels → HasVisited g early late page old new → HasRead g early late page levels old new
joins_walk g early late page levels old new some visited pages agrees row has =
    let usable = g.used early in
    let view = sight g early pages in
    elim (visited pages agrees row has) [
      | inl before ↦ inl before
      | inr own ↦ inr (
          let same = sym (row_leaf usable view page row own) in
          record {
            reached = subst (λ (n : ℕ). IsReached usable view levels page n) same (reached_here usable view levels page some);
            shown = subst (λ (n : ℕ). IsRowAt usable view n row) same own;
          })
    ]

-- rows behind none
pub joins_first : (What : Pair → Type 0) (old new : List Pair) → old ≡ [] → Joins What old new → (row : Pair) → Contains new row → What row
joins_first What old new e joins row has = elim (joins row has) [
  | inl before ↦ absurd (none (subst (λ (xs : List Pair). Contains xs row) e before))
  | inr is ↦ is
]
  where
    none : Contains [] row → ⊥
    none (k, lt, is) = omega (arith, lt)

-- rows below a child
pub joins_child : {P : Type 0} (g : Ghosts P) (early now later : P) (page low high levels child : ℕ) (from to : List (ℤ × List ℕ)) (left rest : List ℕ) (old mid new : List Pair) → 0 < levels
    → Reads g early now → Reads g now later → left ≡ child ∷ rest → HasWalked g early now page low high levels from to left → HasRead g early now page levels old mid
    → HasRead g now later child (levels - 1) mid new → HasRead g early later page levels old new
joins_child g early now later page low high levels child from to left rest old mid new some kept keeps e walked before more pages agrees =
    let usable = g.used early in
    let view = sight g early pages in
    let is = rw e at (walked pages (keeps.earlier pages agrees)) in
    let back : suc (levels - 1) ≡ levels = omega (arith, some) in
    joins_both (IsRead usable view levels page) (IsRead usable view (levels - 1) child) (IsRead usable view levels page) old mid new (λ row h. h)
    (λ row h. record {
      reached = subst (λ (n : ℕ). IsReached usable view n page row.leaf) back (reached_below usable view (levels - 1) page child row.leaf (is.shown 0 child (omega arith)) h.reached);
      shown = h.shown;
    }) (before pages (keeps.earlier pages agrees)) (rw (kept.used, kept.laid) at (more pages agrees))

pub rows_after : (old inner new : List Pair) (row : Pair) → old ≡ inner → new ≡ inner ++ row ∷ [] → map pair_seen new ≡ map pair_seen old ++ pair_seen row ∷ []
rows_after old inner new row e f = rw (f, e) (rows_push inner row)
