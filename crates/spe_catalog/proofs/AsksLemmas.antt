-- The pages that a catalog is read from.
use Rattle.std.proofs.Common.{◌≡◌, ◌⊎◌, inl, inr, ℕ, zero, suc, ℤ, ◌<◌, List, [], ◌∷◌, Result, Err, refl, true, sym, ◌∙◌, arith, subst}
use Rattle.std.specs.List.{Contains}
use Rattle.spe_model.specs.Paging.{Paging, Agrees}
use Rattle.spe_model.specs.Tree.{IsTableTree, tree_rows}
use Rattle.spe_model.specs.Schema.{SchemaRow, is_table_row}
use Rattle.spe_space.specs.Calls.{Reads, sight}
use Rattle.spe_space.specs.Found.{missing_weaker, misses_weaker}
use Rattle.spe_space.specs.declared.pages.Pages.{Ghosts}
use Rattle.spe_space.specs.declared.fault.TreeFault.{TreeFault}
use Rattle.spe_search.specs.Range.{touched_pages, IsOverflowBetween, AddsOfRange, MissesInRange}
use Rattle.spe_search.proofs.TouchedLemmas.{touched_in_tree}
use Rattle.spe_catalog.specs.Reading.{AreRead}
use Rattle.spe_catalog.specs.Asks.{AddsOnly, MissesOnly, IsRootOf, IsRootIn, IsCatalogPage, IsCatalogMiss, AddsOfCatalog, MissesOfCatalog}

-- a table among some rows is among more
pub first_in : (left rest : List SchemaRow) (row : SchemaRow) → left ≡ row ∷ rest → (n : ℕ) → IsRootIn (row ∷ []) n → IsRootIn left n
first_in left rest row e n root = record { row = root.row; is = rw e (first root.is); table = root.table; root = root.root }
  where
    first : Contains (row ∷ []) root.row → Contains (row ∷ rest) root.row
    first (zero, within, same) = (zero, omega arith, same)
    first (suc i, within, same) = absurd (omega (arith, within))

pub rest_in : (left rest : List SchemaRow) (row : SchemaRow) → left ≡ row ∷ rest → (n : ℕ) → IsRootIn rest n → IsRootIn left n
rest_in left rest row e n root =
    record { row = root.row; is = rw e (suc root.is.0, omega (arith, root.is.1), root.is.2); table = root.table; root = root.root }

-- the root of a table's row
pub adds_of_row : {P : Type 0} (g : Ghosts P) (early late : P) (row : SchemaRow) → is_table_row row ≡ true → AddsOnly g early late (IsRootOf row)
    → AddsOnly g early late (IsRootIn (row ∷ []))
adds_of_row g early late row table adds n = elim (adds n) [
  | inl same ↦ inl same
  | inr root ↦ inr (record { row = row; is = (0, omega arith, refl); table = table; root = root })
]

-- pages given first, and then more
pub adds_both : {P : Type 0} (g : Ghosts P) (early mid late : P) (A B C : ℕ → Type 0) → AddsOnly g early mid A → AddsOnly g mid late B → ((n : ℕ) → A n → C n) → ((n : ℕ) → B n → C n)
    → AddsOnly g early late C
adds_both g early mid late A B C first second a b n = elim (second n) [
  | inl same ↦ (elim (first n) [
    | inl before ↦ inl (same ∙ before)
    | inr has ↦ inr (a n has)
  ])
  | inr has ↦ inr (b n has)
]

-- the walk over the schema's rows
pub range_adds : {P : Type 0} (g : Ghosts P) (early late : P) → AddsOfRange g early late 1 0 18446744073709551615 → AddsOfCatalog g early late
range_adds g early late adds pages agrees height tree n = elim (adds pages agrees height 0 18446744073709551616 tree.1 n) [
  | inl same ↦ inl same
  | inr (inl has) ↦ inr (inl (touched_in_tree (g.used early) (sight g early pages) 0 18446744073709551615 height 1 n has))
  | inr (inr over) ↦ inr (inr (inl over))
]

pub range_misses : {P : Type 0} (X Y : Type 0) (g : Ghosts P) (early late : P) (fault : TreeFault) → MissesInRange {X = X} g early late 1 0 18446744073709551615 (Err fault)
    → MissesOfCatalog {X = Y} g early late (Err fault)
range_misses X Y g early late fault misses pages agrees height tree =
    let usable = g.used early in
    let view = sight g early pages in
    missing_weaker (λ at. Contains (touched_pages usable view 0 18446744073709551615 height 1) at ⊎ ((0 < at) × IsOverflowBetween usable view 0 18446744073709551615 height 1 at))
    (IsCatalogMiss usable view height) fault
    (λ n has. elim has [
      | inl touched ↦ inl (touched_in_tree usable view 0 18446744073709551615 height 1 n touched)
      | inr over ↦ inr (inl over)
    ]) (misses pages agrees height 0 18446744073709551616 tree.1)

-- the rows of the schema's tree, as they were read
abbrev pub ReadsRows : {P : Type 0} (g : Ghosts P) (early late : P) (rows : List SchemaRow) → Type 0
ReadsRows g early late rows =
    (pages : Paging) → Agrees pages (g.seen late) → (height : ℕ) → IsTableTree (g.used early) (sight g early pages) height 1
    → AreRead (tree_rows (g.used early) (sight g early pages) height 1) rows

pub rows_read : (stored tree : List (ℤ × List ℕ)) (rows slice : List SchemaRow) → stored ≡ tree → slice ≡ rows → AreRead stored rows → AreRead tree slice
rows_read stored tree rows slice e s read =
    subst (λ (rs : List SchemaRow). AreRead tree rs) (sym s) (subst (λ (xs : List (ℤ × List ℕ)). AreRead xs rows) e read)

-- the roots of tables, after that walk
pub roots_add : {P : Type 0} (g : Ghosts P) (early mid late : P) (rows : List SchemaRow) → Reads g mid late → ReadsRows g early mid rows → AddsOfCatalog g early mid
    → AddsOnly g mid late (IsRootIn rows) → AddsOfCatalog g early late
roots_add g early mid late rows second reads walk adds pages agrees height tree =
    let Page : ℕ → Type 0 = IsCatalogPage (g.used early) (sight g early pages) height in
    let read = reads pages (second.earlier pages agrees) height tree in
    adds_both g early mid late Page (IsRootIn rows) Page (walk pages (second.earlier pages agrees) height tree) adds (λ n has. has)
    (λ n root. inr (inr (record { rows = rows; read = read; root = root })))

pub roots_miss : {P X : Type 0} (g : Ghosts P) (early mid late : P) (rows : List SchemaRow) (result : Result X TreeFault) → Reads g mid late → ReadsRows g early mid rows
    → MissesOnly result (IsRootIn rows) → MissesOfCatalog g early late result
roots_miss g early mid late rows result second reads misses pages agrees height tree =
    let read = reads pages (second.earlier pages agrees) height tree in
    misses_weaker (IsRootIn rows) (IsCatalogMiss (g.used early) (sight g early pages) height) result (λ n root. inr (inr (record { rows = rows; read = read; root = root }))) misses
