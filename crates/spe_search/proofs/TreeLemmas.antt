-- Where the row with a rowid is in a tree.
use Rattle.std.proofs.Common.{◌≡◌, ℕ, zero, suc, ℤ, ◌+◌, ◌<◌, ◌≤◌, ◌∙◌, ◌⊎◌, false, List, [], ◌∷◌, ◌++◌, length, get_or, Option, Some, None, refl, ap, arith, inl, inr}
use Rattle.std.specs.Ordering.{int_eq}
use Rattle.std.proofs.lemmas.Bool.{cases_Bool}
use Rattle.std.proofs.lemmas.Bool.Decides.{leb_tells, Decides-int_eq}
use Rattle.spe_model.specs.declared.page.Cell.{Cell}
use Rattle.spe_model.specs.Paging.{Paging}
use Rattle.spe_model.specs.Chain.{IsChain, chain_bytes}
use Rattle.spe_model.specs.Tree.{rank, AreRows, AreUnder, IsTree, rows_of, fan, tree_rows, row_at, cell_for, child_for, node_cells, node_right}
use Rattle.spe_search.specs.declared.page.Found.{Found}
use Rattle.spe_search.specs.Step.{AreSorted, IsFound}

rows_above : (usable : ℕ) (pages : Paging) (low high : ℕ) (cells : List Cell) → AreRows usable pages low high cells
    → (j : ℕ) (d : Cell) → j < length cells → low ≤ rank (get_or cells j d).key
rows_above usable pages low high [] rows j d within = absurd (omega (arith, within))
rows_above usable pages low high (c ∷ cs) rows zero d within = rows.0
rows_above usable pages low high (c ∷ cs) rows (suc j) d within =
    let h = rows_above usable pages (rank c.key + 1) high cs rows.3 j d (omega (arith, within)) in omega (arith, h, rows.0)

pub rows_sorted : (usable : ℕ) (pages : Paging) (low high : ℕ) (cells : List Cell) → AreRows usable pages low high cells → AreSorted cells
rows_sorted usable pages low high [] rows i j d order within = absurd (omega (arith, within))
rows_sorted usable pages low high (c ∷ cs) rows zero zero d order within = absurd (omega (arith, order))
rows_sorted usable pages low high (c ∷ cs) rows zero (suc j) d order within =
    let h = rows_above usable pages (rank c.key + 1) high cs rows.3 j d (omega (arith, within)) in omega (arith, h)
rows_sorted usable pages low high (c ∷ cs) rows (suc i) zero d order within = absurd (omega (arith, order))
rows_sorted usable pages low high (c ∷ cs) rows (suc i) (suc j) d order within =
    rows_sorted usable pages (rank c.key + 1) high cs rows.3 i j d (omega (arith, order)) (omega (arith, within))

under_above : (T : ℕ → ℕ → ℕ → Type 0) (low high : ℕ) (cells : List Cell) (right : ℕ) → AreUnder T low high cells right
    → (j : ℕ) (d : Cell) → j < length cells → low ≤ rank (get_or cells j d).key
under_above T low high [] right under j d within = absurd (omega (arith, within))
under_above T low high (c ∷ cs) right under zero d within = under.0
under_above T low high (c ∷ cs) right under (suc j) d within =
    let h = under_above T (rank c.key + 1) high cs right under.3 j d (omega (arith, within)) in omega (arith, h, under.0)

pub under_sorted : (T : ℕ → ℕ → ℕ → Type 0) (low high : ℕ) (cells : List Cell) (right : ℕ) → AreUnder T low high cells right → AreSorted cells
under_sorted T low high [] right under i j d order within = absurd (omega (arith, within))
under_sorted T low high (c ∷ cs) right under zero zero d order within = absurd (omega (arith, order))
under_sorted T low high (c ∷ cs) right under zero (suc j) d order within =
    let h = under_above T (rank c.key + 1) high cs right under.3 j d (omega (arith, within)) in omega (arith, h)
under_sorted T low high (c ∷ cs) right under (suc i) zero d order within = absurd (omega (arith, order))
under_sorted T low high (c ∷ cs) right under (suc i) (suc j) d order within =
    under_sorted T (rank c.key + 1) high cs right under.3 i j d (omega (arith, order)) (omega (arith, within))

pub row_missing : (usable : ℕ) (pages : Paging) (rowid : ℤ) (cells : List Cell) → IsFound (cell_for rowid cells) None → row_at rowid (rows_of usable pages cells) ≡ None
row_missing usable pages rowid [] none = refl
row_missing usable pages rowid (c ∷ cs) none = elim (cases_Bool (int_eq c.key rowid)) [
  | inl same ↦ absurd (rw same at none)
  | inr other ↦ rw other (row_missing usable pages rowid cs (rw other at none))
]

-- the row that a cell has
pub record HasWhole (usable : ℕ) (pages : Paging) (found : Found) (row : Option (List ℕ)) : Type 0 where
  pub chain : IsChain usable pages found.rest found.chain
  pub is : row ≡ Some (found.local ++ chain_bytes usable pages found.rest found.chain)

pub row_found : (usable : ℕ) (pages : Paging) (rowid : ℤ) (low high : ℕ) (cells : List Cell) (found : Found) → AreRows usable pages low high cells → IsFound (cell_for rowid cells) (Some found)
    → HasWhole usable pages found (row_at rowid (rows_of usable pages cells))
row_found usable pages rowid low high [] found rows is = absurd is
row_found usable pages rowid low high (c ∷ cs) found rows is = elim (cases_Bool (int_eq c.key rowid)) [
  | inl same ↦ (let here = rw same at is in rw same (record {
    chain = rw (here.1, here.2) rows.2;
    is = rw (here.0, here.1, here.2) refl;
  }))
  | inr other ↦ rw other (row_found usable pages rowid (rank c.key + 1) high cs found rows.3 (rw other at is))
]

apart_ranks : (a b : ℤ) → (rank a < rank b) ⊎ (rank b < rank a) → int_eq a b ≡ false
apart_ranks a b order = elim (cases_Bool (int_eq a b)) [
  | inl same ↦ absurd (let e = ap rank ((Decides-int_eq a b).0 same) in omega (arith, e, order))
  | inr other ↦ other
]

row_at-append : (rowid : ℤ) (xs ys : List (ℤ × List ℕ)) → row_at rowid xs ≡ None → row_at rowid (xs ++ ys) ≡ row_at rowid ys
row_at-append rowid [] ys h = refl
row_at-append rowid (x ∷ xs) ys h = elim (cases_Bool (int_eq x.0 rowid)) [
  | inl same ↦ absurd (let e = rw same at h in cc)
  | inr other ↦ rw other (row_at-append rowid xs ys (rw other at h))
]

row_at-append_past : (rowid : ℤ) (xs ys : List (ℤ × List ℕ)) → row_at rowid ys ≡ None → row_at rowid (xs ++ ys) ≡ row_at rowid xs
row_at-append_past rowid [] ys h = h
row_at-append_past rowid (x ∷ xs) ys h = elim (cases_Bool (int_eq x.0 rowid)) [
  | inl same ↦ rw same refl
  | inr other ↦ rw other (row_at-append_past rowid xs ys h)
]

none_in_rows : (usable : ℕ) (pages : Paging) (rowid : ℤ) (low high : ℕ) (cells : List Cell) → AreRows usable pages low high cells → (rank rowid < low) ⊎ (high ≤ rank rowid)
    → row_at rowid (rows_of usable pages cells) ≡ None
none_in_rows usable pages rowid low high [] rows out = refl
none_in_rows usable pages rowid low high (c ∷ cs) rows out =
    let order : (rank c.key < rank rowid) ⊎ (rank rowid < rank c.key) = elim out [ inl a ↦ inr (omega (arith, a, rows.0)) | inr b ↦ inl (omega (arith, b, rows.1)) ] in
    rw (apart_ranks c.key rowid order) (none_in_rows usable pages rowid (rank c.key + 1) high cs rows.3 (elim out [ inl a ↦ inl (omega (arith, a, rows.0)) | inr b ↦ inr b ]))

none_in_fan : (rowid : ℤ) (T : ℕ → ℕ → ℕ → Type 0) (rows : ℕ → List (ℤ × List ℕ))
    → ((low high page : ℕ) → T low high page → (rank rowid < low) ⊎ (high ≤ rank rowid) → row_at rowid (rows page) ≡ None)
    → (low high : ℕ) (cells : List Cell) (right : ℕ) → AreUnder T low high cells right → (rank rowid < low) ⊎ (high ≤ rank rowid) → row_at rowid (fan rows cells right) ≡ None
none_in_fan rowid T rows none low high [] right under out = none low high right under out
none_in_fan rowid T rows none low high (c ∷ cs) right under out =
    row_at-append rowid (rows c.left) (fan rows cs right) (none low (rank c.key + 1) c.left under.2 (elim out [ inl a ↦ inl a | inr b ↦ inr (omega (arith, b, under.1)) ]))
    ∙ none_in_fan rowid T rows none (rank c.key + 1) high cs right under.3 (elim out [ inl a ↦ inl (omega (arith, a, under.0)) | inr b ↦ inr b ])

-- a rowid outside a tree's bounds is none of its rows'
none_in_tree : (rowid : ℤ) (usable : ℕ) (pages : Paging) (height low high page : ℕ) → IsTree usable pages height low high page → (rank rowid < low) ⊎ (high ≤ rank rowid)
    → row_at rowid (tree_rows usable pages height page) ≡ None
none_in_tree rowid usable pages zero low high page tree out = none_in_rows usable pages rowid low high (node_cells usable pages page) tree.1 out
none_in_tree rowid usable pages (suc height) low high page tree out =
    none_in_fan rowid (IsTree usable pages height) (tree_rows usable pages height) (none_in_tree rowid usable pages height) low high
    (node_cells usable pages page) (node_right usable pages page) tree.1 out

-- the child in which a rowid belongs is a tree round it, with the row
pub record HasRow (rowid : ℤ) (T : ℕ → ℕ → ℕ → Type 0) (rows : ℕ → List (ℤ × List ℕ)) (child : ℕ) (all : List (ℤ × List ℕ)) : Type 0 where
  pub low : ℕ
  pub high : ℕ
  pub from : low ≤ rank rowid
  pub to : rank rowid < high
  pub tree : T low high child
  pub row : row_at rowid all ≡ row_at rowid (rows child)

child_has : (rowid : ℤ) (T : ℕ → ℕ → ℕ → Type 0) (rows : ℕ → List (ℤ × List ℕ))
    → ((low high page : ℕ) → T low high page → (rank rowid < low) ⊎ (high ≤ rank rowid) → row_at rowid (rows page) ≡ None)
    → (low high : ℕ) (cells : List Cell) (right : ℕ) → AreUnder T low high cells right → low ≤ rank rowid → rank rowid < high
    → HasRow rowid T rows (child_for (rank rowid) cells right) (fan rows cells right)
child_has rowid T rows none low high [] right under from to = record { low = low; high = high; from = from; to = to; tree = under; row = refl }
child_has rowid T rows none low high (c ∷ cs) right under from to = elim (leb_tells (rank rowid) (rank c.key)) [
  | inl hit ↦ rw hit.0 (record {
    low = low;
    high = rank c.key + 1;
    from = from;
    to = omega (arith, hit.1);
    tree = under.2;
    row = row_at-append_past rowid (rows c.left) (fan rows cs right) (none_in_fan rowid T rows none (rank c.key + 1) high cs right under.3 (inl (omega (arith, hit.1))));
  })
  | inr miss ↦ rw miss.0 (let next = child_has rowid T rows none (rank c.key + 1) high cs right under.3 (omega (arith, miss.1)) to in
      record {
        low = next.low;
        high = next.high;
        from = next.from;
        to = next.to;
        tree = next.tree;
        row = row_at-append rowid (rows c.left) (fan rows cs right) (none low (rank c.key + 1) c.left under.2 (inr (omega (arith, miss.1)))) ∙ next.row;
      })
]

pub tree_step : (rowid : ℤ) (usable : ℕ) (pages : Paging) (height low high page : ℕ) → IsTree usable pages (suc height) low high page → low ≤ rank rowid → rank rowid < high
    → HasRow rowid (IsTree usable pages height) (tree_rows usable pages height) (child_for (rank rowid) (node_cells usable pages page) (node_right usable pages page))
    (tree_rows usable pages (suc height) page)
tree_step rowid usable pages height low high page tree from to =
    child_has rowid (IsTree usable pages height) (tree_rows usable pages height) (none_in_tree rowid usable pages height) low high
    (node_cells usable pages page) (node_right usable pages page) tree.1 from to

-- some child is a tree
pub record IsSome (T : ℕ → ℕ → ℕ → Type 0) (child : ℕ) : Type 0 where
  pub low : ℕ
  pub high : ℕ
  pub tree : T low high child

pub some_tree : (key : ℕ) (T : ℕ → ℕ → ℕ → Type 0) (low high : ℕ) (cells : List Cell) (right : ℕ) → AreUnder T low high cells right → IsSome T (child_for key cells right)
some_tree key T low high [] right under = record { low = low; high = high; tree = under }
some_tree key T low high (c ∷ cs) right under = elim (leb_tells key (rank c.key)) [
  | inl hit ↦ rw hit.0 (record { low = low; high = rank c.key + 1; tree = under.2 })
  | inr miss ↦ rw miss.0 (some_tree key T (rank c.key + 1) high cs right under.3)
]
