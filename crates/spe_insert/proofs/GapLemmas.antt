-- The place of a rowid among the cells of a leaf.
use Rattle.std.proofs.Common.{◌≡◌, ℕ, zero, suc, ℤ, ◌+◌, ◌<◌, ◌≤◌, ◌∙◌, List, [], ◌∷◌, ◌++◌, All, Bool, true, false, Some, None, take, drop, length, refl, sym, ap, subst, arith}
use Rattle.std.specs.Prelude.{◌&&◌, if◌then◌else◌, int_lt, nat_lt}
use Rattle.std.specs.Ordering.{int_eq}
use Rattle.std.proofs.lemmas.Bool.{ltb-false, ltb-true}
use Rattle.std.proofs.lemmas.List.{length-take-le, take-append-drop}
use Rattle.std.proofs.lemmas.List.Elements.{All-cons, All-head, All-nil, All-tail}
use Rattle.spe_model.specs.declared.page.Cell.{Cell}
use Rattle.spe_model.specs.declared.page.Kind.TheVariants.{TableLeaf}
use Rattle.spe_model.specs.Page.{above, ascends}
use Rattle.spe_model.specs.Paging.{Paging}
use Rattle.spe_model.specs.Tree.{AreRows, payload_of, rank, row_at, rows_of}
use Rattle.spe_format.specs.Canonical.{AreWritable, IsWritable, IsWritableCell}
use Rattle.spe_cut.specs.Parts.{leaf_cells, need, room, without}
use Rattle.spe_cut.proofs.OrderLemmas.{lower_rank}
use Rattle.spe_insert.specs.LeafStep.{IsAbove, IsFrom, IsGap, leads_with}
use Rattle.spe_insert.specs.Place.{place_for}

abbrev HasLower : ℕ → Cell → Type 0
HasLower key d = rank d.key < key

-- before the place are lower rowids, and from it on none is lower
place_lower : (key : ℕ) (cells : List Cell) → All (HasLower key) (take (place_for key cells) cells)
place_lower key [] = All-nil (HasLower key)
place_lower key (c ∷ cs) = pick (nat_lt (rank c.key) key) (ltb-true (rank c.key) key) (place_lower key cs)
  where
    pick : (b : Bool) → (b ≡ true → rank c.key < key) → All (HasLower key) (take (place_for key cs) cs)
        → All (HasLower key) (take (if b then place_for key cs + 1 else 0) (c ∷ cs))
    pick true low rest =
        let one : suc (place_for key cs) ≡ place_for key cs + 1 = omega arith in
        subst (λ (n : ℕ). All (HasLower key) (take n (c ∷ cs))) one (All-cons (HasLower key) c (take (place_for key cs) cs) (low refl) rest)
    pick false low rest = All-nil (HasLower key)

place_from : (key : ℕ) (cells : List Cell) → IsFrom key (drop (place_for key cells) cells)
place_from key [] = tt
place_from key (c ∷ cs) = pick (nat_lt (rank c.key) key) (ltb-false (rank c.key) key) (place_from key cs)
  where
    pick : (b : Bool) → (b ≡ false → key ≤ rank c.key) → IsFrom key (drop (place_for key cs) cs)
        → IsFrom key (drop (if b then place_for key cs + 1 else 0) (c ∷ cs))
    pick true high rest =
        let one : suc (place_for key cs) ≡ place_for key cs + 1 = omega arith in
        subst (λ (n : ℕ). IsFrom key (drop n (c ∷ cs))) one rest
    pick false high rest = high refl

-- a cell with the rowid is a row with it
pub row_there : (usable : ℕ) (pages : Paging) (rowid : ℤ) (n : ℕ) (cells : List Cell) → leads_with rowid (drop n cells) ≡ true
    → row_at rowid (rows_of usable pages cells) ≡ None → ⊥
row_there usable pages rowid zero [] leads lacks = absurd cc
row_there usable pages rowid (suc n) [] leads lacks = absurd cc
row_there usable pages rowid zero (c ∷ cs) leads lacks =
    let p = payload_of usable pages c in
    let e : Some p ≡ None = subst (λ (b : Bool). (if b then Some p else row_at rowid (rows_of usable pages cs)) ≡ None) leads lacks in absurd cc
row_there usable pages rowid (suc n) (c ∷ cs) leads lacks = pick (int_eq c.key rowid) lacks (row_there usable pages rowid n cs leads)
  where
    pick : (b : Bool) → (if b then Some (payload_of usable pages c) else row_at rowid (rows_of usable pages cs)) ≡ None → (row_at rowid (rows_of usable pages cs) ≡ None → ⊥) → ⊥
    pick true e rest = absurd cc
    pick false e rest = rest e

abbrev HasHigher : ℕ → Cell → Type 0
HasHigher key d = key < rank d.key

-- where rows ascend, a rowid under the first is under all
all_higher : (usable : ℕ) (pages : Paging) (key low high : ℕ) (cells : List Cell) → key < low → AreRows usable pages low high cells → All (HasHigher key) cells
all_higher usable pages key low high [] less rows = All-nil (HasHigher key)
all_higher usable pages key low high (c ∷ cs) less rows =
    All-cons (HasHigher key) c cs (omega (arith, less, rows.0)) (all_higher usable pages key (rank c.key + 1) high cs (omega (arith, less, rows.0)) rows.3)

pub rest_higher : (usable : ℕ) (pages : Paging) (key low high : ℕ) (before after : List Cell) → AreRows usable pages low high (before ++ after) → IsAbove key after
    → All (HasHigher key) after
rest_higher usable pages key low high [] [] rows up = All-nil (HasHigher key)
rest_higher usable pages key low high [] (c ∷ cs) rows up =
    All-cons (HasHigher key) c cs up (all_higher usable pages key (rank c.key + 1) high cs (omega (arith, up)) rows.3)
rest_higher usable pages key low high (d ∷ ds) after rows up = rest_higher usable pages key (rank d.key + 1) high ds after rows.3 up

and_both : (a b : Bool) → (a && b) ≡ true → (a ≡ true) × (b ≡ true)
and_both true b both = (refl, both)
and_both false b both = absurd cc

-- keys ascend with one more at its place
above_with : (key rowid : ℤ) (before : List Cell) (cell : Cell) (after : List Cell) → cell.key ≡ rowid → rank key < rank rowid → above key (before ++ after) ≡ true
    → All (HasLower (rank rowid)) before → IsAbove (rank rowid) after → above key (before ++ (cell ∷ after)) ≡ true
above_with key rowid [] cell [] same less up lower next = rw (same, lower_rank key rowid less) refl
above_with key rowid [] cell (c ∷ cs) same less up lower next =
    let both = and_both (int_lt key c.key) (above c.key cs) up in
    rw (same, lower_rank key rowid less, lower_rank rowid c.key next, both.1) refl
above_with key rowid (d ∷ ds) cell after same less up lower next =
    let both = and_both (int_lt key d.key) (above d.key (ds ++ after)) up in
    rw (both.0, above_with d.key rowid ds cell after same (All-head (HasLower (rank rowid)) d ds lower) both.1 (All-tail (HasLower (rank rowid)) d ds lower) next) refl

ascends_with : (rowid : ℤ) (before : List Cell) (cell : Cell) (after : List Cell) → cell.key ≡ rowid → ascends (before ++ after) ≡ true
    → All (HasLower (rank rowid)) before → IsAbove (rank rowid) after → ascends (before ++ (cell ∷ after)) ≡ true
ascends_with rowid [] cell [] same up lower next = refl
ascends_with rowid [] cell (c ∷ cs) same up lower next = rw (same, lower_rank rowid c.key next, up) refl
ascends_with rowid (d ∷ ds) cell after same up lower next =
    above_with d.key rowid ds cell after same (All-head (HasLower (rank rowid)) d ds lower) up (All-tail (HasLower (rank rowid)) d ds lower) next

cells_with : (usable : ℕ) (before : List Cell) (cell : Cell) (after : List Cell) → AreWritable TableLeaf usable (before ++ after) → IsWritableCell TableLeaf usable cell
    → AreWritable TableLeaf usable (before ++ (cell ∷ after))
cells_with usable [] cell after are is = (is, are)
cells_with usable (d ∷ ds) cell after are is = (are.0, cells_with usable ds cell after are.1 is)

-- the cells of a leaf with one more can be written
writable_with : (usable : ℕ) (rowid : ℤ) (cells : List Cell) (place : ℕ) (cell : Cell) → IsWritable (leaf_cells cells) usable → IsGap (rank rowid) cells place
    → cell.key ≡ rowid → IsWritableCell TableLeaf usable cell → IsWritable (leaf_cells (take place cells ++ (cell ∷ drop place cells))) usable
writable_with usable rowid cells place cell is gap same form =
    let whole = sym (take-append-drop place cells) in record {
      cells = cells_with usable (take place cells) cell (drop place cells) (subst (AreWritable TableLeaf usable) whole is.cells) form;
      right = λ _. refl;
      ascends = λ table. ascends_with rowid (take place cells) cell (drop place cells) same (subst (λ (cs : List Cell). ascends cs ≡ true) whole (is.ascends table)) gap.lower gap.above;
    }

-- without it they are the cells again
pub before_with : (n : ℕ) (before : List Cell) (cell : Cell) (after : List Cell) → length before ≡ n → without n (before ++ (cell ∷ after)) ≡ before ++ after
before_with zero [] cell after long = refl
before_with zero (d ∷ ds) cell after long = absurd (omega (arith, long))
before_with (suc n) [] cell after long = absurd (omega (arith, long))
before_with (suc n) (d ∷ ds) cell after long =
    let one : suc (n + 1) ≡ suc n + 1 = omega arith in
    let rest = ds ++ (cell ∷ after) in
    subst (λ (k : ℕ). d ∷ (take n rest ++ drop k (d ∷ rest)) ≡ d ∷ (ds ++ after)) one (ap (λ (cs : List Cell). d ∷ cs) (before_with n ds cell after (omega (arith, long))))

without_it : (place : ℕ) (cells : List Cell) (cell : Cell) → place ≤ length cells → without place (take place cells ++ (cell ∷ drop place cells)) ≡ cells
without_it place cells cell within =
    before_with place (take place cells) cell (drop place cells) (length-take-le place cells within) ∙ take-append-drop place cells

pub gap_is : (rowid : ℤ) (cells rest : List Cell) (place : ℕ) → place ≡ place_for (rank rowid) cells → rest ≡ drop place cells → place ≤ length cells
    → (IsFrom (rank rowid) rest → IsAbove (rank rowid) rest) → IsGap (rank rowid) cells place
gap_is rowid cells rest place is rest_is within up = record {
  within = within;
  lower = subst (λ (n : ℕ). All (HasLower (rank rowid)) (take n cells)) (sym is) (place_lower (rank rowid) cells);
  above = subst (IsAbove (rank rowid)) rest_is (up (subst (IsFrom (rank rowid)) (sym rest_is)
      (subst (λ (n : ℕ). IsFrom (rank rowid) (drop n cells)) (sym is) (place_from (rank rowid) cells))));
}

-- what is put on the page then
abbrev pub cells_with_it : (place : ℕ) (cells : List Cell) (cell : Cell) → List Cell
cells_with_it place cells cell = take place cells ++ (cell ∷ drop place cells)

pub all_writable : (usable used : ℕ) (rowid : ℤ) (cells all : List Cell) (place : ℕ) (cell : Cell) → usable ≡ used → IsWritable (leaf_cells cells) usable → IsGap (rank rowid) cells place
    → cell.key ≡ rowid → IsWritableCell TableLeaf usable cell → all ≡ cells_with_it place cells cell → IsWritable (leaf_cells all) used
all_writable usable used rowid cells all place cell same is gap key form all_is =
    subst (λ (u : ℕ). IsWritable (leaf_cells all) u) same
    (subst (λ (cs : List Cell). IsWritable (leaf_cells cs) usable) (sym all_is) (writable_with usable rowid cells place cell is gap key form))

pub all_fits : (usable used : ℕ) (cells all : List Cell) (place : ℕ) (cell : Cell) → usable ≡ used → place ≤ length cells → all ≡ cells_with_it place cells cell
    → need TableLeaf cells ≤ room TableLeaf 0 usable → need TableLeaf (without place all) ≤ room TableLeaf 0 used
all_fits usable used cells all place cell same within all_is fits =
    subst (λ (u : ℕ). need TableLeaf (without place all) ≤ room TableLeaf 0 u) same
    (subst (λ (cs : List Cell). need TableLeaf cs ≤ room TableLeaf 0 usable) (sym (ap (without place) all_is ∙ without_it place cells cell within)) fits)
