-- The cells of a leaf without one of them.
use Rattle.std.proofs.Common.{◌≡◌, ℕ, ℤ, pos, negsuc, ◌+◌, ◌*◌, ◌<◌, ◌≤◌, List, [], ◌∷◌, ◌++◌, All, Bool, true, false, None, take, drop, length, refl, sym, ap, subst, arith, inl, inr}
use Rattle.std.specs.Prelude.{◌&&◌, int_lt}
use Rattle.std.proofs.lemmas.Bool.{le-leb, lt-ltb, ltb-true}
use Rattle.std.proofs.lemmas.List.Elements.{All-head, All-tail}
use Rattle.spe_model.specs.declared.page.Cell.{Cell}
use Rattle.spe_model.specs.declared.page.Kind.{Kind}
use Rattle.spe_model.specs.declared.page.Kind.TheVariants.{TableLeaf}
use Rattle.spe_model.specs.Page.{above, ascends}
use Rattle.spe_model.specs.Paging.{Paging}
use Rattle.spe_model.specs.Tree.{rank, row_at, rows_of}
use Rattle.spe_format.specs.Canonical.{AreWritable, IsWritable, cells_length, fits}
use Rattle.spe_cut.specs.Parts.{leaf_cells, need, room, without}
use Rattle.spe_cut.proofs.RowLemmas.{other_rowid}
use Rattle.spe_delete.specs.Leaf.{IsAmong}

and_both : (a b : Bool) → (a && b) ≡ true → (a ≡ true) × (b ≡ true)
and_both true b both = (refl, both)
and_both false b both = absurd cc

lower_both : (a b c : ℤ) → int_lt a b ≡ true → int_lt b c ≡ true → int_lt a c ≡ true
lower_both (pos m) (pos n) (pos k) x y = lt-ltb m k (omega (arith, ltb-true m n x, ltb-true n k y))
lower_both (pos m) (pos n) (negsuc k) x y = absurd cc
lower_both (pos m) (negsuc n) c x y = absurd cc
lower_both (negsuc m) (pos n) (pos k) x y = refl
lower_both (negsuc m) (pos n) (negsuc k) x y = absurd cc
lower_both (negsuc m) (negsuc n) (pos k) x y = refl
lower_both (negsuc m) (negsuc n) (negsuc k) x y = lt-ltb k m (omega (arith, ltb-true n m x, ltb-true k n y))

above_without : (key : ℤ) (before : List Cell) (cell : Cell) (after : List Cell) → above key (before ++ (cell ∷ after)) ≡ true → above key (before ++ after) ≡ true
above_without key [] cell [] up = refl
above_without key [] cell (d ∷ ds) up =
    let both = and_both (int_lt key cell.key) (above cell.key (d ∷ ds)) up in
    let next = and_both (int_lt cell.key d.key) (above d.key ds) both.1 in
    rw (lower_both key cell.key d.key both.0 next.0, next.1) refl
above_without key (e ∷ es) cell after up =
    let both = and_both (int_lt key e.key) (above e.key (es ++ (cell ∷ after))) up in
    rw (both.0, above_without e.key es cell after both.1) refl

ascends_without : (before : List Cell) (cell : Cell) (after : List Cell) → ascends (before ++ (cell ∷ after)) ≡ true → ascends (before ++ after) ≡ true
ascends_without [] cell [] up = refl
ascends_without [] cell (d ∷ ds) up = (and_both (int_lt cell.key d.key) (above d.key ds) up).1
ascends_without (e ∷ es) cell after up = above_without e.key es cell after up

cells_without : (usable : ℕ) (before : List Cell) (cell : Cell) (after : List Cell) → AreWritable TableLeaf usable (before ++ (cell ∷ after)) → AreWritable TableLeaf usable (before ++ after)
cells_without usable [] cell after are = are.1
cells_without usable (e ∷ es) cell after are = (are.0, cells_without usable es cell after are.1)

-- cells that can be written can be written without one of them
pub writable_without : (usable used place : ℕ) (cells rest : List Cell) (cell : Cell) → usable ≡ used → IsAmong cells place cell → rest ≡ without place cells
    → IsWritable (leaf_cells cells) usable → IsWritable (leaf_cells rest) used
writable_without usable used place cells rest cell same among is form =
    subst (λ (u : ℕ). IsWritable (leaf_cells rest) u) same (subst (λ (cs : List Cell). IsWritable (leaf_cells cs) usable) (sym is) (record {
      cells = cells_without usable (take place cells) cell (drop (place + 1) cells) (subst (AreWritable TableLeaf usable) among form.cells);
      right = λ _. refl;
      ascends = λ table. ascends_without (take place cells) cell (drop (place + 1) cells) (subst (λ (cs : List Cell). ascends cs ≡ true) among (form.ascends table));
    }))

need_less : (kind : Kind) (before : List Cell) (cell : Cell) (after : List Cell) → need kind (before ++ after) ≤ need kind (before ++ (cell ∷ after))
need_less kind [] cell after = omega arith
need_less kind (e ∷ es) cell after = let rest = need_less kind es cell after in omega (arith, rest)

-- and they fit a page that all of them fit
pub fits_without : (usable used place : ℕ) (cells rest : List Cell) (cell : Cell) → 480 ≤ usable → usable ≡ used → IsAmong cells place cell → rest ≡ without place cells
    → need TableLeaf cells ≤ room TableLeaf 0 usable → fits (leaf_cells rest) 0 used ≡ true
fits_without usable used place cells rest cell wide same among is few =
    let less = need_less TableLeaf (take place cells) cell (drop (place + 1) cells) in
    let all = ap (need TableLeaf) among in
    let mine = ap (need TableLeaf) is in
    le-leb (8 + (2 * length rest + cells_length TableLeaf rest)) used (omega (arith, less, all, mine, few, same, wide))

abbrev HasLower : ℕ → Cell → Type 0
HasLower key d = rank d.key < key

abbrev HasHigher : ℕ → Cell → Type 0
HasHigher key d = key < rank d.key

none_behind : (usable : ℕ) (pages : Paging) (rowid : ℤ) (cells : List Cell) → All (HasHigher (rank rowid)) cells → row_at rowid (rows_of usable pages cells) ≡ None
none_behind usable pages rowid [] higher = refl
none_behind usable pages rowid (c ∷ cs) higher =
    rw (other_rowid c.key rowid (inr (All-head (HasHigher (rank rowid)) c cs higher))) (none_behind usable pages rowid cs (All-tail (HasHigher (rank rowid)) c cs higher))

-- no row has a rowid that lies between those of cells
pub none_between : (usable : ℕ) (pages : Paging) (rowid : ℤ) (before after : List Cell) → All (HasLower (rank rowid)) before → All (HasHigher (rank rowid)) after
    → row_at rowid (rows_of usable pages (before ++ after)) ≡ None
none_between usable pages rowid [] after lower higher = none_behind usable pages rowid after higher
none_between usable pages rowid (c ∷ cs) after lower higher =
    rw (other_rowid c.key rowid (inl (All-head (HasLower (rank rowid)) c cs lower)))
    (none_between usable pages rowid cs after (All-tail (HasLower (rank rowid)) c cs lower) higher)
