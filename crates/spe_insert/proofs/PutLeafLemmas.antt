-- What becomes of a leaf that gets a row.
use Rattle.std.proofs.Common.{◌≡◌, ◌≢◌, ℕ, zero, suc, ℤ, ◌+◌, ◌<◌, ◌≤◌, ◌∙◌, List, [], ◌∷◌, ◌++◌, All, true, Option, None, Result, Ok, take, drop, length, map, unwrap_or, refl, sym, ap, subst, arith, inl, inr}
use Rattle.std.specs.Prelude.{◌==◌}
use Rattle.std.specs.List.{flat_map}
use Rattle.std.proofs.lemmas.Bool.{cases_Bool, eqb-true}
use Rattle.std.proofs.lemmas.List.{take-append-drop}
use Rattle.spe_model.specs.declared.page.Cell.{Cell}
use Rattle.spe_model.specs.declared.page.PageCells.{PageCells}
use Rattle.spe_model.specs.declared.page.PageFault.{PageFault}
use Rattle.spe_model.specs.Chain.{links}
use Rattle.spe_model.specs.Page.{page_at}
use Rattle.spe_model.specs.Paging.{Paging}
use Rattle.spe_model.specs.Standing.{all_pages, chain_pages}
use Rattle.spe_model.specs.Tree.{AreRows, cells_in, header_end, node_at, payload_of, rank, row_at, rows_of, tree_rows}
use Rattle.spe_space.specs.declared.pages.Pages.{Ghosts}
use Rattle.spe_space.specs.Calls.{sight}
use Rattle.spe_frame.specs.Held.{AreHeld, IsReady, Shifts, Spares}
use Rattle.spe_frame.specs.Laws.{HeldApart, HeldNone, ShiftsAlike, ShiftsBeside, ShiftsBoth, ShiftsNone, SparesAlike, SparesBeside, SparesBoth, SparesMore}
use Rattle.spe_frame.specs.Times.{AreSame, Lacks, one_if, times}
use Rattle.spe_frame.proofs.TimesLemmas.{times-append}
use Rattle.spe_cut.specs.Leaf.{AreParts, IsLeaf, Leaf, PartsAreRun, leaves_cells}
use Rattle.spe_cut.specs.Parts.{leaf_cells}
use Rattle.spe_cut.specs.Rows.{CellAddsRow, KeptRowsStay, RowAdded, RowsStay, with_row}
use Rattle.spe_cut.specs.Run.{AreFilledBelow, AreKept, IsOpen, IsRun, Run, pages_in, rows_in}
use Rattle.spe_insert.specs.Below.{Becomes, IsPage, IsPlaceFor, LacksRow, first_child, pages_for}
use Rattle.spe_insert.specs.Cell.{HasPayload}
use Rattle.spe_insert.specs.Edit.{puts}
use Rattle.spe_insert.specs.Leaf.{LaysLeaf}
use Rattle.spe_insert.specs.LeafStep.{IsGap, IsLeafOf, leads_with}
use Rattle.spe_insert.proofs.CellLemmas.{shifts_more}
use Rattle.spe_insert.proofs.GapLemmas.{rest_higher, row_there}

-- the laws of changes and of leaves
pub record Laws {P : Type 0} (g : Ghosts P) : Type 0 where
  pub idle : ShiftsNone g
  pub both : ShiftsBoth g
  pub spares : SparesBoth g
  pub beside : ShiftsBeside g
  pub alike : ShiftsAlike g
  pub spares_beside : SparesBeside g
  pub spares_alike : SparesAlike g
  pub spares_more : SparesMore g
  pub apart : HeldApart g
  pub none : HeldNone g
  pub parts : PartsAreRun
  pub adds : CellAddsRow
  pub stay : KeptRowsStay

-- a cell whose chain was written, and its place in a leaf that is held
pub record Step {P : Type 0} (g : Ghosts P) : Type 0 where
  pub old : P
  pub mid : P
  pub pages : Paging
  pub low : ℕ
  pub high : ℕ
  pub page : ℕ
  pub rowid : ℤ
  pub before : List Cell
  pub cell : Cell
  pub after : List Cell
  pub payload : List ℕ
  pub place : IsPlaceFor g old pages 0 low high page rowid
  pub node : node_at (g.used old) (sight g old pages) page ≡ Ok (leaf_cells (before ++ after))
  pub has : HasPayload g old mid pages cell payload
  pub key : cell.key ≡ rowid
  pub lower : All (λ (d : Cell). rank d.key < rank rowid) before
  pub higher : All (λ (d : Cell). rank rowid < rank d.key) after

-- the pages before, after the chain was written, and the lists of pages
abbrev was : {P : Type 0} (g : Ghosts P) → Step g → Paging
was g x = sight g x.old x.pages

abbrev since : {P : Type 0} (g : Ghosts P) → Step g → Paging
since g x = sight g x.mid x.pages

abbrev old_chains : {P : Type 0} (g : Ghosts P) → Step g → List ℕ
old_chains g x = flat_map (chain_pages (g.used x.old) (was g x)) (x.before ++ x.after)

abbrev new_chain : {P : Type 0} (g : Ghosts P) → Step g → List ℕ
new_chain g x = chain_pages (g.used x.old) (since g x) x.cell

abbrev own_pages : {P : Type 0} (g : Ghosts P) → Step g → List ℕ
own_pages g x = x.page ∷ old_chains g x

abbrev all_cells : {P : Type 0} (g : Ghosts P) → Step g → List Cell
all_cells g x = x.before ++ (x.cell ∷ x.after)

abbrev chain_count : {P : Type 0} (g : Ghosts P) → Step g → ℕ
chain_count g x = links (g.used x.old) (length x.payload)

abbrev ok_node : PageCells → Result PageCells PageFault
ok_node node = Ok node

pub not_one : (page : ℕ) (xs : List ℕ) → Lacks (page ∷ xs) 1 → page ≢ 1
not_one page xs lacks e = let f : times 1 (1 ∷ xs) ≡ 0 = subst (λ (n : ℕ). times 1 (n ∷ xs) ≡ 0) e lacks in absurd (omega (arith, f))

same_there : {P : Type 0} (g : Ghosts P) (a b : P) (pages : Paging) (n : ℕ) → g.laid b n ≡ g.laid a n → sight g b pages n ≡ sight g a pages n
same_there g a b pages n same = ap (λ (o : Option (List ℕ)). unwrap_or o (pages n)) same

pages_of : {P : Type 0} (g : Ghosts P) (x : Step g) → all_pages (g.used x.old) (was g x) 0 x.page ≡ own_pages g x
pages_of g x = ap (λ (cs : List Cell). x.page ∷ flat_map (chain_pages (g.used x.old) (was g x)) cs) (ap cells_in x.node)

own_held : {P : Type 0} (g : Ghosts P) (x : Step g) → AreHeld g x.old x.pages (own_pages g x)
own_held g x = subst (AreHeld g x.old x.pages) (pages_of g x) x.place.held

own_later : {P : Type 0} (g : Ghosts P) (x : Step g) → Lacks (own_pages g x) 1
own_later g x = subst (λ (xs : List ℕ). Lacks xs 1) (pages_of g x) x.place.later

pub other_page : {P : Type 0} (g : Ghosts P) (x : Step g) → x.page ≢ 1
other_page g x = not_one x.page (old_chains g x) (own_later g x)

-- the chain beside the leaf
chain_shifts : {P : Type 0} (g : Ghosts P) → Laws g → (x : Step g) → Shifts g x.old x.mid x.pages (own_pages g x) (new_chain g x ++ own_pages g x) (chain_count g x)
chain_shifts g laws x = laws.beside x.old x.mid x.pages [] (new_chain g x) (own_pages g x) (chain_count g x) x.has.shifts

mid_held : {P : Type 0} (g : Ghosts P) → Laws g → (x : Step g) → AreHeld g x.mid x.pages (new_chain g x ++ own_pages g x)
mid_held g laws x = (chain_shifts g laws x).held (own_held g x)

pub page_held : {P : Type 0} (g : Ghosts P) → Laws g → (x : Step g) → AreHeld g x.mid x.pages (x.page ∷ [])
page_held g laws x = (laws.apart x.mid x.pages (x.page ∷ []) (old_chains g x) (laws.apart x.mid x.pages (new_chain g x) (own_pages g x) (mid_held g laws x)).1).0

-- the other chains keep their bytes while that of the cell is written
chains_kept : {P : Type 0} (g : Ghosts P) (x : Step g) → AreKept (was g x) (since g x) (old_chains g x)
chains_kept g x n there =
    let later : one_if (1 == x.page) + times 1 (old_chains g x) ≡ 0 = own_later g x in
    same_there g x.old x.mid x.pages n (x.has.shifts.spares.laid n (record { used = (own_held g x).used n (omega (arith, there)); lacks = refl })
    (λ e. let first : 0 < times 1 (old_chains g x) = subst (λ (m : ℕ). 0 < times m (old_chains g x)) e there in absurd (omega (arith, later, first))))

rows_stay : {P : Type 0} (g : Ghosts P) → Laws g → (x : Step g) → RowsStay (g.used x.old) (was g x) (since g x) (x.before ++ x.after)
rows_stay g laws x = laws.stay (g.used x.old) (was g x) (since g x) (x.before ++ x.after) (chains_kept g x)

rows_were : {P : Type 0} (g : Ghosts P) (x : Step g) → AreRows (g.used x.old) (was g x) x.low x.high (x.before ++ x.after)
rows_were g x = subst (AreRows (g.used x.old) (was g x) x.low x.high) (ap cells_in x.node) x.place.tree.1

-- the cell is one row more
row_added : {P : Type 0} (g : Ghosts P) → Laws g → (x : Step g) → RowAdded (g.used x.old) (since g x) x.low x.high x.before x.cell x.after
row_added g laws x = laws.adds (g.used x.old) (since g x) x.low x.high x.before x.cell x.after (record {
  rows = (rows_stay g laws x).rows x.low x.high (rows_were g x);
  lower = subst (λ (k : ℤ). All (λ (d : Cell). rank d.key < rank k) x.before) (sym x.key) x.lower;
  higher = subst (λ (k : ℤ). All (λ (d : Cell). rank k < rank d.key) x.after) (sym x.key) x.higher;
  from = subst (λ (k : ℤ). x.low ≤ rank k) (sym x.key) x.place.from;
  to = subst (λ (k : ℤ). rank k < x.high) (sym x.key) x.place.to;
  chain = x.has.chain;
})

abbrev all_chains : {P : Type 0} (g : Ghosts P) → Step g → List ℕ
all_chains g x = flat_map (chain_pages (g.used x.old) (since g x)) (all_cells g x)

chains_are : {P : Type 0} (g : Ghosts P) → Laws g → (x : Step g) → (n : ℕ) → times n (all_chains g x) ≡ times n (new_chain g x) + times n (old_chains g x)
chains_are g laws x n = (row_added g laws x).chains n ∙ ap (λ (xs : List ℕ). times n (new_chain g x ++ xs)) (rows_stay g laws x).chains ∙ times-append n (new_chain g x) (old_chains g x)

-- all chains keep their bytes while leaves are put
pub record Laid {P : Type 0} (g : Ghosts P) (x : Step g) (new : P) (run : Run) : Type 0 where
  pub leaf : LaysLeaf g x.mid new x.pages x.page (all_cells g x) run
  pub first : first_child run ≡ x.page

abbrev becomes : {P : Type 0} (g : Ghosts P) (x : Step g) → P → Paging
becomes g x new = sight g new x.pages

all_kept : {P : Type 0} (g : Ghosts P) → Laws g → (x : Step g) (new : P) (run : Run) → Laid g x new run → AreKept (since g x) (becomes g x new) (all_chains g x)
all_kept g laws x new run laid n there =
    let are : times n (all_chains g x) ≡ times n (new_chain g x) + times n (old_chains g x) = chains_are g laws x n in
    let joined : times n (new_chain g x ++ own_pages g x) ≡ times n (new_chain g x) + (one_if (n == x.page) + times n (old_chains g x)) = times-append n (new_chain g x) (own_pages g x) in
    let some : 0 < times n (all_chains g x) = there in
    let held = mid_held g laws x in
    let single : times n (new_chain g x ++ own_pages g x) ≤ 1 = held.single n in
    let later : Lacks (new_chain g x ++ own_pages g x) 1 = (chain_shifts g laws x).front (own_later g x) in
    let lacks : one_if (n == x.page) + 0 ≡ 0 = omega (arith, are, joined, some, single) in
    let pos : 0 < times n (new_chain g x ++ own_pages g x) = omega (arith, are, joined, some) in
    same_there g x.mid new x.pages n (laid.leaf.lays.shifts.spares.laid n (record { used = held.used n pos; lacks = lacks })
    (λ e. let first : 0 < times 1 (new_chain g x ++ own_pages g x) = subst (λ (m : ℕ). 0 < times m (new_chain g x ++ own_pages g x)) e pos in
    let lack : times 1 (new_chain g x ++ own_pages g x) ≡ 0 = later in absurd (omega (arith, first, lack))))

all_stay : {P : Type 0} (g : Ghosts P) → Laws g → (x : Step g) (new : P) (run : Run) → Laid g x new run
    → RowsStay (g.used x.old) (since g x) (becomes g x new) (all_cells g x)
all_stay g laws x new run laid = laws.stay (g.used x.old) (since g x) (becomes g x new) (all_cells g x) (all_kept g laws x new run laid)

cells_are : {P : Type 0} (g : Ghosts P) (x : Step g) (new : P) (run : Run) → (laid : Laid g x new run)
    → leaves_cells laid.leaf.lays.leaves laid.leaf.lays.end ≡ all_cells g x
cells_are g x new run laid = laid.leaf.lays.joined ∙ laid.leaf.joined

-- the leaves are a run
leaves_are : {P : Type 0} (g : Ghosts P) → Laws g → (x : Step g) (new : P) (run : Run) → (laid : Laid g x new run)
    → AreParts (g.used x.old) (becomes g x new) x.low x.high laid.leaf.lays.leaves laid.leaf.lays.end
leaves_are g laws x new run laid =
    let used : g.used x.mid ≡ g.used x.old = x.has.shifts.spares.sizes.used in
    let lays = laid.leaf.lays in
    laws.parts (g.used x.old) (becomes g x new) x.low x.high lays.leaves lays.end (record {
      rows = subst (AreRows (g.used x.old) (becomes g x new) x.low x.high) (sym (cells_are g x new run laid))
          ((all_stay g laws x new run laid).rows x.low x.high (row_added g laws x).rows);
      are = subst (λ (u : ℕ). All (IsLeaf u (becomes g x new)) lays.leaves) used lays.are;
      last = subst (λ (u : ℕ). IsLeaf u (becomes g x new) lays.end) used lays.last;
      some = lays.some;
    })

-- the pages of the leaves
abbrev leaf_pages : {P : Type 0} (g : Ghosts P) (x : Step g) (new : P) (run : Run) → Laid g x new run → List ℕ
leaf_pages g x new run laid = map (λ (l : Leaf). l.page) laid.leaf.lays.leaves ++ (laid.leaf.lays.end.page ∷ [])

abbrev beside_it : {P : Type 0} (g : Ghosts P) → Step g → List ℕ
beside_it g x = old_chains g x ++ new_chain g x

mid_alike : {P : Type 0} (g : Ghosts P) (x : Step g) → AreSame (x.page ∷ beside_it g x) (new_chain g x ++ own_pages g x)
mid_alike g x n =
    let a : times n (beside_it g x) ≡ times n (old_chains g x) + times n (new_chain g x) = times-append n (old_chains g x) (new_chain g x) in
    let b : times n (new_chain g x ++ own_pages g x) ≡ times n (new_chain g x) + (one_if (n == x.page) + times n (old_chains g x)) = times-append n (new_chain g x) (own_pages g x) in
    omega (arith, a, b)

leaf_shifts : {P : Type 0} (g : Ghosts P) → Laws g → (x : Step g) (new : P) (run : Run) → (laid : Laid g x new run)
    → Shifts g x.mid new x.pages (new_chain g x ++ own_pages g x) (leaf_pages g x new run laid ++ beside_it g x) 3
leaf_shifts g laws x new run laid =
    let ps = leaf_pages g x new run laid in
    let few : Shifts g x.mid new x.pages (x.page ∷ []) ps 3 =
    shifts_more g laws.spares_more x.mid new x.pages (x.page ∷ []) ps (length laid.leaf.parts) 3 laid.leaf.few laid.leaf.lays.shifts in
    laws.alike x.mid new x.pages (x.page ∷ beside_it g x) (ps ++ beside_it g x) (new_chain g x ++ own_pages g x) (ps ++ beside_it g x) 3 (mid_alike g x) (λ n. refl)
    (laws.beside x.mid new x.pages (x.page ∷ []) ps (beside_it g x) 3 few)

all_shifts : {P : Type 0} (g : Ghosts P) → Laws g → (x : Step g) (new : P) (run : Run) → (laid : Laid g x new run)
    → Shifts g x.old new x.pages (own_pages g x) (leaf_pages g x new run laid ++ beside_it g x) (chain_count g x + 3)
all_shifts g laws x new run laid =
    laws.both x.old x.mid new x.pages (own_pages g x) (new_chain g x ++ own_pages g x) (leaf_pages g x new run laid ++ beside_it g x) (chain_count g x) 3 (chain_shifts g laws x) (leaf_shifts g laws x new run laid)

run_pages : {P : Type 0} (g : Ghosts P) → Laws g → (x : Step g) (new : P) (run : Run) → (laid : Laid g x new run)
    → AreSame (leaf_pages g x new run laid ++ beside_it g x) (pages_in (g.used x.old) (becomes g x new) 0 run)
run_pages g laws x new run laid n =
    let lays = laid.leaf.lays in
    let front = map (λ (l : Leaf). l.page) lays.leaves in
    let back = flat_map (chain_pages (g.used x.old) (becomes g x new)) (leaves_cells lays.leaves lays.end) in
    let same : back ≡ all_chains g x =
    ap (flat_map (chain_pages (g.used x.old) (becomes g x new))) (cells_are g x new run laid) ∙ (all_stay g laws x new run laid).chains in
    let a : times n (leaf_pages g x new run laid ++ beside_it g x) ≡ times n (leaf_pages g x new run laid) + times n (beside_it g x) = times-append n (leaf_pages g x new run laid) (beside_it g x) in
    let b : times n (leaf_pages g x new run laid) ≡ times n front + (one_if (n == lays.end.page) + 0) = times-append n front (lays.end.page ∷ []) in
    let c : times n (beside_it g x) ≡ times n (old_chains g x) + times n (new_chain g x) = times-append n (old_chains g x) (new_chain g x) in
    let d : times n (all_chains g x) ≡ times n (new_chain g x) + times n (old_chains g x) = chains_are g laws x n in
    let e : times n (front ++ (lays.end.page ∷ back)) ≡ times n front + (one_if (n == lays.end.page) + times n back) = times-append n front (lays.end.page ∷ back) in
    let f : times n back ≡ times n (all_chains g x) = ap (times n) same in
    let h : times n (pages_in (g.used x.old) (becomes g x new) 0 run) ≡ times n (front ++ (lays.end.page ∷ back)) =
    ap (λ (r : Run). times n (pages_in (g.used x.old) (becomes g x new) 0 r)) lays.run_is ∙ (leaves_are g laws x new run laid).pages_are n in
    omega (arith, a, b, c, d, e, f, h)

tree_shifts : {P : Type 0} (g : Ghosts P) → Laws g → (x : Step g) (new : P) (run : Run) → Laid g x new run
    → Shifts g x.old new x.pages (all_pages (g.used x.old) (was g x) 0 x.page) (pages_in (g.used x.old) (becomes g x new) 0 run) (pages_for (g.used x.old) 0 (length x.payload))
tree_shifts g laws x new run laid =
    subst (λ (xs : List ℕ). Shifts g x.old new x.pages xs (pages_in (g.used x.old) (becomes g x new) 0 run) (chain_count g x + 3)) (sym (pages_of g x))
    (laws.alike x.old new x.pages (own_pages g x) (leaf_pages g x new run laid ++ beside_it g x) (own_pages g x) (pages_in (g.used x.old) (becomes g x new) 0 run) (chain_count g x + 3)
    (λ n. refl) (run_pages g laws x new run laid) (all_shifts g laws x new run laid))

tree_gets : {P : Type 0} (g : Ghosts P) → Laws g → (x : Step g) (new : P) (run : Run) → Laid g x new run
    → rows_in (g.used x.old) (becomes g x new) 0 run ≡ with_row x.rowid x.payload (tree_rows (g.used x.old) (was g x) 0 x.page)
tree_gets g laws x new run laid =
    let u = g.used x.old in
    let cells = x.before ++ x.after in
    ap (rows_in u (becomes g x new) 0) laid.leaf.lays.run_is ∙ (leaves_are g laws x new run laid).rows ∙ ap (rows_of u (becomes g x new)) (cells_are g x new run laid)
    ∙ (all_stay g laws x new run laid).are ∙ (row_added g laws x).with_it
    ∙ ap (λ (k : ℤ). with_row k (payload_of u (since g x) x.cell) (rows_of u (since g x) cells)) x.key
    ∙ ap (λ (bs : List ℕ). with_row x.rowid bs (rows_of u (since g x) cells)) x.has.whole
    ∙ ap (with_row x.rowid x.payload) ((rows_stay g laws x).are ∙ sym (ap (rows_of u (was g x)) (ap cells_in x.node)))

pub leaf_becomes : {P : Type 0} (g : Ghosts P) → Laws g → (x : Step g) (new : P) (run : Run) → Laid g x new run → LacksRow g x.old x.pages 0 x.page x.rowid
    → Becomes g x.old new x.pages 0 x.low x.high x.page x.rowid (puts x.payload) run
leaf_becomes g laws x new run laid lacks =
    let parts = leaves_are g laws x new run laid in
    let back = sym laid.leaf.lays.run_is in
    record {
      before = lacks;
      is = subst (IsRun (g.used x.old) (becomes g x new) 0 x.low x.high) back parts.is;
      last = subst (IsOpen x.low x.high) back (parts.last laid.leaf.lays.ends);
      first = laid.first;
      filled = λ _. subst (AreFilledBelow (g.used x.old) (becomes g x new) 0) back parts.filled;
      below = λ _ _ _. omega arith;
      rows = tree_gets g laws x new run laid;
      shifts = tree_shifts g laws x new run laid;
    }

-- a call that fails while leaves are put
pub leaf_spares : {P : Type 0} (g : Ghosts P) → Laws g → (x : Step g) (new : P) → Spares g x.mid new x.pages (x.page ∷ []) 3
    → Spares g x.old new x.pages (all_pages (g.used x.old) (was g x) 0 x.page) (pages_for (g.used x.old) 0 (length x.payload))
leaf_spares g laws x new fails =
    subst (λ (xs : List ℕ). Spares g x.old new x.pages xs (chain_count g x + 3)) (sym (pages_of g x))
    (laws.spares x.old x.mid new x.pages (own_pages g x) (new_chain g x ++ own_pages g x) (chain_count g x) 3 (chain_shifts g laws x)
    (laws.spares_alike x.mid new x.pages (x.page ∷ beside_it g x) (new_chain g x ++ own_pages g x) 3 (mid_alike g x) (laws.spares_beside x.mid new x.pages (x.page ∷ []) (beside_it g x) 3 fails)))

-- and one that fails while the chain is written
pub chain_spares : {P : Type 0} (g : Ghosts P) → SparesBeside g → SparesMore g → (old new : P) (pages : Paging) (xs : List ℕ) (height size : ℕ)
    → Spares g old new pages [] (links (g.used old) size) → Spares g old new pages xs (pages_for (g.used old) height size)
chain_spares g beside more old new pages xs height size fails =
    more old new pages xs (links (g.used old) size) (pages_for (g.used old) height size) (omega arith) (beside old new pages [] xs (links (g.used old) size) fails)

-- what holds of leaves holds of trees with no level below
pub at_zero : (What : ℕ → Type 0) → What 0 → (height : ℕ) → height < 1 → What height
at_zero What is zero less = is
at_zero What is (suc n) less = absurd (omega (arith, less))

pub other_header : (page : ℕ) → page ≢ 1 → header_end page ≡ 0
other_header page other = elim (cases_Bool (page == 1)) [
  | inl first ↦ absurd (other (eqb-true page 1 first))
  | inr later ↦ rw later refl
]

-- a copy of a page other than page 1 is read as the page is
pub read_is : (usable used page : ℕ) (pages : Paging) (bytes : List ℕ) → usable ≡ used → bytes ≡ pages page → page ≢ 1
    → page_at (take usable bytes) 0 ≡ node_at used pages page
read_is usable used page pages bytes same is other =
    ap (λ (u : ℕ). page_at (take u bytes) 0) same ∙ ap (λ (bs : List ℕ). page_at (take used bs) 0) is ∙ ap (page_at (take used (pages page))) (sym (other_header page other))

pub node_is : (usable used page place : ℕ) (pages : Paging) (bytes : List ℕ) (cells : List Cell) → usable ≡ used → bytes ≡ pages page → page ≢ 1
    → page_at (take usable bytes) 0 ≡ Ok (leaf_cells cells) → node_at used pages page ≡ Ok (leaf_cells (take place cells ++ drop place cells))
node_is usable used page place pages bytes cells same is other reads =
    sym (read_is usable used page pages bytes same is other) ∙ reads ∙ ap (λ (cs : List Cell). ok_node (leaf_cells cs)) (sym (take-append-drop place cells))

pub rows_in_place : {P : Type 0} (g : Ghosts P) (s : P) (pages : Paging) (low high page : ℕ) (rowid : ℤ) (cells : List Cell) → IsPlaceFor g s pages 0 low high page rowid
    → node_at (g.used s) (sight g s pages) page ≡ Ok (leaf_cells cells) → AreRows (g.used s) (sight g s pages) low high cells
rows_in_place g s pages low high page rowid cells at node = subst (AreRows (g.used s) (sight g s pages) low high) (ap cells_in node) at.tree.1

-- a leaf's page is not page 1
pub leaf_other : {P : Type 0} (g : Ghosts P) (s : P) (pages : Paging) (low high page : ℕ) (rowid : ℤ) → IsPlaceFor g s pages 0 low high page rowid → page ≢ 1
leaf_other g s pages low high page rowid at =
    not_one page (flat_map (chain_pages (g.used s) (sight g s pages)) (cells_in (node_at (g.used s) (sight g s pages) page))) at.later

-- a leaf that was read, the place of a rowid in it, and the cell of a row
abbrev pub step_of : {P : Type 0} (g : Ghosts P) (old mid : P) (pages : Paging) (low high page usable : ℕ) (rowid : ℤ) (bytes : List ℕ) (cells : List Cell) (place : ℕ) (cell : Cell) (payload : List ℕ)
    → usable ≡ g.used old → IsPlaceFor g old pages 0 low high page rowid → IsPage g old pages page bytes → IsLeafOf usable bytes cells → IsGap (rank rowid) cells place
    → HasPayload g old mid pages cell payload → cell.key ≡ rowid → Step g
step_of g old mid pages low high page usable rowid bytes cells place cell payload same at is leaf gap has key =
    let node = node_is usable (g.used old) page place (sight g old pages) bytes cells same is (leaf_other g old pages low high page rowid at) leaf.reads in
    record {
      old = old;
      mid = mid;
      pages = pages;
      low = low;
      high = high;
      page = page;
      rowid = rowid;
      before = take place cells;
      cell = cell;
      after = drop place cells;
      payload = payload;
      place = at;
      node = node;
      has = has;
      key = key;
      lower = gap.lower;
      higher = rest_higher (g.used old) (sight g old pages) (rank rowid) low high (take place cells) (drop place cells)
          (rows_in_place g old pages low high page rowid (take place cells ++ drop place cells) at node) gap.above;
    }

-- what holds where the page is held after the chain was written
abbrev pub WhenHeld : {P : Type 0} (g : Ghosts P) → Step g → Type 0 → Type 0
WhenHeld g x What = IsReady g x.mid x.pages → AreHeld g x.mid x.pages (x.page ∷ []) → x.page ≢ 1 → What

pub held_so : {P : Type 0} (g : Ghosts P) → Laws g → (x : Step g) (What : Type 0) → WhenHeld g x What → What
held_so g laws x What when = when x.has.shifts.ready (page_held g laws x) (other_page g x)

pub step_puts : {P : Type 0} (g : Ghosts P) → Laws g → (x : Step g) (new : P) (all : List Cell) (run : Run) → all ≡ x.before ++ (x.cell ∷ x.after)
    → WhenHeld g x (LaysLeaf g x.mid new x.pages x.page all run) → first_child run ≡ x.page → LacksRow g x.old x.pages 0 x.page x.rowid
    → Becomes g x.old new x.pages 0 x.low x.high x.page x.rowid (puts x.payload) run
step_puts g laws x new all run same when first lacks =
    leaf_becomes g laws x new run (record {
      leaf = subst (λ (cs : List Cell). LaysLeaf g x.mid new x.pages x.page cs run) same (held_so g laws x (LaysLeaf g x.mid new x.pages x.page all run) when);
      first = first;
    }) lacks

pub step_spares : {P : Type 0} (g : Ghosts P) → Laws g → (x : Step g) (new : P) → WhenHeld g x (Spares g x.mid new x.pages (x.page ∷ []) 3)
    → Spares g x.old new x.pages (all_pages (g.used x.old) (sight g x.old x.pages) 0 x.page) (pages_for (g.used x.old) 0 (length x.payload))
step_spares g laws x new when = leaf_spares g laws x new (held_so g laws x (Spares g x.mid new x.pages (x.page ∷ []) 3) when)

-- a leaf lacks a row only where no cell has its rowid
pub no_row_there : {P : Type 0} (g : Ghosts P) (s : P) (pages : Paging) (low high page usable : ℕ) (rowid : ℤ) (bytes : List ℕ) (cells : List Cell) (n : ℕ) → usable ≡ g.used s
    → IsPlaceFor g s pages 0 low high page rowid → IsPage g s pages page bytes → IsLeafOf usable bytes cells → leads_with rowid (drop n cells) ≡ true
    → LacksRow g s pages 0 page rowid → ⊥
no_row_there g s pages low high page usable rowid bytes cells n same at is leaf leads lacks =
    let node : node_at (g.used s) (sight g s pages) page ≡ Ok (leaf_cells cells) =
    sym (read_is usable (g.used s) page (sight g s pages) bytes same is (leaf_other g s pages low high page rowid at)) ∙ leaf.reads in
    row_there (g.used s) (sight g s pages) rowid n cells leads
    (subst (λ (cs : List Cell). row_at rowid (rows_of (g.used s) (sight g s pages) cs) ≡ None) (ap cells_in node) lacks)
