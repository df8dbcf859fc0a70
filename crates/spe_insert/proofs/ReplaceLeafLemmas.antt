-- What becomes of a leaf in which a row gets another payload.
use Rattle.std.proofs.Common.{◌≡◌, ◌≢◌, ℕ, ℤ, ◌+◌, ◌∙◌, List, [], ◌∷◌, ◌++◌, All, Option, None, is_some, Ok, take, drop, length, map, refl, sym, ap, subst, arith}
use Rattle.std.specs.Prelude.{◌==◌}
use Rattle.std.specs.List.{flat_map}
use Rattle.std.proofs.lemmas.List.{append-nil, take-append-drop}
use Rattle.spe_model.specs.declared.page.Cell.{Cell}
use Rattle.spe_model.specs.Chain.{IsChain, links}
use Rattle.spe_model.specs.Paging.{Paging}
use Rattle.spe_model.specs.Standing.{all_pages, chain_pages}
use Rattle.spe_model.specs.Tree.{AreRows, cells_in, node_at, payload_of, rank, rest_of, row_at, rows_of, tree_rows}
use Rattle.spe_space.specs.declared.pages.Pages.{Ghosts}
use Rattle.spe_space.specs.Calls.{sight}
use Rattle.spe_frame.specs.Held.{AreHeld, IsReady, Shifts, Spares}
use Rattle.spe_frame.specs.Laws.{HeldApart, ShiftsAlike, ShiftsBeside, ShiftsBoth, SparesAlike, SparesBeside, SparesBoth, SparesMore}
use Rattle.spe_frame.specs.Times.{AreSame, Lacks, one_if, times}
use Rattle.spe_frame.proofs.TimesLemmas.{times-append}
use Rattle.spe_write.specs.Chain.{IsHeldChain}
use Rattle.spe_cut.specs.Changed.{CellChangesRow, RowChanged, with_payload}
use Rattle.spe_cut.specs.Gone.{CellDropsRow, RowDropped}
use Rattle.spe_cut.specs.Leaf.{AreParts, IsLeaf, Leaf, PartsAreRun, leaves_cells}
use Rattle.spe_cut.specs.Parts.{leaf_cells}
use Rattle.spe_cut.specs.Rows.{KeptRowsStay, RowsStay}
use Rattle.spe_cut.specs.Run.{AreFilledBelow, AreKept, IsOpen, IsRun, KeptRunStays, Run, RunStays, pages_in, rows_in, separator}
use Rattle.spe_cut.proofs.HolderLemmas.{Reading}
use Rattle.spe_cut.proofs.RowLemmas.{no_row}
use Rattle.spe_insert.specs.Below.{Becomes, IsPage, IsPlaceFor, first_child, pages_for}
use Rattle.spe_insert.specs.Cell.{HasPayload}
use Rattle.spe_insert.specs.Edit.{changes}
use Rattle.spe_insert.specs.Leaf.{LaysLeaf}
use Rattle.spe_insert.specs.LeafStep.{IsGap, IsLeafOf}
use Rattle.spe_insert.specs.Replace.{HasRow, StandsAt}
use Rattle.spe_insert.proofs.CellLemmas.{shifts_more}
use Rattle.spe_insert.proofs.GapLemmas.{rest_higher}
use Rattle.spe_insert.proofs.PutBelowLemmas.{others_kept}
use Rattle.spe_insert.proofs.PutLeafLemmas.{leaf_other, read_is, rows_in_place}

-- the laws of changes, of leaves and of rows
pub record Laws {P : Type 0} (g : Ghosts P) : Type 0 where
  pub both : ShiftsBoth g
  pub beside : ShiftsBeside g
  pub alike : ShiftsAlike g
  pub spares : SparesBoth g
  pub spares_beside : SparesBeside g
  pub spares_alike : SparesAlike g
  pub spares_more : SparesMore g
  pub apart : HeldApart g
  pub parts : PartsAreRun
  pub stays : KeptRunStays
  pub stay : KeptRowsStay
  pub drops : CellDropsRow
  pub turns : CellChangesRow

-- a leaf with a cell whose row gets another payload
pub record Found {P : Type 0} (g : Ghosts P) : Type 0 where
  pub old : P
  pub pages : Paging
  pub low : ℕ
  pub high : ℕ
  pub page : ℕ
  pub rowid : ℤ
  pub before : List Cell
  pub cell : Cell
  pub after : List Cell
  pub place : IsPlaceFor g old pages 0 low high page rowid
  pub node : node_at (g.used old) (sight g old pages) page ≡ Ok (leaf_cells (before ++ (cell ∷ after)))
  pub key : cell.key ≡ rowid

none_more : (n : ℕ) → n + 0 ≡ n
none_more n = omega arith

module _ {P : Type 0} (g : Ghosts P) (laws : Laws g) (x : Found g) where
  abbrev u : ℕ
  u = g.used x.old

  abbrev was : Paging
  was = sight g x.old x.pages

  abbrev cells : List Cell
  cells = x.before ++ (x.cell ∷ x.after)

  abbrev chains : List ℕ
  chains = flat_map (chain_pages u was) cells

  abbrev own : List ℕ
  own = x.page ∷ chains

  pages_are : all_pages u was 0 x.page ≡ own
  pages_are = ap (λ (r : Reading). x.page ∷ flat_map (chain_pages u was) (cells_in r)) x.node

  held : AreHeld g x.old x.pages own
  held = subst (AreHeld g x.old x.pages) pages_are x.place.held

  later : Lacks own 1
  later = subst (λ (xs : List ℕ). Lacks xs 1) pages_are x.place.later

  rows_were : AreRows u was x.low x.high cells
  rows_were = subst (AreRows u was x.low x.high) (ap cells_in x.node) x.place.tree.1

  pub other : x.page ≢ 1
  other = leaf_other g x.old x.pages x.low x.high x.page x.rowid x.place

  -- the new cell's chain was written
  module _ (mid : P) (fresh : Cell) (payload : List ℕ) (has : HasPayload g x.old mid x.pages fresh payload) (key : fresh.key ≡ x.rowid) where
    abbrev since : Paging
    since = sight g mid x.pages

    abbrev count : ℕ
    count = links u (length payload)

    abbrev new_chain : List ℕ
    new_chain = chain_pages u since fresh

    abbrev old_chain : List ℕ
    old_chain = chain_pages u since x.cell

    abbrev rest : List ℕ
    rest = flat_map (chain_pages u since) (x.before ++ x.after)

    abbrev all_cells : List Cell
    all_cells = x.before ++ (fresh ∷ x.after)

    abbrev all_chains : List ℕ
    all_chains = flat_map (chain_pages u since) all_cells

    kept_own : AreKept was since own
    kept_own = others_kept g x.old mid x.pages [] own count held later has.shifts.spares

    stay : RowsStay u was since cells
    stay = laws.stay u was since cells (λ n some. kept_own n (omega (arith, some)))

    gone : RowDropped u since x.low x.high x.before x.cell x.after
    gone = laws.drops u since x.low x.high x.before x.cell x.after (stay.rows x.low x.high rows_were)

    turned : RowChanged u since x.low x.high x.before x.cell fresh x.after
    turned = laws.turns u since x.low x.high x.before x.cell fresh x.after (record {
      rows = stay.rows x.low x.high rows_were;
      key = key ∙ sym x.key;
      chain = has.chain;
    })

    abbrev beside : List ℕ
    beside = all_chains ++ old_chain

    mid_same : AreSame (new_chain ++ own) (x.page ∷ beside)
    mid_same n =
        let a : times n (new_chain ++ own) ≡ times n new_chain + (one_if (n == x.page) + times n chains) = times-append n new_chain own in
        let b : times n (all_chains ++ old_chain) ≡ times n all_chains + times n old_chain = times-append n all_chains old_chain in
        let c : times n (flat_map (chain_pages u since) cells) ≡ times n (old_chain ++ rest) = gone.chains n in
        let d : times n (flat_map (chain_pages u since) cells) ≡ times n chains = ap (times n) stay.chains in
        let e : times n all_chains ≡ times n (new_chain ++ rest) = turned.chains n in
        let f : times n (old_chain ++ rest) ≡ times n old_chain + times n rest = times-append n old_chain rest in
        let h : times n (new_chain ++ rest) ≡ times n new_chain + times n rest = times-append n new_chain rest in
        omega (arith, a, b, c, d, e, f, h)

    first : Shifts g x.old mid x.pages own (x.page ∷ beside) count
    first =
        laws.alike x.old mid x.pages own (new_chain ++ own) own (x.page ∷ beside) count (λ n. refl) mid_same
        (laws.beside x.old mid x.pages [] new_chain own count has.shifts)

    mid_held : AreHeld g mid x.pages (x.page ∷ beside)
    mid_held = first.held held

    mid_later : Lacks (x.page ∷ beside) 1
    mid_later = first.front later

    mid_used : g.used mid ≡ u
    mid_used = first.spares.sizes.used

    pub page_held : AreHeld g mid x.pages (x.page ∷ [])
    page_held = (laws.apart mid x.pages (x.page ∷ []) beside mid_held).0

    pub mid_ready : IsReady g mid x.pages
    mid_ready = first.ready

    -- a call that fails while leaves are put
    pub lay_spares : (new : P) → Spares g mid new x.pages (x.page ∷ []) 3 → Spares g x.old new x.pages (all_pages u was 0 x.page) (pages_for u 0 (length payload))
    lay_spares new fails =
        subst (λ (xs : List ℕ). Spares g x.old new x.pages xs (count + 3)) (sym pages_are)
        (laws.spares x.old mid new x.pages own (x.page ∷ beside) count 3 first (laws.spares_beside mid new x.pages (x.page ∷ []) beside 3 fails))

    -- the leaves were put
    module _ (new : P) (run : Run) (leaf : LaysLeaf g mid new x.pages x.page all_cells run) where
      abbrev now : Paging
      now = sight g new x.pages

      abbrev leaf_pages : List ℕ
      leaf_pages = map (λ (l : Leaf). l.page) leaf.lays.leaves ++ (leaf.lays.end.page ∷ [])

      few : Shifts g mid new x.pages (x.page ∷ []) leaf_pages 3
      few = shifts_more g laws.spares_more mid new x.pages (x.page ∷ []) leaf_pages (length leaf.parts) 3 leaf.few leaf.lays.shifts

      kept_beside : AreKept since now beside
      kept_beside = others_kept g mid new x.pages (x.page ∷ []) beside 3 mid_held mid_later few.spares

      stay_all : RowsStay u since now all_cells
      stay_all = laws.stay u since now all_cells (λ n some. kept_beside n (let e = times-append n all_chains old_chain in omega (arith, e, some)))

      stay_cell : RowsStay u since now (x.cell ∷ [])
      stay_cell = laws.stay u since now (x.cell ∷ []) (λ n some. kept_beside n
          (let e = times-append n all_chains old_chain in let f = ap (times n) (append-nil old_chain) in omega (arith, e, f, some)))

      chain_still : chain_pages u now x.cell ≡ old_chain
      chain_still = sym (append-nil (chain_pages u now x.cell)) ∙ stay_cell.chains ∙ append-nil old_chain

      cells_are : leaves_cells leaf.lays.leaves leaf.lays.end ≡ all_cells
      cells_are = leaf.lays.joined ∙ leaf.joined

      parts : AreParts u now x.low x.high leaf.lays.leaves leaf.lays.end
      parts = laws.parts u now x.low x.high leaf.lays.leaves leaf.lays.end (record {
        rows = subst (AreRows u now x.low x.high) (sym cells_are) (stay_all.rows x.low x.high turned.rows);
        are = subst (λ (v : ℕ). All (IsLeaf v now) leaf.lays.leaves) mid_used leaf.lays.are;
        last = subst (λ (v : ℕ). IsLeaf v now leaf.lays.end) mid_used leaf.lays.last;
        some = leaf.lays.some;
      })

      abbrev below : List ℕ
      below = pages_in u now 0 run

      run_same : AreSame (leaf_pages ++ beside) (old_chain ++ below)
      run_same n =
          let front = map (λ (l : Leaf). l.page) leaf.lays.leaves in
          let back = flat_map (chain_pages u now) (leaves_cells leaf.lays.leaves leaf.lays.end) in
          let same : back ≡ all_chains = ap (flat_map (chain_pages u now)) cells_are ∙ stay_all.chains in
          let a : times n (leaf_pages ++ beside) ≡ times n leaf_pages + times n beside = times-append n leaf_pages beside in
          let b : times n leaf_pages ≡ times n front + (one_if (n == leaf.lays.end.page) + 0) = times-append n front (leaf.lays.end.page ∷ []) in
          let c : times n beside ≡ times n all_chains + times n old_chain = times-append n all_chains old_chain in
          let d : times n (front ++ (leaf.lays.end.page ∷ back)) ≡ times n front + (one_if (n == leaf.lays.end.page) + times n back) = times-append n front (leaf.lays.end.page ∷ back) in
          let e : times n back ≡ times n all_chains = ap (times n) same in
          let f : times n below ≡ times n (front ++ (leaf.lays.end.page ∷ back)) =
          ap (λ (r : Run). times n (pages_in u now 0 r)) leaf.lays.run_is ∙ parts.pages_are n in
          let h : times n (old_chain ++ below) ≡ times n old_chain + times n below = times-append n old_chain below in
          omega (arith, a, b, c, d, e, f, h)

      second : Shifts g x.old new x.pages own (old_chain ++ below) (count + 3)
      second =
          laws.alike x.old new x.pages own (leaf_pages ++ beside) own (old_chain ++ below) (count + 3) (λ n. refl) run_same
          (laws.both x.old mid new x.pages own (x.page ∷ beside) (leaf_pages ++ beside) count 3 first (laws.beside mid new x.pages (x.page ∷ []) leaf_pages beside 3 few))

      new_held : AreHeld g new x.pages (old_chain ++ below)
      new_held = second.held held

      new_later : Lacks (old_chain ++ below) 1
      new_later = second.front later

      new_used : g.used new ≡ u
      new_used = second.spares.sizes.used

      rows_now : rows_in u now 0 run ≡ with_payload x.rowid payload (tree_rows u was 0 x.page)
      rows_now =
          ap (rows_in u now 0) leaf.lays.run_is ∙ parts.rows ∙ ap (rows_of u now) cells_are ∙ stay_all.are ∙ turned.with_it
          ∙ ap (λ (k : ℤ). with_payload k (payload_of u since fresh) (rows_of u since cells)) x.key
          ∙ ap (λ (bs : List ℕ). with_payload x.rowid bs (rows_of u since cells)) has.whole
          ∙ ap (with_payload x.rowid payload) (stay.are ∙ sym (ap (λ (r : Reading). rows_of u was (cells_in r)) x.node))

      was_there : HasRow g x.old x.pages 0 x.page x.rowid
      was_there =
          ap (λ (o : Option (List ℕ)). is_some o)
          (ap (λ (r : Reading). row_at x.rowid (rows_of u was (cells_in r))) x.node ∙ ap (row_at x.rowid) (sym stay.are)
          ∙ ap (λ (k : ℤ). row_at k (rows_of u since cells)) (sym x.key) ∙ gone.was)

      -- the old cell's chain is whole and is named by nothing
      pub chain_held : IsHeldChain g new x.pages (rest_of x.cell) x.cell.chain
      chain_held = record {
        ready = second.ready;
        chain = subst (λ (v : ℕ). IsChain v now (rest_of x.cell) x.cell.chain) (sym new_used)
            (stay_cell.rows (rank x.cell.key) (rank x.cell.key + 1) (omega arith, omega arith, gone.chain, omega arith)).2;
        held = subst (λ (v : ℕ). AreHeld g new x.pages (chain_pages v now x.cell)) (sym new_used)
            (subst (AreHeld g new x.pages) (sym chain_still) (laws.apart new x.pages old_chain below new_held).0);
        later = subst (λ (v : ℕ). Lacks (chain_pages v now x.cell) 1) (sym new_used)
            (subst (λ (xs : List ℕ). Lacks xs 1) (sym chain_still) (let none = new_later in omega (arith, none, times-append 1 old_chain below)));
      }

      -- a call that fails while the chain is freed
      pub free_spares : (end : P) → Spares g new end x.pages (chain_pages (g.used new) now x.cell) 0
          → Spares g x.old end x.pages (all_pages u was 0 x.page) (pages_for u 0 (length payload))
      free_spares end fails =
          subst (λ (xs : List ℕ). Spares g x.old end x.pages xs (count + 3)) (sym pages_are)
          (subst (Spares g x.old end x.pages own) (none_more (count + 3))
          (laws.spares x.old new end x.pages own (old_chain ++ below) (count + 3) 0 second
          (laws.spares_beside new end x.pages old_chain below 0
          (subst (λ (xs : List ℕ). Spares g new end x.pages xs 0) chain_still (subst (λ (v : ℕ). Spares g new end x.pages (chain_pages v now x.cell) 0) new_used fails)))))

      -- and the chain is free
      pub replaces : first_child run ≡ x.page → (end : P) → Shifts g new end x.pages (chain_pages (g.used new) now x.cell) [] 0
          → Becomes g x.old end x.pages 0 x.low x.high x.page x.rowid (changes payload) run
      replaces first_is end freed =
          let frees : Shifts g new end x.pages old_chain [] 0 =
          subst (λ (xs : List ℕ). Shifts g new end x.pages xs [] 0) chain_still (subst (λ (v : ℕ). Shifts g new end x.pages (chain_pages v now x.cell) [] 0) new_used freed) in
          let kept : AreKept now (sight g end x.pages) below = others_kept g new end x.pages old_chain below 0 new_held new_later frees.spares in
          let still : RunStays u now (sight g end x.pages) 0 run = laws.stays u now (sight g end x.pages) 0 run kept in
          let back = sym leaf.lays.run_is in
          let total : Shifts g x.old end x.pages own below (count + 3) =
          subst (Shifts g x.old end x.pages own below) (none_more (count + 3))
          (laws.both x.old new end x.pages own (old_chain ++ below) below (count + 3) 0 second (laws.beside new end x.pages old_chain [] below 0 frees)) in
          record {
            before = was_there;
            is = still.is x.low x.high (subst (IsRun u now 0 x.low x.high) back parts.is);
            last = subst (IsOpen x.low x.high) back (parts.last leaf.lays.ends);
            first = first_is;
            filled = λ _. still.filled (subst (AreFilledBelow u now 0) back parts.filled);
            below = λ _ _ _. omega arith;
            rows = still.rows ∙ rows_now;
            shifts = subst (λ (xs : List ℕ). Shifts g x.old end x.pages xs (pages_in u (sight g end x.pages) 0 run) (count + 3)) (sym pages_are)
                (subst (λ (ys : List ℕ). Shifts g x.old end x.pages own ys (count + 3)) (sym still.pages_are) total);
          }

abbrev pub ok_leaf : List Cell → Reading
ok_leaf cells = Ok (leaf_cells cells)

-- a leaf that was read, and the cell at a place in it
abbrev pub found_at : {P : Type 0} (g : Ghosts P) (old : P) (pages : Paging) (low high page usable : ℕ) (rowid : ℤ) (bytes : List ℕ) (cells : List Cell) (place : ℕ) (cell : Cell)
    → usable ≡ g.used old → IsPlaceFor g old pages 0 low high page rowid → IsPage g old pages page bytes → IsLeafOf usable bytes cells → StandsAt cells place cell
    → cell.key ≡ rowid → Found g
found_at g old pages low high page usable rowid bytes cells place cell same at is leaf stands key = record {
  old = old;
  pages = pages;
  low = low;
  high = high;
  page = page;
  rowid = rowid;
  before = take place cells;
  cell = cell;
  after = drop (place + 1) cells;
  place = at;
  node = sym (read_is usable (g.used old) page (sight g old pages) bytes same is (leaf_other g old pages low high page rowid at)) ∙ leaf.reads ∙ ap ok_leaf stands;
  key = key;
}

-- a leaf has no row between two cells
pub no_row_between : {P : Type 0} (g : Ghosts P) (s : P) (pages : Paging) (low high page usable : ℕ) (rowid : ℤ) (bytes : List ℕ) (cells : List Cell) (place : ℕ)
    → usable ≡ g.used s → IsPlaceFor g s pages 0 low high page rowid → IsPage g s pages page bytes → IsLeafOf usable bytes cells → IsGap (rank rowid) cells place
    → HasRow g s pages 0 page rowid → ⊥
no_row_between g s pages low high page usable rowid bytes cells place same at is leaf gap has =
    let v = g.used s in
    let p = sight g s pages in
    let whole : node_at v p page ≡ ok_leaf (take place cells ++ drop place cells) =
    sym (read_is usable v page p bytes same is (leaf_other g s pages low high page rowid at)) ∙ leaf.reads ∙ ap ok_leaf (sym (take-append-drop place cells)) in
    let rows = rows_in_place g s pages low high page rowid (take place cells ++ drop place cells) at whole in
    let none : row_at rowid (tree_rows v p 0 page) ≡ None = ap (λ (r : Reading). row_at rowid (rows_of v p (cells_in r))) whole
    ∙ no_row v p (take place cells) (separator rowid 0) (drop place cells) gap.lower (rest_higher v p (rank rowid) low high (take place cells) (drop place cells) rows gap.above) in
    let e = sym (ap (λ (o : Option (List ℕ)). is_some o) none) ∙ has in
    absurd cc
