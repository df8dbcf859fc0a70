-- What becomes of a leaf that loses a row.
use Rattle.std.proofs.Common.{◌≡◌, ◌≢◌, ℕ, ℤ, ◌+◌, ◌∙◌, List, [], ◌∷◌, ◌++◌, Some, Ok, take, drop, refl, sym, ap, subst, arith}
use Rattle.std.specs.List.{flat_map}
use Rattle.std.proofs.lemmas.List.{take-append-drop}
use Rattle.spe_model.specs.declared.page.Cell.{Cell}
use Rattle.spe_model.specs.declared.page.Kind.TheVariants.{TableLeaf}
use Rattle.spe_model.specs.Chain.{IsChain}
use Rattle.spe_model.specs.Page.{page_at}
use Rattle.spe_model.specs.Paging.{Paging}
use Rattle.spe_model.specs.Standing.{all_pages, chain_pages}
use Rattle.spe_model.specs.Tree.{AreRows, cells_in, header_end, node_at, payload_of, rank, rest_of, row_at, rows_of, tree_rows}
use Rattle.spe_space.specs.declared.pages.Pages.{Ghosts}
use Rattle.spe_space.specs.Calls.{sight}
use Rattle.spe_frame.specs.Held.{AreHeld, IsReady, Shifts, Spares}
use Rattle.spe_frame.specs.Laws.{HeldApart, ShiftsAlike, ShiftsBeside, ShiftsBoth, ShiftsNone, SparesAlike, SparesBeside, SparesBoth}
use Rattle.spe_frame.specs.Times.{AreSame, Lacks, times}
use Rattle.spe_frame.proofs.TimesLemmas.{here, times-append}
use Rattle.spe_write.specs.Chain.{IsHeldChain}
use Rattle.spe_cut.specs.Gone.{CellDropsRow, RowDropped, without_row}
use Rattle.spe_cut.specs.Parts.{leaf_cells, without}
use Rattle.spe_cut.specs.Rows.{KeptRowsStay, RowsStay}
use Rattle.spe_cut.specs.Run.{AreKept}
use Rattle.spe_cut.proofs.HolderLemmas.{IsMade, Reading}
use Rattle.spe_insert.specs.Below.{IsPage, IsPlaceFor}
use Rattle.spe_insert.specs.LeafStep.{IsGap, IsLeafOf}
use Rattle.spe_insert.specs.Node.{LaysNode}
use Rattle.spe_insert.proofs.GapLemmas.{rest_higher}
use Rattle.spe_insert.proofs.LeafLemmas.{node_there}
use Rattle.spe_insert.proofs.PutBelowLemmas.{others_kept}
use Rattle.spe_insert.proofs.PutLeafLemmas.{leaf_other, read_is, rows_in_place}
use Rattle.spe_delete.specs.Leaf.{DropsCell, IsAbsent, IsAmong}
use Rattle.spe_delete.proofs.CutLemmas.{none_between}

-- the laws of changes and of rows
pub record Laws {P : Type 0} (g : Ghosts P) : Type 0 where
  pub idle : ShiftsNone g
  pub both : ShiftsBoth g
  pub beside : ShiftsBeside g
  pub alike : ShiftsAlike g
  pub spares : SparesBoth g
  pub spares_beside : SparesBeside g
  pub spares_alike : SparesAlike g
  pub apart : HeldApart g
  pub stay : KeptRowsStay
  pub drops : CellDropsRow

-- a leaf with a cell that is to go
pub record Found {P : Type 0} (g : Ghosts P) : Type 0 where
  pub old : P
  pub pages : Paging
  pub low : ℕ
  pub high : ℕ
  pub page : ℕ
  pub rowid : ℤ
  pub before : List Cell
  pub cell : Cell
  pub after : List Cell
  pub place : IsPlaceFor g old pages 0 low high page rowid
  pub node : node_at (g.used old) (sight g old pages) page ≡ Ok (leaf_cells (before ++ (cell ∷ after)))
  pub key : cell.key ≡ rowid

module _ {P : Type 0} (g : Ghosts P) (laws : Laws g) (x : Found g) where
  abbrev u : ℕ
  u = g.used x.old

  abbrev was : Paging
  was = sight g x.old x.pages

  abbrev cells : List Cell
  cells = x.before ++ (x.cell ∷ x.after)

  abbrev left : List Cell
  left = x.before ++ x.after

  abbrev chains : List ℕ
  chains = flat_map (chain_pages u was) cells

  pub pages_are : all_pages u was 0 x.page ≡ x.page ∷ chains
  pages_are = ap (λ (r : Reading). x.page ∷ flat_map (chain_pages u was) (cells_in r)) x.node

  held : AreHeld g x.old x.pages (x.page ∷ chains)
  held = subst (AreHeld g x.old x.pages) pages_are x.place.held

  later : Lacks (x.page ∷ chains) 1
  later = subst (λ (xs : List ℕ). Lacks xs 1) pages_are x.place.later

  rows_were : AreRows u was x.low x.high cells
  rows_were = subst (AreRows u was x.low x.high) (ap cells_in x.node) x.place.tree.1

  pub page_held : AreHeld g x.old x.pages (x.page ∷ [])
  page_held = (laws.apart x.old x.pages (x.page ∷ []) chains held).0

  pub other : x.page ≢ 1
  other = leaf_other g x.old x.pages x.low x.high x.page x.rowid x.place

  -- a call that fails before the leaf was put
  pub lay_spares : (mid : P) → Spares g x.old mid x.pages (x.page ∷ []) 0 → Spares g x.old mid x.pages (all_pages u was 0 x.page) 0
  lay_spares mid fails =
      subst (λ (xs : List ℕ). Spares g x.old mid x.pages xs 0) (sym pages_are) (laws.spares_beside x.old mid x.pages (x.page ∷ []) chains 0 fails)

  -- the leaf was put without the cell
  module _ (mid : P) (lays : LaysNode g x.old mid x.page (leaf_cells left)) (laid : Shifts g x.old mid x.pages (x.page ∷ []) (x.page ∷ []) 0) where
    abbrev since : Paging
    since = sight g mid x.pages

    abbrev chain : List ℕ
    chain = chain_pages u since x.cell

    abbrev rest : List ℕ
    rest = flat_map (chain_pages u since) left

    stay : RowsStay u was since cells
    stay = laws.stay u was since cells (others_kept g x.old mid x.pages (x.page ∷ []) chains 0 held later laid.spares)

    gone : RowDropped u since x.low x.high x.before x.cell x.after
    gone = laws.drops u since x.low x.high x.before x.cell x.after (stay.rows x.low x.high rows_were)

    same : AreSame (x.page ∷ chains) (chain ++ (x.page ∷ rest))
    same n =
        let a = gone.chains n in
        let b = ap (times n) stay.chains in
        omega (arith, a, b, times-append n chain rest, times-append n chain (x.page ∷ rest))

    first : Shifts g x.old mid x.pages (x.page ∷ chains) (chain ++ (x.page ∷ rest)) 0
    first =
        laws.alike x.old mid x.pages (x.page ∷ chains) (x.page ∷ chains) (x.page ∷ chains) (chain ++ (x.page ∷ rest)) 0 (λ n. refl) same
        (laws.beside x.old mid x.pages (x.page ∷ []) (x.page ∷ []) chains 0 laid)

    mid_held : AreHeld g mid x.pages (chain ++ (x.page ∷ rest))
    mid_held = first.held held

    mid_later : Lacks (chain ++ (x.page ∷ rest)) 1
    mid_later = first.front later

    used : g.used mid ≡ u
    used = first.spares.sizes.used

    -- the chain of the cell is whole and is named by nothing
    pub chain_held : IsHeldChain g mid x.pages (rest_of x.cell) x.cell.chain
    chain_held = record {
      ready = first.ready;
      chain = subst (λ (v : ℕ). IsChain v since (rest_of x.cell) x.cell.chain) (sym used) gone.chain;
      held = subst (λ (v : ℕ). AreHeld g mid x.pages (chain_pages v since x.cell)) (sym used) (laws.apart mid x.pages chain (x.page ∷ rest) mid_held).0;
      later = subst (λ (v : ℕ). Lacks (chain_pages v since x.cell) 1) (sym used) (let none = mid_later in omega (arith, none, times-append 1 chain (x.page ∷ rest)));
    }

    -- a call that fails while the chain is freed
    pub free_spares : (new : P) → Spares g mid new x.pages (chain_pages (g.used mid) since x.cell) 0 → Spares g x.old new x.pages (all_pages u was 0 x.page) 0
    free_spares new fails =
        subst (λ (xs : List ℕ). Spares g x.old new x.pages xs 0) (sym pages_are)
        (laws.spares x.old mid new x.pages (x.page ∷ chains) (chain ++ (x.page ∷ rest)) 0 0 first
        (laws.spares_beside mid new x.pages chain (x.page ∷ rest) 0 (subst (λ (v : ℕ). Spares g mid new x.pages (chain_pages v since x.cell) 0) used fails)))

    -- and the chain is free
    module _ (new : P) (freed : Shifts g mid new x.pages (chain_pages (g.used mid) since x.cell) [] 0) where
      abbrev now : Paging
      now = sight g new x.pages

      frees : Shifts g mid new x.pages chain [] 0
      frees = subst (λ (v : ℕ). Shifts g mid new x.pages (chain_pages v since x.cell) [] 0) used freed

      kept : AreKept since now (x.page ∷ rest)
      kept = others_kept g mid new x.pages chain (x.page ∷ rest) 0 mid_held mid_later frees.spares

      node_now : node_at u now x.page ≡ Ok (leaf_cells left)
      node_now =
          ap (λ (bytes : List ℕ). page_at (take u bytes) (header_end x.page)) (kept x.page (let e = here x.page x.page rest refl in omega (arith, e)))
          ∙ node_there g x.old mid mid x.pages x.page (leaf_cells left) lays refl

      stay_left : RowsStay u since now left
      stay_left = laws.stay u since now left (λ n some. kept n (omega (arith, some)))

      pages_now : all_pages u now 0 x.page ≡ x.page ∷ rest
      pages_now = ap (λ (r : Reading). x.page ∷ flat_map (chain_pages u now) (cells_in r)) node_now ∙ ap (λ (ps : List ℕ). x.page ∷ ps) stay_left.chains

      rows_then : tree_rows u was 0 x.page ≡ rows_of u since cells
      rows_then = ap (λ (r : Reading). rows_of u was (cells_in r)) x.node ∙ sym stay.are

      shifts : Shifts g x.old new x.pages (x.page ∷ chains) (x.page ∷ rest) 0
      shifts =
          laws.both x.old mid new x.pages (x.page ∷ chains) (chain ++ (x.page ∷ rest)) (x.page ∷ rest) 0 0 first
          (laws.beside mid new x.pages chain [] (x.page ∷ rest) 0 frees)

      pub drops_cell : DropsCell g x.old new x.pages 0 x.low x.high x.page x.rowid left
      drops_cell = record {
        leaf = refl;
        node = node_now;
        loses = record {
          payload = payload_of u since x.cell;
          present = subst (λ (k : ℤ). row_at k (tree_rows u was 0 x.page) ≡ Some (payload_of u since x.cell)) x.key (ap (row_at x.cell.key) rows_then ∙ gone.was);
          tree = (let Q : Reading → Type 0 = λ r. IsMade TableLeaf r × AreRows u now x.low x.high (cells_in r) in
              subst Q (sym node_now) (refl, stay_left.rows x.low x.high gone.rows));
          rows = ap (λ (r : Reading). rows_of u now (cells_in r)) node_now ∙ stay_left.are ∙ gone.others
              ∙ ap (λ (k : ℤ). without_row k (rows_of u since cells)) x.key ∙ ap (without_row x.rowid) (sym rows_then);
          shifts = subst (λ (ys : List ℕ). Shifts g x.old new x.pages (all_pages u was 0 x.page) ys 0) (sym pages_now)
              (subst (λ (xs : List ℕ). Shifts g x.old new x.pages xs (x.page ∷ rest) 0) (sym pages_are) shifts);
        };
      }

abbrev pub ok_leaf : List Cell → Reading
ok_leaf cells = Ok (leaf_cells cells)

-- a leaf that was read, and the cell at a place in it
abbrev pub found_at : {P : Type 0} (g : Ghosts P) (old : P) (pages : Paging) (low high page usable : ℕ) (rowid : ℤ) (bytes : List ℕ) (cells : List Cell) (place : ℕ) (cell : Cell)
    → usable ≡ g.used old → IsPlaceFor g old pages 0 low high page rowid → IsPage g old pages page bytes → IsLeafOf usable bytes cells → IsAmong cells place cell
    → cell.key ≡ rowid → Found g
found_at g old pages low high page usable rowid bytes cells place cell same at is leaf among key = record {
  old = old;
  pages = pages;
  low = low;
  high = high;
  page = page;
  rowid = rowid;
  before = take place cells;
  cell = cell;
  after = drop (place + 1) cells;
  place = at;
  node = sym (read_is usable (g.used old) page (sight g old pages) bytes same is (leaf_other g old pages low high page rowid at)) ∙ leaf.reads
      ∙ ap (λ (cs : List Cell). ok_leaf cs) among;
  key = key;
}

-- where no cell has the rowid, no row has it
pub absent_there : {P : Type 0} (g : Ghosts P) → ShiftsNone g → (s : P) (pages : Paging) (low high page usable : ℕ) (rowid : ℤ) (bytes : List ℕ) (cells : List Cell) (place : ℕ)
    → usable ≡ g.used s → IsPlaceFor g s pages 0 low high page rowid → IsPage g s pages page bytes → IsLeafOf usable bytes cells → IsGap (rank rowid) cells place
    → IsAbsent g s s pages 0 page rowid
absent_there g idle s pages low high page usable rowid bytes cells place same at is leaf gap =
    let v = g.used s in
    let p = sight g s pages in
    let whole : node_at v p page ≡ ok_leaf (take place cells ++ drop place cells) =
    sym (read_is usable v page p bytes same is (leaf_other g s pages low high page rowid at)) ∙ leaf.reads ∙ ap ok_leaf (sym (take-append-drop place cells)) in
    let rows = rows_in_place g s pages low high page rowid (take place cells ++ drop place cells) at whole in
    record {
      absent = ap (λ (r : Reading). row_at rowid (rows_of v p (cells_in r))) whole
          ∙ none_between v p rowid (take place cells) (drop place cells) gap.lower (rest_higher v p (rank rowid) low high (take place cells) (drop place cells) rows gap.above);
      shifts = idle s pages (all_pages v p 0 page) at.ready;
    }

-- a leaf as it was read, one of its cells, and the others
pub record IsRead (usable used : ℕ) (rowid : ℤ) (bytes : List ℕ) (cells : List Cell) (place : ℕ) (cell : Cell) (rest : List Cell) : Type 0 where
  pub same : usable ≡ used
  pub leaf : IsLeafOf usable bytes cells
  pub among : IsAmong cells place cell
  pub key : cell.key ≡ rowid
  pub rest_is : rest ≡ without place cells

-- what holds where the page is held
abbrev pub WhenHeld : {P : Type 0} (g : Ghosts P) (s : P) → Paging → (page : ℕ) → Type 0 → Type 0
WhenHeld g s pages page What = IsReady g s pages → AreHeld g s pages (page ∷ []) → page ≢ 1 → What

module _ {P : Type 0} (g : Ghosts P) (laws : Laws g) (s a : P) (pages : Paging) (usable page place : ℕ) (rowid : ℤ) (bytes : List ℕ) (cells rest : List Cell) (cell : Cell)
    (read : IsRead usable (g.used s) rowid bytes cells place cell rest) (low high : ℕ) (at : IsPlaceFor g s pages 0 low high page rowid) (is : IsPage g s pages page bytes) where
  abbrev found : Found g
  found = found_at g s pages low high page usable rowid bytes cells place cell read.same at is read.leaf read.among read.key

  pub when_held : (What : Type 0) → WhenHeld g s pages page What → What
  when_held What when = when at.ready (page_held g laws found) (other g laws found)

  pub lay_failed : WhenHeld g s pages page (Spares g s a pages (page ∷ []) 0) → Spares g s a pages (all_pages (g.used s) (sight g s pages) 0 page) 0
  lay_failed when = lay_spares g laws found a (when_held (Spares g s a pages (page ∷ []) 0) when)

  module _ (lays : page ≢ 1 → LaysNode g s a page (leaf_cells rest)) (laid : WhenHeld g s pages page (Shifts g s a pages (page ∷ []) (page ∷ []) 0)) where
    lays_it : LaysNode g s a page (leaf_cells (without place cells))
    lays_it = subst (λ (cs : List Cell). LaysNode g s a page (leaf_cells cs)) read.rest_is (lays (other g laws found))

    laid_it : Shifts g s a pages (page ∷ []) (page ∷ []) 0
    laid_it = when_held (Shifts g s a pages (page ∷ []) (page ∷ []) 0) laid

    pub chain_there : IsHeldChain g a pages (rest_of cell) cell.chain
    chain_there = chain_held g laws found a lays_it laid_it

    pub free_failed : (b : P) → Spares g a b pages (chain_pages (g.used a) (sight g a pages) cell) 0 → Spares g s b pages (all_pages (g.used s) (sight g s pages) 0 page) 0
    free_failed b fails = free_spares g laws found a lays_it laid_it b fails

    pub dropped : (b : P) → Shifts g a b pages (chain_pages (g.used a) (sight g a pages) cell) [] 0 → DropsCell g s b pages 0 low high page rowid rest
    dropped b freed = subst (DropsCell g s b pages 0 low high page rowid) (sym read.rest_is) (drops_cell g laws found a lays_it laid_it b freed)
