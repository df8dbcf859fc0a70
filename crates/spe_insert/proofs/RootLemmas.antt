-- A root that gets a level more.
use Rattle.std.proofs.Common.{◌≡◌, ◌≢◌, ℕ, ℤ, zero, suc, ◌+◌, ◌*◌, ◌<◌, ◌≤◌, ◌∙◌, List, [], ◌∷◌, length, Bool, true, not, Option, Ok, refl, sym, ap, subst, arith, unwrap_or}
use Rattle.std.proofs.lemmas.Bool.{le-leb}
use Rattle.spe_model.specs.declared.page.Cell.{Cell}
use Rattle.spe_model.specs.declared.page.Kind.TheVariants.{TableInterior}
use Rattle.spe_model.specs.Page.{ascends}
use Rattle.spe_model.specs.Paging.{Paging}
use Rattle.spe_model.specs.Schema.{is_index_page}
use Rattle.spe_model.specs.Served.{HasCells, IsGrown}
use Rattle.spe_model.specs.Standing.{Tree, all_pages}
use Rattle.spe_model.specs.Tree.{IsTree, node_at, rank, tree_rows}
use Rattle.spe_format.specs.Canonical.{AreWritable, cells_length, fits}
use Rattle.spe_space.specs.declared.pages.Pages.{Ghosts}
use Rattle.spe_space.specs.Calls.{sight}
use Rattle.spe_frame.specs.Held.{AreHeld, Puts, Shifts}
use Rattle.spe_frame.specs.Laws.{ShiftsAlike, ShiftsBeside, ShiftsBoth, SparesMore}
use Rattle.spe_frame.specs.Times.{AreSingle}
use Rattle.spe_frame.proofs.TimesLemmas.{here}
use Rattle.spe_cut.specs.Parts.{run_cells}
use Rattle.spe_cut.specs.Run.{Run, alone}
use Rattle.spe_cut.proofs.SizeLemmas.{interior_size}
use Rattle.spe_insert.specs.Below.{Becomes, IsPlaceFor, first_of, pages_for}
use Rattle.spe_insert.specs.Edit.{Edit, changes, edited, puts, size_of}
use Rattle.spe_insert.specs.Insert.{Added, Edited, IsOwn, Replaced, marked_root, most_pages}
use Rattle.spe_insert.specs.Node.{LaysNode}
use Rattle.spe_insert.specs.Root.{Raises, led_by}
use Rattle.spe_insert.proofs.CellLemmas.{shifts_more}
use Rattle.spe_insert.proofs.LeafLemmas.{node_there}
use Rattle.spe_insert.proofs.SortLemmas.{node_sort}

-- the second of two pages that are held is another
apart_two : (a b : ℕ) → AreSingle (a ∷ b ∷ []) → b ≢ a
apart_two a b single e =
    let one = single a in
    let first = here a a (b ∷ []) refl in
    let second = here a b [] (sym e) in
    absurd (omega (arith, one, first, second))

-- the steps by which a root is raised
pub record IsRaise {P : Type 0} (g : Ghosts P) (s b d e : P) (pages : Paging) (root next : ℕ) (bytes : List ℕ) (run : Run) : Type 0 where
  pub other : root ≢ 1
  pub held : AreHeld g s pages (root ∷ [])
  pub bytes_are : bytes ≡ sight g s pages root
  pub taken : Shifts g s b pages (root ∷ []) (next ∷ root ∷ []) 1
  pub puts : Puts g b d next bytes
  pub second : Shifts g b d pages (next ∷ []) (next ∷ []) 0
  pub lays : LaysNode g d e root (run_cells (led_by run next))
  pub third : Shifts g d e pages (root ∷ []) (root ∷ []) 0
  pub writable : AreWritable TableInterior (g.used s) run.cells

-- once the root's bytes are on the new page
pub raise_half : {P : Type 0} (g : Ghosts P) → ShiftsBoth g → ShiftsBeside g → ShiftsAlike g → (s b d : P) (pages : Paging) (root next : ℕ)
    → Shifts g s b pages (root ∷ []) (next ∷ root ∷ []) 1 → Shifts g b d pages (next ∷ []) (next ∷ []) 0 → Shifts g s d pages (root ∷ []) (root ∷ next ∷ []) 1
raise_half g both beside alike s b d pages root next taken second =
    alike s d pages (root ∷ []) (next ∷ root ∷ []) (root ∷ []) (root ∷ next ∷ []) 1 (λ n. refl) (λ n. omega arith)
    (both s b d pages (root ∷ []) (next ∷ root ∷ []) (next ∷ root ∷ []) 1 0 taken (beside b d pages (next ∷ []) (next ∷ []) (root ∷ []) 0 second))

writable_led : (usable : ℕ) (cells : List Cell) (right next : ℕ) → AreWritable TableInterior usable cells
    → AreWritable TableInterior usable (led_by (record { cells = cells; right = right }) next).cells
writable_led usable [] right next are = tt
writable_led usable (c ∷ cs) right next are = (
  record {
    left = λ e. absurd cc;
    key = are.0.key;
    payload = are.0.payload;
    most = are.0.most;
    local = are.0.local;
    chain = are.0.chain;
  },
  are.1,
)

pub led_writable : (usable : ℕ) (run : Run) (next : ℕ) → AreWritable TableInterior usable run.cells → AreWritable TableInterior usable (led_by run next).cells
led_writable usable run next are = writable_led usable run.cells run.right next are

ascends_led : (cells : List Cell) (right next : ℕ) → ascends (led_by (record { cells = cells; right = right }) next).cells ≡ ascends cells
ascends_led [] right next = refl
ascends_led (c ∷ cs) right next = refl

pub led_ascends : (run : Run) (next : ℕ) → ascends (led_by run next).cells ≡ ascends run.cells
led_ascends run next = ascends_led run.cells run.right next

long_led : (cells : List Cell) (right next : ℕ) → length (led_by (record { cells = cells; right = right }) next).cells ≡ length cells
long_led [] right next = refl
long_led (c ∷ cs) right next = refl

pub led_long : (run : Run) (next : ℕ) → length (led_by run next).cells ≡ length run.cells
led_long run next = long_led run.cells run.right next

pub raises : {P : Type 0} (g : Ghosts P) → ShiftsBoth g → ShiftsBeside g → ShiftsAlike g → (s b d e : P) (pages : Paging) (root next : ℕ) (bytes : List ℕ) (run : Run)
    → IsRaise g s b d e pages root next bytes run → Raises g s e pages root run
raises g both beside alike s b d e pages root next bytes run r =
    let mid = raise_half g both beside alike s b d pages root next r.taken r.second in
    let used : g.used d ≡ g.used s = mid.spares.sizes.used in
    let apart : next ≢ root = apart_two root next (mid.held r.held).single in
    record {
      next = next;
      same = ap (λ (o : Option (List ℕ)). unwrap_or o (pages next)) (r.lays.puts.others next apart ∙ r.puts.there) ∙ r.bytes_are;
      holds = record {
        node = subst (λ (u : ℕ). node_at u (sight g e pages) root ≡ Ok (run_cells (led_by run next))) used (node_there g d e e pages root (run_cells (led_by run next)) r.lays refl);
        writable = led_writable (g.used s) run next r.writable;
      };
      shifts = both s d e pages (root ∷ []) (root ∷ next ∷ []) (root ∷ next ∷ []) 1 0 mid (beside d e pages (root ∷ []) (root ∷ []) (next ∷ []) 0 r.third);
    }

-- a tree of a table by its height and its root
abbrev pub tree_at : (height root : ℕ) → Tree
tree_at height root = record { table = true; height = height; root = root }

pub tree_is : (tree : Tree) (root : ℕ) → tree.table ≡ true → tree.root ≡ root → tree ≡ tree_at tree.height root
tree_is tree root sort at = ap (λ (b : Bool). record { table = b; height = tree.height; root = tree.root }) sort ∙ ap (tree_at tree.height) at

not_index : (usable : ℕ) (pages : Paging) (height low high page : ℕ) → 480 ≤ usable → IsTree usable pages height low high page → true ≡ not (is_index_page pages page)
not_index usable pages zero low high page wide tree = sym (ap not (node_sort usable pages page _ wide tree.0))
not_index usable pages (suc height) low high page wide tree = sym (ap not (node_sort usable pages page _ wide tree.0))

-- a tree of a table whose interior pages have cells is one of a marked root
pub tree_grown : (usable : ℕ) (pages : Paging) (height root : ℕ) → 480 ≤ usable → root ≢ 0 → height < 20 → IsTree usable pages height 0 18446744073709551616 root
    → HasCells usable pages height root → IsGrown usable pages (marked_root root) (tree_at height root)
tree_grown usable pages height root wide some low tree filled = ((some, refl, not_index usable pages height 0 18446744073709551616 root wide tree, (low, tree)), filled)

-- the place of a row in the tree of a root
pub own_place : {P : Type 0} (g : Ghosts P) (s : P) (pages : Paging) (root height : ℕ) (rowid : ℤ) → rank rowid < 18446744073709551616 → IsOwn g s pages root (tree_at height root)
    → IsPlaceFor g s pages height 0 18446744073709551616 root rowid
own_place g s pages root height rowid below own = record {
  ready = own.ready;
  tree = own.grown.0.3.1;
  held = own.held;
  later = own.later;
  from = omega arith;
  to = below;
}

pub own_low : {P : Type 0} (g : Ghosts P) (s : P) (pages : Paging) (root height : ℕ) → IsOwn g s pages root (tree_at height root) → height < 20
own_low g s pages root height own = own.grown.0.3.0

alone_is : (cells : List Cell) (right page : ℕ) → cells ≡ [] → first_of cells right ≡ page → record { cells = cells; right = right } ≡ alone page
alone_is [] right page none first = ap alone first
alone_is (c ∷ cs) right page none first = absurd cc

-- the tree has the row without a level more
pub edited_alone : {P : Type 0} (g : Ghosts P) → SparesMore g → (s m : P) (pages : Paging) (root height : ℕ) (rowid : ℤ) (edit : Edit) (run : Run) → 480 ≤ g.used s
    → IsOwn g s pages root (tree_at height root) → Becomes g s m pages height 0 18446744073709551616 root rowid edit run → run.cells ≡ []
    → Edited g s m pages root (tree_at height root) rowid edit
edited_alone g more s m pages root height rowid edit run wide own becomes none =
    let is : run ≡ alone root = alone_is run.cells run.right root none becomes.first in
    let b : Becomes g s m pages height 0 18446744073709551616 root rowid edit (alone root) = subst (Becomes g s m pages height 0 18446744073709551616 root rowid edit) is becomes in
    let used : g.used m ≡ g.used s = b.shifts.spares.sizes.used in
    let low = own_low g s pages root height own in
    record {
      before = b.before;
      other = tree_at height root;
      sort = refl;
      grown = subst (λ (u : ℕ). IsGrown u (sight g m pages) (marked_root root) (tree_at height root)) (sym used)
          (tree_grown (g.used s) (sight g m pages) height root wide own.grown.0.0 low b.is (b.filled own.grown.1));
      rows = subst (λ (u : ℕ). tree_rows u (sight g m pages) height root ≡ edited edit rowid (tree_rows (g.used s) (sight g s pages) height root)) (sym used) b.rows;
      shifts = subst (λ (u : ℕ). Shifts g s m pages (all_pages (g.used s) (sight g s pages) height root) (all_pages u (sight g m pages) height root) (most_pages (g.used s) (size_of edit))) (sym used)
          (shifts_more g more s m pages (all_pages (g.used s) (sight g s pages) height root) (all_pages (g.used s) (sight g m pages) height root)
          (pages_for (g.used s) height (size_of edit)) (most_pages (g.used s) (size_of edit)) (omega (arith, low)) b.shifts);
    }

need_few : (usable : ℕ) (cells : List Cell) → AreWritable TableInterior usable cells → 2 * length cells + cells_length TableInterior cells ≤ 15 * length cells
need_few usable [] are = omega arith
need_few usable (c ∷ cs) are =
    let one = interior_size usable c are.0 in
    let rest = need_few usable cs are.1 in
    omega (arith, one, rest)

-- such a run fits every page
pub led_fits : (usable : ℕ) (run : Run) (next : ℕ) → 480 ≤ usable → AreWritable TableInterior usable run.cells → length run.cells ≤ 2
    → fits (run_cells (led_by run next)) 0 usable ≡ true
led_fits usable run next wide are few =
    let long = led_long run next in
    let need = need_few usable (led_by run next).cells (led_writable usable run next are) in
    le-leb _ usable (omega (arith, wide, long, need, few))

-- a tree whose rows were edited got a row, or another payload in one
pub added_from : {P : Type 0} (g : Ghosts P) (s e : P) (pages : Paging) (root : ℕ) (tree : Tree) (rowid : ℤ) (payload : List ℕ) → Edited g s e pages root tree rowid (puts payload)
    → Added g s e pages root tree rowid payload
added_from g s e pages root tree rowid payload is = record {
  absent = is.before;
  other = is.other;
  sort = is.sort;
  grown = is.grown;
  rows = is.rows;
  shifts = is.shifts;
}

pub replaced_from : {P : Type 0} (g : Ghosts P) (s e : P) (pages : Paging) (root : ℕ) (tree : Tree) (rowid : ℤ) (payload : List ℕ) → Edited g s e pages root tree rowid (changes payload)
    → Replaced g s e pages root tree rowid payload
replaced_from g s e pages root tree rowid payload is = record {
  present = is.before;
  other = is.other;
  sort = is.sort;
  grown = is.grown;
  rows = is.rows;
  shifts = is.shifts;
}
