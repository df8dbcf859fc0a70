-- A row that is put into the tree below a page.
use Rattle.std.proofs.Common.{◌≡◌, ◌≢◌, ◌⊎◌, ℕ, suc, ℤ, ◌+◌, ◌*◌, ◌^◌, ◌<◌, ◌≤◌, ◌∙◌, List, [], ◌∷◌, ◌++◌, All, take, drop, length, refl, sym, ap, subst, arith, Option, Ok, unwrap_or, inl, inr, ⊎_elim}
use Rattle.std.proofs.lemmas.Bool.{le-ltb, lt-ltb}
use Rattle.std.proofs.lemmas.Bool.Decides.{leb_tells}
use Rattle.std.proofs.lemmas.List.{length-append}
use Rattle.std.proofs.lemmas.List.Elements.{All-cons, All-nil}
use Rattle.std.proofs.Math.Nat.{mul-le-mul_left}
use Rattle.spe_model.specs.declared.page.Cell.{Cell}
use Rattle.spe_model.specs.declared.page.Kind.TheVariants.{TableInterior}
use Rattle.spe_model.specs.Page.{page_at}
use Rattle.spe_model.specs.Paging.{Paging}
use Rattle.spe_model.specs.Served.{HasCells}
use Rattle.spe_model.specs.Standing.{all_pages}
use Rattle.spe_model.specs.Tree.{child_for, header_end, node_cells, node_right, rank, row_at, tree_rows}
use Rattle.spe_space.specs.declared.pages.Pages.{Ghosts}
use Rattle.spe_space.specs.Calls.{sight}
use Rattle.spe_space.specs.Front.{number_in}
use Rattle.spe_format.proofs.WritableLemmas.{taken_writable}
use Rattle.spe_frame.specs.Held.{AreHeld, IsOthers, Shifts, Spares}
use Rattle.spe_frame.specs.Times.{AreSame, Lacks, times}
use Rattle.spe_frame.proofs.TimesLemmas.{here, times-append}
use Rattle.spe_cut.specs.Child.{IsChild, RunGrows}
use Rattle.spe_cut.specs.Run.{AreFilledBelow, AreKept, HoldsRun, IsHeld, IsHolder, IsRun, Place, inner, last, Run, alone, cells_before, high_at, low_at, pages_beside, pages_in, rows_in, with_child, with_run}
use Rattle.spe_cut.specs.Rows.{RowsBecome}
use Rattle.spe_cut.specs.Split.{ArePair, high_half, low_half, pair}
use Rattle.spe_search.specs.declared.page.Step.TheVariants.{Child}
use Rattle.spe_search.specs.Found.{IsStep}
use Rattle.spe_search.proofs.FoundLemmas.{interior_leads}
use Rattle.spe_insert.specs.Below.{Becomes, IsPlaceFor, IsThere, pages_for}
use Rattle.spe_insert.specs.Edit.{Edit, IsBefore, changes, edited, puts, size_of}
use Rattle.spe_insert.specs.Interior.{LaysHalves, LaysRun, LaysWhole}
use Rattle.spe_insert.specs.Laws.{HaveLaws}
use Rattle.spe_insert.specs.Place.{place_at, place_behind, place_for}
use Rattle.spe_insert.specs.Step.{IsBegun, grown_in, place_in}
use Rattle.spe_insert.proofs.PlaceLemmas.{behind_first}
use Rattle.spe_insert.specs.Run.{with_first}

abbrev run_with : List Cell → ℕ → Run
run_with cells right = record { cells = cells; right = right }

-- the place of a rowid's child

cells_behind : (before after : List Cell) (right : ℕ) → cells_before (place_behind before after right) ≡ before
cells_behind before [] right = refl
cells_behind before (c ∷ cs) right = refl

high_behind : (c : Cell) (before after : List Cell) (high right : ℕ) → high_at high (place_behind (c ∷ before) after right) ≡ high_at high (place_behind before after right)
high_behind c before [] high right = refl
high_behind c before (d ∷ ds) high right = refl

abbrev place_of : (key : ℕ) (cells : List Cell) (right : ℕ) → Place
place_of key cells right = place_at (place_for key cells) (run_with cells right)

one_on : (n : ℕ) → n + 1 ≡ suc n
one_on n = omega arith

pub child_there : (key : ℕ) (cells : List Cell) (right : ℕ) → with_child (place_of key cells right) (child_for key cells right) ≡ run_with cells right
child_there key [] right = refl
child_there key (c ∷ cs) right = elim (leb_tells key (rank c.key)) [
  | inl hit ↦ rw (le-ltb (rank c.key) key hit.1, hit.0) refl
  | inr miss ↦ rw (lt-ltb (rank c.key) key miss.1, miss.0, one_on (place_for key cs))
      (behind_first c (take (place_for key cs) cs) (drop (place_for key cs) cs) right (child_for key cs right) ∙ ap (with_first c) (child_there key cs right))
]

taken_lower : (key : ℕ) (cells : List Cell) → All (λ (d : Cell). rank d.key < key) (take (place_for key cells) cells)
taken_lower key [] = All-nil (λ (d : Cell). rank d.key < key)
taken_lower key (c ∷ cs) = elim (leb_tells key (rank c.key)) [
  | inl hit ↦ rw (le-ltb (rank c.key) key hit.1) (All-nil (λ (d : Cell). rank d.key < key))
  | inr miss ↦ rw (lt-ltb (rank c.key) key miss.1, one_on (place_for key cs)) (All-cons (λ (d : Cell). rank d.key < key) c (take (place_for key cs) cs) miss.1 (taken_lower key cs))
]

pub before_lower : (key : ℕ) (cells : List Cell) (right : ℕ) → All (λ (d : Cell). rank d.key < key) (cells_before (place_of key cells right))
before_lower key cells right =
    subst (All (λ (d : Cell). rank d.key < key)) (sym (cells_behind (take (place_for key cells) cells) (drop (place_for key cells) cells) right)) (taken_lower key cells)

pub high_above : (key high : ℕ) (cells : List Cell) (right : ℕ) → key < high → key < high_at high (place_of key cells right)
high_above key high [] right under = under
high_above key high (c ∷ cs) right under = elim (leb_tells key (rank c.key)) [
  | inl hit ↦ rw (le-ltb (rank c.key) key hit.1) (omega (arith, hit.1))
  | inr miss ↦ rw (lt-ltb (rank c.key) key miss.1, one_on (place_for key cs))
      (subst (λ (h : ℕ). key < h) (sym (high_behind c (take (place_for key cs) cs) (drop (place_for key cs) cs) high right)) (high_above key high cs right under))
]

-- pages that stay

at_once : (n : ℕ) (xs ys : List ℕ) → 0 < times n ys → 0 < times n (xs ++ ys)
at_once n xs ys some = omega (arith, some, times-append n xs ys)

pub others_kept : {P : Type 0} (g : Ghosts P) (old new : P) (pages : Paging) (mine others : List ℕ) (count : ℕ)
    → AreHeld g old pages (mine ++ others) → Lacks (mine ++ others) 1 → Spares g old new pages mine count → AreKept (sight g old pages) (sight g new pages) others
others_kept g old new pages mine others count held later spares n some =
    let other : IsOthers g old pages mine n = record {
      used = held.used n (at_once n mine others some);
      lacks = (let one = held.single n in omega (arith, one, some, times-append n mine others));
    } in
    let first : n ≢ 1 = λ is. let none = subst (λ (m : ℕ). 0 < times m others) is some in absurd (omega (arith, none, later, times-append 1 mine others)) in
    ap (λ (o : Option (List ℕ)). unwrap_or o (pages n)) (spares.laid n other first)

-- a page whose bytes stay holds what it held
pub holder_kept : (usable : ℕ) (old new : Paging) (page : ℕ) (run : Run) → new page ≡ old page → HoldsRun usable old page run → HoldsRun usable new page run
holder_kept usable old new page run same holds = record {
  node = ap (λ (bytes : List ℕ). page_at (take usable bytes) (header_end page)) same ∙ holds.node;
  writable = holds.writable;
}

-- an interior page on the way to a rowid, and the child to which the way leads
pub record IsUpper {P : Type 0} (g : Ghosts P) (s : P) (pages : Paging) (h low high page : ℕ) (rowid : ℤ) (children : Run) (child : ℕ) : Type 0 where
  pub holds : HoldsRun (g.used s) (sight g s pages) page children
  pub is_child : with_child (place_in children rowid) child ≡ children
  pub lower : All (λ (d : Cell). rank d.key < rank rowid) (cells_before (place_in children rowid))
  pub under : rank rowid < high_at high (place_in children rowid)
  pub placed : IsPlaceFor g s pages (suc h) low high page rowid

abbrev pub children_at : (usable : ℕ) → Paging → (page : ℕ) → Run
children_at usable pages page = run_with (node_cells usable pages page) (node_right usable pages page)

pub upper_is : {P : Type 0} (g : Ghosts P) (s : P) (pages : Paging) (h low high page : ℕ) (rowid : ℤ) (child : ℕ) → g.used s ≤ length (sight g s pages page)
    → IsStep (g.used s) (sight g s pages) page rowid (Ok (Child child)) → IsPlaceFor g s pages (suc h) low high page rowid
    → IsUpper g s pages h low high page rowid (children_at (g.used s) (sight g s pages) page) child
upper_is g s pages h low high page rowid child inside step placed =
    let u = g.used s in
    let p = sight g s pages in
    let cells = node_cells u p page in
    let right = node_right u p page in
    let lead = interior_leads u p h low high page rowid (Child child) step placed.tree in
    record {
      holds = record {
        node = placed.tree.0;
        writable = (taken_writable (p page) (header_end page) u (record { kind = TableInterior; cells = cells; right = right }) inside placed.tree.0).cells;
      };
      is_child = ap (with_child (place_of (rank rowid) cells right)) lead.1 ∙ child_there (rank rowid) cells right;
      lower = before_lower (rank rowid) cells right;
      under = high_above (rank rowid) high cells right placed.to;
      placed = placed;
    }

-- the child as a tree among others, and the pages of all in two parts
pub record HasChild {P : Type 0} (g : Ghosts P) (s : P) (pages : Paging) (h low high page : ℕ) (rowid : ℤ) (children : Run) (child : ℕ) : Type 0 where
  pub held_by : IsHeld (g.used s) (sight g s pages) h low high page children
  pub was : IsRun (g.used s) (sight g s pages) h low high (with_child (place_in children rowid) child)
  pub one : IsChild (g.used s) (sight g s pages) h low high (place_in children rowid) child
  pub same : AreSame (all_pages (g.used s) (sight g s pages) (suc h) page)
      (all_pages (g.used s) (sight g s pages) h child ++ (page ∷ pages_beside (g.used s) (sight g s pages) h (place_in children rowid)))
  pub held : AreHeld g s pages (all_pages (g.used s) (sight g s pages) h child ++ (page ∷ pages_beside (g.used s) (sight g s pages) h (place_in children rowid)))
  pub from : low_at low (place_in children rowid) ≤ rank rowid

first_beside : (n page : ℕ) (mine beside all run : List ℕ) → all ≡ page ∷ run → AreSame run (mine ++ beside) → times n all ≡ times n (mine ++ (page ∷ beside))
first_beside n page mine beside all run is same =
    let e = same n in
    ap (times n) is ∙ omega (arith, e, times-append n mine beside, times-append n mine (page ∷ beside))

pub upper_parts : {P : Type 0} (g : Ghosts P) → HaveLaws g → (s : P) (pages : Paging) (h low high page : ℕ) (rowid : ℤ) (children : Run) (child : ℕ) → 5 ≤ g.used s
    → IsUpper g s pages h low high page rowid children child → HasChild g s pages h low high page rowid children child
upper_parts g laws s pages h low high page rowid children child wide up =
    let u = g.used s in
    let p = sight g s pages in
    let pl = place_in children rowid in
    let all = all_pages u p (suc h) page in
    let mine = all_pages u p h child in
    let beside = pages_beside u p h pl in
    let held_by : IsHeld u p h low high page children = laws.held u p h low high page children wide up.holds up.placed.tree in
    let was : IsRun u p h low high (with_child pl child) = subst (IsRun u p h low high) (sym up.is_child) held_by.children in
    let one : IsChild u p h low high pl child = laws.child u p h low high pl child was in
    let same : AreSame all (mine ++ (page ∷ beside)) = λ n.
    first_beside n page mine beside all (pages_in u p h (with_child pl child)) (held_by.pages_are ∙ ap (λ (run : Run). page ∷ pages_in u p h run) (sym up.is_child)) one.pages_are in
    record {
      held_by = held_by;
      was = was;
      one = one;
      same = same;
      held = (laws.alike s s pages all all all (mine ++ (page ∷ beside)) 0 (λ n. refl) same (laws.idle s pages all up.placed.ready)).held up.placed.held;
      from = laws.above low (rank rowid) pl up.placed.from up.lower;
    }

-- the rowid's place in the child
pub child_placed : {P : Type 0} (g : Ghosts P) → HaveLaws g → (s : P) (pages : Paging) (h low high page : ℕ) (rowid : ℤ) (children : Run) (child : ℕ)
    → IsUpper g s pages h low high page rowid children child → HasChild g s pages h low high page rowid children child
    → IsPlaceFor g s pages h (low_at low (place_in children rowid)) (high_at high (place_in children rowid)) child rowid
child_placed g laws s pages h low high page rowid children child up has =
    let u = g.used s in
    let p = sight g s pages in
    let pl = place_in children rowid in
    let mine = all_pages u p h child in
    let others = page ∷ pages_beside u p h pl in
    record {
      ready = up.placed.ready;
      tree = has.one.tree;
      held = (laws.apart s pages mine others has.held).0;
      later = (let e = has.same 1 in let none = up.placed.later in omega (arith, e, none, times-append 1 mine others));
      from = has.from;
      to = up.under;
    }

-- the tree has the child's row
pub row_up : {P : Type 0} (g : Ghosts P) → HaveLaws g → (s : P) (pages : Paging) (h low high page : ℕ) (rowid : ℤ) (children : Run) (child : ℕ)
    → IsUpper g s pages h low high page rowid children child → HasChild g s pages h low high page rowid children child
    → row_at rowid (tree_rows (g.used s) (sight g s pages) (suc h) page) ≡ row_at rowid (tree_rows (g.used s) (sight g s pages) h child)
row_up g laws s pages h low high page rowid children child up has =
    let u = g.used s in
    let p = sight g s pages in
    let pl = place_in children rowid in
    ap (row_at rowid) (has.held_by.rows ∙ ap (rows_in u p h) (sym up.is_child)) ∙ laws.row u p h low high pl child rowid has.was has.from up.under

pub there_up : {P : Type 0} (g : Ghosts P) → HaveLaws g → (s e : P) (pages : Paging) (h low high page : ℕ) (rowid : ℤ) (children : Run) (child : ℕ)
    → IsUpper g s pages h low high page rowid children child → HasChild g s pages h low high page rowid children child
    → IsThere g s e pages h child rowid → IsThere g s e pages (suc h) page rowid
there_up g laws s e pages h low high page rowid children child up has there =
    let u = g.used s in
    let p = sight g s pages in
    let all = all_pages u p (suc h) page in
    let mine = all_pages u p h child in
    let others = page ∷ pages_beside u p h (place_in children rowid) in
    let back : AreSame (mine ++ others) all = λ n. sym (has.same n) in
    record {
      payload = there.payload;
      row = row_up g laws s pages h low high page rowid children child up has ∙ there.row;
      shifts = laws.alike s e pages (mine ++ others) (mine ++ others) all all 0 back back (laws.beside s e pages mine mine others 0 there.shifts);
    }

pub spares_up : {P : Type 0} (g : Ghosts P) → HaveLaws g → (s e : P) (pages : Paging) (h low high page : ℕ) (rowid : ℤ) (children : Run) (child count : ℕ)
    → HasChild g s pages h low high page rowid children child
    → Spares g s e pages (all_pages (g.used s) (sight g s pages) h child) count → Spares g s e pages (all_pages (g.used s) (sight g s pages) (suc h) page) count
spares_up g laws s e pages h low high page rowid children child count has spares =
    let u = g.used s in
    let p = sight g s pages in
    let all = all_pages u p (suc h) page in
    let mine = all_pages u p h child in
    let others = page ∷ pages_beside u p h (place_in children rowid) in
    laws.fails_alike s e pages (mine ++ others) all count (λ n. sym (has.same n)) (laws.fails_beside s e pages mine others count spares)

-- the children once the child became a run, while the page still has them as they were
pub record IsGrownBelow {P : Type 0} (g : Ghosts P) (s e : P) (pages : Paging) (h low high page : ℕ) (rowid : ℤ) (edit : Edit) (children run : Run) : Type 0 where
  pub before : IsBefore edit (row_at rowid (tree_rows (g.used s) (sight g s pages) (suc h) page))
  pub begun : IsBegun (g.used s) (sight g e pages) page children rowid run
  pub is : IsRun (g.used s) (sight g e pages) h low high (grown_in children rowid run)
  pub filled : HasCells (g.used s) (sight g s pages) (suc h) page
      → (1 ≤ length (grown_in children rowid run).cells) × AreFilledBelow (g.used s) (sight g e pages) h (grown_in children rowid run)
  pub rows : rows_in (g.used s) (sight g e pages) h (grown_in children rowid run) ≡ edited edit rowid (tree_rows (g.used s) (sight g s pages) (suc h) page)
  pub shifts : Shifts g s e pages (all_pages (g.used s) (sight g s pages) (suc h) page) (page ∷ pages_in (g.used s) (sight g e pages) h (grown_in children rowid run))
      (pages_for (g.used s) h (size_of edit))

cells_more : (place : Place) (child : ℕ) (run : Run) → length (with_child place child).cells ≤ length (with_run place run).cells
cells_more (inner before c after right) child run =
    let d : Cell = record c { left = run.right } in
    omega (arith, length-append before (record c { left = child } ∷ after), length-append before (run.cells ++ (d ∷ after)), length-append run.cells (d ∷ after))
cells_more (last before) child run = omega (arith, length-append before run.cells)

pub later_page : (page : ℕ) (all run : List ℕ) → all ≡ page ∷ run → Lacks all 1 → page ≢ 1
later_page page all run is later first =
    let none : times page (page ∷ run) ≡ 0 = subst (λ (n : ℕ). times n (page ∷ run) ≡ 0) (sym first) (sym (ap (times 1) is) ∙ later) in
    absurd (omega (arith, none, here page page run refl))

has_cell : (page : ℕ) (run : Run) → page ≢ 1 → (page ≡ 1) ⊎ (1 ≤ length run.cells) → 1 ≤ length run.cells
has_cell page run later filled = elim filled [ inl first ↦ absurd (later first) | inr some ↦ some ]

behind_first_page : (n page : ℕ) (all grown beside : List ℕ) → times n all ≡ times n (grown ++ beside) → times n (grown ++ (page ∷ beside)) ≡ times n (page ∷ all)
behind_first_page n page all grown beside e = omega (arith, e, times-append n grown beside, times-append n grown (page ∷ beside))

-- rows between two bounds are edited as all are
row_is_edited : {P : Type 0} (g : Ghosts P) → HaveLaws g → (edit : Edit) (low high : ℕ) (part part' whole whole' : List (ℤ × List ℕ)) (rowid : ℤ) → RowsBecome low high part part' whole whole'
    → low ≤ rank rowid → rank rowid < high → part' ≡ edited edit rowid part → whole' ≡ edited edit rowid whole
row_is_edited g laws (puts payload) low high part part' whole whole' rowid becomes from to is = laws.put low high part part' whole whole' rowid payload becomes from to is
row_is_edited g laws (changes payload) low high part part' whole whole' rowid becomes from to is = laws.changed low high part part' whole whole' rowid payload becomes from to is

pub child_grown : {P : Type 0} (g : Ghosts P) → HaveLaws g → (s e : P) (pages : Paging) (h low high page : ℕ) (rowid : ℤ) (edit : Edit) (children : Run) (child : ℕ) (run : Run)
    → IsUpper g s pages h low high page rowid children child → HasChild g s pages h low high page rowid children child
    → Becomes g s e pages h (low_at low (place_in children rowid)) (high_at high (place_in children rowid)) child rowid edit run
    → IsGrownBelow g s e pages h low high page rowid edit children run
child_grown g laws s e pages h low high page rowid edit children child run up has becomes =
    let u = g.used s in
    let p = sight g s pages in
    let q = sight g e pages in
    let pl = place_in children rowid in
    let mine = all_pages u p h child in
    let beside = pages_beside u p h pl in
    let count = pages_for u h (size_of edit) in
    let all = grown_in children rowid run in
    let lacks : Lacks (mine ++ (page ∷ beside)) 1 = sym (has.same 1) ∙ up.placed.later in
    let kept : AreKept p q (page ∷ beside) = others_kept g s e pages mine (page ∷ beside) count has.held lacks becomes.shifts.spares in
    let grown : RunGrows u p q h low high pl child run = laws.grows u p q h low high pl child run (record {
      was = has.was;
      grown = becomes.is;
      last = becomes.last;
      others = λ n some. kept n (omega (arith, some));
    }) in
    let later = later_page page (all_pages u p (suc h) page) (pages_in u p h children) has.held_by.pages_are up.placed.later in
    let same : q page ≡ p page = kept page (let e = here page page beside refl in omega (arith, e)) in
    record {
      before = subst (IsBefore edit) (sym (row_up g laws s pages h low high page rowid children child up has)) becomes.before;
      begun = record {
        holds = holder_kept u p q page children same up.holds;
        first = ap (with_child pl) becomes.first ∙ up.is_child;
      };
      is = grown.is;
      filled = λ filled.
          let below = has.held_by.filled filled in
          let were : AreFilledBelow u p h (with_child pl child) = subst (AreFilledBelow u p h) (sym up.is_child) below.1 in
          let some : 1 ≤ length (with_child pl child).cells = subst (λ (r : Run). 1 ≤ length r.cells) (sym up.is_child) (has_cell page children later below.0) in
          (omega (arith, some, cells_more pl child run), grown.filled were (becomes.filled (has.one.filled were)));
      rows = row_is_edited g laws edit (low_at low pl) (high_at high pl) (tree_rows u p h child) (rows_in u q h run) (rows_in u p h (with_child pl child)) (rows_in u q h all) rowid
          grown.rows has.from up.under becomes.rows
          ∙ ap (edited edit rowid) (ap (rows_in u p h) up.is_child ∙ sym has.held_by.rows);
      shifts = laws.alike s e pages (mine ++ (page ∷ beside)) (pages_in u q h run ++ (page ∷ beside)) (all_pages u p (suc h) page) (page ∷ pages_in u q h all) count
          (λ n. sym (has.same n)) (λ n. behind_first_page n page (pages_in u q h all) (pages_in u q h run) beside (grown.pages_are n))
          (laws.beside s e pages mine (pages_in u q h run) (page ∷ beside) count becomes.shifts);
    }

-- the children after the page was put, alone or in halves
pub record IsLaid {P : Type 0} (g : Ghosts P) (s e : P) (pages : Paging) (h low high : ℕ) (rowid : ℤ) (edit : Edit) (page : ℕ) (all : Run) : Type 0 where
  pub is : IsRun (g.used s) (sight g e pages) h low high all
  pub filled : HasCells (g.used s) (sight g s pages) (suc h) page → (1 ≤ length all.cells) × AreFilledBelow (g.used s) (sight g e pages) h all
  pub rows : rows_in (g.used s) (sight g e pages) h all ≡ edited edit rowid (tree_rows (g.used s) (sight g s pages) (suc h) page)

pub one_more : (links h : ℕ) → links + (3 + h) + 1 ≡ links + (3 + suc h)
one_more links h = omega arith

-- the pages of a grown tree, of which some first were put
laid_shifts : {P : Type 0} (g : Ghosts P) → HaveLaws g → (s m e : P) (pages : Paging) (h page : ℕ) (size : ℕ) (own first below all : List ℕ)
    → Shifts g s m pages own (page ∷ below) (pages_for (g.used s) h size) → Shifts g m e pages (page ∷ []) first 1 → AreSame (first ++ below) all
    → Shifts g s e pages own all (pages_for (g.used s) (suc h) size)
laid_shifts g laws s m e pages h page size own first below all down up same =
    let count = pages_for (g.used s) h size in
    let both : Shifts g s e pages own (first ++ below) (count + 1) =
    laws.both s m e pages own (page ∷ below) (first ++ below) count 1 down (laws.beside m e pages (page ∷ []) first below 1 up) in
    subst (Shifts g s e pages own all) (one_more _ h) (laws.alike s e pages own (first ++ below) own all (count + 1) (λ n. refl) same both)

-- few pages take less than the largest file, and so do few more within the limit
few_pages : (before after limit size : ℕ) → (512 ≤ size) × (limit * size ≤ 2 ^ 30) → (after ≡ before) ⊎ (after ≤ limit) → before * 512 ≤ 2 ^ 30 → after * 512 ≤ 2 ^ 30
few_pages before after limit size bounded bound few = elim bound [
  | inl same ↦ subst (λ (n : ℕ). n * 512 ≤ 2 ^ 30) (sym same) few
  | inr within ↦ (let wide = mul-le-mul_left limit bounded.0 in omega (arith, within, wide, bounded.1))
]

pub record IsTurn {P : Type 0} (g : Ghosts P) (s m e : P) (pages : Paging) (h low high page : ℕ) (rowid : ℤ) (edit : Edit) (children run : Run) : Type 0 where
  pub wide : 5 ≤ g.used s
  pub bounded : (512 ≤ g.size s) × (g.limit s * g.size s ≤ 2 ^ 30)
  pub placed : IsPlaceFor g s pages (suc h) low high page rowid
  pub later : page ≢ 1
  pub grown : IsGrownBelow g s m pages h low high page rowid edit children run

laid_is : {P : Type 0} (g : Ghosts P) → HaveLaws g → (s m e : P) (pages : Paging) (h low high page : ℕ) (rowid : ℤ) (edit : Edit) (children run : Run) (first : List ℕ)
    → IsTurn g s m e pages h low high page rowid edit children run → Shifts g m e pages (page ∷ []) first 1
    → IsLaid g s e pages h low high rowid edit page (grown_in children rowid run)
    × (pages_in (g.used s) (sight g e pages) h (grown_in children rowid run) ≡ pages_in (g.used s) (sight g m pages) h (grown_in children rowid run))
laid_is g laws s m e pages h low high page rowid edit children run first turn up =
    let u = g.used s in
    let q = sight g m pages in
    let r = sight g e pages in
    let all = grown_in children rowid run in
    let held = turn.grown.shifts.held turn.placed.held in
    let lacks = turn.grown.shifts.front turn.placed.later in
    let kept : AreKept q r (pages_in u q h all) = others_kept g m e pages (page ∷ []) (pages_in u q h all) 1 held lacks up.spares in
    let stays = laws.stays u q r h all kept in (
      record {
        is = stays.is low high turn.grown.is;
        filled = λ filled. let below = turn.grown.filled filled in (below.0, stays.filled below.1);
        rows = stays.rows ∙ turn.grown.rows;
      },
      stays.pages_are,
    )

pub becomes_whole : {P : Type 0} (g : Ghosts P) → HaveLaws g → (s m e : P) (pages : Paging) (h low high page : ℕ) (rowid : ℤ) (edit : Edit) (children run : Run)
    → IsTurn g s m e pages h low high page rowid edit children run → HoldsRun (g.used s) (sight g e pages) page (grown_in children rowid run) → Shifts g m e pages (page ∷ []) (page ∷ []) 1
    → Becomes g s e pages (suc h) low high page rowid edit (alone page)
becomes_whole g laws s m e pages h low high page rowid edit children run turn holds shifts =
    let u = g.used s in
    let r = sight g e pages in
    let all = grown_in children rowid run in
    let found = laid_is g laws s m e pages h low high page rowid edit children run (page ∷ []) turn shifts in
    let laid = found.0 in
    let holder : IsHolder u r h low high page all = laws.holder u r h low high page all turn.wide holds laid.is in
    record {
      before = turn.grown.before;
      is = holder.tree;
      last = (let from = turn.placed.from in let to = turn.placed.to in omega (arith, from, to));
      first = refl;
      filled = λ filled. let below = laid.filled filled in holder.filled (inr below.0) below.1;
      below = λ filled some few. absurd (omega (arith, some));
      rows = holder.rows ∙ laid.rows;
      shifts = laid_shifts g laws s m e pages h page (size_of edit) _ (page ∷ []) (pages_in u (sight g m pages) h all) (all_pages u r (suc h) page) turn.grown.shifts shifts
          (λ n. sym (ap (times n) (holder.pages_are ∙ ap (λ (ps : List ℕ). page ∷ ps) found.1)));
    }

pub becomes_halves : {P : Type 0} (g : Ghosts P) → HaveLaws g → (s m e : P) (pages : Paging) (h low high page : ℕ) (rowid : ℤ) (edit : Edit) (children run new : Run)
    → IsTurn g s m e pages h low high page rowid edit children run → g.used m ≡ g.used s → (x : LaysHalves g m e pages page (grown_in children rowid run) new)
    → Becomes g s e pages (suc h) low high page rowid edit (pair x.cut page x.next)
becomes_halves g laws s m e pages h low high page rowid edit children run new turn used x =
    let u = g.used s in
    let q = sight g m pages in
    let r = sight g e pages in
    let all = grown_in children rowid run in
    let found = laid_is g laws s m e pages h low high page rowid edit children run (page ∷ x.next ∷ []) turn x.shifts in
    let laid = found.0 in
    let two : ArePair u r h low high x.cut page x.next = laws.halves u r h low high x.cut page x.next turn.wide (record {
      run = subst (IsRun u r h low high) (sym x.whole_is) laid.is;
      lower = subst (λ (v : ℕ). HoldsRun v r page (low_half x.cut)) used x.low;
      higher = subst (λ (v : ℕ). HoldsRun v r x.next (high_half x.cut)) used x.high;
    }) in
    let held = turn.grown.shifts.held turn.placed.held in
    record {
      before = turn.grown.before;
      is = two.is;
      last = two.last x.some.1;
      first = refl;
      filled = λ filled. two.filled x.some.0 x.some.1 (subst (AreFilledBelow u r h) (sym x.whole_is) (laid.filled filled).1);
      below = λ filled some few.
          let low_ : h + 2 < 20 = laws.low u (number_in q) q h all (record {
            many = x.many;
            filled = (turn.grown.filled filled).1;
            single = λ n. let one = held.single n in omega (arith, one);
            within = λ n some. let is = held.used n (omega (arith, some)) in (is.low, is.high);
            few = few_pages (number_in (sight g s pages)) (number_in q) (g.limit s) (g.size s) turn.bounded turn.grown.shifts.spares.bound few;
          }) in
          omega (arith, low_);
      rows = two.rows ∙ ap (rows_in u r h) x.whole_is ∙ laid.rows;
      shifts = laid_shifts g laws s m e pages h page (size_of edit) _ (page ∷ x.next ∷ []) (pages_in u q h all) (pages_in u r (suc h) (pair x.cut page x.next)) turn.grown.shifts x.shifts
          (λ n. sym (two.pages_are n ∙ ap (λ (ps : List ℕ). times n (page ∷ x.next ∷ ps)) (ap (pages_in u r h) x.whole_is ∙ found.1)));
    }

pub becomes_laid : {P : Type 0} (g : Ghosts P) → HaveLaws g → (s m e : P) (pages : Paging) (h low high page : ℕ) (rowid : ℤ) (edit : Edit) (children run new : Run)
    → IsTurn g s m e pages h low high page rowid edit children run → LaysRun g m e pages page (grown_in children rowid run) new
    → Becomes g s e pages (suc h) low high page rowid edit new
becomes_laid g laws s m e pages h low high page rowid edit children run new turn lays =
    let used : g.used m ≡ g.used s = turn.grown.shifts.spares.sizes.used in
    ⊎_elim
    (λ (x : LaysWhole g m e pages page (grown_in children rowid run) new). subst (Becomes g s e pages (suc h) low high page rowid edit) (sym x.run_is)
    (becomes_whole g laws s m e pages h low high page rowid edit children run turn (subst (λ (v : ℕ). HoldsRun v (sight g e pages) page (grown_in children rowid run)) used x.holds) x.shifts))
    (λ (x : LaysHalves g m e pages page (grown_in children rowid run) new). subst (Becomes g s e pages (suc h) low high page rowid edit) (sym x.run_is)
    (becomes_halves g laws s m e pages h low high page rowid edit children run new turn used x))
    lays
