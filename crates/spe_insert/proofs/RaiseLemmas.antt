-- The tree of a root that got a level more.
use Rattle.std.proofs.Common.{◌≡◌, ◌≢◌, ℕ, ℤ, suc, ◌+◌, ◌<◌, ◌≤◌, ◌∙◌, List, [], ◌∷◌, ◌++◌, length, take, true, false, Option, unwrap_or, refl, sym, ap, subst, arith, inr}
use lib.Signed.{mag}
use Rattle.std.specs.Prelude.{◌==◌, IfSome, Some, pos, negsuc}
use Rattle.std.proofs.lemmas.Bool.{eqb-true, ne_eqb}
use Rattle.spe_model.specs.declared.page.Cell.{Cell}
use Rattle.spe_model.specs.Page.{page_at}
use Rattle.spe_model.specs.Paging.{Paging}
use Rattle.spe_model.specs.Served.{HasCells, IsGrown}
use Rattle.spe_model.specs.Standing.{Tree, all_pages}
use Rattle.spe_model.specs.Tree.{header_end, rank, tree_rows}
use Rattle.spe_space.specs.declared.pages.Pages.{Ghosts}
use Rattle.spe_space.specs.Calls.{sight}
use Rattle.spe_space.specs.Front.{list_in}
use Rattle.spe_frame.specs.Held.{AreHeld, IsOthers, Shifts, Spares}
use Rattle.spe_frame.specs.Laws.{HeldApart, ShiftsAlike, ShiftsBeside, ShiftsBoth, SparesAlike, SparesBeside, SparesBoth, SparesMore}
use Rattle.spe_frame.specs.Times.{AreSame, HoldsOf, Lacks, times}
use Rattle.spe_frame.proofs.TimesLemmas.{each_from_holds, each_left, here, there, times-append}
use Rattle.spe_frame.proofs.TreeLemmas.{IsKept, lower_pages}
use Rattle.spe_cut.specs.Child.{IsChild, RunGrows}
use Rattle.spe_cut.specs.Run.{AreFilledBelow, HoldsRun, IsHolder, IsRun, Place, Run, alone, high_at, low_at, pages_beside, pages_in, rows_in, with_child, with_run}
use Rattle.spe_cut.proofs.ChildLemmas.{child_becomes_run, child_of_run}
use Rattle.spe_cut.proofs.HolderLemmas.{holder_of_run}
use Rattle.spe_insert.specs.Below.{Becomes, WhereTree, first_of, pages_for}
use Rattle.spe_insert.specs.Edit.{Edit, edited, size_of}
use Rattle.spe_insert.specs.Insert.{Edited, IsOwn, marked_root, most_pages}
use Rattle.spe_insert.specs.Place.{place_at}
use Rattle.spe_insert.specs.declared.run.Run.{Run as Held}
use Rattle.spe_insert.specs.Run.{run_of}
use Rattle.spe_insert.specs.Root.{Raises, led_by}
use Rattle.spe_insert.proofs.CellLemmas.{shifts_more}
use Rattle.spe_insert.proofs.MoveLemmas.{IsMoved, moved_cells, moved_pages, moved_rows, moved_tree, pages_split}
use Rattle.spe_insert.proofs.RootLemmas.{led_long, own_low, tree_at, tree_grown, tree_is}

abbrev pub most : ℕ
most = 18446744073709551616

-- a run has its first child at its first place
led_same : (cells : List Cell) (right page : ℕ) → first_of cells right ≡ page → led_by (record { cells = cells; right = right }) page ≡ record { cells = cells; right = right }
led_same [] right page first = rw (first) refl
led_same (c ∷ cs) right page first = rw (sym first) refl

-- another first child alone in the place of the first
led_swapped : (cells : List Cell) (right next : ℕ) → with_run (place_at 0 (record { cells = cells; right = right })) (alone next) ≡ led_by (record { cells = cells; right = right }) next
led_swapped [] right next = refl
led_swapped (c ∷ cs) right next = refl

-- the bounds of the first child
led_bounds : (cells : List Cell) (right : ℕ) → low_at 0 (place_at 0 (record { cells = cells; right = right })) < high_at most (place_at 0 (record { cells = cells; right = right }))
led_bounds [] right = omega arith
led_bounds (c ∷ cs) right = omega arith

header_low : (page : ℕ) → page ≢ 1 → header_end page ≡ 0
header_low page other = rw (ne_eqb page 1 other) refl

lacked : (n : ℕ) (xs : List ℕ) → Lacks xs 1 → 0 < times n xs → n ≢ 1
lacked n xs lacks there_ e = let none = subst (λ (m : ℕ). times m xs ≡ 0) (sym e) lacks in absurd (omega (arith, none, there_))

-- the pages of the run but the root, as the first child has them
abbrev rest_of_run : (usable : ℕ) → Paging → (height root : ℕ) → Run → List ℕ
rest_of_run usable pages height root run = lower_pages usable pages height root ++ pages_beside usable pages height (place_at 0 run)

-- what stood before a root was raised
pub record IsLow {P : Type 0} (g : Ghosts P) (s m : P) (pages : Paging) (root height : ℕ) (rowid : ℤ) (edit : Edit) (run : Run) : Type 0 where
  pub wide : 480 ≤ g.used s
  pub own : IsOwn g s pages root (tree_at height root)
  pub becomes : Becomes g s m pages height 0 most root rowid edit run

module _ {P : Type 0} (g : Ghosts P) (s m : P) (pages : Paging) (root height : ℕ) (rowid : ℤ) (edit : Edit) (run : Run) (low : IsLow g s m pages root height rowid edit run) where
  abbrev u : ℕ
  u = g.used s

  abbrev before : Paging
  before = sight g m pages

  abbrev place : Place
  place = place_at 0 run

  run_is : led_by run root ≡ run
  run_is = led_same run.cells run.right root low.becomes.first

  was : IsRun u before height 0 most (with_child place root)
  was = subst (IsRun u before height 0 most) (sym run_is) low.becomes.is

  child : IsChild u before height 0 most place root
  child = child_of_run u before height 0 most place root was

  abbrev rest : List ℕ
  rest = rest_of_run u before height root run

  -- the pages of the run
  pub pages_are : AreSame (pages_in u before height run) (root ∷ rest)
  pages_are n =
      ap (λ (r : Run). times n (pages_in u before height r)) (sym run_is) ∙ child.pages_are n
      ∙ ap (λ (ps : List ℕ). times n (ps ++ pages_beside u before height place)) (pages_split u before height root)

  held : AreHeld g m pages (pages_in u before height run)
  held = low.becomes.shifts.held low.own.held

  later : Lacks (pages_in u before height run) 1
  later = low.becomes.shifts.front low.own.later

  among : (n : ℕ) → 0 < times n rest → 0 < times n (pages_in u before height run)
  among n some = let same = pages_are n in omega (arith, same, some)

  other : (n : ℕ) → 0 < times n rest → n ≢ root
  other n some e =
      let same = pages_are n in
      let first = here n root rest e in
      let one = held.single n in
      absurd (omega (arith, same, first, one, some))

  pub root_later : root ≢ 1
  root_later e =
      let same = pages_are 1 in
      let first = here 1 root rest (sym e) in
      let none = later in
      absurd (omega (arith, same, first, none))

  module _ (e : P) (some : 1 ≤ length run.cells) (raised : Raises g m e pages root run) where
    abbrev after : Paging
    after = sight g e pages

    abbrev next : ℕ
    next = raised.next

    kept : HoldsOf (IsKept before after) rest
    kept n there_ =
        let o : IsOthers g m pages (root ∷ []) n = record { used = held.used n (among n there_); lacks = there n root [] (other n there_) } in
        ap (λ (b : Option (List ℕ)). unwrap_or b (pages n)) (raised.shifts.spares.laid n o (lacked n (pages_in u before height run) later (among n there_)))

    next_later : next ≢ 1
    next_later same =
        let lacks = raised.shifts.front (there 1 root [] (λ e. root_later (sym e))) in
        let first = here 1 next [] (sym same) in
        absurd (omega (arith, lacks, first))

    moved : IsMoved u before after height root next
    moved = record {
      node = ap (λ (b : List ℕ). page_at (take u b) (header_end next)) raised.same ∙ ap (page_at (take u (before root))) (header_low next next_later ∙ sym (header_low root root_later));
      lower = each_left (IsKept before after) (lower_pages u before height root) (pages_beside u before height place) (each_from_holds (IsKept before after) rest kept);
    }

    grows : RunGrows u before after height 0 most place root (alone next)
    grows = child_becomes_run u before after height 0 most place root (alone next) (record {
      was = was;
      grown = moved_tree u before after height (low_at 0 place) (high_at most place) root next moved child.tree;
      last = led_bounds run.cells run.right;
      others = λ n there_. kept n (let both_ = times-append n (lower_pages u before height root) (pages_beside u before height place) in omega (arith, both_, there_));
    })

    swapped : with_run place (alone next) ≡ led_by run next
    swapped = led_swapped run.cells run.right next

    used : g.used m ≡ u
    used = low.becomes.shifts.spares.sizes.used

    holder : IsHolder u after height 0 most root (led_by run next)
    holder = holder_of_run u after height 0 most root (led_by run next) (let w = low.wide in omega (arith, w))
        (subst (λ (k : ℕ). HoldsRun k after root (led_by run next)) used raised.holds) (subst (IsRun u after height 0 most) swapped grows.is)

    rows_are : rows_in u after height (led_by run next) ≡ rows_in u before height run
    rows_are =
        ap (rows_in u after height) (sym swapped) ∙ grows.rows.new
        ∙ ap (λ (rs : List (ℤ × List ℕ)). grows.rows.before ++ (rs ++ grows.rows.after)) (moved_rows u before after height root next moved)
        ∙ sym grows.rows.old ∙ ap (rows_in u before height) run_is

    all_are : AreSame (root ∷ next ∷ rest) (all_pages u after (suc height) root)
    all_are n =
        let whole = ap (times n) holder.pages_are in
        let led = ap (λ (r : Run). times n (pages_in u after height r)) swapped in
        let parts = grows.pages_are n in
        let own = ap (λ (ps : List ℕ). times n (ps ++ pages_beside u before height place)) (moved_pages u before after height root next moved) in
        omega (arith, whole, led, parts, own)

    filled : HasCells u after (suc height) root
    filled =
        let cells = low.own.grown.1 in
        let were = subst (AreFilledBelow u before height) (sym run_is) (low.becomes.filled cells) in
        holder.filled (inr (let long = led_long run next in omega (arith, long, some)))
        (subst (AreFilledBelow u after height) swapped (grows.filled were (moved_cells u before after height root next root_later moved (child.filled were))))

    pub edited_raised : ShiftsBoth g → ShiftsBeside g → ShiftsAlike g → SparesMore g → Edited g s e pages root (tree_at height root) rowid edit
    edited_raised both beside alike more =
        let xs = all_pages u (sight g s pages) height root in
        let ys = pages_in u before height run in
        let zs = all_pages u after (suc height) root in
        let count = pages_for u height (size_of edit) in
        let total : Shifts g s e pages xs zs (count + 1) =
        both s m e pages xs ys zs count 1 low.becomes.shifts
        (alike m e pages (root ∷ rest) (root ∷ next ∷ rest) ys zs 1 (λ n. sym (pages_are n)) all_are (beside m e pages (root ∷ []) (root ∷ next ∷ []) rest 1 raised.shifts)) in
        let used_e : g.used e ≡ u = total.spares.sizes.used in
        let low_ = own_low g s pages root height low.own in
        let deep = low.becomes.below low.own.grown.1 some low.own.few in
        record {
          before = low.becomes.before;
          other = tree_at (suc height) root;
          sort = refl;
          grown = subst (λ (k : ℕ). IsGrown k after (marked_root root) (tree_at (suc height) root)) (sym used_e)
              (tree_grown u after (suc height) root low.wide low.own.grown.0.0 (omega (arith, deep)) holder.tree filled);
          rows = subst (λ (k : ℕ). tree_rows k after (suc height) root ≡ edited edit rowid (tree_rows u (sight g s pages) height root)) (sym used_e)
              (holder.rows ∙ rows_are ∙ low.becomes.rows);
          shifts = subst (λ (k : ℕ). Shifts g s e pages xs (all_pages k after (suc height) root) (most_pages u (size_of edit))) (sym used_e)
              (shifts_more g more s e pages xs zs (count + 1) (most_pages u (size_of edit)) (omega (arith, low_)) total);
        }

  -- a root that could not be raised
  pub raise_spares : SparesBoth g → SparesBeside g → SparesAlike g → SparesMore g → (e : P) → Spares g m e pages (root ∷ []) 1
      → Spares g s e pages (all_pages u (sight g s pages) height root) (most_pages u (size_of edit))
  raise_spares both beside alike_ more e fails =
      let xs = all_pages u (sight g s pages) height root in
      let ys = pages_in u before height run in
      let count = pages_for u height (size_of edit) in
      let low_ = own_low g s pages root height low.own in
      more s e pages xs (count + 1) (most_pages u (size_of edit)) (omega (arith, low_))
      (both s m e pages xs ys count 1 low.becomes.shifts (alike_ m e pages (root ∷ rest) ys 1 (λ n. sym (pages_are n)) (beside m e pages (root ∷ []) rest 1 fails)))

  -- the root alone is held among the pages of the run
  pub root_held : HeldApart g → AreHeld g m pages (root ∷ [])
  root_held apart =
      (apart m pages (root ∷ []) rest (record {
        single = λ n. let same = pages_are n in let one = held.single n in omega (arith, same, one);
        used = λ n some. held.used n (let same = pages_are n in omega (arith, same, some));
        unnamed = let same = pages_are (list_in (sight g m pages)) in let none = held.unnamed in omega (arith, same, none);
      })).0

-- what holds of the tree by its height and its root holds of it
pub for_tree : {P : Type 0} (g : Ghosts P) (s : P) (pages : Paging) (root : ℕ) (tree : Tree) (Q : Tree → Type 0) → IsOwn g s pages root tree
    → ((height : ℕ) → IsOwn g s pages root (tree_at height root) → Q (tree_at height root)) → Q tree
for_tree g s pages root tree Q own make =
    let same = tree_is tree root own.sort own.grown.0.1 in
    subst Q (sym same) (make tree.height (subst (IsOwn g s pages root) same own))

-- a call below the root that failed
pub low_spares : {P : Type 0} (g : Ghosts P) → SparesMore g → (s m : P) (pages : Paging) (root height : ℕ) (edit : Edit) → IsOwn g s pages root (tree_at height root)
    → Spares g s m pages (all_pages (g.used s) (sight g s pages) height root) (pages_for (g.used s) height (size_of edit))
    → Spares g s m pages (all_pages (g.used s) (sight g s pages) height root) (most_pages (g.used s) (size_of edit))
low_spares g more s m pages root height edit own fails =
    let low_ = own_low g s pages root height own in
    more s m pages (all_pages (g.used s) (sight g s pages) height root) (pages_for (g.used s) height (size_of edit)) (most_pages (g.used s) (size_of edit)) (omega (arith, low_)) fails

-- what a run has that a row was put into
abbrev pub PutWhere : {P : Type 0} (g : Ghosts P) (s m : P) (root : ℕ) (rowid : ℤ) (edit : Edit) → Held → Type 0
PutWhere g s m root rowid edit run = WhereTree g s m 20 root rowid (λ pages height low high. Becomes g s m pages height low high root rowid edit (run_of run))

pub some_of : {A : Type 0} (o : Option A) (x : A) (What : A → Type 0) → o ≡ Some x → IfSome o What → What x
some_of {A = A} o x What is all = subst (λ (p : Option A). IfSome p What) is all

-- a list that is not empty
pub some_there : {A : Type 0} (xs : List A) → (length xs == 0) ≡ false → 1 ≤ length xs
some_there [] is = absurd cc
some_there (x ∷ xs) is = omega arith

pub none_there : {A : Type 0} (xs : List A) → (length xs == 0) ≡ true → xs ≡ []
none_there [] is = refl
none_there (x ∷ xs) is = let e = eqb-true (length (x ∷ xs)) 0 is in absurd (omega (arith, e))

-- rowids are below the bound of all
pub rank_below : (rowid : ℤ) → mag rowid < 9223372036854775808 → rank rowid < most
rank_below (pos n) fits = omega (arith, fits)
rank_below (negsuc n) fits = omega (arith, fits)
