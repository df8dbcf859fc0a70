-- A run that takes the place of a child on an interior page.
use Rattle.std.proofs.Common.{◌≡◌, ◌⊎◌, ℕ, ℤ, ◌+◌, ◌≤◌, ◌∙◌, true, Result, Err, List, [], ◌∷◌, length, take, refl, sym, ap, subst, arith, Ok, inl, inr, ⊎_elim}
use Rattle.std.proofs.lemmas.List.{append-nil}
use Rattle.spe_model.specs.declared.page.Cell.{Cell}
use Rattle.spe_model.specs.declared.page.Kind.TheVariants.{TableInterior}
use Rattle.spe_model.specs.Kind.{is_leaf}
use Rattle.spe_model.specs.Page.{ascends, page_at}
use Rattle.spe_model.specs.Paging.{Paging}
use Rattle.spe_model.specs.Tree.{cells_in, child_for, header_end, rank, right_in}
use Rattle.spe_space.specs.declared.pages.Pages.{Ghosts}
use Rattle.spe_space.specs.Calls.{RefusesTree, sight}
use Rattle.spe_space.specs.declared.fault.SpaceFault.TheVariants.{Memory}
use Rattle.spe_space.specs.declared.fault.TreeFault.{TreeFault}
use Rattle.spe_space.specs.declared.fault.TreeFault.TheVariants.{Corrupt, Space}
use Rattle.spe_format.specs.Canonical.{AreWritable, IsWritable}
use Rattle.spe_frame.specs.Held.{IsReady, Shifts}
use Rattle.spe_frame.specs.Laws.{ShiftsBoth, ShiftsNone, SparesMore}
use Rattle.spe_cut.specs.Parts.{RunIsWritable, RunTakesRoom, need, room, run_cells}
use Rattle.spe_cut.specs.Run.{HoldsRun, Place, Run, alone, inner, last, with_child, with_run}
use Rattle.spe_cut.specs.Split.{high_half, low_half}
use Rattle.spe_insert.specs.Below.{first_child, first_of}
use Rattle.spe_insert.specs.Interior.{LaysHalves, LaysRun, LaysWhole}
use Rattle.spe_insert.specs.Step.{IsBegun, grown_in, place_in}
use Rattle.spe_insert.proofs.CellLemmas.{shifts_more}
use Rattle.spe_insert.proofs.PutBelowLemmas.{child_there}

abbrev run_with : List Cell → ℕ → Run
run_with cells right = record { cells = cells; right = right }

-- one child alone in the place of one
one_there : (place : Place) (child : ℕ) → with_run place (alone child) ≡ with_child place child
one_there (inner before c after right) child = refl
one_there (last before) child = ap (λ (cs : List Cell). run_with cs child) (append-nil before)

alone_is : (run : Run) → run.cells ≡ [] → run ≡ alone (first_child run)
alone_is run none = ap (λ (cs : List Cell). run_with cs run.right) none ∙ ap (λ (cs : List Cell). alone (first_of cs run.right)) (sym none)

-- a run of one child that is there leaves the page as it is
pub one_laid : {P : Type 0} (g : Ghosts P) → ShiftsNone g → SparesMore g → (s : P) (pages : Paging) (page : ℕ) (children : Run) (rowid : ℤ) (run : Run) → run.cells ≡ [] → IsReady g s pages
    → IsBegun (g.used s) (sight g s pages) page children rowid run → LaysRun g s s pages page (grown_in children rowid run) (alone page)
one_laid g idle more s pages page children rowid run none ready begun =
    let pl = place_in children rowid in
    let same : grown_in children rowid run ≡ children = ap (with_run pl) (alone_is run none) ∙ one_there pl (first_child run) ∙ begun.first in
    inl (record {
      run_is = refl;
      holds = subst (HoldsRun (g.used s) (sight g s pages) page) (sym same) begun.holds;
      shifts = shifts_more g more s s pages (page ∷ []) (page ∷ []) 0 1 (omega arith) (idle s pages (page ∷ []) ready);
    })

-- the children that a page was read with are those that it holds
pub children_same : (bytes : List ℕ) (at : ℕ) (a b : Run) → page_at bytes at ≡ Ok (run_cells a) → page_at bytes at ≡ Ok (run_cells b) → a ≡ b
children_same bytes at a b first second = ap (λ r. run_with (cells_in r) (right_in r)) (sym first ∙ second)

-- what is put after the page was got
pub lays_later : {P : Type 0} (g : Ghosts P) → ShiftsBoth g → (s a e : P) (pages : Paging) (page : ℕ) (children run : Run)
    → Shifts g s a pages (page ∷ []) (page ∷ []) 0 → LaysRun g a e pages page children run → LaysRun g s e pages page children run
lays_later g both s a e pages page children run first lays =
    let used : g.used a ≡ g.used s = first.spares.sizes.used in
    let r = sight g e pages in
    ⊎_elim
    (λ (x : LaysWhole g a e pages page children run). inl (record {
      run_is = x.run_is;
      holds = subst (λ (u : ℕ). HoldsRun u r page children) used x.holds;
      shifts = both s a e pages (page ∷ []) (page ∷ []) (page ∷ []) 0 1 first x.shifts;
    }))
    (λ (x : LaysHalves g a e pages page children run). inr (record {
      next = x.next;
      cut = x.cut;
      whole_is = x.whole_is;
      run_is = x.run_is;
      low = subst (λ (u : ℕ). HoldsRun u r page (low_half x.cut)) used x.low;
      high = subst (λ (u : ℕ). HoldsRun u r x.next (high_half x.cut)) used x.high;
      some = x.some;
      many = x.many;
      shifts = both s a e pages (page ∷ []) (page ∷ []) (page ∷ x.next ∷ []) 0 1 first x.shifts;
    }))
    lays

-- the run in its place among the children that were read
pub run_is : (usable u : ℕ) (pages : Paging) (page : ℕ) (bytes : List ℕ) (got children : Run) (z rowid : ℤ) (run all : Run) → u ≡ usable → bytes ≡ pages page → z ≡ rowid
    → page_at (take u bytes) (header_end page) ≡ Ok (run_cells got) → HoldsRun usable pages page children → all ≡ grown_in got z run → all ≡ grown_in children rowid run
run_is usable u pages page bytes got children z rowid run all same_usable same_bytes same legal holds is =
    let there : page_at (take usable (pages page)) (header_end page) ≡ Ok (run_cells got) =
    subst (λ (b : List ℕ). page_at (take usable b) (header_end page) ≡ Ok (run_cells got)) same_bytes
    (subst (λ (v : ℕ). page_at (take v bytes) (header_end page) ≡ Ok (run_cells got)) same_usable legal) in
    is ∙ ap (λ (k : ℤ). grown_in got k run) same ∙ ap (λ (r : Run). grown_in r rowid run) (children_same (take usable (pages page)) (header_end page) got children there holds.node)

-- the run in its place can be written, and takes little more room
pub grown_writable : RunIsWritable → (usable : ℕ) (children run all : Run) (rowid : ℤ) → all ≡ grown_in children rowid run → AreWritable TableInterior usable children.cells
    → AreWritable TableInterior usable run.cells → ascends all.cells ≡ true → IsWritable (run_cells all) usable
grown_writable writable usable children run all rowid is are run_are order = record {
  cells = subst (λ (r : Run). AreWritable TableInterior usable r.cells) (sym is)
      (writable usable (place_in children rowid) (child_for (rank rowid) children.cells children.right) run run_are
      (subst (λ (r : Run). AreWritable TableInterior usable r.cells) (sym (child_there (rank rowid) children.cells children.right)) are));
  right = λ leaf. absurd (no_leaf_kind leaf);
  ascends = λ table. order;
}
  where
    no_leaf_kind : is_leaf TableInterior ≡ true → ⊥
    no_leaf_kind e = cc

pub grown_few : RunTakesRoom → (usable : ℕ) (children run all : Run) (rowid : ℤ) → all ≡ grown_in children rowid run → AreWritable TableInterior usable children.cells
    → AreWritable TableInterior usable run.cells → length run.cells ≤ 2 → need TableInterior children.cells ≤ room TableInterior 0 usable
    → need TableInterior all.cells ≤ room TableInterior 0 usable + 30
grown_few takes usable children run all rowid is are run_are few within =
    let there = child_there (rank rowid) children.cells children.right in
    let more = takes usable (place_in children rowid) (child_for (rank rowid) children.cells children.right) run run_are
    (subst (λ (r : Run). AreWritable TableInterior usable r.cells) (sym there) are) in
    let same = ap (λ (r : Run). need TableInterior r.cells) there in
    let all_is = ap (λ (r : Run). need TableInterior r.cells) is in
    omega (arith, more, same, all_is, few, within)

abbrev failed : {X : Type 0} → TreeFault → Result X TreeFault
failed fault = Err fault

-- a fault of the page's own, or want of memory, is none of the space's
pub refused_by_page : (X : Type 0) {P : Type 0} (g : Ghosts P) (s a : P) (page : ℕ) (fault : TreeFault) → (fault ≡ Space Memory) ⊎ (fault ≡ Corrupt page) → g.refusal a ≡ g.refusal s
    → RefusesTree g s a (failed {X = X} fault)
refused_by_page X g s a page fault only same = elim only [
  | inl memory ↦ rw memory same
  | inr corrupt ↦ rw corrupt same
]
