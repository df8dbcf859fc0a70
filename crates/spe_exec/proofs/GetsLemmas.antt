-- Served pages after gets: they are served as before, and a table's tree stands alone as before.
use Rattle.std.proofs.Common.{◌≡◌, inl, inr, ℕ, zero, suc, ℤ, ◌+◌, ◌<◌, List, [], ◌∷◌, Err, All, refl, sym, ap, subst, arith}
use Rattle.std.specs.List.{Contains}
use Rattle.spe_model.specs.declared.catalog.Entry.{Entry}
use Rattle.spe_model.specs.Database.{Database}
use Rattle.spe_model.specs.Justified.{Opening}
use Rattle.spe_model.specs.Paging.{Agrees, Paging}
use Rattle.spe_model.specs.Standing.{Tree, all_pages, pages_of_tree}
use Rattle.spe_model.specs.Tree.{IsTableTree, rank}
use Rattle.spe_space.specs.declared.fault.TreeFault.{TreeFault}
use Rattle.spe_space.specs.declared.fault.TreeFault.TheVariants.{Space, Corrupt}
use Rattle.spe_space.specs.declared.fault.SpaceFault.{SpaceFault}
use Rattle.spe_space.specs.declared.fault.SpaceFault.TheVariants.{Busy, Read, Stopped, Full, PageOut, Corrupt as Spoilt, Memory}
use Rattle.spe_space.specs.declared.pages.Pages.{Ghosts}
use Rattle.spe_space.specs.Calls.{Reads, reads_both, sight}
use Rattle.spe_space.specs.Found.{Answers, OnMissing, missing_weaker}
use Rattle.spe_space.specs.Front.{number_in}
use Rattle.spe_space.specs.Outcome.{IsInside, IsSure, OnCorrupt, OnPageOut}
use Rattle.spe_frame.specs.Held.{AreHeld, IsReady, Shifts, Spares}
use Rattle.spe_frame.specs.Laws.{ReadsShift, ShiftsBoth, SparesBoth, SparesMore}
use Rattle.spe_frame.specs.Times.{Lacks, times}
use Rattle.spe_frame.proofs.TimesLemmas.{all_from_holds, here}
use Rattle.spe_search.specs.Last.{AddsOfLast}
use Rattle.spe_search.specs.Range.{AddsOfRange}
use Rattle.spe_search.proofs.InsideLemmas.{between_inside, touched_inside}
use Rattle.spe_served.specs.Change.{IsServed, TableAlone}
use Rattle.spe_insert.specs.Insert.{most_pages}
use Rattle.spe_write.specs.Chain.{IsSureOfTree}
use Rattle.spe_modify.specs.Row.{IsOpen, SparesOthers, TableOf}
use Rattle.spe_modify.proofs.ServedLemmas.{served_still, table_tree}
use Rattle.spe_exec.specs.Inserts.{IsSound}

pub ready_read : {P : Type 0} (g : Ghosts P) (s new : P) (pages : Paging) → Agrees pages (g.seen new) → Reads g s new → IsReady g s pages → IsReady g new pages
ready_read g s new pages agrees reads ready = record {
  stands = reads.stands pages agrees ready.stands;
  long = rw reads.laid ready.long;
  named = rw reads.laid ready.named;
  taken = rw (reads.free, reads.laid) ready.taken;
}

pub served_read : {P : Type 0} (g : Ghosts P) (opening : Opening) (s new : P) (pages : Paging) (db : Database) → Agrees pages (g.seen new) → Reads g s new → IsServed g opening s pages db
    → IsServed g opening new pages db
served_read g opening s new pages db agrees reads served = served_still g opening s new pages db reads (ready_read g s new pages agrees reads served.ready) served

pub open_read : {P : Type 0} (g : Ghosts P) (s new : P) (pages : Paging) (root : ℕ) (t : TableOf) → Agrees pages (g.seen new) → Reads g s new → IsOpen g s pages root t → IsOpen g new pages root t
open_read g s new pages root t agrees reads is = record {
  lists = is.lists;
  served = served_read g t.opening s new pages t.db agrees reads is.served;
  named = is.named;
  free = is.free;
  root_is = is.root_is;
  found = is.found;
}

abbrev pub own_pages : {P : Type 0} (g : Ghosts P) (s : P) → Paging → Tree → List ℕ
own_pages g s pages tree = pages_of_tree (g.used s) (sight g s pages) tree

pub same_own : {P : Type 0} (g : Ghosts P) (s new : P) (pages : Paging) (tree : Tree) → Reads g s new → own_pages g s pages tree ≡ own_pages g new pages tree
same_own g s new pages tree reads = rw (reads.used, reads.laid) refl

pub held_read : {P : Type 0} (g : Ghosts P) (s new : P) (pages : Paging) (own : List ℕ) → Reads g s new → AreHeld g s pages own → AreHeld g new pages own
held_read g s new pages own reads held = record {
  single = held.single;
  used = λ n has. let is = held.used n has in record { low = is.low; high = rw reads.laid is.high; taken = rw reads.free is.taken };
  unnamed = rw reads.laid held.unnamed;
}

-- the tree stands alone as before
abbrev pub alone_read : {P : Type 0} (g : Ghosts P) (opening : Opening) (s new : P) (pages : Paging) (db : Database) (name : List ℕ) (entry : Entry) (alone : TableAlone g opening s pages db name entry)
    → ShiftsBoth g → Reads g s new → Shifts g s new pages (own_pages g s pages alone.tree) (own_pages g s pages alone.tree) 0 → TableAlone g opening new pages db name entry
alone_read g opening s new pages db name entry alone both reads gets =
    let same = same_own g s new pages alone.tree reads in
    record {
      tree = alone.tree;
      rows = alone.rows;
      has = record { sort = alone.has.sort; grown = rw (reads.used, reads.laid) alone.has.grown; rows_are = rw (reads.used, reads.laid) alone.has.rows_are };
      named = alone.named;
      held = subst (AreHeld g new pages) same (held_read g s new pages (own_pages g s pages alone.tree) reads alone.held);
      later = subst (λ (xs : List ℕ). Lacks xs 1) same alone.later;
      again = λ end other allocs others shifts has.
          let none : 0 + allocs ≡ allocs = omega arith in
          alone.again end other allocs others
          (subst (λ (n : ℕ). Shifts g s end pages (own_pages g s pages alone.tree) (own_pages g end pages other) n) none
          (both s new end pages (own_pages g s pages alone.tree) (own_pages g s pages alone.tree) (own_pages g end pages other) 0 allocs gets
          (subst (λ (xs : List ℕ). Shifts g new end pages xs (own_pages g end pages other) allocs) (sym same) shifts))) has;
    }

-- what a call after gets spares, the gets spare with it
pub spares_after : {P : Type 0} (g : Ghosts P) (s mid new : P) (pages : Paging) (t : TableOf) (size : ℕ) → ShiftsBoth g → SparesBoth g → Reads g s mid
    → ((alone : TableAlone g t.opening s pages t.db t.name t.entry) → Shifts g s mid pages (own_pages g s pages alone.tree) (own_pages g s pages alone.tree) 0)
    → SparesOthers g mid new pages t size → SparesOthers g s new pages t size
spares_after g s mid new pages t size both spares reads gets given alone =
    let own = own_pages g s pages alone.tree in
    let later = alone_read g t.opening s mid pages t.db t.name t.entry alone both reads (gets alone) in
    let same = same_own g s mid pages alone.tree reads in
    let most : most_pages (g.used mid) size ≡ most_pages (g.used s) size = ap (λ (u : ℕ). most_pages u size) reads.used in
    let none : 0 + most_pages (g.used s) size ≡ most_pages (g.used s) size = omega arith in
    subst (λ (n : ℕ). Spares g s new pages own n) none
    (spares s mid new pages own own 0 (most_pages (g.used s) size) (gets alone)
    (subst (λ (n : ℕ). Spares g mid new pages own n) most (subst (λ (xs : List ℕ). Spares g mid new pages xs (most_pages (g.used mid) size)) (sym same) (given later))))

-- gets alone spare all
pub spares_read : {P : Type 0} (g : Ghosts P) (s new : P) (pages : Paging) (t : TableOf) (size : ℕ) → SparesMore g
    → ((alone : TableAlone g t.opening s pages t.db t.name t.entry) → Shifts g s new pages (own_pages g s pages alone.tree) (own_pages g s pages alone.tree) 0)
    → SparesOthers g s new pages t size
spares_read g s new pages t size more gets alone =
    more s new pages (own_pages g s pages alone.tree) 0 (most_pages (g.used s) size) (omega arith) (gets alone).spares

-- the tree under the root of an entry
pub tree_there : {P : Type 0} (g : Ghosts P) (opening : Opening) (s : P) (pages : Paging) (db : Database) (name : List ℕ) (entry : Entry) (alone : TableAlone g opening s pages db name entry)
    → IsTableTree (g.used s) (sight g s pages) alone.tree.height entry.root
tree_there g opening s pages db name entry alone =
    subst (λ (n : ℕ). IsTableTree (g.used s) (sight g s pages) alone.tree.height n) alone.has.grown.0.1
    (table_tree (g.used s) (sight g s pages) alone.tree alone.has.sort alone.has.grown.0.3)

-- each page of a list is one of its pages
own_all : (own : List ℕ) → All (λ n. 0 < times n own) own
own_all own = all_from_holds (λ n. 0 < times n own) own (λ n has. has)

pub tree_all : {P : Type 0} (g : Ghosts P) (opening : Opening) (s : P) (pages : Paging) (db : Database) (name : List ℕ) (entry : Entry) (alone : TableAlone g opening s pages db name entry)
    → All (λ n. 0 < times n (own_pages g s pages alone.tree)) (all_pages (g.used s) (sight g s pages) alone.tree.height entry.root)
tree_all g opening s pages db name entry alone =
    let own = own_pages g s pages alone.tree in
    subst (λ (n : ℕ). All (λ m. 0 < times m own) (all_pages (g.used s) (sight g s pages) alone.tree.height n)) alone.has.grown.0.1 (own_all own)

-- a page of the tree is one that there is
pub inside_tree : {P : Type 0} (g : Ghosts P) (opening : Opening) (s : P) (pages : Paging) (db : Database) (name : List ℕ) (entry : Entry) (alone : TableAlone g opening s pages db name entry)
    → (n : ℕ) → 0 < times n (own_pages g s pages alone.tree) → IsInside (number_in (sight g s pages)) n
inside_tree g opening s pages db name entry alone n has = let is = alone.held.used n has in (is.low, is.high)

-- a sure fault of the space calls no page corrupt at all
sure_page : {P : Type 0} (g : Ghosts P) (old new : P) (number : ℕ) (f : SpaceFault) → IsSure number f → IsSound g old new number (Space f)
sure_page g old new number (Busy page word) is = (tt, tt)
sure_page g old new number Read is = (tt, tt)
sure_page g old new number (Stopped op) is = (tt, tt)
sure_page g old new number (Full pages) is = (tt, tt)
sure_page g old new number (PageOut page pages) is = (is, tt)
sure_page g old new number (Spoilt page) is = absurd is
sure_page g old new number Memory is = (tt, tt)

pub sure_fault : {P : Type 0} (g : Ghosts P) (old new : P) (number : ℕ) (fault : TreeFault) → IsSureOfTree number fault → IsSound g old new number fault
sure_fault g old new number (Space f) is = sure_page g old new number f is
sure_fault g old new number (Corrupt page) is = is

-- after gets alone nothing was put
nothing_put : {P : Type 0} (g : Ghosts P) (old new : P) (f : SpaceFault) → Reads g old new → OnCorrupt (Reads g old new) f
nothing_put g old new (Busy page word) reads = tt
nothing_put g old new Read reads = tt
nothing_put g old new (Stopped op) reads = tt
nothing_put g old new (Full pages) reads = tt
nothing_put g old new (PageOut page pages) reads = tt
nothing_put g old new (Spoilt page) reads = reads
nothing_put g old new Memory reads = tt

pub sound_read : {P : Type 0} (g : Ghosts P) (old new : P) (number : ℕ) (f : SpaceFault) → Reads g old new → OnPageOut (IsInside number) f → IsSound g old new number (Space f)
sound_read g old new number f reads within = (within, nothing_put g old new f reads)

-- a sound fault of a call is a sound one of that call after gets
pub sound_after : {P : Type 0} (g : Ghosts P) (s mid new : P) (number : ℕ) (fault : TreeFault) → Reads g s mid → IsSound g mid new number fault → IsSound g s new number fault
sound_after g s mid new number (Space (Busy page word)) reads is = is
sound_after g s mid new number (Space Read) reads is = is
sound_after g s mid new number (Space (Stopped op)) reads is = is
sound_after g s mid new number (Space (Full pages)) reads is = is
sound_after g s mid new number (Space (PageOut page pages)) reads is = is
sound_after g s mid new number (Space (Spoilt page)) reads is = (is.0, reads_both g s mid new reads is.1)
sound_after g s mid new number (Space Memory) reads is = is
sound_after g s mid new number (Corrupt page) reads is = is

-- what is found in a list is there at least once
pub contains_times : (xs : List ℕ) (n : ℕ) → Contains xs n → 0 < times n xs
contains_times [] n (k, lt, is) = absurd (omega (arith, lt))
contains_times (x ∷ xs) n (zero, lt, is) = let one = here n x xs (sym is) in omega (arith, one)
contains_times (x ∷ xs) n (suc k, lt, is) = let rest = contains_times xs n (k, omega (arith, lt), is) in omega (arith, rest)

-- the gets of a search for the last row are of the tree
pub last_gets : {P : Type 0} (g : Ghosts P) (opening : Opening) (s new : P) (pages : Paging) (db : Database) (name : List ℕ) (entry : Entry) → ReadsShift g → Agrees pages (g.seen new)
    → IsReady g s pages → Reads g s new → AddsOfLast g s new entry.root → (alone : TableAlone g opening s pages db name entry)
    → Shifts g s new pages (own_pages g s pages alone.tree) (own_pages g s pages alone.tree) 0
last_gets g opening s new pages db name entry law agrees ready reads adds alone =
    let tree = tree_there g opening s pages db name entry alone in
    law s new pages (own_pages g s pages alone.tree) agrees ready reads (λ n. elim (adds pages agrees alone.tree.height tree n) [
      | inl same ↦ inl same
      | inr page ↦ inr (touched_inside (λ m. 0 < times m (own_pages g s pages alone.tree)) (g.used s) (sight g s pages) _ 18446744073709551616 alone.tree.height 0 18446744073709551616 entry.root n tree.1
          (tree_all g opening s pages db name entry alone) page)
    ])

-- and so are those of a search for a rowid
pub find_gets : {P : Type 0} (g : Ghosts P) (opening : Opening) (s new : P) (pages : Paging) (db : Database) (name : List ℕ) (entry : Entry) (rowid : ℤ) → ReadsShift g → Agrees pages (g.seen new)
    → IsReady g s pages → Reads g s new → AddsOfRange g s new entry.root (rank rowid) (rank rowid) → (alone : TableAlone g opening s pages db name entry)
    → Shifts g s new pages (own_pages g s pages alone.tree) (own_pages g s pages alone.tree) 0
find_gets g opening s new pages db name entry rowid law agrees ready reads adds alone =
    let tree = tree_there g opening s pages db name entry alone in
    let all = tree_all g opening s pages db name entry alone in
    law s new pages (own_pages g s pages alone.tree) agrees ready reads (λ n. elim (adds pages agrees alone.tree.height 0 18446744073709551616 tree.1 n) [
      | inl same ↦ inl same
      | inr page ↦ inr (elim page [
        | inl own ↦ touched_inside (λ m. 0 < times m (own_pages g s pages alone.tree)) (g.used s) (sight g s pages) (rank rowid) (rank rowid) alone.tree.height 0 18446744073709551616 entry.root n tree.1 all own
        | inr over ↦ between_inside (λ m. 0 < times m (own_pages g s pages alone.tree)) (g.used s) (sight g s pages) (rank rowid) (rank rowid) alone.tree.height 0 18446744073709551616 entry.root n tree.1 all over
      ])
    ])

sound_fault : {P Y : Type 0} (g : Ghosts P) (old new : P) (number : ℕ) (all : List ℕ) (there : Y) (fault : TreeFault) → Reads g old new → Answers (λ (y : Y). y) there (Err fault)
    → OnMissing (Contains all) fault → ((n : ℕ) → Contains all n → IsInside number n) → IsSound g old new number fault
sound_fault g old new number all there (Space f) reads answers missing within =
    sound_read g old new number f reads (missing_weaker (Contains all) (IsInside number) (Space f) within missing)
sound_fault g old new number all there (Corrupt page) reads answers missing within = answers

-- a fault of such a search is a sound one
pub sound_gets : {P Y : Type 0} (g : Ghosts P) (opening : Opening) (s new : P) (pages : Paging) (db : Database) (name : List ℕ) (entry : Entry) (there : Y) (fault : TreeFault) → Reads g s new
    → (alone : TableAlone g opening s pages db name entry) → Answers (λ (y : Y). y) there (Err fault)
    → OnMissing (Contains (all_pages (g.used s) (sight g s pages) alone.tree.height entry.root)) fault
    → IsSound g s new (number_in (sight g new pages)) fault
sound_gets g opening s new pages db name entry there fault reads alone answers missing =
    let all = all_pages (g.used s) (sight g s pages) alone.tree.height entry.root in
    let within : (n : ℕ) → Contains all n → IsInside (number_in (sight g s pages)) n = λ n has.
    inside_tree g opening s pages db name entry alone n
    (subst (λ (r : ℕ). 0 < times n (all_pages (g.used s) (sight g s pages) alone.tree.height r)) (sym alone.has.grown.0.1) (contains_times all n has)) in
    let same : number_in (sight g s pages) ≡ number_in (sight g new pages) = rw reads.laid refl in
    subst (λ (number : ℕ). IsSound g s new number fault) same (sound_fault g s new (number_in (sight g s pages)) all there fault reads answers missing within)
