-- Two interior neighbours that become one page.
use Rattle.std.proofs.Common.{◌≡◌, ◌≢◌, ℕ, suc, ℤ, ◌+◌, ◌≤◌, ◌∙◌, List, [], ◌∷◌, ◌++◌, Ok, true, length, refl, sym, ap, subst, arith, inr}
use Rattle.std.proofs.lemmas.List.{length-append}
use Rattle.spe_model.specs.declared.page.Cell.{Cell}
use Rattle.spe_model.specs.declared.page.Kind.TheVariants.{TableInterior}
use Rattle.spe_model.specs.declared.page.PageCells.{PageCells}
use Rattle.spe_model.specs.Page.{ascends}
use Rattle.spe_model.specs.Paging.{PageMap, Paging, lay}
use Rattle.spe_model.specs.Standing.{all_pages}
use Rattle.spe_model.specs.Tree.{IsTree, cells_in, header_end, node_at, rank, right_in}
use Rattle.spe_space.specs.declared.pages.Pages.{Ghosts}
use Rattle.spe_space.specs.Calls.{sight}
use Rattle.spe_format.specs.Canonical.{AreWritable, IsWritable, IsWritableCell}
use Rattle.spe_format.proofs.WritableLemmas.{taken_writable}
use Rattle.spe_frame.specs.Held.{AreHeld, IsReady, Shifts, Spares}
use Rattle.spe_frame.specs.Times.{AreSame, Lacks}
use Rattle.spe_frame.proofs.TimesLemmas.{here, times-append}
use Rattle.spe_frame.proofs.TreeLemmas.{lower_pages}
use Rattle.spe_cut.specs.Joined.{IsWhole, PairIsWhole}
use Rattle.spe_cut.specs.Parts.{SeparatorIsWritable, run_cells}
use Rattle.spe_cut.specs.Run.{AreKept, HoldsRun, IsHolder, Run, RunStays, pages_in, separator}
use Rattle.spe_cut.proofs.HolderLemmas.{Reading}
use Rattle.spe_insert.specs.Laws.{HaveLaws}
use Rattle.spe_insert.proofs.PutBelowLemmas.{others_kept}
use Rattle.spe_delete.specs.Join.{ArePair, Joins, two_pages}
use Rattle.spe_delete.specs.JoinCells.{cut_of, joined_of}
use Rattle.spe_delete.specs.Merge.{Merges}
use Rattle.spe_delete.proofs.LeafEndLemmas.{children_at}

abbrev run_in : Reading → Run
run_in r = record { cells = cells_in r; right = right_in r }

-- cells on both sides of one that can be written
cells_both : (usable : ℕ) (before : List Cell) (c : Cell) (after : List Cell) → AreWritable TableInterior usable before → IsWritableCell TableInterior usable c
    → AreWritable TableInterior usable after → AreWritable TableInterior usable (before ++ (c ∷ after))
cells_both usable [] c after are one rest = (one, rest)
cells_both usable (d ∷ ds) c after are one rest = (are.0, cells_both usable ds c after are.1 one rest)

pub joined_form : SeparatorIsWritable → (usable : ℕ) (first : Run) (key : ℤ) (second all : Run) → all ≡ joined_of first key second → AreWritable TableInterior usable first.cells
    → AreWritable TableInterior usable second.cells → ascends all.cells ≡ true → IsWritable (run_cells all) usable
joined_form one usable first key second all is lower higher order = record {
  cells = subst (λ (r : Run). AreWritable TableInterior usable r.cells) (sym is) (cells_both usable first.cells (separator key first.right) second.cells lower (one usable key first.right).0 higher);
  right = λ e. absurd cc;
  ascends = λ _. order;
}

-- the children as both pages were read
pub children_are : (usable : ℕ) (pages : Paging) (first second : ℕ) (z key : ℤ) (lower higher : Run) → z ≡ key → node_at usable pages first ≡ Ok (run_cells lower)
    → node_at usable pages second ≡ Ok (run_cells higher) → joined_of lower z higher ≡ joined_of (children_at usable pages first) key (children_at usable pages second)
children_are usable pages first second z key lower higher same one two =
    ap (λ (k : ℤ). joined_of lower k higher) same
    ∙ ap (λ (r : Reading). joined_of (run_in r) key higher) (sym one)
    ∙ ap (λ (r : Reading). joined_of (children_at usable pages first) key (run_in r)) (sym two)

-- a get of one of some pages
pub page_seen : {P : Type 0} (g : Ghosts P) → HaveLaws g → (s a : P) (pages : Paging) (own : List ℕ) (page : ℕ) (rest : List ℕ) → AreSame own (page ∷ rest) → IsReady g s pages
    → AreHeld g s pages own → (IsReady g s pages → AreHeld g s pages (page ∷ []) → Shifts g s a pages (page ∷ []) (page ∷ []) 0) → Shifts g s a pages own own 0
page_seen g laws s a pages own page rest same ready held seen =
    let ordered = laws.alike s s pages own own own (page ∷ rest) 0 (λ n. refl) same (laws.idle s pages own ready) in
    let one = (laws.apart s pages (page ∷ []) rest (ordered.held held)).0 in
    laws.alike s a pages (page ∷ rest) (page ∷ rest) own own 0 (λ n. sym (same n)) (λ n. sym (same n)) (laws.beside s a pages (page ∷ []) (page ∷ []) rest 0 (seen ready one))

pub one_held : {P : Type 0} (g : Ghosts P) → HaveLaws g → (s : P) (pages : Paging) (own : List ℕ) (page : ℕ) (rest : List ℕ) → AreSame own (page ∷ rest) → IsReady g s pages
    → AreHeld g s pages own → AreHeld g s pages (page ∷ [])
one_held g laws s pages own page rest same ready held =
    (laws.apart s pages (page ∷ []) rest ((laws.alike s s pages own own own (page ∷ rest) 0 (λ n. refl) same (laws.idle s pages own ready)).held held)).0

-- both pages among those of their trees
pub second_among : (usable : ℕ) (pages : Paging) (height : ℕ) (key : ℤ) (first second : ℕ)
    → AreSame (pages_in usable pages (suc height) (two_pages key first second)) (second ∷ (all_pages usable pages (suc height) first ++ lower_pages usable pages (suc height) second))
second_among usable pages height key first second n =
    let a = all_pages usable pages (suc height) first in
    let b = lower_pages usable pages (suc height) second in
    omega (arith, times-append n a (second ∷ b), times-append n a b)

pub first_among : (usable : ℕ) (pages : Paging) (height : ℕ) (key : ℤ) (first second : ℕ)
    → AreSame (pages_in usable pages (suc height) (two_pages key first second)) (first ∷ (lower_pages usable pages (suc height) first ++ all_pages usable pages (suc height) second))
first_among usable pages height key first second n = refl

-- two interior neighbours after both were got
pub record IsPairSeen {P : Type 0} (g : Ghosts P) (s b : P) (pages : Paging) (height low high : ℕ) (key : ℤ) (first second : ℕ) : Type 0 where
  pub pair : ArePair g s pages height low high key first second
  pub used : g.used b ≡ g.used s
  pub laid : g.laid b ≡ g.laid s
  pub seen : Shifts g s b pages (pages_in (g.used s) (sight g s pages) (suc height) (two_pages key first second))
      (pages_in (g.used s) (sight g s pages) (suc height) (two_pages key first second)) 0
  pub inside_first : g.used s ≤ length (sight g s pages first)
  pub inside_second : g.used s ≤ length (sight g s pages second)
  pub wide : 480 ≤ g.used s

module _ {P : Type 0} (g : Ghosts P) (laws : HaveLaws g) (join : PairIsWhole) (s b : P) (pages : Paging) (height low high : ℕ) (key : ℤ) (first second : ℕ)
    (x : IsPairSeen g s b pages height low high key first second) where
  abbrev u : ℕ
  u = g.used s

  abbrev was : Paging
  was = sight g s pages

  abbrev two : Run
  two = two_pages key first second

  abbrev lower : Run
  lower = children_at u was first

  abbrev higher : Run
  higher = children_at u was second

  abbrev all : Run
  all = joined_of lower key higher

  abbrev own : List ℕ
  own = pages_in u was (suc height) two

  first_tree : IsTree u was (suc height) low (rank key + 1) first
  first_tree = x.pair.run.2

  second_tree : IsTree u was (suc height) (rank key + 1) high second
  second_tree = x.pair.run.3

  pub first_node : node_at u was first ≡ Ok (run_cells lower)
  first_node = first_tree.0

  pub second_node : node_at u was second ≡ Ok (run_cells higher)
  second_node = second_tree.0

  first_holds : HoldsRun u was first lower
  first_holds = record { node = first_node; writable = (taken_writable (was first) (header_end first) u (run_cells lower) x.inside_first first_node).cells }

  second_holds : HoldsRun u was second higher
  second_holds = record { node = second_node; writable = (taken_writable (was second) (header_end second) u (run_cells higher) x.inside_second second_node).cells }

  is : IsWhole u was height low high (cut_of lower key higher) first second
  is = join u was height low high (cut_of lower key higher) first second (let w = x.wide in omega (arith, w)) (record {
    run = x.pair.run;
    lower = first_holds;
    higher = second_holds;
    last = x.pair.last lower first_holds;
  })

  -- the keys of all ascend
  pub all_ascends : ascends all.cells ≡ true
  all_ascends = laws.ascends u was height low high all is.is

  abbrev rest : List ℕ
  rest = pages_in u was height all

  apart : Shifts g s b pages own ((first ∷ second ∷ []) ++ rest) 0
  apart = laws.alike s b pages own own own ((first ∷ second ∷ []) ++ rest) 0 (λ n. refl) is.pages_are x.seen

  all_held : AreHeld g b pages ((first ∷ second ∷ []) ++ rest)
  all_held = apart.held x.pair.held

  lacks : Lacks ((first ∷ second ∷ []) ++ rest) 1
  lacks = apart.front x.pair.later

  pub pair_held : AreHeld g b pages (first ∷ second ∷ [])
  pair_held = (laws.apart b pages (first ∷ second ∷ []) rest all_held).0

  pub first_later : first ≢ 1
  first_later e = let none = lacks in let there = here 1 first (second ∷ rest) (sym e) in absurd (omega (arith, none, there))

  pub second_low : 2 ≤ second
  second_low =
      let there = here second second [] refl in
      let used = pair_held.used second (omega (arith, there)) in
      let low_ = used.low in
      let other : second ≢ 1 = λ e. let none = lacks in let one = here 1 second rest (sym e) in absurd (omega (arith, none, one)) in
      omega (arith, low_, other)

  pub join_fails : (e : P) → Spares g b e pages (first ∷ second ∷ []) 0 → Spares g s e pages own 0
  join_fails e fails = laws.fails s b e pages own ((first ∷ second ∷ []) ++ rest) 0 0 apart (laws.fails_beside b e pages (first ∷ second ∷ []) rest 0 fails)

  pub join_stays : (e : P) → Shifts g b e pages (first ∷ second ∷ []) (first ∷ second ∷ []) 0 → Shifts g s e pages own own 0
  join_stays e keeps =
      laws.alike s e pages own ((first ∷ second ∷ []) ++ rest) own own 0 (λ n. refl) (λ n. sym (is.pages_are n))
      (laws.both s b e pages own ((first ∷ second ∷ []) ++ rest) ((first ∷ second ∷ []) ++ rest) 0 0 apart
      (laws.beside b e pages (first ∷ second ∷ []) (first ∷ second ∷ []) rest 0 keeps))

  module _ (e : P) (merges : Merges g b e pages first second (run_cells all)) (writable : AreWritable TableInterior u all.cells) where
    abbrev now : Paging
    now = sight g e pages

    kept_b : AreKept (sight g b pages) now rest
    kept_b = others_kept g b e pages (first ∷ second ∷ []) rest 0 all_held lacks merges.shifts.spares

    stays : RunStays u was now height all
    stays = laws.stays u was now height all (subst (λ (laid : PageMap). AreKept (lay laid pages) now rest) x.laid kept_b)

    holds : HoldsRun u now first all
    holds = record { node = subst (λ (v : ℕ). node_at v now first ≡ Ok (run_cells all)) x.used merges.node; writable = writable }

    holder : IsHolder u now height low high first all
    holder = laws.holder u now height low high first all (let w = x.wide in omega (arith, w)) holds (stays.is low high is.is)

    some : 1 ≤ length all.cells
    some = omega (arith, length-append lower.cells (separator key lower.right ∷ higher.cells))

    pub joins : Joins g s e pages height low high key first second
    joins = record {
      tree = holder.tree;
      rows = holder.rows ∙ stays.rows ∙ is.rows;
      filled = λ has. holder.filled (inr some) (stays.filled (is.filled has));
      shifts = subst (λ (ys : List ℕ). Shifts g s e pages own ys 0) (sym (holder.pages_are ∙ ap (λ (ps : List ℕ). first ∷ ps) stays.pages_are))
          (laws.both s b e pages own ((first ∷ second ∷ []) ++ rest) ((first ∷ []) ++ rest) 0 0 apart
          (laws.beside b e pages (first ∷ second ∷ []) (first ∷ []) rest 0 merges.shifts));
    }

  pub joins_by : (e : P) (usable : ℕ) (node : PageCells) → usable ≡ u → node ≡ run_cells all → IsWritable node usable → Merges g b e pages first second node
      → Joins g s e pages height low high key first second
  joins_by e usable node same is form merges =
      joins e (subst (Merges g b e pages first second) is merges) (subst (λ (v : ℕ). AreWritable TableInterior v all.cells) same (subst (λ (n : PageCells). AreWritable n.kind usable n.cells) is form.cells))
