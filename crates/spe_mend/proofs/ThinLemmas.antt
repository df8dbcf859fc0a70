-- A leaf without a cell that goes from a page with two children alone.
use Rattle.std.proofs.Common.{◌≡◌, ◌≢◌, ℕ, zero, suc, ℤ, ◌≤◌, ◌∙◌, List, [], ◌∷◌, ◌++◌, Ok, true, length, refl, sym, ap, subst, arith, inl, inr}
use Rattle.std.proofs.lemmas.Bool.{le-leb, lt-ltb, le-ltb}
use Rattle.std.proofs.lemmas.Bool.Decides.{leb_tells}
use Rattle.std.specs.List.{flat_map}
use Rattle.spe_model.specs.declared.page.Cell.{Cell}
use Rattle.spe_model.specs.Paging.{PageMap, Paging, lay}
use Rattle.spe_model.specs.Standing.{all_pages, chain_pages}
use Rattle.spe_model.specs.Tree.{IsTree, child_for, header_end, node_at, node_cells, rank, rows_of, tree_rows}
use Rattle.spe_space.specs.declared.pages.Pages.{Ghosts}
use Rattle.spe_space.specs.Calls.{sight}
use Rattle.spe_format.specs.Canonical.{IsWritable, fits}
use Rattle.spe_format.proofs.WritableLemmas.{taken_writable}
use Rattle.spe_frame.specs.Held.{AreHeld, Shifts, Spares}
use Rattle.spe_frame.specs.Times.{AreSame, Lacks, times}
use Rattle.spe_frame.proofs.TimesLemmas.{here}
use Rattle.spe_cut.specs.Parts.{run_cells}
use Rattle.spe_cut.specs.Run.{AreKept, HoldsRun, IsHeld, IsHolder, IsRun, Run, RunStays, alone, pages_in, rows_in}
use Rattle.spe_cut.specs.Stretch.{RunIsWider}
use Rattle.spe_insert.specs.Laws.{HaveLaws}
use Rattle.spe_insert.specs.Place.{place_for}
use Rattle.spe_insert.proofs.PutBelowLemmas.{others_kept}
use Rattle.spe_delete.specs.Child.{fewer, fewer_of}
use Rattle.spe_delete.specs.Merge.{Merges}
use Rattle.spe_delete.proofs.FewerLemmas.{fewer_joined, fewer_times, fewer_under}
use Rattle.spe_delete.proofs.LeafEndLemmas.{IsEnd, children_at}
use Rattle.spe_mend.specs.Thin.{BecomesThin}

-- of two children the first goes, or the last
pub first_goes : (key : ℕ) (c : Cell) (right : ℕ) → place_for key (c ∷ []) ≡ 0 → fewer key (c ∷ []) right ≡ alone right
first_goes key c right at = elim (leb_tells key (rank c.key)) [
  | inl hit ↦ rw (hit.0) refl
  | inr miss ↦ (let past = rw (lt-ltb (rank c.key) key miss.1) at at in absurd (omega (arith, past)))
]

pub last_goes : (key : ℕ) (c : Cell) (right : ℕ) → place_for key (c ∷ []) ≢ 0 → fewer key (c ∷ []) right ≡ alone c.left
last_goes key c right at = elim (leb_tells key (rank c.key)) [
  | inl hit ↦ absurd (at (rw (le-ltb (rank c.key) key hit.1) refl))
  | inr miss ↦ rw (miss.0) refl
]

pub thin_form : (child usable : ℕ) → IsWritable (run_cells (alone child)) usable
thin_form child usable = record { cells = tt; right = λ e. absurd cc; ascends = λ _. refl }

pub thin_fits : (child usable : ℕ) → 480 ≤ usable → fits (run_cells (alone child)) 0 usable ≡ true
thin_fits child usable wide = le-leb 12 usable (omega (arith, wide))

-- a page's children without one of two
module _ {P : Type 0} (g : Ghosts P) (laws : HaveLaws g) (wider : RunIsWider) (s a : P) (pages : Paging) (low high page leaf child : ℕ) (rowid : ℤ)
    (x : IsEnd g s a pages low high page leaf rowid) (one : length (children_at (g.used s) (sight g s pages) page).cells ≡ 1)
    (was_is : fewer_of rowid (children_at (g.used s) (sight g s pages) page) ≡ alone child) where
  abbrev u : ℕ
  u = g.used s

  abbrev was : Paging
  was = sight g s pages

  abbrev children : Run
  children = children_at u was page

  abbrev all : List ℕ
  all = all_pages u was (suc zero) page

  abbrev rest : List ℕ
  rest = pages_in u was zero (alone child)

  holds : HoldsRun u was page children
  holds = record {
    node = x.placed.tree.0;
    writable = (taken_writable (was page) (header_end page) u (run_cells children) x.inside x.placed.tree.0).cells;
  }

  held_by : IsHeld u was zero low high page children
  held_by = laws.held u was zero low high page children (let w = x.wide in omega (arith, w)) holds x.placed.tree

  some : 1 ≤ length children.cells
  some = omega (arith, one)

  left_is : IsRun u was zero low high (alone child)
  left_is =
      subst (IsRun u was zero low high) was_is
      (fewer_under (IsTree u was zero) (λ low high low' high' p tree from to. wider u was zero low high low' high' (alone p) tree from to) (rank rowid) low high children.cells children.right
      some held_by.children)

  leaf_pages : all_pages u was zero (child_for (rank rowid) children.cells children.right) ≡ leaf ∷ []
  leaf_pages = ap (all_pages u was zero) x.empty.leads ∙ ap (λ (cells : List Cell). leaf ∷ flat_map (chain_pages u was) cells) x.empty.empty

  parts : AreSame all ((page ∷ leaf ∷ []) ++ rest)
  parts n =
      let whole = ap (times n) held_by.pages_are in
      let split = fewer_times (all_pages u was zero) (rank rowid) children.cells children.right n some in
      let mine = ap (times n) leaf_pages in
      let other = ap (λ (r : Run). times n (pages_in u was zero r)) was_is in
      omega (arith, whole, split, mine, other)

  apart : Shifts g s a pages all ((page ∷ leaf ∷ []) ++ rest) 0
  apart = laws.alike s a pages all all all ((page ∷ leaf ∷ []) ++ rest) 0 (λ n. refl) parts x.seen

  all_held : AreHeld g a pages ((page ∷ leaf ∷ []) ++ rest)
  all_held = apart.held x.placed.held

  lacks : Lacks ((page ∷ leaf ∷ []) ++ rest) 1
  lacks = apart.front x.placed.later

  pub pair_held : AreHeld g a pages (page ∷ leaf ∷ [])
  pair_held = (laws.apart a pages (page ∷ leaf ∷ []) rest all_held).0

  pub bare_low : 2 ≤ leaf
  bare_low =
      let there = here leaf leaf [] refl in
      let used = pair_held.used leaf (omega (arith, there)) in
      let low_ = used.low in
      let other : leaf ≢ 1 = λ is. let none = lacks in let first = here 1 leaf [] (sym is) in absurd (omega (arith, none, first)) in
      omega (arith, low_, other)

  pub thin_fails : (e : P) → Spares g a e pages (page ∷ leaf ∷ []) 0 → Spares g s e pages all 0
  thin_fails e fails = laws.fails s a e pages all ((page ∷ leaf ∷ []) ++ rest) 0 0 apart (laws.fails_beside a e pages (page ∷ leaf ∷ []) rest 0 fails)

  module _ (e : P) (merges : Merges g a e pages page leaf (run_cells (alone child))) where
    abbrev now : Paging
    now = sight g e pages

    kept_a : AreKept (sight g a pages) now rest
    kept_a = others_kept g a e pages (page ∷ leaf ∷ []) rest 0 all_held lacks merges.shifts.spares

    kept : AreKept was now rest
    kept = subst (λ (laid : PageMap). AreKept (lay laid pages) now rest) x.reads.laid kept_a

    stays : RunStays u was now zero (alone child)
    stays = laws.stays u was now zero (alone child) kept

    holds_now : HoldsRun u now page (alone child)
    holds_now = record {
      node = subst (λ (v : ℕ). node_at v now page ≡ Ok (run_cells (alone child))) x.reads.used merges.node;
      writable = tt;
    }

    holder : IsHolder u now zero low high page (alone child)
    holder = laws.holder u now zero low high page (alone child) (let w = x.wide in omega (arith, w)) holds_now (stays.is low high left_is)

    rows_none : tree_rows u was zero (child_for (rank rowid) children.cells children.right) ≡ []
    rows_none = ap (tree_rows u was zero) x.empty.leads ∙ ap (rows_of u was) x.empty.empty

    pub becomes_thin : BecomesThin g s e pages (suc zero) low high page child rowid
    becomes_thin = record {
      was = was_is;
      holds = holds_now;
      tree = holder.tree;
      rows = holder.rows ∙ stays.rows ∙ sym (ap (λ (r : Run). rows_in u was zero r) was_is)
          ∙ fewer_joined (tree_rows u was zero) (rank rowid) children.cells children.right some rows_none ∙ sym held_by.rows;
      kept = kept child (let there = here child child (flat_map (chain_pages u was) (node_cells u was child)) refl in omega (arith, there));
      shifts = subst (λ (ys : List ℕ). Shifts g s e pages all ys 0) (sym (holder.pages_are ∙ ap (λ (ps : List ℕ). page ∷ ps) stays.pages_are))
          (laws.both s a e pages all ((page ∷ leaf ∷ []) ++ rest) ((page ∷ []) ++ rest) 0 0 apart
          (laws.beside a e pages (page ∷ leaf ∷ []) (page ∷ []) rest 0 merges.shifts));
    }
