-- Two interior neighbours, of which one has no cell.
use Rattle.std.proofs.Common.{◌≡◌, ◌⊎◌, ℕ, suc, ℤ, ◌+◌, ◌≤◌, ◌∙◌, List, [], ◌∷◌, ◌++◌, Ok, length, refl, sym, ap, subst, arith, inl, inr}
use Rattle.std.proofs.lemmas.List.{length-append}
use Rattle.spe_model.specs.declared.page.Cell.{Cell}
use Rattle.spe_model.specs.declared.page.Kind.TheVariants.{TableInterior}
use Rattle.spe_model.specs.Paging.{PageMap, Paging, lay}
use Rattle.spe_model.specs.Served.{HasCells}
use Rattle.spe_model.specs.Standing.{AreBelow}
use Rattle.spe_model.specs.Tree.{IsTree, cells_in, header_end, node_at, node_cells, rank}
use Rattle.spe_space.specs.declared.pages.Pages.{Ghosts}
use Rattle.spe_space.specs.Calls.{sight}
use Rattle.spe_format.specs.Canonical.{AreWritable}
use Rattle.spe_format.proofs.WritableLemmas.{taken_writable}
use Rattle.spe_frame.specs.Held.{AreHeld, Shifts, Spares}
use Rattle.spe_frame.specs.Times.{Lacks, times}
use Rattle.spe_cut.specs.Joined.{IsWhole, PairIsWhole}
use Rattle.spe_cut.specs.Parts.{RunTakesRoom, need, room, run_cells}
use Rattle.spe_cut.specs.Run.{AreFilledBelow, AreKept, HoldsRun, IsHolder, IsRun, Run, RunStays, inner, last, pages_in, rows_in, separator}
use Rattle.spe_cut.specs.Split.{ArePair as AreCutPair, low_half, high_half, pair, whole}
use Rattle.spe_cut.proofs.HolderLemmas.{Reading}
use Rattle.spe_insert.specs.Laws.{HaveLaws}
use Rattle.spe_insert.proofs.PutBelowLemmas.{others_kept}
use Rattle.spe_delete.specs.Join.{two_pages}
use Rattle.spe_delete.specs.JoinCells.{cut_of, joined_of}
use Rattle.spe_delete.specs.Merge.{Merges}
use Rattle.spe_delete.proofs.LeafEndLemmas.{children_at}
use Rattle.spe_delete.proofs.JoinLemmas.{IsPairSeen}
use Rattle.spe_mend.specs.Pair.{AreFilledUnder, BecomeOne, LaysHalves, ShareChildren}

-- all children take little more room than a page has
behind_thin : RunTakesRoom → (usable : ℕ) (key : ℤ) (child right : ℕ) (cells : List Cell) → AreWritable TableInterior usable (separator key child ∷ [])
    → AreWritable TableInterior usable cells → need TableInterior cells ≤ room TableInterior 0 usable
    → need TableInterior (separator key child ∷ cells) ≤ room TableInterior 0 usable + 30
behind_thin room_ usable key child right [] one are few =
    let more = room_ usable (last []) right (record { cells = separator key child ∷ []; right = right }) one are in
    omega (arith, more, few)
behind_thin room_ usable key child right (c ∷ cs) one are few =
    let more = room_ usable (inner [] c cs right) c.left (record { cells = separator key child ∷ []; right = c.left }) one are in
    omega (arith, more, few)

pub thin_few : RunTakesRoom → (usable : ℕ) (first : Run) (key : ℤ) (second : Run) → AreWritable TableInterior usable (separator key first.right ∷ []) → (first.cells ≡ []) ⊎ (second.cells ≡ [])
    → AreWritable TableInterior usable first.cells → AreWritable TableInterior usable second.cells
    → need TableInterior first.cells ≤ room TableInterior 0 usable → need TableInterior second.cells ≤ room TableInterior 0 usable
    → need TableInterior (joined_of first key second).cells ≤ room TableInterior 0 usable + 30
thin_few room_ usable first key second one thin first_are second_are first_few second_few = elim thin [
  | inl bare ↦ subst (λ (cells : List Cell). need TableInterior (cells ++ (separator key first.right ∷ second.cells)) ≤ room TableInterior 0 usable + 30) (sym bare)
      (behind_thin room_ usable key first.right second.right second.cells one second_are second_few)
  | inr bare ↦ subst (λ (cells : List Cell). need TableInterior (first.cells ++ (separator key first.right ∷ cells)) ≤ room TableInterior 0 usable + 30) (sym bare)
      (let more = room_ usable (last first.cells) second.right (record { cells = separator key first.right ∷ []; right = second.right }) one first_are in
      omega (arith, more, first_few))
]

-- as the pages were read
pub either_is : (a b xs ys : List Cell) → a ≡ xs → b ≡ ys → (a ≡ []) ⊎ (b ≡ []) → (xs ≡ []) ⊎ (ys ≡ [])
either_is a b xs ys one two thin = elim thin [
  | inl bare ↦ inl (sym one ∙ bare)
  | inr bare ↦ inr (sym two ∙ bare)
]

pub thin_as_read : (usable : ℕ) (pages : Paging) (first second : ℕ) (lower higher : Run) → node_at usable pages first ≡ Ok (run_cells lower) → node_at usable pages second ≡ Ok (run_cells higher)
    → (node_cells usable pages first ≡ []) ⊎ (node_cells usable pages second ≡ []) → (lower.cells ≡ []) ⊎ (higher.cells ≡ [])
thin_as_read usable pages first second lower higher one two thin =
    either_is (node_cells usable pages first) (node_cells usable pages second) lower.cells higher.cells (ap (λ (r : Reading). cells_in r) one) (ap (λ (r : Reading). cells_in r) two) thin

-- what holds of each child of both holds of all
pub below_both : (T : ℕ → Type 0) (before : List Cell) (c : Cell) (after : List Cell) (right : ℕ) → AreBelow T before c.left → AreBelow T after right → AreBelow T (before ++ (c ∷ after)) right
below_both T [] c after right one rest = (one, rest)
below_both T (d ∷ ds) c after right all rest = (all.0, below_both T ds c after right all.1 rest)

module _ {P : Type 0} (g : Ghosts P) (laws : HaveLaws g) (join : PairIsWhole) (s b : P) (pages : Paging) (height low high : ℕ) (key : ℤ) (first second : ℕ)
    (x : IsPairSeen g s b pages height low high key first second) where
  abbrev u : ℕ
  u = g.used s

  abbrev was : Paging
  was = sight g s pages

  abbrev lower : Run
  lower = children_at u was first

  abbrev higher : Run
  higher = children_at u was second

  abbrev all : Run
  all = joined_of lower key higher

  abbrev own : List ℕ
  own = pages_in u was (suc height) (two_pages key first second)

  first_tree : IsTree u was (suc height) low (rank key + 1) first
  first_tree = x.pair.run.2

  second_tree : IsTree u was (suc height) (rank key + 1) high second
  second_tree = x.pair.run.3

  first_holds : HoldsRun u was first lower
  first_holds = record { node = first_tree.0; writable = (taken_writable (was first) (header_end first) u (run_cells lower) x.inside_first first_tree.0).cells }

  second_holds : HoldsRun u was second higher
  second_holds = record { node = second_tree.0; writable = (taken_writable (was second) (header_end second) u (run_cells higher) x.inside_second second_tree.0).cells }

  is : IsWhole u was height low high (cut_of lower key higher) first second
  is = join u was height low high (cut_of lower key higher) first second (let w = x.wide in omega (arith, w)) (record {
    run = x.pair.run;
    lower = first_holds;
    higher = second_holds;
    last = x.pair.last lower first_holds;
  })

  abbrev rest : List ℕ
  rest = pages_in u was height all

  apart : Shifts g s b pages own ((first ∷ second ∷ []) ++ rest) 0
  apart = laws.alike s b pages own own own ((first ∷ second ∷ []) ++ rest) 0 (λ n. refl) is.pages_are x.seen

  all_held : AreHeld g b pages ((first ∷ second ∷ []) ++ rest)
  all_held = apart.held x.pair.held

  lacks : Lacks ((first ∷ second ∷ []) ++ rest) 1
  lacks = apart.front x.pair.later

  all_filled : AreFilledUnder g s pages height first second → AreFilledBelow u was height all
  all_filled filled = below_both (HasCells u was height) lower.cells (separator key lower.right) higher.cells higher.right filled.0 filled.1

  module _ (e : P) where
    abbrev now : Paging
    now = sight g e pages

    -- where only the two pages were put
    kept_rest : Spares g b e pages (first ∷ second ∷ []) 0 → AreKept was now rest
    kept_rest spares = subst (λ (laid : PageMap). AreKept (lay laid pages) now rest) x.laid (others_kept g b e pages (first ∷ second ∷ []) rest 0 all_held lacks spares)

    pub become_one : Merges g b e pages first second (run_cells all) → AreWritable TableInterior u all.cells → BecomeOne g s e pages height low high key first second
    become_one merges writable =
        let stays : RunStays u was now height all = laws.stays u was now height all (kept_rest merges.shifts.spares) in
        let holds : HoldsRun u now first all = record { node = subst (λ (v : ℕ). node_at v now first ≡ Ok (run_cells all)) x.used merges.node; writable = writable } in
        let holder : IsHolder u now height low high first all = laws.holder u now height low high first all (let w = x.wide in omega (arith, w)) holds (stays.is low high is.is) in
        let some : 1 ≤ length all.cells = omega (arith, length-append lower.cells (separator key lower.right ∷ higher.cells)) in
        record {
          tree = holder.tree;
          rows = holder.rows ∙ stays.rows ∙ is.rows;
          some = subst (λ (r : Reading). 1 ≤ length (cells_in r)) (sym holds.node) some;
          filled = λ has. holder.filled (inr some) (stays.filled (all_filled has));
          shifts = subst (λ (ys : List ℕ). Shifts g s e pages own ys 0) (sym (holder.pages_are ∙ ap (λ (ps : List ℕ). first ∷ ps) stays.pages_are))
              (laws.both s b e pages own ((first ∷ second ∷ []) ++ rest) ((first ∷ []) ++ rest) 0 0 apart
              (laws.beside b e pages (first ∷ second ∷ []) (first ∷ []) rest 0 merges.shifts));
        }

    pub share_children : (other : ℤ) → LaysHalves g b e pages first second all other → ShareChildren g s e pages height low high key other first second
    share_children other h =
        let stays : RunStays u was now height all = laws.stays u was now height all (kept_rest h.shifts.spares) in
        let cut = h.cut in
        let low_holds : HoldsRun u now first (low_half cut) = subst (λ (v : ℕ). HoldsRun v now first (low_half cut)) x.used h.low in
        let high_holds : HoldsRun u now second (high_half cut) = subst (λ (v : ℕ). HoldsRun v now second (high_half cut)) x.used h.high in
        let whole_run : IsRun u now height low high (whole cut) = subst (IsRun u now height low high) (sym h.whole_is) (stays.is low high is.is) in
        let two : AreCutPair u now height low high cut first second = laws.halves u now height low high cut first second (let w = x.wide in omega (arith, w)) (record {
          run = whole_run;
          lower = low_holds;
          higher = high_holds;
        }) in
        let same : pages_in u now height (whole cut) ≡ rest = ap (pages_in u now height) h.whole_is ∙ stays.pages_are in
        subst (λ (k : ℤ). ShareChildren g s e pages height low high key k first second) h.key_is (record {
          is = two.is;
          last = two.last h.some.1;
          rows = two.rows ∙ ap (rows_in u now height) h.whole_is ∙ stays.rows ∙ is.rows;
          some_first = subst (λ (r : Reading). 1 ≤ length (cells_in r)) (sym low_holds.node) h.some.0;
          some_second = subst (λ (r : Reading). 1 ≤ length (cells_in r)) (sym high_holds.node) h.some.1;
          filled = λ has. two.filled h.some.0 h.some.1 (subst (AreFilledBelow u now height) (sym h.whole_is) (stays.filled (all_filled has)));
          shifts =
              laws.alike s e pages own ((first ∷ second ∷ []) ++ rest) own (pages_in u now (suc height) (pair cut first second)) 0 (λ n. refl)
              (λ n. sym (two.pages_are n ∙ ap (λ (ps : List ℕ). times n (first ∷ second ∷ ps)) same))
              (laws.both s b e pages own ((first ∷ second ∷ []) ++ rest) ((first ∷ second ∷ []) ++ rest) 0 0 apart
              (laws.beside b e pages (first ∷ second ∷ []) (first ∷ second ∷ []) rest 0 h.shifts));
        })
