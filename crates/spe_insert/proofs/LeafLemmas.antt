-- Leaves that are written one after the other.
use Rattle.std.proofs.Common.{◌≡◌, ◌≢◌, ℕ, suc, ℤ, ◌+◌, ◌<◌, ◌≤◌, ◌∙◌, List, [], ◌∷◌, ◌++◌, All, take, drop, length, map, append_assoc, refl, sym, ap, subst, arith, Option, unwrap_or, Ok}
use Rattle.std.specs.Prelude.{slice_index_or}
use Rattle.std.specs.List.{flat_map}
use Rattle.std.proofs.lemmas.List.{append-nil}
use Rattle.std.proofs.lemmas.List.Elements.{All-cons, All-nil}
use Rattle.spe_model.specs.declared.page.Cell.{Cell}
use Rattle.spe_model.specs.declared.page.Kind.TheVariants.{TableInterior}
use Rattle.spe_model.specs.declared.page.PageCells.{PageCells}
use Rattle.spe_model.specs.Page.{page_at}
use Rattle.spe_model.specs.Paging.{Paging}
use Rattle.spe_model.specs.Tree.{header_end, node_at}
use Rattle.spe_space.specs.declared.pages.Pages.{Ghosts}
use Rattle.spe_space.specs.Calls.{Keeps, sight}
use Rattle.spe_frame.specs.Held.{AreHeld, IsOthers, Shifts, Spares}
use Rattle.spe_frame.specs.Laws.{ShiftsAlike, ShiftsBeside, ShiftsBoth, SparesBeside, SparesBoth, SparesMore}
use Rattle.spe_frame.specs.Times.{times}
use Rattle.spe_frame.proofs.TimesLemmas.{here, times-append}
use Rattle.spe_format.specs.Canonical.{AreWritable}
use Rattle.spe_cut.specs.Leaf.{IsLeaf, Leaf, last_key}
use Rattle.spe_cut.specs.Parts.{SeparatorIsWritable, leaf_cells}
use Rattle.spe_cut.specs.Run.{Run, alone, separator}
use Rattle.spe_insert.specs.Below.{IsShort}
use Rattle.spe_insert.specs.Interior.{LaysTwo}
use Rattle.spe_insert.specs.Leaf.{LaysParts}
use Rattle.spe_insert.specs.Node.{LaysNode}
use Rattle.spe_insert.specs.Run.{with_first}
use Rattle.spe_insert.proofs.CellLemmas.{shifts_more}

pub keeps_both : {P : Type 0} (g : Ghosts P) (a b c : P) → Keeps g a b → Keeps g b c → Keeps g a c
keeps_both g a b c x y = record {
  earlier = λ pages agrees. x.earlier pages (y.earlier pages agrees);
  told = y.told ∙ x.told;
  size = y.size ∙ x.size;
  used = y.used ∙ x.used;
  limit = y.limit ∙ x.limit;
  sealed = y.sealed ∙ x.sealed;
  count = omega (arith, x.count, y.count);
}

pub here_once : (page : ℕ) → 0 < times page (page ∷ [])
here_once page = let e = here page page [] refl in omega (arith, e)

-- the first is cut off
pub first_cut : {A : Type 0} (old new : List A) (x : A) → 1 ≤ length old → x ≡ slice_index_or old 0 x → new ≡ drop 1 old → old ≡ x ∷ new
first_cut [] new x some is rest = absurd (omega (arith, some))
first_cut (y ∷ ys) new x some is rest = rw (rest, is) refl

-- a page that was put is read as it was put
pub node_there : {P : Type 0} (g : Ghosts P) (old mid new : P) (pages : Paging) (page : ℕ) (cells : PageCells) → LaysNode g old mid page cells → g.laid new page ≡ g.laid mid page
    → node_at (g.used old) (sight g new pages) page ≡ Ok cells
node_there g old mid new pages page cells lays same =
    ap (λ (o : Option (List ℕ)). page_at (take (g.used old) (unwrap_or o (pages page))) (header_end page)) (same ∙ lays.puts.there) ∙ lays.is

pub parts_end : {P : Type 0} (g : Ghosts P) → SparesMore g → (s a : P) (pages : Paging) (page : ℕ) (part : List Cell) → 1 ≤ length part → LaysNode g s a page (leaf_cells part)
    → Shifts g s a pages (page ∷ []) (page ∷ []) 0 → LaysParts g s a pages page (part ∷ []) (alone page)
parts_end g more s a pages page part some lays shifts = record {
  leaves = [];
  end = record { page = page; cells = part };
  run_is = refl;
  joined = sym (append-nil part);
  are = All-nil (IsLeaf (g.used s) (sight g a pages));
  last = node_there g s a a pages page (leaf_cells part) lays refl;
  some = All-nil (λ (l : Leaf). 1 ≤ length l.cells);
  ends = some;
  shifts = shifts_more g more s a pages (page ∷ []) (page ∷ []) 0 1 (omega arith) shifts;
}

-- the first page is put and the next is taken
pub record IsTurn {P : Type 0} (g : Ghosts P) (s a b : P) (pages : Paging) (page next : ℕ) (cells : PageCells) : Type 0 where
  pub other : page ≢ 1
  pub held : AreHeld g s pages (page ∷ [])
  pub lays : LaysNode g s a page cells
  pub first : Shifts g s a pages (page ∷ []) (page ∷ []) 0
  pub then_ : Shifts g a b pages [] (next ∷ []) 1

turn_shifts : {P : Type 0} (g : Ghosts P) → ShiftsBoth g → ShiftsBeside g → (s a b : P) (pages : Paging) (page next : ℕ) (cells : PageCells) → IsTurn g s a b pages page next cells
    → Shifts g s b pages (page ∷ []) (next ∷ page ∷ []) 1
turn_shifts g both beside s a b pages page next cells turn =
    both s a b pages (page ∷ []) (page ∷ []) (next ∷ page ∷ []) 0 1 turn.first (beside a b pages [] (next ∷ []) (page ∷ []) 1 turn.then_)

pub parts_more : {P : Type 0} (g : Ghosts P) → ShiftsBoth g → ShiftsBeside g → ShiftsAlike g → (s a b c : P) (pages : Paging) (page next : ℕ) (part : List Cell) (parts : List (List Cell)) (run : Run)
    → 1 ≤ length part → IsTurn g s a b pages page next (leaf_cells part) → LaysParts g b c pages next parts run
    → LaysParts g s c pages page (part ∷ parts) (with_first (separator (last_key part) page) run)
parts_more g both beside alike s a b c pages page next part parts run some turn rest =
    let mine : Leaf = record { page = page; cells = part } in
    let used : g.used b ≡ g.used s = turn.then_.spares.sizes.used ∙ turn.first.spares.sizes.used in
    let held = turn.first.held turn.held in
    let other : IsOthers g a pages [] page = record { used = held.used page (here_once page); lacks = refl } in
    let same : g.laid c page ≡ g.laid a page = rest.shifts.spares.laid page (turn.then_.others page other) turn.other ∙ turn.then_.spares.laid page other turn.other in
    let ps = map (λ (l : Leaf). l.page) rest.leaves ++ (rest.end.page ∷ []) in
    let all : Shifts g s c pages (page ∷ []) (ps ++ (page ∷ [])) (1 + length parts) =
    both s b c pages (page ∷ []) (next ∷ page ∷ []) (ps ++ (page ∷ [])) 1 (length parts) (turn_shifts g both beside s a b pages page next (leaf_cells part) turn)
    (beside b c pages (next ∷ []) ps (page ∷ []) (length parts) rest.shifts) in
    let one : 1 + length parts ≡ length (part ∷ parts) = omega arith in
    record {
      leaves = mine ∷ rest.leaves;
      end = rest.end;
      run_is = ap (with_first (separator (last_key part) page)) rest.run_is;
      joined = append_assoc part (flat_map (λ (l : Leaf). l.cells) rest.leaves) rest.end.cells ∙ ap (λ (cs : List Cell). part ++ cs) rest.joined;
      are = All-cons (IsLeaf (g.used s) (sight g c pages)) mine rest.leaves (node_there g s a c pages page (leaf_cells part) turn.lays same)
          (subst (λ (u : ℕ). All (IsLeaf u (sight g c pages)) rest.leaves) used rest.are);
      last = subst (λ (u : ℕ). IsLeaf u (sight g c pages) rest.end) used rest.last;
      some = All-cons (λ (l : Leaf). 1 ≤ length l.cells) mine rest.leaves some rest.some;
      ends = rest.ends;
      shifts = subst (Shifts g s c pages (page ∷ []) (page ∷ ps)) one
          (alike s c pages (page ∷ []) (ps ++ (page ∷ [])) (page ∷ []) (page ∷ ps) (1 + length parts) (λ n. refl) (λ n. omega (arith, times-append n ps (page ∷ []))) all);
    }

pub parts_fail : {P : Type 0} (g : Ghosts P) → ShiftsBoth g → ShiftsBeside g → SparesBoth g → SparesBeside g → (s a b c : P) (pages : Paging) (page next count : ℕ) (cells : PageCells)
    → IsTurn g s a b pages page next cells → Spares g b c pages (next ∷ []) count → Spares g s c pages (page ∷ []) (suc count)
parts_fail g both beside spares spares_beside s a b c pages page next count cells turn fails =
    let one : 1 + count ≡ suc count = omega arith in
    subst (Spares g s c pages (page ∷ [])) one
    (spares s b c pages (page ∷ []) (next ∷ page ∷ []) 1 count (turn_shifts g both beside s a b pages page next cells turn) (spares_beside b c pages (next ∷ []) (page ∷ []) count fails))

-- the first page stays as it was put while others are
pub turn_there : {P : Type 0} (g : Ghosts P) (s a b c : P) (pages : Paging) (page next count : ℕ) (cells : PageCells) (ps : List ℕ) → IsTurn g s a b pages page next cells
    → Shifts g b c pages (next ∷ []) ps count → node_at (g.used s) (sight g c pages) page ≡ Ok cells
turn_there g s a b c pages page next count cells ps turn rest =
    let held = turn.first.held turn.held in
    let other : IsOthers g a pages [] page = record { used = held.used page (here_once page); lacks = refl } in
    node_there g s a c pages page cells turn.lays (rest.spares.laid page (turn.then_.others page other) turn.other ∙ turn.then_.spares.laid page other turn.other)

turn_used : {P : Type 0} (g : Ghosts P) (s a b : P) (pages : Paging) (page next : ℕ) (cells : PageCells) → IsTurn g s a b pages page next cells → g.used b ≡ g.used s
turn_used g s a b pages page next cells turn = turn.then_.spares.sizes.used ∙ turn.first.spares.sizes.used

pub two_laid : {P : Type 0} (g : Ghosts P) → ShiftsBoth g → ShiftsBeside g → ShiftsAlike g → (s a b c : P) (pages : Paging) (page next : ℕ) (low high : PageCells)
    → IsTurn g s a b pages page next low → LaysNode g b c next high → Shifts g b c pages (next ∷ []) (next ∷ []) 0 → LaysTwo g s c pages page next low high
two_laid g both beside alike s a b c pages page next low high turn lays second = record {
  first = turn_there g s a b c pages page next 0 low (next ∷ []) turn second;
  second = subst (λ (u : ℕ). node_at u (sight g c pages) next ≡ Ok high) (turn_used g s a b pages page next low turn) (node_there g b c c pages next high lays refl);
  shifts = alike s c pages (page ∷ []) (next ∷ page ∷ []) (page ∷ []) (page ∷ next ∷ []) 1 (λ n. refl) (λ n. omega arith)
      (both s b c pages (page ∷ []) (next ∷ page ∷ []) (next ∷ page ∷ []) 1 0 (turn_shifts g both beside s a b pages page next low turn) (beside b c pages (next ∷ []) (next ∷ []) (page ∷ []) 0 second));
}

later_shifts : {P : Type 0} (g : Ghosts P) → ShiftsBoth g → (s a c : P) (pages : Paging) (page : ℕ) (ps : List ℕ) (count : ℕ)
    → Shifts g s a pages (page ∷ []) (page ∷ []) 0 → Shifts g a c pages (page ∷ []) ps count → Shifts g s c pages (page ∷ []) ps count
later_shifts g both s a c pages page ps count first rest =
    let none : 0 + count ≡ count = omega arith in
    subst (Shifts g s c pages (page ∷ []) ps) none (both s a c pages (page ∷ []) (page ∷ []) ps 0 count first rest)

-- parts that are put after the page was looked at
pub parts_later : {P : Type 0} (g : Ghosts P) → ShiftsBoth g → (s a c : P) (pages : Paging) (page : ℕ) (parts : List (List Cell)) (run : Run)
    → Shifts g s a pages (page ∷ []) (page ∷ []) 0 → LaysParts g a c pages page parts run → LaysParts g s c pages page parts run
parts_later g both s a c pages page parts run first rest =
    let used : g.used a ≡ g.used s = first.spares.sizes.used in
    record {
      leaves = rest.leaves;
      end = rest.end;
      run_is = rest.run_is;
      joined = rest.joined;
      are = subst (λ (u : ℕ). All (IsLeaf u (sight g c pages)) rest.leaves) used rest.are;
      last = subst (λ (u : ℕ). IsLeaf u (sight g c pages) rest.end) used rest.last;
      some = rest.some;
      ends = rest.ends;
      shifts = later_shifts g both s a c pages page (map (λ (l : Leaf). l.page) rest.leaves ++ (rest.end.page ∷ [])) (length parts) first rest.shifts;
    }

-- runs that are written as leaves are short
pub short_alone : (usable page : ℕ) (run : Run) → run ≡ alone page → IsShort usable run
short_alone usable page run is = subst (IsShort usable) (sym is) (record { few = omega arith; writable = tt })

pub short_parts : (usable used : ℕ) (run : Run) (parts : List (List Cell)) → usable ≡ used → length run.cells + 1 ≡ length parts → length parts ≤ 3
    → AreWritable TableInterior usable run.cells → IsShort used run
short_parts usable used run parts same count few are = record {
  few = omega (arith, count, few);
  writable = subst (λ (u : ℕ). AreWritable TableInterior u run.cells) same are;
}

pub separators_more : (usable : ℕ) → SeparatorIsWritable → (key : ℤ) (page : ℕ) (all rest : Run) → all ≡ with_first (separator key page) rest
    → AreWritable TableInterior usable rest.cells → AreWritable TableInterior usable all.cells
separators_more usable law key page all rest is are =
    subst (λ (r : Run). AreWritable TableInterior usable r.cells) (sym is) ((law usable key page).0, are)
