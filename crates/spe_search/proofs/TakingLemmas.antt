-- Rows that are handed to a taker, part by part.
use Rattle.std.proofs.Common.{◌≡◌, ◌⊎◌, inl, inr, ℕ, zero, suc, ℤ, ◌+◌, ◌-◌, ◌<◌, ◌≤◌, ◌∙◌, Bool, true, false, List, [], ◌∷◌, ◌++◌, length, map, drop, take, get_or, Option, Some, None, Result, Ok, Err, refl, sym, ap, subst, arith, append_assoc, append-nil}
use Rattle.std.specs.Prelude.{slice_index_or, IfErr}
use Rattle.std.specs.List.{Contains, flat_map}
use Rattle.std.proofs.lemmas.List.{length-map, map-append}
use Rattle.std.proofs.lemmas.List.Elements.{Contains-append_cases, Contains-append_left, Contains-append_right}
use Rattle.spe_model.specs.declared.page.Kind.{Kind}
use Rattle.spe_model.specs.declared.page.Kind.TheVariants.{TableLeaf, TableInterior, IndexLeaf, IndexInterior}
use Rattle.spe_model.specs.declared.page.Cell.{Cell}
use Rattle.spe_model.specs.declared.page.PageCells.{PageCells}
use Rattle.spe_model.specs.declared.page.PageFault.{PageFault}
use Rattle.spe_model.specs.Chain.{AreLinks, IsChain, IsLink, links, links_bytes}
use Rattle.spe_model.specs.Paging.{Paging, Agrees}
use Rattle.spe_model.specs.Standing.{all_pages, chain_pages}
use Rattle.spe_model.specs.Tree.{rank, header_end, payload_of, rest_of, AreUnder, IsTree, fan, node_at, node_cells, node_right, rows_of, tree_rows}
use Rattle.spe_space.specs.Calls.{Reads, sight}
use Rattle.spe_space.specs.Found.{OnMissing, MissesInChain, ReadsChain, misses_weaker}
use Rattle.spe_space.specs.declared.pages.Pages.{Ghosts}
use Rattle.spe_space.specs.declared.fault.TreeFault.{TreeFault}
use Rattle.spe_space.specs.declared.fault.TreeFault.TheVariants.{Space, Corrupt}
use Rattle.spe_format.specs.View.{Shown, shown_at, shown_of}
use Rattle.spe_format.proofs.ViewLemmas.{shown_legal}
use Rattle.spe_search.specs.declared.pairs.Pair.{Pair}
use Rattle.spe_search.specs.declared.taker.RowTaker as takers
use Rattle.spe_search.specs.Found.{HasDamage, IsFaulty, IsReached, NamesDamage, ShowsChild, used_of}
use Rattle.spe_search.specs.Inside.{MissesTree}
use Rattle.spe_search.specs.Leaves.{IsRead, IsRowAt, IsRowIn, IsRowOf}
use Rattle.spe_search.specs.Pairs.{pair_seen}
use Rattle.spe_search.specs.Range.{HasLeafBreak, RowsDamage}
use Rattle.spe_search.specs.Step.{HasCell, HasHole, IsNoTable}
use Rattle.spe_model.specs.Page.{page_at}
use Rattle.spe_search.specs.Taking.{AreChildrenTaken, AreFirst, AreTaken, ChildrenDamage, Each, Hands, IsLeafTaken, IsOfSpace, IsShownAt, MissesBelow, MissesInChildren, MissesInLeaf, TakesBelow, TakesCell, TakesChildren, TakesChildrenUpTo, TakesLeaf, TakesTable, TakesUpTo, wants_more}
use Rattle.spe_search.proofs.FoundLemmas.{below_names, reached_below, reached_here}
use Rattle.spe_search.proofs.InsideLemmas.{ok_is, own_all, row_over}
use Rattle.spe_search.proofs.RangeLemmas.{at_front, drop_out, shown_chain}

-- lists: some first ones of a part that stands behind others
first_part : {X : Type 0} (done part left taken all : List X) → done ++ (part ++ left) ≡ all → AreFirst taken part → AreFirst (done ++ taken) all
first_part done part left taken all e first = (
  first.0 ++ left,
  sym e ∙ ap (λ p. done ++ (p ++ left)) first.1 ∙ ap (λ q. done ++ q) (append_assoc taken first.0 left) ∙ sym (append_assoc done taken (first.0 ++ left)),
)

-- not the whole
abbrev pub EndsEarly : Result Bool TreeFault → Type 0
EndsEarly result = result ≡ Ok true → ⊥

pub early_false : EndsEarly (Ok false)
early_false e = absurd cc

pub early_err : (f : TreeFault) → EndsEarly (Err f)
early_err f e = absurd cc

part_ends : {X : Type 0} (done part left taken all : List X) (result : Result Bool TreeFault) → EndsEarly result → done ++ (part ++ left) ≡ all → AreTaken taken part result
    → AreTaken (done ++ taken) all result
part_ends done part left taken all (Ok true) early e is = absurd (early refl)
part_ends done part left taken all (Ok false) early e is = first_part done part left taken all e is
part_ends done part left taken all (Err (Space f)) early e is = first_part done part left taken all e is
part_ends done part left taken all (Err (Corrupt page)) early e is = is

last_part : {X : Type 0} (done part taken all : List X) (result : Result Bool TreeFault) → done ++ part ≡ all → AreTaken taken part result → AreTaken (done ++ taken) all result
last_part done part taken all (Ok true) e is = ap (λ p. done ++ p) is ∙ e
last_part done part taken all (Ok false) e is = first_part done part [] taken all (ap (λ p. done ++ p) (append-nil part) ∙ e) is
last_part done part taken all (Err (Space f)) e is = first_part done part [] taken all (ap (λ p. done ++ p) (append-nil part) ∙ e) is
last_part done part taken all (Err (Corrupt page)) e is = is

-- the same of rows as pairs
seen_ends : (xs ys : List Pair) (part left all : List (ℤ × List ℕ)) (result : Result Bool TreeFault) → EndsEarly result → map pair_seen xs ++ (part ++ left) ≡ all → AreTaken (map pair_seen ys) part result
    → AreTaken (map pair_seen (xs ++ ys)) all result
seen_ends xs ys part left all result early e is =
    let P : List (ℤ × List ℕ) → Type 0 = λ l. AreTaken l all result in
    subst P (sym (map-append pair_seen xs ys)) (part_ends (map pair_seen xs) part left (map pair_seen ys) all result early e is)

seen_last : (xs ys : List Pair) (part all : List (ℤ × List ℕ)) (result : Result Bool TreeFault) → map pair_seen xs ++ part ≡ all → AreTaken (map pair_seen ys) part result
    → AreTaken (map pair_seen (xs ++ ys)) all result
seen_last xs ys part all result e is =
    let P : List (ℤ × List ℕ) → Type 0 = λ l. AreTaken l all result in
    subst P (sym (map-append pair_seen xs ys)) (last_part (map pair_seen xs) part (map pair_seen ys) all result e is)

seen_more : (xs ys : List Pair) (part left all : List (ℤ × List ℕ)) → map pair_seen xs ++ (part ++ left) ≡ all → map pair_seen ys ≡ part → map pair_seen (xs ++ ys) ++ left ≡ all
seen_more xs ys part left all e is =
    ap (λ l. l ++ left) (map-append pair_seen xs ys) ∙ append_assoc (map pair_seen xs) (map pair_seen ys) left ∙ ap (λ l. map pair_seen xs ++ (l ++ left)) is ∙ e

each_both : (What : Pair → Type 0) (xs ys : List Pair) → Each What xs → Each What ys → Each What (xs ++ ys)
each_both What xs ys first next row has = elim (Contains-append_cases xs ys row has) [ inl before ↦ first row before | inr behind ↦ next row behind ]

each_none : (What : Pair → Type 0) → Each What []
each_none What row (k, within, is) = absurd (omega (arith, within))

each_one : (What : Pair → Type 0) (x : Pair) → What x → Each What (x ∷ [])
each_one What x is row (zero, within, same) = subst What same is
each_one What x is row (suc k, within, same) = absurd (omega (arith, within))

-- parts after parts
abbrev Joined : {T W : Type 0} → takers.Ghosts T W → Type 0
Joined {T} {W} t = (a b c : T) (u v w : W) (some others : List Pair) (more : Bool) → t.taken a u b v some true → t.taken b v c w others more → t.taken a u c w (some ++ others) more

pub hands_both : {T W : Type 0} (t : takers.Ghosts T W) → Joined t → (a b c : T) (u v w : W) (result : Result Bool TreeFault) (First Next Both : List Pair → Type 0)
    → ((xs ys : List Pair) → First xs → Next ys → Both (xs ++ ys)) → Hands t a u b v (Ok true) First → Hands t b v c w result Next → Hands t a u c w result Both
hands_both t law a b c u v w result First Next Both joins first next = record {
  rows = first.rows ++ next.rows;
  taken = law a b c u v w first.rows next.rows (wants_more result) first.taken next.taken;
  are = joins first.rows next.rows first.are next.are;
}

pub hands_as : {T W : Type 0} (t : takers.Ghosts T W) (a b : T) (u v : W) (result last : Result Bool TreeFault) (First Both : List Pair → Type 0) → wants_more result ≡ wants_more last
    → ((xs : List Pair) → First xs → Both xs) → Hands t a u b v result First → Hands t a u b v last Both
hands_as t a b u v result last First Both same weaker first = record {
  rows = first.rows;
  taken = subst (λ more. t.taken a u b v first.rows more) same first.taken;
  are = weaker first.rows first.are;
}

pub hands_none : {T W : Type 0} (t : takers.Ghosts T W) → ((s : T) (w : W) → t.taken s w s w [] true) → (a : T) (u : W) (f : TreeFault) (What : List Pair → Type 0)
    → What [] → Hands t a u a u (Err f) What
hands_none t law a u f What none = record { rows = []; taken = law a u; are = none }

pub hands_first : {T W : Type 0} (t : takers.Ghosts T W) → ((s : T) (w : W) → t.taken s w s w [] true) → (a : T) (u : W) (What : List Pair → Type 0)
    → What [] → Hands t a u a u (Ok true) What
hands_first t law a u What none = record { rows = []; taken = law a u; are = none }

-- the row of a cell whose payload is this
no_links : (usable : ℕ) (pages : Paging) (count left page : ℕ) → left ≡ 0 → AreLinks usable pages count left page → links_bytes usable pages count left page ≡ []
no_links usable pages zero left page none are = refl
no_links usable pages (suc count) left page none are = absurd (let some = are.0 in omega (arith, none, some))

pub local_whole : (usable : ℕ) (pages : Paging) (c : Cell) → rest_of c ≡ 0 → IsChain usable pages (rest_of c) c.chain → c.local ≡ payload_of usable pages c
local_whole usable pages c none chain =
    sym (append-nil c.local) ∙ ap (λ l. c.local ++ l) (sym (no_links usable pages (links usable (rest_of c)) (rest_of c) c.chain none chain))

cell_first : (x y : ℤ × List ℕ) (more : Bool) → x ≡ y → AreTaken (x ∷ []) (y ∷ []) (Ok more)
cell_first x y true e = ap (λ r. r ∷ []) e
cell_first x y false e = ([], sym (ap (λ r. r ∷ []) e))

pub cell_taken : {P : Type 0} (g : Ghosts P) (early late : P) (page : ℕ) (c : Cell) (more : Bool) (x : Pair) → x.leaf ≡ page → x.rowid ≡ c.key
    → ((pages : Paging) → Agrees pages (g.seen late) → IsChain (g.used early) (sight g early pages) (rest_of c) c.chain → x.payload ≡ payload_of (g.used early) (sight g early pages) c)
    → TakesCell g early late page c (Ok more) (x ∷ [])
cell_taken g early late page c more x leaf key whole pages agrees =
    let usable = g.used early in
    let view = sight g early pages in record {
      found = λ chain. cell_first (pair_seen x) (c.key, payload_of usable view c) more (ap (λ k. (k, x.payload)) key ∙ ap (λ p. (c.key, p)) (whole pages agrees chain));
      read = each_one (IsRowOf usable view page c) x (record { leaf_is = leaf; rowid_is = key; payload_is = whole pages agrees });
    }

pub cell_fault : {P : Type 0} (g : Ghosts P) (early late : P) (page : ℕ) (c : Cell) (f : TreeFault) (bytes : List ℕ)
    → ReadsChain {X = Unit {0}} g early late c.chain (rest_of c) (λ _. bytes) c.local (Err f) → TakesCell g early late page c (Err f) []
cell_fault g early late page c (Space f) bytes reads pages agrees = record {
  found = λ chain. (_, refl);
  read = each_none (IsRowOf (g.used early) (sight g early pages) page c);
}
cell_fault g early late page c (Corrupt at) bytes reads pages agrees = record {
  found = λ chain. reads pages agrees chain;
  read = each_none (IsRowOf (g.used early) (sight g early pages) page c);
}

-- a row of a leaf behind others
abbrev row_in : (usable : ℕ) (pages : Paging) → Cell → ℤ × List ℕ
row_in usable pages c = (c.key, payload_of usable pages c)

leaf_ahead : (usable : ℕ) (pages : Paging) (shown : List (Option Cell)) (cells : List Cell) (i : ℕ) (c : Cell) (done all : List (ℤ × List ℕ)) → shown ≡ map Some cells → Some c ≡ get_or shown i None → i < length shown
    → done ++ rows_of usable pages (drop i cells) ≡ all → done ++ ((row_in usable pages c ∷ []) ++ rows_of usable pages (drop (i + 1) cells)) ≡ all
leaf_ahead usable pages shown cells i c done all e is within ahead = ap (λ cs. done ++ rows_of usable pages cs) (sym (at_front shown cells i c e is within)) ∙ ahead

leaf_read : (usable : ℕ) (pages : Paging) (page : ℕ) (shown : List (Option Cell)) (i : ℕ) (c : Cell) (xs ys : List Pair) → Some c ≡ get_or shown i None
    → Each (IsRowIn usable pages page shown) xs → Each (IsRowOf usable pages page c) ys → Each (IsRowIn usable pages page shown) (xs ++ ys)
leaf_read usable pages page shown i c xs ys is first next =
    each_both (IsRowIn usable pages page shown) xs ys first (λ row has. (c, record { index = i; is = sym is }, next row has))

pub leaf_none : {P : Type 0} (g : Ghosts P) (now : P) (page : ℕ) (shown : List (Option Cell)) → TakesUpTo g now now page shown 0 []
leaf_none g now page shown pages agrees = record { found = λ cells e a b rows. refl; read = each_none (IsRowIn (g.used now) (sight g now pages) page shown) }

pub leaf_more : {P : Type 0} (g : Ghosts P) (early now later : P) (page : ℕ) (shown : List (Option Cell)) (i : ℕ) (c : Cell) (result : Result Bool TreeFault) → result ≡ Ok true → Reads g early now → Reads g now later
    → Some c ≡ get_or shown i None → i < length shown → (xs ys : List Pair) → TakesUpTo g early now page shown i xs → TakesCell g now later page c result ys
    → TakesUpTo g early later page shown (i + 1) (xs ++ ys)
leaf_more g early now later page shown i c result whole kept keeps is within xs ys first next pages agrees =
    let usable = g.used early in
    let view = sight g early pages in
    let before = first pages (keeps.earlier pages agrees) in
    let row = rw (kept.used, kept.laid, whole) at (next pages agrees) in record {
      found = λ cells e a b rows. seen_more xs ys (row_in usable view c ∷ []) (rows_of usable view (drop (i + 1) cells)) (rows_of usable view cells)
          (leaf_ahead usable view shown cells i c (map pair_seen xs) (rows_of usable view cells) e is within (before.found cells e a b rows))
          (row.found (shown_chain usable view a b shown cells i c e is within rows));
      read = leaf_read usable view page shown i c xs ys is before.read row.read;
    }

pub leaf_ends : {P : Type 0} (g : Ghosts P) (early now later : P) (page : ℕ) (shown : List (Option Cell)) (i : ℕ) (c : Cell) (result : Result Bool TreeFault) → EndsEarly result → Reads g early now → Reads g now later
    → Some c ≡ get_or shown i None → i < length shown → (xs ys : List Pair) → TakesUpTo g early now page shown i xs → TakesCell g now later page c result ys
    → TakesLeaf g early later page shown result (xs ++ ys)
leaf_ends g early now later page shown i c result ends kept keeps is within xs ys first next pages agrees =
    let usable = g.used early in
    let view = sight g early pages in
    let before = first pages (keeps.earlier pages agrees) in
    let row = rw (kept.used, kept.laid) at (next pages agrees) in record {
      found = λ cells e a b rows. seen_ends xs ys (row_in usable view c ∷ []) (rows_of usable view (drop (i + 1) cells)) (rows_of usable view cells) result ends
          (leaf_ahead usable view shown cells i c (map pair_seen xs) (rows_of usable view cells) e is within (before.found cells e a b rows))
          (row.found (shown_chain usable view a b shown cells i c e is within rows));
      read = leaf_read usable view page shown i c xs ys is before.read row.read;
    }

pub leaf_hole : {P : Type 0} (g : Ghosts P) (early now : P) (page : ℕ) (shown : List (Option Cell)) (i : ℕ) → HasHole shown → (xs : List Pair) → TakesUpTo g early now page shown i xs
    → TakesLeaf g early now page shown (Err (Corrupt page)) xs
leaf_hole g early now page shown i hole xs first pages agrees = record { found = λ cells e a b rows. hole cells e; read = (first pages agrees).read }

pub leaf_done : {P : Type 0} (g : Ghosts P) (early now : P) (page : ℕ) (shown : List (Option Cell)) (i : ℕ) → length shown ≤ i → (xs : List Pair) → TakesUpTo g early now page shown i xs
    → TakesLeaf g early now page shown (Ok true) xs
leaf_done g early now page shown i out xs first pages agrees = record {
  found = λ cells e a b rows.
      let past : length cells ≤ i = omega (arith, out, ap length e, length-map cells Some) in
      sym (append-nil (map pair_seen xs)) ∙ ap (λ cs. map pair_seen xs ++ rows_of (g.used early) (sight g early pages) cs) (sym (drop_out cells i past)) ∙ (first pages agrees).found cells e a b rows;
  read = (first pages agrees).read;
}

pub leaf_misses : {P : Type 0} (X Y : Type 0) (g : Ghosts P) (early now later : P) (shown : List (Option Cell)) (i : ℕ) (c : Cell) (f : TreeFault) → Reads g early now → Some c ≡ get_or shown i None
    → MissesInChain {X = X} g now later c.chain (rest_of c) (Err f) → MissesInLeaf {X = Y} g early later shown (Err f)
leaf_misses X Y g early now later shown i c f kept is misses pages agrees =
    let all = rw (kept.used, kept.laid) at (misses pages agrees) in
    misses_weaker {X = Y} (λ at. (0 < at) × IsLink (g.used early) (sight g early pages) (rest_of c) c.chain at) (λ at. (d : Cell) × HasCell shown d × IsLink (g.used early) (sight g early pages) (rest_of d) d.chain at)
    (Err f) (λ n link. (c, record { index = i; is = sym is }, link.1)) all

-- children: the one at a place, and the last
under_drop : (T : ℕ → ℕ → ℕ → Type 0) (a b : ℕ) (cells : List Cell) (right i : ℕ) (c : Cell) (rest : List Cell) → AreUnder T a b cells right → drop i cells ≡ c ∷ rest
    → (low : ℕ) × (high : ℕ) × T low high c.left
under_drop T a b [] right zero c rest under e = absurd cc
under_drop T a b [] right (suc i) c rest under e = absurd cc
under_drop T a b (x ∷ xs) right zero c rest under e =
    let same : x ≡ c = cc in
    (a, rank x.key + 1, subst (λ (d : Cell). T a (rank x.key + 1) d.left) same under.2)
under_drop T a b (x ∷ xs) right (suc i) c rest under e = under_drop T (rank x.key + 1) b xs right i c rest under.3 e

under_right : (T : ℕ → ℕ → ℕ → Type 0) (a b : ℕ) (cells : List Cell) (right : ℕ) → AreUnder T a b cells right → (low : ℕ) × (high : ℕ) × T low high right
under_right T a b [] right under = (a, b, under)
under_right T a b (x ∷ xs) right under = under_right T (rank x.key + 1) b xs right under.3

fan_drop : (own : ℕ → List ℕ) (cells : List Cell) (right i : ℕ) (c : Cell) (rest : List Cell) (n : ℕ) → drop i cells ≡ c ∷ rest → Contains (own c.left) n → Contains (fan own cells right) n
fan_drop own [] right zero c rest n e has = absurd cc
fan_drop own [] right (suc i) c rest n e has = absurd cc
fan_drop own (x ∷ xs) right zero c rest n e has =
    let same : x ≡ c = cc in
    Contains-append_left (own x.left) (fan own xs right) n (subst (λ (d : Cell). Contains (own d.left) n) (sym same) has)
fan_drop own (x ∷ xs) right (suc i) c rest n e has = Contains-append_right (own x.left) (fan own xs right) n (fan_drop own xs right i c rest n e has)

fan_right : (own : ℕ → List ℕ) (cells : List Cell) (right n : ℕ) → Contains (own right) n → Contains (fan own cells right) n
fan_right own [] right n has = has
fan_right own (x ∷ xs) right n has = Contains-append_right (own x.left) (fan own xs right) n (fan_right own xs right n has)

-- what is left from a child on
fan_ahead : (own : ℕ → List (ℤ × List ℕ)) (shown : List (Option Cell)) (cells : List Cell) (right i : ℕ) (c : Cell) (done all : List (ℤ × List ℕ)) → shown ≡ map Some cells → Some c ≡ get_or shown i None → i < length shown
    → done ++ fan own (drop i cells) right ≡ all → done ++ (own c.left ++ fan own (drop (i + 1) cells) right) ≡ all
fan_ahead own shown cells right i c done all e is within ahead = ap (λ cs. done ++ fan own cs right) (sym (at_front shown cells i c e is within)) ∙ ahead

-- rows below a child are below its page
child_read : (usable : ℕ) (pages : Paging) (page levels child : ℕ) (ys : List Pair) → 0 < levels → ShowsChild usable pages page child → Each (IsRead usable pages (levels - 1) child) ys → Each (IsRead usable pages levels page) ys
child_read usable pages page levels child ys some shows read row has =
    let back : suc (levels - 1) ≡ levels = omega (arith, some) in
    let own = read row has in record {
      reached = subst (λ (n : ℕ). IsReached usable pages n page row.leaf) back (reached_below usable pages (levels - 1) page child row.leaf shows own.reached);
      shown = own.shown;
    }

shows_child : (usable : ℕ) (pages : Paging) (page : ℕ) (shown : Shown) (i : ℕ) (c : Cell) → Some c ≡ get_or shown.cells i None → IsShownAt usable pages page shown → ShowsChild usable pages page c.left
shows_child usable pages page shown i c is looked = record { shown = shown; is = looked; has = inr (c, record { index = i; is = sym is }, refl) }

shows_right : (usable : ℕ) (pages : Paging) (page : ℕ) (shown : Shown) (child : ℕ) → child ≡ shown.right → IsShownAt usable pages page shown → ShowsChild usable pages page child
shows_right usable pages page shown child same looked = record { shown = shown; is = looked; has = inl same }

pub children_none : {P : Type 0} (g : Ghosts P) (now : P) (page levels : ℕ) (shown : Shown) → TakesChildrenUpTo g now now page levels shown 0 []
children_none g now page levels shown pages agrees = record {
  found = λ cells e height a b deep under. refl;
  read = λ looked. each_none (IsRead (g.used now) (sight g now pages) levels page);
}

pub children_more : {P : Type 0} (g : Ghosts P) (early now later : P) (page levels : ℕ) (shown : Shown) (i : ℕ) (c : Cell) (result : Result Bool TreeFault) → result ≡ Ok true → 0 < levels → Reads g early now → Reads g now later
    → Some c ≡ get_or shown.cells i None → i < length shown.cells → (xs ys : List Pair) → TakesChildrenUpTo g early now page levels shown i xs → TakesBelow g now later c.left (levels - 1) result ys
    → TakesChildrenUpTo g early later page levels shown (i + 1) (xs ++ ys)
children_more g early now later page levels shown i c result whole some kept keeps is within xs ys first next pages agrees =
    let usable = g.used early in
    let view = sight g early pages in
    let before = first pages (keeps.earlier pages agrees) in
    let child = rw (kept.used, kept.laid, whole) at (next pages agrees) in record {
      found = λ cells e height a b deep under.
          let at = under_drop (IsTree usable view height) a b cells shown.right i c (drop (i + 1) cells) under (at_front shown.cells cells i c e is within) in
          seen_more xs ys (tree_rows usable view height c.left) (fan (tree_rows usable view height) (drop (i + 1) cells) shown.right) (fan (tree_rows usable view height) cells shown.right)
          (fan_ahead (tree_rows usable view height) shown.cells cells shown.right i c (map pair_seen xs) (fan (tree_rows usable view height) cells shown.right) e is within (before.found cells e height a b deep under))
          (child.found height at.0 at.1 (omega (arith, deep)) at.2);
      read = λ looked. each_both (IsRead usable view levels page) xs ys (before.read looked)
          (child_read usable view page levels c.left ys some (shows_child usable view page shown i c is looked) child.read);
    }

pub children_end : {P : Type 0} (g : Ghosts P) (early now later : P) (page levels : ℕ) (shown : Shown) (i : ℕ) (c : Cell) (result : Result Bool TreeFault) → EndsEarly result → 0 < levels → Reads g early now → Reads g now later
    → Some c ≡ get_or shown.cells i None → i < length shown.cells → (xs ys : List Pair) → TakesChildrenUpTo g early now page levels shown i xs → TakesBelow g now later c.left (levels - 1) result ys
    → TakesChildren g early later page levels shown result (xs ++ ys)
children_end g early now later page levels shown i c result ends some kept keeps is within xs ys first next pages agrees =
    let usable = g.used early in
    let view = sight g early pages in
    let before = first pages (keeps.earlier pages agrees) in
    let child = rw (kept.used, kept.laid) at (next pages agrees) in record {
      found = λ cells e height a b deep under.
          let at = under_drop (IsTree usable view height) a b cells shown.right i c (drop (i + 1) cells) under (at_front shown.cells cells i c e is within) in
          seen_ends xs ys (tree_rows usable view height c.left) (fan (tree_rows usable view height) (drop (i + 1) cells) shown.right) (fan (tree_rows usable view height) cells shown.right) result ends
          (fan_ahead (tree_rows usable view height) shown.cells cells shown.right i c (map pair_seen xs) (fan (tree_rows usable view height) cells shown.right) e is within (before.found cells e height a b deep under))
          (child.found height at.0 at.1 (omega (arith, deep)) at.2);
      read = λ looked. each_both (IsRead usable view levels page) xs ys (before.read looked)
          (child_read usable view page levels c.left ys some (shows_child usable view page shown i c is looked) child.read);
    }

pub children_last : {P : Type 0} (g : Ghosts P) (early now later : P) (page levels : ℕ) (shown : Shown) (i child : ℕ) (result : Result Bool TreeFault) → 0 < levels → Reads g early now → Reads g now later
    → length shown.cells ≤ i → child ≡ shown.right → (xs ys : List Pair) → TakesChildrenUpTo g early now page levels shown i xs → TakesBelow g now later child (levels - 1) result ys
    → TakesChildren g early later page levels shown result (xs ++ ys)
children_last g early now later page levels shown i child result some kept keeps out right xs ys first next pages agrees =
    let usable = g.used early in
    let view = sight g early pages in
    let before = first pages (keeps.earlier pages agrees) in
    let below = rw (kept.used, kept.laid) at (next pages agrees) in record {
      found = λ cells e height a b deep under.
          let past : length cells ≤ i = omega (arith, out, ap length e, length-map cells Some) in
          let at = under_right (IsTree usable view height) a b cells shown.right under in
          let own = tree_rows usable view height in
          let Q : ℕ → Type 0 = λ r. IsTree usable view height at.0 at.1 r → AreTaken (map pair_seen ys) (own r) result in
          let last = subst Q right (λ tree. below.found height at.0 at.1 (omega (arith, deep)) tree) in
          seen_last xs ys (own shown.right) (fan own cells shown.right) result
          (ap (λ cs. map pair_seen xs ++ fan own cs shown.right) (sym (drop_out cells i past)) ∙ before.found cells e height a b deep under) (last at.2);
      read = λ looked. each_both (IsRead usable view levels page) xs ys (before.read looked)
          (child_read usable view page levels child ys some (shows_right usable view page shown child right looked) below.read);
    }

pub children_hole : {P : Type 0} (g : Ghosts P) (early now : P) (page levels : ℕ) (shown : Shown) (i : ℕ) → HasHole shown.cells → (xs : List Pair) → TakesChildrenUpTo g early now page levels shown i xs
    → TakesChildren g early now page levels shown (Err (Corrupt page)) xs
children_hole g early now page levels shown i hole xs first pages agrees = record {
  found = λ cells e height a b deep under. hole cells e;
  read = (first pages agrees).read;
}

-- what a legal page shows
legal_shown : (usable : ℕ) (pages : Paging) (page : ℕ) (shown : Shown) → IsShownAt usable pages page shown → (cells : PageCells) → node_at usable pages page ≡ Ok cells → shown ≡ shown_of cells
legal_shown usable pages page shown looked cells e = ok_is shown (shown_of cells) (shown_at (used_of usable pages page) (header_end page)) looked (shown_legal (used_of usable pages page) (header_end page) cells e)

hole_faulty : (usable : ℕ) (pages : Paging) (page : ℕ) (shown : Shown) → IsShownAt usable pages page shown → HasHole shown.cells → IsFaulty usable pages page
hole_faulty usable pages page shown looked hole = λ cells e kind. hole cells.cells (ap (λ (s : Shown). s.cells) (legal_shown usable pages page shown looked cells e))

pub children_hole_names : {P : Type 0} (g : Ghosts P) (early now : P) (page levels : ℕ) (shown : Shown) → 0 < levels → HasHole shown.cells → ChildrenDamage {X = Bool} g early now page levels shown (Err (Corrupt page))
children_hole_names g early now page levels shown some hole pages agrees looked =
    inl (reached_here (g.used early) (sight g early pages) levels page some, hole_faulty (g.used early) (sight g early pages) page shown looked hole)

child_names : {P : Type 0} (g : Ghosts P) (early now later : P) (page levels child : ℕ) (shown : Shown) (result : Result Bool TreeFault) → 0 < levels → Reads g early now
    → ((usable : ℕ) (pages : Paging) → IsShownAt usable pages page shown → ShowsChild usable pages page child) → NamesDamage {X = Bool} g now later child (levels - 1) result
    → ChildrenDamage {X = Bool} g early later page levels shown result
child_names g early now later page levels child shown result some kept shows names pages agrees looked =
    let usable = g.used early in
    let view = sight g early pages in
    let back : suc (levels - 1) ≡ levels = omega (arith, some) in
    let P : ℕ → Type 0 = λ n. HasDamage usable view page n result in
    subst P back (below_names Bool usable view page (levels - 1) child result (shows usable view looked) (rw (kept.used, kept.laid) at (names pages agrees)))

pub children_names : {P : Type 0} (g : Ghosts P) (early now later : P) (page levels : ℕ) (shown : Shown) (i : ℕ) (c : Cell) (result : Result Bool TreeFault) → 0 < levels → Reads g early now → Some c ≡ get_or shown.cells i None
    → NamesDamage {X = Bool} g now later c.left (levels - 1) result → ChildrenDamage {X = Bool} g early later page levels shown result
children_names g early now later page levels shown i c result some kept is names =
    child_names g early now later page levels c.left shown result some kept (λ usable pages looked. shows_child usable pages page shown i c is looked) names

pub children_last_names : {P : Type 0} (g : Ghosts P) (early now later : P) (page levels : ℕ) (shown : Shown) (child : ℕ) (result : Result Bool TreeFault) → 0 < levels → Reads g early now → child ≡ shown.right
    → NamesDamage {X = Bool} g now later child (levels - 1) result → ChildrenDamage {X = Bool} g early later page levels shown result
children_last_names g early now later page levels shown child result some kept right names =
    child_names g early now later page levels child shown result some kept (λ usable pages looked. shows_right usable pages page shown child right looked) names

pub children_misses : {P : Type 0} (g : Ghosts P) (early now later : P) (shown : Shown) (i : ℕ) (c : Cell) (result : Result Bool TreeFault) → Reads g early now → Some c ≡ get_or shown.cells i None → i < length shown.cells
    → MissesBelow {X = Bool} g now later c.left result → MissesInChildren {X = Bool} g early later shown result
children_misses g early now later shown i c result kept is within misses pages agrees cells e height a b under =
    let usable = g.used early in
    let view = sight g early pages in
    let front = at_front shown.cells cells i c e is within in
    let at = under_drop (IsTree usable view height) a b cells shown.right i c (drop (i + 1) cells) under front in
    let all = rw (kept.used, kept.laid) at (misses pages agrees) in
    misses_weaker {X = Bool} (Contains (all_pages usable view height c.left)) (Contains (fan (all_pages usable view height) cells shown.right)) result
    (λ n has. fan_drop (all_pages usable view height) cells shown.right i c (drop (i + 1) cells) n front has) (all height at.0 at.1 at.2)

pub children_last_misses : {P : Type 0} (g : Ghosts P) (early now later : P) (shown : Shown) (child : ℕ) (result : Result Bool TreeFault) → Reads g early now → child ≡ shown.right
    → MissesBelow {X = Bool} g now later child result → MissesInChildren {X = Bool} g early later shown result
children_last_misses g early now later shown child result kept right misses pages agrees cells e height a b under =
    let usable = g.used early in
    let view = sight g early pages in
    let at = under_right (IsTree usable view height) a b cells shown.right under in
    let all = rw (kept.used, kept.laid, right) at (misses pages agrees) in
    misses_weaker {X = Bool} (Contains (all_pages usable view height shown.right)) (Contains (fan (all_pages usable view height) cells shown.right)) result
    (λ n has. fan_right (all_pages usable view height) cells shown.right n has) (all height at.0 at.1 at.2)

-- a page that was got: it is a leaf
no_leaf : TableInterior ≡ TableLeaf → ⊥
no_leaf e = cc

leaf_found : (usable : ℕ) (pages : Paging) (page : ℕ) (shown : Shown) (result : Result Bool TreeFault) (xs : List Pair) → IsShownAt usable pages page shown → shown.kind ≡ TableLeaf → IsLeafTaken usable pages page shown.cells result xs
    → (height a b : ℕ) → IsTree usable pages height a b page → AreTaken (map pair_seen xs) (tree_rows usable pages height page) result
leaf_found usable pages page shown result xs looked kind leaf zero a b tree =
    leaf.found (node_cells usable pages page) (ap (λ (s : Shown). s.cells) (legal_shown usable pages page shown looked _ tree.0)) a b tree.1
leaf_found usable pages page shown result xs looked kind leaf (suc height) a b tree =
    absurd (no_leaf (sym (ap (λ (s : Shown). s.kind) (legal_shown usable pages page shown looked _ tree.0)) ∙ kind))

leaf_rows_read : (usable : ℕ) (pages : Paging) (page levels : ℕ) (shown : Shown) (xs : List Pair) → 0 < levels → IsShownAt usable pages page shown → shown.kind ≡ TableLeaf → Each (IsRowIn usable pages page shown.cells) xs
    → Each (IsRead usable pages levels page) xs
leaf_rows_read usable pages page levels shown xs some looked kind read row has =
    let own = read row has in
    let same : page ≡ row.leaf = sym own.2.leaf_is in
    let at : IsRowAt usable pages page row = record { shown = shown; is = looked; kind = kind; inside = own } in record {
      reached = subst (λ (n : ℕ). IsReached usable pages levels page n) same (reached_here usable pages levels page some);
      shown = subst (λ (n : ℕ). IsRowAt usable pages n row) same at;
    }

-- what is told of a page after it was got
abbrev pub Looked : {P : Type 0} (g : Ghosts P) (early late : P) (page : ℕ) → Shown → Type 0
Looked g early late page shown = (pages : Paging) → Agrees pages (g.seen late) → IsShownAt (g.used early) (sight g early pages) page shown

pub leaf_below : {P : Type 0} (g : Ghosts P) (early mid late : P) (page levels : ℕ) (shown : Shown) (result : Result Bool TreeFault) → g.used mid ≡ g.used early → g.laid mid ≡ g.laid early → 0 < levels → shown.kind ≡ TableLeaf
    → Looked g early late page shown → (xs : List Pair) → TakesLeaf g mid late page shown.cells result xs → TakesBelow g early late page levels result xs
leaf_below g early mid late page levels shown result used laid some kind looked xs takes pages agrees =
    let usable = g.used early in
    let view = sight g early pages in
    let leaf = rw (used, laid) at (takes pages agrees) in record {
      found = λ height a b deep tree. leaf_found usable view page shown result xs (looked pages agrees) kind leaf height a b tree;
      read = leaf_rows_read usable view page levels shown xs some (looked pages agrees) kind leaf.read;
    }

leaf_cause : (usable : ℕ) (pages : Paging) (page levels : ℕ) (shown : Shown) (result : Result Bool TreeFault) → 0 < levels → IsShownAt usable pages page shown
    → HasLeafBreak usable pages page shown.cells result → HasDamage usable pages page levels result
leaf_cause usable pages page levels shown (Ok more) some looked cause = tt
leaf_cause usable pages page levels shown (Err (Space f)) some looked cause = tt
leaf_cause usable pages page levels shown (Err (Corrupt at)) some looked (inl hole) =
    let Met : ℕ → Type 0 = λ n. IsReached usable pages levels page n × IsFaulty usable pages n in
    inl (subst Met (sym hole.0) (reached_here usable pages levels page some, hole_faulty usable pages page shown looked hole.1))
leaf_cause usable pages page levels shown (Err (Corrupt at)) some looked (inr row) = inr (inl (record {
  leaf = page;
  reached = reached_here usable pages levels page some;
  breaks = record { row = row.0; shown = record { shown = shown; is = looked; has = row.1 }; how = row.2 };
}))

pub leaf_names : {P : Type 0} (g : Ghosts P) (early mid late : P) (page levels : ℕ) (shown : Shown) (result : Result Bool TreeFault) → g.used mid ≡ g.used early → g.laid mid ≡ g.laid early → 0 < levels
    → Looked g early late page shown → RowsDamage {X = Bool} g mid late page shown.cells result → NamesDamage {X = Bool} g early late page levels result
leaf_names g early mid late page levels shown result used laid some looked damage pages agrees =
    leaf_cause (g.used early) (sight g early pages) page levels shown result some (looked pages agrees) (rw (used, laid) at (damage pages agrees))

pub leaf_missing : {P : Type 0} (g : Ghosts P) (early mid late : P) (page : ℕ) (shown : Shown) (result : Result Bool TreeFault) → g.used mid ≡ g.used early → g.laid mid ≡ g.laid early → shown.kind ≡ TableLeaf
    → Looked g early late page shown → MissesInLeaf {X = Bool} g mid late shown.cells result → MissesBelow {X = Bool} g early late page result
leaf_missing g early mid late page shown result used laid kind looked misses pages agrees zero a b tree =
    let usable = g.used early in
    let view = sight g early pages in
    let all = rw (used, laid) at (misses pages agrees) in
    let same = ap (λ (s : Shown). s.cells) (legal_shown usable view page shown (looked pages agrees) _ tree.0) in
    let chains = flat_map (chain_pages usable view) (node_cells usable view page) in
    misses_weaker {X = Bool} (λ at. (c : Cell) × HasCell shown.cells c × IsLink usable view (rest_of c) c.chain at) (Contains (page ∷ chains)) result
    (λ n link. Contains-append_right (page ∷ []) chains n
    (row_over (Contains chains) usable view a b (node_cells usable view page) link.1.index link.0 n tree.1
    (subst (λ (cells : List (Option Cell)). slice_index_or cells link.1.index None ≡ Some link.0) same link.1.is) link.2 (own_all chains))) all
leaf_missing g early mid late page shown result used laid kind looked misses pages agrees (suc height) a b tree =
    absurd (no_leaf (sym (ap (λ (s : Shown). s.kind) (legal_shown (g.used early) (sight g early pages) page shown (looked pages agrees) _ tree.0)) ∙ kind))

-- it is an interior page
children_found : (usable : ℕ) (pages : Paging) (page levels : ℕ) (shown : Shown) (result : Result Bool TreeFault) (xs : List Pair) → IsShownAt usable pages page shown → shown.kind ≡ TableInterior
    → AreChildrenTaken usable pages page levels shown result xs → (height a b : ℕ) → height < levels → IsTree usable pages height a b page → AreTaken (map pair_seen xs) (tree_rows usable pages height page) result
children_found usable pages page levels shown result xs looked kind taken zero a b deep tree =
    absurd (no_leaf (sym kind ∙ ap (λ (s : Shown). s.kind) (legal_shown usable pages page shown looked _ tree.0)))
children_found usable pages page levels shown result xs looked kind taken (suc height) a b deep tree =
    let s = legal_shown usable pages page shown looked _ tree.0 in
    let cells = node_cells usable pages page in
    let Q : ℕ → Type 0 = λ r. AreUnder (IsTree usable pages height) a b cells r → AreTaken (map pair_seen xs) (fan (tree_rows usable pages height) cells r) result in
    subst Q (ap (λ (x : Shown). x.right) s) (λ under. taken.found cells (ap (λ (x : Shown). x.cells) s) height a b deep under) tree.1

pub children_below : {P : Type 0} (g : Ghosts P) (early mid late : P) (page levels : ℕ) (shown : Shown) (result : Result Bool TreeFault) → g.used mid ≡ g.used early → g.laid mid ≡ g.laid early → shown.kind ≡ TableInterior
    → Looked g early late page shown → (xs : List Pair) → TakesChildren g mid late page levels shown result xs → TakesBelow g early late page levels result xs
children_below g early mid late page levels shown result used laid kind looked xs takes pages agrees =
    let usable = g.used early in
    let view = sight g early pages in
    let all = rw (used, laid) at (takes pages agrees) in record {
      found = λ height a b deep tree. children_found usable view page levels shown result xs (looked pages agrees) kind all height a b deep tree;
      read = all.read (looked pages agrees);
    }

pub interior_names : {P : Type 0} (g : Ghosts P) (early mid late : P) (page levels : ℕ) (shown : Shown) (result : Result Bool TreeFault) → g.used mid ≡ g.used early → g.laid mid ≡ g.laid early
    → Looked g early late page shown → ChildrenDamage {X = Bool} g mid late page levels shown result → NamesDamage {X = Bool} g early late page levels result
interior_names g early mid late page levels shown result used laid looked names pages agrees = rw (used, laid) at (names pages agrees) (looked pages agrees)

pub interior_missing : {P : Type 0} (g : Ghosts P) (early mid late : P) (page : ℕ) (shown : Shown) (result : Result Bool TreeFault) → g.used mid ≡ g.used early → g.laid mid ≡ g.laid early → shown.kind ≡ TableInterior
    → Looked g early late page shown → MissesInChildren {X = Bool} g mid late shown result → MissesBelow {X = Bool} g early late page result
interior_missing g early mid late page shown result used laid kind looked misses pages agrees zero a b tree =
    absurd (no_leaf (sym kind ∙ ap (λ (s : Shown). s.kind) (legal_shown (g.used early) (sight g early pages) page shown (looked pages agrees) _ tree.0)))
interior_missing g early mid late page shown result used laid kind looked misses pages agrees (suc height) a b tree =
    let usable = g.used early in
    let view = sight g early pages in
    let s = legal_shown usable view page shown (looked pages agrees) _ tree.0 in
    let cells = node_cells usable view page in
    let all = rw (used, laid) at (misses pages agrees) in
    let Q : ℕ → Type 0 = λ r. AreUnder (IsTree usable view height) a b cells r → IfErr result (OnMissing (Contains (fan (all_pages usable view height) cells r))) in
    misses_weaker {X = Bool} (Contains (fan (all_pages usable view height) cells (node_right usable view page))) (Contains (all_pages usable view (suc height) page)) result
    (λ n has. Contains-append_right (page ∷ flat_map (chain_pages usable view) cells) (fan (all_pages usable view height) cells (node_right usable view page)) n has)
    (subst Q (ap (λ (x : Shown). x.right) s) (λ under. all cells (ap (λ (x : Shown). x.cells) s) height a b under) tree.1)

-- it is neither, or was not got
page_in_tree : (usable : ℕ) (pages : Paging) (height page n : ℕ) → n ≡ page → Contains (all_pages usable pages height page) n
page_in_tree usable pages zero page n same = (0, omega arith, sym same)
page_in_tree usable pages (suc height) page n same = (0, omega arith, sym same)

pub page_missing : {P : Type 0} (g : Ghosts P) (early late : P) (page : ℕ) (result : Result Bool TreeFault) → IfErr result (OnMissing (λ at. at ≡ page)) → MissesBelow {X = Bool} g early late page result
page_missing g early late page result missing pages agrees height a b tree =
    misses_weaker {X = Bool} (λ at. at ≡ page) (Contains (all_pages (g.used early) (sight g early pages) height page)) result
    (λ n same. page_in_tree (g.used early) (sight g early pages) height page n same) missing

pub below_refused : {P : Type 0} (g : Ghosts P) (early late : P) (page levels : ℕ) (f : TreeFault) → IsOfSpace f → TakesBelow g early late page levels (Err f) []
below_refused g early late page levels (Space f) of pages agrees = record {
  found = λ height a b deep tree. (_, refl);
  read = each_none (IsRead (g.used early) (sight g early pages) levels page);
}
below_refused g early late page levels (Corrupt at) of pages agrees = absurd of

pub below_none : {P : Type 0} (g : Ghosts P) (early : P) (page levels : ℕ) → levels ≡ 0 → TakesBelow g early early page levels (Err (Corrupt page)) []
below_none g early page levels none pages agrees = record {
  found = λ height a b deep tree. absurd (omega (arith, deep, none));
  read = each_none (IsRead (g.used early) (sight g early pages) levels page);
}

-- no page of a table is there
abbrev pub NoTable : {P : Type 0} (g : Ghosts P) (early late : P) (page : ℕ) → Type 0
NoTable g early late page = (pages : Paging) → Agrees pages (g.seen late) → IsFaulty (g.used early) (sight g early pages) page

tree_faultless : (usable : ℕ) (pages : Paging) (height a b page : ℕ) → IsTree usable pages height a b page → IsFaulty usable pages page → ⊥
tree_faultless usable pages zero a b page tree faulty = faulty _ tree.0 (inl refl)
tree_faultless usable pages (suc height) a b page tree faulty = faulty _ tree.0 (inr refl)

pub below_faulty : {P : Type 0} (g : Ghosts P) (early late : P) (page levels : ℕ) → NoTable g early late page → TakesBelow g early late page levels (Err (Corrupt page)) []
below_faulty g early late page levels faulty pages agrees = record {
  found = λ height a b deep tree. tree_faultless (g.used early) (sight g early pages) height a b page tree (faulty pages agrees);
  read = each_none (IsRead (g.used early) (sight g early pages) levels page);
}

pub names_faulty : {P : Type 0} (g : Ghosts P) (early late : P) (page levels : ℕ) → 0 < levels → NoTable g early late page → NamesDamage {X = Bool} g early late page levels (Err (Corrupt page))
names_faulty g early late page levels some faulty pages agrees = inl (reached_here (g.used early) (sight g early pages) levels page some, faulty pages agrees)

-- from what was got: it shows nothing, or what no page of a table shows
pub fault_faulty : (u v a b : ℕ) (buf bytes : List ℕ) (f : PageFault) → u ≡ v → buf ≡ bytes → a ≡ b → page_at (take u buf) a ≡ Err f → IsNoTable (take v bytes) b
fault_faulty u v a b buf bytes f e1 e2 e3 is page legal kind =
    let both : Ok page ≡ Err f = sym legal ∙ (rw (e1, e2, e3) at is) in cc

index_no_table : (kind : Kind) → (kind ≡ IndexLeaf) ⊎ (kind ≡ IndexInterior) → (kind ≡ TableLeaf) ⊎ (kind ≡ TableInterior) → ⊥
index_no_table kind (inl a) (inl b) = let e : IndexLeaf ≡ TableLeaf = sym a ∙ b in cc
index_no_table kind (inl a) (inr b) = let e : IndexLeaf ≡ TableInterior = sym a ∙ b in cc
index_no_table kind (inr a) (inl b) = let e : IndexInterior ≡ TableLeaf = sym a ∙ b in cc
index_no_table kind (inr a) (inr b) = let e : IndexInterior ≡ TableInterior = sym a ∙ b in cc

pub kind_faulty : (usable : ℕ) (pages : Paging) (page : ℕ) (shown : Shown) (kind : Kind) → kind ≡ shown.kind → IsShownAt usable pages page shown → (kind ≡ IndexLeaf) ⊎ (kind ≡ IndexInterior) → IsFaulty usable pages page
kind_faulty usable pages page shown kind is looked index cells legal table =
    let same : kind ≡ cells.kind = is ∙ ap (λ (s : Shown). s.kind) (legal_shown usable pages page shown looked cells legal) in
    index_no_table kind index (elim table [ inl e ↦ inl (same ∙ e) | inr e ↦ inr (same ∙ e) ])

-- from the root on
pub table_taken : {P : Type 0} (g : Ghosts P) (early late : P) (root : ℕ) (result : Result Bool TreeFault) (xs : List Pair) → TakesBelow g early late root 20 result xs → TakesTable g early late root result xs
table_taken g early late root result xs takes pages agrees =
    let below = takes pages agrees in record {
      found = λ height tree. below.found height 0 18446744073709551616 tree.0 tree.1;
      read = below.read;
    }

pub table_misses : {P : Type 0} (g : Ghosts P) (early late : P) (root : ℕ) (result : Result Bool TreeFault) → MissesBelow {X = Bool} g early late root result → MissesTree {X = Bool} g early late root result
table_misses g early late root result misses pages agrees height tree = misses pages agrees height 0 18446744073709551616 tree.1
