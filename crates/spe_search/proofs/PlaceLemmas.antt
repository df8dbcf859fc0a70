-- What a place among the cells of a page says.
use Rattle.std.proofs.Common.{◌≡◌, ◌≢◌, ℕ, zero, suc, ℤ, ◌+◌, ◌<◌, ◌≤◌, ◌∙◌, true, false, List, [], ◌∷◌, length, map, get_or, Option, Some, None, unwrap_or, refl, sym, ap, arith, leb, inl, inr}
use Rattle.std.specs.Ordering.{int_eq}
use Rattle.std.proofs.lemmas.Bool.{cases_order, cases_Bool}
use Rattle.std.proofs.lemmas.Bool.Decides.{leb_tells, Decides-int_eq}
use Rattle.std.proofs.lemmas.List.{get_or-map, length-map}
use Rattle.spe_model.specs.declared.page.Cell.{Cell}
use Rattle.spe_model.specs.Tree.{rank, cell_for, child_for}
use Rattle.spe_search.specs.declared.page.Found.{Found}
use Rattle.spe_search.specs.Step.{AreSorted, LiesBetween, HasHole, IsFound, IsFoundIn}

-- a cell that is shown is the page's
pub cell_there : (shown : List (Option Cell)) (cells : List Cell) (i : ℕ) (c d : Cell) → shown ≡ map Some cells → Some c ≡ get_or shown i None → i < length shown → get_or cells i d ≡ c
cell_there shown cells i c d e is within =
    let all : i < length cells = omega (arith, within, ap length e, length-map cells Some) in
    let same : Some (get_or cells i d) ≡ Some c = sym (get_or-map Some cells i d None all) ∙ ap (λ (s : List (Option Cell)). get_or s i None) (sym e) ∙ sym is in
    ap (λ (o : Option Cell). unwrap_or o d) same

pub hole_there : (shown : List (Option Cell)) (i : ℕ) → None ≡ get_or shown i None → i < length shown → HasHole shown
hole_there shown i is within [] e = omega (arith, within, ap length e)
hole_there shown i is within (c ∷ cs) e =
    let all : i < length (c ∷ cs) = omega (arith, within, ap length e, length-map (c ∷ cs) Some) in
    let same : None ≡ Some (get_or (c ∷ cs) i c) = is ∙ ap (λ (s : List (Option Cell)). get_or s i None) e ∙ get_or-map Some (c ∷ cs) i c None all in
    cc

pub between_up : (shown : List (Option Cell)) (key low high i : ℕ) (c : Cell) → LiesBetween shown key low high → Some c ≡ get_or shown i None → i < length shown → rank c.key < key
    → LiesBetween shown key (i + 1) high
between_up shown key low high i c before is within less cells e sorted =
    let h = before cells e sorted in
    let all : i < length cells = omega (arith, within, ap length e, length-map cells Some) in
    let there : (d : Cell) → rank (get_or cells i d).key < key = λ d. rw (cell_there shown cells i c d e is within) less in
    record {
      below = λ j d under. elim (cases_order j i) [
        | inl same ↦ rw same (there d)
        | inr apart ↦ (elim apart [
          | inl early ↦ (let a = sorted j i d early all in let b = there d in omega (arith, a, b))
          | inr late ↦ absurd (omega (arith, late, under))
        ])
      ];
      above = h.above;
    }

pub between_down : (shown : List (Option Cell)) (key low high i : ℕ) (c : Cell) → LiesBetween shown key low high → Some c ≡ get_or shown i None → i < length shown → key ≤ rank c.key
    → LiesBetween shown key low i
between_down shown key low high i c before is within more cells e sorted =
    let h = before cells e sorted in
    let there : (d : Cell) → key ≤ rank (get_or cells i d).key = λ d. rw (cell_there shown cells i c d e is within) more in
    record {
      below = h.below;
      above = λ j d from all. elim (cases_order j i) [
        | inl same ↦ rw same (there d)
        | inr apart ↦ (elim apart [
          | inl early ↦ absurd (omega (arith, early, from))
          | inr late ↦ (let a = sorted i j d late all in let b = there d in omega (arith, a, b))
        ])
      ];
    }

pub between_all : (shown : List (Option Cell)) (key high : ℕ) → length shown ≤ high → LiesBetween shown key 0 high
between_all shown key high out cells e sorted = record {
  below = λ j d under. absurd (omega (arith, under));
  above = λ j d from all. absurd (omega (arith, from, all, out, ap length e, length-map cells Some));
}

int_apart : (x y : ℤ) → x ≢ y → int_eq x y ≡ false
int_apart x y h = elim (cases_Bool (int_eq x y)) [ inl t ↦ absurd (h ((Decides-int_eq x y).0 t)) | inr f ↦ f ]

pub le_true : (a b : ℕ) → a ≤ b → leb a b ≡ true
le_true a b h = elim (leb_tells a b) [ inl hit ↦ hit.0 | inr miss ↦ absurd (omega arith) ]

pub le_false : (a b : ℕ) → b < a → leb a b ≡ false
le_false a b h = elim (leb_tells a b) [ inl hit ↦ absurd (omega arith) | inr miss ↦ miss.0 ]

cell_missing : (rowid : ℤ) (cells : List Cell) → ((j : ℕ) (d : Cell) → j < length cells → (get_or cells j d).key ≢ rowid) → cell_for rowid cells ≡ None
cell_missing rowid [] none = refl
cell_missing rowid (c ∷ cs) none = rw (int_apart c.key rowid (none 0 c (omega arith))) (cell_missing rowid cs (λ j d h. none (suc j) d (omega (arith, h))))

cell_first : (rowid : ℤ) (cells : List Cell) (i : ℕ) (d : Cell) → ((j : ℕ) (d : Cell) → j < i → (get_or cells j d).key ≢ rowid)
    → i < length cells → (get_or cells i d).key ≡ rowid → cell_for rowid cells ≡ Some (get_or cells i d)
cell_first rowid [] i d below within same = absurd (omega (arith, within))
cell_first rowid (c ∷ cs) zero d below within same = rw ((Decides-int_eq c.key rowid).1 same) refl
cell_first rowid (c ∷ cs) (suc i) d below within same =
    rw (int_apart c.key rowid (below 0 d (omega arith))) (cell_first rowid cs i d (λ j e h. below (suc j) e (omega (arith, h))) (omega (arith, within)) same)

apart_below : (a b : ℤ) → rank a < rank b → a ≢ b
apart_below a b less same = let e = ap rank same in omega (arith, less, e)

apart_above : (a b : ℤ) → rank b < rank a → a ≢ b
apart_above a b less same = let e = ap rank same in omega (arith, less, e)

-- all cells are below the rowid
pub missing_past : (shown : List (Option Cell)) (rowid : ℤ) (place : ℕ) → LiesBetween shown (rank rowid) place place → place ≡ length shown
    → (cells : List Cell) → shown ≡ map Some cells → AreSorted cells → IsFound (cell_for rowid cells) None
missing_past shown rowid place between end cells e sorted =
    let h = between cells e sorted in
    let none = cell_missing rowid cells (λ j d within. apart_below _ rowid (h.below j d (omega (arith, within, end, ap length e, length-map cells Some)))) in
    rw none tt

-- the cell at the place has another rowid
pub missing_here : (shown : List (Option Cell)) (rowid : ℤ) (place : ℕ) (c : Cell) → LiesBetween shown (rank rowid) place place → Some c ≡ get_or shown place None → place < length shown
    → c.key ≢ rowid → (cells : List Cell) → shown ≡ map Some cells → AreSorted cells → IsFound (cell_for rowid cells) None
missing_here shown rowid place c between is within other cells e sorted =
    let h = between cells e sorted in
    let all : place < length cells = omega (arith, within, ap length e, length-map cells Some) in
    let none = cell_missing rowid cells (λ j d inside. elim (cases_order j place) [
      | inl same ↦ (λ k. other (ap (λ (x : Cell). x.key) (sym (cell_there shown cells place c d e is within)) ∙ ap (λ n. (get_or cells n d).key) (sym same) ∙ k))
      | inr apart ↦ (elim apart [
        | inl early ↦ apart_below _ rowid (h.below j d early)
        | inr late ↦ apart_above _ rowid (let a = sorted place j d late inside in let b = h.above place d (omega arith) all in omega (arith, a, b))
      ])
    ]) in
    rw none tt

-- the cell at the place has the rowid
pub found_here : (shown : List (Option Cell)) (rowid : ℤ) (place : ℕ) (c : Cell) (found : Found) → LiesBetween shown (rank rowid) place place → Some c ≡ get_or shown place None → place < length shown
    → c.key ≡ rowid → IsFoundIn found c → (cells : List Cell) → shown ≡ map Some cells → AreSorted cells → IsFound (cell_for rowid cells) (Some found)
found_here shown rowid place c found between is within same in_cell cells e sorted =
    let h = between cells e sorted in
    let all : place < length cells = omega (arith, within, ap length e, length-map cells Some) in
    let there = cell_there shown cells place c c e is within in
    let first = cell_first rowid cells place c (λ j d early. apart_below _ rowid (h.below j d early)) all (ap (λ (x : Cell). x.key) there ∙ same) ∙ ap Some there in
    rw first in_cell

child_below : (key : ℕ) (cells : List Cell) (right i : ℕ) (d : Cell) → ((j : ℕ) (d : Cell) → j < i → rank (get_or cells j d).key < key)
    → i < length cells → key ≤ rank (get_or cells i d).key → child_for key cells right ≡ (get_or cells i d).left
child_below key [] right i d below within above = absurd (omega (arith, within))
child_below key (c ∷ cs) right zero d below within above = rw (le_true key (rank c.key) above) refl
child_below key (c ∷ cs) right (suc i) d below within above =
    rw (le_false key (rank c.key) (below 0 d (omega arith))) (child_below key cs right i d (λ j e h. below (suc j) e (omega (arith, h))) (omega (arith, within)) above)

child_right : (key : ℕ) (cells : List Cell) (right : ℕ) → ((j : ℕ) (d : Cell) → j < length cells → rank (get_or cells j d).key < key) → child_for key cells right ≡ right
child_right key [] right below = refl
child_right key (c ∷ cs) right below =
    rw (le_false key (rank c.key) (below 0 c (omega arith))) (child_right key cs right (λ j e h. below (suc j) e (omega (arith, h))))

pub child_past : (shown : List (Option Cell)) (right key place : ℕ) → LiesBetween shown key place place → place ≡ length shown
    → (cells : List Cell) → shown ≡ map Some cells → AreSorted cells → right ≡ child_for key cells right
child_past shown right key place between end cells e sorted =
    let h = between cells e sorted in
    sym (child_right key cells right (λ j d within. h.below j d (omega (arith, within, end, ap length e, length-map cells Some))))

pub child_here : (shown : List (Option Cell)) (right key place : ℕ) (c : Cell) → LiesBetween shown key place place → Some c ≡ get_or shown place None → place < length shown
    → (cells : List Cell) → shown ≡ map Some cells → AreSorted cells → c.left ≡ child_for key cells right
child_here shown right key place c between is within cells e sorted =
    let h = between cells e sorted in
    let all : place < length cells = omega (arith, within, ap length e, length-map cells Some) in
    sym (child_below key cells right place c h.below all (h.above place c (omega arith) all) ∙ ap (λ (x : Cell). x.left) (cell_there shown cells place c c e is within))
