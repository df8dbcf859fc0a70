-- How many bytes parts of some cells take.
use Rattle.std.proofs.Common.{◌≡◌, ℕ, zero, suc, ◌+◌, ◌-◌, ◌*◌, ◌/◌, ◌<◌, ◌≤◌, List, [], ◌∷◌, ◌++◌, length, take, drop, get_or, Option, None, Some, refl, sym, ap, subst, arith, inl, inr}
use Rattle.std.specs.Prelude.{IfNone, IfSome, SomeIff, nat_le}
use Rattle.std.proofs.lemmas.Bool.{cases_Bool, cases_lt, leb-true, leb-false}
use Rattle.spe_model.specs.declared.page.Cell.{Cell}
use Rattle.spe_model.specs.declared.page.Kind.{Kind}
use Rattle.spe_model.specs.declared.page.Kind.TheVariants.{TableLeaf}
use Rattle.spe_format.specs.Canonical.{cell_bytes}
use Rattle.spe_cut.specs.Parts.{need}
use Rattle.spe_cut.specs.Place.{IsCutAt, count_within}

-- a cell with its offset
abbrev pub size : Kind → Cell → ℕ
size kind c = length (cell_bytes kind c) + 2

pub need_first : (kind : Kind) (c : Cell) (cs : List Cell) → need kind (c ∷ cs) ≡ size kind c + need kind cs
need_first kind c cs = omega arith

pub need_append : (kind : Kind) (xs ys : List Cell) → need kind (xs ++ ys) ≡ need kind xs + need kind ys
need_append kind [] ys = omega arith
need_append kind (c ∷ cs) ys = let rest = need_append kind cs ys in omega (arith, rest)

pub need_parted : (kind : Kind) (at : ℕ) (cells : List Cell) → need kind (take at cells) + need kind (drop at cells) ≡ need kind cells
need_parted kind zero cells = omega arith
need_parted kind (suc at) [] = omega arith
need_parted kind (suc at) (c ∷ cs) = let rest = need_parted kind at cs in omega (arith, rest)

-- more cells from the front take no fewer bytes
pub need_more : (kind : Kind) (i j : ℕ) (cells : List Cell) → i ≤ j → need kind (take i cells) ≤ need kind (take j cells)
need_more kind zero j cells order = omega arith
need_more kind (suc i) zero cells order = absurd (omega (arith, order))
need_more kind (suc i) (suc j) [] order = omega arith
need_more kind (suc i) (suc j) (c ∷ cs) order = let rest = need_more kind i j cs (omega (arith, order)) in omega (arith, rest)

-- one cell at a place, and those before and behind it
pub record AtPlace (place : ℕ) (cells : List Cell) : Type 0 where
  pub cell : Cell
  pub one : take 1 (drop place cells) ≡ cell ∷ []
  pub split : cells ≡ take place cells ++ (cell ∷ drop (place + 1) cells)

pub at_place : (place : ℕ) (cells : List Cell) → place < length cells → AtPlace place cells
at_place place [] within = absurd (omega (arith, within))
at_place zero (c ∷ cs) within = record { cell = c; one = refl; split = refl }
at_place (suc place) (c ∷ cs) within =
    let next = at_place place cs (omega (arith, within)) in
    let more : suc place + 1 ≡ suc (place + 1) = omega arith in
    record {
      cell = next.cell;
      one = next.one;
      split = rw more (ap (λ (ds : List Cell). c ∷ ds) next.split);
    }

pub few_front : (kind : Kind) (most : ℕ) (cells : List Cell) → need kind (take (count_within kind most cells) cells) ≤ most
few_front kind most [] = omega arith
few_front kind most (c ∷ cs) = elim (cases_Bool (nat_le (size kind c) most)) [
  | inl fits ↦ rw fits (
      let rest = few_front kind (most - size kind c) cs in
      let order = leb-true (size kind c) most fits in
      let next : count_within kind (most - size kind c) cs + 1 ≡ suc (count_within kind (most - size kind c) cs) = omega arith in
      rw next (omega (arith, rest, order)))
  | inr over ↦ rw over (omega arith)
]

pub full_front : (kind : Kind) (most : ℕ) (cells : List Cell) → count_within kind most cells < length cells → most < need kind (take (count_within kind most cells + 1) cells)
full_front kind most [] = λ within. absurd (omega (arith, within))
full_front kind most (c ∷ cs) = elim (cases_Bool (nat_le (size kind c) most)) [
  | inl fits ↦ rw fits (λ within.
      let rest = full_front kind (most - size kind c) cs (omega (arith, within)) in
      let order = leb-true (size kind c) most fits in
      let next : count_within kind (most - size kind c) cs + 1 + 1 ≡ suc (count_within kind (most - size kind c) cs + 1) = omega arith in
      rw next (omega (arith, rest, order)))
  | inr over ↦ rw over (λ within. let order = leb-false (size kind c) most over in omega (arith, order))
]

pub some_left : (kind : Kind) (most : ℕ) (cells : List Cell) → most < need kind cells → count_within kind most cells < length cells
some_left kind most [] over = absurd (omega (arith, over))
some_left kind most (c ∷ cs) over = elim (cases_Bool (nat_le (size kind c) most)) [
  | inl fits ↦ rw fits (
      let order = leb-true (size kind c) most fits in
      let rest = some_left kind (most - size kind c) cs (omega (arith, over, order)) in omega (arith, rest))
  | inr none ↦ rw none (omega arith)
]

pub first_fits : (kind : Kind) (most : ℕ) (c : Cell) (cs : List Cell) → size kind c ≤ most → 1 ≤ count_within kind most (c ∷ cs)
first_fits kind most c cs fits = elim (cases_Bool (nat_le (size kind c) most)) [
  | inl this ↦ rw this (omega arith)
  | inr over ↦ absurd (let order = leb-false (size kind c) most over in omega (arith, order, fits))
]

pub all_front : (cells : List Cell) (at : ℕ) → length cells ≤ at → take at cells ≡ cells
all_front [] zero order = refl
all_front [] (suc at) order = refl
all_front (c ∷ cs) zero order = absurd (omega (arith, order))
all_front (c ∷ cs) (suc at) order = ap (λ (ds : List Cell). c ∷ ds) (all_front cs at (omega (arith, order)))

-- Two ways to cut in about the middle: so that the first part is the longer one, or the second.
pub record MiddleCuts (most count longer shorter : ℕ) (cells : List Cell) : Type 0 where
  pub behind : longer ≤ most → IsCutAt most cells (count + 1)
  pub before : shorter ≤ most → IsCutAt most cells count
  pub none : most < longer → most < shorter → (at : ℕ) → ¬ IsCutAt most cells at

pub middle_cuts : (most total half count longer shorter : ℕ) (cells : List Cell) → total ≡ need TableLeaf cells → most < total → half ≡ total / 2
    → count ≡ count_within TableLeaf half cells → longer ≡ need TableLeaf (take (count + 1) cells) → shorter + need TableLeaf (take count cells) ≡ total
    → MiddleCuts most count longer shorter cells
middle_cuts most total half count longer shorter cells is over half_is count_is long short =
    let few : need TableLeaf (take count cells) ≤ half = rw count_is (few_front TableLeaf half cells) in
    let left : count < length cells = rw count_is (some_left TableLeaf half cells (omega (arith, is, over, half_is))) in
    let full : half < longer = rw (long, count_is) (full_front TableLeaf half cells (subst (λ (n : ℕ). n < length cells) count_is left)) in
    let low = need_parted TableLeaf count cells in
    let high = need_parted TableLeaf (count + 1) cells in
    record {
      behind = λ fits. record {
        from = omega arith;
        to = elim (cases_lt (count + 1) (length cells)) [
          | inl within ↦ within
          | inr all ↦ absurd (let whole = ap (need TableLeaf) (all_front cells (count + 1) all) in omega (arith, whole, long, is, over, fits))
        ];
        low = omega (arith, long, fits);
        high = omega (arith, high, long, full, half_is, is, fits);
      };
      before = λ fits. record {
        from = elim (cases_lt 0 count) [
          | inl some ↦ omega (arith, some)
          | inr none ↦ absurd (
              let first : need TableLeaf (take count cells) ≡ 0 = ap (λ (n : ℕ). need TableLeaf (take n cells)) (let z : count ≡ 0 = omega (arith, none) in z) in
              omega (arith, first, short, fits, over))
        ];
        to = left;
        low = omega (arith, few, short, fits, half_is);
        high = omega (arith, low, short, is, fits);
      };
      none = λ first second at cut. elim (cases_lt count at) [
        | inl behind ↦ (let more = need_more TableLeaf (count + 1) at cells (omega (arith, behind)) in let fits = cut.low in omega (arith, more, fits, long, first))
        | inr before ↦ (
            let fewer = need_more TableLeaf at count cells before in
            let rest = need_parted TableLeaf at cells in
            let fits = cut.high in
            omega (arith, fewer, rest, fits, short, is, second))
      ];
    }

-- where the first half of all ends
pub record MiddleFound (total count taken : ℕ) (cells : List Cell) : Type 0 where
  pub place : count < length cells
  pub few : taken ≤ total
  pub half : taken ≤ total / 2
  pub small : 2 * length cells ≤ total

pub middle_found : (total count taken : ℕ) (cells : List Cell) → total ≡ need TableLeaf cells → 0 < total → count ≡ count_within TableLeaf (total / 2) cells
    → taken ≡ need TableLeaf (take count cells) → MiddleFound total count taken cells
middle_found total count taken cells is some count_is taken_is =
    let half : need TableLeaf (take count cells) ≤ total / 2 = rw count_is (few_front TableLeaf (total / 2) cells) in
    record {
      place = rw count_is (some_left TableLeaf (total / 2) cells (omega (arith, is, some)));
      few = omega (arith, half, taken_is);
      half = omega (arith, half, taken_is);
      small = omega (arith, is);
    }

-- one cell more from the front
pub next_cell : (count taken len : ℕ) (cell d : Cell) (cells : List Cell) → count < length cells → cell ≡ get_or cells count d → taken ≡ need TableLeaf (take count cells)
    → len ≡ length (cell_bytes TableLeaf cell) → taken + 2 + len ≡ need TableLeaf (take (count + 1) cells)
next_cell count taken len cell d [] within is taken_is long = absurd (omega (arith, within))
next_cell zero taken len cell d (c ∷ cs) within is taken_is long =
    let same : length (cell_bytes TableLeaf cell) ≡ length (cell_bytes TableLeaf c) = ap (λ (x : Cell). length (cell_bytes TableLeaf x)) is in omega (arith, taken_is, long, same)
next_cell (suc count) taken len cell d (c ∷ cs) within is taken_is long =
    let rest = next_cell count (need TableLeaf (take count cs)) len cell d cs (omega (arith, within)) is refl long in
    let more : suc count + 1 ≡ suc (count + 1) = omega arith in
    rw more (omega (arith, rest, taken_is))

-- what is answered where one of the two cuts fits
pub cut_found : (found : Option ℕ) (most len at : ℕ) (cells : List Cell) → SomeIff found (len ≤ most) at → (len ≤ most → IsCutAt most cells at) → IfSome found (IsCutAt most cells)
cut_found None most len at cells is cut = tt
cut_found (Some x) most len at cells is cut = subst (IsCutAt most cells) (sym is.1) (cut is.0)

pub none_found : (found : Option ℕ) (most len at : ℕ) (None' : Type 0) → SomeIff found (len ≤ most) at → (most < len → None') → IfNone found None'
none_found None most len at None' is none = elim (cases_lt most len) [ inl over ↦ none over | inr fits ↦ absurd (is fits) ]
none_found (Some x) most len at None' is none = tt

pub middle_both : (most total count taken len : ℕ) (cell : Cell) (cells : List Cell) → total ≡ need TableLeaf cells → most < total → count ≡ count_within TableLeaf (total / 2) cells
    → taken ≡ need TableLeaf (take count cells) → cell ≡ get_or cells count cell → len ≡ length (cell_bytes TableLeaf cell)
    → MiddleCuts most count (taken + 2 + len) (total - taken) cells
middle_both most total count taken len cell cells is over count_is taken_is cell_is long =
    let found = middle_found total count taken cells is (omega (arith, over)) count_is taken_is in
    let few = found.few in
    middle_cuts most total (total / 2) count (taken + 2 + len) (total - taken) cells is over refl count_is
    (next_cell count taken len cell cell cells found.place cell_is taken_is long) (omega (arith, few, taken_is))

pub longer_fits : (total count taken len : ℕ) (cell : Cell) (cells : List Cell) → total ≡ need TableLeaf cells → 0 < total → count ≡ count_within TableLeaf (total / 2) cells
    → taken ≡ need TableLeaf (take count cells) → cell ≡ get_or cells count cell → len ≡ length (cell_bytes TableLeaf cell) → taken + 2 + len ≤ total
longer_fits total count taken len cell cells is some count_is taken_is cell_is long =
    let found = middle_found total count taken cells is some count_is taken_is in
    let more = next_cell count taken len cell cell cells found.place cell_is taken_is long in
    let parts = need_parted TableLeaf (count + 1) cells in
    omega (arith, more, parts, is)
