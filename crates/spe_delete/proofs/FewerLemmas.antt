-- Children without one of them.
use Rattle.std.proofs.Common.{◌≡◌, ℕ, zero, suc, ◌+◌, ◌<◌, ◌≤◌, ◌∙◌, List, [], ◌∷◌, ◌++◌, take, drop, length, refl, sym, ap, arith, inl, inr}
use Rattle.std.proofs.lemmas.Bool.{le-ltb, lt-ltb}
use Rattle.std.proofs.lemmas.Bool.Decides.{leb_tells}
use Rattle.std.proofs.lemmas.List.{append-nil}
use Rattle.spe_model.specs.declared.page.Cell.{Cell}
use Rattle.spe_model.specs.declared.page.Kind.{Kind}
use Rattle.spe_model.specs.Standing.{AreBelow}
use Rattle.spe_model.specs.Tree.{AreUnder, child_for, fan, rank}
use Rattle.spe_format.specs.Canonical.{AreWritable}
use Rattle.spe_frame.specs.Times.{times}
use Rattle.spe_frame.proofs.TimesLemmas.{times-append}
use Rattle.spe_cut.specs.Parts.{need, without}
use Rattle.spe_cut.specs.Run.{Run}
use Rattle.spe_insert.specs.Place.{place_for}
use Rattle.spe_insert.specs.Run.{with_first}
use Rattle.spe_delete.specs.Child.{fewer}
use Rattle.spe_delete.specs.Leaf.{IsAmong}

-- trees between bounds are trees between wider ones
abbrev pub IsWider : ((low high page : ℕ) → Type 0) → Type 0
IsWider T = (low high low' high' page : ℕ) → T low high page → low' ≤ low → high ≤ high' → T low' high' page

pub fewer_under : (T : (low high page : ℕ) → Type 0) → IsWider T → (key low high : ℕ) (cells : List Cell) (right : ℕ) → 1 ≤ length cells → AreUnder T low high cells right
    → AreUnder T low high (fewer key cells right).cells (fewer key cells right).right
fewer_under T wider key low high [] right some under = absurd (omega (arith, some))
fewer_under T wider key low high (c ∷ []) right some under = elim (leb_tells key (rank c.key)) [
  | inl hit ↦ rw (hit.0) (wider (rank c.key + 1) high low high right under.3 (let from = under.0 in omega (arith, from)) (omega arith))
  | inr miss ↦ rw (miss.0) (wider low (rank c.key + 1) low high c.left under.2 (omega arith) (let to = under.1 in omega (arith, to)))
]
fewer_under T wider key low high (c ∷ d ∷ ds) right some under = elim (leb_tells key (rank c.key)) [
  | inl hit ↦ rw (hit.0) (
    (let from = under.0 in let next = under.3.0 in omega (arith, from, next)),
    under.3.1,
    wider (rank c.key + 1) (rank d.key + 1) low (rank d.key + 1) d.left under.3.2 (let from = under.0 in omega (arith, from)) (omega arith),
    under.3.3,
  )
  | inr miss ↦ rw (miss.0) (under.0, under.1, under.2, fewer_under T wider key (rank c.key + 1) high (d ∷ ds) right (omega arith) under.3)
]

pub fewer_below : (T : ℕ → Type 0) (key : ℕ) (cells : List Cell) (right : ℕ) → AreBelow T cells right → AreBelow T (fewer key cells right).cells (fewer key cells right).right
fewer_below T key [] right below = below
fewer_below T key (c ∷ []) right below = elim (leb_tells key (rank c.key)) [
  | inl hit ↦ rw (hit.0) below.1
  | inr miss ↦ rw (miss.0) below.0
]
fewer_below T key (c ∷ d ∷ ds) right below = elim (leb_tells key (rank c.key)) [
  | inl hit ↦ rw (hit.0) below.1
  | inr miss ↦ rw (miss.0) (below.0, fewer_below T key (d ∷ ds) right below.1)
]

-- the child that goes has nothing of what is joined
pub fewer_joined : {X : Type 0} (own : ℕ → List X) (key : ℕ) (cells : List Cell) (right : ℕ) → 1 ≤ length cells → own (child_for key cells right) ≡ []
    → fan own (fewer key cells right).cells (fewer key cells right).right ≡ fan own cells right
fewer_joined own key [] right some none = absurd (omega (arith, some))
fewer_joined own key (c ∷ []) right some none = elim (leb_tells key (rank c.key)) [
  | inl hit ↦ (let mine = rw (hit.0) at none in rw (hit.0, mine) refl)
  | inr miss ↦ (let mine = rw (miss.0) at none in rw (miss.0, mine) (sym (append-nil (own c.left))))
]
fewer_joined own key (c ∷ d ∷ ds) right some none = elim (leb_tells key (rank c.key)) [
  | inl hit ↦ (let mine = rw (hit.0) at none in rw (hit.0, mine) refl)
  | inr miss ↦ (let mine = rw (miss.0) at none in rw (miss.0) (ap (λ xs. own c.left ++ xs) (fewer_joined own key (d ∷ ds) right (omega arith) mine)))
]

-- what is joined is that of the child and of all others
pub fewer_times : (own : ℕ → List ℕ) (key : ℕ) (cells : List Cell) (right n : ℕ) → 1 ≤ length cells
    → times n (fan own cells right) ≡ times n (own (child_for key cells right)) + times n (fan own (fewer key cells right).cells (fewer key cells right).right)
fewer_times own key [] right n some = absurd (omega (arith, some))
fewer_times own key (c ∷ []) right n some = elim (leb_tells key (rank c.key)) [
  | inl hit ↦ rw (hit.0) (times-append n (own c.left) (own right))
  | inr miss ↦ rw (miss.0) (omega (arith, times-append n (own c.left) (own right)))
]
fewer_times own key (c ∷ d ∷ ds) right n some = elim (leb_tells key (rank c.key)) [
  | inl hit ↦ rw (hit.0) (times-append n (own c.left) (fan own (d ∷ ds) right))
  | inr miss ↦ rw (miss.0) (
      let less = fewer key (d ∷ ds) right in
      let rest = fewer_times own key (d ∷ ds) right n (omega arith) in
      omega (arith, rest, times-append n (own c.left) (fan own (d ∷ ds) right), times-append n (own c.left) (fan own less.cells less.right)))
]

pub fewer_writable : (kind : Kind) (usable key : ℕ) (cells : List Cell) (right : ℕ) → AreWritable kind usable cells → AreWritable kind usable (fewer key cells right).cells
fewer_writable kind usable key [] right are = tt
fewer_writable kind usable key (c ∷ []) right are = elim (leb_tells key (rank c.key)) [
  | inl hit ↦ rw (hit.0) tt
  | inr miss ↦ rw (miss.0) tt
]
fewer_writable kind usable key (c ∷ d ∷ ds) right are = elim (leb_tells key (rank c.key)) [
  | inl hit ↦ rw (hit.0) are.1
  | inr miss ↦ rw (miss.0) (are.0, fewer_writable kind usable key (d ∷ ds) right are.1)
]

pub fewer_need : (kind : Kind) (key : ℕ) (cells : List Cell) (right : ℕ) → need kind (fewer key cells right).cells ≤ need kind cells
fewer_need kind key [] right = omega arith
fewer_need kind key (c ∷ []) right = elim (leb_tells key (rank c.key)) [
  | inl hit ↦ rw (hit.0) (omega arith)
  | inr miss ↦ rw (miss.0) (omega arith)
]
fewer_need kind key (c ∷ d ∷ ds) right = elim (leb_tells key (rank c.key)) [
  | inl hit ↦ rw (hit.0) (omega arith)
  | inr miss ↦ rw (miss.0) (let rest = fewer_need kind key (d ∷ ds) right in omega (arith, rest))
]

pub fewer_long : (key : ℕ) (cells : List Cell) (right : ℕ) → 1 ≤ length cells → length (fewer key cells right).cells + 1 ≡ length cells
fewer_long key [] right some = absurd (omega (arith, some))
fewer_long key (c ∷ []) right some = elim (leb_tells key (rank c.key)) [
  | inl hit ↦ rw (hit.0) (omega arith)
  | inr miss ↦ rw (miss.0) (omega arith)
]
fewer_long key (c ∷ d ∷ ds) right some = elim (leb_tells key (rank c.key)) [
  | inl hit ↦ rw (hit.0) (omega arith)
  | inr miss ↦ rw (miss.0) (let rest = fewer_long key (d ∷ ds) right (omega arith) in omega (arith, rest))
]

-- as the cells are taken out

abbrev run_with : List Cell → ℕ → Run
run_with cells right = record { cells = cells; right = right }

one_on : (n : ℕ) → n + 1 ≡ suc n
one_on n = omega arith

behind_on : (n : ℕ) → suc (n + 1) ≡ suc n + 1
behind_on n = omega arith

pub fewer_inner : (key : ℕ) (cells : List Cell) (right : ℕ) → place_for key cells < length cells → fewer key cells right ≡ record { cells = without (place_for key cells) cells; right = right }
fewer_inner key [] right within = absurd (omega (arith, within))
fewer_inner key (c ∷ []) right within = elim (leb_tells key (rank c.key)) [
  | inl hit ↦ rw (hit.0, le-ltb (rank c.key) key hit.1) refl
  | inr miss ↦ (let past = rw (lt-ltb (rank c.key) key miss.1) at within in absurd (omega (arith, past)))
]
fewer_inner key (c ∷ d ∷ ds) right within = elim (leb_tells key (rank c.key)) [
  | inl hit ↦ rw (hit.0, le-ltb (rank c.key) key hit.1) refl
  | inr miss ↦ (let past = rw (lt-ltb (rank c.key) key miss.1) at within in
      let n = place_for key (d ∷ ds) in
      rw (miss.0, lt-ltb (rank c.key) key miss.1, one_on (place_for key (d ∷ ds))) (
      ap (with_first c) (fewer_inner key (d ∷ ds) right (omega (arith, past)))
      ∙ ap (λ (k : ℕ). run_with (c ∷ (take n (d ∷ ds) ++ drop k (c ∷ d ∷ ds))) right) (behind_on n)))
]

-- all but the last child
abbrev pub but_last : List Cell → Run
but_last [] = record { cells = []; right = 0 }
but_last (c ∷ []) = record { cells = []; right = c.left }
but_last (c ∷ d ∷ ds) = with_first c (but_last (d ∷ ds))

fewer_last : (key : ℕ) (cells : List Cell) (right : ℕ) → 1 ≤ length cells → length cells ≤ place_for key cells → fewer key cells right ≡ but_last cells
fewer_last key [] right some past = absurd (omega (arith, some))
fewer_last key (c ∷ []) right some past = elim (leb_tells key (rank c.key)) [
  | inl hit ↦ (let within = rw (le-ltb (rank c.key) key hit.1) at past in absurd (omega (arith, within)))
  | inr miss ↦ rw (miss.0) refl
]
fewer_last key (c ∷ d ∷ ds) right some past = elim (leb_tells key (rank c.key)) [
  | inl hit ↦ (let within = rw (le-ltb (rank c.key) key hit.1) at past in absurd (omega (arith, within)))
  | inr miss ↦ (let behind = rw (lt-ltb (rank c.key) key miss.1) at past in
      rw (miss.0) (ap (with_first c) (fewer_last key (d ∷ ds) right (omega arith) (omega (arith, behind)))))
]

abbrev left_of : List Cell → ℕ
left_of [] = 0
left_of (c ∷ cs) = c.left

abbrev rest_of : List Cell → List Cell
rest_of [] = []
rest_of (c ∷ cs) = cs

last_taken : (n : ℕ) (cells : List Cell) (cell : Cell) → length cells ≡ suc n → IsAmong cells n cell → record { cells = without n cells; right = cell.left } ≡ but_last cells
last_taken n [] cell long among = absurd cc
last_taken zero (c ∷ []) cell long among = ap (λ (right : ℕ). run_with [] right) (sym (ap left_of among))
last_taken (suc n) (c ∷ []) cell long among = absurd (omega (arith, long))
last_taken zero (c ∷ d ∷ ds) cell long among = absurd (omega (arith, long))
last_taken (suc n) (c ∷ d ∷ ds) cell long among =
    let back : suc n + 1 ≡ suc (n + 1) = sym (behind_on n) in
    ap (λ (k : ℕ). run_with (c ∷ (take n (d ∷ ds) ++ drop k (c ∷ d ∷ ds))) cell.left) back
    ∙ ap (with_first c) (last_taken n (d ∷ ds) cell (omega (arith, long))
    (ap rest_of (among ∙ ap (λ (k : ℕ). c ∷ (take n (d ∷ ds) ++ (cell ∷ drop k (c ∷ d ∷ ds)))) back)))

pub fewer_end : (key n : ℕ) (cells : List Cell) (right : ℕ) (cell : Cell) → length cells ≡ suc n → length cells ≤ place_for key cells → IsAmong cells n cell
    → fewer key cells right ≡ record { cells = without n cells; right = cell.left }
fewer_end key n cells right cell long past among = fewer_last key cells right (omega (arith, long)) past ∙ sym (last_taken n cells cell long among)
