-- The child in which a rowid belongs, among two.
use Rattle.std.proofs.Common.{◌≡◌, ℕ, zero, suc, ◌+◌, ◌<◌, List, [], ◌∷◌, drop, length, refl, arith, inl, inr}
use Rattle.std.proofs.lemmas.Bool.{le-ltb, lt-ltb}
use Rattle.std.proofs.lemmas.Bool.Decides.{leb_tells}
use Rattle.spe_model.specs.declared.page.Cell.{Cell}
use Rattle.spe_model.specs.Tree.{child_for, rank}
use Rattle.spe_insert.specs.Below.{first_child}
use Rattle.spe_insert.specs.Place.{place_for}
use Rattle.spe_mend.specs.Stretch.{PairHasChild, first_two}

child_first : (key n : ℕ) (cells : List Cell) (right : ℕ) → n < length cells → n ≡ place_for key cells → child_for key cells right ≡ first_child (first_two (drop n cells) right)
child_first key n [] right within at = absurd (omega (arith, within))
child_first key zero (c ∷ []) right within at = elim (leb_tells key (rank c.key)) [
  | inl hit ↦ rw (hit.0) refl
  | inr miss ↦ (let past = rw (lt-ltb (rank c.key) key miss.1) at at in absurd (omega (arith, past)))
]
child_first key zero (c ∷ d ∷ ds) right within at = elim (leb_tells key (rank c.key)) [
  | inl hit ↦ rw (hit.0) refl
  | inr miss ↦ (let past = rw (lt-ltb (rank c.key) key miss.1) at at in absurd (omega (arith, past)))
]
child_first key (suc n) (c ∷ cs) right within at = elim (leb_tells key (rank c.key)) [
  | inl hit ↦ (let none = rw (le-ltb (rank c.key) key hit.1) at at in absurd (omega (arith, none)))
  | inr miss ↦ (let next = rw (lt-ltb (rank c.key) key miss.1) at at in rw (miss.0) (child_first key n cs right (omega (arith, within)) (omega (arith, next))))
]

child_second : (key n : ℕ) (cells : List Cell) (right : ℕ) → n < length cells → n + 1 ≡ place_for key cells → child_for key cells right ≡ (first_two (drop n cells) right).right
child_second key n [] right within at = absurd (omega (arith, within))
child_second key zero (c ∷ []) right within at = elim (leb_tells key (rank c.key)) [
  | inl hit ↦ (let none = rw (le-ltb (rank c.key) key hit.1) at at in absurd (omega (arith, none)))
  | inr miss ↦ rw (miss.0) refl
]
child_second key zero (c ∷ d ∷ ds) right within at = elim (leb_tells key (rank c.key)) [
  | inl hit ↦ (let none = rw (le-ltb (rank c.key) key hit.1) at at in absurd (omega (arith, none)))
  | inr miss ↦ (let next = rw (lt-ltb (rank c.key) key miss.1) at at in rw (miss.0) (elim (leb_tells key (rank d.key)) [
    | inl hit ↦ rw (hit.0) refl
    | inr past ↦ (let far = rw (lt-ltb (rank d.key) key past.1) at next in absurd (omega (arith, far)))
  ]))
]
child_second key (suc n) (c ∷ cs) right within at = elim (leb_tells key (rank c.key)) [
  | inl hit ↦ (let none = rw (le-ltb (rank c.key) key hit.1) at at in absurd (omega (arith, none)))
  | inr miss ↦ (let next = rw (lt-ltb (rank c.key) key miss.1) at at in rw (miss.0) (child_second key n cs right (omega (arith, within)) (omega (arith, next))))
]

pub pair_has_child : PairHasChild
pair_has_child key n run within = (child_first key n run.cells run.right within, child_second key n run.cells run.right within)
