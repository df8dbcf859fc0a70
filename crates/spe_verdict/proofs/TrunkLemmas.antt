-- Marks of chains of trunks.
use Rattle.std.proofs.Common.{◌≡◌, ℕ, zero, suc, ◌-◌, ◌/◌, ◌<◌, ◌≤◌, List, [], ◌∷◌, ◌++◌, length, map, refl, ap, ◌∙◌, arith, true, false, ⊎_elim, length-append}
use Rattle.std.specs.Prelude.{◌==◌}
use Rattle.std.proofs.lemmas.Bool.{cases_Bool, eq-eqb, eqb-true, eqb-false, ne_eqb, le-leb, leb-true}
use Rattle.spe_model.specs.FreeList.{AreTrunks, has_room, leaf_count, leaves_of, next_trunk, trunk_pages}
use Rattle.spe_model.specs.Paging.{Paging}
use Rattle.spe_model.specs.Walk.{Names, trunk_marks, walk_trunks}
use Rattle.spe_verdict.proofs.MarkLemmas.{AreKept, kept-append, kept_parts, named, named-append}

names_kept : (holder : ℕ) (leaves : List ℕ) → AreKept (map (Names holder) leaves)
names_kept holder [] = tt
names_kept holder (l ∷ ls) = names_kept holder ls

names_named : (holder : ℕ) (leaves : List ℕ) → named (map (Names holder) leaves) ≡ leaves
names_named holder [] = refl
names_named holder (l ∷ ls) = rw (names_named holder ls)

-- there are so many trunks from one on, and no more than some number
pub record HasTrunks (usable : ℕ) (pages : Paging) (most trunk : ℕ) : Type 0 where
  pub trunks : ℕ
  pub whole : AreTrunks usable pages trunks trunk
  pub few : trunks ≤ most

no_trunks : (usable : ℕ) (pages : Paging) (most trunk : ℕ) → trunk ≡ 0 → HasTrunks usable pages most trunk
no_trunks usable pages most trunk none = record { trunks = 0; whole = none; few = omega arith }

pub trunk_sound : (usable : ℕ) (pages : Paging) (most holder trunk : ℕ)
    → AreKept (trunk_marks usable pages most holder trunk) → length (named (trunk_marks usable pages most holder trunk)) ≤ most → HasTrunks usable pages most trunk
trunk_sound usable pages zero holder trunk kept few = ⊎_elim
    (λ (is : (trunk == 0) ≡ true). no_trunks usable pages zero trunk (eqb-true trunk 0 is))
    (λ (is : (trunk == 0) ≡ false). let one : 1 ≤ 0 = rw is at few in absurd (omega arith))
    (cases_Bool (trunk == 0))
trunk_sound usable pages (suc most) holder trunk kept few = ⊎_elim
    (λ (is : (trunk == 0) ≡ true). no_trunks usable pages (suc most) trunk (eqb-true trunk 0 is))
    (λ (is : (trunk == 0) ≡ false).
    let other = eqb-false trunk 0 is in
    let next = trunk_marks usable pages most trunk (next_trunk pages trunk) in
    let leaves = map (Names trunk) (leaves_of pages trunk) in
    let all : (has_room usable pages trunk ≡ true) × AreKept (map (Names trunk) (leaves_of pages trunk) ++ trunk_marks usable pages most trunk (next_trunk pages trunk)) = rw is at kept in
    let parts = kept_parts leaves next all.1 in
    let long : suc (length (named (map (Names trunk) (leaves_of pages trunk) ++ trunk_marks usable pages most trunk (next_trunk pages trunk)))) ≤ suc most = rw is at few in
    let split = ap (λ (ps : List ℕ). length ps) (named-append leaves next) in
    let both = length-append (named leaves) (named next) in
    let rest = trunk_sound usable pages most trunk (next_trunk pages trunk) parts.1 (omega arith) in
    let up = rest.few in
    record {
      trunks = suc rest.trunks;
      whole = (omega arith, leb-true (leaf_count pages trunk) (usable / 4 - 2) all.0, rest.whole);
      few = omega arith;
    })
    (cases_Bool (trunk == 0))

first_trunk : (trunk : ℕ) → 0 < trunk → (trunk == 0) ≡ false
first_trunk trunk some = ne_eqb trunk 0 (λ (e : trunk ≡ 0). absurd (omega arith))

pub trunk_complete : (usable : ℕ) (pages : Paging) (most holder trunks trunk : ℕ)
    → AreTrunks usable pages trunks trunk → trunks ≤ most → AreKept (trunk_marks usable pages most holder trunk)
trunk_complete usable pages zero holder zero trunk is few = rw (eq-eqb trunk 0 is) tt
trunk_complete usable pages zero holder (suc trunks) trunk is few = absurd (omega arith)
trunk_complete usable pages (suc most) holder zero trunk is few = rw (eq-eqb trunk 0 is) tt
trunk_complete usable pages (suc most) holder (suc trunks) trunk is few = rw (first_trunk trunk is.0) (
  le-leb (leaf_count pages trunk) (usable / 4 - 2) is.1,
  kept-append (map (Names trunk) (leaves_of pages trunk)) (trunk_marks usable pages most trunk (next_trunk pages trunk))
      (names_kept trunk (leaves_of pages trunk)) (trunk_complete usable pages most trunk trunks (next_trunk pages trunk) is.2 (omega arith)),
)

pub trunk_named : (usable : ℕ) (pages : Paging) (most holder trunks trunk : ℕ)
    → AreTrunks usable pages trunks trunk → trunks ≤ most → named (trunk_marks usable pages most holder trunk) ≡ trunk_pages pages trunks trunk
trunk_named usable pages zero holder zero trunk is few = rw (eq-eqb trunk 0 is) refl
trunk_named usable pages zero holder (suc trunks) trunk is few = absurd (omega arith)
trunk_named usable pages (suc most) holder zero trunk is few = rw (eq-eqb trunk 0 is) refl
trunk_named usable pages (suc most) holder (suc trunks) trunk is few = rw (first_trunk trunk is.0)
    (ap (λ (ps : List ℕ). trunk ∷ ps)
    (named-append (map (Names trunk) (leaves_of pages trunk)) (trunk_marks usable pages most trunk (next_trunk pages trunk))
    ∙ rw (names_named trunk (leaves_of pages trunk), trunk_named usable pages most trunk trunks (next_trunk pages trunk) is.2 (omega arith)) refl))

pub trunk_walked : (usable : ℕ) (pages : Paging) (most trunks trunk : ℕ)
    → AreTrunks usable pages trunks trunk → trunks ≤ most → walk_trunks pages most trunk ≡ trunk_pages pages trunks trunk
trunk_walked usable pages zero zero trunk is few = refl
trunk_walked usable pages zero (suc trunks) trunk is few = absurd (omega arith)
trunk_walked usable pages (suc most) zero trunk is few = rw (eq-eqb trunk 0 is) refl
trunk_walked usable pages (suc most) (suc trunks) trunk is few = rw (first_trunk trunk is.0)
    (ap (λ (ps : List ℕ). trunk ∷ leaves_of pages trunk ++ ps) (trunk_walked usable pages most trunks (next_trunk pages trunk) is.2 (omega arith)))

pub trunk_count : (pages : Paging) (trunks trunk : ℕ) → trunks ≤ length (trunk_pages pages trunks trunk)
trunk_count pages zero trunk = omega arith
trunk_count pages (suc trunks) trunk =
    let rest = trunk_count pages trunks (next_trunk pages trunk) in
    let both = length-append (leaves_of pages trunk) (trunk_pages pages trunks (next_trunk pages trunk)) in
    omega arith

-- a chain of trunks has one number of them
pub trunks_same : (usable : ℕ) (pages : Paging) (a b trunk : ℕ) → AreTrunks usable pages a trunk → AreTrunks usable pages b trunk → a ≡ b
trunks_same usable pages zero zero trunk x y = refl
trunks_same usable pages zero (suc b) trunk x y = let some = y.0 in absurd (omega arith)
trunks_same usable pages (suc a) zero trunk x y = let some = x.0 in absurd (omega arith)
trunks_same usable pages (suc a) (suc b) trunk x y = ap (λ (n : ℕ). suc n) (trunks_same usable pages a b (next_trunk pages trunk) x.2 y.2)
