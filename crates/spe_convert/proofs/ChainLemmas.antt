-- Free pages in one list.
use Rattle.std.proofs.Common.{◌≡◌, ℕ, zero, suc, ◌<◌, ◌≤◌, ◌∙◌, List, [], ◌∷◌, ◌++◌, take, drop, length, refl, ap, arith}
use Rattle.std.proofs.lemmas.List.{length-drop, length-take, take-append-drop}
use Rattle.spe_frame.proofs.TimesLemmas.{Each}
use Rattle.spe_convert.specs.Trunk.{Trunk}
use Rattle.spe_convert.specs.Dealt.{chained, first_of}
use Rattle.spe_convert.proofs.TrunkLemmas.{AreLinked, EachTrunk, IsSmall, all_of}
use Rattle.spe_convert.proofs.ListLemmas.{each_drop, each_take}

-- the numbers of a trunk fit, and it has at most so many leaves
pub record Fits (most : ℕ) (t : Trunk) : Type 0 where
  pub next : IsSmall t.next
  pub leaves : Each IsSmall t.leaves
  pub few : length t.leaves ≤ most

pub all_chained : (most count : ℕ) (pages : List ℕ) → length pages ≤ count → all_of (chained most count pages) ≡ pages
all_chained most zero [] enough = refl
all_chained most zero (p ∷ ps) enough = absurd (omega (arith, enough))
all_chained most (suc count) [] enough = refl
all_chained most (suc count) (p ∷ ps) enough =
    let l = length-drop most ps in
    let rest = all_chained most count (drop most ps) (omega (arith, enough, l)) in
    ap (λ (qs : List ℕ). p ∷ take most ps ++ qs) rest ∙ ap (λ (qs : List ℕ). p ∷ qs) (take-append-drop most ps)

pub linked_chained : (most count : ℕ) (pages : List ℕ) → length pages ≤ count → Each (λ n. 0 < n) pages → AreLinked (first_of pages) (chained most count pages)
linked_chained most zero [] enough each = refl
linked_chained most zero (p ∷ ps) enough each = absurd (omega (arith, enough))
linked_chained most (suc count) [] enough each = refl
linked_chained most (suc count) (p ∷ ps) enough each =
    let l = length-drop most ps in
    (refl, each.0, linked_chained most count (drop most ps) (omega (arith, enough, l)) (each_drop (λ n. 0 < n) most ps each.1))

small_first : (ps : List ℕ) → Each IsSmall ps → IsSmall (first_of ps)
small_first [] each = omega arith
small_first (p ∷ ps) each = each.0

pub fits_chained : (most count : ℕ) (pages : List ℕ) → Each IsSmall pages → EachTrunk (Fits most) (chained most count pages)
fits_chained most zero pages each = tt
fits_chained most (suc count) [] each = tt
fits_chained most (suc count) (p ∷ ps) each =
    let l = length-take most ps in (
      record { next = small_first (drop most ps) (each_drop IsSmall most ps each.1); leaves = each_take IsSmall most ps each.1; few = omega (arith, l) },
      fits_chained most count (drop most ps) (each_drop IsSmall most ps each.1),
    )
