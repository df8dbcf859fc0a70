-- Pages that are made free, one behind the other.
use Rattle.std.proofs.Common.{◌≡◌, ◌≢◌, ℕ, ◌-◌, ◌≤◌, ◌∙◌, List, [], ◌∷◌, take, drop, length, slice_index_or, refl, sym, ap, subst, arith}
use Rattle.std.proofs.lemmas.List.{take_all}
use Rattle.spe_model.specs.Paging.{Paging}
use Rattle.spe_space.specs.declared.pages.Pages.{Ghosts}
use Rattle.spe_space.specs.Calls.{Keeps}
use Rattle.spe_frame.specs.Held.{AreHeld, Shifts, Spares}
use Rattle.spe_frame.specs.Laws.{HeldApart, ShiftsBeside, ShiftsBoth, SparesBeside, SparesBoth}
use Rattle.spe_frame.specs.Times.{Lacks}
use Rattle.spe_frame.proofs.TimesLemmas.{here}

pub first_off : (left : List ℕ) (d : ℕ) → 1 ≤ length left → left ≡ slice_index_or left 0 d ∷ take (length left - 1) (drop 1 left)
first_off [] d some = absurd (omega (arith, some))
first_off (x ∷ xs) d some = ap (λ (ys : List ℕ). x ∷ ys) (sym (take_all (length (x ∷ xs) - 1) xs (omega arith)))

-- the pages that are left, of which the first is next
pub record IsNext {P : Type 0} (g : Ghosts P) (s a : P) (pages : Paging) (all : List ℕ) (page : ℕ) (rest : List ℕ) : Type 0 where
  pub shifts : Shifts g s a pages all (page ∷ rest) 0
  pub held : AreHeld g a pages (page ∷ [])
  pub low : 2 ≤ page

pub next_is : {P : Type 0} (g : Ghosts P) → HeldApart g → (s a : P) (pages : Paging) (all left : List ℕ) (page : ℕ) (rest : List ℕ) → left ≡ page ∷ rest
    → AreHeld g s pages all → Lacks all 1 → Shifts g s a pages all left 0 → IsNext g s a pages all page rest
next_is g apart s a pages all left page rest is held later shifts =
    let now : Shifts g s a pages all (page ∷ rest) 0 = subst (λ (ys : List ℕ). Shifts g s a pages all ys 0) is shifts in
    let one = (apart a pages (page ∷ []) rest (now.held held)).0 in
    let there = here page page [] refl in
    let used = one.used page (omega (arith, there)) in
    let low_ = used.low in
    let lacks = now.front later in
    let other : page ≢ 1 = λ e. let first = here 1 page rest (sym e) in absurd (omega (arith, lacks, first)) in
    record { shifts = now; held = one; low = omega (arith, low_, other) }

pub freed_more : {P : Type 0} (g : Ghosts P) → ShiftsBoth g → ShiftsBeside g → (s a b : P) (pages : Paging) (all : List ℕ) (page : ℕ) (rest : List ℕ)
    → IsNext g s a pages all page rest → Shifts g a b pages (page ∷ []) [] 0 → Shifts g s b pages all rest 0
freed_more g both beside s a b pages all page rest next freed =
    both s a b pages all (page ∷ rest) rest 0 0 next.shifts (beside a b pages (page ∷ []) [] rest 0 freed)

pub freed_fails : {P : Type 0} (g : Ghosts P) → SparesBoth g → SparesBeside g → (s a b : P) (pages : Paging) (all : List ℕ) (page : ℕ) (rest : List ℕ)
    → IsNext g s a pages all page rest → Spares g a b pages (page ∷ []) 0 → Spares g s b pages all 0
freed_fails g both beside s a b pages all page rest next fails =
    both s a b pages all (page ∷ rest) 0 0 next.shifts (beside a b pages (page ∷ []) rest 0 fails)

-- a call after others
pub keeps_then : {P : Type 0} (g : Ghosts P) (a b c : P) → Keeps g a b → Keeps g b c → Keeps g a c
keeps_then g a b c x y = record {
  earlier = λ pages agrees. x.earlier pages (y.earlier pages agrees);
  told = y.told ∙ x.told;
  size = y.size ∙ x.size;
  used = y.used ∙ x.used;
  limit = y.limit ∙ x.limit;
  sealed = y.sealed ∙ x.sealed;
  count = omega (arith, x.count, y.count);
}
