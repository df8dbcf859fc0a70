-- A chain whose pages become free one after the other.
use Rattle.std.proofs.Common.{◌≡◌, ℕ, zero, suc, ◌-◌, ◌<◌, ◌≤◌, ◌∙◌, List, [], ◌∷◌, refl, sym, ap, subst, arith, inl, inr}
use Rattle.std.proofs.lemmas.Bool.{cases_eq, eq-eqb}
use Rattle.spe_model.specs.Chain.{AreLinks, IsAmiss, link_room, links, next_page}
use Rattle.spe_model.specs.Paging.{Paging}
use Rattle.spe_model.specs.Standing.{link_pages}
use Rattle.spe_space.specs.declared.pages.Pages.{Ghosts}
use Rattle.spe_space.specs.Calls.{sight}
use Rattle.spe_frame.specs.Chain.{ChainStays}
use Rattle.spe_frame.specs.Held.{AreHeld, IsOthers, Shifts, Spares}
use Rattle.spe_frame.specs.Laws.{HeldApart, ShiftsBeside, ShiftsBoth, ShiftsNone, SparesBeside, SparesBoth}
use Rattle.spe_frame.specs.Times.{HoldsOf, Lacks, times}
use Rattle.spe_write.specs.Chain.{GivesLink, IsHeldChain, IsLeft, pages_of_chain}
use Rattle.spe_write.proofs.LinkLemmas.{links_well}

pub left_first : {P : Type 0} (g : Ghosts P) → ShiftsNone g → (s : P) (pages : Paging) (left first : ℕ) → IsHeldChain g s pages left first
    → IsLeft g s s pages (pages_of_chain (g.used s) (sight g s pages) left first) left first
left_first g idle s pages left first whole = record {
  count = links (g.used s) left;
  chain = whole.chain;
  shifts = idle s pages (pages_of_chain (g.used s) (sight g s pages) left first) whole.ready;
}

-- the page that comes next is held, and is not page 1
pub record IsAhead {P : Type 0} (g : Ghosts P) (old now : P) (pages : Paging) (all : List ℕ) (left page : ℕ) : Type 0 where
  pub count : ℕ
  pub rest_is : AreLinks (g.used old) (sight g now pages) count (left - link_room (g.used old)) (next_page (sight g now pages) page)
  pub shifts : Shifts g old now pages all (page ∷ link_pages (sight g now pages) count (next_page (sight g now pages) page)) 0
  pub held : AreHeld g now pages (page ∷ link_pages (sight g now pages) count (next_page (sight g now pages) page))
  pub one : AreHeld g now pages (page ∷ [])
  pub low : 2 ≤ page
  pub later : Lacks (link_pages (sight g now pages) count (next_page (sight g now pages) page)) 1
  pub well : IsAmiss (left - link_room (g.used old)) (next_page (sight g now pages) page) → ⊥

here_once : (page : ℕ) → times page (page ∷ []) ≡ 1
here_once page = rw (eq-eqb page page refl) refl

pub ahead : {P : Type 0} (g : Ghosts P) → HeldApart g → (old now : P) (pages : Paging) (all : List ℕ) (left page : ℕ) → 0 < left
    → AreHeld g old pages all → Lacks all 1 → IsLeft g old now pages all left page → IsAhead g old now pages all left page
ahead g apart old now pages all left page some held lacks is = go is.count is.chain is.shifts
  where
    go : (n : ℕ) → AreLinks (g.used old) (sight g now pages) n left page → Shifts g old now pages all (link_pages (sight g now pages) n page) 0 → IsAhead g old now pages all left page
    go zero chain shifts = absurd (omega (arith, chain.0, some))
    go (suc n) chain shifts =
        let rest = link_pages (sight g now pages) n (next_page (sight g now pages) page) in
        let whole = shifts.held held in
        let one = (apart now pages (page ∷ []) rest whole).0 in
        let first = shifts.front lacks in
        let low : 2 ≤ page = elim (cases_eq page 1) [
          | inl e ↦ (let there = here_once page in let same : times 1 (page ∷ []) ≡ 1 = ap (λ (m : ℕ). times m (page ∷ [])) (sym e) ∙ there in absurd (omega (arith, same, first)))
          | inr other ↦ omega (arith, other, chain.1)
        ] in
        record {
          count = n;
          rest_is = chain.2;
          shifts = shifts;
          held = whole;
          one = one;
          low = low;
          later = omega (arith, first);
          well = links_well (g.used old) (sight g now pages) n (left - link_room (g.used old)) (next_page (sight g now pages) page) chain.2;
        }

pub left_more : {P : Type 0} (g : Ghosts P) → ShiftsBoth g → ShiftsBeside g → ChainStays g → (old now new : P) (pages : Paging) (all : List ℕ) (left page next : ℕ)
    → IsAhead g old now pages all left page → GivesLink g now new pages page next → IsLeft g old new pages all (left - link_room (g.used old)) next
left_more g both beside stays old now new pages all left page next is gives =
    let usable = g.used old in
    let a = sight g now pages in
    let b = sight g new pages in
    let fewer = left - link_room usable in
    let count = is.count in
    let behind = next_page a page in
    let rest = link_pages a count behind in
    let others : HoldsOf (IsOthers g now pages (page ∷ [])) rest = λ n there. record {
      used = is.held.used n (omega (arith, there));
      lacks = omega (arith, there, is.held.single n);
    } in
    let kept = stays now new pages (page ∷ []) 0 usable count fewer behind gives.shifts.spares others is.later in
    let step : Shifts g old new pages all rest 0 = both old now new pages all (page ∷ rest) rest 0 0 is.shifts (beside now new pages (page ∷ []) [] rest 0 gives.shifts) in
    let same = sym gives.next_is in
    record {
      count = count;
      chain = subst (AreLinks usable b count fewer) same (kept.links is.rest_is);
      shifts = subst (λ (n : ℕ). Shifts g old new pages all (link_pages b count n) 0) same (subst (λ (ps : List ℕ). Shifts g old new pages all ps 0) (sym kept.pages_are) step);
    }

-- a page could not be freed
pub left_fails : {P : Type 0} (g : Ghosts P) → SparesBoth g → SparesBeside g → (old now new : P) (pages : Paging) (all : List ℕ) (left page : ℕ)
    → IsAhead g old now pages all left page → Spares g now new pages (page ∷ []) 0 → Spares g old new pages all 0
left_fails g both beside old now new pages all left page is spares =
    let rest = link_pages (sight g now pages) is.count (next_page (sight g now pages) page) in
    both old now new pages all (page ∷ rest) 0 0 is.shifts (beside now new pages (page ∷ []) rest 0 spares)

pub left_none : {P : Type 0} (g : Ghosts P) (old now : P) (pages : Paging) (all : List ℕ) (left page : ℕ) → left ≤ 0 → IsLeft g old now pages all left page → Shifts g old now pages all [] 0
left_none g old now pages all left page none is = go is.count is.chain is.shifts
  where
    go : (n : ℕ) → AreLinks (g.used old) (sight g now pages) n left page → Shifts g old now pages all (link_pages (sight g now pages) n page) 0 → Shifts g old now pages all [] 0
    go zero chain shifts = shifts
    go (suc n) chain shifts = absurd (omega (arith, chain.0, none))
