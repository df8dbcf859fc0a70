use Rattle.std.proofs.Common.{◌≡◌, ◌∙◌, ℕ, suc, ◌+◌, ◌-◌, ◌/◌, ◌<◌, ◌≤◌, Bool, true, false, List, [], ◌∷◌, ◌++◌, take, drop, min, refl, sym, ap, subst, arith, inl, inr, append_assoc, append-nil}
use Rattle.std.proofs.lemmas.Bool.{cases_lt}
use Rattle.std.proofs.lemmas.Nat.{div_below}
use Rattle.std.proofs.Math.Nat.{add-div_left}
use Rattle.spe_model.specs.Paging.{Paging}
use Rattle.spe_model.specs.Chain.{links, links_bytes, chain_bytes, next_page}
use Rattle.std.specs.Prelude.{Result, Ok, Err, OnOk, ◌==◌}
use Rattle.spe_model.specs.Walk.{Keeps, chain_marks}
use Rattle.spe_check.specs.declared.halt.Halt.{Halt}
use Rattle.spe_check.specs.declared.met.Met.{Met}
use Rattle.spe_check.specs.MetPages.{has_met}
use Rattle.spe_check.specs.Chains.{IsAlong, kept_of, link_marks}
use Rattle.spe_check.specs.Tries.{Leads, Tries}
use Rattle.spe_check.proofs.TriesLemmas.{leads_try, leads_halt, leads_last, the_ok, the_err}

pub div_small : (n r : ℕ) → n < r → n / r ≡ 0
div_small n r less = let below = div_below n r 1 (omega (arith, less)) (omega (arith, less)) in omega (arith, below)

div_fewer : (left r : ℕ) → 0 < r → 0 < left → (left - 1) / r ≡ ((left - r) + (r - 1)) / r
div_fewer left r some more = elim (cases_lt left r) [
  | inl less ↦
      let here : left - r ≡ 0 = omega (arith, less) in
      let P : ℕ → Type 0 = λ b. (left - 1) / r ≡ (b + (r - 1)) / r in
      subst P (sym here) (div_small (left - 1) r (omega (arith, less)) ∙ sym (div_small (0 + (r - 1)) r (omega (arith, some))))
  | inr full ↦ ap (λ n. n / r) (omega (arith, full, some, more))
]

plus_one : (n : ℕ) → n + 1 ≡ suc n
plus_one n = omega arith

step_at : (left r : ℕ) → 0 < r → 0 < left → (left + (r - 1)) / r ≡ suc (((left - r) + (r - 1)) / r)
step_at left r some more =
    let same : left + (r - 1) ≡ r + (left - 1) = omega (arith, some, more) in
    let one = add-div_left (left - 1) some in
    ap (λ n. n / r) same ∙ one ∙ ap (λ n. n + 1) (div_fewer left r some more) ∙ plus_one (((left - r) + (r - 1)) / r)

-- a page fewer is needed once it is full
pub links_step : (usable left : ℕ) → 4 < usable → 0 < left → links usable left ≡ suc (links usable (left - (usable - 4)))
unfolding links
links_step usable left room some = step_at left (usable - 4) (omega (arith, room)) some

pub links_none : (usable left : ℕ) → 4 < usable → left ≤ 0 → links usable left ≡ 0
unfolding links
links_none usable left room none = div_small (left + (usable - 4 - 1)) (usable - 4) (omega (arith, room, none))

pub along_first : (usable : ℕ) (pages : Paging) (met : Met) (holder first bytes : ℕ) (wanted : Bool) (old : List ℕ)
    → IsAlong usable pages met met holder first bytes wanted old old holder first bytes
along_first usable pages met holder first bytes wanted old = record { tried = λ more. refl; kept = refl }

-- the marks that are left begin with those of a page
pub along_link : (usable : ℕ) (pages : Paging) (before now : Met) (holder first bytes : ℕ) (wanted : Bool) (old new : List ℕ) (at page left : ℕ)
    → 4 < usable → 0 < left → IsAlong usable pages before now holder first bytes wanted old new at page left
    → Leads before.pages (has_met before) (chain_marks pages (links usable bytes) holder first) (has_met now)
    (link_marks at page ++ chain_marks pages (links usable (left - (usable - 4))) page (next_page pages page))
along_link usable pages before now holder first bytes wanted old new at page left room some along =
    let P : ℕ → Type 0 = λ n. Leads before.pages (has_met before) (chain_marks pages (links usable bytes) holder first) (has_met now) (chain_marks pages n at page) in
    subst P (links_step usable left room some) along.tried

kept_more : (wanted : Bool) (new newer front rest : List ℕ) → newer ≡ kept_of wanted new front → kept_of wanted newer rest ≡ kept_of wanted new (front ++ rest)
kept_more true new newer front rest is = ap (λ x. x ++ rest) is ∙ append_assoc new front rest
kept_more false new newer front rest is = is

pub along_next : (usable : ℕ) (pages : Paging) (before now later : Met) (holder first bytes : ℕ) (wanted : Bool) (old new newer : List ℕ) (at page left here next : ℕ)
    → 4 < usable → 0 < left → here ≡ min left (usable - 4) → now.pages ≡ before.pages → IsAlong usable pages before now holder first bytes wanted old new at page left
    → Tries now.pages (has_met now) (has_met later) (link_marks at page) (the_ok ℕ next) → next ≡ next_page pages page
    → newer ≡ kept_of wanted new (take here (drop 4 (pages page)))
    → IsAlong usable pages before later holder first bytes wanted old newer page next (left - here)
along_next usable pages before now later holder first bytes wanted old new newer at page left here next room some size same along tried is got =
    let fewer : left - (usable - 4) ≡ left - here = omega (arith, size) in
    let full : take (min left (usable - 4)) (drop 4 (pages page)) ≡ take here (drop 4 (pages page)) = ap (λ n. take n (drop 4 (pages page))) (sym size) in
    let Q : ℕ → Type 0 = λ n. Tries n (has_met now) (has_met later) (link_marks at page) (the_ok ℕ next) in
    let led = leads_try ℕ before.pages (has_met before) (has_met now) (has_met later) (chain_marks pages (links usable bytes) holder first) (link_marks at page) (chain_marks pages (links usable (left - (usable - 4))) page (next_page pages page)) next
    (along_link usable pages before now holder first bytes wanted old new at page left room some along) (subst Q same tried) in
    let K : ℕ → Type 0 = λ n. kept_of wanted new (links_bytes usable pages n left page) ≡ kept_of wanted old (chain_bytes usable pages bytes first) in
    let kept = kept_more wanted new newer (take (min left (usable - 4)) (drop 4 (pages page))) (links_bytes usable pages (links usable (left - (usable - 4))) (left - (usable - 4)) (next_page pages page))
    (got ∙ ap (kept_of wanted new) (sym full)) ∙ subst K (links_step usable left room some) along.kept in
    let R : ℕ → ℕ → Type 0 = λ l n. IsAlong usable pages before later holder first bytes wanted old newer page n l in
    let S : ℕ → Type 0 = λ l. R l next in
    subst S fewer (subst (R (left - (usable - 4))) (sym is) (record { tried = led; kept = kept }))

-- the chain ends where no byte is left
pub along_end : (usable : ℕ) (pages : Paging) (before now : Met) (holder first bytes : ℕ) (wanted : Bool) (old new : List ℕ) (at page left : ℕ) (r : Result (Unit {0}) Halt)
    → 4 < usable → left ≤ 0 → now.pages ≡ before.pages → IsAlong usable pages before now holder first bytes wanted old new at page left
    → Tries now.pages (has_met now) (has_met now) (Keeps at 7 (page == 0) ∷ []) r
    → Tries before.pages (has_met before) (has_met now) (chain_marks pages (links usable bytes) holder first) r
    × OnOk r (new ≡ kept_of wanted old (chain_bytes usable pages bytes first))
along_end usable pages before now holder first bytes wanted old new at page left r room none same along tried =
    let is = links_none usable left room none in
    let P : ℕ → Type 0 = λ n. Leads before.pages (has_met before) (chain_marks pages (links usable bytes) holder first) (has_met now) (chain_marks pages n at page) in
    let Q : ℕ → Type 0 = λ n. Tries n (has_met now) (has_met now) (Keeps at 7 (page == 0) ∷ []) r in
    let K : ℕ → Type 0 = λ n. kept_of wanted new (links_bytes usable pages n left page) ≡ kept_of wanted old (chain_bytes usable pages bytes first) in (
      leads_last before.pages (has_met before) (has_met now) (has_met now) (chain_marks pages (links usable bytes) holder first) (Keeps at 7 (page == 0) ∷ []) r (subst P is along.tried) (subst Q same tried),
      on_ok r (none_kept wanted new ∙ subst K is along.kept),
    )
  where
    none_kept : (wanted : Bool) (new : List ℕ) → new ≡ kept_of wanted new []
    none_kept true new = sym (append-nil new)
    none_kept false new = refl

    on_ok : {A : Type 0} (r : Result (Unit {0}) Halt) → A → OnOk r A
    on_ok (Ok x) a = a
    on_ok (Err halt) a = tt

-- a page breaks the chain
pub along_halt : (usable : ℕ) (pages : Paging) (before now later : Met) (holder first bytes : ℕ) (wanted : Bool) (old new : List ℕ) (at page left : ℕ) (halt : Halt)
    → 4 < usable → 0 < left → now.pages ≡ before.pages → IsAlong usable pages before now holder first bytes wanted old new at page left
    → Tries now.pages (has_met now) (has_met later) (link_marks at page) (the_err ℕ halt)
    → Tries before.pages (has_met before) (has_met later) (chain_marks pages (links usable bytes) holder first) (the_err (Unit {0}) halt)
along_halt usable pages before now later holder first bytes wanted old new at page left halt room some same along tried =
    let Q : ℕ → Type 0 = λ n. Tries n (has_met now) (has_met later) (link_marks at page) (the_err ℕ halt) in
    leads_halt ℕ (Unit {0}) before.pages (has_met before) (has_met now) (has_met later) (has_met later) (chain_marks pages (links usable bytes) holder first) (link_marks at page)
    (chain_marks pages (links usable (left - (usable - 4))) page (next_page pages page)) halt
    (along_link usable pages before now holder first bytes wanted old new at page left room some along) (subst Q same tried)
