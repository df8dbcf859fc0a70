-- Marks of chains of overflow pages.
use Rattle.std.proofs.Common.{◌≡◌, ◌⊎◌, ℕ, zero, suc, ◌+◌, ◌-◌, ◌/◌, ◌<◌, ◌≤◌, [], refl, arith, ⊎_elim, inl, inr}
use Rattle.std.specs.Prelude.{◌==◌}
use Rattle.std.proofs.lemmas.Bool.{cases_lt, eq-eqb, eqb-true, eqb-false, ne_eqb, not-true, not_from_false}
use Rattle.std.proofs.lemmas.Nat.{div_below, le-div}
use Rattle.std.proofs.Math.Nat.{add-div_right}
use Rattle.spe_model.specs.declared.page.Cell.{Cell}
use Rattle.spe_model.specs.Chain.{AreLinks, link_room, links, next_page}
use Rattle.spe_model.specs.Paging.{Paging}
use Rattle.spe_model.specs.Standing.{chain_pages, link_pages}
use Rattle.spe_model.specs.Tree.{rest_of}
use Rattle.spe_model.specs.Walk.{chain_marks}
use Rattle.spe_verdict.proofs.MarkLemmas.{AreKept, named}

few_or_many : (a b : ℕ) → (b ≤ a) ⊎ (a < b)
few_or_many a b = ⊎_elim (λ (h : a < b). inr h) (λ (h : b ≤ a). inl h) (cases_lt a b)

-- how many parts of so much room hold so many bytes
abbrev pub parts : (room left : ℕ) → ℕ
parts room left = (left + (room - 1)) / room

parts_none : (room : ℕ) → 0 < room → parts room 0 ≡ 0
parts_none room some = let few = div_below (0 + (room - 1)) room 1 some (omega arith) in omega arith

parts_some : (room left : ℕ) → 0 < room → 0 < left → 1 ≤ parts room left
parts_some room left some more = le-div 1 (left + (room - 1)) room some (omega arith)

parts_one : (room left : ℕ) → 0 < room → left ≤ room → parts room left < 2
parts_one room left some few = div_below (left + (room - 1)) room 2 some (omega arith)

parts_more : (room left : ℕ) → 0 < room → room < left → parts room left ≡ parts room (left - room) + 1
parts_more room left some more =
    let split : left + (room - 1) ≡ (left - room) + (room - 1) + room = omega arith in
    rw split (add-div_right ((left - room) + (room - 1)) some)

parts_after : (room left count : ℕ) → 0 < room → parts room left ≡ suc count → parts room (left - room) ≡ count
parts_after room left count some is = ⊎_elim
    (λ (few : left ≤ room).
    let one = parts_one room left some few in
    let none : left - room ≡ 0 = omega arith in
    let rest : parts room (left - room) ≡ 0 = rw none (parts_none room some) in
    omega arith)
    (λ (many : room < left). let more = parts_more room left some many in omega arith)
    (few_or_many room left)

parts_need : (room left count : ℕ) → 0 < room → parts room left ≡ suc count → 0 < left
parts_need room zero count some is = let none = parts_none room some in absurd (omega arith)
parts_need room (suc left) count some is = omega arith

parts_done : (room left : ℕ) → 0 < room → parts room left ≡ 0 → left ≡ 0
parts_done room zero some is = refl
parts_done room (suc left) some is = let one = parts_some room (suc left) some (omega arith) in absurd (omega arith)

no_links : (usable left : ℕ) → 5 ≤ usable → links usable left ≡ 0 → left ≡ 0
unfolding links
no_links usable left wide none = parts_done (usable - 4) left (omega arith) none

links_none : (usable : ℕ) → 5 ≤ usable → links usable 0 ≡ 0
unfolding links
links_none usable wide = parts_none (usable - 4) (omega arith)

more_links : (usable left count : ℕ) → 5 ≤ usable → links usable left ≡ suc count → (0 < left) × (links usable (left - link_room usable) ≡ count)
unfolding links
more_links usable left count wide some = (parts_need (usable - 4) left count (omega arith) some, parts_after (usable - 4) left count (omega arith) some)

pub chain_sound : (usable : ℕ) (pages : Paging) (count left holder page : ℕ)
    → 5 ≤ usable → links usable left ≡ count → AreKept (chain_marks pages count holder page) → AreLinks usable pages count left page
chain_sound usable pages zero left holder page wide counted kept = (no_links usable left wide counted, eqb-true page 0 kept.0)
chain_sound usable pages (suc count) left holder page wide counted kept =
    let more = more_links usable left count wide counted in
    let other = eqb-false page 0 (not-true (page == 0) kept.0) in
    (more.0, omega arith, chain_sound usable pages count (left - link_room usable) page (next_page pages page) wide more.1 kept.1)

pub chain_complete : (usable : ℕ) (pages : Paging) (count left holder page : ℕ)
    → AreLinks usable pages count left page → AreKept (chain_marks pages count holder page)
chain_complete usable pages zero left holder page is = (eq-eqb page 0 is.1, tt)
chain_complete usable pages (suc count) left holder page is = (
  not_from_false (page == 0) (ne_eqb page 0 (λ (e : page ≡ 0). let some = is.1 in absurd (omega arith))),
  chain_complete usable pages count (left - link_room usable) page (next_page pages page) is.2,
)

pub chain_named : (pages : Paging) (count holder page : ℕ) → named (chain_marks pages count holder page) ≡ link_pages pages count page
chain_named pages zero holder page = refl
chain_named pages (suc count) holder page = rw (chain_named pages count page (next_page pages page))

-- a cell whose payload is whole has no chain
pub chain_none : (usable : ℕ) (pages : Paging) (c : Cell) → 5 ≤ usable → rest_of c ≡ 0 → chain_pages usable pages c ≡ []
chain_none usable pages c wide none = rw (none, links_none usable wide)
