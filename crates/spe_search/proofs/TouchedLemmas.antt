-- The pages that a walk between two rowids touches are pages of the tree.
use Rattle.std.specs.Prelude.{ℕ, zero, suc, List, [], ◌∷◌}
use Rattle.std.specs.List.{Contains}
use Rattle.std.proofs.Common.{arith, inl, inr}
use Rattle.std.proofs.lemmas.Bool.Decides.{leb_tells}
use Rattle.std.proofs.lemmas.List.Elements.{Contains-append_left, Contains-append_right, Contains-append_cases}
use Rattle.spe_model.specs.declared.page.Cell.{Cell}
use Rattle.spe_model.specs.Paging.{Paging}
use Rattle.spe_model.specs.Tree.{rank, fan, tree_pages, node_cells, node_right}
use Rattle.spe_model.specs.Range.{touched, joined}
use Rattle.spe_search.specs.Range.{touched_pages}

joined_one : (own whole : ℕ → List ℕ) (page n : ℕ) → ((p : ℕ) → Contains (own p) n → Contains (whole p) n) → Contains (joined own (page ∷ [])) n → Contains (whole page) n
joined_one own whole page n more has = elim (Contains-append_cases (own page) [] n has) [
  | inl here ↦ more page here
  | inr none ↦ absurd (omega (arith, none.1))
]

touched_fan : (own whole : ℕ → List ℕ) (low high : ℕ) (cells : List Cell) (right n : ℕ) → ((p : ℕ) → Contains (own p) n → Contains (whole p) n)
    → Contains (joined own (touched low high cells right)) n → Contains (fan whole cells right) n
touched_fan own whole low high [] right n more has = joined_one own whole right n more has
touched_fan own whole low high (c ∷ cs) right n more has = elim (leb_tells (suc (rank c.key)) low) [
  | inl under ↦ Contains-append_right (whole c.left) (fan whole cs right) n (touched_fan own whole low high cs right n more (rw under.0 at has))
  | inr from ↦ (elim (leb_tells high (rank c.key)) [
    | inl last ↦ Contains-append_left (whole c.left) (fan whole cs right) n (joined_one own whole c.left n more (rw (from.0, last.0) at has))
    | inr next ↦ (elim (Contains-append_cases (own c.left) (joined own (touched low high cs right)) n (rw (from.0, next.0) at has)) [
      | inl here ↦ Contains-append_left (whole c.left) (fan whole cs right) n (more c.left here)
      | inr later ↦ Contains-append_right (whole c.left) (fan whole cs right) n (touched_fan own whole low high cs right n more later)
    ])
  ])
]

pub touched_in_tree : (usable : ℕ) (pages : Paging) (low high height page n : ℕ) → Contains (touched_pages usable pages low high height page) n → Contains (tree_pages usable pages height page) n
touched_in_tree usable pages low high zero page n has = has
touched_in_tree usable pages low high (suc height) page n has =
    let cells = node_cells usable pages page in
    let right = node_right usable pages page in
    let own = touched_pages usable pages low high height in
    let whole = tree_pages usable pages height in
    elim (Contains-append_cases (page ∷ []) (joined own (touched low high cells right)) n has) [
      | inl here ↦ Contains-append_left (page ∷ []) (fan whole cells right) n here
      | inr below ↦ Contains-append_right (page ∷ []) (fan whole cells right) n (touched_fan own whole low high cells right n (λ p. touched_in_tree usable pages low high height p n) below)
    ]
