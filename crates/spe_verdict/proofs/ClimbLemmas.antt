-- The rowids of a tree ascend.
use Rattle.std.proofs.Common.{◌≡◌, ℕ, zero, suc, ℤ, pos, negsuc, ◌+◌, ◌<◌, ◌≤◌, List, [], ◌∷◌, ◌++◌, refl, arith, true, false}
use Rattle.std.specs.Prelude.{int_lt}
use Rattle.std.proofs.lemmas.Bool.{le-ltb, lt-ltb}
use Rattle.spe_model.specs.declared.page.Cell.{Cell}
use Rattle.spe_model.specs.Paging.{Paging}
use Rattle.spe_model.specs.Tree.{AreRows, AreUnder, IsTree, fan, node_cells, node_right, rank, rows_of, tree_rows}

-- ranks ascend from a bound and stay below another
abbrev pub Climbs : (low high : ℕ) → List (ℤ × List ℕ) → Type 0
Climbs low high [] = low ≤ high
Climbs low high (r ∷ rs) = (low ≤ rank r.0) × (rank r.0 < high) × Climbs (rank r.0 + 1) high rs

climbs_le : (low high : ℕ) (rows : List (ℤ × List ℕ)) → Climbs low high rows → low ≤ high
climbs_le low high [] climbs = climbs
climbs_le low high (r ∷ rs) climbs = let a = climbs.0 in let b = climbs.1 in omega arith

climbs_lower : (lower low high : ℕ) (rows : List (ℤ × List ℕ)) → lower ≤ low → Climbs low high rows → Climbs lower high rows
climbs_lower lower low high [] le climbs = omega arith
climbs_lower lower low high (r ∷ rs) le climbs = let a = climbs.0 in (omega arith, climbs.1, climbs.2)

climbs-append : (low mid high : ℕ) (xs ys : List (ℤ × List ℕ)) → Climbs low mid xs → Climbs mid high ys → Climbs low high (xs ++ ys)
climbs-append low mid high [] ys a b = climbs_lower low mid high ys a b
climbs-append low mid high (x ∷ xs) ys a b =
    let up = climbs_le mid high ys b in
    let under = a.1 in
    (a.0, omega arith, climbs-append (rank x.0 + 1) mid high xs ys a.2 b)

climbs_leaf : (usable : ℕ) (pages : Paging) (low high : ℕ) (cells : List Cell) → AreRows usable pages low high cells → Climbs low high (rows_of usable pages cells)
climbs_leaf usable pages low high [] rows = rows
climbs_leaf usable pages low high (c ∷ cs) rows = (rows.0, rows.1, climbs_leaf usable pages (rank c.key + 1) high cs rows.3)

climbs_fan : (T : (low high page : ℕ) → Type 0) (own : ℕ → List (ℤ × List ℕ)) → ((low high page : ℕ) → T low high page → Climbs low high (own page))
    → (low high : ℕ) (cells : List Cell) (right : ℕ) → AreUnder T low high cells right → Climbs low high (fan own cells right)
climbs_fan T own each low high [] right under = each low high right under
climbs_fan T own each low high (c ∷ cs) right under =
    climbs-append low (rank c.key + 1) high (own c.left) (fan own cs right)
    (each low (rank c.key + 1) c.left under.2) (climbs_fan T own each (rank c.key + 1) high cs right under.3)

pub climbs_tree : (usable : ℕ) (pages : Paging) (height low high page : ℕ) → IsTree usable pages height low high page → Climbs low high (tree_rows usable pages height page)
climbs_tree usable pages zero low high page is = climbs_leaf usable pages low high (node_cells usable pages page) is.1
climbs_tree usable pages (suc height) low high page is =
    climbs_fan (IsTree usable pages height) (tree_rows usable pages height) (λ l h p t. climbs_tree usable pages height l h p t)
    low high (node_cells usable pages page) (node_right usable pages page) is.1

pub lower_rank : (a b : ℤ) → rank a < rank b → int_lt a b ≡ true
lower_rank (pos a) (pos b) lower = lt-ltb a b (omega arith)
lower_rank (pos a) (negsuc b) lower = absurd (omega arith)
lower_rank (negsuc a) (pos b) lower = refl
lower_rank (negsuc a) (negsuc b) lower = lt-ltb b a (omega arith)

pub not_below_self : (a : ℤ) → int_lt a a ≡ false
not_below_self (pos a) = le-ltb a a (omega arith)
not_below_self (negsuc a) = le-ltb a a (omega arith)
