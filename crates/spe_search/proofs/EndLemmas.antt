-- The last row of a tree, and its end without the children that have no rows.
use Rattle.std.proofs.Common.{◌≡◌, ℕ, zero, suc, ℤ, ◌+◌, ◌<◌, ◌≤◌, ◌∙◌, List, [], ◌∷◌, ◌++◌, length, map, take, get_or, Option, Some, None, refl, sym, ap, arith, append-nil, inl, inr}
use Rattle.std.specs.List.{Contains, last_or}
use Rattle.std.specs.Option.{option_map_or}
use Rattle.std.proofs.lemmas.Bool.Decides.{leb_tells}
use Rattle.std.proofs.lemmas.List.{get_or-map, length-map}
use Rattle.spe_model.specs.declared.page.Cell.{Cell}
use Rattle.spe_model.specs.Paging.{Paging}
use Rattle.spe_model.specs.Tree.{rank, AreRows, AreUnder, IsTree, rows_of, fan, tree_rows, node_cells, node_right}
use Rattle.spe_model.specs.Range.{touched}
use Rattle.spe_search.specs.Last.{last_rowid, last_rank, last_key}
use Rattle.spe_search.proofs.PlaceLemmas.{cell_there}

last_place : {X : Type 0} (o : Option X) (xs : List X) (i : ℕ) (d : X) → length xs ≡ suc i → last_or o xs ≡ Some (get_or xs i d)
last_place o [] i d e = absurd (omega (arith, e))
last_place o (x ∷ []) zero d e = refl
last_place o (x ∷ y ∷ ys) zero d e = absurd (omega (arith, e))
last_place o (x ∷ xs) (suc i) d e = last_place (Some x) xs i d (omega (arith, e))

-- the last cell that a leaf shows
pub last_shown : (shown : List (Option Cell)) (i : ℕ) (c : Cell) → Some c ≡ get_or shown i None → length shown ≡ suc i → (cells : List Cell) → shown ≡ map Some cells → Some c.key ≡ last_key cells
last_shown shown i c is all cells e =
    let many : length cells ≡ suc i = sym (length-map cells Some) ∙ sym (ap length e) ∙ all in
    let last : last_key cells ≡ Some (get_or (map (λ (x : Cell). x.key) cells) i c.key) = last_place None (map (λ (x : Cell). x.key) cells) i c.key (length-map cells (λ (x : Cell). x.key) ∙ many) in
    let there : get_or (map (λ (x : Cell). x.key) cells) i c.key ≡ (get_or cells i c).key = get_or-map (λ (x : Cell). x.key) cells i c c.key (omega (arith, many)) in
    sym (last ∙ ap Some (there ∙ ap (λ (x : Cell). x.key) (cell_there shown cells i c c e is (omega (arith, all)))))

pub none_shown : (shown : List (Option Cell)) → length shown ≡ 0 → (cells : List Cell) → shown ≡ map Some cells → None ≡ last_key cells
none_shown shown none [] e = refl
none_shown shown none (c ∷ cs) e = absurd (omega (arith, none, ap length e))

last_some : (x : ℤ) (xs : List ℤ) (a b : ℕ) → option_map_or rank (last_or (Some x) xs) a ≡ option_map_or rank (last_or (Some x) xs) b
last_some x [] a b = refl
last_some x (y ∷ ys) a b = last_some y ys a b

last_rank-cons : (a : ℕ) (r : ℤ × List ℕ) (rs : List (ℤ × List ℕ)) → last_rank a (r ∷ rs) ≡ last_rank (rank r.0) rs
last_rank-cons a r [] = refl
last_rank-cons a r (s ∷ ss) = last_some s.0 (map (λ (x : ℤ × List ℕ). x.0) ss) a (rank r.0)

last_rank-append : (a : ℕ) (xs ys : List (ℤ × List ℕ)) → last_rank a (xs ++ ys) ≡ last_rank (last_rank a xs) ys
last_rank-append a [] ys = refl
last_rank-append a (x ∷ xs) ys = last_rank-cons a x (xs ++ ys) ∙ last_rank-append (rank x.0) xs ys ∙ ap (λ n. last_rank n ys) (sym (last_rank-cons a x xs))

last_rank-mono : (a b : ℕ) (rows : List (ℤ × List ℕ)) → a ≤ b → last_rank a rows ≤ last_rank b rows
last_rank-mono a b [] less = less
last_rank-mono a b (r ∷ rs) less = let same = last_some r.0 (map (λ (x : ℤ × List ℕ). x.0) rs) a b in omega (arith, same)

rows_last : (usable : ℕ) (pages : Paging) (o a b to : ℕ) (cells : List Cell) → AreRows usable pages a b cells → b ≤ to → o < to → last_rank o (rows_of usable pages cells) < to
rows_last usable pages o a b to [] rows within less = less
rows_last usable pages o a b to (c ∷ cs) rows within less =
    rw (last_rank-cons o (c.key, _) (rows_of usable pages cs)) (rows_last usable pages (rank c.key) (rank c.key + 1) b to cs rows.3 within (omega (arith, rows.1, within)))

fan_last : (T : ℕ → ℕ → ℕ → Type 0) (rows : ℕ → List (ℤ × List ℕ)) → ((o a b to page : ℕ) → T a b page → b ≤ to → o < to → last_rank o (rows page) < to)
    → (o a b to : ℕ) (cells : List Cell) (right : ℕ) → AreUnder T a b cells right → b ≤ to → o < to → last_rank o (fan rows cells right) < to
fan_last T rows own o a b to [] right under within less = own o a b to right under within less
fan_last T rows own o a b to (c ∷ cs) right under within less =
    rw (last_rank-append o (rows c.left) (fan rows cs right))
    (fan_last T rows own (last_rank o (rows c.left)) (rank c.key + 1) b to cs right under.3 within
    (own o a (rank c.key + 1) to c.left under.2 (omega (arith, under.1, within)) less))

-- the last row of a tree is below its bound
pub tree_last : (usable : ℕ) (pages : Paging) (height o a b to page : ℕ) → IsTree usable pages height a b page → b ≤ to → o < to → last_rank o (tree_rows usable pages height page) < to
tree_last usable pages zero o a b to page tree within less = rows_last usable pages o a b to (node_cells usable pages page) tree.1 within less
tree_last usable pages (suc height) o a b to page tree within less =
    fan_last (IsTree usable pages height) (tree_rows usable pages height) (tree_last usable pages height) o a b to (node_cells usable pages page) (node_right usable pages page) tree.1 within less

pub under_last : (usable : ℕ) (pages : Paging) (height o a b to : ℕ) (cells : List Cell) (child : ℕ) → AreUnder (IsTree usable pages height) a b cells child → b ≤ to → o < to
    → last_rank o (fan (tree_rows usable pages height) cells child) < to
under_last usable pages height o a b to cells child under within less =
    fan_last (IsTree usable pages height) (tree_rows usable pages height) (tree_last usable pages height) o a b to cells child under within less

-- the last child is a tree, in which a walk from the last row on begins no later than in the whole
pub record IsEndTree (T : ℕ → ℕ → ℕ → Type 0) (rows : ℕ → List (ℤ × List ℕ)) (a b : ℕ) (cells : List Cell) (child : ℕ) : Type 0 where
  pub low : ℕ
  pub tree : T low b child
  pub reach : last_rank a (fan rows cells child) ≤ last_rank low (rows child)

end_under : (T : ℕ → ℕ → ℕ → Type 0) (rows : ℕ → List (ℤ × List ℕ)) → ((o a b to page : ℕ) → T a b page → b ≤ to → o < to → last_rank o (rows page) < to)
    → (a b : ℕ) (cells : List Cell) (child : ℕ) → AreUnder T a b cells child → IsEndTree T rows a b cells child
end_under T rows own a b [] child under = record { low = a; tree = under; reach = omega arith }
end_under T rows own a b (c ∷ cs) child under =
    let next = end_under T rows own (rank c.key + 1) b cs child under.3 in
    let before : last_rank a (rows c.left) < rank c.key + 1 = own a a (rank c.key + 1) (rank c.key + 1) c.left under.2 (omega arith) (omega (arith, under.0)) in
    let up = last_rank-mono (last_rank a (rows c.left)) (rank c.key + 1) (fan rows cs child) (omega (arith, before)) in
    record { low = next.low; tree = next.tree; reach = rw (last_rank-append a (rows c.left) (fan rows cs child)) (omega (arith, up, next.reach)) }

pub end_tree : (usable : ℕ) (pages : Paging) (height a b : ℕ) (cells : List Cell) (child : ℕ) → AreUnder (IsTree usable pages height) a b cells child
    → IsEndTree (IsTree usable pages height) (tree_rows usable pages height) a b cells child
end_tree usable pages height a b cells child under = end_under (IsTree usable pages height) (tree_rows usable pages height) (tree_last usable pages height) a b cells child under

last_or_later : (o : Option ℤ) (xs : List ℤ) (x : ℤ) → last_or None xs ≡ Some x → last_or o xs ≡ Some x
last_or_later o [] x e = absurd (let no : None ≡ Some x = e in cc)
last_or_later o (y ∷ ys) x e = e

later : (o : Option ℤ) (xs ys : List (ℤ × List ℕ)) (x : ℤ) → last_rowid ys ≡ Some x → last_or o (map (λ (r : ℤ × List ℕ). r.0) (xs ++ ys)) ≡ Some x
later o [] ys x e = last_or_later o (map (λ (r : ℤ × List ℕ). r.0) ys) x e
later o (r ∷ rs) ys x e = later (Some r.0) rs ys x e

-- the last child with rows has the last row
pub end_found : (rows : ℕ → List (ℤ × List ℕ)) (cells : List Cell) (child : ℕ) (x : ℤ) → last_rowid (rows child) ≡ Some x → last_rowid (fan rows cells child) ≡ Some x
end_found rows [] child x e = e
end_found rows (c ∷ cs) child x e = later None (rows c.left) (fan rows cs child) x (end_found rows cs child x e)

some_last : (x : ℤ) (xs : List ℤ) → last_or (Some x) xs ≡ None → ⊥
some_last x [] e = let no : Some x ≡ None = e in cc
some_last x (y ∷ ys) e = some_last y ys e

pub no_rows : (rows : List (ℤ × List ℕ)) → last_rowid rows ≡ None → rows ≡ []
no_rows [] e = refl
no_rows (r ∷ rs) e = absurd (some_last r.0 (map (λ (x : ℤ × List ℕ). x.0) rs) e)

-- a last child without rows is left out
pub fan_cut : (rows : ℕ → List (ℤ × List ℕ)) (cells : List Cell) (k right : ℕ) (d : Cell) → k < length cells → rows right ≡ []
    → fan rows (take (suc k) cells) right ≡ fan rows (take k cells) (get_or cells k d).left
fan_cut rows [] k right d within none = absurd (omega (arith, within))
fan_cut rows (c ∷ cs) zero right d within none = ap (λ xs. rows c.left ++ xs) none ∙ append-nil (rows c.left)
fan_cut rows (c ∷ cs) (suc k) right d within none = ap (λ xs. rows c.left ++ xs) (fan_cut rows cs k right d (omega (arith, within)) none)

-- the key of a cell is within the bounds
pub under_key : (T : ℕ → ℕ → ℕ → Type 0) (a b : ℕ) (cells : List Cell) (k right : ℕ) (d : Cell) → k < length cells → AreUnder T a b (take (suc k) cells) right
    → (a ≤ rank (get_or cells k d).key) × (rank (get_or cells k d).key < b)
under_key T a b [] k right d within under = absurd (omega (arith, within))
under_key T a b (c ∷ cs) zero right d within under = (under.0, under.1)
under_key T a b (c ∷ cs) (suc k) right d within under =
    let key = under_key T (rank c.key + 1) b cs k right d (omega (arith, within)) under.3 in
    (omega (arith, under.0, key.0), key.1)

pub under_cut : (T : ℕ → ℕ → ℕ → Type 0) (a b : ℕ) (cells : List Cell) (k right : ℕ) (d : Cell) → k < length cells → AreUnder T a b (take (suc k) cells) right
    → AreUnder T a (rank (get_or cells k d).key + 1) (take k cells) (get_or cells k d).left
under_cut T a b [] k right d within under = absurd (omega (arith, within))
under_cut T a b (c ∷ cs) zero right d within under = under.2
under_cut T a b (c ∷ cs) (suc k) right d within under =
    let key = under_key T (rank c.key + 1) b cs k right d (omega (arith, within)) under.3 in
    (under.0, omega (arith, key.0), under.2, under_cut T (rank c.key + 1) b cs k right d (omega (arith, within)) under.3)

contains_more : (xs : List ℕ) (x n : ℕ) → Contains xs n → Contains (x ∷ xs) n
contains_more xs x n has = (suc has.0, omega (arith, has.1), has.2)

pub touched_left : (T : ℕ → ℕ → ℕ → Type 0) (a b from to : ℕ) (cells : List Cell) (k right : ℕ) (d : Cell) → AreUnder T a b cells right → k < length cells
    → from ≤ rank (get_or cells k d).key → b ≤ to → Contains (touched from to cells right) (get_or cells k d).left
touched_left T a b from to [] k right d under within begins ends = absurd (omega (arith, within))
touched_left T a b from to (c ∷ cs) zero right d under within begins ends = elim (leb_tells (suc (rank c.key)) from) [
  | inl hit ↦ absurd (omega (arith, hit.1, begins))
  | inr miss ↦ (elim (leb_tells to (rank c.key)) [
    | inl last ↦ absurd (omega (arith, last.1, under.1, ends))
    | inr more ↦ rw (miss.0, more.0) (0, omega arith, refl)
  ])
]
touched_left T a b from to (c ∷ cs) (suc k) right d under within begins ends =
    let next = touched_left T (rank c.key + 1) b from to cs k right d under.3 (omega (arith, within)) begins ends in
    elim (leb_tells (suc (rank c.key)) from) [
      | inl hit ↦ rw hit.0 next
      | inr miss ↦ (elim (leb_tells to (rank c.key)) [
        | inl last ↦ absurd (omega (arith, last.1, under.1, ends))
        | inr more ↦ rw (miss.0, more.0) (contains_more (touched from to cs right) c.left (get_or cs k d).left next)
      ])
    ]

pub touched_right : (T : ℕ → ℕ → ℕ → Type 0) (a b from to : ℕ) (cells : List Cell) (right : ℕ) → AreUnder T a b cells right → b ≤ to → Contains (touched from to cells right) right
touched_right T a b from to [] right under ends = (0, omega arith, refl)
touched_right T a b from to (c ∷ cs) right under ends =
    let next = touched_right T (rank c.key + 1) b from to cs right under.3 ends in
    elim (leb_tells (suc (rank c.key)) from) [
      | inl hit ↦ rw hit.0 next
      | inr miss ↦ (elim (leb_tells to (rank c.key)) [
        | inl last ↦ absurd (omega (arith, last.1, under.1, ends))
        | inr more ↦ rw (miss.0, more.0) (contains_more (touched from to cs right) c.left right next)
      ])
    ]
