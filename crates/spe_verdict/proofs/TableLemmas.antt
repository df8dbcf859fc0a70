-- Marks of the tree of a table.
use Rattle.std.proofs.Common.{◌≡◌, ℕ, zero, suc, ℤ, ◌+◌, ◌<◌, ◌≤◌, List, [], ◌∷◌, ◌++◌, refl, sym, ap, ◌∙◌, arith, Bool, true, false, ⊎_elim}
use Rattle.std.specs.Prelude.{◌==◌, ◌&&◌, ◌||◌, not, nat_le, nat_lt}
use Rattle.std.specs.List.{flat_map}
use Rattle.std.proofs.lemmas.Bool.{and_from, and_parts, cases_Bool, eq-eqb, eqb-true, ne_eqb, le-leb, leb-true, lt-ltb, ltb-true, not_from_false}
use Rattle.std.proofs.lemmas.List.{append-nil}
use Rattle.spe_model.specs.declared.page.Cell.{Cell}
use Rattle.spe_model.specs.declared.page.Kind.TheVariants.{TableLeaf, TableInterior}
use Rattle.spe_model.specs.Chain.{links}
use Rattle.spe_model.specs.Kind.{is_leaf, is_table}
use Rattle.spe_model.specs.Paging.{Paging}
use Rattle.spe_model.specs.Standing.{all_pages, chain_pages}
use Rattle.spe_model.specs.Tree.{AreRows, AreUnder, IsTree, fan, node_at, node_cells, node_right, payload_of, rank, rest_of}
use Rattle.spe_model.specs.Walk.{Mark, Keeps, RowMarks, cell_chain, fan_marks, fan_rows, is_leaf_page, is_within_bounds, leaf_marks, leaf_rows, table_marks, walk_rows}
use Rattle.spe_verdict.proofs.ChainLemmas.{chain_complete, chain_named, chain_none, chain_sound}
use Rattle.spe_verdict.proofs.MarkLemmas.{AreKept, kept-append, kept_parts, named, named-append}
use Rattle.spe_verdict.proofs.NodeLemmas.{AreWhole, interior_whole, is_table_interior, is_table_leaf, made_kind, made_legal}

-- what is tried of each row is kept
abbrev pub OwnKept : RowMarks → List (ℕ × ℤ × List ℕ) → Type 0
OwnKept own [] = Unit {0}
OwnKept own (r ∷ rs) = AreKept (own r.0 r.1 r.2) × OwnKept own rs

-- and names no page
abbrev pub NamesNone : RowMarks → Type 0
NamesNone own = (leaf : ℕ) (rowid : ℤ) (payload : List ℕ) → named (own leaf rowid payload) ≡ []

own-append : (own : RowMarks) (xs ys : List (ℕ × ℤ × List ℕ)) → OwnKept own xs → OwnKept own ys → OwnKept own (xs ++ ys)
own-append own [] ys a b = b
own-append own (x ∷ xs) ys a b = (a.0, own-append own xs ys a.1 b)

own_parts : (own : RowMarks) (xs ys : List (ℕ × ℤ × List ℕ)) → OwnKept own (xs ++ ys) → OwnKept own xs × OwnKept own ys
own_parts own [] ys all = (tt, all)
own_parts own (x ∷ xs) ys all = let rest = own_parts own xs ys all.1 in ((all.0, rest.0), rest.1)

within_bounds : (low high : ℕ) (c : Cell) → is_within_bounds low high c ≡ true → (low ≤ rank c.key) × (rank c.key < high)
within_bounds low high c is =
    let parts = and_parts (nat_le low (rank c.key)) (nat_lt (rank c.key) high) is in (leb-true low (rank c.key) parts.0, ltb-true (rank c.key) high parts.1)

bounds_within : (low high : ℕ) (c : Cell) → low ≤ rank c.key → rank c.key < high → is_within_bounds low high c ≡ true
bounds_within low high c low_is high_is =
    and_from (nat_le low (rank c.key)) (nat_lt (rank c.key) high) (le-leb low (rank c.key) low_is) (lt-ltb (rank c.key) high high_is)

leaf_sound : (own : RowMarks) (usable : ℕ) (pages : Paging) (page low high : ℕ) (cells : List Cell)
    → 5 ≤ usable → low ≤ high → AreKept (leaf_marks own usable pages page low high cells) → AreRows usable pages low high cells
leaf_sound own usable pages page low high [] wide below kept = below
leaf_sound own usable pages page low high (c ∷ cs) wide below kept =
    let bounds = within_bounds low high c kept.0 in
    let row = kept_parts (cell_chain usable pages page c ++ own page c.key (payload_of usable pages c)) _ kept.1 in
    let chain = kept_parts (cell_chain usable pages page c) _ row.0 in (
      bounds.0,
      bounds.1,
      chain_sound usable pages (links usable (rest_of c)) (rest_of c) page c.chain wide refl chain.0,
      leaf_sound own usable pages page (rank c.key + 1) high cs wide (let up = bounds.1 in omega arith) row.1,
    )

leaf_own : (own : RowMarks) (usable : ℕ) (pages : Paging) (page low high : ℕ) (cells : List Cell)
    → AreKept (leaf_marks own usable pages page low high cells) → OwnKept own (leaf_rows usable pages page cells)
leaf_own own usable pages page low high [] kept = tt
leaf_own own usable pages page low high (c ∷ cs) kept =
    let row = kept_parts (cell_chain usable pages page c ++ own page c.key (payload_of usable pages c)) _ kept.1 in
    let chain = kept_parts (cell_chain usable pages page c) _ row.0 in
    (chain.1, leaf_own own usable pages page (rank c.key + 1) high cs row.1)

leaf_complete : (own : RowMarks) (usable : ℕ) (pages : Paging) (page low high : ℕ) (cells : List Cell)
    → AreRows usable pages low high cells → OwnKept own (leaf_rows usable pages page cells) → AreKept (leaf_marks own usable pages page low high cells)
leaf_complete own usable pages page low high [] rows kept = tt
leaf_complete own usable pages page low high (c ∷ cs) rows kept = (
  bounds_within low high c rows.0 rows.1,
  kept-append (cell_chain usable pages page c ++ own page c.key (payload_of usable pages c)) _
      (kept-append (cell_chain usable pages page c) _ (chain_complete usable pages (links usable (rest_of c)) (rest_of c) page c.chain rows.2) kept.0)
      (leaf_complete own usable pages page (rank c.key + 1) high cs rows.3 kept.1),
)

leaf_named : (own : RowMarks) (usable : ℕ) (pages : Paging) (page low high : ℕ) (cells : List Cell)
    → NamesNone own → named (leaf_marks own usable pages page low high cells) ≡ flat_map (chain_pages usable pages) cells
leaf_named own usable pages page low high [] none = refl
leaf_named own usable pages page low high (c ∷ cs) none =
    let others = leaf_marks own usable pages page (rank c.key + 1) high cs in
    let mine = own page c.key (payload_of usable pages c) in
    let row : named (cell_chain usable pages page c ++ own page c.key (payload_of usable pages c)) ≡ chain_pages usable pages c =
    named-append (cell_chain usable pages page c) mine
    ∙ rw (chain_named pages (links usable (rest_of c)) page c.chain, none page c.key (payload_of usable pages c)) (append-nil (chain_pages usable pages c)) in
    named-append (cell_chain usable pages page c ++ mine) others
    ∙ rw (row, leaf_named own usable pages page (rank c.key + 1) high cs none) refl

-- what is known of the right-most child
fan_last : {C : Type 0} → (walk : (low high holder page : ℕ) → List Mark) → ((low high holder page : ℕ) → AreKept (walk low high holder page) → C)
    → (page low high : ℕ) (cells : List Cell) (right : ℕ) → AreKept (fan_marks walk page low high cells right) → C
fan_last walk each page low high [] right kept = each low high page right kept
fan_last walk each page low high (c ∷ cs) right kept =
    let parts = kept_parts (walk low (rank c.key + 1) page c.left) _ kept in
    fan_last walk each page (rank c.key + 1) high cs right parts.1.1

fan_sound : (walk : (low high holder page : ℕ) → List Mark) (T : (low high page : ℕ) → Type 0)
    → ((low high holder page : ℕ) → low ≤ high → AreKept (walk low high holder page) → T low high page)
    → (page low high : ℕ) (cells : List Cell) (right : ℕ) → low ≤ high → AreKept (fan_marks walk page low high cells right) → AreUnder T low high cells right
fan_sound walk T each page low high [] right below kept = each low high page right below kept
fan_sound walk T each page low high (c ∷ cs) right below kept =
    let parts = kept_parts (walk low (rank c.key + 1) page c.left) _ kept in
    let bounds = within_bounds low high c parts.1.0 in
    let down = bounds.0 in
    let up = bounds.1 in (
      bounds.0,
      bounds.1,
      each low (rank c.key + 1) page c.left (omega arith) parts.0,
      fan_sound walk T each page (rank c.key + 1) high cs right (omega arith) parts.1.1,
    )

fan_own : (own : RowMarks) (walk : (low high holder page : ℕ) → List Mark) (rows : ℕ → List (ℕ × ℤ × List ℕ))
    → ((low high holder page : ℕ) → AreKept (walk low high holder page) → OwnKept own (rows page))
    → (page low high : ℕ) (cells : List Cell) (right : ℕ) → AreKept (fan_marks walk page low high cells right) → OwnKept own (fan_rows rows cells right)
fan_own own walk rows each page low high [] right kept = each low high page right kept
fan_own own walk rows each page low high (c ∷ cs) right kept =
    let parts = kept_parts (walk low (rank c.key + 1) page c.left) _ kept in
    own-append own (rows c.left) (fan_rows rows cs right) (each low (rank c.key + 1) page c.left parts.0)
    (fan_own own walk rows each page (rank c.key + 1) high cs right parts.1.1)

fan_complete : (own : RowMarks) (walk : (low high holder page : ℕ) → List Mark) (T : (low high page : ℕ) → Type 0) (rows : ℕ → List (ℕ × ℤ × List ℕ))
    → ((low high holder page : ℕ) → T low high page → OwnKept own (rows page) → AreKept (walk low high holder page))
    → (page low high : ℕ) (cells : List Cell) (right : ℕ)
    → AreUnder T low high cells right → OwnKept own (fan_rows rows cells right) → AreKept (fan_marks walk page low high cells right)
fan_complete own walk T rows each page low high [] right is kept = each low high page right is kept
fan_complete own walk T rows each page low high (c ∷ cs) right is kept =
    let parts = own_parts own (rows c.left) (fan_rows rows cs right) kept in
    kept-append (walk low (rank c.key + 1) page c.left) _ (each low (rank c.key + 1) page c.left is.2 parts.0)
    (bounds_within low high c is.0 is.1, fan_complete own walk T rows each page (rank c.key + 1) high cs right is.3 parts.1)

fan_named : (walk : (low high holder page : ℕ) → List Mark) (T : (low high page : ℕ) → Type 0) (own : ℕ → List ℕ)
    → ((low high holder page : ℕ) → T low high page → named (walk low high holder page) ≡ own page)
    → (page low high : ℕ) (cells : List Cell) (right : ℕ) → AreUnder T low high cells right → named (fan_marks walk page low high cells right) ≡ fan own cells right
fan_named walk T own each page low high [] right is = each low high page right is
fan_named walk T own each page low high (c ∷ cs) right is =
    named-append (walk low (rank c.key + 1) page c.left) (Keeps page 6 (is_within_bounds low high c) ∷ fan_marks walk page (rank c.key + 1) high cs right)
    ∙ rw (each low (rank c.key + 1) page c.left is.2, fan_named walk T own each page (rank c.key + 1) high cs right is.3) refl

-- what rule 5 says
pub depth_of_leaf : (levels leaf : ℕ) (b : Bool) → (not (levels == 0) && (not b || (levels == leaf))) ≡ true → b ≡ true → levels ≡ leaf
depth_of_leaf levels leaf true kept is = let parts = and_parts (not (levels == 0)) (levels == leaf) kept in eqb-true levels leaf parts.1
depth_of_leaf levels leaf false kept is = absurd cc

pub depth_kept : (levels leaf : ℕ) (b : Bool) → 0 < levels → (b ≡ true → levels ≡ leaf) → (not (levels == 0) && (not b || (levels == leaf))) ≡ true
depth_kept levels leaf true some same =
    and_from (not (levels == 0)) (levels == leaf) (not_from_false (levels == 0) (ne_eqb levels 0 (λ (e : levels ≡ 0). absurd (omega arith)))) (eq-eqb levels leaf (same refl))
depth_kept levels leaf false some same =
    and_from (not (levels == 0)) true (not_from_false (levels == 0) (ne_eqb levels 0 (λ (e : levels ≡ 0). absurd (omega arith)))) refl

pub table_levels : (own : RowMarks) (usable : ℕ) (pages : Paging) (leaf levels low high holder page : ℕ)
    → AreKept (table_marks own usable pages leaf levels low high holder page) → (0 < leaf) × (leaf ≤ levels)
table_levels own usable pages leaf zero low high holder page kept = absurd (let no = kept.1.1.0 in cc)
table_levels own usable pages leaf (suc levels) low high holder page kept = ⊎_elim
    (λ (is : is_leaf_page usable pages page ≡ true).
    let same = depth_of_leaf (suc levels) leaf (is_leaf_page usable pages page) kept.1.1.0 is in (omega arith, omega arith))
    (λ (is : is_leaf_page usable pages page ≡ false).
    let rest : AreKept (fan_marks (table_marks own usable pages leaf levels) page low high (node_cells usable pages page) (node_right usable pages page)) = rw is at kept.1.1.1 in
    let last = fan_last (table_marks own usable pages leaf levels) (λ l h o p k. table_levels own usable pages leaf levels l h o p k)
    page low high (node_cells usable pages page) (node_right usable pages page) rest in
    (last.0, omega arith))
    (cases_Bool (is_leaf_page usable pages page))

pub table_own : (own : RowMarks) (usable : ℕ) (pages : Paging) (leaf levels low high holder page : ℕ)
    → AreKept (table_marks own usable pages leaf levels low high holder page) → OwnKept own (walk_rows usable pages levels page)
table_own own usable pages leaf zero low high holder page kept = tt
table_own own usable pages leaf (suc levels) low high holder page kept = ⊎_elim
    (λ (is : is_leaf_page usable pages page ≡ true).
    let rest : AreKept (leaf_marks own usable pages page low high (node_cells usable pages page)) = rw is at kept.1.1.1 in
    rw is (leaf_own own usable pages page low high (node_cells usable pages page) rest))
    (λ (is : is_leaf_page usable pages page ≡ false).
    let rest : AreKept (fan_marks (table_marks own usable pages leaf levels) page low high (node_cells usable pages page) (node_right usable pages page)) = rw is at kept.1.1.1 in
    rw is (fan_own own (table_marks own usable pages leaf levels) (walk_rows usable pages levels) (λ l h o p k. table_own own usable pages leaf levels l h o p k)
    page low high (node_cells usable pages page) (node_right usable pages page) rest))
    (cases_Bool (is_leaf_page usable pages page))

pub table_sound : (own : RowMarks) (usable : ℕ) (pages : Paging) (leaf levels height low high holder page : ℕ)
    → 5 ≤ usable → 0 < leaf → levels ≡ height + leaf → low ≤ high
    → AreKept (table_marks own usable pages leaf levels low high holder page) → IsTree usable pages height low high page
table_sound own usable pages leaf zero height low high holder page wide some at below kept = absurd (omega arith)
table_sound own usable pages leaf (suc levels) zero low high holder page wide some at below kept = ⊎_elim
    (λ (is : is_leaf_page usable pages page ≡ true).
    let rest : AreKept (leaf_marks own usable pages page low high (node_cells usable pages page)) = rw is at kept.1.1.1 in
    (is_table_leaf (node_at usable pages page) kept.0 kept.1.0 is, leaf_sound own usable pages page low high (node_cells usable pages page) wide below rest))
    (λ (is : is_leaf_page usable pages page ≡ false).
    let rest : AreKept (fan_marks (table_marks own usable pages leaf levels) page low high (node_cells usable pages page) (node_right usable pages page)) = rw is at kept.1.1.1 in
    let last = fan_last (table_marks own usable pages leaf levels) (λ l h o p k. table_levels own usable pages leaf levels l h o p k)
    page low high (node_cells usable pages page) (node_right usable pages page) rest in
    let deep = last.1 in
    absurd (omega arith))
    (cases_Bool (is_leaf_page usable pages page))
table_sound own usable pages leaf (suc levels) (suc height) low high holder page wide some at below kept = ⊎_elim
    (λ (is : is_leaf_page usable pages page ≡ true).
    let same = depth_of_leaf (suc levels) leaf (is_leaf_page usable pages page) kept.1.1.0 is in absurd (omega arith))
    (λ (is : is_leaf_page usable pages page ≡ false).
    let rest : AreKept (fan_marks (table_marks own usable pages leaf levels) page low high (node_cells usable pages page) (node_right usable pages page)) = rw is at kept.1.1.1 in (
      is_table_interior (node_at usable pages page) kept.0 kept.1.0 is,
      fan_sound (table_marks own usable pages leaf levels) (IsTree usable pages height)
          (λ l h o p b k. table_sound own usable pages leaf levels height l h o p wide some (omega arith) b k)
          page low high (node_cells usable pages page) (node_right usable pages page) below rest,
    ))
    (cases_Bool (is_leaf_page usable pages page))

pub table_complete : (own : RowMarks) (usable : ℕ) (pages : Paging) (leaf levels height low high holder page : ℕ)
    → 0 < leaf → levels ≡ height + leaf → IsTree usable pages height low high page → OwnKept own (walk_rows usable pages levels page)
    → AreKept (table_marks own usable pages leaf levels low high holder page)
table_complete own usable pages leaf zero height low high holder page some at is kept = absurd (omega arith)
table_complete own usable pages leaf (suc levels) zero low high holder page some at is kept =
    let r = node_at usable pages page in
    let leaf_is : is_leaf_page usable pages page ≡ true = made_kind is_leaf TableLeaf r is.0 in
    let rows : OwnKept own (leaf_rows usable pages page (node_cells usable pages page)) = rw leaf_is at kept in (
      made_legal TableLeaf r is.0,
      (
        made_kind is_table TableLeaf r is.0,
        (
          depth_kept (suc levels) leaf (is_leaf_page usable pages page) (omega arith) (λ _. omega arith),
          rw leaf_is (leaf_complete own usable pages page low high (node_cells usable pages page) is.1 rows),
        ),
      ),
    )
table_complete own usable pages leaf (suc levels) (suc height) low high holder page some at is kept =
    let r = node_at usable pages page in
    let leaf_is : is_leaf_page usable pages page ≡ false = made_kind is_leaf TableInterior r is.0 in
    let rows : OwnKept own (fan_rows (walk_rows usable pages levels) (node_cells usable pages page) (node_right usable pages page)) = rw leaf_is at kept in (
      made_legal TableInterior r is.0,
      (
        made_kind is_table TableInterior r is.0,
        (
          depth_kept (suc levels) leaf (is_leaf_page usable pages page) (omega arith) (λ (t : is_leaf_page usable pages page ≡ true). let both : true ≡ false = sym t ∙ leaf_is in absurd cc),
          rw leaf_is (fan_complete own (table_marks own usable pages leaf levels) (IsTree usable pages height) (walk_rows usable pages levels)
              (λ l h o p t k. table_complete own usable pages leaf levels height l h o p some (omega arith) t k)
              page low high (node_cells usable pages page) (node_right usable pages page) is.1 rows),
        ),
      ),
    )

whole_none : (usable : ℕ) (pages : Paging) (cells : List Cell) → 5 ≤ usable → AreWhole cells → flat_map (chain_pages usable pages) cells ≡ []
whole_none usable pages [] wide whole = refl
whole_none usable pages (c ∷ cs) wide whole = rw (chain_none usable pages c wide whole.0, whole_none usable pages cs wide whole.1) refl

-- the pages that are named are those of the tree and of its chains
pub table_named : (own : RowMarks) (usable : ℕ) (pages : Paging) (leaf levels height low high holder page : ℕ)
    → 5 ≤ usable → 0 < leaf → levels ≡ height + leaf → NamesNone own → IsTree usable pages height low high page
    → named (table_marks own usable pages leaf levels low high holder page) ≡ all_pages usable pages height page
table_named own usable pages leaf zero height low high holder page wide some at none is = absurd (omega arith)
table_named own usable pages leaf (suc levels) zero low high holder page wide some at none is =
    let leaf_is : is_leaf_page usable pages page ≡ true = made_kind is_leaf TableLeaf (node_at usable pages page) is.0 in
    rw (leaf_is, leaf_named own usable pages page low high (node_cells usable pages page) none) refl
table_named own usable pages leaf (suc levels) (suc height) low high holder page wide some at none is =
    let cells = node_cells usable pages page in
    let right = node_right usable pages page in
    let leaf_is : is_leaf_page usable pages page ≡ false = made_kind is_leaf TableInterior (node_at usable pages page) is.0 in
    let no_chain : flat_map (chain_pages usable pages) (node_cells usable pages page) ≡ [] = whole_none usable pages cells wide (interior_whole usable pages page is.0) in
    let below = fan_named (table_marks own usable pages leaf levels) (IsTree usable pages height) (all_pages usable pages height)
    (λ l h o p t. table_named own usable pages leaf levels height l h o p wide some (omega arith) none t) page low high cells right is.1 in
    rw (leaf_is, no_chain) (ap (λ (ps : List ℕ). page ∷ ps) below)
