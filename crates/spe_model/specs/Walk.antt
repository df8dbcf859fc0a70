-- What a walk over the pages of a file meets, in the order in which it is tried. The rules and their numbers are this
-- project's own; what they ask is that of SQLite's Database File Format. Where a rule is broken, what stands behind it
-- here means nothing.
use Rattle.std.specs.Prelude.{ℕ, zero, suc, ℤ, ◌+◌, ◌==◌, ◌&&◌, ◌||◌, not, nat_le, nat_lt, Bool, true, false, List, [], ◌∷◌, ◌++◌, map, Option, Some, None, Result, Ok, Err, if◌then◌else◌}
use Rattle.std.specs.List.{flat_map, list_any}
use Rattle.spe_model.specs.declared.page.Kind.{Kind}
use Rattle.spe_model.specs.declared.page.Cell.{Cell}
use Rattle.spe_model.specs.declared.page.PageCells.{PageCells}
use Rattle.spe_model.specs.declared.page.PageFault.{PageFault}
use Rattle.spe_model.specs.Kind.{is_leaf, is_table}
use Rattle.spe_model.specs.Paging.{Paging}
use Rattle.spe_model.specs.Chain.{links, next_page}
use Rattle.spe_model.specs.Tree.{rank, node_at, node_cells, node_right, rest_of, payload_of}
use Rattle.spe_model.specs.FreeList.{next_trunk, leaves_of, has_room}

pub data Mark : Type 0 where
  Names : (holder page : ℕ) → Mark
  Keeps : (page rule : ℕ) → Bool → Mark

-- rule 3: the page grammar
abbrev pub is_legal : Result PageCells PageFault → Bool
is_legal (Ok page) = true
is_legal (Err fault) = false

abbrev pub has_kind : (Kind → Bool) → Result PageCells PageFault → Bool
has_kind test (Ok page) = test page.kind
has_kind test (Err fault) = false

abbrev pub is_leaf_page : (usable : ℕ) → Paging → ℕ → Bool
is_leaf_page usable pages page = has_kind is_leaf (node_at usable pages page)

-- rule 4: the page is of the tree's sort
abbrev pub is_sort : (table : Bool) → (usable : ℕ) → Paging → ℕ → Bool
is_sort table usable pages page = has_kind (λ k. if table then is_table k else not (is_table k)) (node_at usable pages page)

-- the first child of a page
abbrev pub first_child : List Cell → (right : ℕ) → ℕ
first_child [] right = right
first_child (c ∷ cs) right = c.left

-- how many levels are left, of so many from a page on, at the first leaf below it, that leaf's own among them
abbrev pub levels_at_leaf : (usable : ℕ) → Paging → (levels page : ℕ) → ℕ
levels_at_leaf usable pages zero page = zero
levels_at_leaf usable pages (suc levels) page =
    if is_leaf_page usable pages page then suc levels
    else levels_at_leaf usable pages levels (first_child (node_cells usable pages page) (node_right usable pages page))

-- so many pages of a chain follow
abbrev pub chain_marks : Paging → (count holder page : ℕ) → List Mark
chain_marks pages zero holder page = Keeps holder 7 (page == 0) ∷ []
chain_marks pages (suc count) holder page =
    Keeps holder 7 (not (page == 0)) ∷ Names holder page ∷ chain_marks pages count page (next_page pages page)

abbrev pub cell_chain : (usable : ℕ) → Paging → (page : ℕ) → Cell → List Mark
cell_chain usable pages page c = chain_marks pages (links usable (rest_of c)) page c.chain

-- what is tried of a page before its cells; a leaf stands where so many levels are left
abbrev pub page_marks : (table : Bool) → (usable : ℕ) → Paging → (leaf levels holder page : ℕ) → List Mark
page_marks table usable pages leaf levels holder page =
    Names holder page
    ∷ Keeps page 3 (is_legal (node_at usable pages page))
    ∷ Keeps page 4 (is_sort table usable pages page)
    ∷ Keeps page 5 (not (levels == 0) && (not (is_leaf_page usable pages page) || (levels == leaf)))
    ∷ []

abbrev pub is_within_bounds : (low high : ℕ) → Cell → Bool
is_within_bounds low high c = nat_le low (rank c.key) && nat_lt (rank c.key) high

-- what is tried of a row, by its leaf, rowid and payload
abbrev pub RowMarks : Type 0
RowMarks = ℕ → ℤ → List ℕ → List Mark

abbrev pub leaf_marks : RowMarks → (usable : ℕ) → Paging → (page low high : ℕ) → List Cell → List Mark
leaf_marks own usable pages page low high [] = []
leaf_marks own usable pages page low high (c ∷ cs) =
    Keeps page 6 (is_within_bounds low high c)
    ∷ cell_chain usable pages page c ++ own page c.key (payload_of usable pages c)
    ++ leaf_marks own usable pages page (rank c.key + 1) high cs

abbrev pub fan_marks : (walk : (low high holder page : ℕ) → List Mark) → (page low high : ℕ) → List Cell → (right : ℕ) → List Mark
fan_marks walk page low high [] right = walk low high page right
fan_marks walk page low high (c ∷ cs) right =
    walk low (rank c.key + 1) page c.left ++ Keeps page 6 (is_within_bounds low high c) ∷ fan_marks walk page (rank c.key + 1) high cs right

-- the tree of a table from a page on, where so many levels are left
abbrev pub table_marks : RowMarks → (usable : ℕ) → Paging → (leaf levels low high holder page : ℕ) → List Mark
table_marks own usable pages leaf zero low high holder page = page_marks true usable pages leaf zero holder page
table_marks own usable pages leaf (suc levels) low high holder page =
    page_marks true usable pages leaf (suc levels) holder page
    ++ (if is_leaf_page usable pages page then leaf_marks own usable pages page low high (node_cells usable pages page)
    else fan_marks (table_marks own usable pages leaf levels) page low high (node_cells usable pages page) (node_right usable pages page))

abbrev pub chains_marks : (usable : ℕ) → Paging → (page : ℕ) → List Cell → List Mark
chains_marks usable pages page cells = flat_map (cell_chain usable pages page) cells

abbrev pub index_fan_marks : (walk : (holder page : ℕ) → List Mark) → (usable : ℕ) → Paging → (page : ℕ) → List Cell → (right : ℕ) → List Mark
index_fan_marks walk usable pages page [] right = walk page right
index_fan_marks walk usable pages page (c ∷ cs) right =
    walk page c.left ++ cell_chain usable pages page c ++ index_fan_marks walk usable pages page cs right

-- the tree of an index
abbrev pub index_marks : (usable : ℕ) → Paging → (leaf levels holder page : ℕ) → List Mark
index_marks usable pages leaf zero holder page = page_marks false usable pages leaf zero holder page
index_marks usable pages leaf (suc levels) holder page =
    page_marks false usable pages leaf (suc levels) holder page
    ++ (if is_leaf_page usable pages page then chains_marks usable pages page (node_cells usable pages page)
    else index_fan_marks (index_marks usable pages leaf levels) usable pages page (node_cells usable pages page) (node_right usable pages page))

-- the rows of a table with their leaves, as far as so many levels go
abbrev pub leaf_rows : (usable : ℕ) → Paging → (page : ℕ) → List Cell → List (ℕ × ℤ × List ℕ)
leaf_rows usable pages page cells = map (λ (c : Cell). (page, c.key, payload_of usable pages c)) cells

abbrev pub fan_rows : (walk : ℕ → List (ℕ × ℤ × List ℕ)) → List Cell → (right : ℕ) → List (ℕ × ℤ × List ℕ)
fan_rows walk [] right = walk right
fan_rows walk (c ∷ cs) right = walk c.left ++ fan_rows walk cs right

abbrev pub walk_rows : (usable : ℕ) → Paging → (levels page : ℕ) → List (ℕ × ℤ × List ℕ)
walk_rows usable pages zero page = []
walk_rows usable pages (suc levels) page =
    if is_leaf_page usable pages page then leaf_rows usable pages page (node_cells usable pages page)
    else fan_rows (walk_rows usable pages levels) (node_cells usable pages page) (node_right usable pages page)

-- a chain of trunks, as far as so many go
abbrev pub trunk_marks : (usable : ℕ) → Paging → (most holder trunk : ℕ) → List Mark
trunk_marks usable pages zero holder trunk = if trunk == 0 then [] else Names holder trunk ∷ []
trunk_marks usable pages (suc most) holder trunk =
    if trunk == 0 then []
    else Names holder trunk ∷ Keeps trunk 10 (has_room usable pages trunk)
    ∷ map (Names trunk) (leaves_of pages trunk) ++ trunk_marks usable pages most trunk (next_trunk pages trunk)

-- the pages of such a chain
abbrev pub walk_trunks : Paging → (most trunk : ℕ) → List ℕ
walk_trunks pages zero trunk = []
walk_trunks pages (suc most) trunk =
    if trunk == 0 then [] else trunk ∷ leaves_of pages trunk ++ walk_trunks pages most (next_trunk pages trunk)

-- the first mark that is broken, as its page and rule, where these pages were met before
abbrev pub is_met : List ℕ → ℕ → Bool
is_met met page = list_any (λ p. p == page) met

abbrev pub is_one_of : (count page : ℕ) → Bool
is_one_of count page = nat_le 1 page && nat_le page count

abbrev pub first_broken : (count : ℕ) → List ℕ → List Mark → Option (ℕ × ℕ)
first_broken count met [] = None
first_broken count met (Names holder page ∷ marks) =
    if not (is_one_of count page) then Some (holder, 1)
    else (if is_met met page then Some (page, 2) else first_broken count (page ∷ met) marks)
first_broken count met (Keeps page rule kept ∷ marks) = if kept then first_broken count met marks else Some (page, rule)
