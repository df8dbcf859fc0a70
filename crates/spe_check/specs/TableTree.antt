-- Walking over the tree of a table with its rows.
use Rattle.std.specs.Prelude.{◌≡◌, ℕ, ◌+◌, ◌-◌, ◌≤◌, ℤ, Bool, true, List, ◌∷◌, ◌++◌, Option, Some, None, Result, Ok, IfOk, OnOk}
use Rattle.spe_model.specs.declared.page.Cell.{Cell}
use Rattle.spe_model.specs.declared.page.PageCells.{PageCells}
use Rattle.spe_model.specs.Paging.{Paging}
use Rattle.spe_model.specs.Tree.{node_at, payload_of, rank}
use Rattle.spe_model.specs.Verdict.{LeafRow}
use Rattle.spe_model.specs.Walk.{Mark, Keeps, RowMarks, cell_chain, fan_marks, fan_rows, first_child, is_within_bounds, leaf_marks, leaf_rows, levels_at_leaf, table_marks, walk_rows}
use Rattle.spe_space.specs.declared.pages.Pages.{Ghosts}
use Rattle.spe_check.specs.declared.met.Met.{Met}
use Rattle.spe_check.specs.declared.halt.Halt.{Halt}
use Rattle.spe_check.specs.declared.visitor.RowVisitor as visitors
use Rattle.spe_check.specs.MetPages.{has_met}
use Rattle.spe_check.specs.Pages.{IsStand, behind_read}
use Rattle.spe_check.specs.Shown.{Each}
use Rattle.spe_check.specs.Tries.{Leads, Tries}
use Rattle.spe_check.specs.Visitor.{Outlook}

-- the ranks above a key to the left, where there is one, begin here
abbrev pub low_of : Option ℤ → ℕ
low_of None = 0
low_of (Some key) = rank key + 1

-- the ranks up to a key to the right, where there is one, end below this
abbrev pub high_of : Option ℤ → ℕ
high_of None = 18446744073709551616
high_of (Some key) = rank key + 1

abbrev pub row_of : (usable : ℕ) → Paging → (page : ℕ) → Cell → LeafRow
row_of usable pages page c = (page, c.key, payload_of usable pages c)

-- what is tried of a row
abbrev pub row_marks : RowMarks → (usable : ℕ) → Paging → (page low high : ℕ) → Cell → List Mark
row_marks own usable pages page low high c =
    Keeps page 6 (is_within_bounds low high c) ∷ cell_chain usable pages page c ++ own page c.key (payload_of usable pages c)

-- a visitor's floor below the lower bound is below the higher one afterwards
abbrev pub Rises : {V X : Type 0} (v : visitors.Ghosts V) (old new : V) (low high : ℕ) → Result X Halt → Type 0
Rises v old new low high result = OnOk result (v.floor old ≤ low → low ≤ high → v.floor new ≤ high)

-- a row is tried where it is wanted, and nothing of it where it isn't
abbrev pub VisitsRow : {V X : Type 0} (v : visitors.Ghosts V) (old new : V) (page : ℕ) (key : ℤ) (bytes : List ℕ) → Result X Halt → Type 0
VisitsRow v old new page key bytes result =
    (count : ℕ) (met : ℕ → Bool) (payload : List ℕ) (later : List LeafRow) → (v.wanted old ≡ true → bytes ≡ payload) → v.floor old ≤ rank key
    → Tries count met met ((v.outlook old ((page, key, payload) ∷ later)).marks page key payload) result
    × OnOk result (v.outlook new later ≡ v.outlook old ((page, key, payload) ∷ later))

-- the chain of a cell is tried, and its payload is taken where it is wanted
abbrev pub TakesPayload : {P X : Type 0} (g : Ghosts P) (late : P) (before after : Met) (page : ℕ) (c : Cell) (wanted : Bool) (bytes : List ℕ) → Result X Halt → Type 0
TakesPayload g late before after page c wanted bytes result =
    Each g late (λ usable pages. Tries before.pages (has_met before) (has_met after) (cell_chain usable pages page c) result
    × OnOk result (wanted ≡ true → bytes ≡ payload_of usable pages c))

-- what is tried of a row behind its bound, where its whole payload stands in its page
abbrev pub TriesLocal : {V X : Type 0} (v : visitors.Ghosts V) (old new : V) (page : ℕ) → Cell → Result X Halt → Type 0
TriesLocal v old new page c result =
    (count : ℕ) (met : ℕ → Bool) (usable : ℕ) (pages : Paging) (later : List LeafRow) → v.floor old ≤ rank c.key
    → Tries count met met (cell_chain usable pages page c ++ (v.outlook old (row_of usable pages page c ∷ later)).marks page c.key (payload_of usable pages c)) result
    × OnOk result (v.outlook new later ≡ v.outlook old (row_of usable pages page c ∷ later))

abbrev pub TriesRow : {P V X : Type 0} (g : Ghosts P) (v : visitors.Ghosts V) (late : P) (before after : Met) (old new : V) (page low high : ℕ) → Cell → Result X Halt → Type 0
TriesRow g v late before after old new page low high c result =
    Each g late (λ usable pages. (later : List LeafRow) → v.floor old ≤ low
    → Tries before.pages (has_met before) (has_met after) (row_marks (v.outlook old (row_of usable pages page c ∷ later)).marks usable pages page low high c) result
    × OnOk result (v.outlook new later ≡ v.outlook old (row_of usable pages page c ∷ later)))

abbrev pub TriesRows : {P V X : Type 0} (g : Ghosts P) (v : visitors.Ghosts V) (late : P) (before after : Met) (old new : V) (page low high : ℕ) → List Cell → Result X Halt → Type 0
TriesRows g v late before after old new page low high cells result =
    Each g late (λ usable pages. (later : List LeafRow) → v.floor old ≤ low
    → Tries before.pages (has_met before) (has_met after) (leaf_marks (v.outlook old (leaf_rows usable pages page cells ++ later)).marks usable pages page low high cells) result
    × OnOk result (v.outlook new later ≡ v.outlook old (leaf_rows usable pages page cells ++ later)))

-- what is tried from a page of the tree on, and what is to come of the rows behind it
abbrev pub TriesTable : {P V : Type 0} (g : Ghosts P) (v : visitors.Ghosts V) (late : P) (before after : Met) (old new : V) (leaf : Option ℕ) (levels low high holder page : ℕ) → Result ℕ Halt → Type 0
TriesTable g v late before after old new leaf levels low high holder page result =
    Each g late (λ usable pages. (stand : ℕ) (later : List LeafRow) → IsStand leaf stand (levels_at_leaf usable pages levels page) → v.floor old ≤ low
    → Tries before.pages (has_met before) (has_met after) (table_marks (v.outlook old (walk_rows usable pages levels page ++ later)).marks usable pages stand levels low high holder page) result
    × IfOk result (λ level. stand ≡ level) × OnOk result (v.outlook new later ≡ v.outlook old (walk_rows usable pages levels page ++ later)))

-- the same, from a page on that was read and holds this
abbrev pub TriesTableFrom : {P V : Type 0} (g : Ghosts P) (v : visitors.Ghosts V) (late : P) (before after : Met) (old new : V) (leaf : Option ℕ) (levels low high page : ℕ) → PageCells → Result ℕ Halt → Type 0
TriesTableFrom g v late before after old new leaf levels low high page node result =
    Each g late (λ usable pages. (stand holder : ℕ) (later : List LeafRow) → node_at usable pages page ≡ Ok node → IsStand leaf stand (levels_at_leaf usable pages levels page) → v.floor old ≤ low
    → Tries before.pages (has_met before) (has_met after) (behind_read (table_marks (v.outlook old (walk_rows usable pages levels page ++ later)).marks usable pages stand levels low high holder page)) result
    × IfOk result (λ level. stand ≡ level) × OnOk result (v.outlook new later ≡ v.outlook old (walk_rows usable pages levels page ++ later)))

-- in the loop over the rows of a leaf: what was tried, what is left, and what is to come of it
pub record IsRowed {V : Type 0} (v : visitors.Ghosts V) (usable : ℕ) (pages : Paging) (before now : Met) (visitor : V) (outlook : Outlook) (later : List LeafRow) (all : List Mark) (page low high : ℕ) (left : List Cell) : Type 0 where
  pub tried : Leads before.pages (has_met before) all (has_met now) (leaf_marks outlook.marks usable pages page low high left)
  pub ahead : v.outlook visitor (leaf_rows usable pages page left ++ later) ≡ outlook

-- the same in the loop over the children, and where the first leaf stands
pub record IsTableFanned {V : Type 0} (v : visitors.Ghosts V) (usable : ℕ) (pages : Paging) (before now : Met) (visitor : V) (outlook : Outlook) (later : List LeafRow) (all : List Mark) (stand levels low high page : ℕ) (leaf : Option ℕ) (left : List Cell) (right : ℕ) : Type 0 where
  pub tried : Leads before.pages (has_met before) all (has_met now) (fan_marks (table_marks outlook.marks usable pages stand (levels - 1)) page low high left right)
  pub ahead : v.outlook visitor (fan_rows (walk_rows usable pages (levels - 1)) left right ++ later) ≡ outlook
  pub stands : IsStand leaf stand (levels_at_leaf usable pages (levels - 1) (first_child left right))
