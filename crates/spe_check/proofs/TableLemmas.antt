use Rattle.std.proofs.Common.{◌≡◌, ◌∙◌, ℕ, zero, suc, ◌+◌, ◌-◌, ◌<◌, ◌≤◌, ℤ, Bool, true, false, List, [], ◌∷◌, ◌++◌, refl, sym, ap, subst, arith, inl, inr, append-nil, length}
use Rattle.std.proofs.lemmas.Result.{on_ok_weaker}
use Rattle.std.specs.Prelude.{Result, Ok, Err, IfOk, OnOk, ◌==◌, if◌then◌else◌}
use Rattle.std.proofs.lemmas.Bool.{cases_lt}
use Rattle.spe_model.specs.declared.page.Cell.{Cell}
use Rattle.spe_model.specs.declared.page.PageCells.{PageCells}
use Rattle.spe_model.specs.Kind.{is_leaf}
use Rattle.spe_model.specs.Paging.{Paging}
use Rattle.spe_model.specs.Chain.{links, links_bytes}
use Rattle.spe_model.specs.Tree.{node_at, node_cells, node_right, cells_in, right_in, payload_of, rank, rest_of}
use Rattle.spe_model.specs.Verdict.{LeafRow}
use Rattle.spe_model.specs.Walk.{Mark, Keeps, RowMarks, cell_chain, chain_marks, fan_marks, fan_rows, has_kind, is_leaf_page, is_within_bounds, leaf_marks, leaf_rows, table_marks, walk_rows}
use Rattle.spe_check.specs.declared.met.Met.{Met}
use Rattle.spe_check.specs.declared.halt.Halt.{Halt}
use Rattle.spe_check.specs.declared.visitor.RowVisitor as visitors
use Rattle.spe_check.specs.Chains.{kept_of}
use Rattle.spe_check.specs.MetPages.{has_met}
use Rattle.spe_check.specs.Pages.{behind_read, place_marks, read_marks}
use Rattle.spe_check.specs.TableTree.{IsRowed, VisitsRow, row_marks, row_of}
use Rattle.spe_check.specs.Tries.{Leads, Tries}
use Rattle.spe_check.specs.Visitor.{Outlook}
use Rattle.spe_check.proofs.ChainLemmas.{div_small}
use Rattle.spe_check.proofs.PageLemmas.{kind_marks, misplaced, placed_are}
use Rattle.spe_check.proofs.TriesLemmas.{leads_try, leads_halt, tries_halt, tries_then, the_ok, the_err}

-- the marks of reading the first page come first
pub table_read : (own : RowMarks) (usable : ℕ) (pages : Paging) (stand levels low high holder page : ℕ)
    → table_marks own usable pages stand levels low high holder page
    ≡ read_marks usable pages holder page ++ behind_read (table_marks own usable pages stand levels low high holder page)
table_read own usable pages stand zero low high holder page = refl
table_read own usable pages stand (suc m) low high holder page = refl

-- the marks behind them, by what the page holds
pub table_open : (own : RowMarks) (usable : ℕ) (pages : Paging) (stand levels low high holder page : ℕ) (node : PageCells) → 0 < levels → node_at usable pages page ≡ Ok node → is_leaf node.kind ≡ false
    → behind_read (table_marks own usable pages stand levels low high holder page)
    ≡ place_marks true levels stand page node.kind ++ fan_marks (table_marks own usable pages stand (levels - 1)) page low high node.cells node.right
table_open own usable pages stand zero low high holder page node some is inner = absurd (omega (arith, some))
table_open own usable pages stand (suc m) low high holder page node some is inner =
    let less : m ≡ suc m - 1 = omega arith in
    let kind : is_leaf_page usable pages page ≡ false = ap (has_kind is_leaf) is ∙ inner in
    let front = kind_marks true usable pages stand (suc m) page in
    let fan = fan_marks (table_marks own usable pages stand (suc m - 1)) page low high node.cells node.right in
    let here : behind_read (table_marks own usable pages stand (suc m) low high holder page)
    ≡ front ++ fan_marks (table_marks own usable pages stand m) page low high (node_cells usable pages page) (node_right usable pages page) = rw kind refl in
    here ∙ ap (λ (cs : List Cell). front ++ fan_marks (table_marks own usable pages stand m) page low high cs (node_right usable pages page)) (ap cells_in is)
    ∙ ap (λ (r : ℕ). front ++ fan_marks (table_marks own usable pages stand m) page low high node.cells r) (ap right_in is)
    ∙ ap (λ (n : ℕ). front ++ fan_marks (table_marks own usable pages stand n) page low high node.cells node.right) less
    ∙ ap (λ (ms : List Mark). ms ++ fan) (placed_are true usable pages stand (suc m) page node is)

pub table_leaf : (own : RowMarks) (usable : ℕ) (pages : Paging) (stand levels low high holder page : ℕ) (node : PageCells) → 0 < levels → node_at usable pages page ≡ Ok node → is_leaf node.kind ≡ true
    → behind_read (table_marks own usable pages stand levels low high holder page)
    ≡ place_marks true levels stand page node.kind ++ leaf_marks own usable pages page low high node.cells
table_leaf own usable pages stand zero low high holder page node some is leaf = absurd (omega (arith, some))
table_leaf own usable pages stand (suc m) low high holder page node some is leaf =
    let kind : is_leaf_page usable pages page ≡ true = ap (has_kind is_leaf) is ∙ leaf in
    let front = kind_marks true usable pages stand (suc m) page in
    let here : behind_read (table_marks own usable pages stand (suc m) low high holder page)
    ≡ front ++ leaf_marks own usable pages page low high (node_cells usable pages page) = rw kind refl in
    here ∙ ap (λ (cs : List Cell). front ++ leaf_marks own usable pages page low high cs) (ap cells_in is)
    ∙ ap (λ (ms : List Mark). ms ++ leaf_marks own usable pages page low high node.cells) (placed_are true usable pages stand (suc m) page node is)

-- the rows, by what the page holds
pub rows_open : (usable : ℕ) (pages : Paging) (levels page : ℕ) (node : PageCells) → 0 < levels → node_at usable pages page ≡ Ok node → is_leaf node.kind ≡ false
    → walk_rows usable pages levels page ≡ fan_rows (walk_rows usable pages (levels - 1)) node.cells node.right
rows_open usable pages zero page node some is inner = absurd (omega (arith, some))
rows_open usable pages (suc m) page node some is inner =
    let less : m ≡ suc m - 1 = omega arith in
    let kind : is_leaf_page usable pages page ≡ false = ap (has_kind is_leaf) is ∙ inner in
    let here : walk_rows usable pages (suc m) page ≡ fan_rows (walk_rows usable pages m) (node_cells usable pages page) (node_right usable pages page) = rw kind refl in
    here ∙ ap (λ (cs : List Cell). fan_rows (walk_rows usable pages m) cs (node_right usable pages page)) (ap cells_in is)
    ∙ ap (λ (r : ℕ). fan_rows (walk_rows usable pages m) node.cells r) (ap right_in is)
    ∙ ap (λ (n : ℕ). fan_rows (walk_rows usable pages n) node.cells node.right) less

pub rows_leaf : (usable : ℕ) (pages : Paging) (levels page : ℕ) (node : PageCells) → 0 < levels → node_at usable pages page ≡ Ok node → is_leaf node.kind ≡ true
    → walk_rows usable pages levels page ≡ leaf_rows usable pages page node.cells
rows_leaf usable pages zero page node some is leaf = absurd (omega (arith, some))
rows_leaf usable pages (suc m) page node some is leaf =
    let kind : is_leaf_page usable pages page ≡ true = ap (has_kind is_leaf) is ∙ leaf in
    let here : walk_rows usable pages (suc m) page ≡ leaf_rows usable pages page (node_cells usable pages page) = rw kind refl in
    here ∙ ap (λ (cs : List Cell). leaf_rows usable pages page cs) (ap cells_in is)

-- the page itself does not stand well
pub table_halt : (count : ℕ) (a : ℕ → Bool) (own : RowMarks) (usable : ℕ) (pages : Paging) (stand levels low high holder page : ℕ) (node : PageCells) (halt : Halt) → node_at usable pages page ≡ Ok node
    → Tries count a a (place_marks true levels stand page node.kind) (the_err (Unit {0}) halt)
    → Tries count a a (behind_read (table_marks own usable pages stand levels low high holder page)) (the_err ℕ halt)
table_halt count a own usable pages stand zero low high holder page node halt is tried =
    misplaced count a true usable pages stand zero page node [] halt is tried
table_halt count a own usable pages stand (suc m) low high holder page node halt is tried =
    misplaced count a true usable pages stand (suc m) page node
    (if is_leaf_page usable pages page then leaf_marks own usable pages page low high (node_cells usable pages page)
    else fan_marks (table_marks own usable pages stand m) page low high (node_cells usable pages page) (node_right usable pages page)) halt is tried

-- the first row of a leaf, and the others
pub leaf_cons : (own : RowMarks) (usable : ℕ) (pages : Paging) (page low high : ℕ) (c : Cell) (cs : List Cell)
    → leaf_marks own usable pages page low high (c ∷ cs) ≡ row_marks own usable pages page low high c ++ leaf_marks own usable pages page (rank c.key + 1) high cs
leaf_cons own usable pages page low high c cs = refl

-- a payload that is wanted is the bytes in its page and those of its chain
pub payload_taken : (wanted : Bool) (new old local bytes : List ℕ) → old ≡ kept_of wanted [] local → new ≡ kept_of wanted old bytes → wanted ≡ true → new ≡ local ++ bytes
payload_taken true new old local bytes first kept is = kept ∙ ap (λ o. o ++ bytes) first
payload_taken false new old local bytes first kept is = absurd cc

-- no bytes take no pages
links_zero : (usable : ℕ) → links usable 0 ≡ 0
unfolding links
links_zero usable = elim (cases_lt 4 usable) [
  | inl room ↦ div_small (0 + (usable - 4 - 1)) (usable - 4) (omega (arith, room))
  | inr none ↦ let small : usable - 4 ≡ 0 = omega (arith, none) in rw small refl
]

-- a cell whose whole payload stands in its page has no chain
pub local_chain : (usable : ℕ) (pages : Paging) (page : ℕ) (c : Cell) → rest_of c ≡ 0 → cell_chain usable pages page c ≡ Keeps page 7 (c.chain == 0) ∷ []
local_chain usable pages page c none = ap (λ (n : ℕ). chain_marks pages n page c.chain) (ap (links usable) none ∙ links_zero usable)

pub local_payload : (usable : ℕ) (pages : Paging) (c : Cell) → rest_of c ≡ 0 → payload_of usable pages c ≡ c.local
local_payload usable pages c none =
    ap (λ (n : ℕ). c.local ++ links_bytes usable pages n (rest_of c) c.chain) (ap (links usable) none ∙ links_zero usable) ∙ append-nil c.local

-- a row is visited where it is wanted
pub visits_same : {V : Type 0} (v : visitors.Ghosts V) (visitor after : V) (page : ℕ) (key other : ℤ) (bytes : List ℕ) (r : Result (Unit {0}) Halt) → key ≡ other → v.wanted visitor ≡ true
    → ((count : ℕ) (met : ℕ → Bool) (later : List LeafRow) → v.floor visitor ≤ rank key → Tries count met met ((v.outlook visitor ((page, key, bytes) ∷ later)).marks page key bytes) r)
    → OnOk r ((later : List LeafRow) → v.outlook after later ≡ v.outlook visitor ((page, key, bytes) ∷ later))
    → VisitsRow v visitor after page other bytes r
visits_same v visitor after page key other bytes r same want tried next =
    let P : ℤ → Type 0 = λ k. VisitsRow v visitor after page k bytes r in
    subst P same (λ count met payload later wanted floor.
    let Q : List ℕ → Type 0 = λ p.
    Tries count met met ((v.outlook visitor ((page, key, p) ∷ later)).marks page key p) r × OnOk r (v.outlook after later ≡ v.outlook visitor ((page, key, p) ∷ later)) in
    subst Q (wanted want) (tried count met later floor, on_ok_weaker r (λ each. each later) next))

-- a row breaks the rule of bounds
pub bound_halt : (count : ℕ) (a : ℕ → Bool) (own : RowMarks) (usable : ℕ) (pages : Paging) (page low high : ℕ) (c : Cell) (halt : Halt)
    → Tries count a a (Keeps page 6 (is_within_bounds low high c) ∷ []) (the_err (Unit {0}) halt)
    → Tries count a a (row_marks own usable pages page low high c) (the_err (Unit {0}) halt)
bound_halt count a own usable pages page low high c halt broke =
    tries_halt (Unit {0}) (Unit {0}) count a a a (Keeps page 6 (is_within_bounds low high c) ∷ []) (cell_chain usable pages page c ++ own page c.key (payload_of usable pages c)) halt broke

-- its chain breaks one
pub chain_halt : (count : ℕ) (a b : ℕ → Bool) (own : RowMarks) (usable : ℕ) (pages : Paging) (page low high : ℕ) (c : Cell) (halt : Halt)
    → Tries count a a (Keeps page 6 (is_within_bounds low high c) ∷ []) (the_ok (Unit {0}) tt)
    → Tries count a b (cell_chain usable pages page c) (the_err (Unit {0}) halt)
    → Tries count a b (row_marks own usable pages page low high c) (the_err (Unit {0}) halt)
chain_halt count a b own usable pages page low high c halt kept broke =
    tries_then {X = Unit {0}} {Y = Unit {0}} count a a b (Keeps page 6 (is_within_bounds low high c) ∷ []) (cell_chain usable pages page c ++ own page c.key (payload_of usable pages c)) tt (the_err (Unit {0}) halt) kept
    (tries_halt (Unit {0}) (Unit {0}) count a b b (cell_chain usable pages page c) (own page c.key (payload_of usable pages c)) halt broke)

-- and what the visitor tries of it comes last
pub row_last : (count : ℕ) (a b : ℕ → Bool) (own : RowMarks) (usable : ℕ) (pages : Paging) (page low high : ℕ) (c : Cell) (r : Result (Unit {0}) Halt)
    → Tries count a a (Keeps page 6 (is_within_bounds low high c) ∷ []) (the_ok (Unit {0}) tt)
    → Tries count a b (cell_chain usable pages page c) (the_ok (Unit {0}) tt)
    → Tries count b b (own page c.key (payload_of usable pages c)) r
    → Tries count a b (row_marks own usable pages page low high c) r
row_last count a b own usable pages page low high c r kept chain visited =
    tries_then {X = Unit {0}} {Y = Unit {0}} count a a b (Keeps page 6 (is_within_bounds low high c) ∷ []) (cell_chain usable pages page c ++ own page c.key (payload_of usable pages c)) tt r kept
    (tries_then {X = Unit {0}} {Y = Unit {0}} count a b b (cell_chain usable pages page c) (own page c.key (payload_of usable pages c)) tt r chain visited)

-- what is to come of a row and of those behind it
pub row_ahead : {V : Type 0} (v : visitors.Ghosts V) (usable : ℕ) (pages : Paging) (before now : Met) (visitor : V) (outlook : Outlook) (later : List LeafRow) (all : List Mark) (page low high : ℕ) (left rest : List Cell) (cell : Cell)
    → left ≡ cell ∷ rest → IsRowed v usable pages before now visitor outlook later all page low high left
    → v.outlook visitor (row_of usable pages page cell ∷ (leaf_rows usable pages page rest ++ later)) ≡ outlook
row_ahead v usable pages before now visitor outlook later all page low high left rest cell is rowed =
    let P : List Cell → Type 0 = λ cs. v.outlook visitor (leaf_rows usable pages page cs ++ later) ≡ outlook in subst P is rowed.ahead

row_front : {V : Type 0} (v : visitors.Ghosts V) (usable : ℕ) (pages : Paging) (before now : Met) (visitor : V) (outlook : Outlook) (later : List LeafRow) (all : List Mark) (page low high : ℕ) (left rest : List Cell) (cell : Cell)
    → left ≡ cell ∷ rest → IsRowed v usable pages before now visitor outlook later all page low high left
    → Leads before.pages (has_met before) all (has_met now)
    (row_marks outlook.marks usable pages page low high cell ++ leaf_marks outlook.marks usable pages page (rank cell.key + 1) high rest)
row_front v usable pages before now visitor outlook later all page low high left rest cell is rowed =
    let P : List Cell → Type 0 = λ cs. Leads before.pages (has_met before) all (has_met now) (leaf_marks outlook.marks usable pages page low high cs) in
    let Q : List Mark → Type 0 = λ ms. Leads before.pages (has_met before) all (has_met now) ms in
    subst Q (leaf_cons outlook.marks usable pages page low high cell rest) (subst P is rowed.tried)

-- a row more
pub row_next : {V : Type 0} (v : visitors.Ghosts V) (usable : ℕ) (pages : Paging) (before now next : Met) (visitor after : V) (outlook : Outlook) (later : List LeafRow) (all : List Mark) (page low high : ℕ) (left rest : List Cell) (cell : Cell)
    → now.pages ≡ before.pages → left ≡ cell ∷ rest → IsRowed v usable pages before now visitor outlook later all page low high left
    → Tries now.pages (has_met now) (has_met next)
    (row_marks (v.outlook visitor (row_of usable pages page cell ∷ (leaf_rows usable pages page rest ++ later))).marks usable pages page low high cell) (the_ok (Unit {0}) tt)
    → v.outlook after (leaf_rows usable pages page rest ++ later) ≡ v.outlook visitor (row_of usable pages page cell ∷ (leaf_rows usable pages page rest ++ later))
    → IsRowed v usable pages before next after outlook later all page (rank cell.key + 1) high rest
row_next v usable pages before now next visitor after outlook later all page low high left rest cell same is rowed tried on =
    let here = row_ahead v usable pages before now visitor outlook later all page low high left rest cell is rowed in
    let R : Outlook → Type 0 = λ o. Tries now.pages (has_met now) (has_met next) (row_marks o.marks usable pages page low high cell) (the_ok (Unit {0}) tt) in
    let Q : ℕ → Type 0 = λ n. Tries n (has_met now) (has_met next) (row_marks outlook.marks usable pages page low high cell) (the_ok (Unit {0}) tt) in
    record {
      tried = leads_try (Unit {0}) before.pages (has_met before) (has_met now) (has_met next) all (row_marks outlook.marks usable pages page low high cell)
          (leaf_marks outlook.marks usable pages page (rank cell.key + 1) high rest) tt
          (row_front v usable pages before now visitor outlook later all page low high left rest cell is rowed) (subst Q same (subst R here tried));
      ahead = on ∙ here;
    }

-- a row breaks a rule
pub row_halt : {V : Type 0} (v : visitors.Ghosts V) (usable : ℕ) (pages : Paging) (before now next : Met) (visitor : V) (outlook : Outlook) (later : List LeafRow) (all : List Mark) (page low high : ℕ) (left rest : List Cell) (cell : Cell) (halt : Halt)
    → now.pages ≡ before.pages → left ≡ cell ∷ rest → IsRowed v usable pages before now visitor outlook later all page low high left
    → Tries now.pages (has_met now) (has_met next)
    (row_marks (v.outlook visitor (row_of usable pages page cell ∷ (leaf_rows usable pages page rest ++ later))).marks usable pages page low high cell) (the_err (Unit {0}) halt)
    → Tries before.pages (has_met before) (has_met next) all (the_err ℕ halt)
row_halt v usable pages before now next visitor outlook later all page low high left rest cell halt same is rowed tried =
    let here = row_ahead v usable pages before now visitor outlook later all page low high left rest cell is rowed in
    let R : Outlook → Type 0 = λ o. Tries now.pages (has_met now) (has_met next) (row_marks o.marks usable pages page low high cell) (the_err (Unit {0}) halt) in
    let Q : ℕ → Type 0 = λ n. Tries n (has_met now) (has_met next) (row_marks outlook.marks usable pages page low high cell) (the_err (Unit {0}) halt) in
    leads_halt (Unit {0}) ℕ before.pages (has_met before) (has_met now) (has_met next) (has_met next) all (row_marks outlook.marks usable pages page low high cell)
    (leaf_marks outlook.marks usable pages page (rank cell.key + 1) high rest) halt
    (row_front v usable pages before now visitor outlook later all page low high left rest cell is rowed) (subst Q same (subst R here tried))

-- the same rows are left from the same bound on
pub rows_rest : {V : Type 0} (v : visitors.Ghosts V) (usable : ℕ) (pages : Paging) (before now : Met) (visitor : V) (outlook : Outlook) (later : List LeafRow) (all : List Mark) (page low bound high : ℕ) (left other : List Cell)
    → low ≡ bound → left ≡ other → IsRowed v usable pages before now visitor outlook later all page low high left
    → IsRowed v usable pages before now visitor outlook later all page bound high other
rows_rest v usable pages before now visitor outlook later all page low bound high left other from same rowed =
    let P : List Cell → Type 0 = λ cs. IsRowed v usable pages before now visitor outlook later all page low high cs in
    let Q : ℕ → Type 0 = λ n. IsRowed v usable pages before now visitor outlook later all page n high other in
    subst Q from (subst P same rowed)

-- no cell is left
pub none_left : (left : List Cell) → left ≡ [] → length left < 1
none_left [] none = omega arith
none_left (c ∷ cs) none = absurd cc

-- no row is left
pub rows_end : {V : Type 0} (v : visitors.Ghosts V) (usable : ℕ) (pages : Paging) (before now : Met) (visitor : V) (outlook : Outlook) (later : List LeafRow) (all : List Mark) (page low high level : ℕ) (left : List Cell) → length left < 1
    → IsRowed v usable pages before now visitor outlook later all page low high left
    → Tries before.pages (has_met before) (has_met now) all (the_ok ℕ level) × (v.outlook visitor later ≡ outlook)
rows_end v usable pages before now visitor outlook later all page low high level [] none rowed = (rowed.tried, rowed.ahead)
rows_end v usable pages before now visitor outlook later all page low high level (c ∷ cs) none rowed = absurd (omega (arith, none))

-- a leaf, whose rows are tried
pub rows_last : {V : Type 0} (v : visitors.Ghosts V) (usable : ℕ) (pages : Paging) (before next : Met) (visitor after : V) (later : List LeafRow) (stand levels low high holder page at : ℕ) (node : PageCells) (r : Result ℕ Halt) → 0 < levels
    → node_at usable pages page ≡ Ok node → is_leaf node.kind ≡ true → stand ≡ at
    → Tries before.pages (has_met before) (has_met before) (place_marks true levels stand page node.kind) (the_ok (Unit {0}) tt)
    → Tries before.pages (has_met before) (has_met next) (leaf_marks (v.outlook visitor (leaf_rows usable pages page node.cells ++ later)).marks usable pages page low high node.cells) r
    × OnOk r (v.outlook after later ≡ v.outlook visitor (leaf_rows usable pages page node.cells ++ later))
    → IfOk r (λ level. level ≡ at)
    → Tries before.pages (has_met before) (has_met next) (behind_read (table_marks (v.outlook visitor (walk_rows usable pages levels page ++ later)).marks usable pages stand levels low high holder page)) r
    × IfOk r (λ level. stand ≡ level) × OnOk r (v.outlook after later ≡ v.outlook visitor (walk_rows usable pages levels page ++ later))
rows_last v usable pages before next visitor after later stand levels low high holder page at node r some is kind stands placed rows level =
    let own = (v.outlook visitor (leaf_rows usable pages page node.cells ++ later)).marks in
    let P : List Mark → Type 0 = λ marks. Tries before.pages (has_met before) (has_met next) marks r in
    let Q : List LeafRow → Type 0 = λ rs.
    Tries before.pages (has_met before) (has_met next) (behind_read (table_marks (v.outlook visitor (rs ++ later)).marks usable pages stand levels low high holder page)) r
    × IfOk r (λ level. stand ≡ level) × OnOk r (v.outlook after later ≡ v.outlook visitor (rs ++ later)) in
    subst Q (sym (rows_leaf usable pages levels page node some is kind)) (
      subst P (sym (table_leaf own usable pages stand levels low high holder page node some is kind))
          (tries_then {X = Unit {0}} {Y = ℕ} before.pages (has_met before) (has_met before) (has_met next) (place_marks true levels stand page node.kind)
          (leaf_marks own usable pages page low high node.cells) tt r placed rows.0),
      levelled r level,
      rows.1,
    )
  where
    levelled : (r : Result ℕ Halt) → IfOk r (λ level. level ≡ at) → IfOk r (λ level. stand ≡ level)
    levelled (Ok l) e = stands ∙ sym e
    levelled (Err halt) e = tt
