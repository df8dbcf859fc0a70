use Rattle.std.proofs.Common.{◌≡◌, ◌∙◌, ℕ, ◌+◌, ◌-◌, ◌<◌, true, false, List, [], ◌∷◌, ◌++◌, Option, Some, refl, sym, ap, subst, arith, append_assoc, length}
use Rattle.std.specs.Prelude.{Result, Ok, IfOk, OnOk}
use Rattle.spe_model.specs.declared.page.Cell.{Cell}
use Rattle.spe_model.specs.declared.page.PageCells.{PageCells}
use Rattle.spe_model.specs.Kind.{is_leaf}
use Rattle.spe_model.specs.Paging.{Paging}
use Rattle.spe_model.specs.Tree.{node_at, rank}
use Rattle.spe_model.specs.Verdict.{LeafRow}
use Rattle.spe_model.specs.Walk.{Mark, Keeps, fan_marks, fan_rows, first_child, is_within_bounds, levels_at_leaf, table_marks, walk_rows}
use Rattle.spe_check.specs.declared.met.Met.{Met}
use Rattle.spe_check.specs.declared.halt.Halt.{Halt}
use Rattle.spe_check.specs.declared.visitor.RowVisitor as visitors
use Rattle.spe_check.specs.MetPages.{has_met}
use Rattle.spe_check.specs.Pages.{IsStand, behind_read, place_marks}
use Rattle.spe_check.specs.TableTree.{IsTableFanned}
use Rattle.spe_check.specs.Tries.{Leads, Tries}
use Rattle.spe_check.specs.Visitor.{Outlook}
use Rattle.spe_check.proofs.IndexLemmas.{first_open, stand_of}
use Rattle.spe_check.proofs.TableLemmas.{table_open, rows_open}
use Rattle.spe_check.proofs.TriesLemmas.{leads_try, leads_halt, leads_last, the_ok, the_err}

-- the page was tried, and its children are left
pub table_fanned_first : {V : Type 0} (v : visitors.Ghosts V) (usable : ℕ) (pages : Paging) (before : Met) (visitor : V) (later : List LeafRow) (stand levels low high holder page : ℕ) (leaf : Option ℕ) (node : PageCells) → 0 < levels
    → node_at usable pages page ≡ Ok node → is_leaf node.kind ≡ false → IsStand leaf stand (levels_at_leaf usable pages levels page)
    → Tries before.pages (has_met before) (has_met before) (place_marks true levels stand page node.kind) (the_ok (Unit {0}) tt)
    → IsTableFanned v usable pages before before visitor (v.outlook visitor (walk_rows usable pages levels page ++ later)) later
    (behind_read (table_marks (v.outlook visitor (walk_rows usable pages levels page ++ later)).marks usable pages stand levels low high holder page)) stand levels low high page leaf node.cells node.right
table_fanned_first v usable pages before visitor later stand levels low high holder page leaf node some is inner stands tried =
    let own = (v.outlook visitor (walk_rows usable pages levels page ++ later)).marks in
    let fan = fan_marks (table_marks own usable pages stand (levels - 1)) page low high node.cells node.right in
    let place = place_marks true levels stand page node.kind in
    let P : List Mark → Type 0 = λ marks. Leads before.pages (has_met before) marks (has_met before) fan in
    let led : Leads before.pages (has_met before) (place ++ fan) (has_met before) fan =
    leads_try (Unit {0}) before.pages (has_met before) (has_met before) (has_met before) (place ++ fan) place fan tt (λ more. refl) tried in
    record {
      tried = subst P (sym (table_open own usable pages stand levels low high holder page node some is inner)) led;
      ahead = ap (λ (rs : List LeafRow). v.outlook visitor (rs ++ later)) (sym (rows_open usable pages levels page node some is inner));
      stands = stand_of leaf stand _ _ (first_open usable pages levels page node some is inner) stands;
    }

-- what is to come of the rows of a child and of those behind it
pub child_ahead : {V : Type 0} (v : visitors.Ghosts V) (usable : ℕ) (pages : Paging) (before now : Met) (visitor : V) (outlook : Outlook) (later : List LeafRow) (all : List Mark) (stand levels low high page : ℕ) (leaf : Option ℕ) (left rest : List Cell) (cell : Cell) (right : ℕ)
    → left ≡ cell ∷ rest → IsTableFanned v usable pages before now visitor outlook later all stand levels low high page leaf left right
    → v.outlook visitor (walk_rows usable pages (levels - 1) cell.left ++ (fan_rows (walk_rows usable pages (levels - 1)) rest right ++ later)) ≡ outlook
child_ahead v usable pages before now visitor outlook later all stand levels low high page leaf left rest cell right is fanned =
    let P : List Cell → Type 0 = λ cs. v.outlook visitor (fan_rows (walk_rows usable pages (levels - 1)) cs right ++ later) ≡ outlook in
    ap (v.outlook visitor) (sym (append_assoc (walk_rows usable pages (levels - 1) cell.left) (fan_rows (walk_rows usable pages (levels - 1)) rest right) later)) ∙ subst P is fanned.ahead

-- where the first leaf stands, seen from the next child
pub table_child_stands : {V : Type 0} (v : visitors.Ghosts V) (usable : ℕ) (pages : Paging) (before now : Met) (visitor : V) (outlook : Outlook) (later : List LeafRow) (all : List Mark) (stand levels low high page : ℕ) (leaf : Option ℕ) (left rest : List Cell) (cell : Cell) (right : ℕ)
    → left ≡ cell ∷ rest → IsTableFanned v usable pages before now visitor outlook later all stand levels low high page leaf left right
    → IsStand leaf stand (levels_at_leaf usable pages (levels - 1) cell.left)
table_child_stands v usable pages before now visitor outlook later all stand levels low high page leaf left rest cell right is fanned =
    let P : List Cell → Type 0 = λ cs. IsStand leaf stand (levels_at_leaf usable pages (levels - 1) (first_child cs right)) in
    subst P is fanned.stands

-- a child is tried, whose upper bound is the key beside it
pub child_led : {V : Type 0} (v : visitors.Ghosts V) (usable : ℕ) (pages : Paging) (before now mid : Met) (visitor : V) (outlook : Outlook) (later : List LeafRow) (all : List Mark) (stand levels low high page bound level : ℕ) (leaf : Option ℕ) (left rest : List Cell) (cell : Cell) (right : ℕ)
    → now.pages ≡ before.pages → left ≡ cell ∷ rest → bound ≡ rank cell.key + 1 → IsTableFanned v usable pages before now visitor outlook later all stand levels low high page leaf left right
    → Tries now.pages (has_met now) (has_met mid)
    (table_marks (v.outlook visitor (walk_rows usable pages (levels - 1) cell.left ++ (fan_rows (walk_rows usable pages (levels - 1)) rest right ++ later))).marks usable pages stand (levels - 1) low bound page cell.left) (the_ok ℕ level)
    → Leads before.pages (has_met before) all (has_met mid)
    (Keeps page 6 (is_within_bounds low high cell) ∷ fan_marks (table_marks outlook.marks usable pages stand (levels - 1)) page (rank cell.key + 1) high rest right)
child_led v usable pages before now mid visitor outlook later all stand levels low high page bound level leaf left rest cell right same is to fanned child =
    let walk = table_marks outlook.marks usable pages stand (levels - 1) in
    let here = child_ahead v usable pages before now visitor outlook later all stand levels low high page leaf left rest cell right is fanned in
    let P : List Cell → Type 0 = λ cs. Leads before.pages (has_met before) all (has_met now) (fan_marks walk page low high cs right) in
    let R : Outlook → Type 0 = λ o. Tries now.pages (has_met now) (has_met mid) (table_marks o.marks usable pages stand (levels - 1) low bound page cell.left) (the_ok ℕ level) in
    let B : ℕ → Type 0 = λ b. Tries now.pages (has_met now) (has_met mid) (walk low b page cell.left) (the_ok ℕ level) in
    let Q : ℕ → Type 0 = λ n. Tries n (has_met now) (has_met mid) (walk low (rank cell.key + 1) page cell.left) (the_ok ℕ level) in
    leads_try ℕ before.pages (has_met before) (has_met now) (has_met mid) all (walk low (rank cell.key + 1) page cell.left)
    (Keeps page 6 (is_within_bounds low high cell) ∷ fan_marks walk page (rank cell.key + 1) high rest right) level
    (subst P is fanned.tried) (subst Q same (subst B to (subst R here child)))

-- a child and the key beside it more
pub table_fanned_next : {V : Type 0} (v : visitors.Ghosts V) (usable : ℕ) (pages : Paging) (before now mid : Met) (visitor after : V) (outlook : Outlook) (later : List LeafRow) (all : List Mark) (stand levels low high page bound level : ℕ) (leaf : Option ℕ) (left rest : List Cell) (cell : Cell) (right : ℕ)
    → now.pages ≡ before.pages → left ≡ cell ∷ rest → bound ≡ rank cell.key + 1 → stand ≡ level → IsTableFanned v usable pages before now visitor outlook later all stand levels low high page leaf left right
    → Tries now.pages (has_met now) (has_met mid)
    (table_marks (v.outlook visitor (walk_rows usable pages (levels - 1) cell.left ++ (fan_rows (walk_rows usable pages (levels - 1)) rest right ++ later))).marks usable pages stand (levels - 1) low bound page cell.left) (the_ok ℕ level)
    → v.outlook after (fan_rows (walk_rows usable pages (levels - 1)) rest right ++ later)
    ≡ v.outlook visitor (walk_rows usable pages (levels - 1) cell.left ++ (fan_rows (walk_rows usable pages (levels - 1)) rest right ++ later))
    → Tries before.pages (has_met mid) (has_met mid) (Keeps page 6 (is_within_bounds low high cell) ∷ []) (the_ok (Unit {0}) tt)
    → IsTableFanned v usable pages before mid after outlook later all stand levels bound high page (Some level) rest right
table_fanned_next v usable pages before now mid visitor after outlook later all stand levels low high page bound level leaf left rest cell right same is to at fanned child on kept =
    let walk = table_marks outlook.marks usable pages stand (levels - 1) in
    let led = child_led v usable pages before now mid visitor outlook later all stand levels low high page bound level leaf left rest cell right same is to fanned child in
    let P : ℕ → Type 0 = λ n. Leads before.pages (has_met before) all (has_met mid) (fan_marks walk page n high rest right) in
    record {
      tried = subst P (sym to) (leads_try (Unit {0}) before.pages (has_met before) (has_met mid) (has_met mid) all (Keeps page 6 (is_within_bounds low high cell) ∷ [])
          (fan_marks walk page (rank cell.key + 1) high rest right) tt led kept);
      ahead = on ∙ child_ahead v usable pages before now visitor outlook later all stand levels low high page leaf left rest cell right is fanned;
      stands = at;
    }

-- the key beside a child is out of its bounds
pub key_halt : {V : Type 0} (v : visitors.Ghosts V) (usable : ℕ) (pages : Paging) (before now mid : Met) (visitor : V) (outlook : Outlook) (later : List LeafRow) (all : List Mark) (stand levels low high page bound level : ℕ) (leaf : Option ℕ) (left rest : List Cell) (cell : Cell) (right : ℕ) (halt : Halt)
    → now.pages ≡ before.pages → left ≡ cell ∷ rest → bound ≡ rank cell.key + 1 → IsTableFanned v usable pages before now visitor outlook later all stand levels low high page leaf left right
    → Tries now.pages (has_met now) (has_met mid)
    (table_marks (v.outlook visitor (walk_rows usable pages (levels - 1) cell.left ++ (fan_rows (walk_rows usable pages (levels - 1)) rest right ++ later))).marks usable pages stand (levels - 1) low bound page cell.left) (the_ok ℕ level)
    → Tries before.pages (has_met mid) (has_met mid) (Keeps page 6 (is_within_bounds low high cell) ∷ []) (the_err (Unit {0}) halt)
    → Tries before.pages (has_met before) (has_met mid) all (the_err ℕ halt)
key_halt v usable pages before now mid visitor outlook later all stand levels low high page bound level leaf left rest cell right halt same is to fanned child broke =
    leads_halt (Unit {0}) ℕ before.pages (has_met before) (has_met mid) (has_met mid) (has_met mid) all (Keeps page 6 (is_within_bounds low high cell) ∷ [])
    (fan_marks (table_marks outlook.marks usable pages stand (levels - 1)) page (rank cell.key + 1) high rest right) halt
    (child_led v usable pages before now mid visitor outlook later all stand levels low high page bound level leaf left rest cell right same is to fanned child) broke

-- a child breaks a rule
pub child_halt : {V : Type 0} (v : visitors.Ghosts V) (usable : ℕ) (pages : Paging) (before now mid : Met) (visitor : V) (outlook : Outlook) (later : List LeafRow) (all : List Mark) (stand levels low high page bound : ℕ) (leaf : Option ℕ) (left rest : List Cell) (cell : Cell) (right : ℕ) (halt : Halt)
    → now.pages ≡ before.pages → left ≡ cell ∷ rest → bound ≡ rank cell.key + 1 → IsTableFanned v usable pages before now visitor outlook later all stand levels low high page leaf left right
    → Tries now.pages (has_met now) (has_met mid)
    (table_marks (v.outlook visitor (walk_rows usable pages (levels - 1) cell.left ++ (fan_rows (walk_rows usable pages (levels - 1)) rest right ++ later))).marks usable pages stand (levels - 1) low bound page cell.left) (the_err ℕ halt)
    → Tries before.pages (has_met before) (has_met mid) all (the_err ℕ halt)
child_halt v usable pages before now mid visitor outlook later all stand levels low high page bound leaf left rest cell right halt same is to fanned child =
    let walk = table_marks outlook.marks usable pages stand (levels - 1) in
    let here = child_ahead v usable pages before now visitor outlook later all stand levels low high page leaf left rest cell right is fanned in
    let P : List Cell → Type 0 = λ cs. Leads before.pages (has_met before) all (has_met now) (fan_marks walk page low high cs right) in
    let R : Outlook → Type 0 = λ o. Tries now.pages (has_met now) (has_met mid) (table_marks o.marks usable pages stand (levels - 1) low bound page cell.left) (the_err ℕ halt) in
    let B : ℕ → Type 0 = λ b. Tries now.pages (has_met now) (has_met mid) (walk low b page cell.left) (the_err ℕ halt) in
    let Q : ℕ → Type 0 = λ n. Tries n (has_met now) (has_met mid) (walk low (rank cell.key + 1) page cell.left) (the_err ℕ halt) in
    leads_halt ℕ ℕ before.pages (has_met before) (has_met now) (has_met mid) (has_met mid) all (walk low (rank cell.key + 1) page cell.left)
    (Keeps page 6 (is_within_bounds low high cell) ∷ fan_marks walk page (rank cell.key + 1) high rest right) halt
    (subst P is fanned.tried) (subst Q same (subst B to (subst R here child)))

-- the right-most child is the last
pub table_fanned_last : {V : Type 0} (v : visitors.Ghosts V) (usable : ℕ) (pages : Paging) (before now next : Met) (visitor after : V) (outlook : Outlook) (later : List LeafRow) (all : List Mark) (stand levels low high page : ℕ) (leaf : Option ℕ) (left : List Cell) (right : ℕ) (r : Result ℕ Halt)
    → now.pages ≡ before.pages → length left < 1 → IsTableFanned v usable pages before now visitor outlook later all stand levels low high page leaf left right
    → (IsStand leaf stand (levels_at_leaf usable pages (levels - 1) right)
    → Tries now.pages (has_met now) (has_met next) (table_marks (v.outlook visitor (walk_rows usable pages (levels - 1) right ++ later)).marks usable pages stand (levels - 1) low high page right) r
    × IfOk r (λ level. stand ≡ level) × OnOk r (v.outlook after later ≡ v.outlook visitor (walk_rows usable pages (levels - 1) right ++ later)))
    → Tries before.pages (has_met before) (has_met next) all r × IfOk r (λ level. stand ≡ level) × OnOk r (v.outlook after later ≡ outlook)
table_fanned_last v usable pages before now next visitor after outlook later all stand levels low high page leaf (c ∷ cs) right r same none fanned last = absurd (omega (arith, none))
table_fanned_last v usable pages before now next visitor after outlook later all stand levels low high page leaf [] right r same none fanned last =
    let child = last fanned.stands in
    let R : Outlook → Type 0 = λ o.
    Tries now.pages (has_met now) (has_met next) (table_marks o.marks usable pages stand (levels - 1) low high page right) r
    × IfOk r (λ level. stand ≡ level) × OnOk r (v.outlook after later ≡ o) in
    let there = subst R fanned.ahead child in
    let Q : ℕ → Type 0 = λ n. Tries n (has_met now) (has_met next) (table_marks outlook.marks usable pages stand (levels - 1) low high page right) r in (
      leads_last before.pages (has_met before) (has_met now) (has_met next) all (table_marks outlook.marks usable pages stand (levels - 1) low high page right) r
          fanned.tried (subst Q same there.0),
      there.1,
      there.2,
    )

-- the same children are left from the same bound on
pub table_fanned_rest : {V : Type 0} (v : visitors.Ghosts V) (usable : ℕ) (pages : Paging) (before now : Met) (visitor : V) (outlook : Outlook) (later : List LeafRow) (all : List Mark) (stand levels low bound high page : ℕ) (leaf : Option ℕ) (left other : List Cell) (right : ℕ)
    → low ≡ bound → left ≡ other → IsTableFanned v usable pages before now visitor outlook later all stand levels low high page leaf left right
    → IsTableFanned v usable pages before now visitor outlook later all stand levels bound high page leaf other right
table_fanned_rest v usable pages before now visitor outlook later all stand levels low bound high page leaf left other right from same fanned =
    let P : List Cell → Type 0 = λ cs. IsTableFanned v usable pages before now visitor outlook later all stand levels low high page leaf cs right in
    let Q : ℕ → Type 0 = λ n. IsTableFanned v usable pages before now visitor outlook later all stand levels n high page leaf other right in
    subst Q from (subst P same fanned)
