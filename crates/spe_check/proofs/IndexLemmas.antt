use Rattle.std.proofs.Common.{◌≡◌, ◌∙◌, ℕ, zero, suc, ◌-◌, ◌<◌, ◌≤◌, Bool, true, false, List, [], ◌∷◌, ◌++◌, Option, Some, None, refl, sym, ap, subst, arith, length, drop, get_or}
use Rattle.std.specs.Prelude.{Result, Ok, Err, IfOk, if◌then◌else◌}
use Rattle.std.proofs.lemmas.List.Concat.{flat_map-cons}
use Rattle.spe_model.specs.declared.page.Cell.{Cell}
use Rattle.spe_model.specs.declared.page.PageCells.{PageCells}
use Rattle.spe_model.specs.Kind.{is_leaf}
use Rattle.spe_model.specs.Paging.{Paging}
use Rattle.spe_model.specs.Tree.{node_at, node_cells, node_right, cells_in, right_in}
use Rattle.spe_model.specs.Walk.{Mark, cell_chain, chains_marks, first_child, has_kind, index_fan_marks, index_marks, is_leaf_page, levels_at_leaf}
use Rattle.spe_check.specs.declared.met.Met.{Met}
use Rattle.spe_check.specs.declared.halt.Halt.{Halt}
use Rattle.spe_check.specs.IndexTree.{level_of, IsFanned}
use Rattle.spe_check.specs.MetPages.{has_met}
use Rattle.spe_check.specs.Pages.{IsStand, behind_read, place_marks, read_marks}
use Rattle.spe_check.specs.Tries.{Leads, Tries}
use Rattle.spe_check.proofs.PageLemmas.{kind_marks, misplaced, placed_are}
use Rattle.spe_check.proofs.TriesLemmas.{leads_try, leads_halt, leads_last, tries_halt, tries_then, the_ok, the_err}

-- the chain of a cell more
pub chains_more : (count now : ℕ) (a b c : ℕ → Bool) (usable : ℕ) (pages : Paging) (page : ℕ) (all left rest : List Cell) (cell : Cell) → now ≡ count → left ≡ cell ∷ rest
    → Leads count a (chains_marks usable pages page all) b (chains_marks usable pages page left)
    → Tries now b c (cell_chain usable pages page cell) (the_ok (Unit {0}) tt)
    → Leads count a (chains_marks usable pages page all) c (chains_marks usable pages page rest)
chains_more count now a b c usable pages page all left rest cell same is led tried =
    let P : List Mark → Type 0 = λ marks. Leads count a (chains_marks usable pages page all) b marks in
    let Q : ℕ → Type 0 = λ n. Tries n b c (cell_chain usable pages page cell) (the_ok (Unit {0}) tt) in
    leads_try (Unit {0}) count a b c (chains_marks usable pages page all) (cell_chain usable pages page cell) (chains_marks usable pages page rest) tt
    (subst P (ap (chains_marks usable pages page) is ∙ flat_map-cons (cell_chain usable pages page) cell rest) led) (subst Q same tried)

pub chains_halt : (count now : ℕ) (a b c : ℕ → Bool) (usable : ℕ) (pages : Paging) (page : ℕ) (all left rest : List Cell) (cell : Cell) (halt : Halt) → now ≡ count → left ≡ cell ∷ rest
    → Leads count a (chains_marks usable pages page all) b (chains_marks usable pages page left)
    → Tries now b c (cell_chain usable pages page cell) (the_err (Unit {0}) halt)
    → Tries count a c (chains_marks usable pages page all) (the_err (Unit {0}) halt)
chains_halt count now a b c usable pages page all left rest cell halt same is led tried =
    let P : List Mark → Type 0 = λ marks. Leads count a (chains_marks usable pages page all) b marks in
    let Q : ℕ → Type 0 = λ n. Tries n b c (cell_chain usable pages page cell) (the_err (Unit {0}) halt) in
    leads_halt (Unit {0}) (Unit {0}) count a b c c (chains_marks usable pages page all) (cell_chain usable pages page cell) (chains_marks usable pages page rest) halt
    (subst P (ap (chains_marks usable pages page) is ∙ flat_map-cons (cell_chain usable pages page) cell rest) led) (subst Q same tried)

-- the marks of reading the first page come first
pub index_read : (usable : ℕ) (pages : Paging) (stand levels holder page : ℕ)
    → index_marks usable pages stand levels holder page ≡ read_marks usable pages holder page ++ behind_read (index_marks usable pages stand levels holder page)
index_read usable pages stand zero holder page = refl
index_read usable pages stand (suc m) holder page = refl

-- the marks behind them, by what the page holds
pub index_open : (usable : ℕ) (pages : Paging) (stand levels holder page : ℕ) (node : PageCells) → 0 < levels → node_at usable pages page ≡ Ok node → is_leaf node.kind ≡ false
    → behind_read (index_marks usable pages stand levels holder page)
    ≡ place_marks false levels stand page node.kind ++ index_fan_marks (index_marks usable pages stand (levels - 1)) usable pages page node.cells node.right
index_open usable pages stand zero holder page node some is inner = absurd (omega (arith, some))
index_open usable pages stand (suc m) holder page node some is inner =
    let less : m ≡ suc m - 1 = omega arith in
    let kind : is_leaf_page usable pages page ≡ false = ap (has_kind is_leaf) is ∙ inner in
    let front = kind_marks false usable pages stand (suc m) page in
    let fan = index_fan_marks (index_marks usable pages stand (suc m - 1)) usable pages page node.cells node.right in
    let here : behind_read (index_marks usable pages stand (suc m) holder page)
    ≡ front ++ index_fan_marks (index_marks usable pages stand m) usable pages page (node_cells usable pages page) (node_right usable pages page) = rw kind refl in
    here ∙ ap (λ (cs : List Cell). front ++ index_fan_marks (index_marks usable pages stand m) usable pages page cs (node_right usable pages page)) (ap cells_in is)
    ∙ ap (λ (r : ℕ). front ++ index_fan_marks (index_marks usable pages stand m) usable pages page node.cells r) (ap right_in is)
    ∙ ap (λ (n : ℕ). front ++ index_fan_marks (index_marks usable pages stand n) usable pages page node.cells node.right) less
    ∙ ap (λ (ms : List Mark). ms ++ fan) (placed_are false usable pages stand (suc m) page node is)

pub index_leaf : (usable : ℕ) (pages : Paging) (stand levels holder page : ℕ) (node : PageCells) → 0 < levels → node_at usable pages page ≡ Ok node → is_leaf node.kind ≡ true
    → behind_read (index_marks usable pages stand levels holder page) ≡ place_marks false levels stand page node.kind ++ chains_marks usable pages page node.cells
index_leaf usable pages stand zero holder page node some is leaf = absurd (omega (arith, some))
index_leaf usable pages stand (suc m) holder page node some is leaf =
    let kind : is_leaf_page usable pages page ≡ true = ap (has_kind is_leaf) is ∙ leaf in
    let front = kind_marks false usable pages stand (suc m) page in
    let here : behind_read (index_marks usable pages stand (suc m) holder page) ≡ front ++ chains_marks usable pages page (node_cells usable pages page) = rw kind refl in
    here ∙ ap (λ (cs : List Cell). front ++ chains_marks usable pages page cs) (ap cells_in is)
    ∙ ap (λ (ms : List Mark). ms ++ chains_marks usable pages page node.cells) (placed_are false usable pages stand (suc m) page node is)

pub first_open : (usable : ℕ) (pages : Paging) (levels page : ℕ) (node : PageCells) → 0 < levels → node_at usable pages page ≡ Ok node → is_leaf node.kind ≡ false
    → levels_at_leaf usable pages levels page ≡ levels_at_leaf usable pages (levels - 1) (first_child node.cells node.right)
first_open usable pages zero page node some is inner = absurd (omega (arith, some))
first_open usable pages (suc m) page node some is inner =
    let less : m ≡ suc m - 1 = omega arith in
    let kind : is_leaf_page usable pages page ≡ false = ap (has_kind is_leaf) is ∙ inner in
    let here : levels_at_leaf usable pages (suc m) page ≡ levels_at_leaf usable pages m (first_child (node_cells usable pages page) (node_right usable pages page)) = rw kind refl in
    here ∙ ap (λ (cs : List Cell). levels_at_leaf usable pages m (first_child cs (node_right usable pages page))) (ap cells_in is)
    ∙ ap (λ (r : ℕ). levels_at_leaf usable pages m (first_child node.cells r)) (ap right_in is)
    ∙ ap (λ (n : ℕ). levels_at_leaf usable pages n (first_child node.cells node.right)) less

pub stand_of : (leaf : Option ℕ) (stand a b : ℕ) → a ≡ b → IsStand leaf stand a → IsStand leaf stand b
stand_of (Some level) stand a b same is = is
stand_of None stand a b same is = is ∙ same

-- the page was tried, and its children are left
pub fanned_first : (usable : ℕ) (pages : Paging) (before : Met) (stand levels holder page : ℕ) (leaf : Option ℕ) (node : PageCells) → 0 < levels
    → node_at usable pages page ≡ Ok node → is_leaf node.kind ≡ false → IsStand leaf stand (levels_at_leaf usable pages levels page)
    → Tries before.pages (has_met before) (has_met before) (place_marks false levels stand page node.kind) (the_ok (Unit {0}) tt)
    → IsFanned usable pages before before (behind_read (index_marks usable pages stand levels holder page)) stand levels page leaf node.cells node.right
fanned_first usable pages before stand levels holder page leaf node some is inner stands tried =
    let fan = index_fan_marks (index_marks usable pages stand (levels - 1)) usable pages page node.cells node.right in
    let place = place_marks false levels stand page node.kind in
    let P : List Mark → Type 0 = λ marks. Leads before.pages (has_met before) marks (has_met before) fan in
    let led : Leads before.pages (has_met before) (place ++ fan) (has_met before) fan =
    leads_try (Unit {0}) before.pages (has_met before) (has_met before) (has_met before) (place ++ fan) place fan tt (λ more. refl) tried in
    record {
      tried = subst P (sym (index_open usable pages stand levels holder page node some is inner)) led;
      stands = stand_of leaf stand _ _ (first_open usable pages levels page node some is inner) stands;
    }

-- a child and the chain of its cell more
pub fanned_next : (usable : ℕ) (pages : Paging) (before now mid later : Met) (all : List Mark) (stand levels page level : ℕ) (leaf : Option ℕ) (left rest : List Cell) (cell : Cell) (right : ℕ)
    → now.pages ≡ before.pages → mid.pages ≡ before.pages → left ≡ cell ∷ rest → stand ≡ level → IsFanned usable pages before now all stand levels page leaf left right
    → Tries now.pages (has_met now) (has_met mid) (index_marks usable pages stand (levels - 1) page cell.left) (the_ok ℕ level)
    → Tries mid.pages (has_met mid) (has_met later) (cell_chain usable pages page cell) (the_ok (Unit {0}) tt)
    → IsFanned usable pages before later all stand levels page (Some level) rest right
fanned_next usable pages before now mid later all stand levels page level leaf left rest cell right same same2 is at fanned child chain =
    let walk = index_marks usable pages stand (levels - 1) in
    let P : List Cell → Type 0 = λ cs. Leads before.pages (has_met before) all (has_met now) (index_fan_marks walk usable pages page cs right) in
    let Q : ℕ → Type 0 = λ n. Tries n (has_met now) (has_met mid) (walk page cell.left) (the_ok ℕ level) in
    let R : ℕ → Type 0 = λ n. Tries n (has_met mid) (has_met later) (cell_chain usable pages page cell) (the_ok (Unit {0}) tt) in
    let both = tries_then {X = ℕ} {Y = Unit {0}} before.pages (has_met now) (has_met mid) (has_met later) (walk page cell.left) (cell_chain usable pages page cell) level (the_ok (Unit {0}) tt)
    (subst Q same child) (subst R same2 chain) in
    record {
      tried = leads_try (Unit {0}) before.pages (has_met before) (has_met now) (has_met later) all
          (walk page cell.left ++ cell_chain usable pages page cell) (index_fan_marks walk usable pages page rest right) tt (subst P is fanned.tried) both;
      stands = at;
    }

-- a list that has a first element
pub front_is : {X : Type 0} (xs : List X) (x : X) → 1 ≤ length xs → x ≡ get_or xs 0 x → xs ≡ x ∷ drop 1 xs
front_is [] x some is = absurd (omega (arith, some))
front_is (y ∷ ys) x some is = ap (λ z. z ∷ ys) (sym is)

pub chains_end : (count : ℕ) (a b : ℕ → Bool) (usable : ℕ) (pages : Paging) (page : ℕ) (all left : List Cell) → length left < 1
    → Leads count a (chains_marks usable pages page all) b (chains_marks usable pages page left)
    → Tries count a b (chains_marks usable pages page all) (the_ok (Unit {0}) tt)
chains_end count a b usable pages page all [] none led = led
chains_end count a b usable pages page all (c ∷ cs) none led = absurd (omega (arith, none))

-- the page itself breaks a rule
pub index_halt : (count : ℕ) (a : ℕ → Bool) (usable : ℕ) (pages : Paging) (stand levels holder page : ℕ) (node : PageCells) (halt : Halt) → node_at usable pages page ≡ Ok node
    → Tries count a a (place_marks false levels stand page node.kind) (the_err (Unit {0}) halt)
    → Tries count a a (behind_read (index_marks usable pages stand levels holder page)) (the_err ℕ halt)
index_halt count a usable pages stand zero holder page node halt is tried =
    misplaced count a false usable pages stand zero page node [] halt is tried
index_halt count a usable pages stand (suc m) holder page node halt is tried =
    misplaced count a false usable pages stand (suc m) page node
    (if is_leaf_page usable pages page then chains_marks usable pages page (node_cells usable pages page)
    else index_fan_marks (index_marks usable pages stand m) usable pages page (node_cells usable pages page) (node_right usable pages page)) halt is tried

-- a child breaks a rule
pub fanned_halt : (usable : ℕ) (pages : Paging) (before now later : Met) (all : List Mark) (stand levels page : ℕ) (leaf : Option ℕ) (left rest : List Cell) (cell : Cell) (right : ℕ) (halt : Halt)
    → now.pages ≡ before.pages → left ≡ cell ∷ rest → IsFanned usable pages before now all stand levels page leaf left right
    → Tries now.pages (has_met now) (has_met later) (index_marks usable pages stand (levels - 1) page cell.left) (the_err ℕ halt)
    → Tries before.pages (has_met before) (has_met later) all (the_err ℕ halt)
fanned_halt usable pages before now later all stand levels page leaf left rest cell right halt same is fanned child =
    let walk = index_marks usable pages stand (levels - 1) in
    let P : List Cell → Type 0 = λ cs. Leads before.pages (has_met before) all (has_met now) (index_fan_marks walk usable pages page cs right) in
    let Q : ℕ → Type 0 = λ n. Tries n (has_met now) (has_met later) (walk page cell.left) (the_err ℕ halt) in
    let both = tries_halt ℕ ℕ before.pages (has_met now) (has_met later) (has_met later) (walk page cell.left) (cell_chain usable pages page cell) halt (subst Q same child) in
    leads_halt ℕ ℕ before.pages (has_met before) (has_met now) (has_met later) (has_met later) all
    (walk page cell.left ++ cell_chain usable pages page cell) (index_fan_marks walk usable pages page rest right) halt (subst P is fanned.tried) both

-- the chain of its cell does
pub fanned_chain : (usable : ℕ) (pages : Paging) (before now mid later : Met) (all : List Mark) (stand levels page level : ℕ) (leaf : Option ℕ) (left rest : List Cell) (cell : Cell) (right : ℕ) (halt : Halt)
    → now.pages ≡ before.pages → mid.pages ≡ before.pages → left ≡ cell ∷ rest → IsFanned usable pages before now all stand levels page leaf left right
    → Tries now.pages (has_met now) (has_met mid) (index_marks usable pages stand (levels - 1) page cell.left) (the_ok ℕ level)
    → Tries mid.pages (has_met mid) (has_met later) (cell_chain usable pages page cell) (the_err (Unit {0}) halt)
    → Tries before.pages (has_met before) (has_met later) all (the_err ℕ halt)
fanned_chain usable pages before now mid later all stand levels page level leaf left rest cell right halt same same2 is fanned child chain =
    let walk = index_marks usable pages stand (levels - 1) in
    let P : List Cell → Type 0 = λ cs. Leads before.pages (has_met before) all (has_met now) (index_fan_marks walk usable pages page cs right) in
    let Q : ℕ → Type 0 = λ n. Tries n (has_met now) (has_met mid) (walk page cell.left) (the_ok ℕ level) in
    let R : ℕ → Type 0 = λ n. Tries n (has_met mid) (has_met later) (cell_chain usable pages page cell) (the_err (Unit {0}) halt) in
    let both = tries_then {X = ℕ} {Y = Unit {0}} before.pages (has_met now) (has_met mid) (has_met later) (walk page cell.left) (cell_chain usable pages page cell) level (the_err (Unit {0}) halt)
    (subst Q same child) (subst R same2 chain) in
    leads_halt (Unit {0}) ℕ before.pages (has_met before) (has_met now) (has_met later) (has_met later) all
    (walk page cell.left ++ cell_chain usable pages page cell) (index_fan_marks walk usable pages page rest right) halt (subst P is fanned.tried) both

-- the right-most child is the last
pub fanned_last : (usable : ℕ) (pages : Paging) (before now later : Met) (all : List Mark) (stand levels page : ℕ) (leaf : Option ℕ) (left : List Cell) (right : ℕ) (r : Result ℕ Halt)
    → now.pages ≡ before.pages → length left < 1 → IsFanned usable pages before now all stand levels page leaf left right
    → ((stand' : ℕ) → IsStand leaf stand' (levels_at_leaf usable pages (levels - 1) right)
    → Tries now.pages (has_met now) (has_met later) (index_marks usable pages stand' (levels - 1) page right) r × IfOk r (λ level. stand' ≡ level))
    → Tries before.pages (has_met before) (has_met later) all r × IfOk r (λ level. stand ≡ level)
fanned_last usable pages before now later all stand levels page leaf (c ∷ cs) right r same none fanned last = absurd (omega (arith, none))
fanned_last usable pages before now later all stand levels page leaf [] right r same none fanned last =
    let child = last stand fanned.stands in
    let Q : ℕ → Type 0 = λ n. Tries n (has_met now) (has_met later) (index_marks usable pages stand (levels - 1) page right) r in (
      leads_last before.pages (has_met before) (has_met now) (has_met later) all (index_marks usable pages stand (levels - 1) page right) r
          fanned.tried (subst Q same child.0),
      child.1,
    )

-- a leaf stands where the first one does
pub stands_at : (leaf : Option ℕ) (stand first levels : ℕ) → first ≡ levels → IsStand leaf stand first → stand ≡ level_of leaf levels
stands_at (Some level) stand first levels same is = is
stands_at None stand first levels same is = is ∙ same

-- a leaf, whose chains are tried
pub leaf_last : (before later : Met) (usable : ℕ) (pages : Paging) (stand levels holder page at : ℕ) (node : PageCells) (r : Result ℕ Halt) → 0 < levels
    → node_at usable pages page ≡ Ok node → is_leaf node.kind ≡ true → stand ≡ at
    → Tries before.pages (has_met before) (has_met before) (place_marks false levels stand page node.kind) (the_ok (Unit {0}) tt)
    → Tries before.pages (has_met before) (has_met later) (chains_marks usable pages page node.cells) r → IfOk r (λ level. level ≡ at)
    → Tries before.pages (has_met before) (has_met later) (behind_read (index_marks usable pages stand levels holder page)) r × IfOk r (λ level. stand ≡ level)
leaf_last before later usable pages stand levels holder page at node r some is kind stands placed chains level =
    let P : List Mark → Type 0 = λ marks. Tries before.pages (has_met before) (has_met later) marks r in (
      subst P (sym (index_leaf usable pages stand levels holder page node some is kind))
          (tries_then {X = Unit {0}} {Y = ℕ} before.pages (has_met before) (has_met before) (has_met later) (place_marks false levels stand page node.kind) (chains_marks usable pages page node.cells) tt r placed chains),
      levelled r level,
    )
  where
    levelled : (r : Result ℕ Halt) → IfOk r (λ level. level ≡ at) → IfOk r (λ level. stand ≡ level)
    levelled (Ok l) e = stands ∙ sym e
    levelled (Err halt) e = tt

-- where the first leaf stands, seen from the next child
pub child_stands : (usable : ℕ) (pages : Paging) (before now : Met) (all : List Mark) (stand levels page : ℕ) (leaf : Option ℕ) (left rest : List Cell) (cell : Cell) (right : ℕ)
    → left ≡ cell ∷ rest → IsFanned usable pages before now all stand levels page leaf left right
    → IsStand leaf stand (levels_at_leaf usable pages (levels - 1) cell.left)
child_stands usable pages before now all stand levels page leaf left rest cell right is fanned =
    let P : List Cell → Type 0 = λ cs. IsStand leaf stand (levels_at_leaf usable pages (levels - 1) (first_child cs right)) in
    subst P is fanned.stands

-- the same children are left
pub fanned_rest : (usable : ℕ) (pages : Paging) (before now : Met) (all : List Mark) (stand levels page : ℕ) (leaf : Option ℕ) (left other : List Cell) (right : ℕ) → left ≡ other
    → IsFanned usable pages before now all stand levels page leaf left right → IsFanned usable pages before now all stand levels page leaf other right
fanned_rest usable pages before now all stand levels page leaf left other right same fanned =
    let P : List Cell → Type 0 = λ cs. IsFanned usable pages before now all stand levels page leaf cs right in subst P same fanned

abbrev pub some_level : ℕ → Option ℕ
some_level level = Some level
