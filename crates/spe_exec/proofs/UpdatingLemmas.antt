-- An open table whose rows an UPDATE changes.
use Rattle.std.proofs.Common.{◌≡◌, inl, inr, ℕ, ℤ, ◌+◌, ◌<◌, true, false, List, [], ◌∷◌, All, length, map, Option, Ok, Err, refl, sym, ap, ◌∙◌, subst, arith}
use Rattle.std.specs.List.{list_any}
use Rattle.spe_model.specs.declared.reply.Refusal.TheVariants.{TooLarge}
use Rattle.spe_model.specs.declared.reply.Reply.{Reply}
use Rattle.spe_model.specs.declared.reply.Reply.TheVariants as replies
use Rattle.spe_model.specs.declared.statement.Cond.{Cond}
use Rattle.spe_model.specs.declared.statement.Statement.{Statement}
use Rattle.spe_model.specs.declared.statement.Statement.TheVariants.{Select, Count, Insert, Update, Delete}
use Rattle.spe_model.specs.declared.table.TableDef.{TableDef}
use Rattle.spe_model.specs.declared.value.Value.{Value}
use Rattle.spe_model.specs.Assigned.{assignments, by_column}
use Rattle.spe_model.specs.Conditions.{chosen, is_chosen}
use Rattle.spe_model.specs.Database.{Database, Row}
use Rattle.spe_model.specs.Length.{record_length}
use Rattle.spe_model.specs.Paging.{Agrees, Paging}
use Rattle.spe_model.specs.Rows.{with_rows, written}
use Rattle.spe_model.specs.Standing.{AreTableRows, all_pages}
use Rattle.spe_model.specs.Statement.{conds_of, is_update}
use Rattle.spe_model.specs.Tree.{IsTableTree, tree_rows}
use Rattle.spe_space.specs.declared.fault.TreeFault.{TreeFault}
use Rattle.spe_space.specs.declared.fault.TreeFault.TheVariants.{Space, Corrupt}
use Rattle.spe_space.specs.declared.pages.Pages.{Ghosts}
use Rattle.spe_space.specs.Calls.{Reads, sight}
use Rattle.spe_space.specs.Found.{Answers, OnMissing, missing_weaker}
use Rattle.spe_space.specs.Front.{number_in}
use Rattle.spe_space.specs.Outcome.{IsInside}
use Rattle.spe_frame.specs.Held.{Spares}
use Rattle.spe_frame.specs.Laws.{ReadsShift, ShiftsBoth, SparesBoth, SparesMore}
use Rattle.spe_frame.specs.Times.{times}
use Rattle.spe_write.specs.Chain.{IsSureOfTree}
use Rattle.spe_served.specs.Change.{IsServed, TableAlone}
use Rattle.spe_search.specs.declared.pairs.Pair.{Pair}
use Rattle.spe_search.specs.Pairs.{pair_seen}
use Rattle.spe_search.proofs.InsideLemmas.{between_inside, touched_inside}
use Rattle.spe_slow.specs.Answers.{rows_answer}
use Rattle.spe_slow.specs.Rows.{changed_values}
use Rattle.spe_slow.proofs.OrderLemmas.{written_each}
use Rattle.spe_slow.proofs.RowsAnswerLemmas.{updated, updated_not}
use Rattle.spe_slow.proofs.TablesLemmas.{with_same}
use Rattle.spe_insert.specs.Insert.{most_pages}
use Rattle.spe_modify.specs.declared.rows.StoredRow.{StoredRow}
use Rattle.spe_modify.specs.Row.{IsOpen, TableOf}
use Rattle.spe_modify.specs.Rows.{SparesRows, pages_of_rows, stored_of, with_all}
use Rattle.spe_modify.proofs.ServedLemmas.{ascend, rows_are}
use Rattle.spe_exec.specs.Adds.{AddsChosen}
use Rattle.spe_exec.specs.Changing.{AreRecords, changed, is_long}
use Rattle.spe_exec.specs.Inserts.{IsSound}
use Rattle.spe_exec.specs.Misses.{IsAskedFor}
use Rattle.spe_exec.specs.Run.{AreRowsOf, stored_chosen}
use Rattle.spe_exec.specs.Updates.{CarriesRows, pages_of_written}
use Rattle.spe_exec.proofs.GetsLemmas.{alone_read, inside_tree, own_pages, same_own, served_read, sound_read, sure_fault, tree_all, tree_there}
use Rattle.spe_exec.proofs.InsideLemmas.{one_height}
use Rattle.spe_exec.proofs.InsertLemmas.{GetsOwn}
use Rattle.spe_exec.proofs.ReadsLemmas.{chosen_are}
use Rattle.spe_exec.proofs.UpdateLemmas.{all_each, distinct, sorted}

-- the gets of the chosen rows are of the tree
pub chosen_gets : {P : Type 0} (g : Ghosts P) (s new : P) (pages : Paging) (root : ℕ) (t : TableOf) (conds : List Cond) → ReadsShift g → IsOpen g s pages root t → Agrees pages (g.seen new) → Reads g s new
    → AddsChosen g s new root conds → GetsOwn g s new pages t
chosen_gets g s new pages root t conds law is agrees reads adds alone =
    let u = g.used s in
    let p = sight g s pages in
    let own = own_pages g s pages alone.tree in
    let tree = subst (λ (r : ℕ). IsTableTree u p alone.tree.height r) is.root_is (tree_there g t.opening s pages t.db t.name t.entry alone) in
    let all : All (λ n. 0 < times n own) (all_pages u p alone.tree.height root) =
    subst (λ (r : ℕ). All (λ n. 0 < times n own) (all_pages u p alone.tree.height r)) is.root_is (tree_all g t.opening s pages t.db t.name t.entry alone) in
    law s new pages own agrees is.served.ready reads (λ n. elim (adds pages agrees alone.tree.height tree n) [
      | inl same ↦ inl same
      | inr page ↦
          let high : alone.tree.height ≡ page.height = one_height u p alone.tree.height page.height 0 18446744073709551616 0 18446744073709551616 root tree.1 page.tree.1 in
          let there : All (λ n. 0 < times n own) (all_pages u p page.height root) = subst (λ (h : ℕ). All (λ n. 0 < times n own) (all_pages u p h root)) high all in
          inr (elim page.page [
            | inl touched ↦ touched_inside (λ m. 0 < times m own) u p _ _ page.height 0 18446744073709551616 root n page.tree.1 there touched
            | inr over ↦ between_inside (λ m. 0 < times m own) u p _ _ page.height 0 18446744073709551616 root n page.tree.1 there over
          ])
    ])

sound_by : {P Y : Type 0} (g : Ghosts P) (old new : P) (number : ℕ) (view : Y → List (ℤ × List ℕ)) (there : List (ℤ × List ℕ)) (asked : ℕ → Type 0) (fault : TreeFault) → Reads g old new → Answers view there (Err fault)
    → OnMissing asked fault → ((n : ℕ) → asked n → IsInside number n) → IsSound g old new number fault
sound_by g old new number view there asked (Space f) reads answers missing within = sound_read g old new number f reads (missing_weaker asked (IsInside number) (Space f) within missing)
sound_by g old new number view there asked (Corrupt page) reads answers missing within = answers

-- a fault of the walk is a sound one
pub chosen_sound : {P Y : Type 0} (g : Ghosts P) (s new : P) (pages : Paging) (root : ℕ) (t : TableOf) (conds : List Cond) (view : Y → List (ℤ × List ℕ)) (fault : TreeFault) → IsOpen g s pages root t → Reads g s new
    → (alone : TableAlone g t.opening s pages t.db t.name t.entry)
    → ((height : ℕ) → IsTableTree (g.used s) (sight g s pages) height root → Answers view (stored_chosen conds (tree_rows (g.used s) (sight g s pages) height root)) (Err fault))
    → ((height : ℕ) → IsTableTree (g.used s) (sight g s pages) height root → OnMissing (IsAskedFor (g.used s) (sight g s pages) root conds) fault)
    → IsSound g s new (number_in (sight g new pages)) fault
chosen_sound g s new pages root t conds view fault is reads alone found misses =
    let u = g.used s in
    let p = sight g s pages in
    let own = own_pages g s pages alone.tree in
    let tree = subst (λ (r : ℕ). IsTableTree u p alone.tree.height r) is.root_is (tree_there g t.opening s pages t.db t.name t.entry alone) in
    let all : All (λ n. 0 < times n own) (all_pages u p alone.tree.height root) =
    subst (λ (r : ℕ). All (λ n. 0 < times n own) (all_pages u p alone.tree.height r)) is.root_is (tree_all g t.opening s pages t.db t.name t.entry alone) in
    let number : number_in p ≡ number_in (sight g new pages) = rw reads.laid refl in
    subst (λ (k : ℕ). IsSound g s new k fault) number (sound_by g s new (number_in p) view (stored_chosen conds (tree_rows u p alone.tree.height root)) (IsAskedFor u p root conds) fault reads (found alone.tree.height tree) (misses alone.tree.height tree) (λ n asked.
    let high : alone.tree.height ≡ asked.height = one_height u p alone.tree.height asked.height 0 18446744073709551616 0 18446744073709551616 root tree.1 asked.tree.1 in
    let there : All (λ n. 0 < times n own) (all_pages u p asked.height root) = subst (λ (h : ℕ). All (λ n. 0 < times n own) (all_pages u p h root)) high all in
    inside_tree g t.opening s pages t.db t.name t.entry alone n (elim asked.page [
      | inl touched ↦ touched_inside (λ m. 0 < times m own) u p _ _ asked.height 0 18446744073709551616 root n asked.tree.1 there touched
      | inr over ↦ between_inside (λ m. 0 < times m own) u p _ _ asked.height 0 18446744073709551616 root n asked.tree.1 there over.1
    ])))

-- the rows that were read are those that are chosen
pub chosen_there : {P : Type 0} (g : Ghosts P) (s : P) (pages : Paging) (root : ℕ) (t : TableOf) (conds : List Cond) (stored slice : List Pair) → slice ≡ stored → IsOpen g s pages root t
    → (alone : TableAlone g t.opening s pages t.db t.name t.entry)
    → ((height : ℕ) → IsTableTree (g.used s) (sight g s pages) height root → map pair_seen stored ≡ stored_chosen conds (tree_rows (g.used s) (sight g s pages) height root))
    → AreTableRows t.entry.table (map pair_seen slice) (chosen conds t.rows)
chosen_there g s pages root t conds stored slice same is alone found =
    let u = g.used s in
    let p = sight g s pages in
    let of : AreRowsOf u p t.entry t.rows = record {
      height = alone.tree.height;
      tree = tree_there g t.opening s pages t.db t.name t.entry alone;
      rows_are = subst (λ (r : ℕ). AreTableRows t.entry.table (tree_rows u p alone.tree.height r) t.rows) alone.has.grown.0.1 (rows_are g s pages root t is alone);
    } in
    chosen_are u p t.entry conds stored slice t.rows same of
    (subst (λ (r : ℕ). (height : ℕ) → IsTableTree u p height r → map pair_seen stored ≡ stored_chosen conds (tree_rows u p height r)) (sym is.root_is) found)

-- what a call after gets spares, the gets spare with it
pub rows_after : {P : Type 0} (g : Ghosts P) (s mid new : P) (pages : Paging) (t : TableOf) (allocs : ℕ) → ShiftsBoth g → SparesBoth g → Reads g s mid → GetsOwn g s mid pages t
    → SparesRows g mid new pages t allocs → SparesRows g s new pages t allocs
rows_after g s mid new pages t allocs both spares reads gets given alone =
    let own = own_pages g s pages alone.tree in
    let later = alone_read g t.opening s mid pages t.db t.name t.entry alone both reads (gets alone) in
    let none : 0 + allocs ≡ allocs = omega arith in
    subst (λ (n : ℕ). Spares g s new pages own n) none
    (spares s mid new pages own own 0 allocs (gets alone)
    (subst (λ (xs : List ℕ). Spares g mid new pages xs allocs) (sym (same_own g s mid pages alone.tree reads)) (given later)))

pub rows_read : {P : Type 0} (g : Ghosts P) (s new : P) (pages : Paging) (t : TableOf) (allocs : ℕ) → SparesMore g → GetsOwn g s new pages t → SparesRows g s new pages t allocs
rows_read g s new pages t allocs more gets alone = more s new pages (own_pages g s pages alone.tree) 0 allocs (omega arith) (gets alone).spares

-- a fault after gets alone, and a refusal
pub fault_rows : {P : Type 0} (g : Ghosts P) (s new : P) (pages : Paging) (t : TableOf) (allocs : ℕ) (outcome : List Row × Reply) (fault : TreeFault) → SparesMore g → GetsOwn g s new pages t
    → IsSound g s new (number_in (sight g new pages)) fault → CarriesRows g s new pages t allocs outcome (Err fault)
fault_rows g s new pages t allocs outcome fault more gets sound = record { given = tt; few = rows_read g s new pages t allocs more gets; likely = λ unsealed. sound }

-- the records as rows, their number and their pages
pub are_rows : (table : TableDef) (stored : List StoredRow) (rows : List Row) → AreRecords table stored rows → AreTableRows table (map stored_of stored) rows
are_rows table [] [] are = tt
are_rows table [] (r ∷ rs) are = are
are_rows table (s ∷ ss) [] are = are
are_rows table (s ∷ ss) (r ∷ rs) are = (are.0.stands, are_rows table ss rs are.1)

none_long : (table : TableDef) (stored : List StoredRow) (rows : List Row) → AreRecords table stored rows → list_any (is_long table) rows ≡ false
none_long table [] [] are = refl
none_long table [] (r ∷ rs) are = absurd are
none_long table (s ∷ ss) [] are = refl
none_long table (s ∷ ss) (r ∷ rs) are = rw (are.0.small) (none_long table ss rs are.1)

same_number : (table : TableDef) (stored : List StoredRow) (rows : List Row) → AreRecords table stored rows → length stored ≡ length rows
same_number table [] [] are = refl
same_number table [] (r ∷ rs) are = absurd are
same_number table (s ∷ ss) [] are = absurd are
same_number table (s ∷ ss) (r ∷ rs) are = let rest = same_number table ss rs are.1 in omega (arith, rest)

same_pages : (usable : ℕ) (table : TableDef) (stored : List StoredRow) (rows : List Row) → AreRecords table stored rows → pages_of_rows usable stored ≡ pages_of_written usable table rows
same_pages usable table [] [] are = refl
same_pages usable table [] (r ∷ rs) are = absurd are
same_pages usable table (s ∷ ss) [] are = absurd are
same_pages usable table (s ∷ ss) (r ∷ rs) are =
    let first : most_pages usable (length s.record) ≡ most_pages usable (record_length table.alias r.1) = ap (most_pages usable) are.0.size in
    let rest = same_pages usable table ss rs are.1 in omega (arith, first, rest)

-- the rows that an UPDATE writes
written_is : (table : TableDef) (rows : List Row) (s : Statement) (given : List (Option Value)) (conds : List Cond) → is_update s ≡ true → given ≡ by_column table (assignments table s) → conds ≡ conds_of s
    → map (changed given) (chosen conds rows) ≡ written table rows s
written_is table rows (Update name sets conds) given cs is e c = ap (λ (gs : List (Option Value)). map (changed gs) (chosen cs rows)) e ∙ ap (λ (xs : List Cond). map (changed (by_column table (assignments table (Update name sets conds)))) (chosen xs rows)) c
written_is table rows (Select name all columns conds) given cs is e c = absurd cc
written_is table rows (Count name conds) given cs is e c = absurd cc
written_is table rows (Insert name listed columns values) given cs is e c = absurd cc
written_is table rows (Delete name conds) given cs is e c = absurd cc

-- what the rows are then
pub outcome_is : {P : Type 0} (g : Ghosts P) (s : P) (pages : Paging) (root : ℕ) (t : TableOf) (q : Statement) (given : List (Option Value)) (conds : List Cond) (stored : List StoredRow) (count : ℕ)
    → IsOpen g s pages root t → (alone : TableAlone g t.opening s pages t.db t.name t.entry) → is_update q ≡ true → given ≡ by_column t.entry.table (assignments t.entry.table q) → conds ≡ conds_of q
    → AreRecords t.entry.table stored (map (changed given) (chosen conds t.rows)) → count ≡ length stored
    → (with_all (map (changed given) (chosen conds t.rows)) t.rows, replies.Changed count) ≡ rows_answer t.entry.table t.rows q
outcome_is g s pages root t q given conds stored count is alone update e c are n =
    let table = t.entry.table in
    let new = map (changed given) (chosen conds t.rows) in
    let xs = tree_rows (g.used s) (sight g s pages) alone.tree.height alone.tree.root in
    let rows = rows_are g s pages root t is alone in
    let up = ascend g s pages t alone in
    let order = sorted table 0 xs t.rows up rows in
    updated table t.rows (with_all new t.rows) q given conds new count update e c refl (sym (none_long table stored new are)) order
    (all_each (changed_values given) (λ (r : Row). is_chosen conds r.0) t.rows (distinct table 0 xs t.rows up rows) ∙ sym (written_each (changed_values given) (λ (r : Row). is_chosen conds r.0) t.rows order))
    (n ∙ same_number table stored new are)

pub refused_is : (table : TableDef) (rows : List Row) (q : Statement) (given : List (Option Value)) (conds : List Cond) → is_update q ≡ true → given ≡ by_column table (assignments table q) → conds ≡ conds_of q
    → list_any (is_long table) (map (changed given) (chosen conds rows)) ≡ true → (rows, replies.Refused TooLarge) ≡ rows_answer table rows q
refused_is table rows q given conds update e c long = updated_not table rows q given conds (map (changed given) (chosen conds rows)) update e c refl (sym long)

-- a refusal after gets alone
pub refused_rows : {P : Type 0} (g : Ghosts P) (s new : P) (pages : Paging) (root : ℕ) (t : TableOf) (allocs : ℕ) (outcome : List Row × Reply) (reply : Reply) → IsOpen g s pages root t → Agrees pages (g.seen new)
    → Reads g s new → SparesMore g → GetsOwn g s new pages t → (t.rows, reply) ≡ outcome → CarriesRows g s new pages t allocs outcome (Ok reply)
refused_rows g s new pages root t allocs outcome reply is agrees reads more gets e =
    subst (λ (o : List Row × Reply). CarriesRows g s new pages t allocs o (Ok reply)) e (record {
      given = record {
        reply_is = refl;
        served = subst (λ (db : Database). IsServed g t.opening new pages db) (sym (with_same t.name t.db t.entry.table t.rows is.found)) (served_read g t.opening s new pages t.db agrees reads is.served);
      };
      few = rows_read g s new pages t allocs more gets;
      likely = λ unsealed. tt;
    })

-- how many pages are handed out
spares_written : {P : Type 0} (g : Ghosts P) (s mid new : P) (pages : Paging) (t : TableOf) (q : Statement) (given : List (Option Value)) (conds : List Cond) (stored : List StoredRow) → is_update q ≡ true
    → given ≡ by_column t.entry.table (assignments t.entry.table q) → conds ≡ conds_of q → AreRecords t.entry.table stored (map (changed given) (chosen conds t.rows))
    → ShiftsBoth g → SparesBoth g → Reads g s mid → GetsOwn g s mid pages t → SparesRows g mid new pages t (pages_of_rows (g.used mid) stored)
    → SparesRows g s new pages t (pages_of_written (g.used s) t.entry.table (written t.entry.table t.rows q))
spares_written g s mid new pages t q given conds stored update e c are both spares reads gets few =
    let same : pages_of_rows (g.used mid) stored ≡ pages_of_written (g.used s) t.entry.table (written t.entry.table t.rows q) =
    ap (λ (u : ℕ). pages_of_rows u stored) reads.used ∙ same_pages (g.used s) t.entry.table stored (map (changed given) (chosen conds t.rows)) are
    ∙ ap (pages_of_written (g.used s) t.entry.table) (written_is t.entry.table t.rows q given conds update e c) in
    rows_after g s mid new pages t (pages_of_written (g.used s) t.entry.table (written t.entry.table t.rows q)) both spares reads gets
    (subst (λ (n : ℕ). SparesRows g mid new pages t n) same few)

pub carries_rows : {P : Type 0} (g : Ghosts P) (s mid new : P) (pages : Paging) (root : ℕ) (t : TableOf) (q : Statement) (given : List (Option Value)) (conds : List Cond) (stored : List StoredRow) (count : ℕ)
    → IsOpen g s pages root t → (alone : TableAlone g t.opening s pages t.db t.name t.entry) → is_update q ≡ true → given ≡ by_column t.entry.table (assignments t.entry.table q) → conds ≡ conds_of q
    → AreRecords t.entry.table stored (map (changed given) (chosen conds t.rows)) → count ≡ length stored
    → ShiftsBoth g → SparesBoth g → Reads g s mid → GetsOwn g s mid pages t → SparesRows g mid new pages t (pages_of_rows (g.used mid) stored)
    → IsServed g t.opening new pages (with_rows t.name (with_all (map (changed given) (chosen conds t.rows)) t.rows) t.db)
    → CarriesRows g s new pages t (pages_of_written (g.used s) t.entry.table (written t.entry.table t.rows q)) (rows_answer t.entry.table t.rows q) (Ok (replies.Changed count))
carries_rows g s mid new pages root t q given conds stored count is alone update e c are n both spares reads gets few served =
    subst (λ (o : List Row × Reply). CarriesRows g s new pages t (pages_of_written (g.used s) t.entry.table (written t.entry.table t.rows q)) o (Ok (replies.Changed count)))
    (outcome_is g s pages root t q given conds stored count is alone update e c are n) (record {
      given = record { reply_is = refl; served = served };
      few = spares_written g s mid new pages t q given conds stored update e c are both spares reads gets few;
      likely = λ unsealed. tt;
    })

pub fails_rows : {P : Type 0} (g : Ghosts P) (s mid new : P) (pages : Paging) (t : TableOf) (q : Statement) (given : List (Option Value)) (conds : List Cond) (stored : List StoredRow) (fault : TreeFault) → is_update q ≡ true
    → given ≡ by_column t.entry.table (assignments t.entry.table q) → conds ≡ conds_of q → AreRecords t.entry.table stored (map (changed given) (chosen conds t.rows))
    → ShiftsBoth g → SparesBoth g → Reads g s mid → GetsOwn g s mid pages t → SparesRows g mid new pages t (pages_of_rows (g.used mid) stored)
    → (g.sealed mid ≡ false → IsSureOfTree (number_in (sight g new pages)) fault)
    → CarriesRows g s new pages t (pages_of_written (g.used s) t.entry.table (written t.entry.table t.rows q)) (rows_answer t.entry.table t.rows q) (Err fault)
fails_rows g s mid new pages t q given conds stored fault update e c are both spares reads gets few likely = record {
  given = tt;
  few = spares_written g s mid new pages t q given conds stored update e c are both spares reads gets few;
  likely = λ unsealed. sure_fault g s new (number_in (sight g new pages)) fault (likely (reads.sealed ∙ unsealed));
}
