-- An open table whose rows a DELETE takes out.
use Rattle.std.proofs.Common.{◌≡◌, ℕ, ℤ, ◌<◌, Bool, true, false, List, [], ◌∷◌, ◌++◌, filter, length, map, Option, Some, None, Ok, Err, refl, sym, ap, ◌∙◌, subst, arith, append_assoc}
use Rattle.std.specs.Prelude.{not, if◌then◌else◌}
use Rattle.std.specs.List.{list_any}
use Rattle.std.specs.Option.{option_map}
use Rattle.std.specs.Ordering.{int_eq}
use Rattle.std.proofs.lemmas.List.{append-nil, length-map}
use Rattle.std.proofs.lemmas.List.Elements.{Contains-append_right}
use Rattle.spe_model.specs.declared.reply.Reply.{Reply}
use Rattle.spe_model.specs.declared.reply.Reply.TheVariants as replies
use Rattle.spe_model.specs.declared.statement.Cond.{Cond}
use Rattle.spe_model.specs.declared.table.TableDef.{TableDef}
use Rattle.spe_model.specs.declared.value.Value.{Value}
use Rattle.spe_model.specs.Conditions.{chosen, is_chosen}
use Rattle.spe_model.specs.Database.{Row}
use Rattle.spe_model.specs.Paging.{Paging}
use Rattle.spe_model.specs.Rows.{with_rows}
use Rattle.spe_model.specs.Standing.{AreTableRows}
use Rattle.spe_model.specs.Tree.{tree_rows}
use Rattle.spe_space.specs.declared.fault.TreeFault.{TreeFault}
use Rattle.spe_space.specs.declared.pages.Pages.{Ghosts}
use Rattle.spe_space.specs.Calls.{Reads, sight}
use Rattle.spe_space.specs.Front.{number_in}
use Rattle.spe_frame.specs.Laws.{ShiftsBoth, SparesBoth}
use Rattle.spe_write.specs.Chain.{IsSureOfTree}
use Rattle.spe_served.specs.Change.{IsServed, TableAlone}
use Rattle.spe_search.specs.declared.pairs.Pair.{Pair}
use Rattle.spe_search.specs.Pairs.{pair_seen}
use Rattle.spe_modify.specs.Row.{IsOpen, TableOf}
use Rattle.spe_modify.specs.Rows.{SparesRows}
use Rattle.spe_modify.specs.Removal.{without_all}
use Rattle.spe_modify.proofs.ServedLemmas.{ascend, rows_are}
use Rattle.spe_exec.specs.Deletes.{IsListing, deleted_by, rowids_of}
use Rattle.spe_exec.specs.Rows.{IsDamaged, values_in}
use Rattle.spe_exec.specs.Updates.{CarriesRows}
use Rattle.spe_exec.proofs.GetsLemmas.{sure_fault}
use Rattle.spe_exec.proofs.InsertLemmas.{GetsOwn}
use Rattle.spe_exec.proofs.ReadsLemmas.{no_row}
use Rattle.spe_exec.proofs.RowsLemmas.{row_number}
use Rattle.spe_exec.proofs.UpdateLemmas.{AreDistinct, AreOthers, distinct, self_is}
use Rattle.spe_exec.proofs.UpdatingLemmas.{rows_after}

-- the rowids of stored rows, one after the other

-- the rowid of a row of the table, or nothing
abbrev pub rowid_in : TableDef → Pair → Option ℤ
rowid_in table x = option_map (λ (values : List Value). x.rowid) (values_in table (pair_seen x))

pub list_none : (stored : List Pair) → IsListing stored stored []
list_none stored = record { done = []; split = refl; made_is = refl }

rowids_more : (done : List Pair) (x : Pair) → rowids_of (done ++ x ∷ []) ≡ rowids_of done ++ x.rowid ∷ []
rowids_more [] x = refl
rowids_more (p ∷ ps) x = ap (λ (ks : List ℤ). p.rowid ∷ ks) (rowids_more ps x)

pub list_more : (table : TableDef) (stored left rest : List Pair) (x : Pair) (rowid : ℤ) (made new : List ℤ) → left ≡ x ∷ rest → rowid_in table x ≡ Some rowid → new ≡ made ++ rowid ∷ []
    → IsListing stored left made → IsListing stored rest new
list_more table stored left rest x rowid made new l e n is = go (values_in table (pair_seen x)) e
  where
    go : (o : Option (List Value)) → option_map (λ (values : List Value). x.rowid) o ≡ Some rowid → IsListing stored rest new
    go None e = absurd cc
    go (Some values) e =
        let same : x.rowid ≡ rowid = cc in
        record {
          done = is.done ++ x ∷ [];
          split = is.split ∙ (ap (λ (ps : List Pair). is.done ++ ps) l ∙ sym (append_assoc is.done (x ∷ []) rest));
          made_is = n ∙ ap (λ (k : ℤ). made ++ k ∷ []) (sym same) ∙ ap (λ (ks : List ℤ). ks ++ x.rowid ∷ []) is.made_is ∙ sym (rowids_more is.done x);
        }

pub list_bad : (table : TableDef) (stored left rest : List Pair) (x : Pair) (made : List ℤ) → left ≡ x ∷ rest → rowid_in table x ≡ None → IsListing stored left made → IsDamaged table stored x.leaf
list_bad table stored left rest x made l e is = record {
  row = x;
  inside = rw (is.split, l) (Contains-append_right is.done (x ∷ rest) x (0, omega arith, refl));
  leaf_is = refl;
  none = go (values_in table (pair_seen x)) refl e;
}
  where
    go : (o : Option (List Value)) → values_in table (pair_seen x) ≡ o → option_map (λ (values : List Value). x.rowid) o ≡ None → values_in table (pair_seen x) ≡ None
    go None a e = a
    go (Some values) a e = absurd cc

pub list_end : (stored left : List Pair) (made : List ℤ) → length left < 1 → IsListing stored left made → made ≡ rowids_of stored
list_end stored [] made none is = is.made_is ∙ ap rowids_of (sym (is.split ∙ append-nil is.done))
list_end stored (x ∷ xs) made none is = absurd (omega (arith, none))

-- the rows that are left

rowids_are : (table : TableDef) (stored : List Pair) (rows : List Row) → AreTableRows table (map pair_seen stored) rows → rowids_of stored ≡ map (λ (r : Row). r.0) rows
rowids_are table [] [] are = refl
rowids_are table [] (r ∷ rs) are = absurd are
rowids_are table (x ∷ xs) [] are = absurd are
rowids_are table (x ∷ xs) (r ∷ rs) are =
    ap (λ (ks : List ℤ). x.rowid ∷ ks) (rowids_are table xs rs are.1) ∙ ap (λ (k : ℤ). k ∷ map (λ (q : Row). q.0) rs) (sym (row_number table (pair_seen x) r are.0))

abbrev is_among : List ℤ → ℤ → Bool
is_among ks k = list_any (λ (n : ℤ). int_eq k n) ks

abbrev keys : List Row → List ℤ
keys rows = map (λ (r : Row). r.0) rows

none_among : (k : ℤ) (p : Row → Bool) (rows : List Row) → AreOthers k rows → is_among (keys (filter p rows)) k ≡ false
none_among k p [] others = refl
none_among k p (r ∷ rs) others = by (p r) (none_among k p rs others.2)
  where
    by : (b : Bool) → is_among (keys (filter p rs)) k ≡ false → is_among (keys (if b then r ∷ filter p rs else filter p rs)) k ≡ false
    by true rest = rw (others.1) rest
    by false rest = rest

without_other : (k : ℤ) (ks : List ℤ) (rows : List Row) → AreOthers k rows → without_all (k ∷ ks) rows ≡ without_all ks rows
without_other k ks [] others = refl
without_other k ks (r ∷ rs) others = rw (others.0) (ap (λ (xs : List Row). if not (is_among ks r.0) then r ∷ xs else xs) (without_other k ks rs others.2))

-- those with the rowids of some are those that are not among these
gone_each : (p : Row → Bool) (rows : List Row) → AreDistinct rows → without_all (keys (filter p rows)) rows ≡ filter (λ (r : Row). not (p r)) rows
gone_each p [] are = refl
gone_each p (r ∷ rs) are = by (p r) (gone_each p rs are.1)
  where
    by : (b : Bool) → without_all (keys (filter p rs)) rs ≡ filter (λ (x : Row). not (p x)) rs
        → without_all (keys (if b then r ∷ filter p rs else filter p rs)) (r ∷ rs) ≡ (if not b then r ∷ filter (λ (x : Row). not (p x)) rs else filter (λ (x : Row). not (p x)) rs)
    by true rest = rw (self_is r.0) (without_other r.0 (keys (filter p rs)) rs are.0 ∙ rest)
    by false rest = rw (none_among r.0 p rs are.0) (ap (λ (xs : List Row). r ∷ xs) rest)

pub deleted_is : {P : Type 0} (g : Ghosts P) (s : P) (pages : Paging) (root : ℕ) (t : TableOf) (conds : List Cond) (stored : List Pair) (rowids : List ℤ) (count : ℕ)
    → IsOpen g s pages root t → (alone : TableAlone g t.opening s pages t.db t.name t.entry) → AreTableRows t.entry.table (map pair_seen stored) (chosen conds t.rows) → rowids ≡ rowids_of stored → count ≡ length rowids
    → (without_all rowids t.rows, replies.Changed count) ≡ deleted_by conds t.rows
deleted_is g s pages root t conds stored rowids count is alone there e n =
    let table = t.entry.table in
    let xs = tree_rows (g.used s) (sight g s pages) alone.tree.height alone.tree.root in
    let own = distinct table 0 xs t.rows (ascend g s pages t alone) (rows_are g s pages root t is alone) in
    let p : Row → Bool = λ r. is_chosen conds r.0 in
    let are : rowids ≡ keys (chosen conds t.rows) = e ∙ rowids_are table stored (chosen conds t.rows) there in
    let left : without_all rowids t.rows ≡ filter (λ (r : Row). not (is_chosen conds r.0)) t.rows = ap (λ (ks : List ℤ). without_all ks t.rows) are ∙ gone_each p t.rows own in
    let number : count ≡ length (chosen conds t.rows) = n ∙ ap (λ (ks : List ℤ). length ks) are ∙ length-map (chosen conds t.rows) (λ (r : Row). r.0) in
    ap (λ (rows : List Row). (rows, replies.Changed count)) left ∙ ap (λ (k : ℕ). (filter (λ (r : Row). not (is_chosen conds r.0)) t.rows, replies.Changed k)) number

-- of rows of the table none is damaged
pub none_damaged : (table : TableDef) (stored : List Pair) (rows : List Row) (leaf : ℕ) → AreTableRows table (map pair_seen stored) rows → IsDamaged table stored leaf → ⊥
none_damaged table stored rows leaf are bad = no_row table stored rows bad.row are bad.inside bad.none

pub carries_deleted : {P : Type 0} (g : Ghosts P) (s mid new : P) (pages : Paging) (root : ℕ) (t : TableOf) (conds : List Cond) (stored : List Pair) (rowids : List ℤ) (count : ℕ)
    → IsOpen g s pages root t → (alone : TableAlone g t.opening s pages t.db t.name t.entry) → AreTableRows t.entry.table (map pair_seen stored) (chosen conds t.rows) → rowids ≡ rowids_of stored → count ≡ length rowids
    → ShiftsBoth g → SparesBoth g → Reads g s mid → GetsOwn g s mid pages t → SparesRows g mid new pages t 0 → IsServed g t.opening new pages (with_rows t.name (without_all rowids t.rows) t.db)
    → CarriesRows g s new pages t 0 (deleted_by conds t.rows) (Ok (replies.Changed count))
carries_deleted g s mid new pages root t conds stored rowids count is alone there e n both spares reads gets few served =
    subst (λ (o : List Row × Reply). CarriesRows g s new pages t 0 o (Ok (replies.Changed count))) (deleted_is g s pages root t conds stored rowids count is alone there e n) (record {
      given = record { reply_is = refl; served = served };
      few = rows_after g s mid new pages t 0 both spares reads gets few;
      likely = λ unsealed. tt;
    })

pub fails_deleted : {P : Type 0} (g : Ghosts P) (s mid new : P) (pages : Paging) (t : TableOf) (outcome : List Row × Reply) (fault : TreeFault) → ShiftsBoth g → SparesBoth g → Reads g s mid → GetsOwn g s mid pages t
    → SparesRows g mid new pages t 0 → (g.sealed mid ≡ false → IsSureOfTree (number_in (sight g new pages)) fault) → CarriesRows g s new pages t 0 outcome (Err fault)
fails_deleted g s mid new pages t outcome fault both spares reads gets few likely = record {
  given = tt;
  few = rows_after g s mid new pages t 0 both spares reads gets few;
  likely = λ unsealed. sure_fault g s new (number_in (sight g new pages)) fault (likely (reads.sealed ∙ unsealed));
}
