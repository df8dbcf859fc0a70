-- The stored rows that conditions choose.
use Rattle.std.proofs.Common.{◌≡◌, ℕ, suc, ℤ, pos, negsuc, Bool, true, false, nat_le, List, [], ◌∷◌, filter, length, Option, Some, None, Result, refl, sym, ap, arith, subst, int_le}
use Rattle.std.proofs.lemmas.Bool.Decides.{nat_tests}
use Rattle.spe_model.specs.declared.statement.Cond.{Cond}
use Rattle.spe_model.specs.declared.table.TableDef.{TableDef}
use Rattle.spe_model.specs.Conditions.{is_chosen, chosen}
use Rattle.spe_model.specs.Database.{Row}
use Rattle.spe_model.specs.Paging.{Paging}
use Rattle.spe_model.specs.Range.{between, is_between}
use Rattle.spe_model.specs.Standing.{AreTableRows}
use Rattle.spe_model.specs.Tree.{rank, tree_rows}
use Rattle.spe_space.specs.Found.{Answers}
use Rattle.spe_space.specs.declared.fault.TreeFault.{TreeFault}
use Rattle.spe_exec.specs.declared.bounds.Span.{Span}
use Rattle.spe_exec.specs.Bounds.{IsRowid, Bounds}
use Rattle.spe_exec.specs.Run.{stored_chosen}
use Rattle.spe_exec.proofs.KeysLemmas.{AreNumbered, tree_numbered}
use Rattle.spe_exec.proofs.RowsLemmas.{row_number}

-- ranks sort as rowids do
rank_sorts : (a b : ℤ) → IsRowid a → IsRowid b → nat_le (rank a) (rank b) ≡ int_le a b
rank_sorts (pos a) (pos b) x y = grind (arith, nat_tests)
rank_sorts (pos a) (negsuc b) x y = grind (arith, nat_tests)
rank_sorts (negsuc a) (pos b) x y = grind (arith, nat_tests)
rank_sorts (negsuc a) (negsuc b) x y = grind (arith, nat_tests)

filter_same : (p q : ℤ × List ℕ → Bool) → ((r : ℤ × List ℕ) → IsRowid r.0 → p r ≡ q r) → (rows : List (ℤ × List ℕ)) → AreNumbered rows → filter p rows ≡ filter q rows
filter_same p q same [] h = refl
filter_same p q same (r ∷ rs) h = go (q r) (same r h.0) refl (filter_same p q same rs h.1)
  where
    go : (b : Bool) → p r ≡ q r → q r ≡ b → filter p rs ≡ filter q rs → filter p (r ∷ rs) ≡ filter q (r ∷ rs)
    go true e f next = rw (e, f) (ap (λ (xs : List (ℤ × List ℕ)). r ∷ xs) next)
    go false e f next = rw (e, f) next

none_pass : (p : ℤ × List ℕ → Bool) → ((r : ℤ × List ℕ) → IsRowid r.0 → false ≡ p r) → (rows : List (ℤ × List ℕ)) → AreNumbered rows → [] ≡ filter p rows
none_pass p same [] h = refl
none_pass p same (r ∷ rs) h = rw (sym (same r h.0)) (none_pass p same rs h.1)

pub found_none : (usable : ℕ) (pages : Paging) (height root : ℕ) (conds : List Cond) (o : Option Span) → o ≡ None → Bounds conds o → [] ≡ stored_chosen conds (tree_rows usable pages height root)
found_none usable pages height root conds o e bounds =
    let h : Bounds conds None = subst (λ (s : Option Span). Bounds conds s) e bounds in
    none_pass (λ (r : ℤ × List ℕ). is_chosen conds r.0) (λ r is. h r.0 is) (tree_rows usable pages height root) (tree_numbered usable pages height root)

pub found_some : (usable : ℕ) (pages : Paging) (height root : ℕ) (conds : List Cond) (o : Option Span) (span : Span) (low high : ℤ) → o ≡ Some span → Bounds conds o
    → low ≡ span.low → high ≡ span.high → IsRowid low → IsRowid high
    → between (rank low) (rank high) (tree_rows usable pages height root) ≡ stored_chosen conds (tree_rows usable pages height root)
found_some usable pages height root conds o span low high e bounds l h fits fits_too =
    let b : Bounds conds (Some span) = subst (λ (s : Option Span). Bounds conds s) e bounds in
    filter_same (is_between (rank low) (rank high)) (λ (r : ℤ × List ℕ). is_chosen conds r.0)
    (λ r is. rw (rank_sorts low r.0 fits is, rank_sorts r.0 high is fits_too, l, h) (b r.0 is))
    (tree_rows usable pages height root) (tree_numbered usable pages height root)

pub answers_to : {X : Type 0} (view : X → List (ℤ × List ℕ)) (there other : List (ℤ × List ℕ)) (result : Result X TreeFault) → there ≡ other → Answers view there result → Answers view other result
answers_to view there other result e h = subst (λ (x : List (ℤ × List ℕ)). Answers view x result) e h

-- the rows that are chosen are those of what is stored and chosen
pub chosen_rows : (table : TableDef) (conds : List Cond) (stored : List (ℤ × List ℕ)) (rows : List Row) → AreTableRows table stored rows
    → AreTableRows table (stored_chosen conds stored) (chosen conds rows)
chosen_rows table conds [] [] h = tt
chosen_rows table conds [] (r ∷ rs) h = absurd h
chosen_rows table conds (x ∷ xs) [] h = absurd h
chosen_rows table conds (x ∷ xs) (r ∷ rs) h = go (is_chosen conds x.0) refl (ap (is_chosen conds) (row_number table x r h.0)) (chosen_rows table conds xs rs h.1)
  where
    go : (b : Bool) → is_chosen conds x.0 ≡ b → is_chosen conds r.0 ≡ is_chosen conds x.0 → AreTableRows table (stored_chosen conds xs) (chosen conds rs)
        → AreTableRows table (stored_chosen conds (x ∷ xs)) (chosen conds (r ∷ rs))
    go true e f next = rw (f, e) (h.0, next)
    go false e f next = rw (f, e) next

pub same_count : (table : TableDef) (stored : List (ℤ × List ℕ)) (rows : List Row) → AreTableRows table stored rows → length stored ≡ length rows
same_count table [] [] h = refl
same_count table [] (r ∷ rs) h = absurd h
same_count table (x ∷ xs) [] h = absurd h
same_count table (x ∷ xs) (r ∷ rs) h = ap suc (same_count table xs rs h.1)
