-- The columns of a definition, one after the other.
use Rattle.std.proofs.Common.{◌≡◌, ℕ, suc, ◌-◌, ◌<◌, List, [], ◌∷◌, ◌++◌, Bool, ◌==◌, if◌then◌else◌, true, false, Option, Some, None, is_some, length, codes, refl, sym, arith}
use Rattle.std.specs.Option.{option_or, option_map}
use Rattle.spe_model.specs.declared.table.Column.{Column}
use Rattle.spe_model.specs.Token.{Lexeme}
use Rattle.spe_model.specs.Cell.{◌>>=◌}
use Rattle.spe_model.specs.Definition.{Field, after, is_word, is_sign, name_at, end_at, column_at, columns_at, declaration_from, table_at}
use Rattle.spe_catalog.specs.declared.miss.Miss.{Miss}
use Rattle.spe_catalog.specs.declared.miss.Miss.TheVariants.{Unknown, Memory}
use Rattle.spe_catalog.specs.Miss.{Misses}
use Rattle.spe_catalog.proofs.DeclarationLemmas.{joined_all}
use Rattle.spe_catalog.specs.Columns.{joined, all_columns, NextAlias}

abbrev found : Field → List Lexeme → Option (Field × List Lexeme)
found f rest = Some (f, rest)

abbrev commas : List Lexeme → Option (List Lexeme)
commas rest = after (is_sign (codes ",")) rest

joined_next : (columns new : List Column) (alias next : Option ℕ) (column : Column) (flag : Bool) (fs : List Field)
    → NextAlias columns alias flag next → new ≡ columns ++ column ∷ [] → joined columns alias ((column, flag) ∷ fs) ≡ joined new next fs
joined_next columns new alias next column true fs n e = rw (n.0, n.1, e) refl
joined_next columns new alias next column false fs n e = rw (n, e) refl

joined_behind : (columns new : List Column) (alias next : Option ℕ) (column : Column) (flag : Bool) (found : Option (List Field))
    → NextAlias columns alias flag next → new ≡ columns ++ column ∷ []
    → ((found >>= λ fs. Some ((column, flag) ∷ fs)) >>= joined columns alias) ≡ (found >>= joined new next)
joined_behind columns new alias next column flag None n e = refl
joined_behind columns new alias next column flag (Some fs) n e = joined_next columns new alias next column flag fs n e

abbrev ok_none : Option (List Field)
ok_none = Some []

-- the parenthesis at the end leaves no columns
ends : (rest : List Lexeme) → is_some (end_at rest) ≡ true → end_at rest ≡ Some []
ends rest h = go (after (is_sign (codes ")")) rest) h
  where
    test : (b : Bool) → is_some (if b then ok_none else None) ≡ true → (if b then ok_none else None) ≡ Some []
    test true h = refl
    test false h = absurd cc

    go : (m : Option (List Lexeme)) → is_some (m >>= λ r. if length r == 0 then ok_none else None) ≡ true
        → (m >>= λ r. if length r == 0 then ok_none else None) ≡ Some []
    go None h = absurd cc
    go (Some r) h = test (length r == 0) h

not_some : {X : Type 0} (m : Option X) → is_some m ≡ false → m ≡ None
not_some None h = refl
not_some (Some x) h = absurd cc

-- the first of at most n columns, n above 0
first_column : (n : ℕ) (xs rest : List Lexeme) (f : Field) → 0 < n → column_at xs ≡ found f rest
    → columns_at n xs ≡ (option_or (end_at rest) (commas rest >>= columns_at (n - 1)) >>= λ fs. Some (f ∷ fs))
first_column n xs rest f some c =
    let m : n ≡ suc (n - 1) = omega arith in
    of_suc n (n - 1) m
  where
    of_suc : (n m : ℕ) → n ≡ suc m → columns_at n xs ≡ (option_or (end_at rest) (commas rest >>= columns_at m) >>= λ fs. Some (f ∷ fs))
    of_suc n m e = rw (e, c) refl

pub columns_end : (columns new : List Column) (alias next : Option ℕ) (n : ℕ) (xs rest : List Lexeme) (column : Column) (flag : Bool) → 0 < n
    → column_at xs ≡ found (column, flag) rest → is_some (end_at rest) ≡ true → NextAlias columns alias flag next → new ≡ columns ++ column ∷ []
    → all_columns columns alias n xs ≡ Some (record { columns = new; alias = next })
columns_end columns new alias next n xs rest column flag some c end a e =
    rw (first_column n xs rest (column, flag) some c, ends rest end) (joined_next columns new alias next column flag [] a e)

pub columns_more : (columns new : List Column) (alias next : Option ℕ) (n : ℕ) (xs rest behind : List Lexeme) (column : Column) (flag : Bool) → 0 < n
    → column_at xs ≡ found (column, flag) rest → is_some (end_at rest) ≡ false → commas rest ≡ Some behind
    → NextAlias columns alias flag next → new ≡ columns ++ column ∷ [] → all_columns columns alias n xs ≡ all_columns new next (n - 1) behind
columns_more columns new alias next n xs rest behind column flag some c end t a e =
    rw (first_column n xs rest (column, flag) some c, not_some (end_at rest) end, t)
    (joined_behind columns new alias next column flag (columns_at (n - 1) behind) a e)

-- where no comma follows a column that is not the last, nothing is declared
pub columns_break : (columns : List Column) (alias : Option ℕ) (n : ℕ) (xs rest : List Lexeme) (column : Column) (flag : Bool) → 0 < n
    → column_at xs ≡ found (column, flag) rest → is_some (end_at rest) ≡ false → commas rest ≡ None
    → all_columns columns alias n xs ≡ None
columns_break columns alias n xs rest column flag some c end t =
    rw (first_column n xs rest (column, flag) some c, not_some (end_at rest) end, t) refl

-- why there is no comma is why nothing is declared
pub misses_comma : (miss : Miss) (columns : List Column) (alias : Option ℕ) (n : ℕ) (xs rest : List Lexeme) (column : Column) (flag : Bool) → 0 < n
    → column_at xs ≡ found (column, flag) rest → is_some (end_at rest) ≡ false → Misses miss (commas rest)
    → Misses miss (all_columns columns alias n xs)
misses_comma Unknown columns alias n xs rest column flag some c end t = columns_break columns alias n xs rest column flag some c end t
misses_comma Memory columns alias n xs rest column flag some c end t = tt

all_declared : (n : ℕ) (xs : List Lexeme) → all_columns [] None n xs ≡ (columns_at n xs >>= declaration_from)
all_declared n xs = go (columns_at n xs)
  where
    go : (m : Option (List Field)) → (m >>= joined [] None) ≡ (m >>= declaration_from)
    go None = refl
    go (Some fields) = joined_all fields

-- what a definition declares is what its columns declare
pub table_is : (xs create table name inside : List Lexeme) → after (is_word (codes "CREATE")) xs ≡ Some create → after (is_word (codes "TABLE")) create ≡ Some table
    → option_map (λ x. x.1) (name_at table) ≡ Some name → after (is_sign (codes "(")) name ≡ Some inside
    → table_at xs ≡ all_columns [] None (length inside) inside
unfolding table_at
table_is xs create table name inside a b c d = rw (a, b) (go (name_at table) c)
  where
    go : (m : Option (List ℕ × List Lexeme)) → option_map (λ x. x.1) m ≡ Some name
        → (m >>= λ found. (after (is_sign (codes "(")) found.1 >>= λ inside. (columns_at (length inside) inside >>= declaration_from)))
        ≡ all_columns [] None (length inside) inside
    go None h = absurd cc
    go (Some (word, rest)) h = let e : rest ≡ name = cc in rw (e, d) (sym (all_declared (length inside) inside))
