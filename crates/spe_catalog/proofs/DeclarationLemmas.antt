-- What fields declare, counted one after the other.
use Rattle.std.proofs.Common.{◌≡◌, ℕ, zero, suc, ◌+◌, List, [], ◌∷◌, ◌++◌, nat_le, if◌then◌else◌, true, false, Option, Some, None, length, map, refl, sym, ◌∙◌, ap, arith, append_assoc}
use Rattle.std.specs.List.{filter}
use Rattle.std.specs.Option.{option_map}
use Rattle.spe_model.specs.declared.table.Column.{Column}
use Rattle.spe_model.specs.declared.catalog.Declaration.{Declaration}
use Rattle.spe_model.specs.Definition.{Field, is_alias, place_of, declaration_from}
use Rattle.spe_catalog.specs.Columns.{joined}

abbrev columns_of : List Field → List Column
columns_of fields = map (λ (f : Field). f.0) fields

abbrev aliases : List Field → ℕ
aliases fields = length (filter is_alias fields)

abbrev declared : List Column → Option ℕ → Option Declaration
declared columns alias = Some (record { columns = columns; alias = alias })

append_none : (columns : List Column) → columns ≡ columns ++ []
append_none [] = refl
append_none (c ∷ cs) = ap (λ (x : List Column). c ∷ x) (append_none cs)

append_next : (columns : List Column) (c : Column) (others : List Column) → (columns ++ c ∷ []) ++ others ≡ columns ++ c ∷ others
append_next columns c others = append_assoc columns (c ∷ []) others

length_next : (columns : List Column) (c : Column) → length (columns ++ c ∷ []) ≡ suc (length columns)
length_next [] c = refl
length_next (d ∷ ds) c = ap suc (length_next ds c)

pub data Count (n : ℕ) : Type 0 where
  none : n ≡ 0 → Count n
  some : (m : ℕ) → n ≡ suc m → Count n

count : (n : ℕ) → Count n
count zero = none refl
count (suc n) = some n refl

-- behind the rowid's column
joined_alone : (columns : List Column) (place : ℕ) (fields : List Field) → aliases fields ≡ 0
    → joined columns (Some place) fields ≡ declared (columns ++ columns_of fields) (Some place)
joined_alone columns place [] e = rw (sym (append_none columns)) refl
joined_alone columns place ((c, true) ∷ fs) e = absurd (omega arith)
joined_alone columns place ((c, false) ∷ fs) e = joined_alone (columns ++ c ∷ []) place fs e ∙ rw (append_next columns c (columns_of fs)) refl

joined_twice : (columns : List Column) (place : ℕ) (fields : List Field) (m : ℕ) → aliases fields ≡ suc m → joined columns (Some place) fields ≡ None
joined_twice columns place [] m e = absurd (omega arith)
joined_twice columns place ((c, true) ∷ fs) m e = refl
joined_twice columns place ((c, false) ∷ fs) m e = joined_twice (columns ++ c ∷ []) place fs m e

abbrev placed : ℕ → Option ℕ → Option ℕ
placed n place = option_map (λ k. n + k) place

placed_next : (n : ℕ) (place : Option ℕ) → placed (suc n) place ≡ placed n (option_map suc place)
placed_next n None = refl
placed_next n (Some k) = ap (λ (x : ℕ). Some x) (omega arith)

-- at most one
few_zero : (n : ℕ) → n ≡ 0 → nat_le (suc n) 1 ≡ true
few_zero n e = rw e refl

few_more : (n m : ℕ) → n ≡ suc m → nat_le (suc n) 1 ≡ false
few_more n m e = grind arith

joined_from : (columns : List Column) (fields : List Field)
    → joined columns None fields
    ≡ (if nat_le (aliases fields) 1 then declared (columns ++ columns_of fields) (placed (length columns) (place_of is_alias fields)) else None)
joined_from columns [] = rw (sym (append_none columns)) refl
joined_from columns ((c, true) ∷ fs) = elim (count (aliases fs)) [
  | none e ↦
      joined_alone (columns ++ c ∷ []) (length columns) fs e
      ∙ rw (few_zero (aliases fs) e, append_next columns c (columns_of fs)) (ap (λ (n : ℕ). declared (columns ++ c ∷ columns_of fs) (Some n)) (omega arith))
  | some m e ↦ joined_twice (columns ++ c ∷ []) (length columns) fs m e ∙ rw (few_more (aliases fs) m e) refl
]
joined_from columns ((c, false) ∷ fs) =
    joined_from (columns ++ c ∷ []) fs
    ∙ rw (append_next columns c (columns_of fs), length_next columns c, placed_next (length columns) (place_of is_alias fs)) refl

placed_zero : (place : Option ℕ) → placed 0 place ≡ place
placed_zero None = refl
placed_zero (Some k) = ap (λ (x : ℕ). Some x) (omega arith)

pub joined_all : (fields : List Field) → joined [] None fields ≡ declaration_from fields
joined_all fields = joined_from [] fields ∙ rw (placed_zero (place_of is_alias fields)) refl
