-- The rows that conditions choose.
use Rattle.std.specs.Prelude.{ℤ, Bool, List, filter, int_lt, int_le}
use Rattle.std.specs.List.{list_all}
use Rattle.std.specs.Ordering.{int_eq}
use Rattle.spe_model.specs.declared.statement.Op.{Op}
use Rattle.spe_model.specs.declared.statement.Op.TheVariants.{Equal, Less, LessEqual, Greater, GreaterEqual}
use Rattle.spe_model.specs.declared.statement.Cond.{Cond}
use Rattle.spe_model.specs.Database.{Row}

abbrev pub compares : Op → ℤ → ℤ → Bool
compares Equal a b = int_eq a b
compares Less a b = int_lt a b
compares LessEqual a b = int_le a b
compares Greater a b = int_lt b a
compares GreaterEqual a b = int_le b a

abbrev pub meets : ℤ → Cond → Bool
meets rowid c = compares c.op rowid c.number

-- a rowid that meets all conditions
abbrev pub is_chosen : List Cond → ℤ → Bool
is_chosen conds rowid = list_all (meets rowid) conds

-- the rows with such rowids
abbrev pub chosen : List Cond → List Row → List Row
chosen conds rows = filter (λ r. is_chosen conds r.0) rows
