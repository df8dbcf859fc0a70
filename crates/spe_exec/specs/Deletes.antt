-- Rows of an open table that a DELETE takes out.
use Rattle.std.specs.Prelude.{◌≡◌, ℤ, not, List, ◌++◌, filter, length, map}
use Rattle.spe_model.specs.declared.reply.Reply.{Reply}
use Rattle.spe_model.specs.declared.reply.Reply.TheVariants as replies
use Rattle.spe_model.specs.declared.statement.Cond.{Cond}
use Rattle.spe_model.specs.declared.table.TableDef.{TableDef}
use Rattle.spe_model.specs.Conditions.{chosen, is_chosen}
use Rattle.spe_model.specs.Database.{Row}
use Rattle.spe_search.specs.declared.pairs.Pair.{Pair}
use Rattle.spe_exec.specs.declared.deleting.Rowids.{Rowids}
use Rattle.spe_exec.specs.declared.deleting.Rowids.TheVariants.{Sound, Damage}
use Rattle.spe_exec.specs.Rows.{IsDamaged}

-- the rows that conditions do not choose, and how many they choose
abbrev pub deleted_by : List Cond → List Row → List Row × Reply
deleted_by conds rows = (filter (λ (r : Row). not (is_chosen conds r.0)) rows, replies.Changed (length (chosen conds rows)))

abbrev pub rowids_of : List Pair → List ℤ
rowids_of stored = map (λ (p : Pair). p.rowid) stored

-- the rowids of stored rows, or the leaf of one that is none of the table
abbrev pub AreRowids : TableDef → List Pair → Rowids → Type 0
AreRowids table stored (Sound rowids) = rowids.items ≡ rowids_of stored
AreRowids table stored (Damage leaf) = IsDamaged table stored leaf

-- in the loop: the rowids of those up to here
pub record IsListing (stored left : List Pair) (made : List ℤ) : Type 0 where
  pub done : List Pair
  pub split : stored ≡ done ++ left
  pub made_is : made ≡ rowids_of done
