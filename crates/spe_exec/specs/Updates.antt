-- What an UPDATE does to an open table, whatever the pages below a space are, as long as they agree with what was given and
-- are served.
use Rattle.std.specs.Prelude.{◌≡◌, ℕ, ◌+◌, false, List, [], ◌∷◌, Result, IfErr, IfOk}
use Rattle.spe_model.specs.declared.reply.Reply.{Reply}
use Rattle.spe_model.specs.declared.table.TableDef.{TableDef}
use Rattle.spe_model.specs.Database.{Row}
use Rattle.spe_model.specs.Length.{record_length}
use Rattle.spe_model.specs.Paging.{Paging}
use Rattle.spe_space.specs.declared.fault.TreeFault.{TreeFault}
use Rattle.spe_space.specs.declared.pages.Pages.{Ghosts}
use Rattle.spe_space.specs.Calls.{sight}
use Rattle.spe_space.specs.Front.{number_in}
use Rattle.spe_insert.specs.Insert.{most_pages}
use Rattle.spe_modify.specs.Row.{TableOf}
use Rattle.spe_modify.specs.Rows.{SparesRows}
use Rattle.spe_exec.specs.Inserts.{Gives, IsSound}

-- how many pages are handed out at most for rows that are written: for each 128, and those of its record's chain
abbrev pub pages_of_written : (usable : ℕ) → TableDef → List Row → ℕ
pages_of_written usable table [] = 0
pages_of_written usable table (r ∷ rs) = most_pages usable (record_length table.alias r.1) + pages_of_written usable table rs

-- The answer is that of what the table becomes; whatever it is, all that is in use apart from the table's tree stays, and so
-- many pages are handed out at most; and a fault is a sound one.
pub record CarriesRows {P : Type 0} (g : Ghosts P) (old new : P) (pages : Paging) (t : TableOf) (allocs : ℕ) (outcome : List Row × Reply) (result : Result Reply TreeFault) : Type 0 where
  pub given : IfOk result (Gives g new pages t outcome)
  pub few : SparesRows g old new pages t allocs
  pub likely : g.sealed old ≡ false → IfErr result (IsSound g old new (number_in (sight g new pages)))
