-- What the store tells, and what is entered.
use Rattle.std.specs.Prelude.{ℕ, List, [], ◌∷◌, ◌++◌, ◌==◌, if◌then◌else◌}
use Rattle.spe_slotrule.specs.declared.parts.CommitEntry.{CommitEntry}
use Rattle.spe_slotrule.specs.declared.parts.IdPart.{IdPart}
use Rattle.spe_slotrule.specs.declared.parts.PageBytes.{PageBytes}
use Rattle.spe_slotrule.specs.declared.parts.PassRecord.{PassRecord}
use Rattle.spe_slotrule.specs.declared.parts.SessionPart.{SessionPart}
use Rattle.spe_slotrule.specs.declared.parts.StoppedCommit.{StoppedCommit}
use Rattle.spe_slotrule.specs.declared.parts.StorePart.{StorePart}
use Rattle.spe_slotrule.specs.Views.{no_record}
use Rattle.spe_slotrule.specs.Tells.{with_pages, written_by}
use Rattle.spe_slots.specs.declared.answer.What.{What}
use Rattle.spe_slots.specs.declared.answer.What.TheVariants.{Read, Journalled, Written, Undone}

module _ {E : Type 0} where
  -- a commit of the session, after that many operations, with the pages that its pass wrote
  abbrev pub entry : E → ℕ → StorePart E → SessionPart E → CommitEntry E
  entry log ops s p = record { log = log; ops = ops; session = p.number; written = written_by s p }

  abbrev pub stopped_entry : E → StorePart E → SessionPart E → StoppedCommit E
  stopped_entry log s p = record { log = log; session = p.number; written = written_by s p }

abbrev pub page_bytes : ℕ → List ℕ → PageBytes
page_bytes page bytes = record { page = page; bytes = bytes }

abbrev pub without_page : ℕ → List PageBytes → List PageBytes
without_page page [] = []
without_page page (x ∷ xs) = if page == x.page then without_page page xs else x ∷ without_page page xs

-- the record after a page was read, journalled, written or undone
abbrev pub listing : What → ℕ → List ℕ → PassRecord → PassRecord
listing Read page bytes r = record r { read = r.read ++ page_bytes page bytes ∷ [] }
listing Journalled page bytes r = record r { journalled = r.journalled ++ page_bytes page bytes ∷ [] }
listing Written page bytes r = record r { written = page_bytes page bytes ∷ without_page page r.written }
listing Undone page bytes r = record r { written = without_page page r.written }

abbrev pub cleared : IdPart → IdPart
cleared p = with_pages no_record p
