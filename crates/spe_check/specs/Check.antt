-- The verdict over the pages of a space.
use Rattle.std.specs.Prelude.{◌≡◌, ℕ, take, Result, Ok, IfOk}
use Rattle.spe_model.specs.declared.header.Header.{Header}
use Rattle.spe_model.specs.declared.verdict.Verdict.{Verdict}
use Rattle.spe_model.specs.Header.{header_of}
use Rattle.spe_model.specs.Paging.{Paging, Agrees}
use Rattle.spe_model.specs.Verdict.{verdict_of}
use Rattle.spe_space.specs.Calls.{sight}
use Rattle.spe_space.specs.declared.fault.SpaceFault.{SpaceFault}
use Rattle.spe_space.specs.declared.pages.Pages.{Ghosts}

-- the verdict is that of all pages that agree with those that were given and begin with this header
abbrev pub GivesVerdict : {P : Type 0} (g : Ghosts P) (early late : P) (header : Header) (count : ℕ) → Result Verdict SpaceFault → Type 0
GivesVerdict g early late header count result =
    (pages : Paging) → Agrees pages (g.seen late) → header_of (take 100 (sight g early pages 1)) ≡ Ok header
    → IfOk result (λ verdict. verdict ≡ verdict_of (g.used early) count (sight g early pages))
