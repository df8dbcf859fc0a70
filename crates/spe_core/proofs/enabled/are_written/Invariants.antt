use Rattle.std.proofs.Common.{◌≡◌, ◌+◌, ◌-◌, ℕ}
use Rattle.std.specs.List.{list_all}
use Rattle.spe_model.specs.Journal.{numbers_from}
use Rattle.spe_stored.specs.Sheets.{has_sheet}
use Rattle.spe_core.proofs.enabled.are_written.Given as goal

abbrev pub invariant-loop-page : goal.invariant-loop-page
invariant-loop-page l =
    list_all (λ (p : ℕ). has_sheet p l.t.written) (numbers_from (l.page + 1) (l.pages - l.page))
    ≡ list_all (λ (p : ℕ). has_sheet p l.t.written) (numbers_from (l.count + 1) (l.pages - l.count))

abbrev pub decreases-loop-page : goal.decreases-loop-page
decreases-loop-page l = l.pages - l.page
