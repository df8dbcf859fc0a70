use Rattle.std.proofs.Common.{◌∙◌, ℕ, rules}
use Rattle.spe_stored.specs.Sheets.{has_sheet}
use Rattle.spe_core.proofs.EnabledLemmas.{all_next}
use Rattle.spe_core.proofs.enabled.are_written.Goals as goal

pub loop-page-preserved : goal.loop-page-preserved
loop-page-preserved c =
    all_next (λ (p : ℕ). has_sheet p c.args.t.now.written) c.loop-page.page c.args.pages c.loop-page-test.true (search rules) ∙ c.loop-page.invariant
