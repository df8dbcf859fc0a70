use Rattle.std.proofs.Common.{◌∙◌, ap}
use Rattle.std.specs.Prelude.{is_some}
use Rattle.spe_core.specs.Enabled.{is_changed}
use Rattle.spe_stored.proofs.SheetsLemmas.{found_any, some_shown}
use Rattle.spe_core.proofs.live.Live.has_changed.Goals as goal

pub returns : goal.returns
returns c =
    c.is_some.ensures ∙ some_shown _ c.first_changed.result ∙ ap is_some c.first_changed.ensures
    ∙ found_any (is_changed c.args.self.now) c.args.self.now.journalled
