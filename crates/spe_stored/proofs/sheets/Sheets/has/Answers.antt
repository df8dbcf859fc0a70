use Rattle.std.proofs.Common.{◌∙◌, ap}
use Rattle.std.specs.Prelude.{is_some}
use Rattle.spe_stored.specs.Sheets.{has_sheet}
use Rattle.spe_stored.proofs.SheetsLemmas.{lookup_is}
use Rattle.spe_stored.proofs.sheets.Sheets.has.Goals as goal

pub returns : goal.returns
returns c = c.contains_key.ensures ∙ ap is_some (lookup_is c.args.page c.self.inside.map.entries) ∙ ap (has_sheet c.args.page) c.self.view_is
