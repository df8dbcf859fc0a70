use Rattle.std.proofs.Common.{◌∙◌, ap}
use Rattle.spe_stored.specs.Sheets.{without_sheet}
use Rattle.spe_stored.proofs.SheetsLemmas.{removed_is}
use Rattle.spe_stored.proofs.sheets.Sheets.remove.Goals as goal

pub returns : goal.returns
returns c = c.remove-bytes.ensures.entries ∙ removed_is c.args.page c.self.inside.map.entries c.self.invariant ∙ ap (without_sheet c.args.page) c.self.view_is
