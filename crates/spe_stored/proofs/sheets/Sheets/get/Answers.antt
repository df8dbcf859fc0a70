use Rattle.std.proofs.Common.{◌∙◌, ap, Some}
use Rattle.spe_stored.specs.Sheets.{sheet_at}
use Rattle.spe_stored.proofs.SheetsLemmas.{lookup_is}
use Rattle.spe_stored.proofs.sheets.Sheets.get.Goals as goal

pub returns-in-Some : goal.returns-in-Some
returns-in-Some c =
    ap Some c.as_slice.ensures ∙ c.in-Some.ensures.value ∙ lookup_is c.args.page c.self.inside.map.entries ∙ ap (sheet_at c.args.page) c.self.view_is

pub returns-in-None : goal.returns-in-None
returns-in-None c = c.in-None.ensures.value ∙ lookup_is c.args.page c.self.inside.map.entries ∙ ap (sheet_at c.args.page) c.self.view_is
