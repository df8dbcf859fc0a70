use Rattle.std.proofs.Common.{◌∙◌}
use Rattle.spe_catalog.proofs.NamesLemmas.{found_is}
use Rattle.spe_catalog.proofs.names.NameSet.has.Goals as goal

pub returns : goal.returns
returns c =
    c.contains.ensures ∙ found_is c.self.inside.folded c.args.name.now _ _ _ c.as_str.ensures.value c.in_ok-sought.ensures.ok c.self.view_is
