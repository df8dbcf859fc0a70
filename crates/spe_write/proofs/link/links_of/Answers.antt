use Rattle.std.proofs.Common.{◌∙◌}
use Rattle.spe_write.proofs.LinkLemmas.{links_is}
use Rattle.spe_write.proofs.link.links_of.Goals as goal

pub returns : goal.returns
returns c = c.div_ceil.ensures ∙ links_is c.args.usable c.args.bytes c.requires
