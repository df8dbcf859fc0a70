use Rattle.spe_format.proofs.WritableLemmas.{taken_writable}
use Rattle.spe_format.proofs.page.legal_is_writable.Goals as goal

pub returns : goal.returns
returns c = taken_writable c.args.page.now c.args.at c.args.usable c.args.cells.now c.requires.inside c.requires.legal
