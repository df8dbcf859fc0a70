use Rattle.std.proofs.Common.{arith}
use Rattle.spe_cut.proofs.LegalLemmas.{legal_fits}
use Rattle.spe_cut.proofs.ShortLemmas.{small_of, small_take}
use Rattle.spe_cut.proofs.law.legal_fits.Goals as goal

pub returns : goal.returns
returns c =
    legal_fits c.args.usable c.args.page.now c.args.at c.args.cells.now
    (small_take c.args.usable c.args.page.now (small_of c.args.page.now (λ i. let fits = c.type_inv.page i in omega (arith, fits)))) c.requires
