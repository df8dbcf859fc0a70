use Rattle.spe_catalog.proofs.StandingLemmas.{catalog_asks}
use Rattle.spe_catalog.proofs.reader.read_catalog.Goals as goal

pub returns-clause-inside : goal.returns-clause-inside
returns-clause-inside g c = catalog_asks g.S.Pages c.args.space.now c.catalog_in.new.space c.catalog_in.result c.catalog_in.ensures.page_out
