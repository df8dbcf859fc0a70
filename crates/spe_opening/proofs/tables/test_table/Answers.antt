use Rattle.spe_opening.proofs.TableLemmas.{table_tested, table_unread}
use Rattle.spe_opening.proofs.tables.test_table.Goals as goal

pub returns-in-Err-clause-tests : goal.returns-in-Err-clause-tests
returns-in-Err-clause-tests g c = table_unread (Unit {0}) g.S.Pages c.args.space.now c.height_below.new.space c.args.root c.in-Err.fault c.in-Err.ensures.found

pub returns-clause-tests : goal.returns-clause-tests
returns-clause-tests g c =
    table_tested g.S.Pages c.args.space.now c.height_below.new.space c.test_below.new.space c.args.root c.in-Ok.height c.test_below.result c.in-Ok.ensures.kept c.test_below.ensures.kept c.in-Ok.ensures.found c.test_below.ensures.tests
