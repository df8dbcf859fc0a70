use Rattle.std.proofs.Common.{sym, ◌∙◌}
use Rattle.spe_opening.proofs.TableLemmas.{entry_closed, entry_open}
use Rattle.spe_opening.proofs.tables.test_entry.Goals as goal

pub returns-then-is_closed-clause-tests : goal.returns-then-is_closed-clause-tests
returns-then-is_closed-clause-tests g c = entry_closed {X = Unit {0}} g.S.Pages c.args.space.now c.args.space.now c.args.entry.now tt (sym c.is_closed.ensures ∙ c.if-is_closed.true)

pub returns-clause-tests : goal.returns-clause-tests
returns-clause-tests g c = entry_open g.S.Pages c.args.space.now c.test_table.new.space c.args.entry.now c.test_table.result (sym c.is_closed.ensures ∙ c.if-is_closed.false) c.test_table.ensures.tests
