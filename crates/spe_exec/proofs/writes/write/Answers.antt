use Rattle.spe_exec.proofs.WritesLemmas.{blocked_means, named_likely, named_means, named_spares, unnamed_means}
use Rattle.spe_exec.proofs.writes.write.Goals as goal

pub returns-in-ReadOnly-clause-meaning : goal.returns-in-ReadOnly-clause-meaning
returns-in-ReadOnly-clause-meaning g c = blocked_means g.S.Pages c.args.space.now c.args.catalog.now c.args.kind c.args.statement.now c.requires.writes c.in-ReadOnly.is

pub returns-in-None-clause-meaning : goal.returns-in-None-clause-meaning
returns-in-None-clause-meaning g c =
    unnamed_means g.S.Pages c.args.space.now c.args.catalog.now c.args.kind c.args.statement.now c.table_name.result.now c.table_name.ensures c.in-None.ensures c.in-ReadWrite.is

pub returns-in-Some-clause-meaning : goal.returns-in-Some-clause-meaning
returns-in-Some-clause-meaning g c =
    named_means g.S.Pages c.args.space.now c.write_table.new.space c.args.catalog.now c.args.kind c.args.statement.now c.table_name.result.now c.in-Some.entry.now c.write_table.result
    c.table_name.ensures c.in-Some.ensures c.in-ReadWrite.is c.write_table.ensures.carries

pub returns-in-Some-clause-few : goal.returns-in-Some-clause-few
returns-in-Some-clause-few g c =
    named_spares g.S.Pages c.args.space.now c.write_table.new.space c.args.catalog.now c.args.statement.now c.table_name.result.now c.in-Some.entry.now c.write_table.result
    c.table_name.ensures c.in-Some.ensures c.write_table.ensures.carries

pub returns-in-Some-clause-likely : goal.returns-in-Some-clause-likely
returns-in-Some-clause-likely g c =
    named_likely g.S.Pages c.args.space.now c.write_table.new.space c.args.catalog.now c.args.statement.now c.table_name.result.now c.in-Some.entry.now c.write_table.result
    c.table_name.ensures c.in-Some.ensures c.write_table.ensures.carries
