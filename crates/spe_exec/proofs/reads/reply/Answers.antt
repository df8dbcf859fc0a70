use Rattle.spe_space.specs.Calls.{sight}
use Rattle.spe_exec.proofs.ReadsLemmas.{run_named, run_unnamed}
use Rattle.spe_exec.proofs.AddsLemmas.{adds_statement}
use Rattle.spe_exec.proofs.MissesLemmas.{misses_statement}
use Rattle.spe_exec.proofs.reads.reply.Goals as goal

pub returns-in-Some-clause-meaning : goal.returns-in-Some-clause-meaning
returns-in-Some-clause-meaning g c = λ pages agrees count db stands.
    run_named (g.S.Pages.used c.args.space.now) count (sight g.S.Pages c.args.space.now pages) c.args.catalog.now db c.args.kind c.args.statement.now c.table_name.result.now c.in-Some.entry.now c.answer.result c.requires.reads
    c.table_name.ensures c.in-Some.ensures stands (λ rows holds. c.answer.ensures.answer pages agrees rows holds)

pub returns-in-None-clause-meaning : goal.returns-in-None-clause-meaning
returns-in-None-clause-meaning g c = λ pages agrees count db stands.
    run_unnamed (g.S.Pages.used c.args.space.now) count (sight g.S.Pages c.args.space.now pages) c.args.catalog.now db c.args.kind c.args.statement.now c.table_name.result.now c.requires.reads
    c.table_name.ensures c.in-None.ensures stands

pub returns-in-Some-clause-adds : goal.returns-in-Some-clause-adds
returns-in-Some-clause-adds g c = λ pages agrees count db stands n.
    adds_statement g.S.Pages c.args.space.now c.answer.new.space c.args.catalog.now c.args.statement.now c.table_name.result.now c.in-Some.entry.now c.table_name.ensures c.in-Some.ensures
    c.answer.ensures.adds pages agrees count db stands n

pub returns-in-Some-clause-page_out : goal.returns-in-Some-clause-page_out
returns-in-Some-clause-page_out g c = λ pages agrees count db stands.
    misses_statement g.S.Pages c.args.space.now c.answer.new.space c.args.catalog.now c.args.statement.now c.table_name.result.now c.in-Some.entry.now c.answer.result c.table_name.ensures c.in-Some.ensures
    c.answer.ensures.page_out pages agrees count db stands
