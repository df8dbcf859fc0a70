use Rattle.spe_exec.proofs.ReadsLemmas.{read_select, read_count}
use Rattle.spe_exec.proofs.AddsLemmas.{adds_conds, select_conds, count_conds}
use Rattle.spe_exec.proofs.MissesLemmas.{misses_conds}
use Rattle.spe_exec.proofs.reads.read_rows.Goals as goal

pub returns-in-Select-clause-answer : goal.returns-in-Select-clause-answer
returns-in-Select-clause-answer g c = λ pages agrees rows of.
    read_select c.args.entry.now.table rows c.args.statement.now c.in-Select.table c.in-Select.all c.in-Select.columns c.as_slice.result.now c.in-Select.conds c.as_slice-in-Select.result.now c.select.result
    c.in-Select.is c.as_slice.ensures c.as_slice-in-Select.ensures (c.select.ensures.answer pages agrees rows of)

pub returns-in-Count-clause-answer : goal.returns-in-Count-clause-answer
returns-in-Count-clause-answer g c = λ pages agrees rows of.
    read_count c.args.entry.now.table rows c.args.statement.now c.in-Count.table c.in-Count.conds c.as_slice-in-Count.result.now c.count.result
    c.in-Count.is c.as_slice-in-Count.ensures (c.count.ensures.answer pages agrees rows of)

pub returns-in-Select-clause-adds : goal.returns-in-Select-clause-adds
returns-in-Select-clause-adds g c = λ pages agrees rows of.
    adds_conds g.S.Pages c.args.space.now c.select.new.space c.args.entry.now c.as_slice-in-Select.result.now _
    (select_conds c.args.statement.now c.in-Select.table c.in-Select.all c.in-Select.columns c.in-Select.conds c.as_slice-in-Select.result.now c.in-Select.is c.as_slice-in-Select.ensures)
    c.select.ensures.adds pages agrees rows of

pub returns-in-Count-clause-adds : goal.returns-in-Count-clause-adds
returns-in-Count-clause-adds g c = λ pages agrees rows of.
    adds_conds g.S.Pages c.args.space.now c.count.new.space c.args.entry.now c.as_slice-in-Count.result.now _
    (count_conds c.args.statement.now c.in-Count.table c.in-Count.conds c.as_slice-in-Count.result.now c.in-Count.is c.as_slice-in-Count.ensures) c.count.ensures.adds pages agrees rows of

pub returns-in-Select-clause-page_out : goal.returns-in-Select-clause-page_out
returns-in-Select-clause-page_out g c = λ pages agrees rows of.
    misses_conds g.S.Pages c.args.space.now c.select.new.space c.args.entry.now c.as_slice-in-Select.result.now _ c.select.result
    (select_conds c.args.statement.now c.in-Select.table c.in-Select.all c.in-Select.columns c.in-Select.conds c.as_slice-in-Select.result.now c.in-Select.is c.as_slice-in-Select.ensures)
    c.select.ensures.page_out pages agrees rows of

pub returns-in-Count-clause-page_out : goal.returns-in-Count-clause-page_out
returns-in-Count-clause-page_out g c = λ pages agrees rows of.
    misses_conds g.S.Pages c.args.space.now c.count.new.space c.args.entry.now c.as_slice-in-Count.result.now _ c.count.result
    (count_conds c.args.statement.now c.in-Count.table c.in-Count.conds c.as_slice-in-Count.result.now c.in-Count.is c.as_slice-in-Count.ensures) c.count.ensures.page_out pages agrees rows of
