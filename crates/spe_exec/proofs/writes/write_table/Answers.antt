use Rattle.std.proofs.Common.{◌∙◌, sym, ap}
use Rattle.spe_model.specs.declared.catalog.Entry.{Entry}
use Rattle.spe_slow.specs.Refused.{rowless_refusal}
use Rattle.spe_exec.proofs.WritesLemmas.{carries_table, open_table, refused_table}
use Rattle.spe_exec.proofs.writes.write_table.Goals as goal

pub returns-in-Some-clause-carries : goal.returns-in-Some-clause-carries
returns-in-Some-clause-carries g c = λ pages t agrees is same.
    refused_table g.S.Pages c.args.space.now pages t c.args.statement.now _ c.in-Some.refusal c.shifts_law.ensures.idle c.shifts_law.ensures.spares_more is
    (ap (λ (e : Entry). rowless_refusal e.table c.args.statement.now) same ∙ sym c.rowless_refusal.ensures ∙ c.in-Some.is)

pub returns-in-None-clause-carries : goal.returns-in-None-clause-carries
returns-in-None-clause-carries g c = λ pages t agrees is same.
    let none = sym c.rowless_refusal.ensures ∙ c.in-None.is in
    carries_table g.S.Pages c.args.space.now c.write_rows.new.space pages t c.args.statement.now _ c.write_rows.result (ap (λ (e : Entry). rowless_refusal e.table c.args.statement.now) same ∙ none)
    (c.write_rows.ensures.carries pages t agrees (open_table g.S.Pages c.args.space.now pages c.args.entry.now t c.args.statement.now is same none) same)
