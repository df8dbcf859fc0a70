use Rattle.std.proofs.Common.{sym, ◌∙◌}
use Rattle.spe_model.specs.Naming.{meant_by, is_nothing}
use Rattle.spe_model.specs.Statement.{cond_name, conds_of, columns_of}
use Rattle.spe_model.specs.Refusals.{has_unknown_name}
use Rattle.spe_slow.proofs.RefusedLemmas.{any_in_both}
use Rattle.spe_slow.proofs.refused.has_unknown_name.Goals as goal

pub returns-else-has_unknown_column : goal.returns-else-has_unknown_column
unfolding has_unknown_name
returns-else-has_unknown_column c =
    let s = c.args.statement.now in
    any_in_both (λ name. is_nothing (meant_by c.args.table.now name)) cond_name (columns_of s) (conds_of s) c.is_any_cond_unknown.result (sym c.has_unknown_column.ensures ∙ c.if-has_unknown_column.false)
    (rw c.conds_of.ensures at c.is_any_cond_unknown.ensures)
