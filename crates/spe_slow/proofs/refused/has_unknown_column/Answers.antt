use Rattle.std.proofs.Common.{sym, ◌∙◌}
use Rattle.spe_model.specs.Naming.{meant_by, is_nothing}
use Rattle.spe_model.specs.Statement.{set_name}
use Rattle.spe_slow.proofs.RefusedLemmas.{any_mapped}
use Rattle.spe_slow.proofs.refused.has_unknown_column.Goals as goal

pub returns-in-Update : goal.returns-in-Update
returns-in-Update c =
    rw c.in-Update.is
    (c.is_any_set_unknown.ensures ∙ rw c.as_slice.ensures (sym (any_mapped (λ name. is_nothing (meant_by c.args.table.now name)) set_name c.in-Update.sets)))
