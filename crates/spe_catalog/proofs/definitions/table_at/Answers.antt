use Rattle.std.proofs.Common.{sym}
use Rattle.spe_catalog.proofs.ColumnsLemmas.{table_is}
use Rattle.spe_catalog.proofs.definitions.table_at.Goals as goal

pub returns : goal.returns
returns c =
    rw (table_is _ _ _ _ _ (sym c.in-Some.ensures.value) (sym c.in-Some-after_word.ensures.value) (sym c.in-Some-after_name.ensures) (sym c.in-Some-after_sign.ensures.value))
    c.columns.ensures
