use Rattle.std.proofs.Common.{◌<◌, length, arith}
use Rattle.spe_check.specs.Verdicts.{narrowed, tables_among}
use Rattle.spe_check.proofs.VerdictLemmas.{tables_end}
use Rattle.spe_check.proofs.verdict.count_tables.Goals as goal

pub returns : goal.returns
returns c =
    let none : length c.rows.left.now < 1 = omega (arith, c.in_default.len_below) in
    tables_end c.rows.tables (narrowed (tables_among c.args.placed.now)) c.rows.left.now none c.rows.invariant.below c.rows.invariant.counted
