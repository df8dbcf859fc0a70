use Rattle.std.proofs.Common.{ap}
use Rattle.spe_render.specs.Values.{table_text}
use Rattle.spe_render.proofs.PassesLemmas.{printed, whole_ok, whole_err, whole_counts}
use Rattle.spe_render.proofs.tables.print_table.Goals as goal

pub returns : goal.returns
returns g c =
    let gives = printed (ap table_text c.as_slice.ensures) c.put_table.ensures in record {
      ok = whole_ok c.new-printer.ensures gives c.finish.ensures;
      err = whole_err c.new-printer.ensures gives c.finish.ensures;
      counts = whole_counts c.new-printer.ensures gives c.finish.ensures;
    }
