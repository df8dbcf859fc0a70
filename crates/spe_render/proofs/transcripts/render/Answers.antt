use Rattle.std.proofs.Common.{ap}
use Rattle.spe_render.specs.Outcomes.{clients_text}
use Rattle.spe_render.proofs.PassesLemmas.{printed, whole_ok, whole_err, whole_counts}
use Rattle.spe_render.proofs.transcripts.render.Goals as goal

pub returns : goal.returns
returns g c =
    let gives = printed (ap (clients_text 1) c.as_slice.ensures) c.put_clients.ensures in record {
      ok = whole_ok c.new-printer.ensures gives c.finish.ensures;
      err = whole_err c.new-printer.ensures gives c.finish.ensures;
      counts = whole_counts c.new-printer.ensures gives c.finish.ensures;
    }
