use Rattle.std.proofs.Common.{ap}
use Rattle.spe_render.specs.Replies.{rows_reply}
use Rattle.spe_render.proofs.PassesLemmas.{printed, then}
use Rattle.spe_render.proofs.replies.put_counted_rows.Goals as goal

pub returns : goal.returns
returns g c = printed (ap rows_reply c.as_slice-shown.ensures) (then c.put_all_shown.ensures c.put_count.ensures)
