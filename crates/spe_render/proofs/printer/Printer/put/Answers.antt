use Rattle.std.proofs.Common.{rules}
use Rattle.spe_render.proofs.PassesLemmas.{put_failed}
use Rattle.spe_render.proofs.printer.Printer.put.Goals as goal

pub returns-then-is_err : goal.returns-then-is_err
returns-then-is_err g c = put_failed (search rules) (search rules) (search rules)
