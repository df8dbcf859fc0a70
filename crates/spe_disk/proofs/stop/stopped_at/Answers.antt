use Rattle.spe_disk.specs.Memory.{trace_of}
use Rattle.spe_disk.proofs.StopLemmas.{cut_is}
use Rattle.spe_disk.proofs.stop.stopped_at.Goals as goal

pub returns-clause-cut : goal.returns-clause-cut
returns-clause-cut c = cut_is (trace_of c.args.disk.now) c.args.ops c.args.bytes
