use Rattle.spe_verdict.proofs.BoundLemmas.{free, rows, tables}
use Rattle.spe_verdict.proofs.law.bounds_law.Goals as goal

pub returns : goal.returns
returns c = record { tables = tables; rows = rows; free = free }
