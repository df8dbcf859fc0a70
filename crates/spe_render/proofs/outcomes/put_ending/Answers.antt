use Rattle.std.proofs.Common.{ap, sym}
use Rattle.spe_render.specs.Outcomes.{ending_text}
use Rattle.spe_render.proofs.PassesLemmas.{printed, then}
use Rattle.spe_render.proofs.outcomes.put_ending.Goals as goal

pub returns-in-Busy : goal.returns-in-Busy
returns-in-Busy g c =
    printed (sym (ap ending_text c.in-Busy.is))
    (then (then c.put_number-in-Busy.ensures c.put_number-in-Busy-2.ensures) (then c.bytes.ensures c.put_word.ensures))

pub returns-in-Full : goal.returns-in-Full
returns-in-Full g c = printed (sym (ap ending_text c.in-Full.is)) (then c.put_number-in-Full.ensures c.put_number-in-Full-2.ensures)

pub returns-in-Fault : goal.returns-in-Fault
returns-in-Fault g c = printed (sym (ap ending_text c.in-Fault.is)) (then c.put_number-in-Fault.ensures c.put_cause.ensures)
