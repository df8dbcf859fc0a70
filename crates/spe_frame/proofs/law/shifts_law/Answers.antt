use Rattle.spe_frame.proofs.StepLemmas.{reads_shift}
use Rattle.spe_frame.proofs.ShiftLemmas.{held_apart, held_none, shifts_alike, shifts_beside, shifts_both, shifts_none, spares_alike, spares_beside, spares_both, spares_more}
use Rattle.spe_frame.proofs.law.shifts_law.Goals as goal

pub returns : goal.returns
returns g c = record {
  idle = shifts_none g.S.Pages;
  reads = reads_shift g.S.Pages;
  both = shifts_both g.S.Pages;
  spares = spares_both g.S.Pages;
  beside = shifts_beside g.S.Pages;
  alike = shifts_alike g.S.Pages;
  spares_beside = spares_beside g.S.Pages;
  spares_alike = spares_alike g.S.Pages;
  spares_more = spares_more g.S.Pages;
  apart = held_apart g.S.Pages;
  none = held_none g.S.Pages;
}
