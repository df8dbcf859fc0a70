use Rattle.spe_cut.proofs.StretchLemmas.{row_of_stretch, run_is_wider, stretch_becomes_run, stretch_of_run}
use Rattle.spe_cut.proofs.less.stretch_law.Goals as goal

pub returns : goal.returns
returns c = record { stretch = stretch_of_run; row = row_of_stretch; becomes = stretch_becomes_run; wider = run_is_wider }
