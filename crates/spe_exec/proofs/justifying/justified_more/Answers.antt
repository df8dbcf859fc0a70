use Rattle.spe_exec.proofs.JustifyingLemmas.{here, more, none, run_more}
use Rattle.spe_exec.proofs.justifying.justified_more.Goals as goal

pub returns : goal.returns
returns g c = record { none = none; more = more g.S.Pages; here = here g.S.Pages; run = run_more g.S.Pages }
