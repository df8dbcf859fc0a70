use Rattle.spe_crash.proofs.FoundLemmas.{recovered_headed, quiet_whole}
use Rattle.spe_crash.proofs.pages.recovered_pages.Goals as goal

pub returns : goal.returns
returns c = record { headed = recovered_headed; whole = quiet_whole }
