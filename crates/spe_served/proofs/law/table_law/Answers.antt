use Rattle.spe_served.proofs.ChangeLemmas.{changes, one_tree}
use Rattle.spe_served.proofs.law.table_law.Goals as goal

pub returns : goal.returns
returns g c = record { table = λ lists. changes g.S.Pages (λ s. (g.met.S.Pages.bounded s).1) lists; one = one_tree }
