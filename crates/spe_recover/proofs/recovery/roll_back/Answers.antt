use Rattle.std.proofs.Common.{refl, subst, ℕ, sym}
use Rattle.spe_recover.specs.Recovered.{AreHotBits}
use Rattle.spe_disk.specs.Added.{IfTold}
use Rattle.spe_recover.proofs.RecoveredLemmas.{found_rolled}
use Rattle.spe_recover.proofs.recovery.roll_back.Goals as goal

pub returns-clause-rolled : goal.returns-clause-rolled
returns-clause-rolled g c =
    rw c.recovered_of.ensures.rolled
    (found_rolled (g.D.Disk.told c.args.disk.now) c.args.survey.now.page_size c.find_rolled-rolled.result c.args.heads.now c.args.survey.now c.args.holders.now refl c.find_rolled-rolled.ensures.rolled
    c.requires.heads c.requires.ready)
