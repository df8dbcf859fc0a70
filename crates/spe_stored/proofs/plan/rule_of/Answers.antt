use Rattle.std.proofs.Common.{ap, length, refl, rules}
use Rattle.spe_stored.proofs.PlanLemmas.{rule_is}
use Rattle.spe_stored.proofs.plan.rule_of.Goals as goal

pub returns : goal.returns
returns c =
    rule_is c.args.files.now c.args.pages _ _ _ _ _ _ (search rules) c.requires refl c.new-2.ensures.items c.new.ensures.empty c.in_ok-restore_all.ensures
    c.in_ok-cut_file.ensures c.in_ok-cut_journals.ensures (ap length c.bytes.ensures) (search rules)
