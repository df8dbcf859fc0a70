use Rattle.spe_convert.proofs.RefusalLemmas.{front_alone}
use Rattle.spe_convert.proofs.preparing.counted_front.Goals as goal

pub returns-clause-changes : goal.returns-clause-changes
returns-clause-changes c =
    front_alone c.args.count c.args.page.now c.in_ok-bytes.bytes c.new-changes.result.items c.push.new.self.items c.new-2.result c.requires c.new-changes.ensures.items c.in_ok-push.ensures.items c.in_ok-bytes.ensures c.new-2.ensures
