use Rattle.spe_record.proofs.LentLemmas.{judged_ok}
use Rattle.spe_record.proofs.fields.fields_of.Goals as goal

pub invariant_of-result : goal.invariant_of-result
invariant_of-result c = (judged_ok c.args.types.now c.args.body.now c.in-Some.seen c.in-Ok.count c.requires c.in-Some.ensures c.in-Ok.ensures).are
