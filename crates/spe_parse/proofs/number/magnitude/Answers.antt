use Rattle.spe_parse.proofs.NumberLemmas.{not_fitting}
use Rattle.spe_parse.proofs.number.magnitude.Goals as goal

pub returns-in-Err : goal.returns-in-Err
returns-in-Err c = not_fitting c.args.digits.now c.in-Err.field-0 c.requires c.in-Err.ensures.value.0
