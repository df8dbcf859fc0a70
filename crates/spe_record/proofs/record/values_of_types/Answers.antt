use Rattle.std.proofs.Common.{◌∙◌}
use Rattle.spe_model.specs.Serial.{types_at}
use Rattle.spe_record.specs.Answers.{values_at}
use Rattle.spe_record.proofs.CountedLemmas.{fails_is, texts_fail, texts_made}
use Rattle.spe_record.proofs.record.values_of_types.Goals as goal

pub returns-in-Err : goal.returns-in-Err
returns-in-Err c = fails_is c.in-Err.fault _ c.in-Err.ensures

pub values_from-requires : goal.values_from-requires
values_from-requires c = c.in-Ok.ensures.0

pub returns-in-Ok-values_from : goal.returns-in-Ok-values_from
returns-in-Ok-values_from c = texts_made _ (values_at (types_at c.args.types.now) c.args.body.now) c.new.result c.in-Ok.ensures.1 (c.new.ensures ∙ c.in-Ok-values_from.ensures.0) c.in-Ok-values_from.ensures.1

pub returns-in-Err-values_from : goal.returns-in-Err-values_from
returns-in-Err-values_from c = texts_fail c.in-Err-values_from.fault _ (values_at (types_at c.args.types.now) c.args.body.now) c.in-Ok.ensures.1 c.in-Err-values_from.ensures
