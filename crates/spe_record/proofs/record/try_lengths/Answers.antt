use Rattle.std.proofs.Common.{◌∙◌, sym}
use Rattle.spe_record.proofs.CountedLemmas.{lengths_none, lengths_say}
use Rattle.spe_record.proofs.record.try_lengths.Goals as goal

pub returns-in_default : goal.returns-in_default
returns-in_default c = lengths_none _ c.args.body.now (sym c.in_default.is ∙ c.seen_of.ensures)

pub returns-in-Ok : goal.returns-in-Ok
returns-in-Ok c = lengths_say _ c.args.body.now c.in-Some.seen _ c.requires (sym c.in-Some.is ∙ c.seen_of.ensures) (sym c.in-Ok.is ∙ c.judged.ensures)

pub returns-in-Err : goal.returns-in-Err
returns-in-Err c = lengths_say _ c.args.body.now c.in-Some.seen _ c.requires (sym c.in-Some.is ∙ c.seen_of.ensures) (sym c.in-Err.is ∙ c.judged.ensures)
