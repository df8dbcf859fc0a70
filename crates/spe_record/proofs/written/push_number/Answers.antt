use Rattle.std.proofs.Common.{sym, ◌∙◌}
use Rattle.spe_record.proofs.written.push_number.Goals as goal

pub returns-clause-spelled : goal.returns-clause-spelled
returns-clause-spelled c = record {
  reads = λ rest. rw c.put_varint-len.ensures.len at c.put_varint-len.ensures.reads_back rest;
  long = sym c.put_varint-len.ensures.len ∙ c.put_varint-len.ensures.least;
}
