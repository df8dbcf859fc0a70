use Rattle.std.proofs.Common.{arith, rules}
use Rattle.spe_format.proofs.VarintLemmas.{reads_back, shortest, spelled_written}
use Rattle.spe_format.proofs.varint.put_varint.Goals as goal

pub returns-then-len-eq9-clause-reads_back : goal.returns-then-len-eq9-clause-reads_back
returns-then-len-eq9-clause-reads_back c =
    reads_back c.args.value c.varint_length-len.result c.varint_length-len.ensures.value c.varint_length-len.ensures.within.0 c.varint_length-len.ensures.within.1
    c.varint_length-len.ensures.fits (search rules)

pub returns-then-len-eq9-clause-shortest : goal.returns-then-len-eq9-clause-shortest
returns-then-len-eq9-clause-shortest c = shortest c.args.value c.varint_length-len.result c.varint_length-len.ensures.within.1 c.varint_length-len.ensures.least

pub returns-else-len-eq9-clause-reads_back : goal.returns-else-len-eq9-clause-reads_back
returns-else-len-eq9-clause-reads_back c =
    reads_back c.args.value c.varint_length-len.result c.varint_length-len.ensures.value c.varint_length-len.ensures.within.0 c.varint_length-len.ensures.within.1
    c.varint_length-len.ensures.fits (search rules)

pub returns-else-len-eq9-clause-shortest : goal.returns-else-len-eq9-clause-shortest
returns-else-len-eq9-clause-shortest c = shortest c.args.value c.varint_length-len.result c.varint_length-len.ensures.within.1 c.varint_length-len.ensures.least

pub returns-else-len-eq9-clause-bytes : goal.returns-else-len-eq9-clause-bytes
returns-else-len-eq9-clause-bytes c =
    spelled_written c.varint_length-len.result c.args.value _ c.args.out.now c.varint_length-len.ensures.value c.varint_length-len.ensures.within.0 (omega arith)
    c.told-out c.put_groups-else-len-eq9.ensures
