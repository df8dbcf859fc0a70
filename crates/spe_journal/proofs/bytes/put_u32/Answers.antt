use Rattle.byteorder.specs.Endian.{big_bytes}
use Rattle.spe_journal.proofs.BytesLemmas.{put_at}
use Rattle.spe_journal.proofs.bytes.put_u32.Goals as goal

pub returns : goal.returns
returns c = put_at c.args.out.now c.write_u32.new.buf (big_bytes 4 c.args.number) c.args.at 4 c.requires c.write_u32.ensures
