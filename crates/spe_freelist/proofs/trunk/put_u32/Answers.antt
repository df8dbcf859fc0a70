use Rattle.byteorder.specs.Endian.{big_bytes}
use Rattle.spe_space.proofs.FrontLemmas.{put_at}
use Rattle.spe_freelist.proofs.trunk.put_u32.Goals as goal

pub returns-clause-bytes : goal.returns-clause-bytes
returns-clause-bytes c = put_at c.args.bytes.now c.write_u32.new.buf (big_bytes 4 c.args.number) c.args.at 4 c.requires c.write_u32.ensures
