use Rattle.spe_freelist.proofs.TrunkLemmas.{trunk_made}
use Rattle.spe_freelist.proofs.trunk.make_trunk.Goals as goal

pub returns-clause-trunk : goal.returns-clause-trunk
returns-clause-trunk c =
    trunk_made c.args.usable c.args.next c.args.count c.args.page.now c.put_u32.new.bytes c.put_u32-2.new.bytes c.put_zeros.new.bytes
    c.requires.room c.requires.within c.put_u32.ensures.small c.put_u32-2.ensures.small c.put_u32.ensures.bytes c.put_u32-2.ensures.bytes c.put_zeros.ensures.bytes
