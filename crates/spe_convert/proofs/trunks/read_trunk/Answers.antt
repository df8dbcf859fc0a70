use Rattle.std.proofs.Common.{rules, ◌≡◌, Ok}
use Rattle.spe_model.specs.Paging.{Paging}
use Rattle.spe_convert.specs.Reading.{ReadsTrunk, usable_of}
use Rattle.spe_convert.proofs.ReadLemmas.{trunk_read, where_map}
use Rattle.spe_convert.proofs.trunks.read_trunk.Goals as goal

pub returns-clause-read : goal.returns-clause-read
returns-clause-read g c =
    let Q : Paging → Type 0 = λ pages. c.read_page.new.buf ≡ pages c.args.trunk in
    where_map (g.D.Disk.told c.args.disk.now) c.args.found.now Q
    (ReadsTrunk (usable_of c.args.found.now) c.args.found.now.pages c.args.trunk c.args.free.now.items c.keep_leaves.new.free.items (Ok c.u32_of.result))
    (λ pages is. trunk_read (usable_of c.args.found.now) c.args.found.now.pages c.args.trunk c.u32_of-leaves.result c.u32_of.result c.args.free.now.items c.push.new.self.items
    c.keep_leaves.new.free.items c.read_page.new.buf pages (search rules) c.u32_of-leaves.ensures (search rules) (search rules) (search rules) c.u32_of.ensures is)
    c.in_ok-read_page.ensures.held
