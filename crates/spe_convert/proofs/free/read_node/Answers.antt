use Rattle.std.proofs.Common.{rules, ◌≡◌, subst}
use Rattle.std.specs.Prelude.{Option}
use Rattle.spe_model.specs.Paging.{Paging}
use Rattle.spe_model.specs.Trace.{History}
use Rattle.spe_convert.specs.Reading.{ReadsInto, WhereHeld, found_lists, usable_of}
use Rattle.spe_convert.proofs.ReadLemmas.{node_read, node_wrong, where_both, where_map}
use Rattle.spe_convert.proofs.free.read_node.Goals as goal

pub returns-then-not-is_list_count-clause-read : goal.returns-then-not-is_list_count-clause-read
returns-then-not-is_list_count-clause-read g c =
    let found = c.args.found.now in
    let Q : Paging → Type 0 = λ pages. c.read_page.new.buf ≡ pages c.args.node in
    where_map (g.D.Disk.told c.args.disk.now) found Q _
    (λ pages is. node_wrong (usable_of found) found.pages c.args.node c.u32_of-count.result c.read_page.new.buf c.args.free.now.items c.args.free.now.items pages c.u32_of-count.ensures (search rules) is)
    c.in_ok-read_page.ensures.held

pub returns-clause-read : goal.returns-clause-read
returns-clause-read g c =
    let found = c.args.found.now in
    let usable = usable_of found in
    let Q : Paging → Type 0 = λ pages. c.read_page.new.buf ≡ pages c.args.node in
    let R : Paging → Type 0 = λ pages. ReadsInto c.push.new.self.items c.read_lists.new.free.items c.read_lists.result (found_lists usable found.pages pages c.as_slice.result.now) in
    where_both (g.D.Disk.told c.args.disk.now) found Q R _
    (λ pages is read. node_read usable found.pages c.args.node c.u32_of-count.result c.read_page.new.buf c.args.free.now.items c.push.new.self.items c.read_lists.new.free.items c.as_slice.result.now
    c.read_lists.result pages (search rules) c.u32_of-count.ensures (search rules) (search rules) (search rules) is read)
    c.in_ok-read_page.ensures.held (subst (λ (t : Option History). WhereHeld t found R) c.in_ok-read_page.ensures.same c.read_lists.ensures.read)
