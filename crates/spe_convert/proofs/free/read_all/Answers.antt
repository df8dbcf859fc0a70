use Rattle.std.proofs.Common.{rules, ◌≡◌, ◌+◌, subst}
use Rattle.std.specs.Prelude.{Option}
use Rattle.spe_model.specs.Paging.{Paging}
use Rattle.spe_model.specs.Trace.{History}
use Rattle.spe_convert.specs.Reading.{ReadsInto, WhereHeld, found_node, found_trunks, usable_of}
use Rattle.spe_convert.proofs.ReadLemmas.{all_node, all_stock, where_both}
use Rattle.spe_convert.proofs.free.read_all.Goals as goal

pub returns-then-names_node-clause-read : goal.returns-then-names_node-clause-read
returns-then-names_node-clause-read g c =
    let found = c.args.found.now in
    let usable = usable_of found in
    let Q : Paging → Type 0 = λ pages. c.read_page.new.buf ≡ pages 1 in
    let R : Paging → Type 0 = λ pages. ReadsInto c.args.free.now.items c.read_node.new.free.items c.read_node.result (found_node usable found.pages pages c.u32_of-first.result) in
    where_both (g.D.Disk.told c.args.disk.now) found Q R _
    (λ pages is read. all_node usable found.pages c.u32_of-first.result c.read_page.new.buf c.args.free.now.items c.read_node.new.free.items c.read_node.result pages (search rules) c.u32_of-first.ensures is read)
    c.in_ok-read_page.ensures.held (subst (λ (t : Option History). WhereHeld t found R) c.in_ok-read_page.ensures.same c.read_node.ensures.read)

pub returns-else-names_node-clause-read : goal.returns-else-names_node-clause-read
returns-else-names_node-clause-read g c =
    let found = c.args.found.now in
    let usable = usable_of found in
    let Q : Paging → Type 0 = λ pages. c.read_page.new.buf ≡ pages 1 in
    let R : Paging → Type 0 = λ pages. ReadsInto c.args.free.now.items c.read_trunks.new.free.items c.read_trunks.result (found_trunks usable found.pages pages (found.pages + 1) c.u32_of-first.result) in
    where_both (g.D.Disk.told c.args.disk.now) found Q R _
    (λ pages is read. all_stock usable found.pages c.u32_of-first.result c.read_page.new.buf c.args.free.now.items c.read_trunks.new.free.items c.read_trunks.result pages (search rules) c.u32_of-first.ensures is read)
    c.in_ok-read_page.ensures.held (subst (λ (t : Option History). WhereHeld t found R) c.in_ok-read_page.ensures.same c.read_trunks.ensures.read)
