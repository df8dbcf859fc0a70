use Rattle.std.proofs.Common.{rules, ◌≡◌, subst}
use Rattle.std.specs.Prelude.{Option}
use Rattle.spe_model.specs.Paging.{Paging}
use Rattle.spe_model.specs.Trace.{History}
use Rattle.spe_convert.specs.Reading.{WhereHeld}
use Rattle.spe_convert.proofs.ReadLemmas.{where_both, where_map}
use Rattle.spe_convert.proofs.RefusalLemmas.{refused_lists, refused_outside, refused_prepared}
use Rattle.spe_convert.proofs.preparing.refuse_server.Goals as goal

pub returns-then-not-is_one_of-clause-refused : goal.returns-then-not-is_one_of-clause-refused
returns-then-not-is_one_of-clause-refused g c =
    let found = c.args.found.now in
    let Q : Paging → Type 0 = λ pages. c.read_page.new.buf ≡ pages 1 in
    where_map (g.D.Disk.told c.args.disk.now) found Q _
    (λ pages read. refused_outside (Unit {0}) found c.u32_of-node.result c.names_node.result c.is_one_of.result c.read_page.new.buf pages c.names_node.ensures (search rules) c.u32_of-node.ensures c.is_one_of.ensures
    (search rules) read)
    c.in_ok-read_page.ensures.held

pub returns-then-not-is_list_count-clause-refused : goal.returns-then-not-is_list_count-clause-refused
returns-then-not-is_list_count-clause-refused g c =
    let found = c.args.found.now in
    let Q : Paging → Type 0 = λ pages. c.read_page.new.buf ≡ pages 1 in
    let R : Paging → Type 0 = λ pages. c.read_page-2.new.buf ≡ pages c.u32_of-node.result in
    where_both (g.D.Disk.told c.args.disk.now) found Q R _
    (λ pages read next. refused_lists (Unit {0}) found c.u32_of-node.result c.u32_of-lists.result c.names_node.result c.is_one_of.result c.is_list_count.result c.read_page.new.buf c.read_page-2.new.buf pages
    c.names_node.ensures (search rules) c.u32_of-node.ensures c.is_one_of.ensures (search rules) c.u32_of-lists.ensures c.is_list_count.ensures (search rules) read next)
    c.in_ok-read_page.ensures.held (subst (λ (t : Option History). WhereHeld t found R) c.in_ok-read_page.ensures.same c.in_ok-read_page-2.ensures.held)

pub returns-clause-refused : goal.returns-clause-refused
returns-clause-refused g c =
    let found = c.args.found.now in
    let Q : Paging → Type 0 = λ pages. c.read_page.new.buf ≡ pages 1 in
    let R : Paging → Type 0 = λ pages. c.read_page-2.new.buf ≡ pages c.u32_of-node.result in
    where_both (g.D.Disk.told c.args.disk.now) found Q R _
    (λ pages read next. refused_prepared (Unit {0}) found c.u32_of-node.result c.u32_of-lists.result c.names_node.result c.is_one_of.result c.is_list_count.result c.read_page.new.buf c.read_page-2.new.buf pages
    c.names_node.ensures (search rules) c.u32_of-node.ensures c.is_one_of.ensures (search rules) c.u32_of-lists.ensures c.is_list_count.ensures (search rules) read next)
    c.in_ok-read_page.ensures.held (subst (λ (t : Option History). WhereHeld t found R) c.in_ok-read_page.ensures.same c.in_ok-read_page-2.ensures.held)
