use Rattle.std.proofs.Common.{◌≡◌, ◌∙◌, ap, arith, length}
use Rattle.spe_model.specs.Paging.{Paging}
use Rattle.spe_convert.proofs.FrontLemmas.{front_long}
use Rattle.spe_convert.proofs.PlanLemmas.{front_made}
use Rattle.spe_convert.proofs.ReadLemmas.{where_map}
use Rattle.spe_convert.proofs.releasing.front_change.Goals as goal

pub returns-clause-made : goal.returns-clause-made
returns-clause-made g c =
    let found = c.args.found.now in
    let Q : Paging → Type 0 = λ pages. c.read_page.new.buf ≡ pages 1 in
    where_map (g.D.Disk.told c.args.disk.now) found Q _
    (λ pages is. front_made found.pages c.first_of-first.result c.count_of-count.result c.args.free.now c.read_page.new.buf c.in_ok-bytes.bytes pages c.first_of-first.ensures
    c.count_of-count.ensures c.in_ok-bytes.ensures is)
    c.in_ok-read_page.ensures.held

pub returns-clause-sized : goal.returns-clause-sized
returns-clause-sized g c =
    ap length c.in_ok-bytes.ensures
    ∙ front_long c.args.found.now.pages c.first_of-first.result c.count_of-count.result c.read_page.new.buf
    (omega (arith, c.read_page.auto.buf, c.requires.size, c.requires.limits.low)) ∙ c.read_page.auto.buf ∙ c.requires.size
