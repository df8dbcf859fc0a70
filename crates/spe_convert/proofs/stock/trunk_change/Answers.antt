use Rattle.std.proofs.Common.{◌≡◌, ◌∙◌, ◌-◌, ◌∷◌, ap, arith, length}
use Rattle.spe_model.specs.Paging.{Paging}
use Rattle.spe_convert.specs.Reading.{usable_of}
use Rattle.spe_convert.proofs.ReadLemmas.{where_map}
use Rattle.spe_convert.proofs.StockLemmas.{leaves_fit, page_long, trunk_made}
use Rattle.spe_convert.proofs.stock.trunk_change.Goals as goal

pub returns-clause-made : goal.returns-clause-made
returns-clause-made g c =
    let found = c.args.found.now in
    let used = found.page_size - c.from.result in
    let same : used ≡ usable_of found = ap (λ r. found.page_size - r) c.from.ensures in
    let Q : Paging → Type 0 = λ pages. c.read_page.new.buf ≡ pages c.args.page in
    where_map (g.D.Disk.told c.args.disk.now) found Q _
    (λ pages is. trunk_made (usable_of found) used c.args.page c.args.next c.args.leaves.now c.read_page.new.buf c.in_ok-bytes.bytes pages same c.in_ok-bytes.ensures is)
    c.in_ok-read_page.ensures.held

pub returns-clause-sized : goal.returns-clause-sized
returns-clause-sized g c =
    let found = c.args.found.now in
    let used = found.page_size - c.from.result in
    let same : used ≡ usable_of found = ap (λ r. found.page_size - r) c.from.ensures in
    let fits = leaves_fit (usable_of found) (length c.args.leaves.now) (omega (arith, c.requires.limits.usable)) c.requires.few in
    page_long used (c.args.next ∷ length c.args.leaves.now ∷ c.args.leaves.now) c.read_page.new.buf c.in_ok-bytes.bytes c.in_ok-bytes.ensures
    (omega (arith, same, fits)) (omega (arith, same, c.read_page.auto.buf, c.requires.size)) ∙ c.read_page.auto.buf ∙ c.requires.size
