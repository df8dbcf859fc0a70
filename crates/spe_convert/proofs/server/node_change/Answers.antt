use Rattle.std.proofs.Common.{◌≡◌, ◌∙◌, ◌-◌, ◌∷◌, ap, arith, length}
use Rattle.spe_convert.specs.Reading.{usable_of}
use Rattle.spe_convert.proofs.StockLemmas.{page_long}
use Rattle.spe_convert.proofs.server.node_change.Goals as goal

pub returns-clause-sized : goal.returns-clause-sized
returns-clause-sized g c =
    let found = c.args.found.now in
    let used = found.page_size - c.from.result in
    let same : used ≡ usable_of found = ap (λ r. found.page_size - r) c.from.ensures in
    page_long used (length c.args.firsts.now ∷ c.args.firsts.now) c.old_page.new.buf c.in_ok-bytes.bytes c.in_ok-bytes.ensures
    (omega (arith, same, c.requires.few, c.requires.limits.usable)) (omega (arith, same, c.old_page.auto.buf, c.requires.size)) ∙ c.old_page.auto.buf ∙ c.requires.size
