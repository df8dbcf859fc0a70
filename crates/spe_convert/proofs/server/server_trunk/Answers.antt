use Rattle.std.proofs.Common.{◌≡◌, ◌≤◌, ◌∙◌, ◌-◌, ◌∷◌, List, ℕ, ap, arith, length, subst, sym}
use Rattle.spe_convert.specs.Reading.{usable_of}
use Rattle.spe_convert.specs.Trunk.{room}
use Rattle.spe_convert.proofs.StockLemmas.{leaves_fit, page_long}
use Rattle.spe_convert.proofs.server.server_trunk.Goals as goal

pub returns-clause-sized : goal.returns-clause-sized
returns-clause-sized g c =
    let found = c.args.found.now in
    let used = found.page_size - c.from.result in
    let same : used ≡ usable_of found = ap (λ r. found.page_size - r) c.from.ensures in
    let few : length c.leaves.result.now ≤ room (usable_of found) = subst (λ (ns : List ℕ). length ns ≤ room (usable_of found)) (sym c.leaves.ensures) c.requires.right.few in
    let fits = leaves_fit (usable_of found) (length c.leaves.result.now) (omega (arith, c.requires.limits.usable)) few in
    page_long used (c.next.result ∷ length c.leaves.result.now ∷ c.leaves.result.now) c.old_page.new.buf c.in_ok-bytes.bytes c.in_ok-bytes.ensures
    (omega (arith, same, fits)) (omega (arith, same, c.old_page.auto.buf, c.requires.size)) ∙ c.old_page.auto.buf ∙ c.requires.size
