use Rattle.std.proofs.Common.{◌≡◌, true, codes, arith}
use Rattle.std.proofs.lemmas.Grind.{common_steps}
use Rattle.spe_model.specs.Definition.{is_sign}
use Rattle.spe_parse.specs.Part.{name_at, single, stands}
use Rattle.spe_parse.proofs.PartLemmas.{listing_begins, listing_turns, single_reads}
use Rattle.spe_parse.proofs.clause.names.Goals as goal

pub names-init : goal.names-init
names-init c = rw c.new-found.ensures.items (listing_begins (is_sign (codes ",")) (single name_at) c.args.left.now)

pub names-preserved : goal.names-preserved
names-preserved c =
    let goes : stands (is_sign (codes ",")) c.name.new.self ≡ true = grind (arith, common_steps) in
    rw (c.in_ok-push.ensures.items, c.pass.ensures)
    (listing_turns (is_sign (codes ",")) (single name_at) c.names.found.items _ c.names.left c.name.new.self _ c.names.invariant
    (single_reads name_at c.names.found.items c.names.left c.name.new.self c.in_ok-name.field-0 c.in_ok-name.ensures.name)
    c.in_ok-name.ensures.shorter goes)
