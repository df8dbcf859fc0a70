use Rattle.std.proofs.Common.{◌≡◌, true, codes, rules, arith}
use Rattle.std.proofs.lemmas.Grind.{common_steps}
use Rattle.spe_model.specs.Definition.{is_sign}
use Rattle.spe_parse.specs.Part.{parts_at, single, stands}
use Rattle.spe_parse.specs.Clause.{set_at}
use Rattle.spe_parse.specs.Read.{IsHaltOf}
use Rattle.spe_parse.proofs.EmptyLemmas.{no_set}
use Rattle.spe_parse.proofs.PartLemmas.{listing_begins, listing_turns, listing_halts, single_reads, single_halts}
use Rattle.spe_parse.proofs.clause.sets.Goals as goal

pub sets-init : goal.sets-init
sets-init c = rw c.new-found.ensures.items (listing_begins (is_sign (codes ",")) (single set_at) c.args.left.now)

pub sets-preserved : goal.sets-preserved
sets-preserved c =
    let goes : stands (is_sign (codes ",")) c.set.new.left ≡ true = grind (arith, common_steps) in
    rw (c.in_ok-push.ensures.items, c.pass.ensures)
    (listing_turns (is_sign (codes ",")) (single set_at) c.sets.found.items _ c.sets.left c.set.new.left _ c.sets.invariant
    (single_reads set_at c.sets.found.items c.sets.left c.set.new.left c.in_ok-set.field-0 c.in_ok-set.ensures.set)
    c.in_ok-set.ensures.shorter goes)

pub returns-in_err-set : goal.returns-in_err-set
returns-in_err-set c =
    let halts : IsHaltOf c.in_err-set.field-0.0 (parts_at (is_sign (codes ",")) (single set_at) c.args.left.now) =
    listing_halts (is_sign (codes ",")) (single set_at) c.sets.found.items c.sets.left _ c.in_err-set.field-0.0 no_set c.sets.invariant
    (single_halts set_at c.sets.found.items c.sets.left c.in_err-set.field-0.0 c.in_err-set.ensures.set) in
    search (rules, halts)
