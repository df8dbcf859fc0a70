use Rattle.std.proofs.Common.{◌≡◌, true, codes, rules, arith}
use Rattle.std.proofs.lemmas.Grind.{common_steps}
use Rattle.spe_model.specs.Definition.{is_sign}
use Rattle.spe_parse.specs.Part.{parts_at, single, stands}
use Rattle.spe_parse.specs.Number.{literal_at}
use Rattle.spe_parse.specs.Read.{IsHaltOf}
use Rattle.spe_parse.proofs.EmptyLemmas.{no_literal}
use Rattle.spe_parse.proofs.PartLemmas.{listing_begins, listing_turns, listing_halts, single_reads, single_halts}
use Rattle.spe_parse.proofs.clause.literals.Goals as goal

pub literals-init : goal.literals-init
literals-init c = rw c.new-found.ensures.items (listing_begins (is_sign (codes ",")) (single literal_at) c.args.left.now)

pub literals-preserved : goal.literals-preserved
literals-preserved c =
    let goes : stands (is_sign (codes ",")) c.literal.new.left ≡ true = grind (arith, common_steps) in
    rw (c.in_ok-push.ensures.items, c.pass.ensures)
    (listing_turns (is_sign (codes ",")) (single literal_at) c.literals.found.items _ c.literals.left c.literal.new.left _ c.literals.invariant
    (single_reads literal_at c.literals.found.items c.literals.left c.literal.new.left c.in_ok-literal.field-0 c.in_ok-literal.ensures.literal)
    c.in_ok-literal.ensures.shorter goes)

pub returns-in_err-literal : goal.returns-in_err-literal
returns-in_err-literal c =
    let halts : IsHaltOf c.in_err-literal.field-0.0 (parts_at (is_sign (codes ",")) (single literal_at) c.args.left.now) =
    listing_halts (is_sign (codes ",")) (single literal_at) c.literals.found.items c.literals.left _ c.in_err-literal.field-0.0 no_literal c.literals.invariant
    (single_halts literal_at c.literals.found.items c.literals.left c.in_err-literal.field-0.0 c.in_err-literal.ensures.literal) in
    search (rules, halts)
