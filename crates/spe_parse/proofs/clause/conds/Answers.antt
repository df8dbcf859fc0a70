use Rattle.std.proofs.Common.{◌≡◌, true, codes, rules, arith}
use Rattle.std.proofs.lemmas.Grind.{common_steps}
use Rattle.spe_model.specs.Definition.{is_word}
use Rattle.spe_parse.specs.Part.{parts_at, stands}
use Rattle.spe_parse.specs.Clause.{cond_at}
use Rattle.spe_parse.specs.Read.{IsHaltOf}
use Rattle.spe_parse.proofs.EmptyLemmas.{no_cond}
use Rattle.spe_parse.proofs.PartLemmas.{listing_begins, listing_turns, listing_halts}
use Rattle.spe_parse.proofs.clause.conds.Goals as goal

pub conds-init : goal.conds-init
conds-init c = rw c.new-found.ensures.items (listing_begins (is_word (codes "AND")) cond_at c.args.left.now)

pub conds-preserved : goal.conds-preserved
conds-preserved c =
    let goes : stands (is_word (codes "AND")) c.cond.new.left ≡ true = grind (arith, common_steps) in
    rw c.pass.ensures
    (listing_turns (is_word (codes "AND")) cond_at c.conds.found.items c.cond.new.found.items c.conds.left c.cond.new.left _ c.conds.invariant
    c.in_ok-cond.ensures.conds c.in_ok-cond.ensures.shorter goes)

pub returns-in_err-cond : goal.returns-in_err-cond
returns-in_err-cond c =
    let halts : IsHaltOf c.in_err-cond.field-0.0 (parts_at (is_word (codes "AND")) cond_at c.args.left.now) =
    listing_halts (is_word (codes "AND")) cond_at c.conds.found.items c.conds.left _ c.in_err-cond.field-0.0 no_cond c.conds.invariant c.in_err-cond.ensures.conds in
    search (rules, halts)
