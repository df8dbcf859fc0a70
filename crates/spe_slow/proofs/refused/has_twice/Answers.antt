use Rattle.spe_model.specs.Assigned.{targets}
use Rattle.spe_slow.proofs.RefusedLemmas.{twice_found, twice_rest, twice_none}
use Rattle.spe_slow.proofs.refused.has_twice.Goals as goal

pub returns-then-comes_again : goal.returns-then-comes_again
returns-then-comes_again c =
    let within = rw c.target_count-count.ensures at c.loop-i-test.true in
    twice_found (targets c.args.table.now c.args.statement.now) c.loop-i.i _ within (cc) c.loop-i.invariant

pub loop-i-preserved : goal.loop-i-preserved
loop-i-preserved c =
    let within = rw c.target_count-count.ensures at c.loop-i-test.true in
    twice_rest (targets c.args.table.now c.args.statement.now) c.loop-i.i _ within (cc) c.loop-i.invariant

pub returns : goal.returns
returns c =
    let past = rw c.target_count-count.ensures at c.loop-i-test.false in
    twice_none (targets c.args.table.now c.args.statement.now) c.loop-i.i _ past c.loop-i.invariant
