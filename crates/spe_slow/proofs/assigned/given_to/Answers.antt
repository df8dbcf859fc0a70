use Rattle.std.proofs.Common.{sym, ◌∙◌}
use Rattle.spe_model.specs.Assigned.{targets, given_values}
use Rattle.spe_slow.proofs.AssignedLemmas.{given_skip, given_hit, given_end}
use Rattle.spe_slow.proofs.assigned.given_to.Goals as goal

pub returns-then-goes_to : goal.returns-then-goes_to
returns-then-goes_to c =
    c.value_at.ensures
    ∙ sym (given_hit c.args.target (targets c.args.table.now c.args.statement.now) (given_values c.args.statement.now) c.loop-i.i (cc))
    ∙ c.loop-i.invariant

pub loop-i-preserved : goal.loop-i-preserved
loop-i-preserved c = given_skip c.args.target (targets c.args.table.now c.args.statement.now) (given_values c.args.statement.now) c.loop-i.i _ (cc) c.loop-i.invariant

pub returns : goal.returns
returns c =
    let past = rw c.value_count-i-end.ensures at c.loop-i-test.false in
    sym (given_end c.args.target (targets c.args.table.now c.args.statement.now) (given_values c.args.statement.now) c.loop-i.i past) ∙ c.loop-i.invariant
