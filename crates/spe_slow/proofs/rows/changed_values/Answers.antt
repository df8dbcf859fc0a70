use Rattle.std.proofs.Common.{◌∙◌}
use Rattle.std.proofs.lemmas.Iterator.{YieldsList-from_slice, YieldsList-from_zip}
use Rattle.std.proofs.lemmas.Iterator.Consumers.{YieldsList-end}
use Rattle.spe_slow.proofs.RowsLemmas.{changed_all}
use Rattle.spe_slow.proofs.rows.changed_values.Goals as goal

pub returns : goal.returns
returns c =
    let all = YieldsList-end {s = c.into_iter-new-iterator.result} (YieldsList-from_zip (YieldsList-from_slice c.args.given.now (cc)) (YieldsList-from_slice c.args.old.now (cc))) c.loop-new.yielded c.loop-new.new-iterator c.loop-new.yielded_by c.next.result c.next.new.self c.in-None.is c.next.ensures.steps in
    c.new.ensures ∙ c.loop-new.invariant ∙ changed_all c.args.given.now c.args.old.now c.loop-new.yielded all.0
